-- A number's text: digits with no zero in front, which `from_str_radix` reads.
use Rattle.std.proofs.Common.{◌≡◌, ◌≢◌, ℕ, zero, suc, ◌+◌, ◌<◌, ◌≤◌, List, length, get_or, Ok, Err, decimal, Result, sym, ap, ◌∙◌, subst, arith}
use Rattle.std.specs.Int.{IsInRange}
use Rattle.std.specs.Char.{digit_value}
use Rattle.std.specs.Result.{result_ok}
use Rattle.std.specs.Str.{IsUtf8}
use Rattle.std.specs.Str.Parse.{AllDigits, ParsesUnsigned, digits_value}
use Rattle.std.proofs.lemmas.Str.{IsUtf8-from_ascii}
use Rattle.std.proofs.lemmas.Str.Parse.{IsNumeralModel, numerals_by_value, tells_digits, digit_at, not_in_digits, parse_plain}
use Rattle.std.proofs.lemmas.Fmt.{decimal_digit, decimal_nonempty, first_decimal, digits_decimal, decimal-digits_value, parse-decimal, IsAscii-decimal}
use Rattle.netlist.specs.Texts.{Below, Lacks, Reads}

own : IsNumeralModel (AllDigits 10) (digits_value 10)
own = numerals_by_value (AllDigits 10) tells_digits

-- the value of the digit d is d
pub value_of_digit : (c d : ℕ) → c ≡ 48 + d → d < 10 → digit_value c ≡ d
value_of_digit c d e l = grind arith

-- only digits stand in a number's text
pub decimal_lacks : (c n : ℕ) → Below 32 n → (IsInRange 48 57 c → ⊥) → Lacks c (decimal n)
decimal_lacks c n l out = not_in_digits own (decimal n) c (digits_decimal own n (omega arith)) out

-- what every number's text has
pub record Text (bs : List ℕ) : Type 0 where
  pub some : 0 < length bs
  pub first : IsInRange 48 57 (get_or bs 0 0)
  pub front : get_or bs 0 0 ≡ 48 → length bs ≡ 1
  pub utf8 : IsUtf8 bs

one_long : (n : ℕ) → Below 32 n → get_or (decimal n) 0 0 ≡ 48 → length (decimal n) ≡ 1
one_long zero l e = ap length (decimal_digit 0 (omega arith))
one_long (suc n) l e = absurd (omega (arith, first_decimal (suc n) (omega arith) (omega arith)))

pub text_of : (bs : List ℕ) (n : ℕ) → Below 32 n → bs ≡ decimal n → Text bs
text_of bs n l e =
    let some = decimal_nonempty n (omega arith) in
    subst Text (sym e)
    (record { some = some; first = digit_at (decimal n) 0 (digits_decimal own n (omega arith)) some; front = one_long n l; utf8 = IsUtf8-from_ascii (decimal n) (IsAscii-decimal n (omega arith)) })

-- what `from_str_radix` answers for a text with no sign and no zero in front
pub parsed : {E : Type 0} (bs : List ℕ) (r : Result ℕ E) → ParsesUnsigned 32 10 bs r → get_or bs 0 0 ≢ 43 → (get_or bs 0 0 ≡ 48 → length bs ≤ 1) → Reads (Below 32) decimal bs (result_ok r)
parsed {E} bs (Ok x) h sign front =
    let p = parse_plain own {E = E} 32 bs (Ok x) h sign in
    (omega (arith, p.0.2, p.1), sym (decimal-digits_value own bs p.0.0 p.0.1 (λ z. omega (arith, front z, p.0.1)) (omega (arith, p.0.2))) ∙ ap decimal (sym p.1))
parsed {E} bs (Err e) h sign front = λ n l eq. let bad : ◌≡◌ {A = Result ℕ E} (Err e) (Ok n) = parse-decimal 32 n bs (Err e) l (omega arith) eq h in cc
