use Rattle.std.proofs.Common.{◌≡◌, List, ℕ, None, decimal, arith}
use Rattle.std.proofs.lemmas.Grind.{common_steps}
use Rattle.netlist.specs.Texts.{Exactly, Below}
use Rattle.netlist.proofs.Numbers.{Text, text_of, parsed}
use Rattle.netlist.proofs.Unique.{exact_number}
use Rattle.netlist.proofs.fields.read_number.Goals as goal

no_number : (bs : List ℕ) → (Text bs → ⊥) → Exactly (Below 32) decimal bs None
no_number bs out = exact_number bs None (λ n l e. out (text_of bs n l e))

pub returns-in_err-first : goal.returns-in_err-first
returns-in_err-first c =
    rw c.from_residual.ensures (no_number c.args.text.now (λ t. omega (arith, c.in_err-first.ensures.item.3)))

pub returns-then-first-eq43 : goal.returns-then-first-eq43
returns-then-first-eq43 c = no_number c.args.text.now (λ t. omega (arith, c.in_ok-first.ensures.item.3.1 0))

pub returns-then-text-gt1 : goal.returns-then-text-gt1
returns-then-text-gt1 c = no_number c.args.text.now (λ t. omega (arith, c.in_ok-first.ensures.item.3.1 0))

pub returns-in_err-text : goal.returns-in_err-text
returns-in_err-text c =
    rw c.from_residual-in_err-text.ensures
    (no_number c.args.text.now (λ t. grind (arith, common_steps, c.from_utf8.ensures.cases, c.in_err-text.ensures.value)))

pub returns : goal.returns
returns c =
    let first = c.in_ok-first.ensures.item.3.1 0 in
    let zero = c.else-first-eq48.either in
    let same : c.in_ok-text.text.now ≡ c.args.text.now = grind (arith, common_steps, c.in_ok-text.ensures.value, c.from_utf8.ensures.cases) in
    exact_number c.args.text.now _ (rw c.ok-2.ensures.value (parsed c.args.text.now c.from_str_radix.result (rw same at c.from_str_radix.ensures.value) (λ h. omega arith) (λ h. omega arith)))
