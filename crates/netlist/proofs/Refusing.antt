-- How a refusal of a line goes up, and what it says.
use Rattle.std.proofs.Common.{◌≡◌, ℕ, List, [], ◌∷◌, IsErrAnd, Some, None, Ok, Err, Option, Result, sym, refl, ◌∙◌, subst, MatchOption, MatchResult, ◌≢◌}
use Rattle.std.specs.Option.{ok_or}
use Rattle.netlist.specs.declared.KindName.{KindName}
use Rattle.netlist.specs.declared.KindName.TheVariants.{Late, Contact, Early}
use Rattle.netlist.specs.declared.Wire.{Wire}
use Rattle.netlist.specs.Texts.{Exactly, PlaceInRange, place_text}
use Rattle.netlist.specs.Forms.{lead_form}
use Rattle.netlist.specs.declared.Expected.{Expected}
use Rattle.std.specs.Borrow.{Bor}
use Rattle.std.proofs.lemmas.Option.{MatchOption-at_none}
use Rattle.netlist.specs.Outcomes.{Needed, Meets, Wrong}

-- the error of an `ok_or` and a `?`
pub passed_on : {T U E : Type 0} (P : U → Type 0) (o : Option T) (e x : E) (r : Result U E) (Q : E → Type 0) → ◌≡◌ {A = Result T E} (Err x) (ok_or o e) → IsErrAnd r (λ y. y ≡ x) → Q e → MatchResult r P Q
passed_on P o e x (Ok u) Q h k q = absurd k
passed_on P None e x (Err y) Q h k q = let same : e ≡ y = cc in subst Q same q
passed_on P (Some t) e x (Err y) Q h k q = cc

-- the next line is missing, or no fit value's text
pub unread : {A : Type 0} (Fit : A → Type 0) (text : A → List ℕ) (e : Expected) (o : Option (Bor (List ℕ))) (r : Option A) (rest more : List (List ℕ)) → Needed e → ((line : List ℕ) → ((x : A) → Fit x → line ≢ text x) → Meets e line → ⊥) → MatchOption o ((rest ≡ []) × (more ≡ [])) (λ l. rest ≡ l.now ∷ more) → MatchOption o (r ≡ None) (λ l. Exactly Fit text l.now r) → r ≡ None → Wrong e rest
unread Fit text e None r rest more needed bad next read none = subst (Wrong e) (sym next.0) needed
unread Fit text e (Some l) r rest more needed bad next read none =
    subst (Wrong e) (sym next) (bad l.now (MatchOption-at_none _ _ none read.gives))

-- kinds that read no contacts have one form of a lead
early_place : (p : Option Wire) → PlaceInRange Late p → PlaceInRange Early p
early_place None s = tt
early_place (Some w) s = record { tail = s.tail; head = s.head; picoseconds = s.picoseconds; contacts = s.contacts }

pub late_place : (p : Option Wire) → PlaceInRange Early p → PlaceInRange Late p
late_place None s = tt
late_place (Some w) s = record { tail = s.tail; head = s.head; picoseconds = s.picoseconds; contacts = s.contacts }

pub plain_text : (p : Option Wire) → place_text Late p ≡ place_text Early p
plain_text None = refl
plain_text (Some w) = refl

pub no_place : (k : KindName) (line : List ℕ) → ((p : Option Wire) → PlaceInRange k p → line ≡ place_text k p → ⊥) → Meets (lead_form k) line → ⊥
no_place Late line h m = h m.0 m.1 m.2
no_place Contact line h m = h m.0 m.1 m.2
no_place Early line h m = h m.0 (early_place m.0 m.1) (m.2 ∙ plain_text m.0)
