-- What each part of a wiring is as text, and what it is to read one back.
use Rattle.std.specs.Prelude.{◌≡◌, ℕ, ◌^◌, ◌<◌, List, ◌∷◌, ◌++◌, length, IfSome, Some, None, codes, decimal, Option, MatchOption, ◌≢◌, slice_index}
use Rattle.netlist.specs.declared.KindName.{KindName}
use Rattle.netlist.specs.declared.KindName.TheVariants.{Late, Contact, Early}
use Rattle.netlist.specs.declared.Wire.{Wire}

-- r is the value whose text bs is, and nothing where bs is the text of no fit value
abbrev pub Reads : {A : Type 0} → (A → Type 0) → (A → List ℕ) → List ℕ → Option A → Type 0
Reads {A} Fit text bs r = MatchOption r ((x : A) → Fit x → bs ≢ text x) (λ x. Fit x × (bs ≡ text x))

-- the same, and each fit value's text reads as that value
pub record Exactly {A : Type 0} (Fit : A → Type 0) (text : A → List ℕ) (bs : List ℕ) (r : Option A) : Type 0 where
  pub gives : Reads Fit text bs r
  pub back : (x : A) → Fit x → bs ≡ text x → r ≡ Some x

-- no byte of bs is c
abbrev pub Lacks : ℕ → List ℕ → Type 0
Lacks c bs = (i : ℕ) → i < length bs → slice_index bs i ≢ c

-- front and back stand before and after the first c of bs
pub record Splits (c : ℕ) (bs front back : List ℕ) : Type 0 where
  pub whole : bs ≡ front ++ (c ∷ back)
  pub first : Lacks c front

-- n fits a number of so many bits
abbrev pub Below : ℕ → ℕ → Type 0
Below bits n = n < 2 ^ bits

-- every value is fit
abbrev pub Any : {A : Type 0} → A → Type 0
Any _ = Unit {0}

-- the name of a kind
abbrev pub kind_text : KindName → List ℕ
kind_text Late = codes "late"
kind_text Contact = codes "contact"
kind_text Early = codes "early"

-- what stands after the colon of a lead
abbrev pub delay_text : KindName → ℕ × ℕ → List ℕ
delay_text Late d = decimal d.0
delay_text Contact d = decimal d.0 ++ (47 ∷ decimal d.1)
delay_text Early d = decimal d.0

-- a lead, as tail-head:delay
abbrev pub wire_text : KindName → Wire → List ℕ
wire_text k w = decimal w.tail ++ (45 ∷ (decimal w.head ++ (58 ∷ delay_text k (w.picoseconds, w.contacts))))

-- a lead, or a dash at a vacant place
abbrev pub place_text : KindName → Option Wire → List ℕ
place_text k None = codes "-"
place_text k (Some w) = wire_text k w

-- only the kind `contact` reads contacts
abbrev pub Counted : KindName → ℕ → Type 0
Counted Late c = c ≡ 0
Counted Contact c = Below 8 c
Counted Early c = c ≡ 0

-- the delay and the contacts are in range
abbrev pub Timed : KindName → ℕ × ℕ → Type 0
Timed k d = Below 32 d.0 × Counted k d.1

-- the numbers of a lead are in range
pub record InRange (k : KindName) (w : Wire) : Type 0 where
  pub tail : Below 32 w.tail
  pub head : Below 32 w.head
  pub picoseconds : Below 32 w.picoseconds
  pub contacts : Counted k w.contacts

-- the same of a place, where a lead stands at it
abbrev pub PlaceInRange : KindName → Option Wire → Type 0
PlaceInRange k p = IfSome p (InRange k)
