-- A text is of one netlist at most, and one that is of a netlist is refused at no line.
use Rattle.std.proofs.Common.{◌≡◌, ℕ, List, [], ◌∷◌, ◌++◌, map, length, Some, None, Ok, Err, vec_items, decimal, Option, Result, sym, refl, ap, ◌∙◌, subst, arith, MatchResult}
use Rattle.std.specs.List.{AllByRecursion}
use Rattle.std.proofs.lemmas.Fmt.{decimal_injective, decimal_nonempty}
use Rattle.std.proofs.lemmas.List.{length-append}
use Rattle.netlist.specs.declared.KindName.{KindName}
use Rattle.netlist.specs.declared.KindName.TheVariants.{Late, Contact, Early}
use Rattle.netlist.specs.declared.Wire.{Wire}
use Rattle.netlist.specs.declared.Netlist.{Netlist}
use Rattle.netlist.specs.declared.Expected.{Expected}
use Rattle.netlist.specs.declared.Expected.TheVariants.{Kind, Nodes}
use Rattle.netlist.specs.declared.ReadError.{ReadError}
use Rattle.netlist.specs.declared.ReadError.TheVariants.{Line, NoMemory}
use Rattle.netlist.specs.Texts.{Reads, Exactly, Below, InRange, PlaceInRange, Timed, kind_text, delay_text, wire_text, place_text}
use Rattle.netlist.specs.Forms.{lead_form}
use Rattle.netlist.specs.Outcomes.{Written, NotRead, Due, none, kind, places, Wrong, Same, Back, Outcome}
use Rattle.netlist.proofs.Splitting.{number_tail}
use Rattle.netlist.proofs.Refusing.{late_place, plain_text}

pub one_kind : (k l : KindName) → kind_text k ≡ kind_text l → k ≡ l
one_kind Late Late e = refl
one_kind Late Contact e = cc
one_kind Late Early e = cc
one_kind Contact Late e = cc
one_kind Contact Contact e = refl
one_kind Contact Early e = cc
one_kind Early Late e = cc
one_kind Early Contact e = cc
one_kind Early Early e = refl

pub one_number : (m n : ℕ) → Below 32 m → Below 32 n → decimal m ≡ decimal n → m ≡ n
one_number m n l h e = decimal_injective m n (omega arith) (omega arith) e

one_delay : (k : KindName) (c d : ℕ × ℕ) → Timed k c → Timed k d → delay_text k c ≡ delay_text k d → (c.0 ≡ d.0) × (c.1 ≡ d.1)
one_delay Late c d s t e = (one_number c.0 d.0 s.0 t.0 e, s.1 ∙ sym t.1)
one_delay Early c d s t e = (one_number c.0 d.0 s.0 t.0 e, s.1 ∙ sym t.1)
one_delay Contact c d s t e =
    let cut = number_tail 47 c.0 d.0 _ _ s.0 t.0 (λ h. omega arith) e in
    (cut.0, one_number c.1 d.1 (omega (arith, s.1)) (omega (arith, t.1)) cut.1)

same_wire : (v w : Wire) → v.tail ≡ w.tail → v.head ≡ w.head → v.picoseconds ≡ w.picoseconds → v.contacts ≡ w.contacts → v ≡ w
same_wire v w t h p c =
    let e : ◌≡◌ {A = Wire} (record { tail = v.tail; head = v.head; picoseconds = v.picoseconds; contacts = v.contacts }) (record { tail = w.tail; head = w.head; picoseconds = w.picoseconds; contacts = w.contacts }) = cc in
    e

one_wire : (k : KindName) (v w : Wire) → InRange k v → InRange k w → wire_text k v ≡ wire_text k w → v ≡ w
one_wire k v w s t e =
    let first = number_tail 45 v.tail w.tail _ _ s.tail t.tail (λ h. omega arith) e in
    let next = number_tail 58 v.head w.head _ _ s.head t.head (λ h. omega arith) first.1 in
    let last = one_delay k (v.picoseconds, v.contacts) (w.picoseconds, w.contacts) (s.picoseconds, s.contacts) (t.picoseconds, t.contacts) next.1 in
    same_wire v w first.0 next.0 last.0 last.1

-- a lead is longer than a dash
no_dash : (k : KindName) (w : Wire) → InRange k w → place_text k None ≡ wire_text k w → ⊥
no_dash k w s e =
    omega (arith, decimal_nonempty w.tail (omega (arith, s.tail)), decimal_nonempty w.head (omega (arith, s.head)), simp length-append at (ap length e))

pub one_place : (k : KindName) (p q : Option Wire) → PlaceInRange k p → PlaceInRange k q → place_text k p ≡ place_text k q → p ≡ q
one_place k None None s t e = refl
one_place k None (Some w) s t e = absurd (no_dash k w t e)
one_place k (Some v) None s t e = absurd (no_dash k v s (sym e))
one_place k (Some v) (Some w) s t e = ap Some (one_wire k v w s t e)

one_list : (k : KindName) (ps qs : List (Option Wire)) → AllByRecursion (PlaceInRange k) ps → AllByRecursion (PlaceInRange k) qs → map (place_text k) ps ≡ map (place_text k) qs → ps ≡ qs
one_list k [] [] s t e = refl
one_list k [] (q ∷ qs) s t e = cc
one_list k (p ∷ ps) [] s t e = cc
one_list k (p ∷ ps) (q ∷ qs) s t e =
    let front : place_text k p ≡ place_text k q = cc in
    let back : map (place_text k) ps ≡ map (place_text k) qs = cc in
    let h = one_place k p q s.0 t.0 front in
    let r = one_list k ps qs s.1 t.1 back in
    cc

-- where no two values have one text, a reader of texts gives each value back
exactly : {A : Type 0} (Fit : A → Type 0) (text : A → List ℕ) → ((x y : A) → Fit x → Fit y → text x ≡ text y → x ≡ y) → (bs : List ℕ) (r : Option A) → Reads Fit text bs r → Exactly Fit text bs r
exactly {A} Fit text one bs r h = record { gives = h; back = back r h }
  where
    back : (r : Option A) → Reads Fit text bs r → (x : A) → Fit x → bs ≡ text x → r ≡ Some x
    back None h x f e = absurd (h x f e)
    back (Some y) h x f e = ap Some (one y x h.0 f (sym h.1 ∙ e))

pub exact_number : (bs : List ℕ) (r : Option ℕ) → Reads (Below 32) decimal bs r → Exactly (Below 32) decimal bs r
exact_number = exactly (Below 32) decimal one_number

pub exact_place : (k : KindName) (bs : List ℕ) (r : Option (Option Wire)) → Reads (PlaceInRange k) (place_text k) bs r → Exactly (PlaceInRange k) (place_text k) bs r
exact_place k = exactly (PlaceInRange k) (place_text k) (one_place k)

one_netlist : (ls : List (List ℕ)) (m n : Netlist) → Written ls m → Written ls n → Same m n
one_netlist ls m n s t =
    let e = sym s.whole ∙ t.whole in
    let kinds : kind_text m.kind ≡ kind_text n.kind = cc in
    let numbers : decimal m.nodes ≡ decimal n.nodes = cc in
    let rest : map (place_text m.kind) (vec_items m.places) ≡ map (place_text n.kind) (vec_items n.places) = cc in
    let k = one_kind m.kind n.kind kinds in
    record {
      kind = k;
      nodes = one_number m.nodes n.nodes s.nodes t.nodes numbers;
      places = one_list n.kind (vec_items m.places) (vec_items n.places) (subst (λ x. AllByRecursion (PlaceInRange x) (vec_items m.places)) k s.places) t.places (subst (λ x. map (place_text x) (vec_items m.places) ≡ map (place_text n.kind) (vec_items n.places)) k rest);
    }

-- what stands behind the first of a netlist's places are places too
further : (k : KindName) (ps qs : List (Option Wire)) (after : List (List ℕ)) → AllByRecursion (PlaceInRange k) qs → map (place_text k) ps ++ after ≡ map (place_text k) qs → (rs : List (Option Wire)) × (after ≡ map (place_text k) rs) × AllByRecursion (PlaceInRange k) rs
further k [] qs after s e = (qs, e, s)
further k (p ∷ ps) [] after s e = cc
further k (p ∷ ps) (q ∷ qs) after s e =
    let back : map (place_text k) ps ++ after ≡ map (place_text k) qs = cc in
    further k ps qs after s.1 back

-- places are as expected, and need not be there
fine : (k : KindName) (rs : List (Option Wire)) → AllByRecursion (PlaceInRange k) rs → Wrong (lead_form k) (map (place_text k) rs) → ⊥
fine Late [] s w = w
fine Contact [] s w = w
fine Early [] s w = w
fine Late (r ∷ rs) s w = w (r, s.0, refl)
fine Contact (r ∷ rs) s w = w (r, s.0, refl)
fine Early (r ∷ rs) s w = w (r, late_place r s.0, sym (plain_text r))

never : (before after : List (List ℕ)) (e : Expected) (n : Netlist) → Due before e → Wrong e after → Written (before ++ after) n → ⊥
never before after e n none w h = subst (Wrong Kind) h.whole w (n.kind, refl)
never before after e n (kind k) w h =
    let x = h.whole in
    let rest : after ≡ decimal n.nodes ∷ map (place_text n.kind) (vec_items n.places) = cc in
    subst (Wrong Nodes) rest w (n.nodes, h.nodes, refl)
never before after e n (places k m ps l s) w h =
    let x = h.whole in
    let kinds : kind_text k ≡ kind_text n.kind = cc in
    let rest : map (place_text k) ps ++ after ≡ map (place_text n.kind) (vec_items n.places) = cc in
    let same = sym (one_kind k n.kind kinds) in
    let more = further k ps (vec_items n.places) after (subst (λ y. AllByRecursion (PlaceInRange y) (vec_items n.places)) same h.places) (subst (λ y. map (place_text k) ps ++ after ≡ map (place_text y) (vec_items n.places)) same rest) in
    fine k more.0 more.2 (subst (Wrong (lead_form k)) {y = map (place_text k) more.0} more.1 w)

pub outcome : (ls : List (List ℕ)) (r : Result Netlist ReadError) → MatchResult r (Written ls) (NotRead ls) → Outcome ls r
outcome ls r h = record { gives = h; back = back ls r h }
  where
    back : (ls : List (List ℕ)) (r : Result Netlist ReadError) → MatchResult r (Written ls) (NotRead ls) → (n : Netlist) → Written ls n → Back n r
    back ls (Ok m) h n w = one_netlist ls m n h w
    back ls (Err NoMemory) h n w = tt
    back ls (Err (Line number e)) h n w = never h.before h.after e n h.due h.wrong (subst (λ xs. Written xs n) h.whole w)
