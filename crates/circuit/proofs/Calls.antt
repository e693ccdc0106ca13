-- What a refused call leaves, and what an accepted edit changes.
use Rattle.std.proofs.Common.{◌≡◌, ℕ, ◌<◌, List, [], ◌∷◌, length, Some, None, sym, refl, ap, ◌∙◌}
use Rattle.std.specs.List.{AllByRecursion}
use Rattle.std.proofs.lemmas.List.{length-set, get_or-set_same, get_or-set_other}
use Rattle.std.proofs.lemmas.Bool.{ltb-true, cond_both}
use Rattle.std.proofs.lemmas.Option.{none-some}
use Rattle.wiring.specs.declared.refusals.Refusal.{Refusal}
use Rattle.circuit.specs.File.{header_in, signs_in, LeadRecord, records_in}
use Rattle.circuit.specs.Sheet.{PlainSheet, empty, held}
use Rattle.circuit.specs.Calls.{Edit, lay, retime, lift, open_with, load, at_place, choose, Rule, Outcome, accepted, refused, judge}
use Rattle.circuit.specs.Calls.{open_rules, load_rules, edit_rules, fresh, edited, edit_at, laid}
use Rattle.circuit.specs.Claims.{left_by, RefusedCallsLeave, OnePlaceEdited, EditsChangeOnePlace}
use Rattle.circuit.proofs.Judging.{AllKept, judge_either}

-- a refusal r leaves the sheet (f r)
abbrev Leaves : (Refusal → PlainSheet) → Outcome → Type 0
Leaves f o = (r : Refusal) → o.refusal ≡ Some r → o.sheet ≡ f r

accepted_leaves : (f : Refusal → PlainSheet) (t : PlainSheet) → Leaves f (accepted t)
accepted_leaves f t r e = absurd (none-some r e)

refused_leaves : (f : Refusal → PlainSheet) (s : PlainSheet) (q : Refusal) → s ≡ f q → Leaves f (refused s q)
refused_leaves f s q h r e = let same : q ≡ r = cc in h ∙ ap f same

judge_leaves : (f : Refusal → PlainSheet) (rs : List Rule) (s : PlainSheet) (o : Outcome) → AllByRecursion (λ (r : Rule). s ≡ f r.refusal) rs →
    Leaves f o → Leaves f (judge rs s o)
judge_leaves f [] s o h g = g
judge_leaves f (r ∷ rs) s o h g =
    cond_both r.kept (judge rs s o) (refused s r.refusal) (Leaves f) (λ _. judge_leaves f rs s o h.1 g) (λ _. refused_leaves f s r.refusal h.0)

-- s is the sheet that the call was made on, t the one that the file opened
laid_leaves : (s t : PlainSheet) (bs : List ℕ) (rs : List LeadRecord) → Leaves (left_by s (load bs)) (laid t rs)
laid_leaves s t bs [] = accepted_leaves (left_by s (load bs)) t
laid_leaves s t bs (r ∷ rs) =
    let e = lay r.lead in let u = edit_at t r.place e in
    judge_leaves (left_by s (load bs)) (edit_rules t r.place e) empty (laid u rs) (refl, (refl, (refl, (refl, tt)))) (laid_leaves s u bs rs)

edit_leaves : (s : PlainSheet) (k : ℕ) (d : Edit) (o : Outcome) → Leaves (λ _. s) o → Leaves (λ _. s) (judge (edit_rules s k d) s o)
edit_leaves s k (lay l) o g = judge_leaves (λ _. s) (edit_rules s k (lay l)) s o (refl, (refl, (refl, (refl, tt)))) g
edit_leaves s k (retime t) o g = judge_leaves (λ _. s) (edit_rules s k (retime t)) s o (refl, (refl, (refl, tt))) g
edit_leaves s k lift o g = judge_leaves (λ _. s) (edit_rules s k lift) s o (refl, (refl, tt)) g

pub refused_calls_leave : RefusedCallsLeave
refused_calls_leave z s (open_with signs m) =
    let t = fresh signs m in
    judge_leaves (λ _. s) (open_rules z signs m) s (accepted t) (refl, (refl, (refl, tt))) (accepted_leaves (λ _. s) t)
refused_calls_leave z s (load bs) =
    let t = fresh (signs_in bs) (header_in bs).places in
    judge_leaves (left_by s (load bs)) (load_rules z bs) s (laid t (records_in bs)) (refl, (refl, (refl, (refl, (refl, (refl, (refl, tt)))))))
    (laid_leaves s t bs (records_in bs))
refused_calls_leave z s (at_place k d) = let t = edit_at s k d in edit_leaves s k d (accepted t) (accepted_leaves (λ _. s) t)
refused_calls_leave z s choose = accepted_leaves (λ _. s) s

-- of an accepted edit, what it changed
abbrev Edited : PlainSheet → ℕ → Edit → Outcome → Type 0
Edited s k d o = o.refusal ≡ None → OnePlaceEdited s k d o.sheet

refused_edit : (s : PlainSheet) (k : ℕ) (d : Edit) (r : Refusal) → Edited s k d (refused s r)
refused_edit s k d r e = absurd (none-some r (sym e))

inside_by : (s : PlainSheet) (k : ℕ) (d : Edit) → AllKept (edit_rules s k d) → k < length s.leads
inside_by s k (lay l) kept = ltb-true k (length s.leads) kept.0
inside_by s k (retime t) kept = ltb-true k (length s.leads) kept.0
inside_by s k lift kept = ltb-true k (length s.leads) kept.0

one_place : (s : PlainSheet) (k : ℕ) (d : Edit) → AllKept (edit_rules s k d) → OnePlaceEdited s k d (edit_at s k d)
one_place s k d kept =
    let p = edited d (held s k) in let below = inside_by s k d kept in
    record {
      inside = below;
      signs = refl;
      count = length-set s.leads k p;
      here = get_or-set_same s.leads k p None below;
      elsewhere = λ j other. get_or-set_other s.leads k j p None other;
    }

pub edits_change_one_place : EditsChangeOnePlace
edits_change_one_place z s k d =
    judge_either (Edited s k d) (edit_rules s k d) s (accepted (edit_at s k d)) (refused_edit s k d) (λ kept _. one_place s k d kept)
