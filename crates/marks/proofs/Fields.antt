-- The fields of marks after a write.
use Rattle.std.proofs.Common.{◌≡◌, ℕ, ◌+◌, ◌<◌, Bool, true, false, cond, eqb, ◌≢◌, List, length, is_some, get_or, set, sym, ap, ◌∙◌, subst, ⊎_elim, arith, get_or-set_other, get_or-set_same, below_more}
use mathlib.Core.Path.{fun_ext}
use Rattle.std.proofs.lemmas.Bool.{cases_eq, cases_lt, eq-eqb, ne_eqb, both_ways}
use Rattle.std.proofs.lemmas.List.{get_or_past}
use Rattle.flow.specs.Table.{Sound}
use Rattle.flow.specs.Trails.{put}
use Rattle.marks.specs.declared.mark.Mark.{Mark}
use Rattle.marks.specs.declared.arcs.Arcs.{Arcs}
use Rattle.marks.specs.Shown.{shown}
use Rattle.marks.specs.Marks.{blank, table, reached_of, ArcsSound}

-- a cell after a write, read by any field
pub cell_set : {X A : Type 0} (F : X → A) (xs : List X) (v : ℕ) (m d : X) → v < length xs → (λ w. F (get_or (set xs v m) w d)) ≡ put (λ w. F (get_or xs w d)) v (F m)
cell_set F xs v m d l = fun_ext (λ w. ⊎_elim (λ e. same w e) (λ n. other w n) (cases_eq v w))
  where
    same : (w : ℕ) → v ≡ w → F (get_or (set xs v m) w d) ≡ put (λ w. F (get_or xs w d)) v (F m) w
    same w e = ap (λ (x : ℕ). F (get_or (set xs v m) x d)) (sym e) ∙ ap F (get_or-set_same xs v m d l) ∙ sym
        (ap (λ (b : Bool). cond b (F m) (F (get_or xs w d))) (eq-eqb v w e))

    other : (w : ℕ) → (v ≡ w → ⊥) → F (get_or (set xs v m) w d) ≡ put (λ w. F (get_or xs w d)) v (F m) w
    other w n = ap F (get_or-set_other xs v w m d (λ e. n (sym e))) ∙ sym (ap (λ (b : Bool). cond b (F m) (F (get_or xs w d))) (ne_eqb v w n))

pub put_same : {A : Type 0} (h : ℕ → A) (v : ℕ) → put h v (h v) ≡ h
put_same h v = fun_ext (λ w. ⊎_elim (λ e. ap (λ (b : Bool). cond b (h v) (h w)) (eq-eqb v w e) ∙ ap h e)
    (λ n. ap (λ (b : Bool). cond b (h v) (h w)) (ne_eqb v w n)) (cases_eq v w))

-- where nothing is reached, one node is marked
pub only_one : (R : ℕ → Bool) (u : ℕ) → ((v : ℕ) → R v ≡ false) → (v : ℕ) → put R u true v ≡ eqb v u
only_one R u h v = ⊎_elim
    (λ e. ap (λ (b : Bool). cond b true (R v)) (eq-eqb u v e) ∙ sym (eq-eqb v u (sym e)))
    (λ n. ap (λ (b : Bool). cond b true (R v)) (ne_eqb u v n) ∙ h v ∙ sym (ne_eqb v u (λ e. n (sym e)))) (cases_eq u v)

pub one_less : (R : ℕ → Bool) (v : ℕ) → ((k : ℕ) → k < v → R k ≡ false) → (k : ℕ) → k < v + 1 → put R v false k ≡ false
one_less R v h k l = ⊎_elim (λ e. ap (λ (b : Bool). cond b false (R k)) (eq-eqb v k e))
    (λ n. ap (λ (b : Bool). cond b false (R k)) (ne_eqb v k n) ∙ h k (omega arith)) (cases_eq v k)

-- what holds of no mark within holds of none
pub none_reached : (ns : List Mark) → ((v : ℕ) → v < length ns → reached_of ns v ≡ false) → (v : ℕ) → reached_of ns v ≡ false
none_reached ns h v = ⊎_elim (λ l. h v l) (λ l. ap (λ (m : Mark). is_some m.reached) (get_or_past ns v blank l)) (cases_lt v (length ns))

pub reached_inside : (ns : List Mark) (v : ℕ) → reached_of ns v ≡ true → v < length ns
reached_inside ns v e = ⊎_elim (λ l. l) (λ l. absurd (both_ways (reached_of ns v) (ap (λ (m : Mark). is_some m.reached) (get_or_past ns v blank l)) e))
    (cases_lt v (length ns))

-- what the ghost field of a view says
sound : (ps : List Mark) (n s t : ℕ) → ArcsSound ps n s t → Sound (table ps n s t)
sound ps n s t h =
    record {
      up = λ k a. (h.0 k a).0;
      within = λ k a. (h.0 k a).1;
      past = λ k l. ap (λ (m : Mark). is_some m.arc) (get_or_past ps k blank l);
      apart = h.1;
      from_source = λ k a. (h.0 k a).2;
      to_sink = λ k a. (h.0 k a).3;
    }

pub shown_sound : (a : Arcs) → Sound (shown a)
shown_sound a = sound a.marks.now a.nodes a.source a.sink a.sound

-- what holds of each entry below k, and of the one that is written at k, holds of each below k + 1
pub cells_more : {X : Type 0} (P : ℕ → X → Type 0) (xs : List X) (k : ℕ) (m d : X) → k < length xs → ((j : ℕ) → j < k → P j (get_or xs j d)) → P k m →
    (j : ℕ) → j < k + 1 → P j (get_or (set xs k m) j d)
cells_more P xs k m d l h here = below_more _ k
    (λ j i. let ne : j ≢ k = omega arith in subst (P j) (sym (get_or-set_other xs k j m d ne)) (h j i))
    (subst (P k) (sym (get_or-set_same xs k m d l)) here)
