-- Writes that leave a field of the marks as it was.
use Rattle.std.proofs.Common.{◌≡◌, ℕ, ◌<◌, List, length, get_or, set, ap, ◌∙◌}
use Rattle.flow.specs.Trails.{put}
use Rattle.marks.proofs.Fields.{cell_set, put_same}

pub cell_kept : {X A : Type 0} (F : X → A) (xs : List X) (v : ℕ) (m d : X) → v < length xs → F m ≡ F (get_or xs v d) →
    ◌≡◌ {A = ℕ → A} (λ w. F (get_or (set xs v m) w d)) (λ w. F (get_or xs w d))
cell_kept F xs v m d l e = cell_set F xs v m d l ∙ ap (put (λ w. F (get_or xs w d)) v) e ∙ put_same (λ w. F (get_or xs w d)) v
