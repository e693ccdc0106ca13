use Rattle.std.proofs.Common.{sym, refl, ◌∙◌, ⊎_elim, arith}
use Rattle.lengths.proofs.check.fault_at.Goals as goal

pub returns-then-l : goal.returns-then-l
returns-then-l g c =
    (c.in_ok-l.l, c.in_ok-l.was, (refl, λ e. ⊎_elim (λ h. omega arith) (λ h. omega arith) c.then-l.either))

pub returns-then-not-lawful : goal.returns-then-not-lawful
returns-then-not-lawful g c =
    (c.in_ok-l.l, c.in_ok-l.was, (refl, (omega arith, omega arith), sym c.lawful.ensures ∙ c.if-not-lawful.true))
