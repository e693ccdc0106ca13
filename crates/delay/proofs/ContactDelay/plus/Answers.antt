use Rattle.std.proofs.Common.{◌∙◌, rules}
use Rattle.delay.specs.DeliveredLaws.{contact_sums_exact}
use Rattle.delay.proofs.ContactDelay.plus.Goals as goal

pub returns-clause-exact : goal.returns-clause-exact
returns-clause-exact c = λ t. (c.saturating_add.ensures ∙ (contact_sums_exact t).0, c.saturating_add-2.ensures ∙ (contact_sums_exact t).1)
