use Rattle.std.proofs.Common.{◌∙◌, rules}
use Rattle.delay.specs.DeliveredLaws.{picosecond_sums_exact}
use Rattle.delay.proofs.PicosecondsDelay.plus.Goals as goal

pub returns-clause-exact : goal.returns-clause-exact
returns-clause-exact c = λ t. c.saturating_add.ensures ∙ picosecond_sums_exact t
