use Rattle.std.proofs.Common.{sym, ◌∙◌, rules}
use Rattle.lengths.specs.Pairs.{FilledIn}
use Rattle.survey.proofs.surveying.place_row.Goals as goal

pub returns-clause-row : goal.returns-clause-row
returns-clause-row g c =
    let told = c.in_ok-drains.ensures.types c.requires in
    let again : FilledIn g.D.Delay.kind (g.W.Wiring.net c.args.w.now) c.classify.new.self = search rules in
    record { holds = sym c.lead.ensures ∙ c.in_ok-lead.was; drains = told.1; fed = told.2; longest = c.in_ok-longest.ensures.longest again }
