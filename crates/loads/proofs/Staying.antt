-- Loads that are settled step by step.
use Rattle.std.proofs.Common.{◌∙◌, subst}
use Rattle.marks.specs.declared.arcs.Arcs.{Arcs}
use Rattle.loads.specs.declared.best.Settling.{Settling}
use Rattle.loads.specs.Kept.{Kept}

pub kept_then : (a b d : Settling) → Kept a b → Kept b d → Kept a d
kept_then a b d K L = record { arcs = L.arcs ∙ K.arcs; nodes = L.nodes ∙ K.nodes; loads = L.loads ∙ K.loads }

-- what is said over the arcs of a later state holds over those of an earlier one
pub over_first : (a b : Settling) → Kept a b → (P : Arcs → Type 0) → P b.arcs → P a.arcs
over_first a b K P h = subst P K.arcs h
