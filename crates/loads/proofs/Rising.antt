-- Loads that are raised step by step.
use Rattle.std.proofs.Common.{◌∙◌, subst, sym}
use Rattle.marks.specs.declared.arcs.Arcs.{Arcs}
use Rattle.loads.specs.declared.first.Raising.{Raising}
use Rattle.loads.specs.Stays.{Stays}

pub stays_then : (a b d : Raising) → Stays a b → Stays b d → Stays a d
stays_then a b d K L = record { arcs = L.arcs ∙ K.arcs; lent = L.lent ∙ K.lent }

-- what is said over the arcs of one state holds over those of the other
pub over_start : (a b : Raising) → Stays a b → (P : Arcs → Type 0) → P b.arcs → P a.arcs
over_start a b K P h = subst P K.arcs h

pub over_now : (a b : Raising) → Stays a b → (P : Arcs → Type 0) → P a.arcs → P b.arcs
over_now a b K P h = subst P (sym K.arcs) h
