-- A row of places as a wiring.
use Rattle.std.specs.Prelude.{ℕ, cond, List, map, Some, None, Option}
use Rattle.delay.specs.Kind.{Kind}
use Rattle.wiring.specs.declared.Lead.{Lead}
use Rattle.wiring.specs.Net.{Net}
use Rattle.wiring.specs.Views.{table_net}
use Rattle.probe.specs.declared.Place.{Place}

-- what stands at a place, as the kind K reads it
abbrev pub lead_in : {D : Type 0} → Kind D → Place → Option (Lead D)
lead_in K p = cond p.stands (Some (record { tail = p.tail; head = p.head; delay = K.reading p.picoseconds p.contacts })) None

-- the wiring of n nodes that the places show
abbrev pub net_of : {D : Type 0} → Kind D → ℕ → List Place → Net D
net_of K n ps = table_net n (map (lead_in K) ps)
