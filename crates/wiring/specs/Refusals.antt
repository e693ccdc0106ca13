-- The refusals and their numbers.
use Rattle.std.specs.Prelude.{ℕ}
use Rattle.wiring.specs.declared.refusals.Refusal.{Refusal}
use Rattle.wiring.specs.declared.refusals.Refusal.TheVariants.{FileLength, Version, Size, Sign, Ends, Delay, Taken, Vacant, Place, Room}

abbrev pub number_of : Refusal → ℕ
number_of FileLength = 1
number_of Version = 2
number_of Size = 3
number_of Sign = 4
number_of Ends = 5
number_of Delay = 6
number_of Taken = 7
number_of Vacant = 8
number_of Place = 9
number_of Room = 10
