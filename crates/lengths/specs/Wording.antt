-- Faults in words.
use Rattle.std.specs.Prelude.{ℕ, List, ◌++◌, codes, decimal}
use Rattle.lengths.specs.declared.check.Fault.{Fault}
use Rattle.lengths.specs.declared.check.Fault.TheVariants.{Size, Ends, Delay}
use Rattle.lengths.specs.declared.table.FillError.{FillError}
use Rattle.lengths.specs.declared.table.FillError.TheVariants.{Unsound, Short}

-- the limit that a wiring breaks, and the lead that breaks it
abbrev pub fault_text : Fault → List ℕ
fault_text Size = codes "more than 4096 nodes or places"
fault_text (Ends k) = codes "lead " ++ (decimal k ++ codes " does not run from a lower node to a higher one inside the wiring")
fault_text (Delay k) = codes "lead " ++ (decimal k ++ codes " has a delay that its kind does not allow")

abbrev pub fill_error_text : FillError → List ℕ
fill_error_text (Unsound f) = fault_text f
fill_error_text Short = codes "a length table is too short"
