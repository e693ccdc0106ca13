-- What holds of every sheet after any calls, from what holds of every sheet within its limits.
use Rattle.delay.specs.Kind.{Kind, Laws}
use Rattle.circuit.specs.Spread.{circuit, sign_at}
use Rattle.circuit.specs.Claims.{HistoriesKeepLimits, WrittenSheetsLoad, SpreadsAreSound, PathsArePairs}
use Rattle.circuit.proofs.Limits.{history_limits}
use Rattle.circuit.proofs.Reload.{written_is_bytes, reloads}
use Rattle.circuit.proofs.Spreads.{spread_sound}
use Rattle.circuit.proofs.Pairs.{one_to_one}

pub histories_keep_limits : HistoriesKeepLimits
histories_keep_limits z s h = history_limits h

pub written_sheets_load : WrittenSheetsLoad
written_sheets_load z y s t h a b = let l = history_limits h in (written_is_bytes l, reloads l y t a b)

pub spreads_are_sound : {D : Type 0} {K : Kind D} → Laws K → SpreadsAreSound K
spreads_are_sound L z s h = spread_sound L (history_limits h)

pub paths_are_pairs : {D : Type 0} (K : Kind D) → PathsArePairs K
paths_are_pairs K s = one_to_one (sign_at s) K (circuit s)
