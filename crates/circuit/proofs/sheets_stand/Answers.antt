use Rattle.circuit.proofs.Calls.{refused_calls_leave, edits_change_one_place}
use Rattle.circuit.proofs.Claims.{histories_keep_limits, written_sheets_load}
use Rattle.circuit.proofs.sheets_stand.Goals as goal

pub returns-clause-limits : goal.returns-clause-limits
returns-clause-limits c = histories_keep_limits

pub returns-clause-refusals : goal.returns-clause-refusals
returns-clause-refusals c = refused_calls_leave

pub returns-clause-edits : goal.returns-clause-edits
returns-clause-edits c = edits_change_one_place

pub returns-clause-files : goal.returns-clause-files
returns-clause-files c = written_sheets_load
