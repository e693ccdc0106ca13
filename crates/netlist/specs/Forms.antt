-- What a line should have been, and how a refusal says so.
use Rattle.std.specs.Prelude.{ℕ, List, ◌++◌, codes, decimal}
use Rattle.netlist.specs.declared.KindName.{KindName}
use Rattle.netlist.specs.declared.KindName.TheVariants.{Late, Contact, Early}
use Rattle.netlist.specs.declared.Expected.{Expected}
use Rattle.netlist.specs.declared.Expected.TheVariants.{Kind, Nodes, Lead, LeadWithContacts}
use Rattle.netlist.specs.declared.ReadError.{ReadError}
use Rattle.netlist.specs.declared.ReadError.TheVariants.{Line, NoMemory}

-- the form of a place's line under each kind
abbrev pub lead_form : KindName → Expected
lead_form Late = Lead
lead_form Contact = LeadWithContacts
lead_form Early = Lead

abbrev pub expected_text : Expected → List ℕ
expected_text Kind = codes "late, contact or early"
expected_text Nodes = codes "the number of nodes"
expected_text Lead = codes "tail-head:delay or -"
expected_text LeadWithContacts = codes "tail-head:delay/contacts or -"

abbrev pub error_text : ReadError → List ℕ
error_text (Line number e) = codes "line " ++ (decimal number ++ (codes ": expected " ++ expected_text e))
error_text NoMemory = codes "out of memory"
