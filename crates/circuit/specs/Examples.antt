-- Examples: one sheet file with its sheet and its spread, and calls with their answers. A call that breaks two rules shows which of them is judged first.
use Rattle.std.specs.Prelude.{◌≡◌, ℕ, List, [], ◌∷◌, ◌++◌, map, replicate, Some, None, Ok, Err, Option, Result}
use Rattle.delay.specs.declared.Picoseconds.{Picoseconds}
use Rattle.delay.specs.Delivered.{picosecond_kind, picoseconds_of}
use Rattle.wiring.specs.declared.Lead.{Lead}
use Rattle.wiring.specs.declared.refusals.Refusal.{Refusal}
use Rattle.wiring.specs.declared.refusals.Refusal.TheVariants.{FileLength, Version, Size, Sign, Ends, Delay, Taken, Vacant, Place, Room}
use Rattle.circuit.specs.declared.Times.{Times}
use Rattle.circuit.specs.File.{header_bytes, record_bytes}
use Rattle.circuit.specs.Sheet.{PlainSheet, empty, Tables, written}
use Rattle.circuit.specs.Calls.{lay, retime, lift, Call, open_with, load, at_place, accepted, step, answer}
use Rattle.circuit.specs.Histories.{after}
use Rattle.circuit.specs.Spread.{rising, falling, pair_delay, circuit, sign_at, spread}

abbrev tables : ℕ → ℕ → Tables
tables n p = record { nodes = n; places = p }

-- tables for the largest sheet
abbrev full : Tables
full = tables 2048 2048

abbrev times : ℕ → ℕ → Times
times r f = record { rise = r; fall = f; contacts = 0 }

-- a lead by tail, head, rise and fall
abbrev lead : ℕ → ℕ → ℕ → ℕ → Lead Times
lead t h r f = record { tail = t; head = h; delay = times r f }

-- three nodes, of which node 1 inverts, and two leads in a row: 0-1 with rise 1 and fall 2, 1-2 with rise 3 and fall 5
abbrev pub sample_sheet : PlainSheet
sample_sheet = record { signs = 0 ∷ 1 ∷ 0 ∷ []; leads = Some (lead 0 1 1 2) ∷ Some (lead 1 2 3 5) ∷ [] }

-- as a file of 44 bytes: the header and the signs, then a line for each lead record
abbrev pub sample_file : List ℕ
sample_file =
    1 ∷ 0 ∷ 0 ∷ 0 ∷ 44 ∷ 0 ∷ 3 ∷ 0 ∷ 2 ∷ 0 ∷ 2 ∷ 0 ∷ 1 ∷ 0
    ∷ 0 ∷ 0 ∷ 0 ∷ 0 ∷ 0 ∷ 1 ∷ 0 ∷ 0 ∷ 0 ∷ 1 ∷ 0 ∷ 0 ∷ 0 ∷ 2 ∷ 0
    ∷ 0 ∷ 1 ∷ 0 ∷ 1 ∷ 0 ∷ 2 ∷ 0 ∷ 0 ∷ 0 ∷ 3 ∷ 0 ∷ 0 ∷ 0 ∷ 5 ∷ 0
    ∷ []

abbrev picosecond_lead : ℕ → ℕ → ℕ → Option (Lead Picoseconds)
picosecond_lead t h d = Some (record { tail = t; head = h; delay = picoseconds_of d })

-- the file loads as the sheet, and the sheet is written as the file. In its spread an edge runs unchanged from node 0 to node 1, and is
-- inverted behind node 1: a rising edge costs 1 and then the fall of 5, a falling one 2 and then the rise of 3
pub record SampleStands : Type 0 where
  pub loads : step full empty (load sample_file) ≡ accepted sample_sheet
  pub writes : written sample_sheet ≡ sample_file
  pub nodes : (spread picosecond_kind sample_sheet).nodes ≡ 6
  pub leads : map (spread picosecond_kind sample_sheet).at (0 ∷ 1 ∷ 2 ∷ 3 ∷ 4 ∷ [])
      ≡ picosecond_lead 0 2 1 ∷ picosecond_lead 1 3 2 ∷ picosecond_lead 2 5 5 ∷ picosecond_lead 3 4 3 ∷ None ∷ []
  pub rising_edge : pair_delay (sign_at sample_sheet) picosecond_kind (circuit sample_sheet) rising (0 ∷ 1 ∷ []) ≡ picoseconds_of 6
  pub falling_edge : pair_delay (sign_at sample_sheet) picosecond_kind (circuit sample_sheet) falling (0 ∷ 1 ∷ []) ≡ picoseconds_of 5

-- after these calls on an empty sheet in these tables, the call gets this answer
pub record Example : Type 0 where
  pub tables : Tables
  pub before : List Call
  pub call : Call
  pub answer : Result ℕ Refusal

abbrev pub Answered : Example → Type 0
Answered x = answer (step x.tables (after x.tables x.before) x.call) ≡ x.answer

-- an example in the largest tables, of a call that is accepted and leaves so many leads standing
abbrev accepts : List Call → Call → ℕ → Example
accepts cs c n = record { tables = full; before = cs; call = c; answer = Ok n }

-- in the largest tables and in the tables z, of a call that is refused
abbrev refuses : List Call → Call → Refusal → Example
refuses cs c r = record { tables = full; before = cs; call = c; answer = Err r }

abbrev refuses_in : Tables → Call → Refusal → Example
refuses_in z c r = record { tables = z; before = []; call = c; answer = Err r }

-- the header of a file: version, length, nodes, places, leads
abbrev header : ℕ → ℕ → ℕ → ℕ → ℕ → List ℕ
header v s n p l = header_bytes (record { version = v; size = s; nodes = n; places = p; leads = l })

-- a lead record: place and lead
abbrev lead_record : ℕ → Lead Times → List ℕ
lead_record k l = record_bytes (record { place = k; lead = l })

-- three nodes and four places; then a lead at place 0
abbrev opening : Call
opening = open_with (0 ∷ 0 ∷ 1 ∷ []) 4

abbrev first_lead : Call
first_lead = at_place 0 (lay (lead 0 1 5 5))

-- what is just within the limits is accepted
abbrev pub accepted_examples : List Example
accepted_examples =
    -- an empty file form: 11 bytes, nothing else
    accepts [] (load (header 1 11 0 0 0)) 0
    -- 2,048 nodes and 2,048 places
    ∷ accepts [] (open_with (replicate 2048 1) 2048) 0
    -- 1,000,000 picoseconds at the last of four places, to the last of three nodes
    ∷ accepts (opening ∷ []) (at_place 3 (lay (lead 1 2 1000000 1000000))) 1
    -- two leads with the same ends
    ∷ accepts (opening ∷ first_lead ∷ []) (at_place 1 (lay (lead 0 1 5 5))) 2
    -- new times for a lead
    ∷ accepts (opening ∷ first_lead ∷ []) (at_place 0 (retime (times 1000000 0))) 1
    -- a lead taken away
    ∷ accepts (opening ∷ first_lead ∷ []) (at_place 0 lift) 0
    -- opening again discards what was held
    ∷ accepts (opening ∷ first_lead ∷ []) opening 0
    ∷ []

-- every way to break one rule of open or of load alone
abbrev pub refused_openings : List Example
refused_openings =
    -- 1: no bytes
    refuses [] (load []) FileLength
    -- 1: 11 bytes, of which the length field says 12 and the counts say 12 too
    ∷ refuses [] (load (header 1 12 1 0 0)) FileLength
    -- 1: 12 bytes, of which the length field says 12 and the counts say 11
    ∷ refuses [] (load (header 1 12 0 0 0 ++ (0 ∷ []))) FileLength
    -- 2: version 2
    ∷ refuses [] (load (header 2 11 0 0 0)) Version
    -- 3: 2,049 nodes, or 2,049 places, in tables that have room for them
    ∷ refuses_in (tables 4096 4096) (open_with (replicate 2049 0) 1) Size
    ∷ refuses_in (tables 4096 4096) (open_with [] 2049) Size
    -- 4: sign 3, opened and in a file
    ∷ refuses [] (open_with (3 ∷ []) 1) Sign
    ∷ refuses [] (load (header 1 12 1 0 0 ++ (3 ∷ []))) Sign
    -- 10: two nodes, or two places, in tables of one entry
    ∷ refuses_in (tables 1 1) (open_with (0 ∷ 0 ∷ []) 1) Room
    ∷ refuses_in (tables 1 1) (open_with (0 ∷ []) 2) Room
    ∷ []

-- every way to break one rule of lay, retime or lift alone
abbrev pub refused_edits : List Example
refused_edits =
    -- 5: tail 2 and head 2; head 3 of three nodes
    refuses (opening ∷ []) (at_place 0 (lay (lead 2 2 0 0))) Ends
    ∷ refuses (opening ∷ []) (at_place 0 (lay (lead 2 3 0 0))) Ends
    -- 6: rise or fall 1,000,001, laid or retimed
    ∷ refuses (opening ∷ []) (at_place 0 (lay (lead 0 1 1000001 0))) Delay
    ∷ refuses (opening ∷ []) (at_place 0 (lay (lead 0 1 0 1000001))) Delay
    ∷ refuses (opening ∷ first_lead ∷ []) (at_place 0 (retime (times 1000001 0))) Delay
    ∷ refuses (opening ∷ first_lead ∷ []) (at_place 0 (retime (times 0 1000001))) Delay
    -- 7: the same place twice
    ∷ refuses (opening ∷ first_lead ∷ []) first_lead Taken
    -- 8: nothing to retime or to lift
    ∷ refuses (opening ∷ []) (at_place 0 (retime (times 0 0))) Vacant
    ∷ refuses (opening ∷ []) (at_place 3 lift) Vacant
    -- 9: place 4 of four
    ∷ refuses (opening ∷ []) (at_place 4 (lay (lead 0 1 5 5))) Place
    ∷ []

-- load judges 1 (under 11 bytes), 2, 1 (byte count), 3, 10, 1 (counts), 4, and then each lead record in turn as lay judges it
abbrev pub load_order : List Example
load_order =
    -- 1 before 2: one byte, version 2
    refuses [] (load (2 ∷ [])) FileLength
    -- 2 before 1: version 2, and 11 bytes of which the length field says 12
    ∷ refuses [] (load (header 2 12 0 0 0)) Version
    -- 1 before 3: 11 bytes of which the length field says 12, and 2,049 nodes or places
    ∷ refuses_in (tables 4096 4096) (load (header 1 12 2049 0 0)) FileLength
    ∷ refuses_in (tables 4096 4096) (load (header 1 12 0 2049 0)) FileLength
    -- 3 before 10: 2,049 nodes or places, in tables of 2,048 entries
    ∷ refuses [] (load (header 1 11 2049 0 0)) Size
    ∷ refuses [] (load (header 1 11 0 2049 0)) Size
    -- 10 before 1: two nodes or places in tables of one entry, and 11 bytes where the counts say 13 or 26
    ∷ refuses_in (tables 1 1) (load (header 1 11 2 0 0)) Room
    ∷ refuses_in (tables 1 1) (load (header 1 11 0 2 1)) Room
    -- 1 before 4: 12 bytes where the counts say 27, and sign 3
    ∷ refuses [] (load (header 1 12 1 0 1 ++ (3 ∷ []))) FileLength
    -- 4 before the records: sign 3, and a record for place 0 of none
    ∷ refuses [] (load (header 1 27 1 0 1 ++ (3 ∷ lead_record 0 (lead 0 0 0 0)))) Sign
    -- in a record 9 before 5, and before 6: place 1 of one, and a lead from 1 to 1 or with rise 1,000,001
    ∷ refuses [] (load (header 1 28 2 1 1 ++ (0 ∷ 0 ∷ lead_record 1 (lead 1 1 0 0)))) Place
    ∷ refuses [] (load (header 1 28 2 1 1 ++ (0 ∷ 0 ∷ lead_record 1 (lead 0 1 1000001 0)))) Place
    -- 7 before 5, and before 6: place 0 twice, the second time with a lead from 1 to 1 or with rise 1,000,001
    ∷ refuses [] (load (header 1 43 2 1 2 ++ (0 ∷ 0 ∷ lead_record 0 (lead 0 1 0 0) ++ lead_record 0 (lead 1 1 0 0)))) Taken
    ∷ refuses [] (load (header 1 43 2 1 2 ++ (0 ∷ 0 ∷ lead_record 0 (lead 0 1 0 0) ++ lead_record 0 (lead 0 1 1000001 0)))) Taken
    -- 5 before 6: a lead from 1 to 1 with rise 1,000,001
    ∷ refuses [] (load (header 1 28 2 1 1 ++ (0 ∷ 0 ∷ lead_record 0 (lead 1 1 1000001 0)))) Ends
    -- the first record before the second: rise 1,000,001, then place 1 of one
    ∷ refuses [] (load (header 1 43 2 1 2 ++ (0 ∷ 0 ∷ lead_record 0 (lead 0 1 1000001 0) ++ lead_record 1 (lead 0 1 0 0)))) Delay
    ∷ []

-- open judges 3, 10, 4
abbrev pub open_order : List Example
open_order =
    -- 3 before 10: 2,049 nodes or places in tables of one entry
    refuses_in (tables 1 1) (open_with (replicate 2049 0) 0) Size
    ∷ refuses_in (tables 1 1) (open_with [] 2049) Size
    -- 10 before 4: sign 3, and two nodes or two places in tables of one entry
    ∷ refuses_in (tables 1 1) (open_with (0 ∷ 3 ∷ []) 1) Room
    ∷ refuses_in (tables 1 1) (open_with (3 ∷ []) 2) Room
    ∷ []

-- lay judges 9, 7, 5, 6; a place past the last is never taken, so that 9 and 7 do not meet, and 9 is next to 5
abbrev pub lay_order : List Example
lay_order =
    -- 9 before 5, and before 6: place 4 of four, and a lead from 2 to 2 or with rise 1,000,001
    refuses (opening ∷ []) (at_place 4 (lay (lead 2 2 0 0))) Place
    ∷ refuses (opening ∷ []) (at_place 4 (lay (lead 0 1 1000001 0))) Place
    -- 7 before 5, and before 6: a taken place, and a lead from 2 to 2 or with rise 1,000,001
    ∷ refuses (opening ∷ first_lead ∷ []) (at_place 0 (lay (lead 2 2 0 0))) Taken
    ∷ refuses (opening ∷ first_lead ∷ []) (at_place 0 (lay (lead 0 1 1000001 0))) Taken
    -- 5 before 6: a lead from 2 to 2, or to node 3 of three, with rise or fall 1,000,001
    ∷ refuses (opening ∷ []) (at_place 0 (lay (lead 2 2 1000001 0))) Ends
    ∷ refuses (opening ∷ []) (at_place 0 (lay (lead 2 3 0 1000001))) Ends
    ∷ []

-- retime judges 9, 8, 6
abbrev pub retime_order : List Example
retime_order =
    -- 9 before 8: place 4 of four, which is vacant as every place past the last
    refuses (opening ∷ []) (at_place 4 (retime (times 0 0))) Place
    -- 8 before 6: a vacant place, and rise or fall 1,000,001
    ∷ refuses (opening ∷ []) (at_place 0 (retime (times 1000001 0))) Vacant
    ∷ refuses (opening ∷ []) (at_place 0 (retime (times 0 1000001))) Vacant
    ∷ []

-- lift judges 9, 8
abbrev pub lift_order : List Example
lift_order =
    -- 9 before 8: place 4 of four, which is vacant as every place past the last
    refuses (opening ∷ []) (at_place 4 lift) Place
    ∷ []
