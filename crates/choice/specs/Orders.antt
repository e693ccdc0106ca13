-- Wirings that break two of choose's rules at once, and the refusal that comes first; what just enough room is; and what choose makes of the
-- rows of small wirings.
use Rattle.std.specs.Prelude.{◌≡◌, ℕ, ◌<◌, List, [], ◌∷◌, length, take, replicate, Some, None, Ok, Err, Option}
use Rattle.std.specs.List.{AllByRecursion}
use Rattle.delay.specs.Kind.{Kind}
use Rattle.delay.specs.declared.Picoseconds.{Picoseconds}
use Rattle.delay.specs.Delivered.{picoseconds_of, picosecond_kind}
use Rattle.wiring.specs.declared.Lead.{Lead}
use Rattle.wiring.specs.Net.{Net, Sound}
use Rattle.wiring.specs.Views.{table_net}
use Rattle.wiring.specs.declared.refusals.Refusal.{Refusal}
use Rattle.wiring.specs.declared.refusals.Refusal.TheVariants.{Size, Ends, Delay, Room}
use Rattle.drawing.specs.Rows.{Row, late, wired, Gives}
use Rattle.drawing.specs.declared.Counts.{Counts}
use Rattle.choice.specs.Choice.{Lent, Choice, Chosen}

-- a wiring in picoseconds, with nothing lent, and why choose refuses it
pub record Case : Type 0 where
  pub nodes : ℕ
  pub leads : List (Option (Lead Picoseconds))
  pub refusal : Refusal

abbrev pub net_of : Case → Net Picoseconds
net_of x = table_net x.nodes x.leads

abbrev pub nothing : Lent
nothing = record { tables = record { to_table = 0; from_table = 0; load_table = 0; mark_table = 0 }; word_row = []; witness_row = [] }

pub record RefusedSo (x : Case) : Type 0 where
  pub answer : (c : Choice) → Chosen picosecond_kind (net_of x) nothing c → c.answer ≡ Err x.refusal

abbrev pub lead : ℕ → ℕ → ℕ → Lead Picoseconds
lead t h d = record { tail = t; head = h; delay = picoseconds_of d }

abbrev pub case : ℕ → List (Option (Lead Picoseconds)) → Refusal → Case
case n ls r = record { nodes = n; leads = ls; refusal = r }

abbrev pub choose_order : List Case
choose_order =
    -- size before a lead's ends, by nodes and by places, and before its delay
    case 4097 (Some (lead 2 2 0) ∷ []) Size
    ∷ case 2 (Some (lead 2 2 0) ∷ replicate 4096 None) Size
    ∷ case 4097 (Some (lead 0 1 1000001) ∷ []) Size
    -- 4,096 of either are not too many
    ∷ case 4096 (Some (lead 2 2 0) ∷ []) Ends
    ∷ case 2 (Some (lead 2 2 0) ∷ replicate 4095 None) Ends
    -- the ends of a lead before its delay
    ∷ case 2 (Some (lead 1 1 1000001) ∷ []) Ends
    ∷ case 2 (Some (lead 0 2 1000001) ∷ []) Ends
    -- the first bad lead before a later one
    ∷ case 2 (Some (lead 0 1 1000001) ∷ Some (lead 1 1 0) ∷ []) Delay
    ∷ case 2 (None ∷ Some (lead 0 1 1000001) ∷ Some (lead 1 1 0) ∷ []) Delay
    -- a bad lead before want of room is told above; a good one leaves it
    ∷ case 2 (Some (lead 0 1 1000000) ∷ []) Room
    ∷ []

abbrev pub OrdersStand : Type 0
OrdersStand = AllByRecursion RefusedSo choose_order

-- where the definitions give a row of the table, choose refuses a word row shorter than its words, and what it accepts begins with them
abbrev pub RowChosen : {D : Type 0} → Kind D → Row → Type 0
RowChosen K r = (g : Lent) (c : Choice) → Sound K (wired K r) → Chosen K (wired K r) g c →
    (length g.word_row < length r.words → c.answer ≡ Err Room)
    × ((n : Counts) → c.answer ≡ Ok n → (n.words ≡ length r.words) × (take n.words c.word_row ≡ r.words))

abbrev pub RowsChosen : {D : Type 0} → Kind D → Type 0
RowsChosen K = (r : Row) → Gives K r → RowChosen K r

-- tables with so many entries, and rows of as many sevens
abbrev pub room : ℕ → ℕ → ℕ → ℕ → ℕ → ℕ → Lent
room t f l m ws w = record {
  tables = record { to_table = t; from_table = f; load_table = l; mark_table = m };
  word_row = replicate ws 7;
  witness_row = replicate w 7;
}

-- the wiring of the lead 0-1:0, with the list 1 0
abbrev pub one_lead : Row
one_lead = record {
  kind = late;
  nodes = 2;
  leads = record { tail = 0; head = 1; picoseconds = 0; contacts = 0 } ∷ [];
  types = [];
  words = 1 ∷ 0 ∷ [];
}

abbrev pub ShortSo : Lent → Type 0
ShortSo g = (c : Choice) → Chosen picosecond_kind (wired picosecond_kind one_lead) g c → c.answer ≡ Err Room

abbrev pub ChosenSo : Lent → List ℕ → Type 0
ChosenSo g ws = (c : Choice) → Chosen picosecond_kind (wired picosecond_kind one_lead) g c →
    (c.answer ≡ Ok (record { paths = 1; words = 2 })) × (c.word_row ≡ ws)

-- just enough room is enough, and one entry less is not
pub record RoomStands : Type 0 where
  pub just : ChosenSo (room 2 2 1 3 2 1) (1 ∷ 0 ∷ [])
  pub more : ChosenSo (room 9 9 9 9 4 9) (1 ∷ 0 ∷ 7 ∷ 7 ∷ [])
  pub less : AllByRecursion ShortSo (room 1 2 1 3 2 1 ∷ room 2 1 1 3 2 1 ∷ room 2 2 0 3 2 1 ∷ room 2 2 1 2 2 1 ∷ room 2 2 1 3 1 1 ∷ room 2 2 1 3 2 0 ∷ [])
