-- The spread of a sheet within its limits is sound.
use Rattle.std.proofs.Common.{ℕ, ◌*◌, ◌<◌, ◌≤◌, sym, ap, ◌∙◌, subst, arith}
use Rattle.delay.specs.Kind.{Kind, Laws}
use Rattle.wiring.specs.declared.Lead.{Lead}
use Rattle.wiring.specs.Net.{Holds, Sound}
use Rattle.circuit.specs.declared.Times.{Times}
use Rattle.circuit.specs.Sheet.{PlainSheet, Tables, most_picoseconds, LeadLimits, Limits}
use Rattle.circuit.specs.Spread.{Edge, rising, falling, half, edge_of, picoseconds, arrives, circuit, sign_at, spread}
use Rattle.circuit.proofs.Limits.{lead_limits}
use Rattle.circuit.proofs.Copies.{Behind, copy_bounds, spread_held}

in_limit : {n : ℕ} {l : Lead Times} → LeadLimits n l → (e : Edge) → picoseconds l.delay e ≤ most_picoseconds
in_limit o rising = o.rise
in_limit o falling = o.fall

module _ {D : Type 0} {K : Kind D} (L : Laws K) {z : Tables} {s : PlainSheet} (h : Limits z s) where
  -- the circuit lead behind a lead of the spread, and its limits
  behind : (j : ℕ) (m : Lead D) → Holds (spread K s) j m → Behind (sign_at s) K (circuit s) j m
  behind j m i = spread_held (sign_at s) K (circuit s) j m i

  pub spread_sound : Sound K (spread K s)
  spread_sound = record {
    few_nodes = omega (arith, h.few_nodes);
    few_places = omega (arith, h.few_places);
    upwards = λ j m i. let b = behind j m i in let l = b.lead in let o = lead_limits h (half j) l b.holds in
        let t = copy_bounds l.tail (edge_of j) in let v = copy_bounds l.head (arrives (sign_at s) l (edge_of j)) in
        subst (λ (x : Lead D). x.tail < x.head) (sym b.is) (omega (arith, o.upwards));
    inside = λ j m i. let b = behind j m i in let l = b.lead in let o = lead_limits h (half j) l b.holds in
        let v = copy_bounds l.head (arrives (sign_at s) l (edge_of j)) in
        subst (λ (x : Lead D). x.head < 2 * (circuit s).nodes) (sym b.is) (omega (arith, o.inside));
    lawful = λ j m i. let b = behind j m i in let l = b.lead in let o = lead_limits h (half j) l b.holds in
        let e = arrives (sign_at s) l (edge_of j) in
        ap (λ (x : Lead D). K.lawful x.delay) b.is
        ∙ L.readings_lawful (picoseconds l.delay e) l.delay.contacts (in_limit o e) o.contacts;
  }
