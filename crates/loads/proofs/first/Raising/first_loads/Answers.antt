use Rattle.std.proofs.Common.{◌≡◌, ◌+◌, ◌≤◌, true, refl, sym, ◌∙◌, subst, arith}
use Rattle.std.proofs.lemmas.Bool.{both_ways}
use Rattle.flow.specs.Loads.{total}
use Rattle.flow.proofs.Exist.{Begun}
use Rattle.marks.specs.Marks.{load_of}
use Rattle.marks.specs.Shown.{shown}
use Rattle.marks.proofs.Fields.{shown_sound}
use Rattle.loads.specs.declared.first.Raising.{Raising as RaisingNow}
use Rattle.loads.specs.Raise.{RaisedThrough}
use Rattle.loads.specs.Stays.{Stays}
use Rattle.loads.proofs.Raises.{load_le, begun_clear, begun_on, begun_through}
use Rattle.loads.proofs.Rising.{stays_then, over_start}
use Rattle.loads.proofs.first.Raising.first_loads.Goals as goal
use Rattle.loads.proofs.first.Raising.first_loads.Goals.{then-is_some+then-self-k-eq0, else-is_some}
use Rattle.loads.proofs.first.Raising.first_loads.Goals.{else-is_some-via-then-is_some+else-self-k-eq0, else-is_some-via-else-is_some}

pub loop-k-init : goal.loop-k-init
loop-k-init c =
    let begun = begun_clear (shown c.args.self.now.arcs) (load_of c.clear.new.loads) c.clear.ensures in
    (record { arcs = refl; lent = refl }, begun.0, begun.1)

pub raise_through-requires-clause-room : goal.raise_through-requires-clause-room
raise_through-requires-clause-room c = λ j.
    let a = c.args.self.now in
    let begun = c.loop-k.invariant.1 in
    let most = load_le (shown a.arcs) (shown_sound a.arcs) (load_of c.loop-k.self.loads.now) begun.balanced begun.vacant j in
    omega (arith, c.loop-k.invariant.2)

pub loop-k-preserved : goal.loop-k-preserved
loop-k-preserved c =
    let a = c.args.self.now in
    let b = c.loop-k.self in
    let T = shown a.arcs in
    let k = c.loop-k.k in
    let f = load_of b.loads.now in
    let inv = c.loop-k.invariant in
    let On : RaisingNow → Type 0 = λ s. Stays a s × Begun T (load_of s.loads.now) (k + 1) × (total T (load_of s.loads.now) ≤ k + 1) in
    elim c.if-is_some.branch [
      | then-is_some+then-self-k-eq0 w ↦
          let d = w.raise_through.new.self in
          let through = over_start a b inv.0 (λ A. RaisedThrough (shown A) f (load_of d.loads.now) k) w.raise_through.ensures.raised in
          let more = begun_through T (shown_sound a.arcs) f (load_of d.loads.now) k inv.1 inv.2 through in
          subst On (sym w.self-is) (stays_then a b d inv.0 w.raise_through.ensures.stays, more.0, more.1)
      | else-is_some w ↦
          let some : T.arc k ≡ true → 1 ≤ f k =
          elim w.else-is_some.branch [
            | else-is_some-via-then-is_some+else-self-k-eq0 x ↦ λ _. omega (arith, x.if-self-k-eq0.false)
            | else-is_some-via-else-is_some x ↦ λ t. absurd (both_ways (T.arc k) (sym c.is_some.ensures ∙ x.if-is_some.false) t)
          ] in
          let on = begun_on T f k inv.1 inv.2 some in
          subst On (sym w.self-is) (inv.0, on.0, on.1)
    ]
