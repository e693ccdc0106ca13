use Rattle.std.proofs.Common.{◌≡◌, ℕ, ◌-◌, ◌≤◌, set, is_some, sym, subst, ap, arith, length-set}
use Rattle.marks.specs.Marks.{begin_in, end_in, load_of}
use Rattle.marks.specs.Shown.{shown}
use Rattle.marks.proofs.Fields.{shown_sound, cell_set}
use Rattle.loads.specs.Settle.{Lowered}
use Rattle.loads.specs.Walk.{way_to}
use Rattle.loads.proofs.Raises.{load_le}
use Rattle.loads.proofs.Settles.{shift_room, kept_at, lowered}
use Rattle.loads.proofs.Walks.{most_le}
use Rattle.loads.proofs.best.Settling.lower.Goals as goal
use Rattle.loads.proofs.best.Settling.lower.Goals.{After-shift_most-by}

pub shift_most-by-requires-clause-room : goal.shift_most-by-requires-clause-room
shift_most-by-requires-clause-room c =
    let a = c.args.self.now in
    let T = shown a.arcs in
    let f = load_of a.loads.now in
    let least : f c.args.k - 1 ≤ 4096 = omega (arith, load_le T (shown_sound a.arcs) f a.balanced.balanced a.balanced.vacant c.args.k, a.few) in
    shift_room T (shown_sound a.arcs) f a.balanced a.few (f c.args.k - 1) least

-- the load at k itself is as it was
as_was : (c : After-shift_most-by) → load_of c.shift_most-by.new.loads c.args.k ≡ load_of c.args.self.now.loads.now c.args.k
as_was c =
    let a = c.args.self.now in
    let by = c.shift_most-by in
    kept_at (shown a.arcs) (load_of a.loads.now) (load_of by.new.loads) c.args.k by.result c.args.arc.begin c.args.arc.end a.nodes.now c.requires.sought
    by.ensures.shifted

pub overflow_sub-loads : goal.overflow_sub-loads
overflow_sub-loads c =
    let a = c.args.self.now in
    let f = load_of a.loads.now in
    let by = c.shift_most-by in
    let same = as_was (goal.at.overflow_sub-loads c).After-shift_most-by in
    let most = most_le f (f c.args.k - 1) (way_to (shown a.arcs) a.nodes.now c.args.arc.end) by.result by.ensures.slack in
    omega (arith, c.requires.spare)

less : (c : After-shift_most-by) → Lowered (shown c.args.self.now.arcs) (load_of c.args.self.now.loads.now)
    (load_of (set c.shift_most-by.new.loads c.args.k (load_of c.shift_most-by.new.loads c.args.k - c.shift_most-by.result))) c.args.k
less c =
    let a = c.args.self.now in
    let T = shown a.arcs in
    let f = load_of a.loads.now in
    let k = c.args.k in
    let by = c.shift_most-by in
    let h = load_of by.new.loads in
    let arc = c.requires.arc in
    subst (λ (g : ℕ → ℕ). Lowered T f g k) (sym (cell_set (λ (x : ℕ). x) by.new.loads k (h k - by.result) 0 (omega (arith, a.loaded, by.auto.loads))))
    (lowered T (shown_sound a.arcs) f h k c.args.arc.begin c.args.arc.end a.nodes.now a.balanced (ap is_some arc) (ap begin_in arc) (ap end_in arc)
    c.requires.spare c.requires.sought by.result by.ensures.slack by.ensures.shifted)

pub invariant_of-self : goal.invariant_of-self
invariant_of-self c =
    let a = c.args.self.now in
    let r = less (goal.at.invariant_of-self c).After-shift_most-by in
    record {
      sized = a.sized;
      loaded = simp length-set (omega (arith, c.shift_most-by.auto.loads, a.loaded));
      linked = a.linked;
      queued = a.queued;
      balanced = r.loads;
      few = omega (arith, r.same, a.few);
    }

pub returns-clause-lowered : goal.returns-clause-lowered
returns-clause-lowered c = less (goal.at.returns-clause-lowered c).After-shift_most-by
