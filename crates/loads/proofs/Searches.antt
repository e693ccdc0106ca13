-- What a search keeps, step by step.
use Rattle.std.proofs.Common.{◌≡◌, ℕ, zero, suc, ◌+◌, ◌<◌, ◌≤◌, Bool, true, false, not, eqb, ◌⊎◌, List, length, sym, refl, ap, ◌∙◌, subst, inl, inr, ⊎_elim, arith}
use mathlib.Core.Path.{fun_ext}
use mathlib.Core.Logic.{∥∥₁_elim, ∥∥₁_prop}
use Rattle.std.proofs.Props.{props}
use Rattle.std.proofs.lemmas.Bool.{cases_eq, eq-eqb, ne_eqb, eqb-true, both_ways}
use Rattle.std.specs.List.{All}
use Rattle.std.proofs.lemmas.List.Elements.{All-weaker}
use Rattle.wiring.specs.Loads.{sum_below}
use Rattle.flow.specs.Table.{Table, Sound}
use Rattle.flow.specs.Ways.{Step, step_from, step_to}
use Rattle.flow.specs.Trails.{Trail, Opens, Shut, put, unreached}
use Rattle.flow.proofs.Cuts.{arc_inside}
use Rattle.flow.proofs.Seek.{put_at, put_off, trail_none, trail_more, fewer, step_within}
use Rattle.marks.specs.declared.mark.Mark.{Mark}
use Rattle.marks.specs.Marks.{reached_of, depth_of, via_of}
use Rattle.marks.specs.Links.{arc_at, begin_at, end_at, out_at, into_at, Linked}
use Rattle.marks.proofs.Linking.{heads_moved}
use Rattle.loads.specs.Steps.{over, Free}
use Rattle.loads.specs.Search.{TrailOf, Shallow, Stepped, stepped_of, queued_at, Reaches, Queued, Grown, Followed, Finished}

-- one step more: the step s leads out of what is reached, and its end is put into the queue
module _ (T : Table) (S : Sound T) (f : ℕ → ℕ) (low : ℕ) (ns ms : List Mark) (c : ℕ) (s : Step) (o : Opens T f low (reached_of ns) s)
    (r : Reaches ns ms (step_from T s) (step_to T s) s c) where
  step_trail : (u : ℕ) → TrailOf T f low u ns → TrailOf T f low u ms
  step_trail u t =
      let v = step_to T s in
      let deep = depth_of ns (step_from T s) + 1 in
      subst (λ (R : ℕ → Bool). Trail T f low u R (depth_of ms) (via_of ms)) (sym r.reached)
      (subst (λ (d : ℕ → ℕ). Trail T f low u (put (reached_of ns) v true) d (via_of ms)) (sym r.depth)
      (subst (λ (w : ℕ → Step). Trail T f low u (put (reached_of ns) v true) (put (depth_of ns) v deep) w) (sym r.via)
      (trail_more T f low u (reached_of ns) (depth_of ns) (via_of ns) t s o)))

  step_fewer : unreached T (reached_of ms) < unreached T (reached_of ns)
  step_fewer =
      subst (λ (R : ℕ → Bool). unreached T R < unreached T (reached_of ns)) (sym r.reached)
      (fewer T (reached_of ns) (step_to T s) (step_within T S s o.arc) o.to)

  -- what is reached is the step's end, or was reached before
  step_was : (w : ℕ) → reached_of ms w ≡ true → (step_to T s ≡ w) ⊎ ((reached_of ns w ≡ true) × (step_to T s ≡ w → ⊥))
  step_was w e = ⊎_elim
      (λ q. inl q)
      (λ n. inr (sym (put_off (reached_of ns) (step_to T s) true w n) ∙ sym (ap (λ (R : ℕ → Bool). R w) r.reached) ∙ e, n))
      (cases_eq (step_to T s) w)

  pub step_new : reached_of ms (step_to T s) ≡ true
  step_new = ap (λ (R : ℕ → Bool). R (step_to T s)) r.reached ∙ put_at (reached_of ns) (step_to T s) true (step_to T s) refl

  step_kept : (w : ℕ) → reached_of ns w ≡ true → reached_of ms w ≡ true
  step_kept w e = ap (λ (R : ℕ → Bool). R w) r.reached
      ∙ ⊎_elim (λ q. put_at (reached_of ns) (step_to T s) true w q) (λ n. put_off (reached_of ns) (step_to T s) true w n ∙ e) (cases_eq (step_to T s) w)

  step_stays : (i : ℕ) → i < c → queued_at ms i ≡ queued_at ns i
  step_stays i l = ap (λ (q : ℕ → ℕ). q i) r.queued ∙ put_off (queued_at ns) c (step_to T s) i (λ e. omega arith)

  step_last : queued_at ms c ≡ step_to T s
  step_last = ap (λ (q : ℕ → ℕ). q c) r.queued ∙ put_at (queued_at ns) c (step_to T s) c refl

  step_stepped : (u : ℕ) → reached_of ns u ≡ true → Stepped u ns → Stepped u ms
  step_stepped u is h w e = ap (λ (R : ℕ → Bool). R w) r.stepped ∙ ⊎_elim
      (λ q. put_at (stepped_of ns) (step_to T s) true w q
      ∙ sym (ap not (ne_eqb w u (λ p. both_ways (reached_of ns u) (ap (reached_of ns) (sym (q ∙ p)) ∙ o.to) is))))
      (λ p. put_off (stepped_of ns) (step_to T s) true w p.1 ∙ h w p.0)
      (step_was w e)

  step_shallow : Shallow T ns → Shallow T ms
  step_shallow sh w e = ⊎_elim
      (λ q. let deep = ap (λ (d : ℕ → ℕ). d w) r.depth ∙ put_at (depth_of ns) (step_to T s) (depth_of ns (step_from T s) + 1) w q in
      omega (arith, step_fewer, sh (step_from T s) o.from))
      (λ p. let deep = ap (λ (d : ℕ → ℕ). d w) r.depth ∙ put_off (depth_of ns) (step_to T s) (depth_of ns (step_from T s) + 1) w p.1 in
      omega (arith, step_fewer, sh w p.0))
      (step_was w e)

  step_queued : Queued T ns c → Queued T ms (c + 1)
  step_queued q =
      record {
        shallow = step_shallow q.shallow;
        room = omega (arith, step_fewer, q.room);
        each = λ i l. ⊎_elim
            (λ e. subst (λ (j : ℕ). reached_of ms (queued_at ms j) ≡ true) e (subst (λ (w : ℕ). reached_of ms w ≡ true) (sym step_last) step_new))
            (λ n. let m : i < c = omega arith in
            subst (λ (w : ℕ). reached_of ms w ≡ true) (sym (step_stays i m)) (step_kept (queued_at ns i) (q.each i m)))
            (cases_eq c i);
        all = λ w e. ⊎_elim
            (λ p. ∣ (c, omega arith, step_last ∙ p) ∣₁)
            (λ p. ∥∥₁_elim (q.all w p.0) ∥∥₁_prop (λ at. ∣ (at.0, omega (arith, at.1), step_stays at.0 at.1 ∙ at.2) ∣₁))
            (step_was w e);
      }

  pub grown_step : length ms ≡ length ns → Queued T ns c → Grown T f low ns ms c (c + 1)
  grown_step long q = record {
    queued = step_queued q;
    trail = step_trail;
    stepped = step_stepped;
    kept = step_kept;
    stays = step_stays;
    more = omega arith;
    long = long;
    out = r.out;
    into = r.into;
  }

-- as long as a node is not reached, the queue has room
pub queue_room : (T : Table) (ns : List Mark) (c v : ℕ) → Queued T ns c → v < T.nodes → reached_of ns v ≡ false → c < T.nodes
queue_room T ns c v q l e = omega (arith, q.room, fewer T (reached_of ns) v l e)

-- a search with no step made, and one that goes on
pub grown_none : (T : Table) (f : ℕ → ℕ) (low : ℕ) (ns : List Mark) (c : ℕ) → Queued T ns c → Grown T f low ns ns c c
grown_none T f low ns c q = record {
  queued = q;
  trail = λ u t. t;
  stepped = λ u r h. h;
  kept = λ v e. e;
  stays = λ i l. refl;
  more = omega arith;
  long = refl;
  out = refl;
  into = refl;
}

pub grown_then : (T : Table) (f : ℕ → ℕ) (low : ℕ) (ns ms ls : List Mark) (a b c : ℕ) → Grown T f low ns ms a b → Grown T f low ms ls b c →
    Grown T f low ns ls a c
grown_then T f low ns ms ls a b c g h = record {
  queued = h.queued;
  trail = λ u t. h.trail u (g.trail u t);
  stepped = λ u r s. h.stepped u (g.kept u r) (g.stepped u r s);
  kept = λ v e. h.kept v (g.kept v e);
  stays = λ i l. h.stays i (omega (arith, g.more)) ∙ g.stays i l;
  more = omega (arith, g.more, h.more);
  long = h.long ∙ g.long;
  out = h.out ∙ g.out;
  into = h.into ∙ g.into;
}

-- a search leaves the links
pub links_stay : (ps ns ms : List Mark) → length ms ≡ length ns → out_at ms ≡ out_at ns → into_at ms ≡ into_at ns → Linked ps ns 0 → Linked ps ms 0
links_stay ps ns ms long out into L = record {
  out = λ v l. heads_moved (arc_at ps) (arc_at ps) (begin_at ps) (begin_at ps) (length ns) 0 (out_at ns) (out_at ms) refl refl out L.out v (omega arith);
  into = λ v l. heads_moved (arc_at ps) (arc_at ps) (end_at ps) (end_at ps) (length ns) 0 (into_at ns) (into_at ms) refl refl into L.into v (omega arith);
  next_out = L.next_out;
  next_into = L.next_into;
}

-- the steps from v: kept as the search goes on
module _ (T : Table) (f : ℕ → ℕ) (low : ℕ) where
  pub followed_kept : (ns ms : List Mark) (v : ℕ) (along : Bool) (m : ℕ) → ((w : ℕ) → reached_of ns w ≡ true → reached_of ms w ≡ true) →
      Followed T f low ns v along m → Followed T f low ms v along m
  followed_kept ns ms v along m kept h k l n a b e = kept (step_to T (over k along)) (h k l n a b e)

  -- the step over the place k, if it is free, leads to a node that is reached
  abbrev pub Made : List Mark → Bool → ℕ → Type 0
  Made ns along k = low ≤ k → Free f k along → reached_of ns (step_to T (over k along)) ≡ true

  pub made_kept : (ns ms : List Mark) (along : Bool) → ((w : ℕ) → reached_of ns w ≡ true → reached_of ms w ≡ true) → (ks : List ℕ) →
      All (Made ns along) ks → All (Made ms along) ks
  made_kept ns ms along kept = All-weaker (Made ns along) (Made ms along) (λ k h l e. kept (step_to T (over k along)) (h l e))

  finished_prop : (ns : List Mark) (v : ℕ) → IsProp (Finished T f low ns v)
  finished_prop ns v = hlevel props

  finished_kept : (ns ms : List Mark) (v : ℕ) → ((w : ℕ) → reached_of ns w ≡ true → reached_of ms w ≡ true) → Finished T f low ns v →
      Finished T f low ms v
  finished_kept ns ms v kept h = record {
    along = followed_kept ns ms v true T.places kept h.along;
    against = followed_kept ns ms v false T.places kept h.against;
  }

  -- one node more is finished
  pub finished_more : (ns ms : List Mark) (done before after : ℕ) → done < before → Grown T f low ns ms before after →
      ((i : ℕ) → i < done → Finished T f low ns (queued_at ns i)) → Finished T f low ms (queued_at ns done) →
      (i : ℕ) → i < done + 1 → Finished T f low ms (queued_at ms i)
  finished_more ns ms done before after l g h last i m = ⊎_elim
      (λ e. subst (λ (j : ℕ). Finished T f low ms (queued_at ms j)) e (subst (Finished T f low ms) (sym (g.stays done l)) last))
      (λ n. let less : i < done = omega arith in
      subst (Finished T f low ms) (sym (g.stays i (omega arith))) (finished_kept ns ms (queued_at ns i) g.kept (h i less)))
      (cases_eq done i)

  -- once every node in the queue is finished, no step leads on
  pub finished_shut : Sound T → (ns : List Mark) (count : ℕ) → Queued T ns count → ((i : ℕ) → i < count → Finished T f low ns (queued_at ns i)) →
      Shut T f low (reached_of ns)
  finished_shut S ns count q h = record {
    along = λ j l a b. (all (T.begin j) b).along j l (arc_inside T S j a) a refl (λ e. absurd (both_ways true e refl));
    against = λ j l a b t. (all (T.end j) b).against j l (arc_inside T S j a) a refl (λ e. t);
  }
    where
      all : (v : ℕ) → reached_of ns v ≡ true → Finished T f low ns v
      all v e = ∥∥₁_elim (q.all v e) (finished_prop ns v) (λ at. subst (Finished T f low ns) at.2 (h at.0 at.1))

-- a search begins: u is reached, and nothing else
module _ (T : Table) (u : ℕ) (ns : List Mark) (h : (v : ℕ) → reached_of ns v ≡ eqb v u) where
  pub begun_trail : (f : ℕ → ℕ) (low : ℕ) → TrailOf T f low u ns
  begun_trail f low =
      subst (λ (R : ℕ → Bool). Trail T f low u R (depth_of ns) (via_of ns)) (sym (fun_ext h)) (trail_none T f low u (depth_of ns) (via_of ns))

  pub begun_stepped : stepped_of ns u ≡ false → Stepped u ns
  begun_stepped e v r =
      let same : v ≡ u = eqb-true v u (sym (h v) ∙ r) in
      ap (stepped_of ns) same ∙ e ∙ sym (ap not (eq-eqb v u same))

  begun_shallow : u < T.nodes → depth_of ns u ≡ 0 → Shallow T ns
  begun_shallow l d v e =
      let same : v ≡ u = eqb-true v u (sym (h v) ∙ e) in
      let deep = ap (depth_of ns) same in
      let less = fewer T (λ w. false) u l refl in
      let some = all_of T.nodes in
      let here = ap (unreached T) (fun_ext (λ w. h w ∙ one w)) in
      omega arith
    where
      one : (w : ℕ) → eqb w u ≡ put (λ x. false) u true w
      one w = ⊎_elim
          (λ q. eq-eqb w u q ∙ sym (put_at (λ x. false) u true w (sym q)))
          (λ n. ne_eqb w u n ∙ sym (put_off (λ x. false) u true w (λ q. n (sym q))))
          (cases_eq w u)

      all_of : (n : ℕ) → sum_below n (λ v. 1) ≡ n
      all_of zero = refl
      all_of (suc n) = omega (arith, all_of n)

  pub begun_queued : u < T.nodes → depth_of ns u ≡ 0 → queued_at ns 0 ≡ u → Queued T ns 1
  begun_queued l d q = record {
    shallow = shallow;
    room = omega (arith, shallow u start);
    each = λ i m. subst (λ (j : ℕ). reached_of ns (queued_at ns j) ≡ true) (omega arith) (subst (λ (w : ℕ). reached_of ns w ≡ true) (sym q) start);
    all = λ v e. ∣ (0, omega arith, q ∙ sym (eqb-true v u (sym (h v) ∙ e))) ∣₁;
  }
    where
      shallow : Shallow T ns
      shallow = begun_shallow l d

      start : reached_of ns u ≡ true
      start = h u ∙ eq-eqb u u refl
