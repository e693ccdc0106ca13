-- A wiring is sound or has a fault, never both, and one fault only.
use Rattle.std.proofs.Common.{◌≡◌, ℕ, zero, suc, ◌<◌, ◌⊎◌, Some, None, Option, sym, refl, ap, ◌∙◌, subst, inl, inr, ⊎_elim, arith}
use Rattle.std.proofs.lemmas.Bool.{cases_Bool, cases_lt, both_ways}
use Rattle.delay.specs.Kind.{Kind}
use Rattle.wiring.specs.declared.Lead.{Lead}
use Rattle.wiring.specs.Net.{Net, Holds, Sound}
use Rattle.wiring.proofs.Ends.{one_lead}
use Rattle.lengths.specs.declared.check.Fault.{Fault}
use Rattle.lengths.specs.declared.check.Fault.TheVariants.{Size, Ends, Delay}
use Rattle.lengths.specs.Check.{Sized, Keeps, Breaks, KeepsBelow, FirstFault, Finds}
use Rattle.lengths.proofs.Checks.{sound_if_all, finds_first}

module _ {D : Type 0} (K : Kind D) (N : Net D) where
  -- a lead that breaks a rule keeps not both
  breaks_not_keeps : (k : ℕ) (l : Lead D) (f : Fault) → Breaks K N.nodes k l f → Keeps K N.nodes l → ⊥
  breaks_not_keeps k l Size b h = b
  breaks_not_keeps k l (Ends j) b h = b.1 h.0
  breaks_not_keeps k l (Delay j) b h = both_ways (K.lawful l.delay) b.2 h.1

  -- and breaks one rule only
  breaks_one : (k : ℕ) (l : Lead D) (f g : Fault) → Breaks K N.nodes k l f → Breaks K N.nodes k l g → f ≡ g
  breaks_one k l Size g a b = absurd a
  breaks_one k l (Ends i) Size a b = absurd b
  breaks_one k l (Ends i) (Ends j) a b = ap {B = Fault} (λ x. Ends x) (a.0 ∙ sym b.0)
  breaks_one k l (Ends i) (Delay j) a b = absurd (a.1 b.1)
  breaks_one k l (Delay i) Size a b = absurd b
  breaks_one k l (Delay i) (Ends j) a b = absurd (b.1 a.1)
  breaks_one k l (Delay i) (Delay j) a b = ap {B = Fault} (λ x. Delay x) (a.0 ∙ sym b.0)

  -- what is found beside the size: a first lead that breaks a rule
  found : (f : Fault) → Finds K N f → (((4096 < N.nodes) ⊎ (4096 < N.places)) × (f ≡ Size)) ⊎ ((k : ℕ) × FirstFault K N k f)
  found Size h = inl (h, refl)
  found (Ends k) h = inr (k, h)
  found (Delay k) h = inr (k, h)

  large_not_sized : ((4096 < N.nodes) ⊎ (4096 < N.places)) → Sized N → ⊥
  large_not_sized h few = ⊎_elim (λ a. omega (arith, few.0)) (λ a. omega (arith, few.1)) h

  first_one : (j k : ℕ) (f g : Fault) → FirstFault K N j f → FirstFault K N k g → f ≡ g
  first_one j k f g a b = ⊎_elim
      (λ h. absurd (breaks_not_keeps j a.2.0 f a.2.2 (b.1 j h a.2.0 a.2.1)))
      (λ h. ⊎_elim
      (λ i. absurd (breaks_not_keeps k b.2.0 g b.2.2 (a.1 k i b.2.0 b.2.1)))
      (λ i. let same : j ≡ k = omega arith in
      let c : FirstFault K N k f = subst (λ x. FirstFault K N x f) same a in
      breaks_one k b.2.0 f g (subst (λ (l : Lead D). Breaks K N.nodes k l f) (one_lead N k c.2.1 b.2.1) c.2.2) b.2.2)
      (cases_lt k j))
      (cases_lt j k)

  pub finds_one : (f g : Fault) → Finds K N f → Finds K N g → f ≡ g
  finds_one f g a b = ⊎_elim
      (λ p. ⊎_elim (λ q. p.1 ∙ sym q.1) (λ q. absurd (large_not_sized p.0 q.1.0)) (found g b))
      (λ p. ⊎_elim (λ q. absurd (large_not_sized q.0 p.1.0)) (λ q. first_one p.0 q.0 f g p.1 q.1) (found g b))
      (found f a)

  pub sound_finds_none : Sound K N → (f : Fault) → Finds K N f → ⊥
  sound_finds_none S f h = ⊎_elim
      (λ p. large_not_sized p.0 (S.few_nodes, S.few_places))
      (λ p. let w = p.1.2 in
      breaks_not_keeps p.0 w.0 f w.2 ((S.upwards p.0 w.0 w.1, S.inside p.0 w.0 w.1), S.lawful p.0 w.0 w.1))
      (found f h)

  keeps_or_breaks : (k : ℕ) (l : Lead D) → Keeps K N.nodes l ⊎ ((f : Fault) × Breaks K N.nodes k l f)
  keeps_or_breaks k l = ⊎_elim
      (λ a. ⊎_elim
      (λ b. ⊎_elim (λ c. inl ((a, b), c)) (λ c. inr (Delay k, (refl, (a, b), c))) (cases_Bool (K.lawful l.delay)))
      (λ b. inr (Ends k, (refl, λ e. omega (arith, e.1))))
      (cases_lt l.head N.nodes))
      (λ a. inr (Ends k, (refl, λ e. omega (arith, e.0))))
      (cases_lt l.tail l.head)

  place_or_breaks : (k : ℕ) → ((l : Lead D) → Holds N k l → Keeps K N.nodes l) ⊎ ((f : Fault) × (l : Lead D) × Holds N k l × Breaks K N.nodes k l f)
  place_or_breaks k = go (N.at k) refl
    where
      go : (o : Option (Lead D)) → N.at k ≡ o → ((l : Lead D) → Holds N k l → Keeps K N.nodes l) ⊎ ((f : Fault) × (l : Lead D) × Holds N k l × Breaks K N.nodes k l f)
      go None e = inl (λ l h. let z : ◌≡◌ {A = ℕ} 0 1 = cc in absurd (omega arith))
      go (Some m) e = ⊎_elim
          (λ p. inl (λ l h. subst (Keeps K N.nodes) (one_lead N k e h) p))
          (λ p. inr (p.0, m, e, p.1))
          (keeps_or_breaks k m)

  keeps_or_finds : Sized N → (n : ℕ) → KeepsBelow K N n ⊎ ((f : Fault) × Finds K N f)
  keeps_or_finds few zero = inl (λ k h. absurd (omega arith))
  keeps_or_finds few (suc n) = ⊎_elim
      (λ G. ⊎_elim
      (λ p. inl (λ k h. ⊎_elim (G k) (λ i. subst (λ j. (l : Lead D) → Holds N j l → Keeps K N.nodes l) (omega arith) p) (cases_lt k n)))
      (λ b. inr (b.0, finds_first K N few n G b.0 (b.1, b.2, b.3)))
      (place_or_breaks n))
      inr
      (keeps_or_finds few n)

  pub sound_or_finds : Sound K N ⊎ ((f : Fault) × Finds K N f)
  sound_or_finds = ⊎_elim
      (λ a. inr (Size, inl a))
      (λ a. ⊎_elim
      (λ b. inr (Size, inr b))
      (λ b. ⊎_elim (λ G. inl (sound_if_all K N (a, b) G)) inr (keeps_or_finds (a, b) N.places))
      (cases_lt 4096 N.places))
      (cases_lt 4096 N.nodes)
