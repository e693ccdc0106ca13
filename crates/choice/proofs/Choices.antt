-- Every choice has an outcome, only the witness is free in it, and an accepted list is right.
use Rattle.std.proofs.Common.{◌≡◌, ℕ, ◌+◌, ◌<◌, ◌⊎◌, List, [], ◌∷◌, ◌++◌, length, take, drop, Ok, Err, Result, sym, refl, ap, ◌∙◌, subst, inl, inr, ⊎_elim, arith}
use Rattle.std.specs.List.{All}
use Rattle.std.proofs.lemmas.List.{take_at, drop_at}
use Rattle.std.proofs.lemmas.List.Elements.{All-nil, All-cons, All-append, All-weaker, recursion_from_All}
use Rattle.std.proofs.lemmas.Bool.{cases_lt}
use Rattle.delay.specs.Kind.{Kind, Laws}
use Rattle.wiring.specs.Net.{Net, Sound}
use Rattle.wiring.specs.Paths.{Run, stay, along}
use Rattle.wiring.specs.Lists.{ListOf, words, OneOf, Witness}
use Rattle.wiring.proofs.Ends.{below_places}
use Rattle.drawing.proofs.Only.{list_one}
use Rattle.drawing.proofs.Whole.{list_smallest, list_is_smallest_cover_lem}
use Rattle.wiring.specs.declared.refusals.Refusal.{Refusal}
use Rattle.wiring.specs.declared.refusals.Refusal.TheVariants.{Room}
use Rattle.lengths.specs.Check.{refusal_of}
use Rattle.lengths.proofs.Pinned.{finds_one, sound_finds_none, sound_or_finds}
use Rattle.circuit.specs.Spread.{spread}
use Rattle.circuit.proofs.Claims.{spreads_are_sound}
use Rattle.choice.proofs.Sheets.{lists_carry_over, histories_agree}
use Rattle.drawing.specs.declared.Counts.{Counts}
use Rattle.drawing.specs.Room.{to_table, from_table, load_table, mark_table}
use Rattle.drawing.specs.Rowed.{over, counts, for_words, for_witness}
use Rattle.choice.specs.Choice.{Lent, Choice, TooShort, short_table, short_row, Early, by_fault, by_table, Enough, Refuses, Accepts, Chosen, faulty, too_short, accepted}
use Rattle.choice.specs.Claims.{witness_size, Agree, ChoiceExists, ChoicePinned, ChoiceRight, EarlyRefused, ChoiceAccepts, SpreadsWantRoom, EqualSheetsAgree, ChoicesStand}

-- a refusal that leaves the rows
abbrev pub refusal : Lent → Refusal → Choice
refusal g r = record { answer = Err r; word_row = g.word_row; witness_row = g.witness_row }

pub refuses : (g : Lent) (r : Refusal) → Refuses g r (refusal g r)
refuses g r = record { answer = refl; word_row = refl; witness_row = refl }

refused_agree : {g : Lent} {r q : Refusal} {c d : Choice} → r ≡ q → Refuses g r c → Refuses g q d → Agree c d
refused_agree {c = c} e A B = record {
  answer = A.answer ∙ (ap Err e ∙ sym B.answer);
  word_row = A.word_row ∙ sym B.word_row;
  witness_row = ap (drop (witness_size c.answer)) (A.witness_row ∙ sym B.witness_row);
}

over_past : (row xs : List ℕ) (n : ℕ) → length xs ≡ n → drop n (over row xs) ≡ drop n row
over_past row xs n e = drop_at xs (drop (length xs) row) n e ∙ ap (λ (k : ℕ). drop k row) e

accepted_agree : {D : Type 0} {K : Kind D} {N : Net D} {g : Lent} {ps qs : List (List ℕ)} {c d : Choice} → ps ≡ qs → Accepts K N g ps c → Accepts K N g qs d → Agree c d
accepted_agree {g = g} {ps = ps} {c = c} {d = d} e A B = record {
  answer = A.answer ∙ (ap (λ xs. Ok (counts xs)) e ∙ sym B.answer);
  word_row = A.word_row ∙ (ap (λ xs. over g.word_row (words xs)) e ∙ sym B.word_row);
  witness_row = subst (λ (n : ℕ). drop n c.witness_row ≡ drop n d.witness_row) (sym (ap witness_size A.answer))
      (ap (drop (length ps)) A.witness_row ∙ (over_past g.witness_row A.witness (length ps) A.shows.count
      ∙ (sym (over_past g.witness_row B.witness (length ps) (B.shows.count ∙ ap length (sym e))) ∙ ap (drop (length ps)) (sym B.witness_row))));
}

module _ {D : Type 0} {K : Kind D} {N : Net D} {g : Lent} where
  enough_or_short : (ps : List (List ℕ)) → ListOf K N ps → Enough N ps g ⊎ TooShort K N g
  enough_or_short ps X =
      ⊎_elim (λ s. inr (short_table (to_table s))) (λ a.
      ⊎_elim (λ s. inr (short_table (from_table s))) (λ b.
      ⊎_elim (λ s. inr (short_table (load_table s))) (λ c.
      ⊎_elim (λ s. inr (short_table (mark_table s))) (λ d.
      ⊎_elim (λ s. inr (short_row (for_words ps X s))) (λ e.
      ⊎_elim (λ s. inr (short_row (for_witness ps X s))) (λ f. inl (record { tables = record { to_table = a; from_table = b; load_table = c; mark_table = d }; word_row = e; witness_row = f }))
      (cases_lt (length g.witness_row) (length ps)))
      (cases_lt (length g.word_row) (length (words ps))))
      (cases_lt g.tables.mark_table (N.nodes + N.places)))
      (cases_lt g.tables.load_table N.places))
      (cases_lt g.tables.from_table N.nodes))
      (cases_lt g.tables.to_table N.nodes)

  enough_and_short : {ps : List (List ℕ)} → ListOf K N ps → Enough N ps g → TooShort K N g → ⊥
  enough_and_short X E (short_table (to_table s)) = omega (arith, E.tables.to_table)
  enough_and_short X E (short_table (from_table s)) = omega (arith, E.tables.from_table)
  enough_and_short X E (short_table (load_table s)) = omega (arith, E.tables.load_table)
  enough_and_short X E (short_table (mark_table s)) = omega (arith, E.tables.mark_table)
  enough_and_short X E (short_row (for_words qs Y s)) = omega (arith, E.word_row, ap (λ xs. length (words xs)) (list_one X Y))
  enough_and_short X E (short_row (for_witness qs Y s)) = omega (arith, E.witness_row, ap length (list_one X Y))

  pub pinned : {c d : Choice} → Chosen K N g c → Chosen K N g d → Agree c d
  pinned (faulty f a p) (faulty h b q) = refused_agree (ap refusal_of (finds_one K N f h a b)) p q
  pinned (faulty f a p) (too_short S s q) = absurd (sound_finds_none K N S f a)
  pinned (faulty f a p) (accepted S qs Y E q) = absurd (sound_finds_none K N S f a)
  pinned (too_short S s p) (faulty h b q) = absurd (sound_finds_none K N S h b)
  pinned (too_short S s p) (too_short T t q) = refused_agree refl p q
  pinned (too_short S s p) (accepted T qs Y E q) = absurd (enough_and_short Y E s)
  pinned (accepted S ps X E p) (faulty h b q) = absurd (sound_finds_none K N S h b)
  pinned (accepted S ps X E p) (too_short T t q) = absurd (enough_and_short X E t)
  pinned (accepted S ps X E p) (accepted T qs Y F q) = accepted_agree (list_one X Y) p q

  pub accepts_if : {ps : List (List ℕ)} {c : Choice} → Sound K N → ListOf K N ps → Enough N ps g → Chosen K N g c → Accepts K N g ps c
  accepts_if S X E (faulty f a p) = absurd (sound_finds_none K N S f a)
  accepts_if S X E (too_short T s p) = absurd (enough_and_short X E s)
  accepts_if {c = c} S X E (accepted T qs Y H p) = subst (λ (xs : List (List ℕ)). Accepts K N g xs c) (list_one Y X) p

  early_refused : {c : Choice} → Early K N g → Chosen K N g c → (r : Refusal) × Refuses g r c
  early_refused e (faulty f a p) = (refusal_of f, p)
  early_refused e (too_short S s p) = (Room, p)
  early_refused (by_fault f a) (accepted S qs Y H p) = absurd (sound_finds_none K N S f a)
  early_refused (by_table S s) (accepted T qs Y H p) = absurd (enough_and_short Y H (short_table s))

  exists : Laws K → (c : Choice) × Chosen K N g c
  exists L = ⊎_elim in_form (λ b. (refusal g (refusal_of b.0), faulty b.0 b.1 (refuses g (refusal_of b.0)))) (sound_or_finds K N)
    where
      in_form : Sound K N → (c : Choice) × Chosen K N g c
      in_form S =
          let r = list_is_smallest_cover_lem L N S in
          let ps = r.0 in
          let w = r.2.witness in
          ⊎_elim
          (λ E. (
            record { answer = Ok (counts ps); word_row = over g.word_row (words ps); witness_row = over g.witness_row w.0 },
            accepted S ps r.1 E (record { answer = refl; word_row = refl; witness = w.0; shows = w.1; witness_row = refl }),
          ))
          (λ s. (refusal g Room, too_short S s (refuses g Room)))
          (enough_or_short ps r.1)

-- the leads of a run are places
run_places : {D : Type 0} {N : Net D} {u v : ℕ} {ks : List ℕ} → Run N u v ks → All (λ k. k < N.places) ks
run_places {N = N} (stay e) = All-nil (λ k. k < N.places)
run_places {N = N} (along {k = k} {ks = ks} l h t r) = All-cons (λ k. k < N.places) k ks (below_places N k l h) (run_places r)

-- an answer is Ok or Err, and not both
not_both : {n : Counts} {r : Refusal} {a : Result Counts Refusal} → a ≡ Ok n → a ≡ Err r → ⊥
not_both e f = cc

-- an accepted choice, with its list
pub record Listed {D : Type 0} (K : Kind D) (N : Net D) (g : Lent) (n : Counts) (c : Choice) : Type 0 where
  pub sound : Sound K N
  pub paths : List (List ℕ)
  pub list : ListOf K N paths
  pub accepts : Accepts K N g paths c
  pub is : n ≡ counts paths

pub listed : {D : Type 0} {K : Kind D} {N : Net D} {g : Lent} {c : Choice} {n : Counts} → Chosen K N g c → c.answer ≡ Ok n → Listed K N g n c
listed (faulty f a p) e = absurd (not_both e p.answer)
listed (too_short f s p) e = absurd (not_both e p.answer)
listed {n = n} (accepted f ps X E p) e = record { sound = f; paths = ps; list = X; accepts = p; is = let q = p.answer in cc }

pub words_taken : {D : Type 0} {K : Kind D} {N : Net D} {g : Lent} {c : Choice} {n : Counts} (X : Listed K N g n c) → take n.words c.word_row ≡ words X.paths
words_taken {g = g} {n = n} X = ap (take n.words) X.accepts.word_row ∙ take_at (words X.paths) _ n.words (sym (ap (λ (m : Counts). m.words) X.is))

words_below : (m : ℕ) (ps : List (List ℕ)) → ((p : List ℕ) → OneOf ps p → (length p < m) × All (λ k. k < m) p) → All (λ w. w < m) (words ps)
words_below m [] h = All-nil (λ w. w < m)
words_below m (p ∷ ps) h =
    let here = h p (inl refl) in
    All-cons (λ w. w < m) (length p) (p ++ words ps) here.0 (All-append (λ w. w < m) p (words ps) here.1 (words_below m ps (λ q o. h q (inr o))))

module _ {D : Type 0} {K : Kind D} (L : Laws K) where
  pub choice_exists : ChoiceExists K
  choice_exists N g = exists L

  pub choice_pinned : ChoicePinned K
  choice_pinned N g c d C E = pinned C E

  pub choice_right : ChoiceRight K
  choice_right N g c n C e =
      let X = listed C e in
      let S = X.sound in
      let F = list_smallest L N S X.paths X.list in
      let A = X.accepts in
      let number : length X.paths ≡ n.paths = sym (ap (λ (m : Counts). m.paths) X.is) in
      let taken : take n.paths c.witness_row ≡ A.witness = ap (take n.paths) A.witness_row ∙ take_at A.witness _ n.paths (A.shows.count ∙ number) in
      record {
        paths = X.paths;
        list = X.list;
        path_number = number;
        word_number = sym (ap (λ (m : Counts). m.words) X.is);
        words_are = words_taken X;
        words_fit = recursion_from_All (λ w. w < 4096) (words X.paths) (words_below 4096 X.paths (λ p o. (
          omega (arith, F.short p o, S.few_nodes),
          All-weaker (λ k. k < N.places) (λ k. k < 4096) (λ k h. omega (arith, S.few_places)) p (run_places (F.paths p o).run),
        )));
        are_paths = F.paths;
        covers = F.covers;
        least = λ qs P V. omega (arith, F.least qs P V);
        witness = subst (λ (m : ℕ). Witness K N m (take n.paths c.witness_row)) number (subst (Witness K N (length X.paths)) (sym taken) A.shows);
      }

  pub early_refuses : EarlyRefused K
  early_refuses N g c E C = early_refused E C

  pub choice_accepts : ChoiceAccepts K
  choice_accepts N ps F X g c E C = accepts_if F X E C

  pub spreads_want_room : SpreadsWantRoom K
  spreads_want_room z s H g c r C e = go C
    where
      go : Chosen K (spread K s) g c → r ≡ Room
      go (faulty f a p) = absurd (sound_finds_none K (spread K s) (spreads_are_sound L z s H) f a)
      go (too_short S t p) = let q = p.answer in cc
      go (accepted S ps X E p) = absurd (not_both p.answer e)

  pub equal_sheets_agree : EqualSheetsAgree K
  equal_sheets_agree z y s t H I Q g h c d n m C E e f =
      let X = listed C e in
      let Y = listed E f in
      let same = histories_agree L z y s t H I Q X.paths Y.paths X.list Y.list in
      (X.is ∙ (ap counts same.0 ∙ sym Y.is), words_taken X ∙ (same.1 ∙ sym (words_taken Y)))

  pub choices_stand_lem : ChoicesStand K
  choices_stand_lem = record {
    exists = choice_exists;
    pinned = choice_pinned;
    right = choice_right;
    early = early_refuses;
    accepts = choice_accepts;
    want_room = spreads_want_room;
    carry_over = lists_carry_over L;
    histories = histories_agree L;
    agree = equal_sheets_agree;
  }
