-- The wirings that break two rules at once are refused as the table says, and so are the rows of small wirings.
use Rattle.std.proofs.Common.{◌≡◌, ℕ, zero, suc, ◌<◌, ◌≤◌, List, [], ◌∷◌, length, get_or, take, Some, None, Ok, Err, Option, sym, refl, ap, ◌∙◌, subst, inl, inr, arith, lit<, lit≤, length-append}
use lib.ListN.{length-replicate}
use Rattle.std.proofs.lemmas.Option.{none-some, same_Some}
use Rattle.delay.specs.Kind.{Kind}
use Rattle.delay.specs.declared.Picoseconds.{Picoseconds}
use Rattle.delay.specs.Delivered.{picosecond_kind}
use Rattle.wiring.specs.declared.Lead.{Lead}
use Rattle.wiring.specs.Net.{Holds, Sound}
use Rattle.wiring.specs.Lists.{words}
use Rattle.wiring.specs.declared.refusals.Refusal.TheVariants.{Size, Room}
use Rattle.lengths.specs.declared.check.Fault.{Fault}
use Rattle.lengths.specs.declared.check.Fault.TheVariants as fault
use Rattle.lengths.specs.Check.{Sized, Keeps, Breaks, KeepsBelow, refusal_of}
use Rattle.lengths.proofs.Checks.{sound_if_all, finds_first}
use Rattle.drawing.specs.Rows.{wired, Gives}
use Rattle.drawing.proofs.Rows.{rows_are_given_lem}
use Rattle.drawing.proofs.Only.{list_one}
use Rattle.drawing.specs.declared.Counts.{Counts}
use Rattle.drawing.specs.Room.{to_table, from_table, load_table, mark_table}
use Rattle.drawing.specs.Rowed.{over, for_words, for_witness}
use Rattle.choice.specs.Choice.{Lent, Choice, TooShort, short_table, short_row, Enough, Chosen, faulty, too_short}
use Rattle.choice.specs.Orders.{Case, net_of, nothing, RefusedSo, lead, case, room, one_lead, ShortSo, OrdersStand, RoomStands, RowsChosen}
use Rattle.choice.proofs.Choices.{refusal, refuses, pinned, accepts_if, listed, words_taken}

-- a choice that keeps the rules is the only one
only : (x : Case) → Chosen picosecond_kind (net_of x) nothing (refusal nothing x.refusal) → RefusedSo x
only x C = record { answer = λ c D. (pinned D C).answer }

large : (n : ℕ) (ls : List (Option (Lead Picoseconds))) → 4096 < n → RefusedSo (case n ls Size)
large n ls h = only (case n ls Size) (faulty fault.Size (inl h) (refuses nothing Size))

wide : (n : ℕ) (ls : List (Option (Lead Picoseconds))) → 4096 < length ls → RefusedSo (case n ls Size)
wide n ls h = only (case n ls Size) (faulty fault.Size (inr h) (refuses nothing Size))

few : (x : Case) → x.nodes < 4097 → length x.leads < 4097 → Sized (net_of x)
few x a b = (omega arith, omega arith)

-- the lead l at place k has the fault f, and no lead stands before it
bad_at : (n : ℕ) (ls : List (Option (Lead Picoseconds))) (f : Fault) (k : ℕ) (l : Lead Picoseconds) → n < 4097 → length ls < 4097 →
    Holds (net_of (case n ls (refusal_of f))) k l → Breaks picosecond_kind n k l f → ((j : ℕ) → j < k → get_or ls j None ≡ None) → RefusedSo (case n ls (refusal_of f))
bad_at n ls f k l a b h breaks none =
    let x = case n ls (refusal_of f) in
    only x (faulty f (finds_first picosecond_kind (net_of x) (few x a b) k (λ j i m e. absurd (none-some m (sym (none j i) ∙ e))) f (l, h, breaks)) (refuses nothing (refusal_of f)))

-- one good lead, and no room
one_good : (n : ℕ) (l : Lead Picoseconds) → n < 4097 → Keeps picosecond_kind n l → RefusedSo (case n (Some l ∷ []) Room)
one_good n l s keeps = only it (too_short (sound_if_all picosecond_kind (net_of it) (few it s (lit< tt)) good) (short_table (to_table (omega arith))) (refuses nothing Room))
  where
    it : Case
    it = case n (Some l ∷ []) Room

    good : KeepsBelow picosecond_kind (net_of (case n (Some l ∷ []) Room)) 1
    good zero i m h = subst (Keeps picosecond_kind n) (same_Some l m h) keeps
    good (suc k) i m h = absurd (omega arith)

vacant_first : (ls : List (Option (Lead Picoseconds))) (j : ℕ) → j < 1 → get_or (None ∷ ls) j None ≡ None
vacant_first ls zero i = refl
vacant_first ls (suc j) i = absurd (omega arith)

pub orders_stand : OrdersStand
orders_stand = (
  large _ _ (lit< tt),
  (
    wide _ _ (lit< tt),
    (
      large _ _ (lit< tt),
      (
        bad_at _ _ (fault.Ends 0) 0 (lead 2 2 0) (lit< tt) (lit< tt) refl (refl, λ o. omega (arith, o.0)) (λ j i. absurd (omega arith)),
        (
          bad_at _ _ (fault.Ends 0) 0 (lead 2 2 0) (lit< tt) (lit< tt) refl (refl, λ o. omega (arith, o.0)) (λ j i. absurd (omega arith)),
          (
            bad_at _ _ (fault.Ends 0) 0 (lead 1 1 1000001) (lit< tt) (lit< tt) refl (refl, λ o. omega (arith, o.0)) (λ j i. absurd (omega arith)),
            (
              bad_at _ _ (fault.Ends 0) 0 (lead 0 2 1000001) (lit< tt) (lit< tt) refl (refl, λ o. omega (arith, o.1)) (λ j i. absurd (omega arith)),
              (
                bad_at _ _ (fault.Delay 0) 0 (lead 0 1 1000001) (lit< tt) (lit< tt) refl (refl, (lit< tt, lit< tt), refl) (λ j i. absurd (omega arith)),
                (
                  bad_at _ _ (fault.Delay 1) 1 (lead 0 1 1000001) (lit< tt) (lit< tt) refl (refl, (lit< tt, lit< tt), refl) (vacant_first (Some (lead 0 1 1000001) ∷ Some (lead 1 1 0) ∷ [])),
                  (one_good _ (lead 0 1 1000000) (lit< tt) ((lit< tt, lit< tt), refl), tt),
                ),
              ),
            ),
          ),
        ),
      ),
    ),
  ),
)

-- the list 1 0 has one path
one_path : (ps : List (List ℕ)) → words ps ≡ 1 ∷ 0 ∷ [] → length ps ≡ 1
one_path [] e = cc
one_path (p ∷ []) e = refl
one_path (p ∷ q ∷ qs) e = absurd (omega (arith, ap length e, length-append p (words (q ∷ qs)), one))
  where
    one : length p ≡ 1
    one = cc

row_sound : Sound picosecond_kind (wired picosecond_kind one_lead)
row_sound = sound_if_all picosecond_kind (wired picosecond_kind one_lead) (lit≤ tt, lit≤ tt) good
  where
    good : KeepsBelow picosecond_kind (wired picosecond_kind one_lead) 1
    good zero i m h = subst (Keeps picosecond_kind 2) (same_Some _ m h) ((lit< tt, lit< tt), refl)
    good (suc k) i m h = absurd (omega arith)

row_gives : Gives picosecond_kind one_lead
row_gives = rows_are_given_lem.1.0

pub room_stands : RoomStands
room_stands = record {
  just = λ c C. accepts (room 2 2 1 3 2 1) c (enough 2 2 1 3 2 1 (lit≤ tt) (lit≤ tt) (lit≤ tt) (lit≤ tt) (lit≤ tt) (lit≤ tt)) C;
  more = λ c C. accepts (room 9 9 9 9 4 9) c (enough 9 9 9 9 4 9 (lit≤ tt) (lit≤ tt) (lit≤ tt) (lit≤ tt) (lit≤ tt) (lit≤ tt)) C;
  less = (
    short (room 1 2 1 3 2 1) (short_table (to_table (lit< tt))),
    (
      short (room 2 1 1 3 2 1) (short_table (from_table (lit< tt))),
      (
        short (room 2 2 0 3 2 1) (short_table (load_table (lit< tt))),
        (
          short (room 2 2 1 2 2 1) (short_table (mark_table (lit< tt))),
          (
            short (room 2 2 1 3 1 1) (short_row (for_words row_gives.paths row_gives.list (omega (arith, ap length row_gives.words_are)))),
            (short (room 2 2 1 3 2 0) (short_row (for_witness row_gives.paths row_gives.list (omega (arith, number)))), tt),
          ),
        ),
      ),
    ),
  );
}
  where
    number : length row_gives.paths ≡ 1
    number = one_path row_gives.paths row_gives.words_are

    short : (g : Lent) → TooShort picosecond_kind (wired picosecond_kind one_lead) g → ShortSo g
    short g s c C = (pinned C (too_short row_sound s (refuses g Room))).answer

    enough : (t f l m ws w : ℕ) → 2 ≤ t → 2 ≤ f → 1 ≤ l → 3 ≤ m → 2 ≤ ws → 1 ≤ w → Enough (wired picosecond_kind one_lead) row_gives.paths (room t f l m ws w)
    enough t f l m ws w a b c d e h = record {
      tables = record { to_table = a; from_table = b; load_table = c; mark_table = d };
      word_row = omega (arith, ap length row_gives.words_are, length-replicate {A = ℕ} ws 7);
      witness_row = omega (arith, number, length-replicate {A = ℕ} w 7);
    }

    accepts : (g : Lent) (c : Choice) → Enough (wired picosecond_kind one_lead) row_gives.paths g → Chosen picosecond_kind (wired picosecond_kind one_lead) g c
        → (c.answer ≡ Ok (record { paths = 1; words = 2 })) × (c.word_row ≡ over g.word_row (1 ∷ 0 ∷ []))
    accepts g c E C =
        let A = accepts_if row_sound row_gives.list E C in
        let ws = ap length row_gives.words_are in
        (A.answer ∙ (λ i. Ok (record { paths = number i; words = ws i })), A.word_row ∙ ap (over g.word_row) row_gives.words_are)

pub rows_chosen : {D : Type 0} {K : Kind D} → RowsChosen K
rows_chosen {D} {K} r G g c S C = (short, given)
  where
    short : length g.word_row < length r.words → c.answer ≡ Err Room
    short h = (pinned C (too_short S (short_row (for_words G.paths G.list (omega (arith, ap length G.words_are)))) (refuses g Room))).answer

    given : (n : Counts) → c.answer ≡ Ok n → (n.words ≡ length r.words) × (take n.words c.word_row ≡ r.words)
    given n e =
        let X = listed C e in
        let same : words X.paths ≡ r.words = ap words (list_one X.list G.list) ∙ G.words_are in
        (ap (λ (m : Counts). m.words) X.is ∙ ap length same, words_taken X ∙ same)
