-- A list under way: the paths drawn stand in the row, and the rest is still to come.
use Rattle.std.proofs.Common.{◌≡◌, ℕ, ◌+◌, ◌<◌, ◌≤◌, false, List, [], ◌∷◌, ◌++◌, length, drop, sym, refl, ap, ◌∙◌, subst, inl, inr, append_assoc, append-nil, arith}
use Rattle.std.proofs.lemmas.Bool.{both_ways}
use Rattle.std.proofs.lemmas.List.{length-append, length_push}
use Rattle.wiring.specs.Net.{Net}
use Rattle.wiring.specs.Lengths.{Marks}
use Rattle.wiring.specs.Lists.{Lowest, lowered, begins, Drawn, Draws, words, OneOf}
use Rattle.flow.proofs.Exist.{lowest_one}
use Rattle.drawing.specs.Progress.{DrawnTo}
use Rattle.drawing.proofs.Progress.{drawn_step, drawn_done}
use Rattle.drawing.proofs.Only.{drawn_one}
use Rattle.drawing.proofs.Parts.{first_parts}
use Rattle.listing.specs.declared.row.WordRow.{WordRow}
use Rattle.listing.specs.Row.{written, unwritten, Wrote}
use Rattle.listing.specs.Paths.{PathFits, PathPut}
use Rattle.listing.specs.Lists.{ListPut}
use Rattle.listing.proofs.Rows.{row_parts, wrote_none, wrote_room, wrote_more}

words_push : (ps : List (List ℕ)) (p : List ℕ) → words (ps ++ (p ∷ [])) ≡ words ps ++ (length p ∷ p)
words_push [] p = ap (λ (r : List ℕ). length p ∷ r) (append-nil p)
words_push (q ∷ ps) p =
    ap (λ (r : List ℕ). length q ∷ (q ++ r)) (words_push ps p) ∙ ap (λ (r : List ℕ). length q ∷ r) (sym (append_assoc q (words ps) (length p ∷ p)))

paths_few : (ps : List (List ℕ)) → length ps ≤ length (words ps)
paths_few [] = omega arith
paths_few (p ∷ ps) = omega (arith, paths_few ps, length-append p (words ps))

module _ {D : Type 0} (N : Net D) (m : Marks) where
  -- the paths done have been written into the row before, and there is room for the rest
  pub record ListWay (first : ℕ → ℕ) (before : WordRow) (left : ℕ → ℕ) (r : WordRow) (paths : ℕ) : Type 0 where
    pub done : List (List ℕ)
    pub rest : List (List ℕ)
    pub come : DrawnTo N m first done left
    pub draws : Draws N m left rest
    pub short : (p : List ℕ) → OneOf rest p → length p < 65536
    pub room : length (words rest) ≤ length (unwritten r)
    pub put : Wrote before r (words done)
    pub paths_is : paths ≡ length done

  pub list_start : (left : ℕ → ℕ) (r : WordRow) (ps : List (List ℕ)) → Draws N m left ps → ((p : List ℕ) → OneOf ps p → length p < 65536) →
      length (words ps) ≤ length (unwritten r) → ListWay left r left r 0
  list_start left r ps d short room = record {
    done = [];
    rest = ps;
    come = λ k. refl;
    draws = d;
    short = short;
    room = room;
    put = wrote_none r;
    paths_is = refl;
  }

  -- the next path of the rest
  record Next (left : ℕ → ℕ) (rest : List (List ℕ)) : Type 0 where
    path : List ℕ
    others : List (List ℕ)
    rest_is : rest ≡ path ∷ others
    core : List ℕ
    drawn : Drawn N m left core path
    draws : Draws N m (lowered left core) others

  next_path : (left : ℕ → ℕ) (rest : List (List ℕ)) (start : ℕ) → Lowest (begins N m left) start → Draws N m left rest → Next left rest
  next_path left [] start w d = absurd (omega (arith, (first_parts N m left start w).some, d start))
  next_path left (p ∷ ps) start w d = record { path = p; others = ps; rest_is = refl; core = d.0; drawn = d.1; draws = d.2 }

  module _ {first : ℕ → ℕ} {before : WordRow} {left : ℕ → ℕ} {r : WordRow} {paths : ℕ} (W : ListWay first before left r paths)
      (start : ℕ) (w : Lowest (begins N m left) start) where
    next : Next left W.rest
    next = next_path left W.rest start w W.draws

    rest_words : length (words W.rest) ≡ 1 + length next.path + length (words next.others)
    rest_words = omega (arith, ap (λ (ps : List (List ℕ)). length (words ps)) next.rest_is, length-append next.path (words next.others))

    pub next_fits : PathFits N m left start r
    next_fits = record {
      core = next.core;
      path = next.path;
      drawn = next.drawn;
      first = lowest_one next.drawn.lowest w;
      room = omega (arith, rest_words, W.room);
      short = W.short next.path (subst (λ (ps : List (List ℕ)). OneOf ps next.path) (sym next.rest_is) (inl refl));
    }

    -- there are fewer paths than words
    pub list_few : paths < length (written before) + length (unwritten before)
    list_few = omega (arith, paths_few W.done, rest_words, W.room, W.paths_is, wrote_room W.put)

    module _ {r1 : WordRow} {left1 : ℕ → ℕ} (P : PathPut N m left r left1 r1) where
      same : (P.core ≡ next.core) × (P.path ≡ next.path)
      same = drawn_one N m P.drawn next.drawn

      pub list_less : length (unwritten r1) < length (unwritten r)
      list_less = omega (arith, rest_words, W.room, ap length same.1, wrote_room P.put)

      pub list_turn : ListWay first before left1 r1 (paths + 1)
      list_turn =
          let p = P.path in let done = W.done in
          record {
            done = done ++ (p ∷ []);
            rest = next.others;
            come = subst (DrawnTo N m first (done ++ (p ∷ []))) (sym P.left_is) (drawn_step N m first done left P.core p W.come P.drawn);
            draws = subst (λ (f : ℕ → ℕ). Draws N m f next.others) (ap (lowered left) (sym same.0) ∙ sym P.left_is) next.draws;
            short = λ q i. W.short q (subst (λ (ps : List (List ℕ)). OneOf ps q) (sym next.rest_is) (inr i));
            room = omega (arith, rest_words, W.room, ap length same.1, wrote_room P.put);
            put = subst (Wrote before r1) (sym (words_push done p)) (wrote_more W.put P.put);
            paths_is = omega (arith, W.paths_is, length_push done p);
          }

  -- where no start lead has something left, nothing is left
  nothing : (left : ℕ → ℕ) (rest : List (List ℕ)) → Draws N m left rest → ((k : ℕ) → begins N m left k ≡ false) → (k : ℕ) → left k ≡ 0
  nothing left [] d z = d
  nothing left (p ∷ ps) d z = absurd (both_ways (begins N m left d.1.start) (z d.1.start) d.1.lowest.holds)

  module _ {first : ℕ → ℕ} {before : WordRow} {left : ℕ → ℕ} {r : WordRow} {paths : ℕ} (W : ListWay first before left r paths)
      (z : (k : ℕ) → begins N m left k ≡ false) where
    pub list_none : (k : ℕ) → left k ≡ 0
    list_none = nothing left W.rest W.draws z

    pub list_end : {row after : List ℕ} {number : ℕ} → written before ≡ [] → unwritten before ≡ row → after ≡ r.row.now → number ≡ length (written r) →
        ListPut N m first row after (record { paths = paths; words = number })
    list_end {row} e i a n =
        let words_are : written r ≡ words W.done = W.put.words ∙ ap (λ (f : List ℕ). f ++ words W.done) e in
        record {
          list = W.done;
          draws = drawn_done N m first W.done left W.come list_none;
          row_is = a ∙ row_parts r ∙ ap (λ (f : List ℕ). f ++ unwritten r) words_are
              ∙ ap (λ (f : List ℕ). words W.done ++ f) (W.put.rest ∙ ap (drop (length (words W.done))) i);
          path_number = W.paths_is;
          word_number = n ∙ ap length words_are;
        }
