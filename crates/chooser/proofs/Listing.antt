-- From found loads to the list and its witness.
use Rattle.std.proofs.Common.{◌≡◌, ℕ, ◌-◌, ◌<◌, List, length, sym, ap, ◌∙◌, subst, arith}
use Rattle.delay.specs.Kind.{Kind, Laws}
use Rattle.wiring.specs.Net.{Net}
use Rattle.wiring.specs.Lengths.{Types}
use Rattle.wiring.specs.Loads.{total_load}
use Rattle.wiring.specs.Lists.{Draws, ListOf, Witness, words}
use Rattle.flow.specs.Table.{Table}
use Rattle.flow.specs.Loads.{Tight, total}
use Rattle.marks.specs.declared.mark.Mark.{Mark}
use Rattle.marks.specs.declared.arcs.Arcs.{Arcs}
use Rattle.marks.specs.Marks.{table, classes, load_of, reached_of}
use Rattle.marks.specs.Shown.{shown}
use Rattle.marks.specs.Links.{Linked}
use Rattle.cover.specs.Arcs.{arc_table}
use Rattle.cover.proofs.Arcs.{same_total}
use Rattle.cover.proofs.Whole.{witness_of_cut}
use Rattle.drawing.specs.Rowed.{RowShort, for_words, for_witness}
use Rattle.drawing.proofs.Whole.{drawing_ends_lem}
use Rattle.drawing.specs.Claims.{DrawnFrom}
use Rattle.loads.specs.Cut.{entered}
use Rattle.listing.specs.declared.links.Links.{Links}
use Rattle.listing.specs.Shows.{Shows}
use Rattle.listing.specs.Whole.{Whole}
use Rattle.listing.specs.Costs.{WordsNumber}
use Rattle.chooser.specs.Ready.{Ready}
use Rattle.chooser.proofs.Shown.{shown_arcs}

module _ {D : Type 0} {K : Kind D} (L : Laws K) {N : Net D} {ns ps : List Mark} {xs : List ℕ} (R : Ready K N ns ps xs)
    (a : Arcs) (at : a.marks.now ≡ ps) (is : shown a ≡ table ps (length ns) 0 (length ns - 1)) where
  -- the arcs in view are those of the wiring
  pub in_view : shown a ≡ arc_table N (classes a.marks.now)
  in_view = is
      ∙ shown_arcs R.sound R.two (classes ps) ps R.arcs (length ns) (length ns - 1) R.nodes (ap (λ n. n - 1) R.nodes)
      ∙ ap (λ (qs : List Mark). arc_table N (classes qs)) (sym at)

  -- its nodes are linked
  pub ready_whole : (ms : List Mark) → ms ≡ ns → a.nodes ≡ length ns → Whole a ms
  ready_whole ms f n = record {
    nodes = ap length f ∙ sym n;
    linked = subst (λ (qs : List Mark). Linked qs ms 0) (sym at) (subst (λ (qs : List Mark). Linked ps qs 0) (sym f) R.linked);
  }

  pub ready_shows : (l : Links) → l.arcs ≡ a → Shows K N l
  ready_shows l e = record {
    sound = R.sound;
    types = subst (λ (x : Arcs). Types K N (classes x.marks.now)) (sym e) (subst (λ (qs : List Mark). Types K N (classes qs)) (sym at) R.types);
    arcs = subst (λ (x : Arcs). shown x ≡ arc_table N (classes x.marks.now)) (sym e) in_view;
  }

  -- the list that can be drawn
  pub drawn : DrawnFrom K N (classes ps) (load_of xs)
  drawn = drawing_ends_lem L N R.sound (classes ps) R.types (load_of xs) R.best.loads

  pub is_list : (qs : List (List ℕ)) → Draws N (classes ps) (load_of xs) qs → ListOf K N qs
  is_list qs d = record { marks = classes ps; types = R.types; loads = load_of xs; best = R.best; draws = d }

  -- as many paths as the total
  pub paths_number : total (shown a) (load_of xs) ≡ length drawn.list
  paths_number =
      ap (λ (T : Table). total T (load_of xs)) (in_view ∙ ap (λ (qs : List Mark). arc_table N (classes qs)) at)
      ∙ same_total R.sound (classes ps) (load_of xs)
      ∙ sym drawn.number

  pub words_short : (row witness : List ℕ) (n : ℕ) → WordsNumber N (classes a.marks.now) (load_of xs) n → length row < n → RowShort K N row witness
  words_short row witness n W h =
      let number : length (words drawn.list) ≡ n =
      W drawn.list (subst (λ (qs : List Mark). Draws N (classes qs) (load_of xs) drawn.list) (sym at) drawn.draws) in
      for_words drawn.list (is_list drawn.list drawn.draws) (omega arith)

  pub witness_short : (row witness : List ℕ) (n : ℕ) → n ≡ total (shown a) (load_of xs) → length witness < n → RowShort K N row witness
  witness_short row witness n e h = let number = paths_number in for_witness drawn.list (is_list drawn.list drawn.draws) (omega arith)

  -- the leads that enter the cut
  pub shown_witness : Tight (arc_table N (classes ps)) (load_of xs) (reached_of ns) → Witness K N (length drawn.list) (entered (shown a) ns)
  shown_witness T =
      subst (λ (n : ℕ). Witness K N n (entered (shown a) ns)) (sym drawn.number)
      (subst (λ (T : Table). Witness K N (total_load N (classes ps) (load_of xs)) (entered T ns))
      (sym (in_view ∙ ap (λ (qs : List Mark). arc_table N (classes qs)) at))
      (witness_of_cut L N R.sound (classes ps) R.types (load_of xs) R.best.loads (reached_of ns) T))
