use Rattle.std.proofs.Common.{◌≡◌, ℕ, List, length, refl, subst, arith}
use Rattle.wiring.specs.Lists.{Draws, Witness}
use Rattle.marks.specs.declared.mark.Mark.{Mark}
use Rattle.marks.specs.Marks.{classes, load_of}
use Rattle.marks.specs.Shown.{shown}
use Rattle.loads.specs.Cut.{entered}
use Rattle.drawing.proofs.Only.{draws_one}
use Rattle.chooser.proofs.Shown.{ready_sound}
use Rattle.chooser.proofs.Listing.{drawn, is_list, paths_number, words_short, witness_short, shown_witness}
use Rattle.chooser.proofs.list.write_rows.Goals as goal

pub arcs_of-arcs-requires-clause-sound : goal.arcs_of-arcs-requires-clause-sound
arcs_of-arcs-requires-clause-sound g c = ready_sound c.requires.ready

pub returns-then-count_words-words : goal.returns-then-count_words-words
returns-then-count_words-words g c =
    let A = c.arcs_of-arcs.ensures in (
      refl,
      words_short g.met.D.Delay.laws c.requires.ready c.arcs_of-arcs.result A.places A.shown c.args.words.now c.args.witness.now
          c.count_words.result c.count_words.ensures c.if-count_words-words.true,
      refl,
      refl,
    )

pub returns-then-count_paths-witness : goal.returns-then-count_paths-witness
returns-then-count_paths-witness g c =
    let A = c.arcs_of-arcs.ensures in (
      refl,
      witness_short g.met.D.Delay.laws c.requires.ready c.arcs_of-arcs.result A.places A.shown c.args.words.now c.args.witness.now
          c.count_paths.result c.count_paths.ensures c.if-count_paths-witness.true,
      refl,
      refl,
    )

pub write_witness-leads-requires : goal.write_witness-leads-requires
write_witness-leads-requires g c =
    let A = c.arcs_of-arcs.ensures in let L = g.met.D.Delay.laws in let R = c.requires.ready in let a = c.arcs_of-arcs.result in
    let W = shown_witness L R a A.places A.shown c.requires.cut in
    omega (arith, W.count, paths_number L R a A.places A.shown, c.count_paths.ensures, c.if-count_paths-witness.false)

pub returns : goal.returns
returns g c =
    let A = c.arcs_of-arcs.ensures in let L = g.met.D.Delay.laws in let R = c.requires.ready in let a = c.arcs_of-arcs.result in
    let K = g.D.Delay.kind in let N = g.W.Wiring.net c.args.w.now in let xs = c.args.loads.now in let ps = c.args.places.now in
    let P = c.write_list.ensures.list in
    let d : Draws N (classes ps) (load_of xs) P.list = subst (λ (qs : List Mark). Draws N (classes qs) (load_of xs) P.list) A.places P.draws in
    let T = drawn L R a A.places A.shown in
    let same : T.list ≡ P.list = draws_one N (classes ps) (load_of xs) T.list P.list T.draws d in
    let w : List ℕ = entered (shown a) c.args.nodes.now in
    record {
      list = P.list;
      is_list = is_list L R a A.places A.shown P.list d;
      numbers = λ i. record { paths = P.path_number i; words = P.word_number i };
      words_are = P.row_is;
      witness = w;
      shows = subst (λ (qs : List (List ℕ)). Witness K N (length qs) w) same (shown_witness L R a A.places A.shown c.requires.cut);
      witness_is = c.write_witness-leads.ensures.row;
    }
