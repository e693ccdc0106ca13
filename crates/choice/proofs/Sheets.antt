-- Equal sheets have the same list, whatever calls and tables made them.
use Rattle.std.proofs.Common.{◌≡◌, ℕ, List, get_or, ap, ap₂}
use Rattle.delay.specs.Kind.{Kind, Laws}
use Rattle.wiring.specs.Lists.{words}
use Rattle.drawing.proofs.Only.{list_one}
use Rattle.drawing.proofs.Alike.{same_leads}
use Rattle.circuit.specs.Sheet.{PlainSheet}
use Rattle.circuit.specs.Spread.{half, edge_of, spread_place, spread}
use Rattle.choice.specs.Claims.{Equal, ListsCarryOver, HistoriesAgree}

-- the spreads of equal sheets have the same leads
spreads_same : {D : Type 0} (K : Kind D) (s t : PlainSheet) → Equal s t → (j : ℕ) → (spread K s).at j ≡ (spread K t).at j
spreads_same K s t e j = ap₂ (λ (xs : List ℕ) o. spread_place (λ v. get_or xs v 0) K (edge_of j) o) e.signs (e.leads (half j))

module _ {D : Type 0} {K : Kind D} (L : Laws K) where
  pub lists_carry_over : ListsCarryOver K
  lists_carry_over z y s t h i e ps l = same_leads K (spread K s) (spread K t) (spreads_same K s t e) ps l

  pub histories_agree : HistoriesAgree K
  histories_agree z y s t h i e ps qs l m =
      let same : ps ≡ qs = list_one (lists_carry_over z y s t h i e ps l) m in
      (same, ap words same)
