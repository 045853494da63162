use Rattle.std.proofs.Common.{◌≡◌, ℕ, List, Some, sym, subst}
use Rattle.std.specs.FinMap.{get}
use Rattle.stable.specs.PagesState.{Pages}
use Rattle.dc_leaf.specs.Leaf.{LeafView}
use Rattle.dc_store.specs.Devices.{IsPage}
use Rattle.dc_store.proofs.system.SystemTxns.fail_at.Goals as goal

pub invariant_of-self-in-Pages : goal.invariant_of-self-in-Pages
invariant_of-self-in-Pages g c =
    let P : Pages → Type 0 =
    λ pages. (id : ℕ) (bytes : List ℕ) → get pages id ≡ Some bytes → (leaf : LeafView) × IsPage bytes leaf in
    record {
      leaves = c.self.invariant.leaves;
      numbers = c.self.invariant.numbers;
      records = c.self.invariant.records;
      numbered = c.self.invariant.numbered;
      named = c.self.invariant.named;
      pages = subst P (sym c.fail_at-in-Pages.ensures.pages) c.self.invariant.pages;
    }
