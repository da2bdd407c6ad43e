-- Lists of items that lead upwards.
use Rattle.std.proofs.Common.{◌≡◌, ℕ, zero, suc, ◌<◌, List, [], ◌∷◌, sym, subst, arith, length, get_or}
use Rattle.sd_graph.specs.Upwards.{KindLeadsUpwards, ItemsLeadUpwards}
use Rattle.sd_graph.specs.TreeFold.{PlainItem, PlainState, kind_step, item_step, graph_step, state_step, kind_tree, item_tree, item_trees}
use Rattle.sd_graph.specs.declared.graph.Item.{Item}
use Rattle.sd_graph.specs.declared.graph.ItemKind.TheViews.{out-Item}
use Rattle.sd_graph.specs.declared.graph.ItemKind.TheFolds.{fold_out-Item}

-- each item of a list leads upwards
pub item_leads : (items : List Item) (index : ℕ) (item : Item) → index < length items → item ≡ get_or items index item → ItemsLeadUpwards (item_trees items) → KindLeadsUpwards (item_tree item).1
item_leads [] index item within is leads = absurd (omega (arith, within))
item_leads (first ∷ items) zero item within is leads =
    subst (λ (i : Item). KindLeadsUpwards (item_tree i).1) (sym is) leads.0
item_leads (first ∷ items) (suc index) item within is leads = item_leads items index item (omega (arith, within)) is leads.1
