-- The items of a state, as they are found in code.
use Rattle.std.proofs.Common.{◌≡◌, ℕ, zero, suc, ◌<◌, ◌≤◌, List, [], ◌∷◌, length, get_or, refl, sym, ◌∙◌, ap, arith}
use Rattle.sd_graph.specs.PlainTree.{KindTree, no_item, StateTrees, GraphTree}
use Rattle.sd_graph.specs.TreeParts.{states_of_graph, items_at}
use Rattle.sd_graph.specs.TreeFold.{PlainItem, PlainState, kind_step, item_step, graph_step, state_step, kind_tree, graph_tree, item_tree, item_trees, state_tree, state_trees}
use Rattle.sd_graph.specs.declared.graph.Item.{Item}
use Rattle.sd_graph.specs.declared.graph.State.{State}
use Rattle.sd_graph.specs.declared.graph.Sdfg.{Sdfg}
use Rattle.sd_graph.specs.declared.graph.ItemKind.TheViews.{out-State, out-Sdfg}
use Rattle.sd_graph.specs.declared.graph.ItemKind.TheFolds.{fold_out-Item}
use Rattle.sd_graph.proofs.TreeLemmas.{state_opened, graph_opened}
use Rattle.sd_safe.specs.pieces.ItemPieces.{state_items}

items-in : (states : List State) (state : ℕ) (here : State) → state < length states → here ≡ get_or states state here → items_at (state_trees states) state ≡ item_trees (out-State here).items.items
items-in [] state here within is = absurd (omega (arith, within))
items-in (first ∷ states) zero here within is = ap (λ (s : State). (state_tree s).0) (sym is) ∙ ap (λ (s : PlainState). s.0) (state_opened here)
items-in (first ∷ states) (suc state) here within is = items-in states state here (omega (arith, within)) is

items-past : (states : List State) (state : ℕ) → length states ≤ state → items_at (state_trees states) state ≡ no_item
items-past [] state past = refl
items-past (first ∷ states) zero past = absurd (omega (arith, past))
items-past (first ∷ states) (suc state) past = items-past states state (omega (arith, past))

states-in : (g : Sdfg) → states_of_graph (graph_tree g) ≡ state_trees (out-Sdfg g).states.items
states-in g = ap states_of_graph (graph_opened g)

-- no state has this number
pub none-there : (g : Sdfg) (states : List State) (state : ℕ) → states ≡ (out-Sdfg g).states.items → length states ≤ state → no_item ≡ state_items (graph_tree g) state
none-there g states state same past = sym (ap (λ (s : StateTrees). items_at s state) (states-in g ∙ ap state_trees (sym same)) ∙ items-past states state past)

-- the items of a state that is there
pub items-there : (g : Sdfg) (states : List State) (state : ℕ) (here : State) → states ≡ (out-Sdfg g).states.items → state < length states → here ≡ get_or states state here →
    item_trees (out-State here).items.items ≡ state_items (graph_tree g) state
items-there g states state here same within is = sym (ap (λ (s : StateTrees). items_at s state) (states-in g ∙ ap state_trees (sym same)) ∙ items-in states state here within is)

-- an item: its line and what it does
item-opened : (item : Item) → item_tree item ≡ (item.line, kind_tree item.kind)
item-opened = fold_out-Item KindTree PlainItem GraphTree PlainState kind_step item_step graph_step state_step

-- what an item does that is found at a number
pub kind-at : (items : List Item) (n : ℕ) (found : Item) → found ≡ get_or items n found → kind_tree (get_or items n found).kind ≡ (item_tree found).1
kind-at items n found is = ap (λ (item : Item). kind_tree item.kind) (sym is) ∙ sym (ap (λ (plain : PlainItem). plain.1) (item-opened found))
