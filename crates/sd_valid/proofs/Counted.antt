-- Containers of lists of states and items, one after another.
use Rattle.std.proofs.Common.{◌≡◌, ℕ, suc, ◌+◌, ◌<◌, List, ◌++◌, map, length, drop, slice_index_or, Ok, Err, ap, sym, subst, ◌∙◌, add-one, drop-cons}
use Rattle.sd_graph.specs.ContainerParts.{Containers}
use Rattle.sd_graph.specs.TreeFold.{item_tree, item_trees, kind_tree, state_tree, state_trees, graph_tree, named_container, PlainItem, PlainState, kind_step, item_step, graph_step, state_step}
use Rattle.sd_graph.specs.PlainTree.{KindTree, GraphTree}
use Rattle.sd_graph.specs.declared.graph.ItemKind.TheFolds.{fold_out-Item}
use Rattle.sd_graph.specs.declared.graph.Item.{Item}
use Rattle.sd_graph.specs.declared.graph.State.{State, out-State}
use Rattle.sd_graph.specs.declared.graph.Sdfg.{Sdfg, out-Sdfg}
use Rattle.sd_graph.proofs.TreeLemmas.{state_opened, graph_opened}
use Rattle.sd_valid.specs.declared.error.BindError.{BindError}
use Rattle.sd_valid.specs.Limits.{tally, kind_containers, items_containers, states_containers, all_containers}
use Rattle.sd_valid.specs.Counting.{Tallies}
use Rattle.sd_valid.proofs.Tallied.{tallies_err, tally_ok}

-- an item: its line and what it does
item_opened : (item : Item) → item_tree item ≡ (item.line, kind_tree item.kind)
item_opened = fold_out-Item KindTree PlainItem GraphTree PlainState kind_step item_step graph_step state_step

-- the containers of the items from one on
pub items_more : (items : List Item) (i : ℕ) (item : Item) → i < length items → item ≡ slice_index_or items i item →
    items_containers (item_trees (drop i items)) ≡ kind_containers (kind_tree item.kind) ++ items_containers (item_trees (drop (i + 1) items))
items_more items i item below is =
    rw (add-one, drop-cons items i item below)
    (ap (λ (first : Item). kind_containers (item_tree first).1 ++ items_containers (item_trees (drop (suc i) items))) (sym is)
    ∙ ap (λ (first : PlainItem). kind_containers first.1 ++ items_containers (item_trees (drop (suc i) items))) (item_opened item))

-- the containers of the states from one on
pub states_more : (states : List State) (i : ℕ) (state : State) → i < length states → state ≡ slice_index_or states i state →
    states_containers (state_trees (drop i states)) ≡ items_containers (item_trees (out-State state).items.items) ++ states_containers (state_trees (drop (i + 1) states))
states_more states i state below is =
    rw (add-one, drop-cons states i state below)
    (ap (λ (first : State). items_containers (state_tree first).0 ++ states_containers (state_trees (drop (suc i) states))) (sym is)
    ∙ ap (λ (first : PlainState). items_containers first.0 ++ states_containers (state_trees (drop (suc i) states))) (state_opened state))

-- all containers of a graph
pub graph_parts : (graph : Sdfg) → all_containers (graph_tree graph) ≡ map named_container (out-Sdfg graph).containers.entries ++ states_containers (state_trees (out-Sdfg graph).states.items)
graph_parts graph = ap all_containers (graph_opened graph)

-- a total with one part more
pub one_more : (total next before : ℕ) (first rest left all : Containers) → left ≡ first ++ rest → tally total first ≡ Ok next →
    tally total left ≡ tally before all → tally next rest ≡ tally before all
one_more total next before first rest left all parts ok so_far = tally_ok next total first rest ok ∙ ap (tally total) (sym parts) ∙ so_far

-- a refusal in one part
pub one_refused : (error : BindError) (total before : ℕ) (first rest left all : Containers) → left ≡ first ++ rest → Tallies (Err error) (tally total first) →
    tally total left ≡ tally before all → Tallies (Err error) (tally before all)
one_refused error total before first rest left all parts refused so_far =
    subst (Tallies (Err error)) (ap (tally total) (sym parts) ∙ so_far) (tallies_err error total first rest refused)
