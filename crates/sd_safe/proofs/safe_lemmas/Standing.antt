-- An item of a graph that is fit and accepted is so too, wherever it stands.
use Rattle.std.proofs.Common.{◌≡◌, inl, inr, ℕ, suc, List, [], ◌++◌, subst}
use Rattle.sd_graph.specs.PlainTree.{KindTree, task, map_scope, consume_scope, nested_graph, reduction, copy, ItemTrees, no_item, and_item, StateTrees, no_state, and_state, GraphTree, graph}
use Rattle.sd_graph.specs.ContainerParts.{Containers}
use Rattle.sd_prop.specs.propagation.ItemNodes.{item_nodes, own_node, nodes_behind, past}
use Rattle.sd_prop.specs.propagation.Scopes.{further, scopes_itself, scopes_inside, item_scopes, state_scopes}
use Rattle.sd_race.specs.race.Pairs.{IsScopeAccepted, AreScopesAccepted, IsGraphAccepted}
use Rattle.sd_race.proofs.race_lemmas.Members.{all-parts}
use Rattle.sd_race.specs.cover.Fit.{IsFit, AreFit, AreStatesFit, IsGraphFit}
use Rattle.sd_safe.proofs.safe_lemmas.Accepting.{of_items}
use Rattle.sd_safe.specs.safe.Standing.{Spot, StandsInKind, StandsInItems, StandsInStates, StandsInGraph}

-- it is fit, and its scopes are accepted, with some path and nodes
pub record IsItemAccepted (at : Spot) (kind : KindTree) : Type 0 where
  pub path : List ℕ
  pub nodes : List ℕ
  pub fit : IsFit kind at.around
  pub itself : AreScopesAccepted (scopes_itself kind at.containers path at.around nodes)
  pub within : AreScopesAccepted (scopes_inside kind at.containers path at.around nodes)

-- the same item at the same spot
the-item : (kind sought : KindTree) (here at : Spot) → kind ≡ sought → here ≡ at → IsItemAccepted here kind → IsItemAccepted at sought
the-item kind sought here at is same accepted = subst (λ (spot : Spot). IsItemAccepted spot sought) same (subst (IsItemAccepted here) is accepted)

mutual
  kind-item : (sought : KindTree) (at : Spot) (kind : KindTree) (here : Spot) (path nodes : List ℕ) → StandsInKind sought at kind here → IsFit kind here.around →
      AreScopesAccepted (scopes_inside kind here.containers path here.around nodes) → IsItemAccepted at sought
  kind-item sought at (task code ins outs) here path nodes stands fit accepted = absurd stands
  kind-item sought at (map_scope sequential params private body) here path nodes stands fit accepted =
      items-item sought at body (record here { around = here.around ++ params }) path (nodes_behind nodes) stands fit.1 accepted
  kind-item sought at (consume_scope stream element private body) here path nodes stands fit accepted = items-item sought at body here path (nodes_behind nodes) stands fit accepted
  kind-item sought at (nested_graph (graph name containers arguments variables symbols states) links) here path nodes stands fit accepted =
      states-item sought at states containers (further path (own_node nodes)) 0 stands fit.1.1 accepted
  kind-item sought at (reduction resolution axis identity from to) here path nodes stands fit accepted = absurd stands
  kind-item sought at (copy from to) here path nodes stands fit accepted = absurd stands

  items-item : (sought : KindTree) (at : Spot) (items : ItemTrees) (here : Spot) (path nodes : List ℕ) → StandsInItems sought at items here → AreFit items here.around →
      AreScopesAccepted (item_scopes items here.containers path here.around nodes) → IsItemAccepted at sought
  items-item sought at no_item here path nodes stands fit accepted = absurd stands
  items-item sought at (and_item line kind items) here path nodes stands fit accepted =
      let all = of_items kind items here.containers path here.around nodes accepted in
      elim stands [
        | inl own ↦ the-item kind sought here at own.0 own.1 (record { path = path; nodes = nodes; fit = fit.0; itself = all.itself; within = all.within })
        | inr deeper ↦ elim deeper [
          | inl inside ↦ kind-item sought at kind here path nodes inside fit.0 all.within
          | inr later ↦ items-item sought at items here path (past kind nodes) later fit.1 all.others
        ]
      ]

  states-item : (sought : KindTree) (at : Spot) (states : StateTrees) (containers : Containers) (path : List ℕ) (number : ℕ) → StandsInStates sought at states containers → AreStatesFit states →
      AreScopesAccepted (state_scopes states containers path number) → IsItemAccepted at sought
  states-item sought at no_state containers path number stands fit accepted = absurd stands
  states-item sought at (and_state items exits states) containers path number stands fit accepted =
      let all = all-parts IsScopeAccepted (item_scopes items containers (further path number) [] (item_nodes containers items)) (state_scopes states containers path (suc number)) accepted in
      elim stands [
        | inl here ↦ items-item sought at items (record { containers = containers; around = [] }) (further path number) (item_nodes containers items) here fit.0.0 all.0
        | inr later ↦ states-item sought at states containers path (suc number) later fit.1 all.1
      ]

pub graph-item : (sought : KindTree) (at : Spot) (tree : GraphTree) → StandsInGraph sought at tree → IsGraphFit tree [] → IsGraphAccepted tree → IsItemAccepted at sought
graph-item sought at (graph name containers arguments variables symbols states) stands fit accepted = states-item sought at states containers [] 0 stands fit.1 accepted
