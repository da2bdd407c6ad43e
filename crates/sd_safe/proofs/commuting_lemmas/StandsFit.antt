-- An item of a graph that is fit is so too, wherever it stands.
use Rattle.std.proofs.Common.{◌≡◌, inl, inr, [], ◌++◌, subst}
use Rattle.sd_graph.specs.PlainTree.{KindTree, task, map_scope, consume_scope, nested_graph, reduction, copy, ItemTrees, no_item, and_item, StateTrees, no_state, and_state, GraphTree, graph}
use Rattle.sd_graph.specs.ContainerParts.{Containers}
use Rattle.sd_race.specs.cover.Fit.{IsFit, AreFit, AreStatesFit, IsGraphFit}
use Rattle.sd_safe.specs.safe.Standing.{Spot, StandsInKind, StandsInItems, StandsInStates, StandsInGraph}

same-item : (kind sought : KindTree) (here at : Spot) → kind ≡ sought → here ≡ at → IsFit kind here.around → IsFit sought at.around
same-item kind sought here at is same fit = subst (λ (spot : Spot). IsFit sought spot.around) same (subst (λ one. IsFit one here.around) is fit)

mutual
  fit-in-kind : (sought : KindTree) (at : Spot) (kind : KindTree) (here : Spot) → StandsInKind sought at kind here → IsFit kind here.around → IsFit sought at.around
  fit-in-kind sought at (task code ins outs) here stands fit = absurd stands
  fit-in-kind sought at (map_scope sequential params private body) here stands fit = fit-in-items sought at body (record here { around = here.around ++ params }) stands fit.1
  fit-in-kind sought at (consume_scope stream element private body) here stands fit = fit-in-items sought at body here stands fit
  fit-in-kind sought at (nested_graph (graph name containers arguments variables symbols states) links) here stands fit = fit-in-states sought at states containers stands fit.1.1
  fit-in-kind sought at (reduction resolution axis identity from to) here stands fit = absurd stands
  fit-in-kind sought at (copy from to) here stands fit = absurd stands

  fit-in-items : (sought : KindTree) (at : Spot) (items : ItemTrees) (here : Spot) → StandsInItems sought at items here → AreFit items here.around → IsFit sought at.around
  fit-in-items sought at no_item here stands fit = absurd stands
  fit-in-items sought at (and_item line kind items) here stands fit =
      elim stands [
        | inl own ↦ same-item kind sought here at own.0 own.1 fit.0
        | inr deeper ↦ elim deeper [
          | inl inside ↦ fit-in-kind sought at kind here inside fit.0
          | inr later ↦ fit-in-items sought at items here later fit.1
        ]
      ]

  fit-in-states : (sought : KindTree) (at : Spot) (states : StateTrees) (containers : Containers) → StandsInStates sought at states containers → AreStatesFit states → IsFit sought at.around
  fit-in-states sought at no_state containers stands fit = absurd stands
  fit-in-states sought at (and_state items exits states) containers stands fit =
      elim stands [
        | inl here ↦ fit-in-items sought at items (record { containers = containers; around = [] }) here fit.0.0
        | inr later ↦ fit-in-states sought at states containers later fit.1
      ]

pub item-fit : (tree : GraphTree) (sought : KindTree) (at : Spot) → StandsInGraph sought at tree → IsGraphFit tree [] → IsFit sought at.around
item-fit (graph name containers arguments variables symbols states) sought at stands fit = fit-in-states sought at states containers stands fit.1
