-- The transitions of a state in a list of states.
use Rattle.std.proofs.Common.{◌≡◌, ℕ, zero, suc, ◌<◌, List, [], ◌∷◌, map, length, slice_index_or, ap, sym, ◌∙◌, arith, drop, drop-cons}
use Rattle.sd_graph.specs.PlainTree.{and_state}
use Rattle.sd_graph.specs.TreeFold.{PlainState, state_tree, state_trees, item_trees, exit_tree}
use Rattle.sd_graph.specs.TreeParts.{exits_at}
use Rattle.sd_graph.specs.declared.graph.State.{State}
use Rattle.sd_graph.specs.declared.graph.ItemKind.TheViews.{out-State}
use Rattle.sd_graph.proofs.TreeLemmas.{state_opened}

pub exits_opened : (states : List State) (number : ℕ) (state : State) → number < length states → state ≡ slice_index_or states number state →
    exits_at (state_trees states) number ≡ map exit_tree (out-State state).exits.items
exits_opened [] number state below is = absurd (omega arith)
exits_opened (first ∷ states) zero state below is = ap (λ (plain : PlainState). plain.1) (ap state_tree (sym is) ∙ state_opened state)
exits_opened (first ∷ states) (suc number) state below is = exits_opened states number state (omega arith) is

-- the first of the states that are left
pub state_dropped : (states : List State) (number : ℕ) (state : State) → number < length states → state ≡ slice_index_or states number state →
    state_trees (drop number states) ≡ and_state (item_trees (out-State state).items.items) (map exit_tree (out-State state).exits.items) (state_trees (drop (suc number) states))
state_dropped states number state below is =
    let plain = ap state_tree (sym is) ∙ state_opened state in
    ap state_trees (drop-cons states number state below)
    ∙ ap (λ (plain : PlainState). and_state plain.0 plain.1 (state_trees (drop (suc number) states))) plain
