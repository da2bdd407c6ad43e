-- The items of a state by its number.
use Rattle.std.proofs.Common.{◌≡◌, ℕ, zero, suc, ◌<◌, ◌≤◌, List, [], ◌∷◌, length, slice_index_or, refl, ap, sym, ◌∙◌, arith}
use Rattle.sd_graph.specs.PlainTree.{no_item}
use Rattle.sd_graph.specs.TreeFold.{item_trees, state_tree, state_trees, PlainState}
use Rattle.sd_graph.specs.TreeParts.{items_at}
use Rattle.sd_graph.specs.declared.graph.State.{State, out-State}
use Rattle.sd_graph.proofs.TreeLemmas.{state_opened}

pub items_found : (states : List State) (number : ℕ) (state : State) → number < length states → state ≡ slice_index_or states number state →
    items_at (state_trees states) number ≡ item_trees (out-State state).items.items
items_found [] number state within is = absurd (omega (arith, within))
items_found (first ∷ states) zero state within is = ap (λ (s : State). (state_tree s).0) (sym is) ∙ ap (λ (at : PlainState). at.0) (state_opened state)
items_found (first ∷ states) (suc number) state within is = items_found states number state (omega (arith, within)) is

pub items_past : (states : List State) (number : ℕ) → length states ≤ number → items_at (state_trees states) number ≡ no_item
items_past [] number past = refl
items_past (first ∷ states) zero past = absurd (omega (arith, past))
items_past (first ∷ states) (suc number) past = items_past states number (omega (arith, past))
