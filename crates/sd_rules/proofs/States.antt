-- States that are not there have no transitions.
use Rattle.std.proofs.Common.{◌≡◌, ℕ, zero, suc, ◌≤◌, List, [], ◌∷◌, length, refl, arith}
use Rattle.sd_graph.specs.TreeFold.{state_trees}
use Rattle.sd_graph.specs.TreeParts.{exits_at}
use Rattle.sd_graph.specs.declared.graph.State.{State}

pub exits_beyond : (states : List State) (number : ℕ) → length states ≤ number → exits_at (state_trees states) number ≡ []
exits_beyond [] number beyond = refl
exits_beyond (first ∷ states) zero beyond = absurd (omega arith)
exits_beyond (first ∷ states) (suc number) beyond = exits_beyond states number (omega arith)
