-- Graphs whose loops are entered at their begins alone.
use Rattle.std.specs.Prelude.{◌≡◌, ◌⊎◌, ℕ, List, [], ◌∷◌, true, false}
use Rattle.std.specs.List.{AllByRecursion}
use Rattle.sd_graph.specs.PlainTree.{StateTrees, GraphTree, ExitTree}
use Rattle.sd_graph.specs.TreeParts.{exits_at}
use Rattle.sd_graph.specs.LoopScope.{leads_to}
use Rattle.sd_made.specs.elab.Throughout.{Throughout}

-- Each path from state 0 to the end of a loop comes to the loop's begin, and leaves it for the last time by the first of its two transitions:
-- neither from state 0 nor from where the second one leads is there a path to the end that does not come to the begin.
abbrev pub IsEnteredAtBegin : StateTrees → (begin end : ℕ) → List ExitTree → Type 0
IsEnteredAtBegin states begin end (first ∷ second ∷ []) = ((begin ≡ 0) ⊎ (leads_to states begin 0 end ≡ false)) × (leads_to states begin second.to end ≡ false)
IsEnteredAtBegin states begin end exits = ⊥

-- a marked transition leads from the end of such a loop to its begin
abbrev pub ClosesLoop : StateTrees → (state : ℕ) → ExitTree → Type 0
ClosesLoop states state exit = exit.back ≡ true → IsEnteredAtBegin states exit.to state (exits_at states exit.to)

abbrev pub HasEnteredLoops : StateTrees → Type 0
HasEnteredLoops states = (state : ℕ) → AllByRecursion (ClosesLoop states state) (exits_at states state)

-- so it is in a graph, and in the graphs nested in it
abbrev pub EntersLoopsAtBegins : GraphTree → Type 0
EntersLoopsAtBegins tree = Throughout HasEnteredLoops tree
