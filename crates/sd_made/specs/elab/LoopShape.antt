-- Graphs in which transitions set the variables of `for` loops alone.
use Rattle.std.specs.Prelude.{◌≡◌, ℕ, ◌≤◌, pos, List, [], ◌∷◌, None, true}
use Rattle.std.specs.List.{AllByRecursion}
use Rattle.sd_range.specs.declared.affine.Affine.{Affine}
use Rattle.sd_graph.specs.PlainTree.{StateTrees, GraphTree, ExitTree}
use Rattle.sd_graph.specs.TreeParts.{exits_at}
use Rattle.sd_made.specs.elab.AffineValue.{IsConditionBelow}
use Rattle.sd_made.specs.elab.Throughout.{Throughout}

-- a variable plus a step of at least 1
abbrev pub IsStepOf : (variable : ℕ) → Affine → Type 0
IsStepOf variable value = (step : ℕ) × (value ≡ record { constant = pos step; terms = (variable, pos 1) ∷ [] }) × (1 ≤ step)

-- the transitions of a loop's begin: the first where the variable is below an end, and the second, out of the loop, without a condition
abbrev pub BeginsLoop : (variable : ℕ) → List ExitTree → Type 0
BeginsLoop variable (first ∷ second ∷ []) = IsConditionBelow variable first.when × (second.when ≡ None)
BeginsLoop variable exits = ⊥

-- A transition that sets a variable leads to the begin of the variable's loop; a marked one adds a step to it.
abbrev pub SetsLoopVariable : StateTrees → (begin : ℕ → ℕ) → ExitTree → ℕ × Affine → Type 0
SetsLoopVariable states begin exit assignment =
    (exit.to ≡ begin assignment.0) × BeginsLoop assignment.0 (exits_at states exit.to) × (exit.back ≡ true → IsStepOf assignment.0 assignment.1)

abbrev pub SetLoopVariables : StateTrees → (begin : ℕ → ℕ) → List ExitTree → Type 0
SetLoopVariables states begin exits = AllByRecursion (λ exit. AllByRecursion (SetsLoopVariable states begin exit) exit.set) exits

-- each variable that is set has one begin, and each transition sets variables so
abbrev pub HasLoopShape : StateTrees → Type 0
HasLoopShape states = (begin : ℕ → ℕ) × ((state : ℕ) → SetLoopVariables states begin (exits_at states state))

-- so it is in a graph, and in the graphs nested in it
abbrev pub SetsLoopVariablesOnly : GraphTree → Type 0
SetsLoopVariablesOnly tree = Throughout HasLoopShape tree
