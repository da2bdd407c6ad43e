-- Rewrites done on a graph one after another.
use Rattle.std.specs.Prelude.{◌≡◌, ⊤, ℕ, List, [], ◌∷◌, Option, Some, None, Result, Ok, Err}
use Rattle.std.specs.List.{AllByRecursion}
use Rattle.sd_graph.specs.PlainTree.{GraphTree}
use Rattle.sd_mapx.specs.Conditions.{lowest_failing}
use Rattle.sd_mapx.specs.MapConditions.{collapse_conditions, expansion_conditions, interchange_conditions, tiling_conditions}
use Rattle.sd_mapx.specs.Results.{collapsed_at, expanded_at, interchanged_at, tiled_at}
use Rattle.sd_mapx.specs.declared.refused.Refused.{Refused}
use Rattle.sd_mapx.specs.declared.refused.Refused.TheVariants as refusals
use Rattle.sd_chain.specs.declared.step.Step.{Step}
use Rattle.sd_chain.specs.declared.step.Step.TheVariants.{MapCollapse, MapExpansion, MapInterchange, MapTiling}
use Rattle.sd_chain.specs.declared.error.ChainError.{ChainError}
use Rattle.sd_chain.specs.declared.error.ChainError.TheVariants.{NoForm, Condition, Memory}

-- the lowest condition of a step that fails of a graph
abbrev pub failing : GraphTree → Step → Option ℕ
failing tree (MapCollapse at) = lowest_failing (collapse_conditions tree at.steps)
failing tree (MapExpansion at) = lowest_failing (expansion_conditions tree at.steps)
failing tree (MapInterchange at) = lowest_failing (interchange_conditions tree at.steps)
failing tree (MapTiling at sizes) = lowest_failing (tiling_conditions tree at.steps sizes)

-- the graph with a step done
abbrev pub rewritten : GraphTree → Step → GraphTree
rewritten tree (MapCollapse at) = collapsed_at tree at.steps
rewritten tree (MapExpansion at) = expanded_at tree at.steps
rewritten tree (MapInterchange at) = interchanged_at tree at.steps
rewritten tree (MapTiling at sizes) = tiled_at tree at.steps sizes

-- what comes of the steps behind one, where none of its conditions fails; else its line, and the condition
abbrev pub unless_fails : (line : ℕ) → (failing : Option ℕ) → Result GraphTree (ℕ × ℕ) → Result GraphTree (ℕ × ℕ)
unless_fails line None later = later
unless_fails line (Some condition) later = Err (line, condition)

-- the graph with steps done one after another, each on the graph as it then is; or the line of the first that is refused, with its lowest condition that fails
abbrev pub chained : GraphTree → (steps : List (ℕ × Step)) → Result GraphTree (ℕ × ℕ)
chained tree [] = Ok tree
chained tree (step ∷ steps) = unless_fails step.0 (failing tree step.1) (chained (rewritten tree step.1) steps)

-- what is told of the step of a line that is refused
abbrev pub told : (line : ℕ) → Refused → ChainError
told line (refusals.Condition condition) = Condition line condition
told line refusals.Memory = Memory

-- a refusal tells the line and the condition; want of memory is free, and steps that were read are forms
abbrev pub IsRefusal : Result GraphTree (ℕ × ℕ) → ChainError → Type 0
IsRefusal result (NoForm line) = ⊥
IsRefusal result (Condition line condition) = result ≡ Err (line, condition)
IsRefusal result Memory = ⊤

-- ---- order

-- a step that leaves the points of maps in their order
abbrev pub KeepsOrder : Step → Type 0
KeepsOrder (MapCollapse at) = ⊤
KeepsOrder (MapExpansion at) = ⊤
KeepsOrder (MapInterchange at) = ⊥
KeepsOrder (MapTiling at []) = ⊥
KeepsOrder (MapTiling at (size ∷ [])) = ⊤
KeepsOrder (MapTiling at (size ∷ second ∷ sizes)) = ⊥

abbrev pub KeepOrder : (steps : List (ℕ × Step)) → Type 0
KeepOrder steps = AllByRecursion (λ step. KeepsOrder step.1) steps
