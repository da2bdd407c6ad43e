-- Code whose outputs are scalars that are set exactly once, outside of branches.
use Rattle.std.specs.Prelude.{ℕ, List, [], ◌∷◌, ◌++◌, length, Option, Some, None, option_and_then, Bool, not, ◌&&◌, ◌==◌, nat_eq, if◌then◌else◌}
use Rattle.std.specs.List.{list_any}
use Rattle.sd_graph.specs.PlainTree.{ActTree, set_local, assign, branch, ActTrees, no_act, and_act, TaskletTree}
use Rattle.sd_tcode.specs.tcode.Emitted.{is_scalar}

-- a connector is among these
abbrev pub is_among : List ℕ → (connector : ℕ) → Bool
is_among connectors connector = list_any (λ other. nat_eq other connector) connectors

-- the outputs that are set after a statement; none where it is a branch, or sets an element, or an output that is set already
abbrev pub set_after : (before : List ℕ) → ActTree → Option (List ℕ)
set_after before (set_local number value) = Some before
set_after before (assign connector at value) = if is_scalar at && not (is_among before connector) then Some (before ++ connector ∷ []) else None
set_after before (branch when body other) = None

abbrev pub set_by : (before : List ℕ) → ActTrees → Option (List ℕ)
set_by before no_act = Some before
set_by before (and_act act acts) = option_and_then (λ next. set_by next acts) (set_after before act)

-- all outputs of the code
abbrev pub all_set : (outputs : ℕ) → List ℕ → Option (List ℕ)
all_set outputs order = if length order == outputs then Some order else None

-- the outputs in the order in which they are set, where each is a scalar that is set exactly once outside of branches
abbrev pub plain_of : TaskletTree → Option (List ℕ)
plain_of code = option_and_then (all_set (length code.outs)) (set_by [] code.body)
