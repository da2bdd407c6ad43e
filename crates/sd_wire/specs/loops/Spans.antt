-- The variables of loops, each with a table of the states in which it is in force.
use Rattle.std.specs.Prelude.{ℕ, List, map, Bool, false, ◌&&◌, slice_index_or}
use Rattle.std.specs.List.{filter, list_any}
use Rattle.sd_graph.specs.PlainTree.{StateTrees}
use Rattle.sd_graph.specs.TreeParts.{exits_at}
use Rattle.sd_graph.specs.LoopScope.{closes_loop, leads_to}
use Rattle.sd_wire.specs.declared.loops.span.LoopSpan.{LoopSpan}
use Rattle.sd_wire.specs.declared.loops.span.LoopEnd.{LoopEnd}
use Rattle.sd_wire.specs.loops.Table.{looked}

-- a loop with this begin and variable ends there, and the state leads to that end
abbrev pub is_before_end : StateTrees → (begin variable state end : ℕ) → Bool
is_before_end states begin variable state end = list_any (closes_loop begin variable) (exits_at states end) && leads_to states begin state end

-- the state leads to an end, by its table
abbrev pub leads_to_end : (state : ℕ) → LoopEnd → Bool
leads_to_end state end = looked end.leading.items end.number state

-- those in force in a state, by their tables
abbrev pub variables_in : List LoopSpan → (state : ℕ) → List ℕ
variables_in spans state = map (λ span. span.variable) (filter (λ span. slice_index_or span.states.items state false) spans)
