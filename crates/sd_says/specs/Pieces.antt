-- The statements that are done in one piece: element statements, tasklets, copies and reductions.
use Rattle.std.specs.Prelude.{ℤ, List, [], ◌∷◌, ◌++◌, map, Option, Some, None, option_map, unwrap_or, Ok, Bool, ◌&&◌, cond, nat_abs}
use Rattle.std.specs.List.{zip}
use Rattle.sd_num.specs.declared.resolution.Resolution.{Resolution}
use Rattle.sd_num.specs.declared.resolution.Resolution.TheVariants.{Sum}
use Rattle.sd_lex.specs.PlainTree.{Expression, element_at, two, Expressions, Block}
use Rattle.sd_lex.specs.declared.syntax.memlet.Lambda.{Lambda}
use Rattle.sd_lex.specs.declared.syntax.operator.TwoSign.TheVariants.{Add}
use Rattle.sd_range.specs.Subset.{whole}
use Rattle.sd_work.specs.Memory.{Memories}
use Rattle.sd_work.specs.Change.{without}
use Rattle.sd_work.specs.Leaf.{Pending, write_value, transfer}
use Rattle.sd_graph.specs.TaskletMeaning.{Meaning, and_then}
use Rattle.sd_program.specs.Names.{Name}
use Rattle.sd_says.specs.Exact.{exact_all}
use Rattle.sd_says.specs.Held.{Held, pending_in}
use Rattle.sd_says.specs.Setting.{Setting, held_by, taken_in}
use Rattle.sd_says.specs.Operators.{resolution_of}
use Rattle.sd_says.specs.Parts.{Part, part_extents, part_elements, part_element}
use Rattle.sd_says.specs.Effects.{element_values}
use Rattle.sd_says.specs.Elements.{value_read}
use Rattle.sd_says.specs.Connectors.{Inlet, elements_read, inputs_with, inlets_of, outlets_of}
use Rattle.sd_says.specs.Tasklets.{task_lines}

module _ (setting : Setting) where
  -- the value of an expression, given to an element of a container, or to a stream
  abbrev pub assigned : Name → Expressions → (by : Option Resolution) → Expression → Memories → Meaning (List Pending)
  assigned name at by value memories =
      let held : Held = held_by setting name in
      and_then (value_read setting memories value) (λ given. Ok (pending_in held.shape held.reach (exact_all setting.variables at) by given ∷ []))

  -- `X[e] += E` adds the value to the element where it stands in a scope, and else is `X[e] = X[e] + E`
  abbrev pub element_effects : (in_scope : Bool) → Name → Expressions → (add : Bool) → Expression → Memories → Meaning (List Pending)
  element_effects in_scope name at add value =
      cond (add && in_scope) (assigned name at (Some Sum) value)
      (assigned name at None (cond add (two Add (element_at name at) value) value))

  -- a tasklet with this block, which has more inputs before its own: its elements are read, its lines are done, and then what they gave
  abbrev pub tasklet_effects : (more : List (Name × Inlet)) → Block → Memories → Meaning (List Pending)
  tasklet_effects more body memories =
      let inlets : List (Name × Inlet) = more ++ inlets_of setting body in
      and_then (element_values memories (elements_read inlets)) (λ read.
      and_then (task_lines setting.variables (taken_in (inputs_with inlets read) []) (taken_in (outlets_of setting body) []) body (record { locals = []; effects = [] }))
      (λ now. Ok now.effects))

-- each element of the one part is copied to the one of the other
abbrev pub copied : (from to : Part) → List Pending
copied from to = map (λ pair. transfer pair.0 pair.1 None) (zip (part_elements from) (part_elements to))

-- the place in a reduction's target for a place in its source: without the axis, or the first one
abbrev pub target_place : (axis : Option ℤ) → (place : List ℤ) → List ℤ
target_place None place = []
target_place (Some axis) place = without (nat_abs axis) place

-- the identity, where one is given, for each element of the target; then each element of the source, in row order, into its target
abbrev pub reduced : Lambda → (from to : Part) → (axis identity : Option ℤ) → List Pending
reduced lambda from to axis identity =
    unwrap_or (option_map (λ value. map (λ target. write_value value target None) (part_elements to)) identity) []
    ++ map (λ place. transfer (part_element from place) (part_element to (target_place axis place)) (Some (resolution_of lambda))) (whole (part_extents from))
