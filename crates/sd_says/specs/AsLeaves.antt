-- The statements that are done in one piece as leaves of a graph, which read their elements one by one, and conditions as its guards. What a source says does not name them; what its
-- graph does is compared with them.
use Rattle.std.specs.Prelude.{ℕ, ◌+◌, ℤ, pos, List, [], ◌∷◌, map, drop, Option, Some, None, Ok, Bool, ◌&&◌, cond, if◌then◌else◌, slice_index_or}
use Rattle.std.specs.List.{zip}
use Rattle.sd_num.specs.Wrapped.{wrapped}
use Rattle.sd_num.specs.declared.resolution.Resolution.{Resolution}
use Rattle.sd_num.specs.declared.resolution.Resolution.TheVariants.{Sum}
use Rattle.sd_lex.specs.PlainTree.{Expression, number, named, element_at, one, two, choice, Expressions, Block}
use Rattle.sd_lex.specs.declared.syntax.memlet.Lambda.{Lambda}
use Rattle.sd_lex.specs.declared.syntax.operator.TwoSign.TheVariants.{Add}
use Rattle.sd_range.specs.Subset.{whole}
use Rattle.sd_work.specs.Exit.{Guard}
use Rattle.sd_work.specs.Leaf.{Leaf, instance_of, copy_of, reduction_of}
use Rattle.sd_graph.specs.TaskletMeaning.{Meaning, holds, and_then}
use Rattle.sd_graph.specs.declared.place.Place.{Place}
use Rattle.sd_program.specs.Names.{Name, Named}
use Rattle.sd_says.specs.Exact.{variable_in, exact_all}
use Rattle.sd_says.specs.Held.{Held, pending_in}
use Rattle.sd_says.specs.Setting.{Setting, taken_in, held_by, place_at}
use Rattle.sd_says.specs.Operators.{one_value, two_sides, resolution_of}
use Rattle.sd_says.specs.Parts.{Part, part_extents, part_elements, part_element}
use Rattle.sd_says.specs.Elements.{reads_of}
use Rattle.sd_says.specs.Connectors.{Inlet, Outlet, elements_read, inputs_with, element_inlet, inlets_of, outlets_of}
use Rattle.sd_says.specs.Tasklets.{task_lines}
use Rattle.sd_says.specs.Pieces.{target_place}

-- ---- expressions

-- how many elements an expression reads
abbrev pub reads_in : Expression → ℕ
reads_in (number value) = 0
reads_in (named name) = 0
reads_in (element_at name at) = 1
reads_in (one sign of) = reads_in of
reads_in (two sign left right) = reads_in left + reads_in right
reads_in (choice value when other) = reads_in value + (reads_in when + reads_in other)

-- the value of an expression whose elements have these values, from left to right; a variable counts modulo 2^64
abbrev pub value_of : Named ℤ → (read : List ℤ) → Expression → Meaning ℤ
value_of variables read (number value) = Ok value
value_of variables read (named name) = Ok (wrapped (variable_in variables name))
value_of variables read (element_at name at) = Ok (slice_index_or read 0 (pos 0))
value_of variables read (one sign of) = and_then (value_of variables read of) (λ value. Ok (one_value sign value))
value_of variables read (two sign left right) =
    and_then (value_of variables read left) (λ first. two_sides sign first (value_of variables (drop (reads_in left) read) right))
value_of variables read (choice value when other) =
    and_then (value_of variables (drop (reads_in value) read) when)
    (λ condition. if holds condition then value_of variables read value else value_of variables (drop (reads_in value + reads_in when) read) other)

-- a condition on a line holds where its value is not 0
abbrev pub condition_in : Setting → (line : ℕ) → Expression → Guard Place
condition_in setting line when = record {
  place = place_at setting line;
  reads = reads_of setting when;
  holds = λ read. and_then (value_of setting.variables read when) (λ value. Ok (holds value));
}

-- ---- element statements

-- the value of an expression, given to an element of a container, or to a stream
abbrev pub assignment : Setting → Name → Expressions → Option Resolution → Expression → Leaf
assignment setting name at by value =
    let held : Held = held_by setting name in
    instance_of (reads_of setting value) (λ read.
    and_then (value_of setting.variables read value) (λ given. Ok (pending_in held.shape held.reach (exact_all setting.variables at) by given ∷ [])))

-- `X[e] += E` adds the value to the element where it stands in a scope, and else is `X[e] = X[e] + E`
abbrev pub element_statement : Setting → (in_scope : Bool) → Name → Expressions → (add : Bool) → Expression → Leaf
element_statement setting in_scope name at add value =
    cond (add && in_scope) (assignment setting name at (Some Sum) value)
    (assignment setting name at None (cond add (two Add (element_at name at) value) value))

-- ---- tasklets

-- a tasklet with these connectors: its elements are read, its lines are done, and then what they gave
abbrev pub task_with : (variables : Named ℤ) → List (Name × Inlet) → List (Name × Outlet) → Block → Leaf
task_with variables inlets outlets body =
    instance_of (elements_read inlets) (λ read.
    and_then (task_lines variables (taken_in (inputs_with inlets read) []) (taken_in outlets []) body (record { locals = []; effects = [] }))
    (λ now. Ok now.effects))

-- `with dace.tasklet:` and its block
abbrev pub tasklet_statement : Setting → Block → Leaf
tasklet_statement setting body = task_with setting.variables (inlets_of setting body) (outlets_of setting body) body

-- the block of a consume scope that is one tasklet: its first input is the element
abbrev pub taking_tasklet : Setting → (name : Name) → (element : Held) → Block → Leaf
taking_tasklet setting name element body =
    task_with setting.variables ((name, element_inlet element) ∷ inlets_of setting body) (outlets_of setting body) body

-- ---- copies and reductions

-- each element of the one part is copied to the one of the other
abbrev pub copy_statement : Part → Part → Leaf
copy_statement from to = copy_of (zip (part_elements from) (part_elements to))

-- the identity, where one is given, for each element of the target; then each element of the source, in row order, into its target
abbrev pub reduce_statement : Lambda → (from to : Part) → (axis identity : Option ℤ) → Leaf
reduce_statement lambda from to axis identity =
    reduction_of (resolution_of lambda) identity (part_elements to)
    (map (λ place. (part_element from place, part_element to (target_place axis place))) (whole (part_extents from)))
