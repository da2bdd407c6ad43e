-- Each source comes to an end.
use Rattle.std.proofs.Common.{ℕ, ◌+◌, ℤ, pos, List, [], ◌∷◌, map, reverse, Option, Some, None, Ok, Bool, true, false, cond, ◌&&◌, bytes_eq, ap}
use Rattle.std.specs.List.{zip}
use Rattle.sd_lex.specs.PlainTree.{copy, reduce, Expression, named, element_at, two, Expressions, StatementTree, assign, map_scope, tasklet, consume_scope, call, for_loop, while_loop, branch, Block, no_statement, and_statement, FunctionTree, ProgramTree}
use Rattle.sd_lex.specs.StatementKind.{has_connector}
use Rattle.sd_lex.specs.declared.syntax.operator.TwoSign.TheVariants.{Less, Add}
use Rattle.sd_num.specs.declared.resolution.Resolution.{Resolution}
use Rattle.sd_num.specs.declared.resolution.Resolution.TheVariants.{Sum}
use Rattle.sd_range.specs.Points.{tuples}
use Rattle.sd_range.specs.Subset.{whole}
use Rattle.sd_work.specs.Memory.{Memory, Memories}
use Rattle.sd_work.specs.Step.{Outcome, Done, Faulted, Spent}
use Rattle.sd_work.specs.Run.{Left}
use Rattle.sd_work.specs.Leaf.{Leaf}
use Rattle.sd_work.specs.BigStep.{Reached, Coming, leaving, big_leaf}
use Rattle.sd_work.specs.BigRun.{left_by}
use Rattle.sd_graph.specs.Context.{Reach}
use Rattle.sd_graph.specs.TaskletMeaning.{and_then}
use Rattle.sd_graph.specs.declared.place.Frame.{Frame}
use Rattle.sd_graph.specs.declared.place.Place.{Place}
use Rattle.sd_program.specs.Names.{Name, Named}
use Rattle.sd_program.specs.Declared.{containers_in, containers_in_all}
use Rattle.sd_says.specs.Exact.{exact_all, exact_or, step_or_one, ranges_in}
use Rattle.sd_says.specs.Held.{own_reach, pending_in}
use Rattle.sd_says.specs.Declared.{Declaration, declared_of, own_held, scope_memory, element_memory, run_memory}
use Rattle.sd_says.specs.Setting.{Setting, taken_in, held_by, frames_at, place_at, with_container, inside_showing, at_point}
use Rattle.sd_says.specs.Parts.{Part, part_in, part_extents, part_elements, part_element}
use Rattle.sd_says.specs.Operators.{resolution_of}
use Rattle.sd_says.specs.Elements.{reads_of}
use Rattle.sd_says.specs.Connectors.{Inlet, Outlet, elements_read, inputs_with, element_inlet, inlets_of, outlets_of}
use Rattle.sd_says.specs.Tasklets.{task_lines}
use Rattle.sd_says.specs.Pieces.{target_place}
use Rattle.sd_says.specs.AsLeaves.{value_of, assignment, task_with, taking_tasklet}
use Rattle.sd_says.specs.Behind.{own_of, behind, behind_one, behind_all}
use Rattle.sd_says.specs.Items.{Calls, parts_passed}
use Rattle.sd_says.specs.Statements.{in_round}
use Rattle.sd_says.specs.Says.{setting_of, shape_at, reach_passed, sizes_of}
use Rattle.sd_says.proofs.ByLeaves.{tested, says_item, says_body, says_one, says_block, says_function, says_call, says_last, Says}
use Rattle.sd_says.proofs.Follows.{Follows}
use Rattle.sd_says.proofs.Halts.{copy-halts, reduction-halts, Halts, halts-here, halts-then, halts-leaving, instance-halts, points-halt, branch-halts, rounds-halt, takes-halt}

either-halts : (b : Bool) (left right : ℕ → Coming Place) (memories : Memories) (turns : ℕ) → Halts left memories turns → Halts right memories turns → Halts (λ m. cond b (left m) (right m)) memories turns
either-halts true left right memories turns f g = f
either-halts false left right memories turns f g = g

either-leaf : (b : Bool) (left right : Leaf) (place : Place) (memories : Memories) (turns : ℕ) →
    Halts (λ m. big_leaf place left memories turns) memories turns → Halts (λ m. big_leaf place right memories turns) memories turns → Halts (λ m. big_leaf place (cond b left right) memories turns) memories turns
either-leaf true left right place memories turns f g = f
either-leaf false left right place memories turns f g = g

assignment-halts : (setting : Setting) (name : Name) (at : Expressions) (by : Option Resolution) (value : Expression) (place : Place) (memories : Memories) (turns : ℕ) →
    Halts (λ m. big_leaf place (assignment setting name at by value) memories turns) memories turns
assignment-halts setting name at by value place memories turns =
    instance-halts place (reads_of setting value)
    (λ read. and_then (value_of setting.variables read value) (λ given. Ok (pending_in (held_by setting name).shape (held_by setting name).reach (exact_all setting.variables at) by given ∷ []))) memories turns

task-halts : (variables : Named ℤ) (inlets : List (Name × Inlet)) (outlets : List (Name × Outlet)) (body : Block) (place : Place) (memories : Memories) (turns : ℕ) →
    Halts (λ m. big_leaf place (task_with variables inlets outlets body) memories turns) memories turns
task-halts variables inlets outlets body place memories turns =
    instance-halts place (elements_read inlets)
    (λ read. and_then (task_lines variables (taken_in (inputs_with inlets read) []) (taken_in outlets []) body (record { locals = []; effects = [] })) (λ now. Ok now.effects)) memories turns

-- the work for a value that was taken, inside its memory
abbrev pub element-work : Calls → List Declaration → (line : ℕ) → (element : Name) → Block → (next : ℕ) → Setting → (value : ℤ) → (most : ℕ) → Memories → ℕ → Coming Place
element-work calls all line element body next setting value most own turns =
    cond (has_connector body)
    (big_leaf (place_at (inside_showing ((element, value) ∷ []) setting) line) (taking_tasklet (inside_showing ((element, value) ∷ []) setting) element (own_held all next) body) own turns)
    (says_body calls all body (next + 1) (with_container element (own_held all next) (inside_showing ((element, value) ∷ []) setting)) most own turns)

-- the block of a map at a point, inside its memory
abbrev pub point-work : Calls → List Declaration → (parameters : List Name) → Block → (next : ℕ) → Setting → (point : List ℤ) → (most : ℕ) → Memories → ℕ → Coming Place
point-work calls all parameters body next setting point most own turns = says_body calls all body next (at_point (zip parameters point) setting) most own turns

module _ (calls : Calls) (all : List Declaration)
    (calls-halt : (name : Name) (arguments : List Part) (around : List Frame) (memories : Memories) (turns : ℕ) → Halts (λ m. calls name arguments around m memories turns) memories turns) where
  mutual
    item-halts : (first : StatementTree) (in_scope : Bool) (next : ℕ) (setting : Setting) (memories : Memories) (turns : ℕ) → Halts (λ m. says_item calls all first in_scope next setting m memories turns) memories turns
    item-halts (assign line name at add value) in_scope next setting memories turns =
        either-leaf (add && in_scope) (assignment setting name at (Some Sum) value) (assignment setting name at None (cond add (two Add (element_at name at) value) value)) (place_at setting line) memories turns
        (assignment-halts setting name at (Some Sum) value (place_at setting line) memories turns)
        (assignment-halts setting name at None (cond add (two Add (element_at name at) value) value) (place_at setting line) memories turns)
    item-halts (map_scope line parameters ranges body) in_scope next setting memories turns =
        points-halt (λ m point memories turns. leaving (point-work calls all parameters body next setting point m (scope_memory all (own_of body next) ∷ memories) turns))
        (λ point memories turns. halts-leaving (λ m. point-work calls all parameters body next setting point m (scope_memory all (own_of body next) ∷ memories) turns) (scope_memory all (own_of body next)) memories turns
        (body-halts body next (at_point (zip parameters point) setting) (scope_memory all (own_of body next) ∷ memories) turns))
        (tuples (ranges_in setting.variables ranges)) memories turns
    item-halts (copy line to to_dimensions from from_dimensions) in_scope next setting memories turns = copy-halts (place_at setting line) (zip (part_elements (part_in setting from from_dimensions)) (part_elements (part_in setting to to_dimensions))) memories turns
    item-halts (reduce line lambda from to axis identity) in_scope next setting memories turns =
        reduction-halts (place_at setting line) (resolution_of lambda) identity (part_elements (part_in setting to []))
        (map (λ place. (part_element (part_in setting from []) place, part_element (part_in setting to []) (target_place axis place))) (whole (part_extents (part_in setting from [])))) memories turns
    item-halts (tasklet line body) in_scope next setting memories turns = task-halts setting.variables (inlets_of setting body) (outlets_of setting body) body (place_at setting line) memories turns
    item-halts (consume_scope line stream size name element worker body) in_scope next setting memories turns =
        takes-halt (held_by setting stream).reach.level (held_by setting stream).reach.container
        (λ m value memories turns. leaving (element-work calls all line element body next setting value m (element_memory all next (own_of body (next + 1)) value ∷ memories) turns))
        (λ value memories turns. halts-leaving (λ m. element-work calls all line element body next setting value m (element_memory all next (own_of body (next + 1)) value ∷ memories) turns)
        (element_memory all next (own_of body (next + 1)) value) memories turns
        (either-halts (has_connector body)
        (λ m. big_leaf (place_at (inside_showing ((element, value) ∷ []) setting) line) (taking_tasklet (inside_showing ((element, value) ∷ []) setting) element (own_held all next) body) (element_memory all next (own_of body (next + 1)) value ∷ memories) turns)
        (λ m. says_body calls all body (next + 1) (with_container element (own_held all next) (inside_showing ((element, value) ∷ []) setting)) m (element_memory all next (own_of body (next + 1)) value ∷ memories) turns)
        (element_memory all next (own_of body (next + 1)) value ∷ memories) turns
        (task-halts setting.variables ((element, element_inlet (own_held all next)) ∷ inlets_of (inside_showing ((element, value) ∷ []) setting) body) (outlets_of (inside_showing ((element, value) ∷ []) setting) body) body
        (place_at (inside_showing ((element, value) ∷ []) setting) line) (element_memory all next (own_of body (next + 1)) value ∷ memories) turns)
        (body-halts body (next + 1) (with_container element (own_held all next) (inside_showing ((element, value) ∷ []) setting)) (element_memory all next (own_of body (next + 1)) value ∷ memories) turns)))
        memories turns
    item-halts (call line name arguments) in_scope next setting memories turns = calls-halt name (parts_passed setting arguments) (frames_at setting line) memories turns
    item-halts statement in_scope next setting memories turns = halts-here memories turns

    body-halts : (body : Block) (next : ℕ) (setting : Setting) (memories : Memories) (turns : ℕ) → Halts (λ m. says_body calls all body next setting m memories turns) memories turns
    body-halts no_statement next setting memories turns = halts-here memories turns
    body-halts (and_statement first rest) next setting memories turns =
        halts-then (λ m. says_item calls all first true next setting m memories turns) (λ m. says_body calls all rest (next + containers_in first) (behind all first next setting) m) memories turns
        (item-halts first true next setting memories turns) (body-halts rest (next + containers_in first) (behind all first next setting))

  mutual
    one-halts : (first : StatementTree) (next : ℕ) (setting : Setting) (memories : Memories) (turns : ℕ) → Halts (λ m. says_one calls all first next setting m memories turns) memories turns
    one-halts (branch line when body other) next setting memories turns =
        branch-halts (tested setting line when memories)
        (λ m. says_block calls all body next setting m memories turns) (λ m. says_block calls all other (next + containers_in_all body) (behind_all all body next setting) m memories turns) memories turns
        (block-halts body next setting memories turns) (block-halts other (next + containers_in_all body) (behind_all all body next setting) memories turns)
    one-halts (while_loop line when body) next setting memories turns =
        rounds-halt (λ value memories. tested setting line when memories) (λ m value. says_block calls all body next setting m) (pos 0)
        (λ value memories turns. block-halts body next setting memories turns) (pos 0) memories turns
    one-halts (for_loop line name begin end step body) next setting memories turns =
        rounds-halt (λ value memories. tested (in_round name value setting) line (two Less (named name) end) memories)
        (λ m value. says_block calls all body next (in_round name value setting) m) (step_or_one step)
        (λ value memories turns. block-halts body next (in_round name value setting) memories turns) (exact_or (pos 0) setting.variables begin) memories turns
    one-halts statement next setting memories turns = item-halts statement false next setting memories turns

    pub block-halts : (block : Block) (next : ℕ) (setting : Setting) (memories : Memories) (turns : ℕ) → Halts (λ m. says_block calls all block next setting m memories turns) memories turns
    block-halts no_statement next setting memories turns = halts-here memories turns
    block-halts (and_statement first rest) next setting memories turns =
        halts-then (λ m. says_one calls all first next setting m memories turns) (λ m. says_block calls all rest (next + containers_in first) (behind_one all first next setting) m) memories turns
        (one-halts first next setting memories turns) (block-halts rest (next + containers_in first) (behind_one all first next setting))

-- a program, from whatever beginning
function-halts : (sizes : Named ℤ) (calls : Calls) →
    ((name : Name) (arguments : List Part) (around : List Frame) (memories : Memories) (turns : ℕ) → Halts (λ m. calls name arguments around m memories turns) memories turns) →
    (function : FunctionTree) (reach : ℕ → Reach) (around : List Frame) (memories : Memories) (turns : ℕ) → Halts (λ m. says_function sizes calls function reach around m memories turns) memories turns
function-halts sizes calls halt function reach around memories turns =
    block-halts calls (declared_of sizes function) halt function.body (containers_in_all function.arguments) (setting_of sizes function reach around) memories turns

-- a call of a program
pub calls-halt : (sizes : Named ℤ) (functions : List FunctionTree) (name : Name) (arguments : List Part) (around : List Frame) (memories : Memories) (turns : ℕ) →
    Halts (λ m. says_call sizes functions name arguments around m memories turns) memories turns
calls-halt sizes [] name arguments around memories turns = halts-here memories turns
calls-halt sizes (function ∷ earlier) name arguments around memories turns =
    either-halts (bytes_eq name function.name)
    (λ m. leaving (says_function sizes (says_call sizes earlier) function (reach_passed (declared_of sizes function) arguments) around m (run_memory (declared_of sizes function) ∷ memories) turns))
    (λ m. says_call sizes earlier name arguments around m memories turns) memories turns
    (halts-leaving (λ m. says_function sizes (says_call sizes earlier) function (reach_passed (declared_of sizes function) arguments) around m (run_memory (declared_of sizes function) ∷ memories) turns)
    (run_memory (declared_of sizes function)) memories turns
    (function-halts sizes (says_call sizes earlier) (calls-halt sizes earlier) function (reach_passed (declared_of sizes function) arguments) around (run_memory (declared_of sizes function) ∷ memories) turns))
    (calls-halt sizes earlier name arguments around memories turns)

-- the last program
last-halts : (sizes : Named ℤ) (functions : List FunctionTree) (memories : Memories) (turns : ℕ) → Halts (λ m. says_last sizes functions m memories turns) memories turns
last-halts sizes [] memories turns = halts-here memories turns
last-halts sizes (function ∷ earlier) memories turns =
    function-halts sizes (says_call sizes earlier) (calls-halt sizes earlier) function (λ number. own_reach (shape_at (declared_of sizes function) number) number) [] memories turns

-- a source comes to an end
pub source-comes : (source : ProgramTree) (sizes : Named ℤ) (memory : Memory) (turns : ℕ) → (o : Outcome Place Left) × Says source sizes memory turns o
source-comes source sizes memory turns =
    let h = last-halts (sizes_of source sizes) (reverse source.functions) (memory ∷ []) turns in
    go h.0 h.1
  where
    go : (o : Outcome Place Reached) → Follows (λ m. says_last (sizes_of source sizes) (reverse source.functions) m (memory ∷ []) turns) o → (o : Outcome Place Left) × Says source sizes memory turns o
    go (Done now) f = (Done _, (f.0 + 0, ap left_by (f.1 0)))
    go (Faulted fault) f = (Faulted fault, (f.0 + 0, ap left_by (f.1 0)))
    go Spent f = (Spent, (f.0 + 0, ap left_by (f.1 0)))
