-- What a source says by leaves, as its graph does it: statements that are done in one piece are leaves, whose reads and effects are moves, and conditions are guards. It is the same as `Says`
-- (`Same`), and stands between it and the runs of graphs.
use Rattle.std.proofs.Common.{◌≡◌, ℕ, zero, suc, ◌+◌, ℤ, pos, ◌+ℤ◌, List, [], ◌∷◌, reverse, Option, Some, None, Result, Ok, Err, Bool, true, false, cond, bytes_eq}
use Rattle.std.specs.List.{zip}
use Rattle.sd_lex.specs.PlainTree.{Expression, named, two, StatementTree, assign, copy, reduce, map_scope, tasklet, consume_scope, call, for_loop, while_loop, branch, Block, no_statement, and_statement, FunctionTree, ProgramTree}
use Rattle.sd_lex.specs.StatementKind.{has_connector}
use Rattle.sd_lex.specs.declared.syntax.operator.TwoSign.TheVariants.{Less}
use Rattle.sd_range.specs.Points.{tuples}
use Rattle.sd_work.specs.Memory.{Memory, Memories}
use Rattle.sd_work.specs.Move.{Fault}
use Rattle.sd_work.specs.Exit.{passed}
use Rattle.sd_work.specs.Step.{Outcome}
use Rattle.sd_work.specs.Run.{Left}
use Rattle.sd_work.specs.BigStep.{Coming, reached, faulted, and_then, spending, leaving, big_leaf, big_takes}
use Rattle.sd_work.specs.BigRun.{left_by}
use Rattle.sd_graph.specs.Context.{Reach}
use Rattle.sd_graph.specs.declared.place.Frame.{Frame}
use Rattle.sd_graph.specs.declared.place.Place.{Place}
use Rattle.sd_program.specs.Names.{Named}
use Rattle.sd_program.specs.Declared.{containers_in, containers_in_all}
use Rattle.sd_says.specs.Exact.{exact_or, step_or_one, ranges_in}
use Rattle.sd_says.specs.Held.{own_reach}
use Rattle.sd_says.specs.Declared.{Declaration, declared_of, own_held, scope_memory, element_memory, run_memory}
use Rattle.sd_says.specs.Setting.{Setting, held_by, frames_at, place_at, with_container, inside_showing, at_point}
use Rattle.sd_says.specs.Parts.{part_in}
use Rattle.sd_says.specs.AsLeaves.{condition_in, element_statement, tasklet_statement, taking_tasklet, copy_statement, reduce_statement}
use Rattle.sd_says.specs.Behind.{own_of, behind, behind_one, behind_all}
use Rattle.sd_says.specs.Items.{Calls, parts_passed}
use Rattle.sd_says.specs.Statements.{in_round}
use Rattle.sd_says.specs.Says.{shape_at, reach_passed, setting_of, sizes_of}

-- ---- ways

-- what is done for each point in turn
abbrev pub one_by_one : {P : Type 0} → (List ℤ → Memories → ℕ → Coming P) → List (List ℤ) → Memories → (turns : ℕ) → Coming P
one_by_one run [] memories turns = reached memories turns
one_by_one run (point ∷ points) memories turns = and_then (run point memories turns) (one_by_one run points)

-- the one where a condition holds, and else the other; or the condition's fault
abbrev pub if_passed : {P : Type 0} → Result Bool (Fault P) → (left right : Coming P) → Coming P
if_passed (Err fault) left right = faulted fault
if_passed (Ok true) left right = left
if_passed (Ok false) left right = right

-- a block as long as a condition holds, with a turn after each round, and then a step on; with at most so many tests
abbrev pub rounds : {P : Type 0} → (most : ℕ) → (test : ℤ → Memories → Result Bool (Fault P)) → (block : ℤ → Memories → ℕ → Coming P) → (step : ℤ) → (value : ℤ) → Memories → (turns : ℕ) → Coming P
rounds zero test block step value memories turns = None
rounds (suc most) test block step value memories turns =
    if_passed (test value memories)
    (and_then (block value memories turns) (λ memories turns. spending true turns (rounds most test block step (value +ℤ step) memories)))
    (reached memories turns)

-- whether a condition on a line holds, or its fault
abbrev pub tested : Setting → (line : ℕ) → Expression → Memories → Result Bool (Fault Place)
tested setting line when memories = passed (Some (condition_in setting line when)) memories

-- ---- statements

module _ (calls : Calls) (all : List Declaration) where
  abbrev mutual
    -- a statement, but a loop or a branch
    pub says_item : StatementTree → (in_scope : Bool) → (next : ℕ) → Setting → (most : ℕ) → Memories → (turns : ℕ) → Coming Place
    says_item (assign line name at add value) in_scope next setting most memories turns =
        big_leaf (place_at setting line) (element_statement setting in_scope name at add value) memories turns
    says_item (copy line to to_dimensions from from_dimensions) in_scope next setting most memories turns =
        big_leaf (place_at setting line) (copy_statement (part_in setting from from_dimensions) (part_in setting to to_dimensions)) memories turns
    says_item (reduce line lambda from to axis identity) in_scope next setting most memories turns =
        big_leaf (place_at setting line) (reduce_statement lambda (part_in setting from []) (part_in setting to []) axis identity) memories turns
    says_item (tasklet line body) in_scope next setting most memories turns =
        big_leaf (place_at setting line) (tasklet_statement setting body) memories turns
    says_item (call line name arguments) in_scope next setting most memories turns =
        calls name (parts_passed setting arguments) (frames_at setting line) most memories turns
    says_item (map_scope line parameters ranges body) in_scope next setting most memories turns =
        one_by_one
        (λ point memories turns. leaving (says_body body next (at_point (zip parameters point) setting) most (scope_memory all (own_of body next) ∷ memories) turns))
        (tuples (ranges_in setting.variables ranges)) memories turns
    says_item (consume_scope line stream size name element worker body) in_scope next setting most memories turns =
        big_takes most (held_by setting stream).reach.level (held_by setting stream).reach.container
        (λ value memories turns.
        let inside : Setting = inside_showing ((element, value) ∷ []) setting in
        let own : Memories = element_memory all next (own_of body (next + 1)) value ∷ memories in
        leaving (cond (has_connector body)
        (big_leaf (place_at inside line) (taking_tasklet inside element (own_held all next) body) own turns)
        (says_body body (next + 1) (with_container element (own_held all next) inside) most own turns)))
        memories turns
    says_item statement in_scope next setting most memories turns = reached memories turns

    -- the block of a scope
    pub says_body : Block → (next : ℕ) → Setting → (most : ℕ) → Memories → (turns : ℕ) → Coming Place
    says_body no_statement next setting most memories turns = reached memories turns
    says_body (and_statement first rest) next setting most memories turns =
        and_then (says_item first true next setting most memories turns) (says_body rest (next + containers_in first) (behind all first next setting) most)

  abbrev mutual
    -- a statement of a program's own block
    pub says_one : StatementTree → (next : ℕ) → Setting → (most : ℕ) → Memories → (turns : ℕ) → Coming Place
    says_one (branch line when body other) next setting most memories turns =
        if_passed (tested setting line when memories)
        (says_block body next setting most memories turns)
        (says_block other (next + containers_in_all body) (behind_all all body next setting) most memories turns)
    says_one (while_loop line when body) next setting most memories turns =
        rounds most (λ value memories. tested setting line when memories) (λ value. says_block body next setting most) (pos 0) (pos 0) memories turns
    says_one (for_loop line name begin end step body) next setting most memories turns =
        rounds most
        (λ value memories. tested (in_round name value setting) line (two Less (named name) end) memories)
        (λ value. says_block body next (in_round name value setting) most)
        (step_or_one step) (exact_or (pos 0) setting.variables begin) memories turns
    says_one statement next setting most memories turns = says_item statement false next setting most memories turns

    pub says_block : Block → (next : ℕ) → Setting → (most : ℕ) → Memories → (turns : ℕ) → Coming Place
    says_block no_statement next setting most memories turns = reached memories turns
    says_block (and_statement first rest) next setting most memories turns =
        and_then (says_one first next setting most memories turns) (says_block rest (next + containers_in first) (behind_one all first next setting) most)

-- ---- programs

-- the statements of a program, whose arguments are reached so
abbrev pub says_function : (sizes : Named ℤ) → Calls → FunctionTree → (reach : ℕ → Reach) → (around : List Frame) → (most : ℕ) → Memories → (turns : ℕ) → Coming Place
says_function sizes calls function reach around most memories turns =
    says_block calls (declared_of sizes function) function.body (containers_in_all function.arguments) (setting_of sizes function reach around) most memories turns

-- a call of the latest of these programs that has a name
abbrev pub says_call : (sizes : Named ℤ) → List FunctionTree → Calls
says_call sizes [] name arguments around most memories turns = reached memories turns
says_call sizes (function ∷ earlier) name arguments around most memories turns =
    let all : List Declaration = declared_of sizes function in
    cond (bytes_eq name function.name)
    (leaving (says_function sizes (says_call sizes earlier) function (reach_passed all arguments) around most (run_memory all ∷ memories) turns))
    (says_call sizes earlier name arguments around most memories turns)

-- the last of these programs over its memory
abbrev pub says_last : (sizes : Named ℤ) → List FunctionTree → (most : ℕ) → Memories → (turns : ℕ) → Coming Place
says_last sizes [] most memories turns = reached memories turns
says_last sizes (function ∷ earlier) most memories turns =
    says_function sizes (says_call sizes earlier) function (λ number. own_reach (shape_at (declared_of sizes function) number) number) [] most memories turns

abbrev pub said_within : (most : ℕ) → ProgramTree → (sizes : Named ℤ) → Memory → (turns : ℕ) → Option (Outcome Place Left)
said_within most source sizes memory turns = left_by (says_last (sizes_of source sizes) (reverse source.functions) most (memory ∷ []) turns)

abbrev pub Says : ProgramTree → (sizes : Named ℤ) → Memory → (turns : ℕ) → Outcome Place Left → Type 0
Says source sizes memory turns outcome = (most : ℕ) × (said_within most source sizes memory turns ≡ Some outcome)
