-- What a source says is what it says by leaves.
use Rattle.std.proofs.Common.{◌≡◌, ◌∙◌, ℕ, zero, suc, ◌+◌, ℤ, pos, ◌+ℤ◌, List, [], ◌∷◌, reverse, drop, Some, None, Ok, Bool, true, false, cond, if◌then◌else◌, bytes_eq, slice_get, refl}
use Rattle.std.specs.List.{zip}
use Rattle.sd_lex.specs.PlainTree.{Expression, named, two, StatementTree, assign, copy, reduce, map_scope, tasklet, consume_scope, call, for_loop, while_loop, branch, Block, no_statement, and_statement, FunctionTree, ProgramTree}
use Rattle.sd_lex.specs.StatementKind.{has_connector}
use Rattle.sd_lex.specs.declared.syntax.operator.TwoSign.TheVariants.{Less}
use Rattle.sd_range.specs.Points.{tuples}
use Rattle.sd_range.specs.Subset.{whole}
use Rattle.sd_work.specs.Memory.{Memory, Memories, waiting}
use Rattle.sd_work.specs.Change.{without, with_values, with_contents, take, apply}
use Rattle.sd_work.specs.Step.{Outcome}
use Rattle.sd_work.specs.Run.{Left}
use Rattle.sd_work.specs.BigStep.{reached, and_then, after_oldest, big_takes, big_leaf, leaving}
use Rattle.sd_work.specs.BigRun.{left_by}
use Rattle.sd_graph.specs.TaskletMeaning as meaning
use Rattle.sd_graph.specs.declared.place.Frame.{Frame}
use Rattle.sd_graph.specs.declared.place.Place.{Place}
use Rattle.sd_program.specs.Names.{Name, Named}
use Rattle.sd_program.specs.Declared.{containers_in, containers_in_all}
use Rattle.sd_says.specs.Exact.{exact_or, step_or_one, ranges_in}
use Rattle.sd_says.specs.Held.{Held, own_reach}
use Rattle.sd_says.specs.Declared.{Declaration, declared_of, own_held, scope_memory, element_memory, run_memory}
use Rattle.sd_says.specs.Setting.{Setting, taken_in, held_by, place_at, with_container, inside_showing, at_point}
use Rattle.sd_says.specs.Parts.{Part, part_in, part_extents, part_elements, part_element}
use Rattle.sd_says.specs.Operators.{resolution_of}
use Rattle.sd_says.specs.Work.{Doing, followed_by, within, spending_one}
use Rattle.sd_says.specs.Effects.{instance_at}
use Rattle.sd_says.specs.Connectors.{element_inlet, elements_read, inputs_with, inlets_of, outlets_of}
use Rattle.sd_says.specs.Tasklets.{task_lines}
use Rattle.sd_says.specs.Pieces.{tasklet_effects, copied, target_place}
use Rattle.sd_says.specs.AsLeaves.{tasklet_statement, taking_tasklet}
use Rattle.sd_says.specs.Behind.{own_of, behind, behind_one, behind_all}
use Rattle.sd_says.specs.Ways.{one_by_one, for_oldest, takes, rounds}
use Rattle.sd_says.specs.Items.{Calls, says_item, says_body}
use Rattle.sd_says.specs.Statements.{in_round, says_one, says_block}
use Rattle.sd_says.specs.Says.{shape_at, argument_reach, reach_passed, setting_of, says_function, says_call, says_last, sizes_of, said_within, Says}
use Rattle.sd_says.proofs.ByLeaves as leaves
use Rattle.sd_says.proofs.SamePieces.{spending-same, doing-same, instance-same, condition-same, element-statement-same, reduction-same}

-- ---- ways

points-same : (work : List ℤ → Doing) (points : List (List ℤ)) → leaves.one_by_one work points ≡ one_by_one work points
points-same work [] = refl
points-same work (point ∷ points) = λ i memories turns. and_then (work point memories turns) (points-same work points i)

without-first : (values : List ℤ) → without 0 values ≡ drop 1 values
without-first [] = refl
without-first (value ∷ values) = refl

module _ (level container : ℕ) (work : ℤ → Doing) where
  oldest-same : (values : List ℤ) (this other : Doing) (memories : Memories) (turns : ℕ) → this ≡ other →
      after_oldest values memories turns (λ value. and_then (work value (apply (take level container 0) memories) turns) this)
      ≡ for_oldest values (λ value memories. followed_by (work value) other (with_contents level container (with_values (λ width. drop 1)) memories)) memories turns
  oldest-same [] this other memories turns e = refl
  oldest-same (value ∷ values) this other memories turns e =
      (λ i. and_then (work value (with_contents level container (with_values (λ width list. without-first list i)) memories) turns) (e i))

  takes-same : (most : ℕ) → big_takes most level container work ≡ takes level container work most
  takes-same zero = refl
  takes-same (suc most) = λ i memories turns. oldest-same (waiting level container memories) (big_takes most level container work) (takes level container work most) memories turns (takes-same most) i

module _ (at : ℤ → Setting) (line : ℕ) (when : Expression) (block : Setting → Doing) (step : ℤ) where
  rounds-same : (most : ℕ) (value : ℤ) → leaves.rounds most (λ value memories. leaves.tested (at value) line when memories) (λ value. block (at value)) step value ≡ rounds at line when block step most value
  rounds-same zero value = refl
  rounds-same (suc most) value = λ i memories turns.
      ((λ k. leaves.if_passed (leaves.tested (at value) line when memories)
      (and_then (block (at value) memories turns) (λ memories turns. (spending-same turns (λ turns. rounds-same most (value +ℤ step) k memories turns) k))) (reached memories turns))
      ∙ condition-same (at value) line when (followed_by (block (at value)) (λ memories turns. spending_one turns (rounds at line when block step most (value +ℤ step) memories))) reached memories turns) i

-- ---- statements

pub tasklet-same : (setting : Setting) (line : ℕ) (body : Block) (memories : Memories) (turns : ℕ) →
    big_leaf (place_at setting line) (tasklet_statement setting body) memories turns ≡ instance_at (place_at setting line) (tasklet_effects setting [] body) memories turns
tasklet-same setting line body memories turns =
    instance-same (place_at setting line) (elements_read (inlets_of setting body))
    (λ read. meaning.and_then (task_lines setting.variables (taken_in (inputs_with (inlets_of setting body) read) []) (taken_in (outlets_of setting body) []) body (record { locals = []; effects = [] })) (λ now. Ok now.effects)) memories turns

pub taking-same : (setting : Setting) (line : ℕ) (element : Name) (held : Held) (body : Block) (memories : Memories) (turns : ℕ) →
    big_leaf (place_at setting line) (taking_tasklet setting element held body) memories turns ≡ instance_at (place_at setting line) (tasklet_effects setting ((element, element_inlet held) ∷ []) body) memories turns
taking-same setting line element held body memories turns =
    instance-same (place_at setting line) (elements_read ((element, element_inlet held) ∷ inlets_of setting body))
    (λ read. meaning.and_then (task_lines setting.variables (taken_in (inputs_with ((element, element_inlet held) ∷ inlets_of setting body) read) []) (taken_in (outlets_of setting body) []) body (record { locals = []; effects = [] })) (λ now. Ok now.effects)) memories turns

either-same : (alone : Bool) (leaf block this other : Doing) → leaf ≡ this → block ≡ other → (λ memories turns. cond alone (leaf memories turns) (block memories turns)) ≡ (if alone then this else other)
either-same true leaf block this other e f = e
either-same false leaf block this other e f = f

-- nothing is passed
abbrev nobody : List Part
nobody = []

module _ (calls : Calls) (all : List Declaration) (most : ℕ) where
  -- what is done for a value that was taken
  taken-same : (line : ℕ) (element : Name) (body : Block) (next : ℕ) (inside : Setting) →
      leaves.says_body calls all body (next + 1) (with_container element (own_held all next) inside) most ≡ says_body calls all most body (next + 1) (with_container element (own_held all next) inside) →
      (λ own turns. cond (has_connector body) (big_leaf (place_at inside line) (taking_tasklet inside element (own_held all next) body) own turns)
      (leaves.says_body calls all body (next + 1) (with_container element (own_held all next) inside) most own turns))
      ≡ (if has_connector body then instance_at (place_at inside line) (tasklet_effects inside ((element, element_inlet (own_held all next)) ∷ []) body)
      else says_body calls all most body (next + 1) (with_container element (own_held all next) inside))
  taken-same line element body next inside e =
      either-same (has_connector body) (big_leaf (place_at inside line) (taking_tasklet inside element (own_held all next) body)) (leaves.says_body calls all body (next + 1) (with_container element (own_held all next) inside) most)
      (instance_at (place_at inside line) (tasklet_effects inside ((element, element_inlet (own_held all next)) ∷ []) body)) (says_body calls all most body (next + 1) (with_container element (own_held all next) inside))
      (λ i memories turns. taking-same inside line element (own_held all next) body memories turns i) e

  mutual
    pub item-same : (first : StatementTree) (in_scope : Bool) (next : ℕ) (setting : Setting) → leaves.says_item calls all first in_scope next setting most ≡ says_item calls all most first in_scope next setting
    item-same (assign line name at add value) in_scope next setting = λ i memories turns. element-statement-same setting (place_at setting line) in_scope name at add value memories turns i
    item-same (copy line to to_dimensions from from_dimensions) in_scope next setting = λ i memories turns. doing-same (place_at setting line) (copied (part_in setting from from_dimensions) (part_in setting to to_dimensions)) memories turns i
    item-same (reduce line lambda from to axis identity) in_scope next setting = λ i memories turns.
        reduction-same (place_at setting line) (resolution_of lambda) identity (part_elements (part_in setting to [])) (λ place. part_element (part_in setting from []) place)
        (λ place. part_element (part_in setting to []) (target_place axis place)) (whole (part_extents (part_in setting from []))) memories turns i
    item-same (tasklet line body) in_scope next setting = λ i memories turns. tasklet-same setting line body memories turns i
    item-same (call line name arguments) in_scope next setting = refl
    item-same (map_scope line parameters ranges body) in_scope next setting =
        (λ i. leaves.one_by_one (λ point memories turns. leaving (body-same body next (at_point (zip parameters point) setting) i (scope_memory all (own_of body next) ∷ memories) turns)) (tuples (ranges_in setting.variables ranges)))
        ∙ points-same (λ point. within (scope_memory all (own_of body next)) (says_body calls all most body next (at_point (zip parameters point) setting))) (tuples (ranges_in setting.variables ranges))
    item-same (consume_scope line stream size name element worker body) in_scope next setting =
        (λ i. big_takes most (held_by setting stream).reach.level (held_by setting stream).reach.container
        (λ value memories turns. leaving (taken-same line element body next (inside_showing ((element, value) ∷ []) setting)
        (body-same body (next + 1) (with_container element (own_held all next) (inside_showing ((element, value) ∷ []) setting))) i
        (element_memory all next (own_of body (next + 1)) value ∷ memories) turns)))
        ∙ takes-same (held_by setting stream).reach.level (held_by setting stream).reach.container
        (λ value. within (element_memory all next (own_of body (next + 1)) value)
        (if has_connector body then instance_at (place_at (inside_showing ((element, value) ∷ []) setting) line) (tasklet_effects (inside_showing ((element, value) ∷ []) setting) ((element, element_inlet (own_held all next)) ∷ []) body)
        else says_body calls all most body (next + 1) (with_container element (own_held all next) (inside_showing ((element, value) ∷ []) setting)))) most
    item-same statement in_scope next setting = refl

    pub body-same : (body : Block) (next : ℕ) (setting : Setting) → leaves.says_body calls all body next setting most ≡ says_body calls all most body next setting
    body-same no_statement next setting = refl
    body-same (and_statement first rest) next setting =
        λ i memories turns. and_then (item-same first true next setting i memories turns) (body-same rest (next + containers_in first) (behind all first next setting) i)

  mutual
    pub one-same : (first : StatementTree) (next : ℕ) (setting : Setting) → leaves.says_one calls all first next setting most ≡ says_one calls all most first next setting
    one-same (branch line when body other) next setting =
        (λ i memories turns. leaves.if_passed (leaves.tested setting line when memories) (block-same body next setting i memories turns)
        (block-same other (next + containers_in_all body) (behind_all all body next setting) i memories turns))
        ∙ (λ i memories turns. condition-same setting line when (says_block calls all most body next setting) (says_block calls all most other (next + containers_in_all body) (behind_all all body next setting)) memories turns i)
    one-same (while_loop line when body) next setting =
        (λ i. leaves.rounds most (λ value memories. leaves.tested setting line when memories) (λ value. block-same body next setting i) (pos 0) (pos 0))
        ∙ rounds-same (λ value. setting) line when (says_block calls all most body next) (pos 0) most (pos 0)
    one-same (for_loop line name begin end step body) next setting =
        (λ i. leaves.rounds most (λ value memories. leaves.tested (in_round name value setting) line (two Less (named name) end) memories)
        (λ value. block-same body next (in_round name value setting) i) (step_or_one step) (exact_or (pos 0) setting.variables begin))
        ∙ rounds-same (λ value. in_round name value setting) line (two Less (named name) end) (says_block calls all most body next) (step_or_one step) most (exact_or (pos 0) setting.variables begin)
    one-same statement next setting = item-same statement false next setting

    pub block-same : (block : Block) (next : ℕ) (setting : Setting) → leaves.says_block calls all block next setting most ≡ says_block calls all most block next setting
    block-same no_statement next setting = refl
    block-same (and_statement first rest) next setting =
        λ i memories turns. and_then (one-same first next setting i memories turns) (block-same rest (next + containers_in first) (behind_one all first next setting) i)

-- ---- programs

module _ (sizes : Named ℤ) where
  function-same : (calls told : Calls) → calls ≡ told → (function : FunctionTree) (arguments : List Part) (around : List Frame) (most : ℕ) →
      leaves.says_function sizes calls function (reach_passed (declared_of sizes function) arguments) around most ≡ says_function sizes told function arguments around most
  function-same calls told e function arguments around most =
      (λ i. leaves.says_function sizes (e i) function (reach_passed (declared_of sizes function) arguments) around most)
      ∙ block-same told (declared_of sizes function) most function.body (containers_in_all function.arguments) (setting_of sizes function (reach_passed (declared_of sizes function) arguments) around)

  named-same : (same : Bool) (this other now later : Doing) → this ≡ now → other ≡ later → (λ memories turns. cond same (this memories turns) (other memories turns)) ≡ (if same then now else later)
  named-same true this other now later e f = e
  named-same false this other now later e f = f

  pub call-same : (functions : List FunctionTree) → leaves.says_call sizes functions ≡ says_call sizes functions
  call-same [] = refl
  call-same (function ∷ earlier) = λ i name arguments around most.
      named-same (bytes_eq name function.name)
      (λ memories turns. leaving (leaves.says_function sizes (leaves.says_call sizes earlier) function (reach_passed (declared_of sizes function) arguments) around most (run_memory (declared_of sizes function) ∷ memories) turns))
      (leaves.says_call sizes earlier name arguments around most)
      (within (run_memory (declared_of sizes function)) (says_function sizes (says_call sizes earlier) function arguments around most))
      (says_call sizes earlier name arguments around most)
      (λ k memories turns. leaving (function-same (leaves.says_call sizes earlier) (says_call sizes earlier) (call-same earlier) function arguments around most k (run_memory (declared_of sizes function) ∷ memories) turns))
      (λ k. call-same earlier k name arguments around most) i

  -- where nothing is passed, an argument is its own
  nothing-passed : (all : List Declaration) → (λ number. own_reach (shape_at all number) number) ≡ reach_passed all []
  nothing-passed all = λ i number. argument_reach (shape_at all number) number (none number i)
    where
      none : (number : ℕ) → None ≡ slice_get nobody number
      none zero = refl
      none (suc number) = refl

  pub last-same : (functions : List FunctionTree) (most : ℕ) → leaves.says_last sizes functions most ≡ says_last sizes functions most
  last-same [] most = refl
  last-same (function ∷ earlier) most =
      (λ i. leaves.says_function sizes (leaves.says_call sizes earlier) function (nothing-passed (declared_of sizes function) i) [] most)
      ∙ function-same (leaves.says_call sizes earlier) (says_call sizes earlier) (call-same earlier) function [] [] most

pub said-same : (most : ℕ) (source : ProgramTree) (sizes : Named ℤ) (memory : Memory) (turns : ℕ) → leaves.said_within most source sizes memory turns ≡ said_within most source sizes memory turns
said-same most source sizes memory turns = λ i. left_by (last-same (sizes_of source sizes) (reverse source.functions) most i (memory ∷ []) turns)

pub says-same : (source : ProgramTree) (sizes : Named ℤ) (memory : Memory) (turns : ℕ) (outcome : Outcome Place Left) → leaves.Says source sizes memory turns outcome ≡ Says source sizes memory turns outcome
says-same source sizes memory turns outcome = λ i. (most : ℕ) × (said-same most source sizes memory turns i ≡ Some outcome)
