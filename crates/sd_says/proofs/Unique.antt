-- Each source comes to one end alone.
use Rattle.std.proofs.Common.{◌≡◌, ℕ, ◌+◌, ℤ, pos, List, [], ◌∷◌, reverse, Some, None, Bool, true, false, bytes_eq, refl, ◌∙◌, ap, subst, arith}
use Rattle.std.specs.List.{zip}
use Rattle.sd_lex.specs.PlainTree.{named, two, StatementTree, map_scope, consume_scope, call, for_loop, while_loop, branch, Block, no_statement, and_statement, FunctionTree, ProgramTree}
use Rattle.sd_lex.specs.StatementKind.{has_connector}
use Rattle.sd_lex.specs.declared.syntax.operator.TwoSign.TheVariants.{Less}
use Rattle.sd_range.specs.Points.{tuples}
use Rattle.sd_work.specs.Memory.{Memory, Memories}
use Rattle.sd_work.specs.Step.{Outcome}
use Rattle.sd_work.specs.Run.{Left}
use Rattle.sd_work.specs.BigStep.{Coming, leaving}
use Rattle.sd_work.specs.BigRun.{left_by}
use Rattle.sd_graph.specs.Context.{Reach}
use Rattle.sd_graph.specs.declared.place.Frame.{Frame}
use Rattle.sd_graph.specs.declared.place.Place.{Place}
use Rattle.sd_program.specs.Names.{Name, Named}
use Rattle.sd_program.specs.Declared.{containers_in, containers_in_all}
use Rattle.sd_says.specs.Exact.{exact_or, step_or_one, ranges_in}
use Rattle.sd_says.specs.Held.{own_reach}
use Rattle.sd_says.specs.Declared.{Declaration, declared_of, own_held, scope_memory, element_memory, run_memory}
use Rattle.sd_says.specs.Setting.{Setting, held_by, frames_at, with_container, inside_showing, at_point}
use Rattle.sd_says.specs.Parts.{Part}
use Rattle.sd_says.specs.Behind.{own_of, behind, behind_one, behind_all}
use Rattle.sd_says.specs.Items.{Calls, parts_passed}
use Rattle.sd_says.specs.Statements.{in_round}
use Rattle.sd_says.specs.Says.{setting_of, shape_at, reach_passed, sizes_of}
use Rattle.sd_says.proofs.ByLeaves.{tested, says_item, says_body, says_one, says_block, says_function, says_call, says_last, said_within, Says}
use Rattle.sd_says.proofs.Total.{element-work, point-work}
use Rattle.sd_says.proofs.More.{Extends, more-then, more-leaving, more-cond, more-if, more-points, more-rounds, more-takes}

module _ (calls : Calls) (all : List Declaration) (n k : ℕ)
    (calls-more : (name : Name) (arguments : List Part) (around : List Frame) (memories : Memories) (turns : ℕ) → Extends (calls name arguments around n memories turns) (calls name arguments around (n + k) memories turns)) where
  mutual
    item-more : (first : StatementTree) (in_scope : Bool) (next : ℕ) (setting : Setting) (memories : Memories) (turns : ℕ) →
        Extends (says_item calls all first in_scope next setting n memories turns) (says_item calls all first in_scope next setting (n + k) memories turns)
    item-more (map_scope line parameters ranges body) in_scope next setting memories turns =
        more-points (λ point memories turns. leaving (point-work calls all parameters body next setting point n (scope_memory all (own_of body next) ∷ memories) turns))
        (λ point memories turns. leaving (point-work calls all parameters body next setting point (n + k) (scope_memory all (own_of body next) ∷ memories) turns))
        (λ point memories turns. more-leaving _ _ (body-more body next (at_point (zip parameters point) setting) (scope_memory all (own_of body next) ∷ memories) turns))
        (tuples (ranges_in setting.variables ranges)) memories turns
    item-more (consume_scope line stream size name element worker body) in_scope next setting memories turns =
        more-takes k (held_by setting stream).reach.level (held_by setting stream).reach.container
        (λ value memories turns. leaving (element-work calls all line element body next setting value n (element_memory all next (own_of body (next + 1)) value ∷ memories) turns))
        (λ value memories turns. leaving (element-work calls all line element body next setting value (n + k) (element_memory all next (own_of body (next + 1)) value ∷ memories) turns))
        (λ value memories turns. more-leaving _ _ (more-cond (has_connector body) _ _ _ _ (λ o e. e)
        (body-more body (next + 1) (with_container element (own_held all next) (inside_showing ((element, value) ∷ []) setting)) (element_memory all next (own_of body (next + 1)) value ∷ memories) turns)))
        n memories turns
    item-more (call line name arguments) in_scope next setting memories turns = calls-more name (parts_passed setting arguments) (frames_at setting line) memories turns
    item-more statement in_scope next setting memories turns = λ o e. e

    body-more : (body : Block) (next : ℕ) (setting : Setting) (memories : Memories) (turns : ℕ) →
        Extends (says_body calls all body next setting n memories turns) (says_body calls all body next setting (n + k) memories turns)
    body-more no_statement next setting memories turns = λ o e. e
    body-more (and_statement first rest) next setting memories turns =
        more-then _ _ (says_body calls all rest (next + containers_in first) (behind all first next setting) n) (says_body calls all rest (next + containers_in first) (behind all first next setting) (n + k))
        (item-more first true next setting memories turns) (body-more rest (next + containers_in first) (behind all first next setting))

  mutual
    one-more : (first : StatementTree) (next : ℕ) (setting : Setting) (memories : Memories) (turns : ℕ) →
        Extends (says_one calls all first next setting n memories turns) (says_one calls all first next setting (n + k) memories turns)
    one-more (branch line when body other) next setting memories turns =
        more-if (tested setting line when memories) _ _ _ _ (block-more body next setting memories turns) (block-more other (next + containers_in_all body) (behind_all all body next setting) memories turns)
    one-more (while_loop line when body) next setting memories turns =
        more-rounds k (λ value memories. tested setting line when memories) (λ value. says_block calls all body next setting n) (λ value. says_block calls all body next setting (n + k)) (pos 0)
        (λ value memories turns. block-more body next setting memories turns) n (pos 0) memories turns
    one-more (for_loop line name begin end step body) next setting memories turns =
        more-rounds k (λ value memories. tested (in_round name value setting) line (two Less (named name) end) memories)
        (λ value. says_block calls all body next (in_round name value setting) n) (λ value. says_block calls all body next (in_round name value setting) (n + k)) (step_or_one step)
        (λ value memories turns. block-more body next (in_round name value setting) memories turns) n (exact_or (pos 0) setting.variables begin) memories turns
    one-more statement next setting memories turns = item-more statement false next setting memories turns

    pub block-more : (block : Block) (next : ℕ) (setting : Setting) (memories : Memories) (turns : ℕ) →
        Extends (says_block calls all block next setting n memories turns) (says_block calls all block next setting (n + k) memories turns)
    block-more no_statement next setting memories turns = λ o e. e
    block-more (and_statement first rest) next setting memories turns =
        more-then _ _ (says_block calls all rest (next + containers_in first) (behind_one all first next setting) n) (says_block calls all rest (next + containers_in first) (behind_one all first next setting) (n + k))
        (one-more first next setting memories turns) (block-more rest (next + containers_in first) (behind_one all first next setting))

function-more : (sizes : Named ℤ) (calls : Calls) (n k : ℕ) →
    ((name : Name) (arguments : List Part) (around : List Frame) (memories : Memories) (turns : ℕ) → Extends (calls name arguments around n memories turns) (calls name arguments around (n + k) memories turns)) →
    (function : FunctionTree) (reach : ℕ → Reach) (around : List Frame) (memories : Memories) (turns : ℕ) →
    Extends (says_function sizes calls function reach around n memories turns) (says_function sizes calls function reach around (n + k) memories turns)
function-more sizes calls n k more function reach around memories turns =
    block-more calls (declared_of sizes function) n k more function.body (containers_in_all function.arguments) (setting_of sizes function reach around) memories turns

call-more : (sizes : Named ℤ) (n k : ℕ) (functions : List FunctionTree) (name : Name) (arguments : List Part) (around : List Frame) (memories : Memories) (turns : ℕ) →
    Extends (says_call sizes functions name arguments around n memories turns) (says_call sizes functions name arguments around (n + k) memories turns)
call-more sizes n k [] name arguments around memories turns = λ o e. e
call-more sizes n k (function ∷ earlier) name arguments around memories turns =
    more-cond (bytes_eq name function.name) _ _ _ _
    (more-leaving _ _ (function-more sizes (says_call sizes earlier) n k (call-more sizes n k earlier) function (reach_passed (declared_of sizes function) arguments) around (run_memory (declared_of sizes function) ∷ memories) turns))
    (call-more sizes n k earlier name arguments around memories turns)

last-more : (sizes : Named ℤ) (n k : ℕ) (functions : List FunctionTree) (memories : Memories) (turns : ℕ) → Extends (says_last sizes functions n memories turns) (says_last sizes functions (n + k) memories turns)
last-more sizes n k [] memories turns = λ o e. e
last-more sizes n k (function ∷ earlier) memories turns =
    function-more sizes (says_call sizes earlier) n k (call-more sizes n k earlier) function (λ number. own_reach (shape_at (declared_of sizes function) number) number) [] memories turns

left-more : (first other : Coming Place) → Extends first other → (o : Outcome Place Left) → left_by first ≡ Some o → left_by other ≡ Some o
left-more None other h o e = cc
left-more (Some r) other h o e = ap left_by (h r refl) ∙ e

-- with more tests and takes allowed the same is said
pub said-more : (source : ProgramTree) (sizes : Named ℤ) (memory : Memory) (turns n k : ℕ) (o : Outcome Place Left) →
    said_within n source sizes memory turns ≡ Some o → said_within (n + k) source sizes memory turns ≡ Some o
said-more source sizes memory turns n k o e = left-more _ _ (last-more (sizes_of source sizes) n k (reverse source.functions) (memory ∷ []) turns) o e

-- one outcome at most
pub source-once : (source : ProgramTree) (sizes : Named ℤ) (memory : Memory) (turns : ℕ) (o p : Outcome Place Left) → Says source sizes memory turns o → Says source sizes memory turns p → o ≡ p
source-once source sizes memory turns o p e f =
    let a = said-more source sizes memory turns e.0 f.0 o e.1 in
    let b = said-more source sizes memory turns f.0 e.0 p f.1 in
    let same : e.0 + f.0 ≡ f.0 + e.0 = omega arith in
    let c : said_within (f.0 + e.0) source sizes memory turns ≡ Some o = subst (λ m. said_within m source sizes memory turns ≡ Some o) same a in
    cc
