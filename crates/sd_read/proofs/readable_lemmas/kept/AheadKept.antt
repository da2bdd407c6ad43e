-- What is ahead behind each line.
use Rattle.std.proofs.Common.{◌≡◌, ℕ, zero, suc, ◌-◌, List, [], ◌∷◌, ◌++◌, nat_eq, Bool, true, false, ◌||◌, refl, ap, sym, ◌∙◌, arith}
use Rattle.std.specs.Bool.{⊤}
use Rattle.std.proofs.lemmas.Bool.{ne_eqb, le-ltb}
use Rattle.sd_lex.specs.PlainTree.{StatementTree, argument_array, local_array, local_stream, assign, copy, reduce, map_scope, tasklet, consume_scope, call, for_loop, while_loop, branch, input, output, set, set_at, tasklet_branch}
use Rattle.sd_lex.specs.StatementKind.{is_connector}
use Rattle.sd_phrase.specs.Memlet.{MemletTree}
use Rattle.sd_line.specs.declared.line.head.BlockKind.{BlockKind}
use Rattle.sd_line.specs.declared.line.head.BlockKind.TheVariants.{Top, Program, Scope, Tasklet}
use Rattle.sd_line.specs.line.Head.{HeadTree, import_line, symbol_line, program_decorator, program_head, statement_head, reduce_head, input_head, output_head, consume_decorator, consume_head, elif_head, else_head}
use Rattle.sd_names.specs.Names.{Name}
use Rattle.sd_refusal.specs.Counting.{is_connector as says_connector}
use Rattle.sd_refusal.specs.OverLimit.{is_tasklet}
use Rattle.sd_context.specs.context.After.{context_after}
use Rattle.sd_context.specs.context.Awaiting.{awaited_behind}
use Rattle.sd_context.specs.context.Context.{Branch, OpenBlock, block, Context, opening}
use Rattle.sd_context.specs.blocks.Continuing.{is_elif_or_else, next_opener}
use Rattle.sd_line.specs.lines.Lines.{Line, connects_from, has_connector_line, opens_tasklet}
use Rattle.sd_context.specs.context.Placing.{consume_kind}
use Rattle.sd_read.proofs.readable_lemmas.kept.Heads.{IsBodyStatement, IsTaskletStatement, Fits}
use Rattle.sd_read.proofs.readable_lemmas.kept.Passing.{true_is_not_false, false_is_not_true}
use Rattle.sd_read.proofs.readable_lemmas.kept.Ahead.{Ahead, ahead, seen, connects_in, is_consumer, Promises, AllPromise, Within, BetweenBy, Between, promise-map, connects-joined, promise-more, seen_by, ended-ahead}

-- ---- a line is accepted

-- a line that begins as a connector line says a connector in a tasklet
abbrev pub Connects : BlockKind → (connects : Bool) → HeadTree → Type 0
Connects kind connects head = is_tasklet kind ≡ true → connects ≡ true → says_connector head ≡ true

abbrev here : Bool → List Line → Ahead
here connects lines = ahead 0 connects lines

behind-ahead : (connects : Bool) (lines : List Line) (n : ℕ) → seen (here connects lines) (suc n) ≡ connects_from (suc n) lines
behind-ahead connects lines n =
    let left : suc n - 0 ≡ suc n = omega arith in
    ap (λ fewer. seen_by connects lines fewer (nat_eq (suc n) 0) (suc n - 0)) (le-ltb (suc n) 0 (omega arith)) ∙ ap (λ same. seen_by connects lines false same (suc n - 0)) (ne_eqb (suc n) 0 (λ is. omega arith))
    ∙ ap (λ left. connects_from left lines) left

-- the promise of a block whose line is no connector
promise-kept : (b : OpenBlock) (connects : Bool) (lines : List Line) (head : HeadTree) → Connects b.kind connects head → says_connector head ≡ false → Promises b (seen (here connects lines) zero) → Promises b (connects_from zero lines)
promise-kept b connects lines head fit none promises = record {
  pure = promises.pure;
  owed = λ taken is. by_line connects (λ on. sym none ∙ fit is on) (connects_in b.statements) (connects_from zero lines) (promises.owed taken is);
} where
  by_line : (connects : Bool) → (connects ≡ true → false ≡ true) → (a later : Bool) → a || (connects || later) ≡ true → a || later ≡ true
  by_line true on a later is = false_is_not_true (on refl)
  by_line false on a later is = is

outer-kept : (connects : Bool) (lines : List Line) (outer : List OpenBlock) → AllPromise (λ n. seen (here connects lines) (suc n)) outer → AllPromise (λ n. connects_from (suc n) lines) outer
outer-kept connects lines outer all = promise-map _ _ outer (λ n is. sym (behind-ahead connects lines n) ∙ is) all

-- the blocks behind a line that is no connector
blocks-kept : (b : OpenBlock) (outer : List OpenBlock) (connects : Bool) (lines : List Line) (head : HeadTree) → Connects b.kind connects head → says_connector head ≡ false →
    AllPromise (seen (here connects lines)) (b ∷ outer) → AllPromise (λ n. connects_from n lines) (b ∷ outer)
blocks-kept b outer connects lines head fit none all = (promise-kept b connects lines head fit none all.0, outer-kept connects lines outer all.1)

-- behind a statement that is no connector
leaf-kept : (b : OpenBlock) (outer : List OpenBlock) (connects : Bool) (lines : List Line) (head : HeadTree) (s : StatementTree) → Connects b.kind connects head → says_connector head ≡ false → is_connector s ≡ false →
    AllPromise (seen (here connects lines)) (b ∷ outer) → AllPromise (λ n. connects_from n lines) (record b { statements = b.statements ++ s ∷ [] } ∷ outer)
leaf-kept b outer connects lines head s fit none plain all =
    let kept = blocks-kept b outer connects lines head fit none all in
    (promise-more b (connects_from zero lines) (s ∷ []) (λ is. ap (λ c. c || false) plain) kept.0, kept.1)

-- behind a connector
connector-kept : (b : OpenBlock) (outer : List OpenBlock) (connects : Bool) (lines : List Line) (s : StatementTree) → is_tasklet b.kind ≡ true → is_connector s ≡ true →
    AllPromise (seen (here connects lines)) (b ∷ outer) → AllPromise (λ n. connects_from n lines) (record b { statements = b.statements ++ s ∷ [] } ∷ outer)
connector-kept b outer connects lines s inside is all = (
  record {
    pure = λ plain. true_is_not_false (sym inside ∙ plain);
    owed = λ taken kind. ap (λ c. c || connects_from zero lines) (connects-joined b.statements (s ∷ []) ∙ ap (λ c. connects_in b.statements || (c || false)) is ∙ second (connects_in b.statements));
  },
  outer-kept connects lines outer all.1,
) where
  second : (a : Bool) → a || (true || false) ≡ true
  second true = refl
  second false = refl

-- a block of its own
abbrev fresh : OpenBlock → Type 0
fresh b = connects_in b.statements ≡ false

open-kept : (inner b : OpenBlock) (outer : List OpenBlock) (connects : Bool) (lines : List Line) (head : HeadTree) → Connects b.kind connects head → says_connector head ≡ false → fresh inner →
    (is_consumer inner.opener ≡ true → is_tasklet inner.kind ≡ true → has_connector_line lines ≡ true) → AllPromise (seen (here connects lines)) (b ∷ outer) → BetweenBy block lines inner (b ∷ outer)
open-kept inner b outer connects lines head fit none empty owed all = (
  record { pure = λ is. empty; owed = λ taken is. ap (λ c. c || has_connector_line lines) empty ∙ owed taken is },
  blocks-kept b outer connects lines head fit none all,
)

input_inside : (kind : BlockKind) (connector : Name) (memlet : MemletTree) → Fits kind (input_head connector memlet) → is_tasklet kind ≡ true
input_inside Top connector memlet fit = absurd fit
input_inside Program connector memlet fit = absurd fit
input_inside Scope connector memlet fit = absurd fit
input_inside Tasklet connector memlet fit = refl

output_inside : (kind : BlockKind) (connector : Name) (memlet : MemletTree) → Fits kind (output_head connector memlet) → is_tasklet kind ≡ true
output_inside Top connector memlet fit = absurd fit
output_inside Program connector memlet fit = absurd fit
output_inside Scope connector memlet fit = absurd fit
output_inside Tasklet connector memlet fit = refl

-- arguments and connectors are no statements of a line of their own
abbrev IsPlain : StatementTree → Type 0
IsPlain (argument_array line name bits extents) = ⊥
IsPlain (input line connector memlet) = ⊥
IsPlain (output line connector memlet) = ⊥
IsPlain s = ⊤

plain_body : (kind : BlockKind) (s : StatementTree) → IsBodyStatement kind s → IsPlain s
plain_body kind (argument_array line name bits extents) fit = fit
plain_body kind (local_array line name extents bits) fit = tt
plain_body kind (local_stream line name bits size) fit = tt
plain_body kind (assign line name at add value) fit = tt
plain_body kind (copy line to to_dimensions from from_dimensions) fit = tt
plain_body kind (reduce line lambda from to axis identity) fit = tt
plain_body kind (map_scope line parameters ranges body) fit = tt
plain_body kind (tasklet line body) fit = tt
plain_body kind (consume_scope line from size name element worker body) fit = tt
plain_body kind (call line name arguments) fit = tt
plain_body kind (for_loop line name begin end step body) fit = tt
plain_body kind (while_loop line when body) fit = tt
plain_body kind (branch line when body other) fit = tt
plain_body kind (input line connector memlet) fit = fit
plain_body kind (output line connector memlet) fit = fit
plain_body kind (set line name value) fit = tt
plain_body kind (set_at line name at value) fit = tt
plain_body kind (tasklet_branch line when body other) fit = tt

plain_task : (s : StatementTree) → IsTaskletStatement s → IsPlain s
plain_task (argument_array line name bits extents) fit = fit
plain_task (local_array line name extents bits) fit = tt
plain_task (local_stream line name bits size) fit = tt
plain_task (assign line name at add value) fit = tt
plain_task (copy line to to_dimensions from from_dimensions) fit = tt
plain_task (reduce line lambda from to axis identity) fit = tt
plain_task (map_scope line parameters ranges body) fit = tt
plain_task (tasklet line body) fit = tt
plain_task (consume_scope line from size name element worker body) fit = tt
plain_task (call line name arguments) fit = tt
plain_task (for_loop line name begin end step body) fit = tt
plain_task (while_loop line when body) fit = tt
plain_task (branch line when body other) fit = tt
plain_task (input line connector memlet) fit = fit
plain_task (output line connector memlet) fit = fit
plain_task (set line name value) fit = tt
plain_task (set_at line name at value) fit = tt
plain_task (tasklet_branch line when body other) fit = tt

plain_line : (kind : BlockKind) (s : StatementTree) → Fits kind (statement_head s) → IsPlain s
plain_line Top s fit = absurd fit
plain_line Program s fit = plain_body Program s fit
plain_line Scope s fit = plain_body Scope s fit
plain_line Tasklet s fit = plain_task s fit

statement_between : (context : Context) (line : ℕ) (is_tasklet' : Bool) (s : StatementTree) (connects : Bool) (lines : List Line) → IsPlain s → Connects context.block.kind connects (statement_head s) →
    Within (here connects lines) context → Between lines (context_after context line is_tasklet' (statement_head s))
statement_between context line is_tasklet' (argument_array at name bits extents) connects lines plain fit within = absurd plain
statement_between context line is_tasklet' (local_array at name extents bits) connects lines plain fit within = leaf-kept context.block context.outer connects lines (statement_head (local_array at name extents bits)) (local_array at name extents bits) fit refl refl within
statement_between context line is_tasklet' (local_stream at name bits size) connects lines plain fit within = leaf-kept context.block context.outer connects lines (statement_head (local_stream at name bits size)) (local_stream at name bits size) fit refl refl within
statement_between context line is_tasklet' (assign at name subscripts add value) connects lines plain fit within = leaf-kept context.block context.outer connects lines (statement_head (assign at name subscripts add value)) (assign at name subscripts add value) fit refl refl within
statement_between context line is_tasklet' (copy at to to_dimensions from from_dimensions) connects lines plain fit within = leaf-kept context.block context.outer connects lines (statement_head (copy at to to_dimensions from from_dimensions)) (copy at to to_dimensions from from_dimensions) fit refl refl within
statement_between context line is_tasklet' (reduce at lambda from to axis identity) connects lines plain fit within = leaf-kept context.block context.outer connects lines (statement_head (reduce at lambda from to axis identity)) (reduce at lambda from to axis identity) fit refl refl within
statement_between context line is_tasklet' (map_scope at parameters ranges body) connects lines plain fit within =
    open-kept (context_after context line is_tasklet' (statement_head (map_scope at parameters ranges body))).block context.block context.outer connects lines (statement_head (map_scope at parameters ranges body)) fit refl refl (λ taken. false_is_not_true taken) within
statement_between context line is_tasklet' (tasklet at body) connects lines plain fit within =
    open-kept (context_after context line is_tasklet' (statement_head (tasklet at body))).block context.block context.outer connects lines (statement_head (tasklet at body)) fit refl refl (λ taken. false_is_not_true taken) within
statement_between context line is_tasklet' (consume_scope at from size name element worker body) connects lines plain fit within =
    leaf-kept context.block context.outer connects lines (statement_head (consume_scope at from size name element worker body)) (consume_scope at from size name element worker body) fit refl refl within
statement_between context line is_tasklet' (call at name arguments) connects lines plain fit within = leaf-kept context.block context.outer connects lines (statement_head (call at name arguments)) (call at name arguments) fit refl refl within
statement_between context line is_tasklet' (for_loop at name begin end step body) connects lines plain fit within =
    open-kept (context_after context line is_tasklet' (statement_head (for_loop at name begin end step body))).block context.block context.outer connects lines (statement_head (for_loop at name begin end step body)) fit refl refl (λ taken. false_is_not_true taken) within
statement_between context line is_tasklet' (while_loop at when body) connects lines plain fit within =
    open-kept (context_after context line is_tasklet' (statement_head (while_loop at when body))).block context.block context.outer connects lines (statement_head (while_loop at when body)) fit refl refl (λ taken. false_is_not_true taken) within
statement_between context line is_tasklet' (branch at when body other) connects lines plain fit within =
    open-kept (context_after context line is_tasklet' (statement_head (branch at when body other))).block context.block context.outer connects lines (statement_head (branch at when body other)) fit refl refl (λ taken. false_is_not_true taken) within
statement_between context line is_tasklet' (input at connector memlet) connects lines plain fit within = absurd plain
statement_between context line is_tasklet' (output at connector memlet) connects lines plain fit within = absurd plain
statement_between context line is_tasklet' (set at name value) connects lines plain fit within = leaf-kept context.block context.outer connects lines (statement_head (set at name value)) (set at name value) fit refl refl within
statement_between context line is_tasklet' (set_at at name subscripts value) connects lines plain fit within = leaf-kept context.block context.outer connects lines (statement_head (set_at at name subscripts value)) (set_at at name subscripts value) fit refl refl within
statement_between context line is_tasklet' (tasklet_branch at when body other) connects lines plain fit within =
    open-kept (context_after context line is_tasklet' (statement_head (tasklet_branch at when body other))).block context.block context.outer connects lines (statement_head (tasklet_branch at when body other)) fit refl refl (λ taken. false_is_not_true taken) within

-- the block of a consume is a tasklet where a connector line is ahead
taken_ahead : (test : Bool) → is_tasklet (consume_kind test) ≡ true → test ≡ true
taken_ahead true is = refl
taken_ahead false is = false_is_not_true is

pub passes_between : (context : Context) (line : ℕ) (head : HeadTree) (connects : Bool) (lines : List Line) → Fits context.block.kind head → is_elif_or_else head ≡ false → Connects context.block.kind connects head →
    Within (here connects lines) context → Between lines (context_after context line (opens_tasklet head lines) head)
passes_between context line import_line connects lines fit other on within = blocks-kept context.block context.outer connects lines import_line on refl within
passes_between context line (symbol_line name quoted) connects lines fit other on within = blocks-kept context.block context.outer connects lines (symbol_line name quoted) on refl within
passes_between context line program_decorator connects lines fit other on within = blocks-kept context.block context.outer connects lines program_decorator on refl within
passes_between context line (program_head name arguments) connects lines fit other on within =
    open-kept (context_after context line false (program_head name arguments)).block context.block context.outer connects lines (program_head name arguments) on refl refl (λ taken. false_is_not_true taken) within
passes_between context line (statement_head s) connects lines fit other on within = statement_between context line false s connects lines (plain_line context.block.kind s fit) on within
passes_between context line (reduce_head lambda from to axis identity) connects lines fit other on within = leaf-kept context.block context.outer connects lines (reduce_head lambda from to axis identity) _ on refl refl within
passes_between context line (input_head connector memlet) connects lines fit other on within = connector-kept context.block context.outer connects lines _ (input_inside context.block.kind connector memlet fit) refl within
passes_between context line (output_head connector memlet) connects lines fit other on within = connector-kept context.block context.outer connects lines _ (output_inside context.block.kind connector memlet fit) refl within
passes_between context line (consume_decorator from size) connects lines fit other on within = blocks-kept context.block context.outer connects lines (consume_decorator from size) on refl within
passes_between context line (consume_head name element worker) connects lines fit other on within =
    open-kept (context_after context line (has_connector_line lines) (consume_head name element worker)).block context.block context.outer connects lines (consume_head name element worker) on refl refl
    (λ taken is. taken_ahead (has_connector_line lines) is) within
passes_between context line (elif_head when) connects lines fit other on within = true_is_not_false other
passes_between context line else_head connects lines fit other on within = true_is_not_false other

-- before the first line there is no consume
pub opens_between : (lines : List Line) → Between lines opening
opens_between lines = (record { pure = λ is. refl; owed = λ taken is. false_is_not_true taken }, tt)

-- ---- an `elif` or `else`

no_consumer : (branches : List Branch) (head : HeadTree) → is_consumer (next_opener branches head) ≡ true → ⊥
no_consumer branches import_line taken = false_is_not_true taken
no_consumer branches (symbol_line name quoted) taken = false_is_not_true taken
no_consumer branches program_decorator taken = false_is_not_true taken
no_consumer branches (program_head name arguments) taken = false_is_not_true taken
no_consumer branches (statement_head s) taken = false_is_not_true taken
no_consumer branches (reduce_head lambda from to axis identity) taken = false_is_not_true taken
no_consumer branches (input_head connector memlet) taken = false_is_not_true taken
no_consumer branches (output_head connector memlet) taken = false_is_not_true taken
no_consumer branches (consume_decorator from size) taken = false_is_not_true taken
no_consumer branches (consume_head name element worker) taken = false_is_not_true taken
no_consumer branches (elif_head when) taken = false_is_not_true taken
no_consumer branches else_head taken = false_is_not_true taken

pub no_connector : (head : HeadTree) → is_elif_or_else head ≡ true → says_connector head ≡ false
no_connector import_line is = refl
no_connector (symbol_line name quoted) is = refl
no_connector program_decorator is = refl
no_connector (program_head name arguments) is = refl
no_connector (statement_head s) is = refl
no_connector (reduce_head lambda from to axis identity) is = refl
no_connector (input_head connector memlet) is = false_is_not_true is
no_connector (output_head connector memlet) is = false_is_not_true is
no_connector (consume_decorator from size) is = refl
no_connector (consume_head name element worker) is = refl
no_connector (elif_head when) is = refl
no_connector else_head is = refl

-- the blocks about the next block of an `if`
pub goes_on_between : (inner next about : OpenBlock) (outer : List OpenBlock) (branches : List Branch) (head : HeadTree) (connects : Bool) (lines : List Line) → next.opener ≡ next_opener branches head → next.statements ≡ [] →
    is_elif_or_else head ≡ true → Connects about.kind connects head → AllPromise (seen (ahead 1 connects lines)) (inner ∷ about ∷ outer) → BetweenBy block lines next (about ∷ outer)
goes_on_between inner next about outer branches head connects lines same empty is on all =
    open-kept next about outer connects lines head on (no_connector head is) (ap connects_in empty) (λ taken. absurd (no_consumer branches head (sym (ap is_consumer same) ∙ taken)))
    (promise-map (λ n. seen (ahead 1 connects lines) (suc n)) (seen (here connects lines)) (about ∷ outer) (λ n seen'. sym (ended-ahead 0 connects lines n) ∙ seen') all.1)

-- it awaits its block
pub other_awaits : (line : ℕ) (head : HeadTree) → is_elif_or_else head ≡ true → awaited_behind line head ≡ block
other_awaits line import_line is = false_is_not_true is
other_awaits line (symbol_line name quoted) is = false_is_not_true is
other_awaits line program_decorator is = false_is_not_true is
other_awaits line (program_head name arguments) is = false_is_not_true is
other_awaits line (statement_head s) is = false_is_not_true is
other_awaits line (reduce_head lambda from to axis identity) is = false_is_not_true is
other_awaits line (input_head connector memlet) is = false_is_not_true is
other_awaits line (output_head connector memlet) is = false_is_not_true is
other_awaits line (consume_decorator from size) is = false_is_not_true is
other_awaits line (consume_head name element worker) is = false_is_not_true is
other_awaits line (elif_head when) is = refl
other_awaits line else_head is = refl
