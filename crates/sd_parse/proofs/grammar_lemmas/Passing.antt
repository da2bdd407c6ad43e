-- What open blocks come to is the same before and behind a line, by what the line says.
use Rattle.std.proofs.Common.{◌≡◌, ◌∙◌, ℕ, ℤ, List, [], ◌∷◌, ◌++◌, length, Bool, true, false, Option, Some, None, refl, ap, sym, subst}
use Rattle.std.specs.Prelude.{option_and_then, unwrap_or, ⊤}
use Rattle.sd_lex.specs.PlainTree.{Expression, StatementTree, argument_array, reduce, map_scope, tasklet, for_loop, while_loop, branch, input, output, tasklet_branch, FunctionTree, ProgramTree}
use Rattle.sd_lex.specs.declared.syntax.memlet.Lambda.{Lambda}
use Rattle.sd_lex.specs.declared.syntax.memlet.Lambda.TheVariants.{Last}
use Rattle.sd_line.specs.declared.line.head.BlockKind.{BlockKind}
use Rattle.sd_line.specs.declared.line.head.BlockKind.TheVariants.{Program, Scope, Tasklet}
use Rattle.sd_line.specs.line.Head.{HeadTree, import_line, symbol_line, program_decorator, program_head, statement_head, reduce_head, input_head, output_head, consume_decorator, consume_head, elif_head, else_head}
use Rattle.sd_line.specs.lines.Lines.{Line, is_consume}
use Rattle.sd_program.specs.Names.{Name}
use Rattle.sd_phrase.specs.Memlet.{LambdaTree, MemletTree}
use Rattle.sd_phrase.specs.declared.reading.Reading.TheVariants.{Form}
use Rattle.sd_context.specs.blocks.Continuing.{is_elif_or_else}
use Rattle.sd_context.specs.context.After.{context_after}
use Rattle.sd_context.specs.context.Awaiting.{wanted_of, is_same_wanted, is_wanted, awaited_behind}
use Rattle.sd_context.specs.declared.context.awaiting.Wanted.TheVariants.{Other, Consume}
use Rattle.sd_context.specs.declared.context.block.InForce.{InForce}
use Rattle.sd_context.specs.context.Context.{Opener, statement, consumer, if_block, OpenBlock, Awaited, nothing, block, function_def, consume_def, Context}
use Rattle.sd_context.specs.context.Placing.{consume_kind, kind_of, memlet_of, lambda_or_last}
use Rattle.sd_parse.specs.grammar.Outline.{Outline, no_line, and_line, deeper, outside, connects_among}
use Rattle.sd_parse.specs.grammar.Programs.{Decorator, memlet_said, kind_below, decorator_of, siblings_with}
use Rattle.sd_parse.proofs.grammar_lemmas.Completing as completing
use Rattle.sd_parse.proofs.grammar_lemmas.Completing.{Ending, none_ends, alone, ended_by, decorator_awaited, def_awaited, leaves, complete, stands, file_more, gather, nothing_behind, added, opens_block, one_leaves}

abbrev IsNever : Bool → Type 0
IsNever true = ⊥
IsNever false = ⊤

pub false_is : {P : Type 0} → false ≡ true → P
false_is is = absurd (subst IsNever is tt)

-- where no `def` is awaited
no_decorator : (awaited : Awaited) → is_same_wanted (wanted_of awaited) Other ≡ true → decorator_awaited awaited ≡ None
no_decorator nothing is = refl
no_decorator block is = refl
no_decorator (function_def line) is = false_is is
no_decorator (consume_def line stream size) is = false_is is

pub no_def : (awaited : Awaited) → is_same_wanted (wanted_of awaited) Other ≡ true → def_awaited awaited ≡ None
no_def nothing is = refl
no_def block is = refl
no_def (function_def line) is = false_is is
no_def (consume_def line stream size) is = false_is is

-- a statement that is no argument of a program
abbrev pub IsNoArgument : StatementTree → Type 0
IsNoArgument (argument_array line name bits extents) = ⊥
IsNoArgument s = ⊤

-- what a line may say in a block
abbrev pub IsOfBlock : HeadTree → Type 0
IsOfBlock import_line = ⊥
IsOfBlock (symbol_line name quoted) = ⊥
IsOfBlock program_decorator = ⊥
IsOfBlock (program_head name arguments) = ⊥
IsOfBlock (statement_head s) = IsNoArgument s
IsOfBlock head = ⊤

same_lambda : (kind : Option Lambda) → unwrap_or kind Last ≡ lambda_or_last kind
same_lambda None = refl
same_lambda (Some lambda) = refl

same_memlet : (memlet : MemletTree) → memlet_said memlet ≡ memlet_of memlet
same_memlet memlet = ap (λ (lambda : Option Lambda). record { name = memlet.name; volume = memlet.volume; lambda = lambda; dimensions = memlet.dimensions }) (by_lambda memlet.lambda) where
  by_lambda : (lambda : Option LambdaTree) → option_and_then (λ lambda. lambda.kind) lambda ≡ kind_of lambda
  by_lambda None = refl
  by_lambda (Some lambda) = refl

pub no_names : InForce
no_names = record { meanings = 0; containers = 0 }

-- what stands behind a line that opens no block
abbrev pub Follows : Awaited → (depth : ℕ) → Outline → Type 0
Follows block depth rest = ⊤
Follows awaited depth rest = (deeper depth rest ≡ no_line) × (outside depth rest ≡ rest)

-- ---- a line of a block

-- a line says with its block, and with what goes on, what its block is that ends
abbrev pub SaysBlock : BlockKind → (decorator : Option Decorator) → (line : ℕ) → HeadTree → BlockKind → Opener → Ending → Type 0
SaysBlock about decorator line head kind opener ending =
    (body other others : List StatementTree) (go : List StatementTree → Option ProgramTree) (statements : List StatementTree) →
    gather go statements ending (siblings_with about decorator line head body other others) ≡ option_and_then (λ done. go (statements ++ (done ++ others))) (ended_by kind line opener body other)

-- a block that is no program's ends as a statement
abbrev pub LeavesOne : Opener → Type 0
LeavesOne opener =
    (kind : BlockKind) (line : ℕ) (statements : List StatementTree) (functions : List FunctionTree) (arguments : List StatementTree) (go : List FunctionTree → List StatementTree → Ending → Option ProgramTree) →
    leaves opener kind line statements functions arguments go ≡ go functions arguments (ended_by kind line opener statements)

module _ (c : Context) (about : OpenBlock) (outer : List OpenBlock) (line : Line) (rest : Outline) (is_task : Bool) where
  abbrev depth : ℕ
  depth = length (about ∷ outer)

  abbrev node : Outline
  node = and_line depth line (deeper depth rest) (outside depth rest)

  -- nothing but a statement more
  adds : (awaited : Awaited) (head : HeadTree) (last : StatementTree) → line.head c.block.kind ≡ Form head → is_same_wanted (wanted_of awaited) Other ≡ true → decorator_of line.number head ≡ None →
      (deeper depth rest ≡ no_line) × (outside depth rest ≡ rest) →
      ((other others : List StatementTree) (go : List StatementTree → Option ProgramTree) → gather go c.block.statements none_ends (siblings_with c.block.kind None line.number head [] other others)
      ≡ option_and_then (λ done. go (c.block.statements ++ (done ++ others))) (alone (last ∷ []) other)) →
      complete c.symbols c.functions c.arguments none_ends c.block (about ∷ outer) awaited node
      ≡ complete c.symbols c.functions c.arguments none_ends (record c.block { statements = c.block.statements ++ last ∷ [] }) (about ∷ outer) nothing rest
  adds awaited head last says free plain shut same =
      added c about outer line rest awaited head (last ∷ []) says (no_decorator awaited free) shut.0 shut.1 (λ other others. same other others (completing.goes c about outer line rest (outside depth rest)))
      ∙ ap (λ decorator. gather (completing.goes c about outer line rest rest) (c.block.statements ++ last ∷ []) none_ends (completing.lines_behind c about outer line rest rest decorator)) plain

  -- a block of its own
  pub opens : (ending : Ending) (awaited : Awaited) (head : HeadTree) (decorator : Option Decorator) (kind : BlockKind) (opener : Opener) → line.head c.block.kind ≡ Form head → decorator_awaited awaited ≡ decorator →
      decorator_of line.number head ≡ None → kind_below c.block.kind (connects_among (deeper depth rest)) head ≡ kind →
      SaysBlock c.block.kind decorator line.number head kind opener ending → LeavesOne opener →
      complete c.symbols c.functions c.arguments ending c.block (about ∷ outer) awaited node
      ≡ complete c.symbols c.functions c.arguments none_ends (record { opener = opener; kind = kind; line = line.number; depth = 0; before = no_names; statements = [] }) (c.block ∷ about ∷ outer) block rest
  opens ending awaited head decorator kind opener says awaits plain below same leave =
      opens_block c about outer line rest ending awaited head decorator kind opener says awaits plain below
      (λ body other others. same body other others (completing.goes c about outer line rest (outside depth rest)) c.block.statements)
      (λ statements go. leave kind line.number statements c.functions c.arguments go)

  -- a statement with a block
  opens_statement : (awaited : Awaited) (s : StatementTree) (kind : BlockKind) → line.head c.block.kind ≡ Form (statement_head s) → is_same_wanted (wanted_of awaited) Other ≡ true →
      kind_below c.block.kind (connects_among (deeper depth rest)) (statement_head s) ≡ kind → SaysBlock c.block.kind None line.number (statement_head s) kind (statement s) none_ends →
      complete c.symbols c.functions c.arguments none_ends c.block (about ∷ outer) awaited node
      ≡ complete c.symbols c.functions c.arguments none_ends (record { opener = statement s; kind = kind; line = line.number; depth = 0; before = no_names; statements = [] }) (c.block ∷ about ∷ outer) block rest
  opens_statement awaited s kind says free below same =
      opens none_ends awaited (statement_head s) None kind (statement s) says (no_decorator awaited free) refl below same (λ kind line statements functions arguments go. refl)

  opens_branch : (awaited : Awaited) (s : StatementTree) (when : Expression) (kind : BlockKind) → line.head c.block.kind ≡ Form (statement_head s) → is_same_wanted (wanted_of awaited) Other ≡ true →
      kind_below c.block.kind (connects_among (deeper depth rest)) (statement_head s) ≡ kind → SaysBlock c.block.kind None line.number (statement_head s) kind (if_block [] when) none_ends →
      complete c.symbols c.functions c.arguments none_ends c.block (about ∷ outer) awaited node
      ≡ complete c.symbols c.functions c.arguments none_ends (record { opener = if_block [] when; kind = kind; line = line.number; depth = 0; before = no_names; statements = [] }) (c.block ∷ about ∷ outer) block rest
  opens_branch awaited s when kind says free below same =
      opens none_ends awaited (statement_head s) None kind (if_block [] when) says (no_decorator awaited free) refl below same (λ kind line statements functions arguments go. refl)

  pass_statement : (awaited : Awaited) (s : StatementTree) → line.head c.block.kind ≡ Form (statement_head s) → is_same_wanted (wanted_of awaited) Other ≡ true → IsNoArgument s →
      Follows (awaited_behind line.number (statement_head s)) depth rest →
      complete c.symbols c.functions c.arguments none_ends c.block (about ∷ outer) awaited node
      ≡ stands (context_after (record c { outer = about ∷ outer; awaited = awaited }) line.number is_task (statement_head s)) rest
  pass_statement awaited (argument_array at name bits extents) says free none follows = absurd none
  pass_statement awaited (map_scope at parameters ranges empty) says free none follows = opens_statement awaited (map_scope at parameters ranges empty) Scope says free refl same where
    same : SaysBlock c.block.kind None line.number (statement_head (map_scope at parameters ranges empty)) Scope (statement (map_scope at parameters ranges empty)) none_ends
    same body [] others go statements = refl
    same body (s ∷ other) others go statements = refl
  pass_statement awaited (tasklet at empty) says free none follows = opens_statement awaited (tasklet at empty) Tasklet says free refl same where
    same : SaysBlock c.block.kind None line.number (statement_head (tasklet at empty)) Tasklet (statement (tasklet at empty)) none_ends
    same body [] others go statements = refl
    same body (s ∷ other) others go statements = refl
  pass_statement awaited (for_loop at name begin end step empty) says free none follows = opens_statement awaited (for_loop at name begin end step empty) Program says free refl same where
    same : SaysBlock c.block.kind None line.number (statement_head (for_loop at name begin end step empty)) Program (statement (for_loop at name begin end step empty)) none_ends
    same body [] others go statements = refl
    same body (s ∷ other) others go statements = refl
  pass_statement awaited (while_loop at when empty) says free none follows = opens_statement awaited (while_loop at when empty) Program says free refl same where
    same : SaysBlock c.block.kind None line.number (statement_head (while_loop at when empty)) Program (statement (while_loop at when empty)) none_ends
    same body [] others go statements = refl
    same body (s ∷ other) others go statements = refl
  pass_statement awaited (branch at when empty none') says free none follows = opens_branch awaited (branch at when empty none') when Program says free refl (λ body other others go statements. refl)
  pass_statement awaited (tasklet_branch at when empty none') says free none follows = opens_branch awaited (tasklet_branch at when empty none') when Tasklet says free refl (λ body other others go statements. refl)
  pass_statement awaited s says free none follows = adds awaited (statement_head s) s says free refl follows same where
    same : (other others : List StatementTree) (go : List StatementTree → Option ProgramTree) → gather go c.block.statements none_ends (siblings_with c.block.kind None line.number (statement_head s) [] other others)
        ≡ option_and_then (λ done. go (c.block.statements ++ (done ++ others))) (alone (s ∷ []) other)
    same [] others go = refl
    same (first ∷ other) others go = refl

  -- ---- the other lines of a block

  pass_decorator : (awaited : Awaited) (stream : Name) (size : ℤ) → line.head c.block.kind ≡ Form (consume_decorator stream size) → is_same_wanted (wanted_of awaited) Other ≡ true →
      (deeper depth rest ≡ no_line) × (outside depth rest ≡ rest) →
      complete c.symbols c.functions c.arguments none_ends c.block (about ∷ outer) awaited node
      ≡ stands (context_after (record c { outer = about ∷ outer; awaited = awaited }) line.number is_task (consume_decorator stream size)) rest
  pass_decorator awaited stream size says free shut =
      added c about outer line rest awaited (consume_decorator stream size) [] says (no_decorator awaited free) shut.0 shut.1 same
      ∙ ap (λ statements. gather (completing.goes c about outer line rest rest) statements none_ends (completing.lines_behind c about outer line rest rest (Some (line.number, (stream, size))))) (nothing_behind c.block.statements) where
        same : (other others : List StatementTree) → gather (completing.goes c about outer line rest (outside depth rest)) c.block.statements none_ends (siblings_with c.block.kind None line.number (consume_decorator stream size) [] other others)
            ≡ option_and_then (λ done. completing.goes c about outer line rest (outside depth rest) (c.block.statements ++ (done ++ others))) (alone [] other)
        same [] others = refl
        same (s ∷ other) others = refl

  pass_consumer : (awaited : Awaited) (name element : Name) (worker : Option Name) → line.head c.block.kind ≡ Form (consume_head name element worker) → is_same_wanted (wanted_of awaited) Consume ≡ true →
      connects_among (deeper depth rest) ≡ is_task →
      complete c.symbols c.functions c.arguments none_ends c.block (about ∷ outer) awaited node
      ≡ stands (context_after (record c { outer = about ∷ outer; awaited = awaited }) line.number is_task (consume_head name element worker)) rest
  pass_consumer nothing name element worker says wanted connects = false_is wanted
  pass_consumer block name element worker says wanted connects = false_is wanted
  pass_consumer (function_def at) name element worker says wanted connects = false_is wanted
  pass_consumer (consume_def at stream size) name element worker says wanted connects =
      opens none_ends (consume_def at stream size) (consume_head name element worker) (Some (at, (stream, size))) (consume_kind is_task) (consumer at stream size name element worker) says refl refl
      (ap (λ connects. kind_below c.block.kind connects (consume_head name element worker)) connects ∙ by_kind is_task) same (λ kind line statements functions arguments go. refl) where
        by_kind : (is_task : Bool) → kind_below c.block.kind is_task (consume_head name element worker) ≡ consume_kind is_task
        by_kind true = refl
        by_kind false = refl

        same : SaysBlock c.block.kind (Some (at, (stream, size))) line.number (consume_head name element worker) (consume_kind is_task) (consumer at stream size name element worker) none_ends
        same body [] others go statements = refl
        same body (s ∷ other) others go statements = refl

  pass_reduce : (awaited : Awaited) (lambda : LambdaTree) (from to : Name) (axis identity : Option ℤ) → line.head c.block.kind ≡ Form (reduce_head lambda from to axis identity) → is_same_wanted (wanted_of awaited) Other ≡ true →
      (deeper depth rest ≡ no_line) × (outside depth rest ≡ rest) →
      complete c.symbols c.functions c.arguments none_ends c.block (about ∷ outer) awaited node
      ≡ stands (context_after (record c { outer = about ∷ outer; awaited = awaited }) line.number is_task (reduce_head lambda from to axis identity)) rest
  pass_reduce awaited lambda from to axis identity says free shut = adds awaited (reduce_head lambda from to axis identity) (reduce line.number (lambda_or_last lambda.kind) from to axis identity) says free refl shut same where
    same : (other others : List StatementTree) (go : List StatementTree → Option ProgramTree) → gather go c.block.statements none_ends (siblings_with c.block.kind None line.number (reduce_head lambda from to axis identity) [] other others)
        ≡ option_and_then (λ done. go (c.block.statements ++ (done ++ others))) (alone (reduce line.number (lambda_or_last lambda.kind) from to axis identity ∷ []) other)
    same [] others go = ap (λ kind. go (c.block.statements ++ (reduce line.number kind from to axis identity ∷ others))) (same_lambda lambda.kind)
    same (first ∷ other) others go = refl

  pass_input : (awaited : Awaited) (connector : Name) (memlet : MemletTree) → line.head c.block.kind ≡ Form (input_head connector memlet) → is_same_wanted (wanted_of awaited) Other ≡ true →
      (deeper depth rest ≡ no_line) × (outside depth rest ≡ rest) →
      complete c.symbols c.functions c.arguments none_ends c.block (about ∷ outer) awaited node
      ≡ stands (context_after (record c { outer = about ∷ outer; awaited = awaited }) line.number is_task (input_head connector memlet)) rest
  pass_input awaited connector memlet says free shut = adds awaited (input_head connector memlet) (input line.number connector (memlet_of memlet)) says free refl shut same where
    same : (other others : List StatementTree) (go : List StatementTree → Option ProgramTree) → gather go c.block.statements none_ends (siblings_with c.block.kind None line.number (input_head connector memlet) [] other others)
        ≡ option_and_then (λ done. go (c.block.statements ++ (done ++ others))) (alone (input line.number connector (memlet_of memlet) ∷ []) other)
    same [] others go = ap (λ moved. go (c.block.statements ++ (input line.number connector moved ∷ others))) (same_memlet memlet)
    same (first ∷ other) others go = refl

  pass_output : (awaited : Awaited) (connector : Name) (memlet : MemletTree) → line.head c.block.kind ≡ Form (output_head connector memlet) → is_same_wanted (wanted_of awaited) Other ≡ true →
      (deeper depth rest ≡ no_line) × (outside depth rest ≡ rest) →
      complete c.symbols c.functions c.arguments none_ends c.block (about ∷ outer) awaited node
      ≡ stands (context_after (record c { outer = about ∷ outer; awaited = awaited }) line.number is_task (output_head connector memlet)) rest
  pass_output awaited connector memlet says free shut = adds awaited (output_head connector memlet) (output line.number connector (memlet_of memlet)) says free refl shut same where
    same : (other others : List StatementTree) (go : List StatementTree → Option ProgramTree) → gather go c.block.statements none_ends (siblings_with c.block.kind None line.number (output_head connector memlet) [] other others)
        ≡ option_and_then (λ done. go (c.block.statements ++ (done ++ others))) (alone (output line.number connector (memlet_of memlet) ∷ []) other)
    same [] others go = ap (λ moved. go (c.block.statements ++ (output line.number connector moved ∷ others))) (same_memlet memlet)
    same (first ∷ other) others go = refl

  -- a line that is no `elif` or `else`
  pub pass_line : (awaited : Awaited) (head : HeadTree) → line.head c.block.kind ≡ Form head → is_wanted (wanted_of awaited) head ≡ true → is_elif_or_else head ≡ false → IsOfBlock head →
      Follows (awaited_behind line.number head) depth rest → (is_consume head ≡ true → connects_among (deeper depth rest) ≡ is_task) →
      complete c.symbols c.functions c.arguments none_ends c.block (about ∷ outer) awaited node
      ≡ stands (context_after (record c { outer = about ∷ outer; awaited = awaited }) line.number is_task head) rest
  pass_line awaited import_line says wanted plain of follows connects = absurd of
  pass_line awaited (symbol_line name quoted) says wanted plain of follows connects = absurd of
  pass_line awaited program_decorator says wanted plain of follows connects = absurd of
  pass_line awaited (program_head name arguments) says wanted plain of follows connects = absurd of
  pass_line awaited (statement_head s) says wanted plain of follows connects = pass_statement awaited s says wanted of follows
  pass_line awaited (reduce_head lambda from to axis identity) says wanted plain of follows connects = pass_reduce awaited lambda from to axis identity says wanted follows
  pass_line awaited (input_head connector memlet) says wanted plain of follows connects = pass_input awaited connector memlet says wanted follows
  pass_line awaited (output_head connector memlet) says wanted plain of follows connects = pass_output awaited connector memlet says wanted follows
  pass_line awaited (consume_decorator stream size) says wanted plain of follows connects = pass_decorator awaited stream size says wanted follows
  pass_line awaited (consume_head name element worker) says wanted plain of follows connects = pass_consumer awaited name element worker says wanted (connects refl)
  pass_line awaited (elif_head when) says wanted plain of follows connects = false_is (sym plain)
  pass_line awaited else_head says wanted plain of follows connects = false_is (sym plain)
