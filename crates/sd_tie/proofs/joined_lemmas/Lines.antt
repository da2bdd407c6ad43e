-- Each accepted line keeps what is known of connectors.
use Rattle.std.proofs.Common.{◌≡◌, ℕ, ◌+◌, List, [], ◌∷◌, ◌++◌, length, length-append, Bool, true, false, not, ◌||◌, if◌then◌else◌, Option, Some, None, is_some, refl, ap, sym, ◌∙◌, subst, arith}
use Rattle.std.specs.List.{list_any}
use Rattle.sd_lex.specs.PlainTree.{StatementTree, argument_array, local_array, local_stream, assign, copy, reduce, map_scope, tasklet, consume_scope, call, for_loop, while_loop, branch, input, output, set, set_at, tasklet_branch, Block, FunctionTree}
use Rattle.sd_lex.specs.TreeFold.{block_listed}
use Rattle.sd_line.specs.declared.line.head.BlockKind.{BlockKind}
use Rattle.sd_line.specs.declared.line.head.BlockKind.TheVariants.{Top, Program, Scope, Tasklet}
use Rattle.sd_line.specs.line.Head.{HeadTree, import_line, symbol_line, program_decorator, program_head, statement_head, reduce_head, input_head, output_head, consume_decorator, consume_head, elif_head, else_head}
use Rattle.sd_phrase.specs.Memlet.{MemletTree}
use Rattle.sd_names.specs.declared.meaning.Meaning.{Meaning}
use Rattle.sd_names.specs.declared.meaning.Meaning.TheVariants.{Symbol, Variable, Program as Program_name, Worker, Input, Output, Local}
use Rattle.sd_names.specs.Names.{Name, Names, listed, put, meaning_of, container_of, is_free, is_among, reserved, is_input, is_output, with_meaning, all_meaning}
use Rattle.sd_names.specs.Expressions.{optional}
use Rattle.sd_uses.specs.Uses.{uses}
use Rattle.sd_uses.specs.UnknownName.{is_unknown_use, assigns_unknown}
use Rattle.sd_refusal.specs.NotAForm.{is_misplaced, misuses}
use Rattle.sd_uses.specs.Twice.{declares, are_not_new, declares_local}
use Rattle.sd_refusal.specs.declared.site.Site.{Site}
use Rattle.sd_context.specs.context.After.{context_after}
use Rattle.sd_context.specs.context.Context.{Opener, file, function, statement, consumer, if_block, else_block, OpenBlock, Awaited, nothing, block, function_def, consume_def, Context, site_of}
use Rattle.sd_context.specs.context.Declaring.{with_worker, element_names, connector_dimensions}
use Rattle.sd_context.specs.context.Placing.{memlet_of, kind_in, lambda_or_last, decorator_line, consumer_of}
use Rattle.sd_program.specs.Every.{Every}
use Rattle.sd_tie.specs.items.Standing.{IsJoined}
use Rattle.sd_tie.specs.tasklets.Connected.{IsAmong, IsConnected, AreConnected}
use Rattle.sd_read.proofs.readable_lemmas.kept.Affine.{negated}
use Rattle.sd_read.proofs.readable_lemmas.kept.Heads.{IsTaskletStatement, Fits, IsBody}
use Rattle.sd_read.proofs.readable_lemmas.kept.InForce.{put-new}
use Rattle.sd_read.proofs.readable_lemmas.kept.NewNames.{first_new, declares_new}
use Rattle.sd_read.proofs.readable_lemmas.kept.Passing.{Passes, passes, neither, false_is_not_true}
use Rattle.sd_read.proofs.readable_lemmas.kept.Steps.{IsAccepted}
use Rattle.sd_read.proofs.readable_lemmas.kept.Trees.{all-more, all-joined, of_line}
use Rattle.sd_tie.proofs.joined_lemmas.Connectors.{among_last, inputs_in, outputs_in, inputs-joined, outputs-joined, inputs_same, outputs_same, lines_more, connected-joined, use_known, uses_known}
use Rattle.sd_tie.proofs.joined_lemmas.Meanings.{IsOf, AreOf, IsPlain, none_all, more_all, first_all, plain_all, longer, input_among, output_among}
use Rattle.sd_tie.proofs.joined_lemmas.Stack.{in_task, inputs_by, outputs_by, inputs_open, outputs_open, no_task, AllJoined, IsGoodOpener, IsGoodBlock, IsStraight, IsGoodOf, IsGood, outside_wider, outside_plain, outside_more}

-- ---- statements more in the innermost block

inputs_more : (b : OpenBlock) (outer : List OpenBlock) (ys : List StatementTree) → inputs_in ys ≡ [] → inputs_open (record b { statements = b.statements ++ ys } ∷ outer) ≡ inputs_open (b ∷ outer)
inputs_more b outer ys none = ap (λ own. in_task b.kind (inputs_by b.opener own (inputs_open outer))) (inputs_same b.statements ys none)

outputs_more : (b : OpenBlock) (outer : List OpenBlock) (ys : List StatementTree) → outputs_in ys ≡ [] → outputs_open (record b { statements = b.statements ++ ys } ∷ outer) ≡ outputs_open (b ∷ outer)
outputs_more b outer ys none = ap (λ own. in_task b.kind (outputs_by b.opener own (outputs_open outer))) (outputs_same b.statements ys none)

-- statements without a connector that hold and are connected
pub record AreLines (ins outs : List Name) (ys : List StatementTree) : Type 0 where
  pub no_input : inputs_in ys ≡ []
  pub no_output : outputs_in ys ≡ []
  pub hold : AllJoined ys
  pub connected : AreConnected ins outs (block_listed ys)

pub added : (b : OpenBlock) (outer : List OpenBlock) (meanings : List (Name × Meaning)) (connects : Bool) (arguments : List StatementTree) (functions : List FunctionTree) (ys : List StatementTree) →
    AreLines (inputs_open (b ∷ outer)) (outputs_open (b ∷ outer)) ys → IsGoodOf b outer meanings connects arguments functions →
    IsGoodOf (record b { statements = b.statements ++ ys }) outer meanings connects arguments functions
added b outer meanings connects arguments functions ys lines good =
    let after : OpenBlock = record b { statements = b.statements ++ ys } in
    let ins = inputs_more b outer ys lines.no_input in
    let outs = outputs_more b outer ys lines.no_output in
    let now : IsGoodBlock (inputs_open (b ∷ outer)) (outputs_open (b ∷ outer)) after = (
      (
        all-joined (Every IsJoined) b.statements ys good.blocks.0.0.0 lines.hold,
        connected-joined (inputs_open (b ∷ outer)) (outputs_open (b ∷ outer)) b.statements ys good.blocks.0.0.1 lines.connected,
      ),
      good.blocks.0.1,
    ) in
    record {
      blocks = (subst (λ names. IsGoodBlock names (outputs_open (after ∷ outer)) after) (sym ins) (subst (λ names. IsGoodBlock (inputs_open (b ∷ outer)) names after) (sym outs) now), good.blocks.1);
      known = subst (λ names. AreOf names (outputs_open (after ∷ outer)) meanings) (sym ins) (subst (λ names. AreOf (inputs_open (b ∷ outer)) names meanings) (sym outs) good.known);
      outside = good.outside;
      straight = good.straight;
      arguments = good.arguments;
      functions = good.functions;
    }

-- ---- names more

pub plain_more : (b : OpenBlock) (outer : List OpenBlock) (meanings : List (Name × Meaning)) (connects : Bool) (arguments : List StatementTree) (functions : List FunctionTree) (name : Name) (meaning : Meaning) → IsPlain meaning →
    IsGoodOf b outer meanings connects arguments functions → IsGoodOf b outer (put meanings name meaning) connects arguments functions
plain_more b outer meanings connects arguments functions name meaning plain good = record {
  blocks = good.blocks;
  known = plain_all (inputs_open (b ∷ outer)) (outputs_open (b ∷ outer)) meanings name meaning plain good.known;
  outside = outside_wider (length meanings) (length (put meanings name meaning)) (put meanings name meaning) b.before.meanings outer (longer meanings name meaning)
      (outside_plain (length meanings) meanings b.before.meanings outer name meaning plain good.outside);
  straight = good.straight;
  arguments = good.arguments;
  functions = good.functions;
}

-- a new name
new_more : (b : OpenBlock) (outer : List OpenBlock) (meanings : List (Name × Meaning)) (connects : Bool) (arguments : List StatementTree) (functions : List FunctionTree) (name : Name) (meaning : Meaning) →
    is_some (listed meanings name) ≡ false → IsOf (inputs_open (b ∷ outer)) (outputs_open (b ∷ outer)) (name, meaning) →
    IsGoodOf b outer meanings connects arguments functions → IsGoodOf b outer (put meanings name meaning) connects arguments functions
new_more b outer meanings connects arguments functions name meaning new of good =
    let more : List (Name × Meaning) = (name, meaning) ∷ [] in
    subst (λ list. IsGoodOf b outer list connects arguments functions) (sym (put-new meanings name meaning new)) (
    record {
      blocks = good.blocks;
      known = all-more (IsOf (inputs_open (b ∷ outer)) (outputs_open (b ∷ outer))) meanings (name, meaning) good.known of;
      outside = outside_wider (length meanings) (length (meanings ++ more)) (meanings ++ more) b.before.meanings outer (rw (length-append meanings more) (omega arith))
          (outside_more (length meanings) meanings more b.before.meanings outer (omega arith) good.outside);
      straight = good.straight;
      arguments = good.arguments;
      functions = good.functions;
    }
    )

variables_more : (b : OpenBlock) (outer : List OpenBlock) (connects : Bool) (arguments : List StatementTree) (functions : List FunctionTree) (parameters : List Name) (names : Names) →
    IsGoodOf b outer names.meanings connects arguments functions → IsGoodOf b outer (all_meaning Variable names parameters).meanings connects arguments functions
variables_more b outer connects arguments functions [] names good = good
variables_more b outer connects arguments functions (parameter ∷ parameters) names good =
    variables_more b outer connects arguments functions parameters (with_meaning names parameter Variable) (plain_more b outer names.meanings connects arguments functions parameter Variable tt good)

-- no connector line may come
off : (b : OpenBlock) (outer : List OpenBlock) (meanings : List (Name × Meaning)) (connects : Bool) (arguments : List StatementTree) (functions : List FunctionTree) →
    IsGoodOf b outer meanings connects arguments functions → IsGoodOf b outer meanings false arguments functions
off b outer meanings connects arguments functions good = record {
  blocks = good.blocks;
  known = good.known;
  outside = good.outside;
  straight = λ may task. false_is_not_true may;
  arguments = good.arguments;
  functions = good.functions;
}

-- ---- a block of its own

abbrev pub begun : (containers : ℕ) (opener : Opener) (kind : BlockKind) (line depth : ℕ) → List (Name × Meaning) → OpenBlock
begun containers opener kind line depth meanings = record { opener = opener; kind = kind; line = line; depth = depth; before = record { meanings = length meanings; containers = containers }; statements = [] }

pub opens : (b : OpenBlock) (outer : List OpenBlock) (meanings : List (Name × Meaning)) (connects : Bool) (arguments : List StatementTree) (functions : List FunctionTree) → IsGoodOf b outer meanings connects arguments functions →
    (containers : ℕ) (opener : Opener) (kind : BlockKind) (line depth : ℕ) (may : Bool) →
    IsGoodOpener (inputs_open (begun containers opener kind line depth meanings ∷ b ∷ outer)) (outputs_open (begun containers opener kind line depth meanings ∷ b ∷ outer)) kind opener →
    AreOf (inputs_open (begun containers opener kind line depth meanings ∷ b ∷ outer)) (outputs_open (begun containers opener kind line depth meanings ∷ b ∷ outer)) meanings →
    (may ≡ true → kind ≡ Tasklet → IsStraight opener) → IsGoodOf (begun containers opener kind line depth meanings) (b ∷ outer) meanings may arguments functions
opens b outer meanings connects arguments functions good containers opener kind line depth may right known straight = record {
  blocks = (((tt, tt), right), good.blocks);
  known = known;
  outside = (omega arith, (first_all (length meanings) (inputs_open (b ∷ outer)) (outputs_open (b ∷ outer)) meanings good.known, good.outside));
  straight = straight;
  arguments = good.arguments;
  functions = good.functions;
}

-- outside of tasklets no connector is in force
pub none_known : (b : OpenBlock) (outer : List OpenBlock) (meanings : List (Name × Meaning)) → IsBody b.kind → AreOf (inputs_open (b ∷ outer)) (outputs_open (b ∷ outer)) meanings → AreOf [] [] meanings
none_known b outer meanings is known =
    subst (λ names. AreOf names [] meanings) (no_task b.kind (inputs_by b.opener (inputs_in b.statements) (inputs_open outer)) is)
    (subst (λ names. AreOf (inputs_open (b ∷ outer)) names meanings) (no_task b.kind (outputs_by b.opener (outputs_in b.statements) (outputs_open outer)) is) known)

-- a statement that stands in no tasklet
body_of : (kind : BlockKind) (s : StatementTree) → (IsTaskletStatement s → ⊥) → Fits kind (statement_head s) → IsBody kind
body_of Top s none fit = absurd fit
body_of Program s none fit = tt
body_of Scope s none fit = tt
body_of Tasklet s none fit = absurd (none fit)

-- ---- what is known of a line

pub unknown_uses : (names : Names) (site : Site) (head : HeadTree) → Passes names site head → list_any (is_unknown_use names) (uses site.kind head) ≡ false
unknown_uses names site head passed = (neither (assigns_unknown names head) (list_any (is_unknown_use names) (uses site.kind head)) passed.known).1

free_meaning : (names : Names) (name : Name) → is_free names name ≡ true → is_some (meaning_of names name) ≡ false
free_meaning names name free =
    let none = by_not (is_among reserved name || is_some (meaning_of names name) || is_some (container_of names name) || is_among names.declared name) free in
    let first = neither (is_among reserved name || is_some (meaning_of names name) || is_some (container_of names name)) (is_among names.declared name) none in
    (neither (is_among reserved name) (is_some (meaning_of names name)) (neither (is_among reserved name || is_some (meaning_of names name)) (is_some (container_of names name)) first.0).0).1 where
      by_not : (test : Bool) → not test ≡ true → test ≡ false
      by_not true is = sym is
      by_not false is = refl

-- a line that is one statement without a connector, in the innermost block
leaf : (context : Context) (s : StatementTree) → inputs_in (s ∷ []) ≡ [] → outputs_in (s ∷ []) ≡ [] → Every IsJoined s → IsConnected (inputs_open (context.block ∷ context.outer)) (outputs_open (context.block ∷ context.outer)) s → IsGood context →
    IsGoodOf (record context.block { statements = context.block.statements ++ s ∷ [] }) context.outer context.names.meanings false context.arguments context.functions
leaf context s no_in no_out holds connected good =
    let lines : AreLines (inputs_open (context.block ∷ context.outer)) (outputs_open (context.block ∷ context.outer)) (s ∷ []) = record { no_input = no_in; no_output = no_out; hold = (holds, tt); connected = (connected, tt) } in
    added context.block context.outer context.names.meanings false context.arguments context.functions (s ∷ []) lines (off context.block context.outer context.names.meanings context.connects context.arguments context.functions good)

inputs_known : (context : Context) → IsGood context → (name : Name) → is_input (meaning_of context.names name) ≡ true → IsAmong (inputs_open (context.block ∷ context.outer)) name
inputs_known context good name is = input_among (inputs_open (context.block ∷ context.outer)) (outputs_open (context.block ∷ context.outer)) context.names.meanings name good.known is

outputs_known : (context : Context) → IsGood context → (name : Name) → is_output (meaning_of context.names name) ≡ true → IsAmong (outputs_open (context.block ∷ context.outer)) name
outputs_known context good name is = output_among (inputs_open (context.block ∷ context.outer)) (outputs_open (context.block ∷ context.outer)) context.names.meanings name good.known is

-- a block of its own outside of tasklets
opens_body : (context : Context) (opener : Opener) (kind : BlockKind) (line depth : ℕ) → IsBody kind → IsBody context.block.kind → IsGoodOpener [] [] kind opener → IsGood context →
    IsGoodOf (begun (length context.names.containers) opener kind line depth context.names.meanings) (context.block ∷ context.outer) context.names.meanings false context.arguments context.functions
opens_body context opener kind line depth inside is right good =
    let new : OpenBlock = begun (length context.names.containers) opener kind line depth context.names.meanings in
    let ins : inputs_open (new ∷ context.block ∷ context.outer) ≡ [] = no_task kind (inputs_by opener [] (inputs_open (context.block ∷ context.outer))) inside in
    let outs : outputs_open (new ∷ context.block ∷ context.outer) ≡ [] = no_task kind (outputs_by opener [] (outputs_open (context.block ∷ context.outer))) inside in
    let known = none_known context.block context.outer context.names.meanings is good.known in
    opens context.block context.outer context.names.meanings context.connects context.arguments context.functions good (length context.names.containers) opener kind line depth false
    (subst (λ names. IsGoodOpener names (outputs_open (new ∷ context.block ∷ context.outer)) kind opener) (sym ins) (subst (λ names. IsGoodOpener [] names kind opener) (sym outs) right))
    (none_all (inputs_open (new ∷ context.block ∷ context.outer)) (outputs_open (new ∷ context.block ∷ context.outer)) context.names.meanings known)
    (λ may task. false_is_not_true may)

pub argument_good : (context : Context) (s : StatementTree) → Every IsJoined s → IsGood context →
    IsGoodOf context.block context.outer context.names.meanings false (context.arguments ++ s ∷ []) context.functions
argument_good context s holds good = record {
  blocks = good.blocks;
  known = good.known;
  outside = good.outside;
  straight = λ may task. false_is_not_true may;
  arguments = all-more (Every IsJoined) context.arguments s good.arguments holds;
  functions = good.functions;
}

-- ---- statements

statement_good : (context : Context) (line : ℕ) (scoped : Bool) (s : StatementTree) → Fits context.block.kind (statement_head s) → IsAccepted context (statement_head s) → IsGood context → IsGood (context_after context line scoped (statement_head s))
statement_good context line scoped (argument_array at name bits extents) fit accepted' good = argument_good context (argument_array at name bits extents) tt good
statement_good context line scoped (local_array at name extents bits) fit accepted' good = leaf context (local_array at name extents bits) refl refl tt tt good
statement_good context line scoped (local_stream at name bits size) fit accepted' good = leaf context (local_stream at name bits size) refl refl tt tt good
statement_good context line scoped (assign at name subscripts add value) fit accepted' good = leaf context (assign at name subscripts add value) refl refl tt tt good
statement_good context line scoped (copy at to to_dimensions from from_dimensions) fit accepted' good = leaf context (copy at to to_dimensions from from_dimensions) refl refl tt tt good
statement_good context line scoped (reduce at lambda from to axis identity) fit accepted' good = absurd (of_line context.block.kind (reduce at lambda from to axis identity) fit)
statement_good context line scoped (map_scope at parameters ranges body) fit accepted' good =
    let opener = statement (map_scope at parameters ranges body) in
    variables_more (begun (length context.names.containers) opener Scope line (context.block.depth + 1) context.names.meanings) (context.block ∷ context.outer) false context.arguments context.functions parameters context.names
    (opens_body context opener Scope line (context.block.depth + 1) tt (body_of context.block.kind (map_scope at parameters ranges body) (λ none. none) fit) tt good)
statement_good context line scoped (tasklet at body) fit accepted' good =
    let opener = statement (tasklet at body) in
    opens context.block context.outer context.names.meanings context.connects context.arguments context.functions good (length context.names.containers) opener Tasklet line (context.block.depth + 0) true tt
    (none_known context.block context.outer context.names.meanings (body_of context.block.kind (tasklet at body) (λ none. none) fit) good.known) (λ may task. tt)
statement_good context line scoped (consume_scope at from size name element worker body) fit accepted' good = absurd (of_line context.block.kind (consume_scope at from size name element worker body) fit)
statement_good context line scoped (call at name arguments) fit accepted' good = leaf context (call at name arguments) refl refl tt tt good
statement_good context line scoped (for_loop at name begin end step body) fit accepted' good =
    let opener = statement (for_loop at name begin end step body) in
    plain_more (begun (length context.names.containers) opener Program line (context.block.depth + 1) context.names.meanings) (context.block ∷ context.outer) context.names.meanings false context.arguments context.functions name Variable tt
    (opens_body context opener Program line (context.block.depth + 1) tt (body_of context.block.kind (for_loop at name begin end step body) (λ none. none) fit) tt good)
statement_good context line scoped (while_loop at when body) fit accepted' good =
    opens_body context (statement (while_loop at when body)) Program line (context.block.depth + 1) tt (body_of context.block.kind (while_loop at when body) (λ none. none) fit) tt good
statement_good context line scoped (branch at when body other) fit accepted' good =
    opens_body context (if_block [] when) Program line (context.block.depth + 0) tt (body_of context.block.kind (branch at when body other) (λ none. none) fit) (tt, tt) good
statement_good context line scoped (input at connector memlet) fit accepted' good = absurd (of_line context.block.kind (input at connector memlet) fit)
statement_good context line scoped (output at connector memlet) fit accepted' good = absurd (of_line context.block.kind (output at connector memlet) fit)
statement_good context line scoped (set at name value) fit accepted' good =
    by_test (declares_local (meaning_of context.names name)) where
      now : IsGoodOf (record context.block { statements = context.block.statements ++ set at name value ∷ [] }) context.outer context.names.meanings false context.arguments context.functions
      now =
          let passed = passes context.names (site_of context) (statement_head (set at name value)) accepted' in
          leaf context (set at name value) refl refl tt
          (use_known context.names (inputs_open (context.block ∷ context.outer)) (inputs_known context good) value (unknown_uses context.names (site_of context) (statement_head (set at name value)) passed)) good

      by_test : (test : Bool) → IsGoodOf (record context.block { statements = context.block.statements ++ set at name value ∷ [] }) context.outer (if test then with_meaning context.names name Local else context.names).meanings false context.arguments context.functions
      by_test true = plain_more (record context.block { statements = context.block.statements ++ set at name value ∷ [] }) context.outer context.names.meanings false context.arguments context.functions name Local tt now
      by_test false = now
statement_good context line scoped (set_at at name subscripts value) fit accepted' good =
    let s = set_at at name subscripts value in
    let passed = passes context.names (site_of context) (statement_head s) accepted' in
    let assigned = (neither (assigns_unknown context.names (statement_head s)) (list_any (is_unknown_use context.names) (uses context.block.kind (statement_head s))) passed.known).0 in
    leaf context s refl refl tt (
      outputs_known context good name (negated (is_output (meaning_of context.names name)) assigned),
      uses_known context.names (inputs_open (context.block ∷ context.outer)) (inputs_known context good) subscripts value (unknown_uses context.names (site_of context) (statement_head s) passed),
    )
    good
statement_good context line scoped (tasklet_branch at when body other) fit accepted' good =
    let passed = passes context.names (site_of context) (statement_head (tasklet_branch at when body other)) accepted' in
    opens context.block context.outer context.names.meanings context.connects context.arguments context.functions good (length context.names.containers) (if_block [] when) Tasklet line (context.block.depth + 0) false
    (tt, use_known context.names (inputs_open (context.block ∷ context.outer)) (inputs_known context good) when (unknown_uses context.names (site_of context) (statement_head (tasklet_branch at when body other)) passed))
    good.known (λ may task. false_is_not_true may)

-- ---- a connector line

-- connectors of a block that is a whole tasklet
inputs_end : (opener : Opener) (own outside more : List Name) → IsStraight opener → inputs_by opener (own ++ more) outside ≡ inputs_by opener own outside ++ more
inputs_end file own outside more straight = refl
inputs_end (function name) own outside more straight = refl
inputs_end (statement s) own outside more straight = refl
inputs_end (consumer line from size name element worker) own outside more straight = refl
inputs_end (if_block earlier when) own outside more straight = absurd straight
inputs_end (else_block earlier) own outside more straight = absurd straight

outputs_end : (opener : Opener) (own outside more : List Name) → IsStraight opener → outputs_by opener (own ++ more) outside ≡ outputs_by opener own outside ++ more
outputs_end file own outside more straight = refl
outputs_end (function name) own outside more straight = refl
outputs_end (statement s) own outside more straight = refl
outputs_end (consumer line from size name element worker) own outside more straight = refl
outputs_end (if_block earlier when) own outside more straight = absurd straight
outputs_end (else_block earlier) own outside more straight = absurd straight

straight_good : (ins outs ins' outs' : List Name) (kind : BlockKind) (opener : Opener) → IsStraight opener → IsGoodOpener ins outs kind opener → IsGoodOpener ins' outs' kind opener
straight_good ins outs ins' outs' kind file straight good = tt
straight_good ins outs ins' outs' kind (function name) straight good = tt
straight_good ins outs ins' outs' kind (statement s) straight good = tt
straight_good ins outs ins' outs' kind (consumer line from size name element worker) straight good = good
straight_good ins outs ins' outs' kind (if_block earlier when) straight good = absurd straight
straight_good ins outs ins' outs' kind (else_block earlier) straight good = absurd straight

task_names : (kind : BlockKind) (names : List Name) → kind ≡ Tasklet → in_task kind names ≡ names
task_names kind names is = ap (λ kind. in_task kind names) is

-- one connector more
connector_good : (b : OpenBlock) (outer : List OpenBlock) (meanings : List (Name × Meaning)) (connects : Bool) (arguments : List StatementTree) (functions : List FunctionTree) (s : StatementTree) (more_ins more_outs : List Name) →
    b.kind ≡ Tasklet → IsStraight b.opener → inputs_in (s ∷ []) ≡ more_ins → outputs_in (s ∷ []) ≡ more_outs → Every IsJoined s → ((ins outs : List Name) → IsConnected ins outs s) →
    IsGoodOf b outer meanings connects arguments functions →
    IsGoodOf (record b { statements = b.statements ++ s ∷ [] }) outer meanings true arguments functions
    × ((inputs_open (record b { statements = b.statements ++ s ∷ [] } ∷ outer) ≡ inputs_open (b ∷ outer) ++ more_ins) × (outputs_open (record b { statements = b.statements ++ s ∷ [] } ∷ outer) ≡ outputs_open (b ∷ outer) ++ more_outs))
connector_good b outer meanings connects arguments functions s more_ins more_outs task straight ins outs holds connected good =
    let after : OpenBlock = record b { statements = b.statements ++ s ∷ [] } in
    let own = inputs_by b.opener (inputs_in b.statements) (inputs_open outer) in
    let own' = outputs_by b.opener (outputs_in b.statements) (outputs_open outer) in
    let ins' : inputs_open (after ∷ outer) ≡ inputs_open (b ∷ outer) ++ more_ins =
    ap (λ names. in_task b.kind (inputs_by b.opener names (inputs_open outer))) (inputs-joined b.statements (s ∷ []) ∙ ap (λ more. inputs_in b.statements ++ more) ins)
    ∙ ap (in_task b.kind) (inputs_end b.opener (inputs_in b.statements) (inputs_open outer) more_ins straight) ∙ task_names b.kind (own ++ more_ins) task ∙ ap (λ names. names ++ more_ins) (sym (task_names b.kind own task)) in
    let outs' : outputs_open (after ∷ outer) ≡ outputs_open (b ∷ outer) ++ more_outs =
    ap (λ names. in_task b.kind (outputs_by b.opener names (outputs_open outer))) (outputs-joined b.statements (s ∷ []) ∙ ap (λ more. outputs_in b.statements ++ more) outs)
    ∙ ap (in_task b.kind) (outputs_end b.opener (outputs_in b.statements) (outputs_open outer) more_outs straight) ∙ task_names b.kind (own' ++ more_outs) task ∙ ap (λ names. names ++ more_outs) (sym (task_names b.kind own' task)) in
    let wide = inputs_open (b ∷ outer) ++ more_ins in
    let wide' = outputs_open (b ∷ outer) ++ more_outs in
    let now : IsGoodBlock wide wide' after = (
      (
        all-more (Every IsJoined) b.statements s good.blocks.0.0.0 holds,
        connected-joined wide wide' b.statements (s ∷ []) (lines_more (inputs_open (b ∷ outer)) (outputs_open (b ∷ outer)) more_ins more_outs (block_listed b.statements) good.blocks.0.0.1) (connected wide wide', tt),
      ),
      straight_good (inputs_open (b ∷ outer)) (outputs_open (b ∷ outer)) wide wide' b.kind b.opener straight good.blocks.0.1,
    ) in
    let known : AreOf wide wide' meanings = more_all (inputs_open (b ∷ outer)) (outputs_open (b ∷ outer)) more_ins more_outs meanings good.known in (
      record {
        blocks = (subst (λ names. IsGoodBlock names (outputs_open (after ∷ outer)) after) (sym ins') (subst (λ names. IsGoodBlock wide names after) (sym outs') now), good.blocks.1);
        known = subst (λ names. AreOf names (outputs_open (after ∷ outer)) meanings) (sym ins') (subst (λ names. AreOf wide names meanings) (sym outs') known);
        outside = good.outside;
        straight = λ may task. straight;
        arguments = good.arguments;
        functions = good.functions;
      },
      (ins', outs'),
    )

input_task : (kind : BlockKind) (connector : Name) (memlet : MemletTree) → Fits kind (input_head connector memlet) → kind ≡ Tasklet
input_task Top connector memlet fit = absurd fit
input_task Program connector memlet fit = absurd fit
input_task Scope connector memlet fit = absurd fit
input_task Tasklet connector memlet fit = refl

output_task : (kind : BlockKind) (connector : Name) (memlet : MemletTree) → Fits kind (output_head connector memlet) → kind ≡ Tasklet
output_task Top connector memlet fit = absurd fit
output_task Program connector memlet fit = absurd fit
output_task Scope connector memlet fit = absurd fit
output_task Tasklet connector memlet fit = refl

may_connect : (names : Names) (site : Site) (head : HeadTree) → Passes names site head → is_misplaced names site head ≡ not site.connects → site.connects ≡ true
may_connect names site head passed is = negated site.connects (sym is ∙ (neither (is_misplaced names site head) (list_any (misuses names) (uses site.kind head)) passed.form).0)

is_new : (names : Names) (site : Site) (head : HeadTree) (name : Name) (rest : List Name) → Passes names site head → declares names head ≡ name ∷ rest → is_some (meaning_of names name) ≡ false
is_new names site head name rest passed is = free_meaning names name (first_new names name rest (subst (λ list. are_not_new names [] list ≡ false) is (declares_new names site head passed)))

input_good : (context : Context) (line : ℕ) (scoped : Bool) (connector : Name) (memlet : MemletTree) → Fits context.block.kind (input_head connector memlet) → IsAccepted context (input_head connector memlet) → IsGood context →
    IsGood (context_after context line scoped (input_head connector memlet))
input_good context line scoped connector memlet fit accepted' good =
    let head = input_head connector memlet in
    let passed = passes context.names (site_of context) head accepted' in
    let task = input_task context.block.kind connector memlet fit in
    let s : StatementTree = input line connector (memlet_of memlet) in
    let after : OpenBlock = record context.block { statements = context.block.statements ++ s ∷ [] } in
    let one = connector_good context.block context.outer context.names.meanings context.connects context.arguments context.functions s (connector ∷ []) [] task
    (good.straight (may_connect context.names (site_of context) head passed refl) task) refl refl tt (λ ins outs. tt) good in
    new_more after context.outer context.names.meanings true context.arguments context.functions connector (Input (connector_dimensions context.names memlet))
    (is_new context.names (site_of context) head connector [] passed refl)
    (subst (λ names. IsAmong names connector) (sym one.1.0) (among_last (inputs_open (context.block ∷ context.outer)) connector)) one.0

output_good : (context : Context) (line : ℕ) (scoped : Bool) (connector : Name) (memlet : MemletTree) → Fits context.block.kind (output_head connector memlet) → IsAccepted context (output_head connector memlet) → IsGood context →
    IsGood (context_after context line scoped (output_head connector memlet))
output_good context line scoped connector memlet fit accepted' good =
    let head = output_head connector memlet in
    let passed = passes context.names (site_of context) head accepted' in
    let task = output_task context.block.kind connector memlet fit in
    let s : StatementTree = output line connector (memlet_of memlet) in
    let after : OpenBlock = record context.block { statements = context.block.statements ++ s ∷ [] } in
    let one = connector_good context.block context.outer context.names.meanings context.connects context.arguments context.functions s [] (connector ∷ []) task
    (good.straight (may_connect context.names (site_of context) head passed refl) task) refl refl tt (λ ins outs. tt) good in
    new_more after context.outer context.names.meanings true context.arguments context.functions connector (Output (connector_dimensions context.names memlet))
    (is_new context.names (site_of context) head connector [] passed refl)
    (subst (λ names. IsAmong names connector) (sym one.1.1) (among_last (outputs_open (context.block ∷ context.outer)) connector)) one.0

-- ---- the `def` of a consume

consume_body : (kind : BlockKind) (name element : Name) (worker : Option Name) → Fits kind (consume_head name element worker) → IsBody kind
consume_body Top name element worker fit = absurd fit
consume_body Program name element worker fit = tt
consume_body Scope name element worker fit = tt
consume_body Tasklet name element worker fit = absurd fit

worker_more : (b : OpenBlock) (outer : List OpenBlock) (connects : Bool) (arguments : List StatementTree) (functions : List FunctionTree) (worker : Option Name) (names : Names) →
    IsGoodOf b outer names.meanings connects arguments functions → IsGoodOf b outer (with_worker worker names).meanings connects arguments functions
worker_more b outer connects arguments functions None names good = good
worker_more b outer connects arguments functions (Some name) names good = plain_more b outer names.meanings connects arguments functions name Worker tt good

consumer_good : (ins outs : List Name) (kind : BlockKind) (awaited : Awaited) (name element : Name) (worker : Option Name) → IsGoodOpener ins outs kind (consumer_of awaited name element worker)
consumer_good ins outs kind nothing name element worker = tt
consumer_good ins outs kind block name element worker = tt
consumer_good ins outs kind (function_def at) name element worker = tt
consumer_good ins outs kind (consume_def at from size) name element worker = tt

consumer_straight : (awaited : Awaited) (name element : Name) (worker : Option Name) → IsStraight (consumer_of awaited name element worker)
consumer_straight nothing name element worker = tt
consumer_straight block name element worker = tt
consumer_straight (function_def at) name element worker = tt
consumer_straight (consume_def at from size) name element worker = tt

consumer_inputs : (awaited : Awaited) (name element : Name) (worker : Option Name) (own outside : List Name) → inputs_by (consumer_of awaited name element worker) own outside ≡ element ∷ own
consumer_inputs nothing name element worker own outside = refl
consumer_inputs block name element worker own outside = refl
consumer_inputs (function_def at) name element worker own outside = refl
consumer_inputs (consume_def at from size) name element worker own outside = refl

consume_good : (context : Context) (line : ℕ) (scoped : Bool) (name element : Name) (worker : Option Name) → Fits context.block.kind (consume_head name element worker) → IsAccepted context (consume_head name element worker) → IsGood context →
    IsGood (context_after context line scoped (consume_head name element worker))
consume_good context line false name element worker fit accepted' good =
    let opener = consumer_of context.awaited name element worker in
    let inside = consume_body context.block.kind name element worker fit in
    worker_more (begun (length context.names.containers) opener Scope line (context.block.depth + 1) context.names.meanings) (context.block ∷ context.outer) false context.arguments context.functions worker
    (element_names false context.names element)
    (opens_body context opener Scope line (context.block.depth + 1) tt inside (consumer_good [] [] Scope context.awaited name element worker) good)
consume_good context line true name element worker fit accepted' good =
    let head = consume_head name element worker in
    let passed = passes context.names (site_of context) head accepted' in
    let opener = consumer_of context.awaited name element worker in
    let new : OpenBlock = begun (length context.names.containers) opener Tasklet line (context.block.depth + 1) context.names.meanings in
    let outer = context.block ∷ context.outer in
    let inside = consume_body context.block.kind name element worker fit in
    let known = none_all (inputs_open (new ∷ outer)) (outputs_open (new ∷ outer)) context.names.meanings (none_known context.block context.outer context.names.meanings inside good.known) in
    let begins = opens context.block context.outer context.names.meanings context.connects context.arguments context.functions good (length context.names.containers) opener Tasklet line (context.block.depth + 1) true
    (consumer_good (inputs_open (new ∷ outer)) (outputs_open (new ∷ outer)) Tasklet context.awaited name element worker) known
    (λ may task. consumer_straight context.awaited name element worker) in
    worker_more new outer true context.arguments context.functions worker (with_meaning context.names element (Input 0))
    (new_more new outer context.names.meanings true context.arguments context.functions element (Input 0) (is_new context.names (site_of context) head element (optional worker) passed refl)
    (subst (λ names. IsAmong names element) (sym (consumer_inputs context.awaited name element worker [] (inputs_open outer))) (among_last [] element)) begins)

-- ---- all lines

quiet : (context : Context) → IsGood context → IsGoodOf context.block context.outer context.names.meanings false context.arguments context.functions
quiet context good = off context.block context.outer context.names.meanings context.connects context.arguments context.functions good

program_good : (context : Context) (line at : ℕ) (name : Name) (kind : context.block.kind ≡ Top) → IsGood context →
    IsGoodOf (begun (length context.names.containers) (function name) Program at (context.block.depth + 0) context.names.meanings) (context.block ∷ context.outer) (put context.names.meanings name (Program_name None)) false [] context.functions
program_good context line at name kind good =
    let b = context.block in
    let none : AreOf [] [] context.names.meanings =
    subst (λ names. AreOf names [] context.names.meanings) (ap (λ kind. in_task kind (inputs_by b.opener (inputs_in b.statements) (inputs_open context.outer))) kind)
    (subst (λ names. AreOf (inputs_open (b ∷ context.outer)) names context.names.meanings) (ap (λ kind. in_task kind (outputs_by b.opener (outputs_in b.statements) (outputs_open context.outer))) kind) good.known) in
    let now = opens b context.outer context.names.meanings context.connects context.arguments context.functions good (length context.names.containers) (function name) Program at (b.depth + 0) false tt none (λ may task. false_is_not_true may) in
    plain_more (begun (length context.names.containers) (function name) Program at (b.depth + 0) context.names.meanings) (b ∷ context.outer) context.names.meanings false [] context.functions name (Program_name None) tt
    (record { blocks = now.blocks; known = now.known; outside = now.outside; straight = now.straight; arguments = tt; functions = now.functions })

program_kind : (kind : BlockKind) (name : Name) (arguments : Block) → Fits kind (program_head name arguments) → kind ≡ Top
program_kind Top name arguments fit = refl
program_kind Program name arguments fit = absurd fit
program_kind Scope name arguments fit = absurd fit
program_kind Tasklet name arguments fit = absurd fit

pub pass_good : (context : Context) (line : ℕ) (scoped : Bool) (head : HeadTree) → Fits context.block.kind head → IsAccepted context head → IsGood context → IsGood (context_after context line scoped head)
pass_good context line scoped import_line fit accepted' good = quiet context good
pass_good context line scoped (symbol_line name quoted) fit accepted' good = plain_more context.block context.outer context.names.meanings false context.arguments context.functions name Symbol tt (quiet context good)
pass_good context line scoped program_decorator fit accepted' good = quiet context good
pass_good context line scoped (program_head name arguments) fit accepted' good = program_good context line (decorator_line context.awaited line) name (program_kind context.block.kind name arguments fit) good
pass_good context line scoped (statement_head s) fit accepted' good = statement_good context line scoped s fit accepted' good
pass_good context line scoped (reduce_head lambda from to axis identity) fit accepted' good = leaf context (reduce line (lambda_or_last (kind_in lambda)) from to axis identity) refl refl tt tt good
pass_good context line scoped (input_head connector memlet) fit accepted' good = input_good context line scoped connector memlet fit accepted' good
pass_good context line scoped (output_head connector memlet) fit accepted' good = output_good context line scoped connector memlet fit accepted' good
pass_good context line scoped (consume_decorator from size) fit accepted' good = quiet context good
pass_good context line scoped (consume_head name element worker) fit accepted' good = consume_good context line scoped name element worker fit accepted' good
pass_good context line scoped (elif_head when) fit accepted' good = quiet context good
pass_good context line scoped else_head fit accepted' good = quiet context good
