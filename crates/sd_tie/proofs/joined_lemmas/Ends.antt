-- Each end of a block keeps what is known of connectors; so a program that was read is joined.
use Rattle.std.proofs.Common.{◌≡◌, ◌≤◌, ℕ, ◌+◌, List, [], ◌∷◌, ◌++◌, length, length-take-le, take, Bool, true, false, refl, ap, sym, ◌∙◌, subst, arith}
use Rattle.std.specs.Bool.{⊤}
use Rattle.std.specs.List.{AllByRecursion, list_any}
use Rattle.sd_lex.specs.PlainTree.{Expression, StatementTree, argument_array, local_array, local_stream, assign, copy, reduce, map_scope, tasklet, consume_scope, call, for_loop, while_loop, branch, input, output, set, set_at, tasklet_branch, FunctionTree}
use Rattle.sd_lex.specs.StatementKind.{has_connector}
use Rattle.sd_lex.specs.TreeFold.{block_listed}
use Rattle.sd_phrase.specs.declared.reading.Reading.TheVariants.{Form}
use Rattle.sd_line.specs.declared.line.head.BlockKind.{BlockKind}
use Rattle.sd_line.specs.declared.line.head.BlockKind.TheVariants.{Top, Program, Scope, Tasklet}
use Rattle.sd_line.specs.line.Head.{HeadTree, import_line, symbol_line, program_decorator, program_head, statement_head, reduce_head, input_head, output_head, consume_decorator, consume_head, elif_head, else_head}
use Rattle.sd_names.specs.declared.meaning.Meaning.{Meaning}
use Rattle.sd_names.specs.declared.meaning.Meaning.TheVariants.{Program as Program_name}
use Rattle.sd_names.specs.Names.{Name}
use Rattle.sd_refusal.specs.OverLimit.{is_tasklet}
use Rattle.sd_uses.specs.Uses.{condition}
use Rattle.sd_uses.specs.UnknownName.{is_unknown_use}
use Rattle.sd_refusal.specs.declared.site.Counts.{Counts}
use Rattle.sd_context.specs.context.Context.{Branch, Opener, file, function, statement, consumer, if_block, else_block, OpenBlock, Context, site_of}
use Rattle.sd_context.specs.blocks.Closing.{nested, with_body, finished_by, finished, closed_by, closed_into}
use Rattle.sd_context.specs.blocks.Continuing.{goes_on, branches_of}
use Rattle.sd_program.specs.Every.{EveryIn, EveryOf}
use Rattle.sd_tie.specs.items.Standing.{IsJoined}
use Rattle.sd_tie.specs.tasklets.Connected.{SubscriptsInputs, AreConnected}
use Rattle.sd_read.proofs.readable_lemmas.kept.Ahead.{is_consumer, EndsRight}
use Rattle.sd_read.proofs.readable_lemmas.kept.Heads.{Opens, IsBody, IsOpenedIn, AreNested}
use Rattle.sd_read.proofs.readable_lemmas.kept.Nesting.{same_kind}
use Rattle.sd_read.proofs.readable_lemmas.kept.Passing.{passes, false_is_not_true}
use Rattle.sd_read.proofs.readable_lemmas.kept.Steps.{goes_on_is, IsWellNested, IsAccepted, Keeps, behind_branch, behind_other}
use Rattle.sd_read.proofs.readable_lemmas.kept.Trees.{all-more}
use Rattle.sd_tie.proofs.joined_lemmas.Connectors.{inputs_in, outputs_in, use_known}
use Rattle.sd_tie.proofs.joined_lemmas.Meanings.{AreOf, taken_all, input_among}
use Rattle.sd_tie.proofs.joined_lemmas.Stack.{in_task, inputs_by, outputs_by, inputs_open, outputs_open, AllJoined, IfTask, IsGoodBranch, IsSome, IsGoodOpener, IsStraight, IsGoodOf, IsGood, outside_wider, outside_taken}
use Rattle.sd_tie.proofs.joined_lemmas.Lines.{AreLines, added, plain_more, opens, argument_good, unknown_uses, pass_good}

-- ---- statements of blocks that end

listed : (statements : List StatementTree) → AllJoined statements → EveryIn IsJoined (block_listed statements)
listed [] all = tt
listed (first ∷ rest) all = (all.0, listed rest all.1)

nest : (ins outs : List Name) (kind : BlockKind) (branches : List Branch) (other : List StatementTree) → AllByRecursion (IsGoodBranch ins outs kind) branches → AllJoined other → IfTask kind (AreConnected ins outs (block_listed other)) →
    AllJoined (nested kind branches other) × IfTask kind (AreConnected ins outs (block_listed (nested kind branches other)))
nest ins outs kind [] other all joined connected = (joined, connected)
nest ins outs Top (b ∷ branches) other all joined connected =
    let inner = nest ins outs Top branches other all.1 joined connected in
    (((tt, (listed b.statements all.0.0, listed (nested Top branches other) inner.0)), tt), tt)
nest ins outs Program (b ∷ branches) other all joined connected =
    let inner = nest ins outs Program branches other all.1 joined connected in
    (((tt, (listed b.statements all.0.0, listed (nested Program branches other) inner.0)), tt), tt)
nest ins outs Scope (b ∷ branches) other all joined connected =
    let inner = nest ins outs Scope branches other all.1 joined connected in
    (((tt, (listed b.statements all.0.0, listed (nested Scope branches other) inner.0)), tt), tt)
nest ins outs Tasklet (b ∷ branches) other all joined connected =
    let inner = nest ins outs Tasklet branches other all.1 joined connected in
    (((tt, (listed b.statements all.0.0, listed (nested Tasklet branches other) inner.0)), tt), ((all.0.1.0, (all.0.1.1, inner.1)), tt))

-- the statement that branches make, in a block with these connectors, which are those of the branches where it is a tasklet
nested_lines : (ins outs about_ins about_outs : List Name) (kind : BlockKind) (branches : List Branch) (other : List StatementTree) → IsSome branches → AllByRecursion (IsGoodBranch ins outs kind) branches → AllJoined other →
    IfTask kind (AreConnected ins outs (block_listed other)) → (kind ≡ Tasklet → ins ≡ about_ins) → (kind ≡ Tasklet → outs ≡ about_outs) → AreLines about_ins about_outs (nested kind branches other)
nested_lines ins outs about_ins about_outs kind [] other some all joined connected in_same out_same = absurd some
nested_lines ins outs about_ins about_outs Top (b ∷ branches) other some all joined connected in_same out_same =
    record { no_input = refl; no_output = refl; hold = (nest ins outs Top (b ∷ branches) other all joined connected).0; connected = (tt, tt) }
nested_lines ins outs about_ins about_outs Program (b ∷ branches) other some all joined connected in_same out_same =
    record { no_input = refl; no_output = refl; hold = (nest ins outs Program (b ∷ branches) other all joined connected).0; connected = (tt, tt) }
nested_lines ins outs about_ins about_outs Scope (b ∷ branches) other some all joined connected in_same out_same =
    record { no_input = refl; no_output = refl; hold = (nest ins outs Scope (b ∷ branches) other all joined connected).0; connected = (tt, tt) }
nested_lines ins outs about_ins about_outs Tasklet (b ∷ branches) other some all joined connected in_same out_same =
    let whole = nested Tasklet (b ∷ branches) other in
    let inner = nest ins outs Tasklet (b ∷ branches) other all joined connected in
    record {
      no_input = refl;
      no_output = refl;
      hold = inner.0;
      connected = subst (λ names. AreConnected names about_outs (block_listed whole)) (in_same refl) (subst (λ names. AreConnected ins names (block_listed whole)) (out_same refl) inner.1);
    }

-- that of a map, a tasklet or a loop
body_lines : (ins outs about_ins about_outs : List Name) (kind : BlockKind) (s : StatementTree) (statements : List StatementTree) → Opens kind s → AllJoined statements → AreConnected ins outs (block_listed statements) →
    (kind ≡ Tasklet → ins ≡ inputs_in statements) → (kind ≡ Tasklet → outs ≡ outputs_in statements) → AreLines about_ins about_outs (with_body s (block_listed statements) ∷ [])
body_lines ins outs about_ins about_outs kind (map_scope line parameters ranges empty) statements opened joined connected in_same out_same =
    record { no_input = refl; no_output = refl; hold = ((tt, listed statements joined), tt); connected = (tt, tt) }
body_lines ins outs about_ins about_outs kind (tasklet line empty) statements opened joined connected in_same out_same =
    let own : AreConnected (inputs_in statements) (outputs_in statements) (block_listed statements) =
    subst (λ names. AreConnected names (outputs_in statements) (block_listed statements)) (in_same opened) (subst (λ names. AreConnected ins names (block_listed statements)) (out_same opened) connected) in
    record { no_input = refl; no_output = refl; hold = ((own, listed statements joined), tt); connected = (tt, tt) }
body_lines ins outs about_ins about_outs kind (for_loop line name begin end step empty) statements opened joined connected in_same out_same =
    record { no_input = refl; no_output = refl; hold = ((tt, listed statements joined), tt); connected = (tt, tt) }
body_lines ins outs about_ins about_outs kind (while_loop line when empty) statements opened joined connected in_same out_same =
    record { no_input = refl; no_output = refl; hold = ((tt, listed statements joined), tt); connected = (tt, tt) }
body_lines ins outs about_ins about_outs kind (argument_array line name bits extents) statements opened joined connected in_same out_same = absurd opened
body_lines ins outs about_ins about_outs kind (local_array line name extents bits) statements opened joined connected in_same out_same = absurd opened
body_lines ins outs about_ins about_outs kind (local_stream line name bits size) statements opened joined connected in_same out_same = absurd opened
body_lines ins outs about_ins about_outs kind (assign line name at add value) statements opened joined connected in_same out_same = absurd opened
body_lines ins outs about_ins about_outs kind (copy line to to_dimensions from from_dimensions) statements opened joined connected in_same out_same = absurd opened
body_lines ins outs about_ins about_outs kind (reduce line lambda from to axis identity) statements opened joined connected in_same out_same = absurd opened
body_lines ins outs about_ins about_outs kind (consume_scope line from size name element worker body) statements opened joined connected in_same out_same = absurd opened
body_lines ins outs about_ins about_outs kind (call line name arguments) statements opened joined connected in_same out_same = absurd opened
body_lines ins outs about_ins about_outs kind (branch line when body other) statements opened joined connected in_same out_same = absurd opened
body_lines ins outs about_ins about_outs kind (input line connector memlet) statements opened joined connected in_same out_same = absurd opened
body_lines ins outs about_ins about_outs kind (output line connector memlet) statements opened joined connected in_same out_same = absurd opened
body_lines ins outs about_ins about_outs kind (set line name value) statements opened joined connected in_same out_same = absurd opened
body_lines ins outs about_ins about_outs kind (set_at line name at value) statements opened joined connected in_same out_same = absurd opened
body_lines ins outs about_ins about_outs kind (tasklet_branch line when body other) statements opened joined connected in_same out_same = absurd opened

some_more : (branches : List Branch) (b : Branch) → IsSome (branches ++ b ∷ [])
some_more [] b = tt
some_more (first ∷ rest) b = tt

is_task : (kind : BlockKind) → is_tasklet kind ≡ true → kind ≡ Tasklet
is_task Top is = false_is_not_true is
is_task Program is = false_is_not_true is
is_task Scope is = false_is_not_true is
is_task Tasklet is = refl

if_task : {P : Type 0} (kind : BlockKind) → (kind ≡ Tasklet → P) → IfTask kind P
if_task Top holds = tt
if_task Program holds = tt
if_task Scope holds = tt
if_task Tasklet holds = holds refl

both_task : (P Q : Type 0) (kind : BlockKind) → IfTask kind P → IfTask kind Q → IfTask kind (P × Q)
both_task P Q Top first second = tt
both_task P Q Program first second = tt
both_task P Q Scope first second = tt
both_task P Q Tasklet first second = (first, second)

names_of : (kind : BlockKind) (names : List Name) → kind ≡ Tasklet → in_task kind names ≡ names
names_of kind names is = ap (λ kind. in_task kind names) is

-- the statement of a block that ends; that of a program is its function
finished_lines : (b about : OpenBlock) (outer : List OpenBlock) (opener : Opener) → b.opener ≡ opener → IsOpenedIn about.kind b.kind opener → EndsRight b →
    AllJoined b.statements → AreConnected (inputs_open (b ∷ about ∷ outer)) (outputs_open (b ∷ about ∷ outer)) (block_listed b.statements) →
    IsGoodOpener (inputs_open (b ∷ about ∷ outer)) (outputs_open (b ∷ about ∷ outer)) b.kind opener →
    AreLines (inputs_open (about ∷ outer)) (outputs_open (about ∷ outer)) (finished_by b.kind b.line opener b.statements)
finished_lines b about outer file is opened right joined connected good = absurd opened
finished_lines b about outer (function name) is opened right joined connected good = record { no_input = refl; no_output = refl; hold = tt; connected = tt }
finished_lines b about outer (statement s) is opened right joined connected good =
    body_lines (inputs_open (b ∷ about ∷ outer)) (outputs_open (b ∷ about ∷ outer)) (inputs_open (about ∷ outer)) (outputs_open (about ∷ outer)) b.kind s b.statements opened.1 joined connected
    (λ task. names_of b.kind (inputs_by b.opener (inputs_in b.statements) (inputs_open (about ∷ outer))) task ∙ ap (λ opener. inputs_by opener (inputs_in b.statements) (inputs_open (about ∷ outer))) is)
    (λ task. names_of b.kind (outputs_by b.opener (outputs_in b.statements) (outputs_open (about ∷ outer))) task ∙ ap (λ opener. outputs_by opener (outputs_in b.statements) (outputs_open (about ∷ outer))) is)
finished_lines b about outer (consumer line from size name element worker) is opened right joined connected good =
    let ins = inputs_open (b ∷ about ∷ outer) in
    let outs = outputs_open (b ∷ about ∷ outer) in
    let own : has_connector (block_listed b.statements) ≡ true → AreConnected (element ∷ inputs_in b.statements) (outputs_in b.statements) (block_listed b.statements) =
    λ has.
    let task = is_task b.kind (sym (right (ap is_consumer is)) ∙ has) in
    let in_same = names_of b.kind (inputs_by b.opener (inputs_in b.statements) (inputs_open (about ∷ outer))) task ∙ ap (λ opener. inputs_by opener (inputs_in b.statements) (inputs_open (about ∷ outer))) is in
    let out_same = names_of b.kind (outputs_by b.opener (outputs_in b.statements) (outputs_open (about ∷ outer))) task ∙ ap (λ opener. outputs_by opener (outputs_in b.statements) (outputs_open (about ∷ outer))) is in
    subst (λ names. AreConnected names (outputs_in b.statements) (block_listed b.statements)) in_same (subst (λ names. AreConnected ins names (block_listed b.statements)) out_same connected) in
    record { no_input = refl; no_output = refl; hold = ((own, listed b.statements joined), tt); connected = (tt, tt) }
finished_lines b about outer (if_block earlier when) is opened right joined connected good =
    let last : Branch = record { line = b.line; when = when; statements = b.statements } in
    let ins = inputs_open (b ∷ about ∷ outer) in
    let outs = outputs_open (b ∷ about ∷ outer) in
    nested_lines ins outs (inputs_open (about ∷ outer)) (outputs_open (about ∷ outer)) b.kind (earlier ++ last ∷ []) [] (some_more earlier last)
    (all-more (IsGoodBranch ins outs b.kind) earlier last good.0 (joined, both_task (SubscriptsInputs ins when) (AreConnected ins outs (block_listed b.statements)) b.kind good.1 (if_task b.kind (λ task. connected)))) tt (if_task b.kind (λ task. tt))
    (λ task. names_of b.kind (inputs_by b.opener (inputs_in b.statements) (inputs_open (about ∷ outer))) task ∙ ap (λ opener. inputs_by opener (inputs_in b.statements) (inputs_open (about ∷ outer))) is)
    (λ task. names_of b.kind (outputs_by b.opener (outputs_in b.statements) (outputs_open (about ∷ outer))) task ∙ ap (λ opener. outputs_by opener (outputs_in b.statements) (outputs_open (about ∷ outer))) is)
finished_lines b about outer (else_block earlier) is opened right joined connected good =
    nested_lines (inputs_open (b ∷ about ∷ outer)) (outputs_open (b ∷ about ∷ outer)) (inputs_open (about ∷ outer)) (outputs_open (about ∷ outer)) b.kind earlier b.statements good.1 good.0 joined (if_task b.kind (λ task. connected))
    (λ task. names_of b.kind (inputs_by b.opener (inputs_in b.statements) (inputs_open (about ∷ outer))) task ∙ ap (λ opener. inputs_by opener (inputs_in b.statements) (inputs_open (about ∷ outer))) is)
    (λ task. names_of b.kind (outputs_by b.opener (outputs_in b.statements) (outputs_open (about ∷ outer))) task ∙ ap (λ opener. outputs_by opener (outputs_in b.statements) (outputs_open (about ∷ outer))) is)

-- ---- in the block about one that ends

abbrev is_task_kind : BlockKind → Type 0
is_task_kind Tasklet = ⊤
is_task_kind kind = ⊥

-- a connector line may come there only where one may come in the block
outer_straight : (b about : OpenBlock) (opener : Opener) (may : Bool) → b.opener ≡ opener → IsOpenedIn about.kind b.kind opener → (may ≡ true → b.kind ≡ Tasklet → IsStraight b.opener) → may ≡ true → about.kind ≡ Tasklet → IsStraight about.opener
outer_straight b about file may is opened straight on task = absurd opened
outer_straight b about (function name) may is opened straight on task = absurd (subst is_task_kind (sym task ∙ opened.0) tt)
outer_straight b about (statement s) may is opened straight on task = absurd (subst IsBody task opened.0)
outer_straight b about (consumer line from size name element worker) may is opened straight on task = absurd (subst IsBody task opened.0)
outer_straight b about (if_block earlier when) may is opened straight on task = absurd (subst IsStraight is (straight on (opened.1 ∙ task)))
outer_straight b about (else_block earlier) may is opened straight on task = absurd (subst IsStraight is (straight on (opened.1 ∙ task)))

left_good : (b about : OpenBlock) (outer : List OpenBlock) (meanings : List (Name × Meaning)) (may : Bool) (given : List StatementTree) (programs : List FunctionTree) → IsOpenedIn about.kind b.kind b.opener →
    IsGoodOf b (about ∷ outer) meanings may given programs → IsGoodOf about outer (take b.before.meanings meanings) may given programs
left_good b about outer meanings may given programs opened good =
    let count = b.before.meanings in
    let few : count ≤ length (take count meanings) = rw (length-take-le count meanings good.outside.0) (omega arith) in
    record {
      blocks = good.blocks.1;
      known = taken_all count (inputs_open (about ∷ outer)) (outputs_open (about ∷ outer)) meanings good.outside.1.0;
      outside = outside_wider count (length (take count meanings)) (take count meanings) about.before.meanings outer few (outside_taken count count meanings about.before.meanings outer good.outside.1.1);
      straight = outer_straight b about b.opener may refl opened good.straight;
      arguments = good.arguments;
      functions = good.functions;
    }

close_good : (outer : List OpenBlock) (context : Context) → context.outer ≡ outer → AreNested context.block outer → EndsRight context.block →
    IsGoodOf context.block outer context.names.meanings context.connects context.arguments context.functions → IsGood (closed_into outer context)
close_good [] context is shape right good = subst (λ outer. IsGoodOf context.block outer context.names.meanings context.connects context.arguments context.functions) (sym is) good
close_good (about ∷ rest) context is shape right good = by_opener context.block.opener refl where
  b : OpenBlock
  b = context.block

  outside : IsGoodOf about rest (take b.before.meanings context.names.meanings) context.connects context.arguments context.functions
  outside = left_good b about rest context.names.meanings context.connects context.arguments context.functions shape.0 good

  lines : AreLines (inputs_open (about ∷ rest)) (outputs_open (about ∷ rest)) (finished b)
  lines = finished_lines b about rest b.opener refl shape.0 right good.blocks.0.0.0 good.blocks.0.0.1 good.blocks.0.1

  now : IsGoodOf (record about { statements = about.statements ++ finished b }) rest (take b.before.meanings context.names.meanings) context.connects context.arguments context.functions
  now = added about rest (take b.before.meanings context.names.meanings) context.connects context.arguments context.functions (finished b) lines outside

  by_opener : (opener : Opener) → b.opener ≡ opener → IsGood (closed_by opener about rest context)
  by_opener file of = now
  by_opener (function name) of =
      plain_more about rest (take b.before.meanings context.names.meanings) context.connects [] _ name (Program_name _) tt
      (record {
        blocks = outside.blocks;
        known = outside.known;
        outside = outside.outside;
        straight = outside.straight;
        arguments = tt;
        functions = all-more (EveryOf IsJoined) context.functions _ good.functions (listed context.arguments good.arguments, listed b.statements good.blocks.0.0.0);
      })
  by_opener (statement s) of = now
  by_opener (consumer line from size name element worker) of = now
  by_opener (if_block earlier when) of = now
  by_opener (else_block earlier) of = now

-- ---- `elif` and `else`

twice : (kind : BlockKind) (names : List Name) → in_task kind (in_task kind names) ≡ in_task kind names
twice Top names = refl
twice Program names = refl
twice Scope names = refl
twice Tasklet names = refl

same_in : (kind about : BlockKind) (names : List Name) → kind ≡ about → in_task kind (in_task about names) ≡ in_task about names
same_in kind about names is = ap (λ kind. in_task kind (in_task about names)) is ∙ twice about names

branches_good : (b : OpenBlock) (ins outs : List Name) (head : HeadTree) (opener : Opener) → b.opener ≡ opener → goes_on (Form head) opener ≡ true →
    IsGoodOpener (in_task b.kind (inputs_by b.opener (inputs_in b.statements) ins)) (in_task b.kind (outputs_by b.opener (outputs_in b.statements) outs)) b.kind opener → AllJoined b.statements →
    AreConnected (in_task b.kind (inputs_by b.opener (inputs_in b.statements) ins)) (in_task b.kind (outputs_by b.opener (outputs_in b.statements) outs)) (block_listed b.statements) →
    AllByRecursion (IsGoodBranch (in_task b.kind ins) (in_task b.kind outs) b.kind) (branches_of b.line b.statements opener) × IsSome (branches_of b.line b.statements opener)
branches_good b ins outs head file is on good joined connected = false_is_not_true on
branches_good b ins outs head (function name) is on good joined connected = false_is_not_true on
branches_good b ins outs head (statement s) is on good joined connected = false_is_not_true on
branches_good b ins outs head (consumer line from size name element worker) is on good joined connected = false_is_not_true on
branches_good b ins outs head (if_block earlier when) is on good joined connected =
    let last : Branch = record { line = b.line; when = when; statements = b.statements } in
    let own = in_task b.kind (inputs_by b.opener (inputs_in b.statements) ins) in
    let own' = in_task b.kind (outputs_by b.opener (outputs_in b.statements) outs) in
    let in_same : own ≡ in_task b.kind ins = ap (λ opener. in_task b.kind (inputs_by opener (inputs_in b.statements) ins)) is in
    let out_same : own' ≡ in_task b.kind outs = ap (λ opener. in_task b.kind (outputs_by opener (outputs_in b.statements) outs)) is in
    let all : AllByRecursion (IsGoodBranch own own' b.kind) (earlier ++ last ∷ []) =
    all-more (IsGoodBranch own own' b.kind) earlier last good.0 (joined, both_task (SubscriptsInputs own when) (AreConnected own own' (block_listed b.statements)) b.kind good.1 (if_task b.kind (λ task. connected))) in (
      subst (λ names. AllByRecursion (IsGoodBranch names (in_task b.kind outs) b.kind) (earlier ++ last ∷ [])) in_same (subst (λ names. AllByRecursion (IsGoodBranch own names b.kind) (earlier ++ last ∷ [])) out_same all),
      some_more earlier last,
    )
branches_good b ins outs head (else_block earlier) is on good joined connected = false_is_not_true on

go_on_good : (context : Context) (counts : Counts) (about : OpenBlock) (outer : List OpenBlock) (line : ℕ) (head : HeadTree) → context.outer ≡ about ∷ outer → goes_on (Form head) context.block.opener ≡ true →
    IsAccepted (behind_branch context counts about outer) head → IsWellNested context → IsGood context → IsGood (behind_other context counts about outer line head)
go_on_good context counts about outer line head is on accepted' shape good = by_head head on accepted' where
  b : OpenBlock
  b = context.block

  there : Context
  there = behind_branch context counts about outer

  opened : IsOpenedIn about.kind b.kind b.opener
  opened = (subst (AreNested b) is shape).0

  good' : IsGoodOf b (about ∷ outer) context.names.meanings context.connects context.arguments context.functions
  good' = subst (λ outer. IsGoodOf b outer context.names.meanings context.connects context.arguments context.functions) is good

  now : IsGoodOf about outer there.names.meanings context.connects context.arguments context.functions
  now = left_good b about outer context.names.meanings context.connects context.arguments context.functions opened good'

  ins : List Name
  ins = inputs_open (about ∷ outer)

  outs : List Name
  outs = outputs_open (about ∷ outer)

  branches : List Branch
  branches = branches_of b.line b.statements b.opener

  all : (head : HeadTree) → goes_on (Form head) b.opener ≡ true → AllByRecursion (IsGoodBranch (in_task b.kind ins) (in_task b.kind outs) b.kind) branches × IsSome branches
  all head on = branches_good b ins outs head b.opener refl on good'.blocks.0.1 good'.blocks.0.0.0 good'.blocks.0.0.1

  known : (kind : b.kind ≡ about.kind) → AreOf (in_task b.kind ins) (in_task b.kind outs) there.names.meanings
  known kind =
      subst (λ names. AreOf names (in_task b.kind outs) there.names.meanings) (sym (same_in b.kind about.kind (inputs_by about.opener (inputs_in about.statements) (inputs_open outer)) kind))
      (subst (λ names. AreOf ins names there.names.meanings) (sym (same_in b.kind about.kind (outputs_by about.opener (outputs_in about.statements) (outputs_open outer)) kind)) now.known)

  when_good : (when : Expression) → b.kind ≡ about.kind → IsAccepted there (elif_head when) → IfTask b.kind (SubscriptsInputs (in_task b.kind ins) when)
  when_good when kind accepted' =
      if_task b.kind
      (λ task. use_known there.names (in_task b.kind ins) (λ name is. input_among (in_task b.kind ins) (in_task b.kind outs) there.names.meanings name (known kind) is) when
      (subst (λ kind. list_any (is_unknown_use there.names) (condition kind when ∷ []) ≡ false) (sym kind ∙ task) (unknown_uses there.names (site_of there) (elif_head when) (passes there.names (site_of there) (elif_head when) accepted'))))

  by_head : (head : HeadTree) → goes_on (Form head) b.opener ≡ true → IsAccepted there head → IsGood (behind_other context counts about outer line head)
  by_head import_line on accepted' = false_is_not_true (goes_on_is import_line b.opener on)
  by_head (symbol_line name quoted) on accepted' = false_is_not_true (goes_on_is (symbol_line name quoted) b.opener on)
  by_head program_decorator on accepted' = false_is_not_true (goes_on_is program_decorator b.opener on)
  by_head (program_head name arguments) on accepted' = false_is_not_true (goes_on_is (program_head name arguments) b.opener on)
  by_head (statement_head s) on accepted' = false_is_not_true (goes_on_is (statement_head s) b.opener on)
  by_head (reduce_head lambda from to axis identity) on accepted' = false_is_not_true (goes_on_is (reduce_head lambda from to axis identity) b.opener on)
  by_head (input_head connector memlet) on accepted' = false_is_not_true (goes_on_is (input_head connector memlet) b.opener on)
  by_head (output_head connector memlet) on accepted' = false_is_not_true (goes_on_is (output_head connector memlet) b.opener on)
  by_head (consume_decorator from size) on accepted' = false_is_not_true (goes_on_is (consume_decorator from size) b.opener on)
  by_head (consume_head name element worker) on accepted' = false_is_not_true (goes_on_is (consume_head name element worker) b.opener on)
  by_head (elif_head when) on accepted' =
      let kind = (same_kind (elif_head when) about.kind b.kind b.opener on opened).1 in
      opens about outer there.names.meanings context.connects context.arguments context.functions now (length there.names.containers) (if_block branches when) b.kind line (about.depth + 0) false
      ((all (elif_head when) on).0, when_good when kind accepted') (known kind) (λ may task. false_is_not_true may)
  by_head else_head on accepted' =
      let kind = (same_kind else_head about.kind b.kind b.opener on opened).1 in
      opens about outer there.names.meanings context.connects context.arguments context.functions now (length there.names.containers) (else_block branches) b.kind line (about.depth + 0) false
      (all else_head on) (known kind) (λ may task. false_is_not_true may)

pub good_is_kept : Keeps IsGood
good_is_kept = record {
  begin = record { blocks = (((tt, tt), tt), tt); known = tt; outside = tt; straight = λ may task. tt; arguments = tt; functions = tt };
  pass = λ context line scoped head fit due accepted' shape good. pass_good context line scoped head fit accepted' good;
  argument = λ context line scoped at name bits extents few begun accepted' shape good. argument_good context (argument_array at name bits extents) tt good;
  close = λ context counts free counted' right shape good. close_good context.outer (record context { counts = counts }) refl shape right good;
  go_on = λ context counts about outer line head free is on counted' fit accepted' shape good. go_on_good context counts about outer line head is on accepted' shape good;
}
