-- Each end of a block keeps what is known of connectors; so the tasklets of a program that was read are counted.
use Rattle.std.proofs.Common.{◌≡◌, ◌∙◌, ◌≤◌, ℕ, ◌+◌, List, [], ◌∷◌, ◌++◌, length, take, Bool, true, false, refl, ap, sym, subst, arith}
use Rattle.std.specs.Bool.{⊤}
use Rattle.std.specs.List.{AllByRecursion, list_any}
use Rattle.sd_lex.specs.PlainTree.{Expression, StatementTree, map_scope, tasklet, for_loop, while_loop}
use Rattle.sd_lex.specs.StatementKind.{has_connector}
use Rattle.sd_lex.specs.TreeFold.{block_listed}
use Rattle.sd_phrase.specs.declared.reading.Reading.TheVariants.{Form}
use Rattle.sd_line.specs.declared.line.head.BlockKind.{BlockKind}
use Rattle.sd_line.specs.declared.line.head.BlockKind.TheVariants.{Top, Program, Scope, Tasklet}
use Rattle.sd_line.specs.line.Head.{HeadTree, import_line, symbol_line, program_decorator, program_head, statement_head, reduce_head, input_head, output_head, consume_decorator, consume_head, elif_head, else_head}
use Rattle.sd_names.specs.declared.meaning.Meaning.{Meaning}
use Rattle.sd_names.specs.declared.meaning.Meaning.TheVariants.{Program as Program_name}
use Rattle.sd_names.specs.Names.{Name, put}
use Rattle.sd_refusal.specs.OverLimit.{is_tasklet}
use Rattle.sd_uses.specs.Uses.{condition}
use Rattle.sd_uses.specs.UnknownName.{is_unknown_use}
use Rattle.sd_refusal.specs.NotAForm.{misuses}
use Rattle.sd_refusal.specs.declared.site.Counts.{Counts as Counted}
use Rattle.sd_context.specs.context.Context.{Branch, Opener, file, function, statement, consumer, if_block, else_block, OpenBlock, Context, site_of}
use Rattle.sd_context.specs.blocks.Closing.{nested, with_body, finished_by, finished, keeps_containers, names_outside, closed_by, closed_into}
use Rattle.sd_context.specs.blocks.Continuing.{goes_on, branches_of}
use Rattle.sd_program.specs.Every.{EveryIn}
use Rattle.sd_program.specs.Names.{Named, in_force}
use Rattle.sd_read.proofs.readable_lemmas.kept.Ahead.{is_consumer, EndsRight}
use Rattle.sd_read.proofs.readable_lemmas.kept.Heads.{Opens, IsBody, IsOpenedIn, AreNested}
use Rattle.sd_read.proofs.readable_lemmas.kept.Nesting.{same_kind, top_is_file}
use Rattle.sd_read.proofs.readable_lemmas.kept.Passing.{passes, false_is_not_true}
use Rattle.sd_read.proofs.readable_lemmas.kept.Steps.{goes_on_is, IsWellNested, IsAccepted, Keeps, behind_branch, behind_other}
use Rattle.sd_read.proofs.readable_lemmas.kept.Trees.{all-more}
use Rattle.sd_made_valid.specs.tasks.Counted.{CountsInputs, AreCounted}
use Rattle.sd_made_valid.specs.read_dimensions.Counts.{AreNoted, IsTask, Counts, CountsOf}
use Rattle.sd_made_valid.proofs.read_dimensions_lemmas.Connectors.{inputs_in, outputs_in}
use Rattle.sd_made_valid.proofs.read_dimensions_lemmas.Meanings.{AreTied, IsPlain, plain_tied, longer}
use Rattle.sd_made_valid.proofs.read_dimensions_lemmas.Accepted.{use_counted}
use Rattle.sd_made_valid.proofs.read_dimensions_lemmas.Stack.{in_task, inputs_by, outputs_by, IfTask, IsSome, IsStraight, Unless, inputs_open, outputs_open, AllCount, IsGoodBranch, IsGoodOpener, IsGoodBlock, Outside, IsStack, IsGoodBy, IsGood, file_stack}
use Rattle.sd_made_valid.proofs.read_dimensions_lemmas.Kept.{begun, AreLines, added, opens, whole_taken}
use Rattle.sd_made_valid.proofs.read_dimensions_lemmas.Held.{none_held, held_outside}
use Rattle.sd_made_valid.proofs.read_dimensions_lemmas.Adding.{unknown_uses, wrong_uses}
use Rattle.sd_made_valid.proofs.read_dimensions_lemmas.Lines.{argument_good, pass_good}

-- ---- statements of blocks that end

some_more : (branches : List Branch) (b : Branch) → IsSome (branches ++ b ∷ [])
some_more [] b = tt
some_more (first ∷ rest) b = tt

is_task : (kind : BlockKind) → is_tasklet kind ≡ true → kind ≡ Tasklet
is_task Top is = false_is_not_true is
is_task Program is = false_is_not_true is
is_task Scope is = false_is_not_true is
is_task Tasklet is = refl

if_task : {P : Type 0} (kind : BlockKind) → (kind ≡ Tasklet → P) → IfTask kind P
if_task Top holds = tt
if_task Program holds = tt
if_task Scope holds = tt
if_task Tasklet holds = holds refl

both_task : (P Q : Type 0) (kind : BlockKind) → IfTask kind P → IfTask kind Q → IfTask kind (P × Q)
both_task P Q Top first second = tt
both_task P Q Program first second = tt
both_task P Q Scope first second = tt
both_task P Q Tasklet first second = (first, second)

names_of : (kind : BlockKind) (connectors : Named ℕ) → kind ≡ Tasklet → in_task kind connectors ≡ connectors
names_of kind connectors is = ap (λ kind. in_task kind connectors) is

module _ (wholes : Named ℕ) where
  pub listed : (statements : List StatementTree) → AllCount wholes statements → EveryIn (Counts wholes) (block_listed statements)
  listed [] all = tt
  listed (first ∷ rest) all = (all.0, listed rest all.1)

  nest : (ins outs : Named ℕ) (kind : BlockKind) (branches : List Branch) (other : List StatementTree) → AllByRecursion (IsGoodBranch wholes ins outs kind) branches → AllCount wholes other → IfTask kind (AreCounted ins outs (block_listed other)) →
      AllCount wholes (nested kind branches other) × IfTask kind (AreCounted ins outs (block_listed (nested kind branches other)))
  nest ins outs kind [] other all counts counted = (counts, counted)
  nest ins outs Top (b ∷ branches) other all counts counted =
      let inner = nest ins outs Top branches other all.1 counts counted in
      (((tt, (listed b.statements all.0.0, listed (nested Top branches other) inner.0)), tt), tt)
  nest ins outs Program (b ∷ branches) other all counts counted =
      let inner = nest ins outs Program branches other all.1 counts counted in
      (((tt, (listed b.statements all.0.0, listed (nested Program branches other) inner.0)), tt), tt)
  nest ins outs Scope (b ∷ branches) other all counts counted =
      let inner = nest ins outs Scope branches other all.1 counts counted in
      (((tt, (listed b.statements all.0.0, listed (nested Scope branches other) inner.0)), tt), tt)
  nest ins outs Tasklet (b ∷ branches) other all counts counted =
      let inner = nest ins outs Tasklet branches other all.1 counts counted in
      (((tt, (listed b.statements all.0.0, listed (nested Tasklet branches other) inner.0)), tt), ((all.0.1.0, (all.0.1.1, inner.1)), tt))

  -- the statement that branches make, in a block with these connectors, which are those of the branches where it is a tasklet
  nested_lines : (ins outs about_ins about_outs : Named ℕ) (kind : BlockKind) (branches : List Branch) (other : List StatementTree) → IsSome branches → AllByRecursion (IsGoodBranch wholes ins outs kind) branches → AllCount wholes other →
      IfTask kind (AreCounted ins outs (block_listed other)) → (kind ≡ Tasklet → ins ≡ about_ins) → (kind ≡ Tasklet → outs ≡ about_outs) → AreLines wholes about_ins about_outs (nested kind branches other)
  nested_lines ins outs about_ins about_outs kind [] other some all counts counted in_same out_same = absurd some
  nested_lines ins outs about_ins about_outs Top (b ∷ branches) other some all counts counted in_same out_same =
      record { no_input = λ known. refl; no_output = λ known. refl; hold = (nest ins outs Top (b ∷ branches) other all counts counted).0; noted = (tt, tt); counted = (tt, tt) }
  nested_lines ins outs about_ins about_outs Program (b ∷ branches) other some all counts counted in_same out_same =
      record { no_input = λ known. refl; no_output = λ known. refl; hold = (nest ins outs Program (b ∷ branches) other all counts counted).0; noted = (tt, tt); counted = (tt, tt) }
  nested_lines ins outs about_ins about_outs Scope (b ∷ branches) other some all counts counted in_same out_same =
      record { no_input = λ known. refl; no_output = λ known. refl; hold = (nest ins outs Scope (b ∷ branches) other all counts counted).0; noted = (tt, tt); counted = (tt, tt) }
  nested_lines ins outs about_ins about_outs Tasklet (b ∷ branches) other some all counts counted in_same out_same =
      let whole = nested Tasklet (b ∷ branches) other in
      let inner = nest ins outs Tasklet (b ∷ branches) other all counts counted in
      record {
        no_input = λ known. refl;
        no_output = λ known. refl;
        hold = inner.0;
        noted = (tt, tt);
        counted = subst (λ ins. AreCounted ins about_outs (block_listed whole)) (in_same refl) (subst (λ outs. AreCounted ins outs (block_listed whole)) (out_same refl) inner.1);
      }

  -- that of a map, a tasklet or a loop
  body_lines : (ins outs about_ins about_outs : Named ℕ) (kind : BlockKind) (s : StatementTree) (statements : List StatementTree) → Opens kind s → AllCount wholes statements → AreNoted wholes (block_listed statements) → AreCounted ins outs (block_listed statements) →
      (kind ≡ Tasklet → ins ≡ inputs_in wholes statements []) → (kind ≡ Tasklet → outs ≡ outputs_in wholes statements []) → AreLines wholes about_ins about_outs (with_body s (block_listed statements) ∷ [])
  body_lines ins outs about_ins about_outs kind (map_scope line parameters ranges empty) statements opened counts noted counted in_same out_same =
      record { no_input = λ known. refl; no_output = λ known. refl; hold = ((tt, listed statements counts), tt); noted = (tt, tt); counted = (tt, tt) }
  body_lines ins outs about_ins about_outs kind (tasklet line empty) statements opened counts noted counted in_same out_same =
      let own : AreCounted (inputs_in wholes statements []) (outputs_in wholes statements []) (block_listed statements) =
      subst (λ ins. AreCounted ins (outputs_in wholes statements []) (block_listed statements)) (in_same opened) (subst (λ outs. AreCounted ins outs (block_listed statements)) (out_same opened) counted) in
      record { no_input = λ known. refl; no_output = λ known. refl; hold = (((noted, own), listed statements counts), tt); noted = (tt, tt); counted = (tt, tt) }
  body_lines ins outs about_ins about_outs kind (for_loop line name begin end step empty) statements opened counts noted counted in_same out_same =
      record { no_input = λ known. refl; no_output = λ known. refl; hold = ((tt, listed statements counts), tt); noted = (tt, tt); counted = (tt, tt) }
  body_lines ins outs about_ins about_outs kind (while_loop line when empty) statements opened counts noted counted in_same out_same =
      record { no_input = λ known. refl; no_output = λ known. refl; hold = ((tt, listed statements counts), tt); noted = (tt, tt); counted = (tt, tt) }
  body_lines ins outs about_ins about_outs kind s statements opened counts noted counted in_same out_same = absurd opened

  -- the connectors of a block that is a tasklet, by its opener
  own_inputs : (b : OpenBlock) (opener : Opener) → b.opener ≡ opener → (outside : Named ℕ) → b.kind ≡ Tasklet → in_task b.kind (inputs_by b.opener (inputs_in wholes b.statements) outside) ≡ inputs_by opener (inputs_in wholes b.statements) outside
  own_inputs b opener is outside task = names_of b.kind (inputs_by b.opener (inputs_in wholes b.statements) outside) task ∙ ap (λ opener. inputs_by opener (inputs_in wholes b.statements) outside) is

  own_outputs : (b : OpenBlock) (opener : Opener) → b.opener ≡ opener → (outside : Named ℕ) → b.kind ≡ Tasklet → in_task b.kind (outputs_by b.opener (outputs_in wholes b.statements) outside) ≡ outputs_by opener (outputs_in wholes b.statements) outside
  own_outputs b opener is outside task = names_of b.kind (outputs_by b.opener (outputs_in wholes b.statements) outside) task ∙ ap (λ opener. outputs_by opener (outputs_in wholes b.statements) outside) is

  -- the statement of a block that ends; that of a program is its function
  finished_lines : (b about : OpenBlock) (outer : List OpenBlock) (opener : Opener) → b.opener ≡ opener → IsOpenedIn about.kind b.kind opener → EndsRight b →
      Unless opener (IsGoodBlock wholes (inputs_open wholes (b ∷ about ∷ outer)) (outputs_open wholes (b ∷ about ∷ outer)) b.kind opener b.statements) →
      AreLines wholes (inputs_open wholes (about ∷ outer)) (outputs_open wholes (about ∷ outer)) (finished_by b.kind b.line opener b.statements)
  finished_lines b about outer file is opened right good = absurd opened
  finished_lines b about outer (function name) is opened right good = record { no_input = λ known. refl; no_output = λ known. refl; hold = tt; noted = tt; counted = tt }
  finished_lines b about outer (statement s) is opened right good =
      body_lines (inputs_open wholes (b ∷ about ∷ outer)) (outputs_open wholes (b ∷ about ∷ outer)) (inputs_open wholes (about ∷ outer)) (outputs_open wholes (about ∷ outer)) b.kind s b.statements opened.1 good.0.0 good.0.1.0 good.0.1.1
      (own_inputs b (statement s) is (inputs_open wholes (about ∷ outer))) (own_outputs b (statement s) is (outputs_open wholes (about ∷ outer)))
  finished_lines b about outer (consumer line from size name element worker) is opened right good =
      let opener : Opener = consumer line from size name element worker in
      let ins = inputs_open wholes (b ∷ about ∷ outer) in
      let body = block_listed b.statements in
      let own : has_connector body ≡ true → IsTask wholes ((element, 0) ∷ []) body =
      λ has.
      let task = is_task b.kind (sym (right (ap is_consumer is)) ∙ has) in
      let in_same = own_inputs b opener is (inputs_open wholes (about ∷ outer)) task in
      let out_same = own_outputs b opener is (outputs_open wholes (about ∷ outer)) task in
      (good.0.1.0, subst (λ ins. AreCounted ins (outputs_in wholes b.statements []) body) in_same (subst (λ outs. AreCounted ins outs body) out_same good.0.1.1)) in
      record {
        no_input = λ known. refl;
        no_output = λ known. refl;
        hold = (((own, λ none. good.1 (sym (right (ap is_consumer is)) ∙ none)), listed b.statements good.0.0), tt);
        noted = (tt, tt);
        counted = (tt, tt);
      }
  finished_lines b about outer (if_block earlier when) is opened right good =
      let last : Branch = record { line = b.line; when = when; statements = b.statements } in
      let ins = inputs_open wholes (b ∷ about ∷ outer) in
      let outs = outputs_open wholes (b ∷ about ∷ outer) in
      nested_lines ins outs (inputs_open wholes (about ∷ outer)) (outputs_open wholes (about ∷ outer)) b.kind (earlier ++ last ∷ []) [] (some_more earlier last)
      (all-more (IsGoodBranch wholes ins outs b.kind) earlier last good.1.0 (good.0.0, both_task (CountsInputs ins when) (AreCounted ins outs (block_listed b.statements)) b.kind good.1.1 (if_task b.kind (λ task. good.0.1.1)))) tt (if_task b.kind (λ task. tt))
      (own_inputs b (if_block earlier when) is (inputs_open wholes (about ∷ outer))) (own_outputs b (if_block earlier when) is (outputs_open wholes (about ∷ outer)))
  finished_lines b about outer (else_block earlier) is opened right good =
      nested_lines (inputs_open wholes (b ∷ about ∷ outer)) (outputs_open wholes (b ∷ about ∷ outer)) (inputs_open wholes (about ∷ outer)) (outputs_open wholes (about ∷ outer)) b.kind earlier b.statements good.1.1 good.1.0 good.0.0 (if_task b.kind (λ task. good.0.1.1))
      (own_inputs b (else_block earlier) is (inputs_open wholes (about ∷ outer))) (own_outputs b (else_block earlier) is (outputs_open wholes (about ∷ outer)))

  -- ---- in the block about one that ends

  abbrev is_task_kind : BlockKind → Type 0
  is_task_kind Tasklet = ⊤
  is_task_kind kind = ⊥

  -- a connector line may come there only where one may come in the block
  never_outside : (b about : OpenBlock) (opener : Opener) (may : Bool) → b.opener ≡ opener → IsOpenedIn about.kind b.kind opener → (may ≡ true → b.kind ≡ Tasklet → IsStraight b.opener) → may ≡ true → about.kind ≡ Tasklet → ⊥
  never_outside b about file may is opened straight on task = opened
  never_outside b about (function name) may is opened straight on task = subst is_task_kind (sym task ∙ opened.0) tt
  never_outside b about (statement s) may is opened straight on task = subst IsBody task opened.0
  never_outside b about (consumer line from size name element worker) may is opened straight on task = subst IsBody task opened.0
  never_outside b about (if_block earlier when) may is opened straight on task = subst IsStraight is (straight on (opened.1 ∙ task))
  never_outside b about (else_block earlier) may is opened straight on task = subst IsStraight is (straight on (opened.1 ∙ task))

  outer_never : (b about : OpenBlock) (outer : List OpenBlock) (meanings : List (Name × Meaning)) (may : Bool) → IsOpenedIn about.kind b.kind b.opener → IsStack wholes b (about ∷ outer) meanings may → may ≡ true → about.kind ≡ Tasklet → ⊥
  outer_never b about outer meanings may opened good = never_outside b about b.opener may refl opened (λ on task. (good.straight on task).0)

  left_stack : (b about : OpenBlock) (outer : List OpenBlock) (meanings : List (Name × Meaning)) (may : Bool) → IsOpenedIn about.kind b.kind b.opener → IsStack wholes b (about ∷ outer) meanings may → IsStack wholes about outer (take b.before.meanings meanings) may
  left_stack b about outer meanings may opened good = record {
    blocks = good.blocks.1;
    tied = good.outside.1.0;
    outside = good.outside.1.1;
    straight = λ on task. absurd (outer_never b about outer meanings may opened good on task);
  }

-- ---- a program ends

-- the file has another name in force
tied_file : (meanings : List (Name × Meaning)) (ins outs : Named ℕ) (name : Name) (meaning : Meaning) → IsPlain meaning → ins ≡ [] → outs ≡ [] → AreTied meanings ins outs → AreTied (put meanings name meaning) ins outs
tied_file meanings ins outs name meaning plain no_ins no_outs tied =
    plain_tied meanings ins outs name meaning plain (ap (λ ins. in_force ins name) no_ins, ap (λ outs. in_force outs name) no_outs) tied

outside_file : (meanings after : List (Name × Meaning)) (before : ℕ) (rest : List OpenBlock) → rest ≡ [] → length meanings ≤ length after → Outside [] meanings before rest → Outside [] after before rest
outside_file meanings after before [] none more outside = omega (arith, more, outside)
outside_file meanings after before (about ∷ rest) none more outside = cc

-- ---- ends of blocks

close_good : (outer : List OpenBlock) (context : Context) → context.outer ≡ outer → AreNested context.block outer → EndsRight context.block → (wholes : Named ℕ) → IsGoodBy wholes context.block outer context.names context.connects context.arguments →
    AllByRecursion CountsOf context.functions → IsGood (closed_into outer context)
close_good [] context is shape right wholes good functions = ((wholes, subst (λ outer. IsGoodBy wholes context.block outer context.names context.connects context.arguments) (sym is) good), functions)
close_good (about ∷ rest) context is shape right wholes good functions = by_opener context.block.opener refl where
  b : OpenBlock
  b = context.block

  before : List (Name × Meaning)
  before = take b.before.meanings context.names.meanings

  outside : IsStack wholes about rest before context.connects
  outside = left_stack wholes b about rest context.names.meanings context.connects shape.0 good.stack

  lines : AreLines wholes (inputs_open wholes (about ∷ rest)) (outputs_open wholes (about ∷ rest)) (finished b)
  lines = finished_lines wholes b about rest b.opener refl shape.0 right good.stack.blocks.0

  now : IsGood (record context { names = names_outside b context.names; block = record about { statements = about.statements ++ finished b }; outer = rest })
  now = (
    (
      wholes,
      record {
        stack = added wholes about rest before context.connects context.connects (finished b) (outer_never wholes b about rest context.names.meanings context.connects shape.0 good.stack) lines outside;
        held = held_outside wholes context.names.containers context.names.declared (keeps_containers b.opener) b.before.containers good.held;
        arguments = good.arguments;
      },
    ),
    functions,
  )

  by_opener : (opener : Opener) → b.opener ≡ opener → IsGood (closed_by opener about rest context)
  by_opener file of = now
  by_opener (function name) of =
      let opened : IsOpenedIn about.kind b.kind (function name) = subst (IsOpenedIn about.kind b.kind) of shape.0 in
      let none = top_is_file about rest shape.1 opened.0 in
      let about_file : IsStack [] about rest before context.connects = file_stack wholes [] about rest before context.connects opened.0 none (subst (AreNested about) none shape.1).1 outside in
      let own : IsGoodBlock wholes (inputs_open wholes (b ∷ about ∷ rest)) (outputs_open wholes (b ∷ about ∷ rest)) b.kind (function name) b.statements =
      subst (λ opener. Unless opener (IsGoodBlock wholes (inputs_open wholes (b ∷ about ∷ rest)) (outputs_open wholes (b ∷ about ∷ rest)) b.kind opener b.statements)) of good.stack.blocks.0 in
      let no_names : (in_task about.kind (inputs_by about.opener (inputs_in [] about.statements) (inputs_open [] rest)) ≡ []) × (in_task about.kind (outputs_by about.opener (outputs_in [] about.statements) (outputs_open [] rest)) ≡ []) =
      (ap (λ kind. in_task kind (inputs_by about.opener (inputs_in [] about.statements) (inputs_open [] rest))) opened.0, ap (λ kind. in_task kind (outputs_by about.opener (outputs_in [] about.statements) (outputs_open [] rest))) opened.0) in (
        (
          [],
          record {
            stack = record {
              blocks = about_file.blocks;
              tied = tied_file before (inputs_open [] (about ∷ rest)) (outputs_open [] (about ∷ rest)) name (Program_name _) tt no_names.0 no_names.1 about_file.tied;
              outside = outside_file before (put before name (Program_name _)) about.before.meanings rest none (longer before name (Program_name _)) about_file.outside;
              straight = λ on task. absurd (outer_never wholes b about rest context.names.meanings context.connects shape.0 good.stack on task);
            };
            held = none_held;
            arguments = tt;
          },
        ),
        all-more CountsOf context.functions _ functions (wholes, (listed wholes context.arguments good.arguments, listed wholes b.statements own.0.0)),
      )
  by_opener (statement s) of = now
  by_opener (consumer line from size name element worker) of = now
  by_opener (if_block earlier when) of = now
  by_opener (else_block earlier) of = now

-- ---- `elif` and `else`

twice : (kind : BlockKind) (connectors : Named ℕ) → in_task kind (in_task kind connectors) ≡ in_task kind connectors
twice Top connectors = refl
twice Program connectors = refl
twice Scope connectors = refl
twice Tasklet connectors = refl

same_in : (kind about : BlockKind) (connectors : Named ℕ) → kind ≡ about → in_task kind (in_task about connectors) ≡ in_task about connectors
same_in kind about connectors is = ap (λ kind. in_task kind (in_task about connectors)) is ∙ twice about connectors

branches_good : (wholes : Named ℕ) (b : OpenBlock) (ins outs : Named ℕ) (head : HeadTree) (opener : Opener) → b.opener ≡ opener → goes_on (Form head) opener ≡ true →
    Unless opener (IsGoodBlock wholes (in_task b.kind (inputs_by b.opener (inputs_in wholes b.statements) ins)) (in_task b.kind (outputs_by b.opener (outputs_in wholes b.statements) outs)) b.kind opener b.statements) →
    AllByRecursion (IsGoodBranch wholes (in_task b.kind ins) (in_task b.kind outs) b.kind) (branches_of b.line b.statements opener) × IsSome (branches_of b.line b.statements opener)
branches_good wholes b ins outs head file is on good = false_is_not_true on
branches_good wholes b ins outs head (function name) is on good = false_is_not_true on
branches_good wholes b ins outs head (statement s) is on good = false_is_not_true on
branches_good wholes b ins outs head (consumer line from size name element worker) is on good = false_is_not_true on
branches_good wholes b ins outs head (if_block earlier when) is on good =
    let last : Branch = record { line = b.line; when = when; statements = b.statements } in
    let own = in_task b.kind (inputs_by b.opener (inputs_in wholes b.statements) ins) in
    let own' = in_task b.kind (outputs_by b.opener (outputs_in wholes b.statements) outs) in
    let in_same : own ≡ in_task b.kind ins = ap (λ opener. in_task b.kind (inputs_by opener (inputs_in wholes b.statements) ins)) is in
    let out_same : own' ≡ in_task b.kind outs = ap (λ opener. in_task b.kind (outputs_by opener (outputs_in wholes b.statements) outs)) is in
    let all : AllByRecursion (IsGoodBranch wholes own own' b.kind) (earlier ++ last ∷ []) =
    all-more (IsGoodBranch wholes own own' b.kind) earlier last good.1.0 (good.0.0, both_task (CountsInputs own when) (AreCounted own own' (block_listed b.statements)) b.kind good.1.1 (if_task b.kind (λ task. good.0.1.1))) in (
      subst (λ ins. AllByRecursion (IsGoodBranch wholes ins (in_task b.kind outs) b.kind) (earlier ++ last ∷ [])) in_same (subst (λ outs. AllByRecursion (IsGoodBranch wholes own outs b.kind) (earlier ++ last ∷ [])) out_same all),
      some_more earlier last,
    )
branches_good wholes b ins outs head (else_block earlier) is on good = false_is_not_true on

go_on_good : (context : Context) (counts : Counted) (about : OpenBlock) (outer : List OpenBlock) (line : ℕ) (head : HeadTree) → context.outer ≡ about ∷ outer → goes_on (Form head) context.block.opener ≡ true →
    IsAccepted (behind_branch context counts about outer) head → IsWellNested context → IsGood context → IsGood (behind_other context counts about outer line head)
go_on_good context counts about outer line head is on accepted' shape ((wholes, good), functions) = by_head head on accepted' where
  b : OpenBlock
  b = context.block

  there : Context
  there = behind_branch context counts about outer

  opened : IsOpenedIn about.kind b.kind b.opener
  opened = (subst (AreNested b) is shape).0

  before : IsStack wholes b (about ∷ outer) context.names.meanings context.connects
  before = subst (λ outer. IsStack wholes b outer context.names.meanings context.connects) is good.stack

  now : IsStack wholes about outer there.names.meanings context.connects
  now = left_stack wholes b about outer context.names.meanings context.connects opened before

  ins : Named ℕ
  ins = inputs_open wholes (about ∷ outer)

  outs : Named ℕ
  outs = outputs_open wholes (about ∷ outer)

  branches : List Branch
  branches = branches_of b.line b.statements b.opener

  all : (head : HeadTree) → goes_on (Form head) b.opener ≡ true → AllByRecursion (IsGoodBranch wholes (in_task b.kind ins) (in_task b.kind outs) b.kind) branches × IsSome branches
  all head on = branches_good wholes b ins outs head b.opener refl on before.blocks.0

  tied : (kind : b.kind ≡ about.kind) → AreTied there.names.meanings (in_task b.kind ins) (in_task b.kind outs)
  tied kind =
      subst (λ ins. AreTied there.names.meanings ins (in_task b.kind outs)) (sym (same_in b.kind about.kind (inputs_by about.opener (inputs_in wholes about.statements) (inputs_open wholes outer)) kind))
      (subst (λ outs'. AreTied there.names.meanings ins outs') (sym (same_in b.kind about.kind (outputs_by about.opener (outputs_in wholes about.statements) (outputs_open wholes outer)) kind)) now.tied)

  when_good : (when : Expression) → b.kind ≡ about.kind → IsAccepted there (elif_head when) → IfTask b.kind (CountsInputs (in_task b.kind ins) when)
  when_good when kind accepted' =
      if_task b.kind
      (λ task.
      let passed = passes there.names (site_of there) (elif_head when) accepted' in
      use_counted there.names (in_task b.kind ins) (in_task b.kind outs) (tied kind) when
      (subst (λ kind. list_any (is_unknown_use there.names) (condition kind when ∷ []) ≡ false) (sym kind ∙ task) (unknown_uses there.names (site_of there) (elif_head when) passed))
      (subst (λ kind. list_any (misuses there.names) (condition kind when ∷ []) ≡ false) (sym kind ∙ task) (wrong_uses there.names (site_of there) (elif_head when) passed)))

  behind_with : (opener : Opener) → IsGoodOpener wholes (inputs_open wholes (begun (length there.names.containers) opener b.kind line (about.depth + 0) (length there.names.meanings) ∷ about ∷ outer))
      (outputs_open wholes (begun (length there.names.containers) opener b.kind line (about.depth + 0) (length there.names.meanings) ∷ about ∷ outer)) b.kind opener →
      AreTied there.names.meanings (inputs_open wholes (begun (length there.names.containers) opener b.kind line (about.depth + 0) (length there.names.meanings) ∷ about ∷ outer))
      (outputs_open wholes (begun (length there.names.containers) opener b.kind line (about.depth + 0) (length there.names.meanings) ∷ about ∷ outer)) →
      IsGoodBy wholes (begun (length there.names.containers) opener b.kind line (about.depth + 0) (length there.names.meanings)) (about ∷ outer) there.names false context.arguments
  behind_with opener right tied = record {
    stack = opens wholes about outer there.names.meanings there.names.meanings context.connects false now (omega arith) (whole_taken wholes there.names.meanings) (length there.names.containers) opener b.kind line (about.depth + 0) right tied
        (λ may task. false_is_not_true may);
    held = held_outside wholes context.names.containers context.names.declared (keeps_containers b.opener) b.before.containers good.held;
    arguments = good.arguments;
  }

  by_head : (head : HeadTree) → goes_on (Form head) b.opener ≡ true → IsAccepted there head → IsGood (behind_other context counts about outer line head)
  by_head (elif_head when) on accepted' =
      let kind = (same_kind (elif_head when) about.kind b.kind b.opener on opened).1 in
      ((wholes, behind_with (if_block branches when) ((all (elif_head when) on).0, when_good when kind accepted') (tied kind)), functions)
  by_head else_head on accepted' =
      let kind = (same_kind else_head about.kind b.kind b.opener on opened).1 in
      ((wholes, behind_with (else_block branches) (all else_head on) (tied kind)), functions)
  by_head import_line on accepted' = false_is_not_true (goes_on_is import_line b.opener on)
  by_head (symbol_line name quoted) on accepted' = false_is_not_true (goes_on_is (symbol_line name quoted) b.opener on)
  by_head program_decorator on accepted' = false_is_not_true (goes_on_is program_decorator b.opener on)
  by_head (program_head name arguments) on accepted' = false_is_not_true (goes_on_is (program_head name arguments) b.opener on)
  by_head (statement_head s) on accepted' = false_is_not_true (goes_on_is (statement_head s) b.opener on)
  by_head (reduce_head lambda from to axis identity) on accepted' = false_is_not_true (goes_on_is (reduce_head lambda from to axis identity) b.opener on)
  by_head (input_head connector memlet) on accepted' = false_is_not_true (goes_on_is (input_head connector memlet) b.opener on)
  by_head (output_head connector memlet) on accepted' = false_is_not_true (goes_on_is (output_head connector memlet) b.opener on)
  by_head (consume_decorator from size) on accepted' = false_is_not_true (goes_on_is (consume_decorator from size) b.opener on)
  by_head (consume_head name element worker) on accepted' = false_is_not_true (goes_on_is (consume_head name element worker) b.opener on)

pub counted_are_kept : Keeps IsGood
counted_are_kept = record {
  begin = (
    (
      [],
      record {
        stack = record { blocks = (tt, tt); tied = λ name. (refl, refl); outside = omega arith; straight = λ may task. false_is_not_true may };
        held = none_held;
        arguments = tt;
      },
    ),
    tt,
  );
  pass = λ context line scoped head fit due accepted' shape good. pass_good context line scoped head fit accepted' shape good;
  argument = λ context line scoped at name bits extents few begun accepted' shape good. argument_good context line scoped at name bits extents few accepted' good;
  close = λ context counts free counted' right shape good. close_good context.outer (record context { counts = counts }) refl shape right good.0.0 good.0.1 good.1;
  go_on = λ context counts about outer line head free is on counted' fit accepted' shape good. go_on_good context counts about outer line head is on accepted' shape good;
}
