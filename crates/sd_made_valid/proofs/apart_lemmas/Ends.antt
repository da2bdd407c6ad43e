-- The ends of blocks keep that no call writes an argument that is another one too.
use Rattle.std.proofs.Common.{◌≡◌, ℕ, List, [], ◌∷◌, ◌++◌, map, take, reverse, Bool, true, false, cond, Some, unwrap_or, bytes_eq, refl, sym, subst}
use Rattle.std.proofs.lemmas.List.{reverse-append}
use Rattle.sd_lex.specs.PlainTree.{StatementTree, FunctionTree}
use Rattle.sd_lex.specs.TreeFold.{block_listed}
use Rattle.sd_line.specs.line.Head.{HeadTree, elif_head, else_head}
use Rattle.sd_names.specs.declared.meaning.Meaning.TheVariants.{Program as Program_name}
use Rattle.sd_names.specs.declared.meaning.Signature.{Signature}
use Rattle.sd_names.specs.Names.{Name, put}
use Rattle.sd_refusal.specs.declared.site.Counts.{Counts}
use Rattle.sd_context.specs.context.Context.{Opener, file, function, statement, consumer, if_block, else_block, OpenBlock, Context}
use Rattle.sd_context.specs.context.Placing.{with_statements}
use Rattle.sd_context.specs.blocks.Closing.{finished, signature_of, left_by, closed_by, closed_into}
use Rattle.sd_context.specs.blocks.Continuing.{is_elif_or_else, branches_of}
use Rattle.sd_program.specs.Every.{EveryIn}
use Rattle.sd_program.specs.Names.{Named, in_force}
use Rattle.sd_read.proofs.readable_lemmas.kept.Ahead.{EndsRight}
use Rattle.sd_read.proofs.readable_lemmas.kept.Heads.{IsOpenedIn, AreNested}
use Rattle.sd_read.proofs.readable_lemmas.kept.Passing.{false_is_not_true}
use Rattle.sd_read.proofs.readable_lemmas.kept.Steps.{Keeps, behind_other}
use Rattle.sd_read.proofs.readable_lemmas.kept.Nesting.{top_is_file}
use Rattle.sd_read.proofs.readable_lemmas.kept.Affine.{none_is_not_some}
use Rattle.sd_made.specs.writes.Writes.{all_written, parameters_written, written_by_programs}
use Rattle.sd_made.specs.writes.Writes as written
use Rattle.sd_made_valid.proofs.read_shapes_lemmas.AtTheEnd.{goes_on_is}
use Rattle.sd_made_valid.proofs.read_shapes_lemmas.Signatures.{AreTold, take_told, ByTest, ended_told}
use Rattle.sd_made_valid.proofs.apart_lemmas.Shared.{TellWrites}
use Rattle.sd_made_valid.proofs.apart_lemmas.Told.{parameters_tell}
use Rattle.sd_made_valid.proofs.read_shapes_lemmas.Blocks.{AllHold, BranchesHold, Held, BlocksHold, blocks_more, file_held, listed_hold, finished_hold, branches_hold}
use Rattle.sd_made_valid.proofs.apart_lemmas.Calls.{Tells, IsApartCall, IsGood, good_of_lines, all_among, calls_of}
use Rattle.sd_made_valid.proofs.apart_lemmas.Lines.{AreFunctionsApart, AreApartSoFar, line_apart, argument_apart}

-- what the signature of a program that ends tells
function_told : (programs : List FunctionTree) (f : FunctionTree) (signature' : Signature) → TellWrites (parameters_written (written_by_programs programs) f) signature'.parameters → (wanted : Name) (found : Signature) →
    ByTest (bytes_eq wanted f.name) (found ≡ signature') (Tells programs wanted found) → Tells (f ∷ programs) wanted found
function_told programs f signature' tell wanted found = by_test (bytes_eq wanted f.name) where
  own : List Bool
  own = parameters_written (written_by_programs programs) f

  by_test : (test : Bool) → ByTest test (found ≡ signature') (Tells programs wanted found) → TellWrites (unwrap_or (cond test (Some own) (in_force (written_by_programs programs) wanted)) []) found.parameters
  by_test true same = subst (λ s. TellWrites own s.parameters) (sym same) tell
  by_test false tells = tells

function_apart : (context : Context) (about : OpenBlock) (rest : List OpenBlock) (name : Name) → IsOpenedIn about.kind context.block.kind (function name) → AreNested about rest →
    AllHold (IsGood (written_by_programs (reverse context.functions)) context.written) context.block.statements → AreApartSoFar context → AreApartSoFar (closed_by (function name) about rest context)
function_apart context about rest name opened shape held good =
    let above = reverse context.functions in
    let programs : Named (List Bool) = written_by_programs above in
    let f : FunctionTree = record { name = name; line = context.block.line; arguments = block_listed context.arguments; body = block_listed context.block.statements } in
    let signature' = signature_of context.written context.parameters context.counts.calls in
    let names : List Name = all_written programs f.body in
    let body : EveryIn (IsGood programs context.written) f.body = listed_hold (IsGood programs context.written) context.block.statements held in
    let tell : TellWrites (parameters_written programs f) signature'.parameters =
    subst (λ found. TellWrites (map (written.is_among names) found) signature'.parameters) good.parameters (parameters_tell context.written names context.parameters (all_among programs context.written f.body body)) in
    let more : f ∷ above ≡ reverse (context.functions ++ f ∷ []) = sym (reverse-append context.functions (f ∷ [])) in
    let before = take context.block.before.meanings context.names.meanings in
    record {
      blocks = file_held (IsGood (written_by_programs (reverse (context.functions ++ f ∷ []))) context.written) about.kind about.opener _ _ (subst (AreNested about) (top_is_file about rest shape opened.0) shape).1;
      told = subst (λ functions. AreTold (Tells functions) (put before name (Program_name (Some signature')))) more
          (ended_told (Tells above) before name signature' (Tells (f ∷ above)) (function_told above f signature' tell) (take_told (Tells above) context.names.meanings context.block.before.meanings good.told));
      parameters = refl;
      arguments = tt;
      functions = subst AreFunctionsApart more ((listed_hold (IsApartCall programs) context.arguments good.arguments, calls_of programs context.written f.body body), good.functions);
    }

-- behind a block that is no function's
left_apart : (context : Context) (about : OpenBlock) (rest : List OpenBlock) → AllHold (IsGood (written_by_programs (reverse context.functions)) context.written) (finished context.block) →
    BlocksHold (IsGood (written_by_programs (reverse context.functions)) context.written) (about ∷ rest) → AreApartSoFar context → AreApartSoFar (with_statements (finished context.block) (left_by about rest context))
left_apart context about rest done outside good = record {
  blocks = blocks_more (IsGood (written_by_programs (reverse context.functions)) context.written) about rest (finished context.block) done outside;
  told = take_told (Tells (reverse context.functions)) context.names.meanings context.block.before.meanings good.told;
  parameters = good.parameters;
  arguments = good.arguments;
  functions = good.functions;
}

close_apart : (outer : List OpenBlock) (context : Context) → context.outer ≡ outer → AreNested context.block outer → EndsRight context.block → BlocksHold (IsGood (written_by_programs (reverse context.functions)) context.written) (context.block ∷ outer) → AreApartSoFar context →
    AreApartSoFar (closed_into outer context)
close_apart [] context is shape right blocks good = good
close_apart (about ∷ rest) context is shape right blocks good =
    by_opener context.block.opener shape.0
    (finished_hold Holds (good_of_lines (written_by_programs (reverse context.functions)) context.written) about.kind context.block.kind context.block.line context.block.opener context.block.statements (BlocksHold Holds (about ∷ rest)) shape.0 right blocks) blocks where
      Holds : StatementTree → Type 0
      Holds = IsGood (written_by_programs (reverse context.functions)) context.written

      by_opener : (opener : Opener) → IsOpenedIn about.kind context.block.kind opener → AllHold Holds (finished context.block) → Held Holds context.block.kind opener (AllHold Holds context.block.statements) (BlocksHold Holds (about ∷ rest)) →
          AreApartSoFar (closed_by opener about rest context)
      by_opener file opened done held = absurd opened
      by_opener (function name) opened done held = function_apart context about rest name opened shape.1 held good
      by_opener (statement s) opened done held = left_apart context about rest done held.1.1 good
      by_opener (consumer line from size name element worker) opened done held = left_apart context about rest done held.1.1 good
      by_opener (if_block earlier when) opened done held = left_apart context about rest done held.1.1 good
      by_opener (else_block earlier) opened done held = left_apart context about rest done held.1.1 good

-- ---- `elif` and `else`

next_apart : (context : Context) (counts : Counts) (about : OpenBlock) (outer : List OpenBlock) (line : ℕ) (head : HeadTree) → is_elif_or_else head ≡ true →
    (let Holds = IsGood (written_by_programs (reverse context.functions)) context.written in BranchesHold Holds (branches_of context.block.line context.block.statements context.block.opener) × BlocksHold Holds (about ∷ outer)) →
    AreApartSoFar context → AreApartSoFar (behind_other context counts about outer line head)
next_apart context counts about outer line (elif_head when) on blocks good = record {
  blocks = (blocks.0, (tt, blocks.1));
  told = take_told (Tells (reverse context.functions)) context.names.meanings context.block.before.meanings good.told;
  parameters = good.parameters;
  arguments = good.arguments;
  functions = good.functions;
}
next_apart context counts about outer line else_head on blocks good = record {
  blocks = (blocks.0, (tt, blocks.1));
  told = take_told (Tells (reverse context.functions)) context.names.meanings context.block.before.meanings good.told;
  parameters = good.parameters;
  arguments = good.arguments;
  functions = good.functions;
}
next_apart context counts about outer line head on blocks good = false_is_not_true on

pub calls_are_kept : Keeps AreApartSoFar
calls_are_kept = record {
  begin = record { blocks = tt; told = λ name signature' is. none_is_not_some (Program_name (Some signature')) is; parameters = refl; arguments = tt; functions = tt };
  pass = λ context line scoped head fit due accepted' shape good. line_apart context line scoped good head fit accepted';
  argument = λ context line scoped at name bits extents few begun accepted' shape good. argument_apart context line scoped at name bits extents good;
  close = λ context counts free counted right shape good.
      close_apart context.outer (record context { counts = counts }) refl shape right good.blocks
      (record { blocks = good.blocks; told = good.told; parameters = good.parameters; arguments = good.arguments; functions = good.functions });
  go_on = λ context counts about outer line head free is on counted fit accepted' shape good.
      let Holds = IsGood (written_by_programs (reverse context.functions)) context.written in
      next_apart context counts about outer line head (goes_on_is head context.block.opener on)
      (branches_hold Holds context.block.kind context.block.line context.block.statements head context.block.opener (BlocksHold Holds (about ∷ outer)) on (subst (λ outer. BlocksHold Holds (context.block ∷ outer)) is good.blocks)) good;
}
