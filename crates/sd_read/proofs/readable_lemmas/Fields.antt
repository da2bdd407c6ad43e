-- What holds of a program that was read.
use Rattle.std.proofs.Common.{◌≡◌, ◌≤◌, ℕ, ◌+◌, nat_eq, List, [], ◌∷◌, map, length, false, reverse, if◌then◌else◌, Option, Some, None, Result, Ok, Err, refl, subst, arith}
use Rattle.std.specs.List.{AllByRecursion, IsDistinct}
use Rattle.std.specs.Str.{bytes_eq}
use Rattle.sd_lex.specs.PlainTree.{StatementTree, FunctionTree, ProgramTree}
use Rattle.sd_lex.specs.declared.error.LexError.{LexError}
use Rattle.sd_lex.specs.declared.token.Token.{Token}
use Rattle.sd_lex.specs.Layout.{lexed}
use Rattle.sd_lex.specs.Position.{line_count}
use Rattle.sd_phrase.specs.Words.{piece_of}
use Rattle.sd_line.specs.line.HeadReading.{head_of}
use Rattle.sd_program.specs.Limits.{HasSteps, HasFewDimensions, HasFewParameters, HasFewAbout, HasFewReads, HasSmallTask, containers_of, states_of}
use Rattle.sd_program.specs.DeclaredNames.{container_names}
use Rattle.sd_program.specs.WellFormed.{IsWellFormed}
use Rattle.sd_read.proofs.readable_lemmas.counts.Containers.{FewContainers, containers_are_kept}
use Rattle.sd_read.proofs.readable_lemmas.counts.States.{FewStates}
use Rattle.sd_read.proofs.readable_lemmas.counts.StatesKept.{states_are_kept}
use Rattle.sd_read.proofs.readable_lemmas.counts.Shallow.{FewCalls}
use Rattle.sd_read.proofs.readable_lemmas.counts.ShallowKept.{calls_are_kept}
use Rattle.sd_read.proofs.readable_lemmas.counts.OwnNames.{OwnNames}
use Rattle.sd_read.proofs.readable_lemmas.counts.OwnNamesKept.{names_are_kept}
use Rattle.sd_read.proofs.readable_lemmas.lines.Tasks.{Tasks}
use Rattle.sd_read.proofs.readable_lemmas.lines.TasksKept.{ends_small, tasks_are_kept, small_hold}
use Rattle.sd_read.proofs.readable_lemmas.places.ReadFields.{reads_hold}
use Rattle.sd_source.specs.nodes.NodeLimits.{nodes_over, node_limits}
use Rattle.sd_context.specs.declared.blocks.refusal.Refusal.{Refusal}
use Rattle.sd_context.specs.blocks.Closing.{Step, and_then}
use Rattle.sd_source.specs.source.NodeRefusal.{first_of, node_refusal, limited, program_so_far}
use Rattle.sd_source.specs.source.SourceReading.{refusal_of_text, reads_tokens, reads}
use Rattle.sd_line.specs.lines.TokenLines.{no_token, lines_from, number_of, begins_connector, line_of_tokens, lines_of_tokens}
use Rattle.sd_context.specs.context.Context.{Context, opening}
use Rattle.sd_read.specs.readable.Levels.{HasFewLevels}
use Rattle.sd_read.specs.readable.Parts.{HasParts}
use Rattle.sd_line.specs.lines.Lines.{Line}
use Rattle.sd_source.specs.source.LinesReading.{lines_read, at_end, program_in, program_by, program_of_lines}
use Rattle.sd_program.specs.Bounds.{EachBound}
use Rattle.sd_program.specs.Every.{Everywhere}
use Rattle.sd_program.specs.IsAffine.{IsAffine}
use Rattle.sd_program.specs.Small.{IsSmall}
use Rattle.sd_read.proofs.readable_lemmas.kept.Steps.{refused_is_none, IsWellNested, Keeps, IsLine, reads-kept}
use Rattle.sd_read.proofs.readable_lemmas.kept.Nesting.{nesting_is_kept}
use Rattle.sd_read.proofs.readable_lemmas.kept.Trees.{HoldsSoFar, HoldsOfLines, lines_are_kept}
use Rattle.sd_program.specs.Place.{Place, EveryPlace}
use Rattle.sd_program.specs.Known.{IsPlaced, IsKnown}
use Rattle.sd_read.proofs.readable_lemmas.places.KnownFields.{known_hold}
use Rattle.sd_program.specs.Calls.{IsCallable, CallShallowly}
use Rattle.sd_read.proofs.readable_lemmas.places.Placed.{HoldsInPlaces, HoldsSoFar as PlacedSoFar}
use Rattle.sd_read.proofs.readable_lemmas.places.PlacedEnds.{places_are_kept}
use Rattle.sd_read.proofs.readable_lemmas.places.PlacedFields.{forms_hold, depths_hold, calls_hold}
use Rattle.sd_read.proofs.readable_lemmas.kept.Affine.{not_rough}
use Rattle.sd_read.proofs.readable_lemmas.kept.Heads.{Fits}
use Rattle.sd_read.proofs.readable_lemmas.kept.AheadKept.{Connects}
use Rattle.sd_read.proofs.readable_lemmas.lines.Connectors.{connector_forms}
use Rattle.sd_read.proofs.readable_lemmas.lines.Forms.{of_form, each-mapped}
use Rattle.sd_read.proofs.readable_lemmas.lines.LineForms.{head_forms}
use Rattle.sd_read.proofs.readable_lemmas.lines.LineLimits.{steps_hold, dimensions_hold, parameters_hold, parts_hold}
use Rattle.sd_read.proofs.readable_lemmas.places.LineLevels.{levels_hold}
use Rattle.sd_read.proofs.readable_lemmas.lines.AffinePlaces.{small, places_hold}

-- what is kept by lines in nested blocks is kept with their nesting
with_nesting : (Good : Context → Type 0) → Keeps Good → Keeps (λ context. IsWellNested context × Good context)
with_nesting Good keeps = record {
  begin = (nesting_is_kept.begin, keeps.begin);
  pass = λ context line is_tasklet head fit due accepted shape good.
      (nesting_is_kept.pass context line is_tasklet head fit due accepted shape shape, keeps.pass context line is_tasklet head fit due accepted shape good.1);
  argument = λ context line is_tasklet at name bits extents few begun accepted shape good.
      (nesting_is_kept.argument context line is_tasklet at name bits extents few begun accepted shape shape, keeps.argument context line is_tasklet at name bits extents few begun accepted shape good.1);
  close = λ context counts free counted right shape good. (nesting_is_kept.close context counts free counted right shape shape, keeps.close context counts free counted right shape good.1);
  go_on = λ context counts about outer line head free is on counted fit accepted shape good.
      (nesting_is_kept.go_on context counts about outer line head free is on counted fit accepted shape shape, keeps.go_on context counts about outer line head free is on counted fit accepted shape good.1);
}

-- it holds where the last line was read
pub at_the_end : (Good : Context → Type 0) → Keeps Good → (last : ℕ) (lines : List Line) (program : ProgramTree) → AllByRecursion IsLine lines → program_of_lines last lines ≡ Ok program →
    (context : Context) × (Good context × (program_in context ≡ program))
at_the_end Good keeps last lines program fit is =
    let end = reads-kept (λ context. IsWellNested context × Good context) (with_nesting Good keeps) (λ context good. good.0) last lines program fit is in
    (end.0, (end.1.0.1, end.1.1))

everywhere : (Holds : StatementTree → Type 0) → HoldsOfLines Holds → (last : ℕ) (lines : List Line) (program : ProgramTree) → AllByRecursion IsLine lines → program_of_lines last lines ≡ Ok program → Everywhere Holds program
everywhere Holds holds last lines program fit is =
    let end = at_the_end (λ context. Tasks context × HoldsSoFar Holds context) (lines_are_kept Holds holds Tasks tasks_are_kept ends_small) last lines program fit is in
    subst (Everywhere Holds) end.1.1 end.1.0.1.1.1.1

-- the lines of a text say what they may
lines_fit : (text : List ℕ) (tokens : List Token) → AllByRecursion IsLine (lines_of_tokens text tokens)
lines_fit text tokens =
    each-mapped IsLine (line_of_tokens text) (lines_from no_token tokens)
    (λ line.
    let words = map (piece_of text) line.tokens in
    record {
      fits = λ kind head is. of_form (Fits kind) (head_of text kind (number_of line.tokens) words) head (head_forms text kind (number_of line.tokens) words) is;
      connects = λ kind head is. of_form (Connects kind (begins_connector text line.tokens)) (head_of text kind (number_of line.tokens) words) head (connector_forms text kind (number_of line.tokens) line.tokens) is;
    })

-- where a limit on nodes is passed there is no program
not_limited : (line : Option ℕ) (read : Result ProgramTree Refusal) (program : ProgramTree) → limited line read ≡ Ok program → read ≡ Ok program
not_limited None read program is = is
not_limited (Some line) (Ok found) program is = refused_is_none (node_refusal line) program is
not_limited (Some line) (Err refusal) program is = refused_is_none (first_of (node_refusal line) refusal) program is

-- a text that reads as a program has lines that do
by_lines : {P : ProgramTree → Type 0} → ((last : ℕ) (lines : List Line) (program : ProgramTree) → AllByRecursion IsLine lines → program_of_lines last lines ≡ Ok program → P program) →
    (text : List ℕ) (program : ProgramTree) → reads text ≡ Ok program → P program
by_lines {P = P} holds text program is = by_tokens (lexed text) is where
  by_tokens : (found : Result (List Token) LexError) → reads_tokens text found ≡ Ok program → P program
  by_tokens (Err error) is = refused_is_none (refusal_of_text error) program is
  by_tokens (Ok tokens) is =
      let lines = lines_of_tokens text tokens in
      let read = program_of_lines (line_count text) lines in
      holds (line_count text) lines program (lines_fit text tokens) (not_limited (nodes_over node_limits (program_so_far lines read)) read program is)

pub affine_program : (text : List ℕ) (program : ProgramTree) → reads text ≡ Ok program → Everywhere (EachBound IsAffine) program
affine_program = by_lines (everywhere (EachBound IsAffine) (places_hold IsAffine (λ names e smooth known narrow. not_rough e smooth)))

pub small_program : (text : List ℕ) (program : ProgramTree) → reads text ≡ Ok program → Everywhere (EachBound IsSmall) program
small_program = by_lines (everywhere (EachBound IsSmall) (places_hold IsSmall small))

pub steps_of_program : (text : List ℕ) (program : ProgramTree) → reads text ≡ Ok program → Everywhere HasSteps program
steps_of_program = by_lines (everywhere HasSteps steps_hold)

pub dimensions_of_program : (text : List ℕ) (program : ProgramTree) → reads text ≡ Ok program → Everywhere HasFewDimensions program
dimensions_of_program = by_lines (everywhere HasFewDimensions dimensions_hold)

pub parameters_of_program : (text : List ℕ) (program : ProgramTree) → reads text ≡ Ok program → Everywhere HasFewParameters program
parameters_of_program = by_lines (everywhere HasFewParameters parameters_hold)

pub parts_of_program : (text : List ℕ) (program : ProgramTree) → reads text ≡ Ok program → Everywhere HasParts program
parts_of_program = by_lines (everywhere HasParts parts_hold)

-- it holds of each statement in its place
places : (Holds : Place → StatementTree → Type 0) → HoldsInPlaces Holds → (text : List ℕ) (program : ProgramTree) → reads text ≡ Ok program → EveryPlace Holds program
places Holds holds =
    by_lines
    (λ last lines program fit is.
    let end = at_the_end (PlacedSoFar Holds) (places_are_kept Holds holds) last lines program fit is in
    subst (EveryPlace Holds) end.1.1 end.1.0.functions)

pub placed_program : (text : List ℕ) (program : ProgramTree) → reads text ≡ Ok program → EveryPlace IsPlaced program
placed_program = places IsPlaced forms_hold

pub depth_of_program : (text : List ℕ) (program : ProgramTree) → reads text ≡ Ok program → EveryPlace HasFewAbout program
depth_of_program = places HasFewAbout depths_hold

pub calls_of_program : (text : List ℕ) (program : ProgramTree) → reads text ≡ Ok program → EveryPlace IsCallable program
calls_of_program = places IsCallable calls_hold

pub known_program : (text : List ℕ) (program : ProgramTree) → reads text ≡ Ok program → EveryPlace IsKnown program
known_program = places IsKnown known_hold

pub reads_of_program : (text : List ℕ) (program : ProgramTree) → reads text ≡ Ok program → EveryPlace HasFewReads program
reads_of_program = places HasFewReads reads_hold

pub levels_of_program : (text : List ℕ) (program : ProgramTree) → reads text ≡ Ok program → EveryPlace HasFewLevels program
levels_of_program = places HasFewLevels levels_hold

-- a limit that is passed leaves no program
none_limited : (line : Option ℕ) (read : Result ProgramTree Refusal) (program : ProgramTree) → limited line read ≡ Ok program → line ≡ None
none_limited None read program is = refl
none_limited (Some line) (Ok found) program is = refused_is_none (node_refusal line) program is
none_limited (Some line) (Err refusal) program is = refused_is_none (first_of (node_refusal line) refusal) program is

pub tasklets_of_program : (text : List ℕ) (program : ProgramTree) → reads text ≡ Ok program → Everywhere HasSmallTask program
tasklets_of_program = by_lines (everywhere HasSmallTask small_hold)

pub nodes_of_program : (text : List ℕ) (program : ProgramTree) → reads text ≡ Ok program → nodes_over node_limits program ≡ None
nodes_of_program text program is = by_tokens (lexed text) is where
  by_tokens : (found : Result (List Token) LexError) → reads_tokens text found ≡ Ok program → nodes_over node_limits program ≡ None
  by_tokens (Err error) is = refused_is_none (refusal_of_text error) program is
  by_tokens (Ok tokens) is =
      let lines = lines_of_tokens text tokens in
      let read = program_of_lines (line_count text) lines in
      let over = nodes_over node_limits (program_so_far lines read) in
      subst (λ read. nodes_over node_limits (program_so_far lines read) ≡ None) (not_limited over read program is) (none_limited over read program is)

pub containers_of_program : (text : List ℕ) (program : ProgramTree) → reads text ≡ Ok program → AllByRecursion (λ function. containers_of function ≤ 256) program.functions
containers_of_program =
    by_lines
    (λ last lines program fit is.
    let end = at_the_end FewContainers containers_are_kept last lines program fit is in
    subst (λ program. AllByRecursion (λ function. containers_of function ≤ 256) program.functions) end.1.1 end.1.0.functions)

pub states_of_program : (text : List ℕ) (program : ProgramTree) → reads text ≡ Ok program → AllByRecursion (λ function. states_of function ≤ 256) program.functions
states_of_program =
    by_lines
    (λ last lines program fit is.
    let end = at_the_end FewStates states_are_kept last lines program fit is in
    subst (λ program. AllByRecursion (λ function. states_of function ≤ 256) program.functions) end.1.1 end.1.0.functions)

pub names_of_program : (text : List ℕ) (program : ProgramTree) → reads text ≡ Ok program → AllByRecursion (λ function. IsDistinct bytes_eq (container_names function)) program.functions
names_of_program =
    by_lines
    (λ last lines program fit is.
    let end = at_the_end OwnNames names_are_kept last lines program fit is in
    subst (λ program. AllByRecursion (λ function. IsDistinct bytes_eq (container_names function)) program.functions) end.1.1 end.1.0.functions)

pub chains_of_program : (text : List ℕ) (program : ProgramTree) → reads text ≡ Ok program → CallShallowly (reverse program.functions)
chains_of_program =
    by_lines
    (λ last lines program fit is.
    let end = at_the_end FewCalls calls_are_kept last lines program fit is in
    subst (λ program. CallShallowly (reverse program.functions)) end.1.1 end.1.0.functions)

read_once : (found program : ProgramTree) (read : Result ProgramTree Refusal) → read ≡ Ok found → read ≡ Ok program → found ≡ program
read_once found program read first second = cc

-- a source without a program is refused
some_function : (last : ℕ) (step : Step) (program : ProgramTree) → program_by last step ≡ Ok program → 1 ≤ length program.functions
some_function last (Err refusal) program is = refused_is_none refusal program is
some_function last (Ok context) program is = by_list context.functions is where
  none : Result ProgramTree Refusal
  none = Err (record { number = 4; line = last + 1 })

  by_list : (functions : List FunctionTree) → (if nat_eq (length functions) 0 then none else Ok (record { symbols = context.symbols; functions = functions })) ≡ Ok program → 1 ≤ length program.functions
  by_list [] is = refused_is_none (record { number = 4; line = last + 1 }) program is
  by_list (function ∷ functions) is =
      let found : ProgramTree = record { symbols = context.symbols; functions = function ∷ functions } in
      let some : 1 ≤ length (function ∷ functions) = omega arith in
      let counted : nat_eq (length (function ∷ functions)) 0 ≡ false = grind (arith, some) in
      subst (λ program. 1 ≤ length program.functions) (read_once found program (Ok found) refl (subst (λ test. (if test then none else Ok found) ≡ Ok program) counted is)) some

pub functions_of_program : (text : List ℕ) (program : ProgramTree) → reads text ≡ Ok program → 1 ≤ length program.functions
functions_of_program = by_lines (λ last lines program fit is. some_function last (and_then (lines_read opening lines) (λ context. at_end last context.awaited context)) program is)

-- all of it
pub well_formed : (text : List ℕ) (program : ProgramTree) → reads text ≡ Ok program → IsWellFormed program
well_formed text program is = record {
  affine = affine_program text program is;
  small = small_program text program is;
  steps = steps_of_program text program is;
  dimensions = dimensions_of_program text program is;
  parameters = parameters_of_program text program is;
  placed = placed_program text program is;
  known = known_program text program is;
  calls = calls_of_program text program is;
  depth = depth_of_program text program is;
  reads = reads_of_program text program is;
  tasklets = tasklets_of_program text program is;
  nodes = nodes_of_program text program is;
  containers = containers_of_program text program is;
  names = names_of_program text program is;
  states = states_of_program text program is;
  chains = chains_of_program text program is;
}
