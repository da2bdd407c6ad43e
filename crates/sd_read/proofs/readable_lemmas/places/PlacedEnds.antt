-- The arguments of a program and the ends of blocks keep what holds of statements in their places.
use Rattle.std.proofs.Common.{◌≡◌, ◌≤◌, ℕ, zero, suc, ◌+◌, List, [], ◌∷◌, ◌++◌, length, take, reverse, Bool, true, false, cond, if◌then◌else◌, Option, Some, bytes_eq, refl, sym, ap, ◌∙◌, subst, arith}
use Rattle.std.specs.Bool.{⊤}
use Rattle.std.proofs.lemmas.List.{length-map, length-append, reverse-append}
use Rattle.sd_lex.specs.PlainTree.{Expression, Expressions, StatementTree, argument_array, no_statement, FunctionTree}
use Rattle.sd_lex.specs.TreeFold.{block_listed}
use Rattle.sd_phrase.specs.declared.reading.Reading.TheVariants.{Form}
use Rattle.sd_line.specs.declared.line.head.BlockKind.{BlockKind}
use Rattle.sd_line.specs.declared.line.head.BlockKind.TheVariants.{Top, Program, Scope, Tasklet}
use Rattle.sd_line.specs.line.Head.{HeadTree, import_line, symbol_line, program_decorator, program_head, statement_head, reduce_head, input_head, output_head, consume_decorator, consume_head, elif_head, else_head}
use Rattle.sd_range.specs.declared.affine.Affine.{Affine}
use Rattle.sd_refusal.specs.declared.site.Site.{Site}
use Rattle.sd_context.specs.context.Declaring.{names_behind}
use Rattle.sd_context.specs.context.Awaiting.{awaited_behind}
use Rattle.sd_context.specs.blocks.Continuing.{is_elif_or_else, goes_on, branches_of, next_opener}
use Rattle.sd_names.specs.declared.meaning.Container.{Container}
use Rattle.sd_names.specs.declared.meaning.Container.TheVariants.{Array}
use Rattle.sd_names.specs.Names.{Name, Names, listed, put}
use Rattle.sd_names.specs.Expressions.{affine_list}
use Rattle.sd_names.specs.Extents.{or_one}
use Rattle.sd_refusal.specs.declared.site.Counts.{Counts}
use Rattle.sd_context.specs.context.Context.{Branch, Opener, file, function, statement, consumer, if_block, else_block, OpenBlock, Awaited, nothing, block, function_def, consume_def, Context, site_of, in_force as count_in_force}
use Rattle.sd_context.specs.context.After.{parameters_behind, known_behind, context_after}
use Rattle.sd_context.specs.blocks.Closing.{is_loop, branch_with, finished_by, finished, keeps_containers, names_outside, parameter_of, signature_of, with_function, left_by, closed_by, closed_into}
use Rattle.sd_program.specs.Names.{in_force}
use Rattle.sd_program.specs.Calls.{argument_counts}
use Rattle.sd_names.specs.declared.meaning.Signature.{Signature}
use Rattle.sd_names.specs.declared.meaning.Meaning.TheVariants.{Program as Program_name}
use Rattle.sd_program.specs.Declared.{containers_in_all}
use Rattle.sd_program.specs.Place.{of_dimensions, Place, dimensions_of, behind_all, in_signature, in_function, EveryFrom, EveryFunction}
use Rattle.sd_read.proofs.readable_lemmas.kept.Ahead.{EndsRight}
use Rattle.sd_read.proofs.readable_lemmas.kept.Heads.{AreExtents, Fits, IsIf, if_inner, IsInner, IsBody, IsOpenedIn, IsFile, AreNested}
use Rattle.sd_read.proofs.readable_lemmas.kept.Passing.{Passes, passes, false_is_not_true}
use Rattle.sd_read.proofs.readable_lemmas.kept.Steps.{IsFunction, IsBegun, IsWellNested, IsAccepted, AwaitsNoDef, Keeps, behind_branch, behind_other}
use Rattle.sd_read.proofs.readable_lemmas.kept.Nesting.{top_is_file}
use Rattle.sd_read.proofs.readable_lemmas.kept.InForce.{Agrees, more_agrees, none_agrees, listed-put}
use Rattle.sd_names.specs.declared.meaning.Meaning.{Meaning}
use Rattle.sd_context.specs.context.Placing.{opened, with_statements}
use Rattle.sd_read.proofs.readable_lemmas.kept.Affine.{none_is_not_some}
use Rattle.sd_read.proofs.readable_lemmas.places.Placed.{IsAt, block_place, behind-joined, by_keeping, place-same, outside-same, AwaitsWell, around_of, over, through, begins, place_at, now, over-joined, through-more, SignaturesAgree, AllFrom, from-joined, AreBranches, IsGoodOpener, AreGoodBlocks, by_way, AgreeOutside, HoldsInPlaces, HoldsSoFar}
use Rattle.sd_read.proofs.readable_lemmas.places.PlacedNames.{programs_at, programs_through, through_depth, through_around, argument_holder}
use Rattle.sd_read.proofs.readable_lemmas.places.PlacedBlocks.{by_keeping', body_agrees, nested_behind, branches_more, finished_every}
use Rattle.sd_read.proofs.readable_lemmas.places.PlacedKept.{pass_kept}

-- ---- lists of statements

pub count-joined : (xs ys : List StatementTree) → containers_in_all (block_listed (xs ++ ys)) ≡ containers_in_all (block_listed xs) + containers_in_all (block_listed ys)
count-joined [] ys = omega arith
count-joined (x ∷ xs) ys = omega (arith, count-joined xs ys)

body_inner : (kind : BlockKind) → IsBody kind → IsInner kind
body_inner Top body = absurd body
body_inner Program body = tt
body_inner Scope body = tt
body_inner Tasklet body = absurd body

module _ (Holds : Place → StatementTree → Type 0) (lines : HoldsInPlaces Holds) where
  -- more statements at the end
  many_more : (programs : List FunctionTree) (arguments : List StatementTree) (inner : OpenBlock) (outer : List OpenBlock) (more : List StatementTree) → AreNested inner outer → IsInner inner.kind →
      AllFrom Holds (now programs arguments inner outer) more → AreGoodBlocks Holds programs arguments inner outer → AreGoodBlocks Holds programs arguments (record inner { statements = inner.statements ++ more }) outer
  many_more programs arguments inner [] more shape inside every good = absurd (subst IsInner shape.0 inside)
  many_more programs arguments inner (about ∷ outer) more shape inside every good = (
    record {
      opener = good.0.opener;
      all = from-joined Holds (place_at programs arguments inner (about ∷ outer)) inner.statements more good.0.all every;
      place = record { depth = good.0.place.depth; around = good.0.place.around };
    },
    good.1,
  )

  now-many : (programs : List FunctionTree) (arguments : List StatementTree) (inner : OpenBlock) (outer : List OpenBlock) (more : List StatementTree) →
      now programs arguments (record inner { statements = inner.statements ++ more }) outer ≡ over more (now programs arguments inner outer)
  now-many programs arguments inner outer more =
      ap (over (inner.statements ++ more)) (place-same Holds programs arguments inner outer (inner.statements ++ more)) ∙ over-joined inner.statements more (place_at programs arguments inner outer)

  abbrev NoFunction : Opener → Type 0
  NoFunction (function name) = ⊥
  NoFunction opener = ⊤

  abbrev Cut : (places outsides : List (Name × Container) → Type 0) → ℕ → List (Name × Container) → Type 0
  Cut places outsides count known = (count ≤ length known) × (places (take count known) × outsides (take count known))

  -- what is in force behind a block that ends
  finished_agrees : (arguments : List StatementTree) (about kind : BlockKind) (line : ℕ) (opener : Opener) (statements : List StatementTree) (place : Place) (known : List (Name × Container)) (count : ℕ) (outsides : List (Name × Container) → Type 0) →
      NoFunction opener → IsOpenedIn about kind opener → Agrees known (over statements (begins arguments kind opener place)).containers →
      by_way Holds opener (outsides known) (Cut (λ list. Agrees list place.containers) outsides count known) →
      Agrees (if keeps_containers opener then known else take count known) (over (finished_by kind line opener statements) place).containers
      × outsides (if keeps_containers opener then known else take count known)
  finished_agrees arguments about kind line file statements place known count outsides none opened inside way = absurd opened
  finished_agrees arguments about kind line (function name) statements place known count outsides none opened inside way = absurd none
  finished_agrees arguments about kind line (statement s) statements place known count outsides none opened inside way =
      (body_agrees kind s (block_listed statements) place known (take count known) opened.1 inside (asked (is_loop s) way), left_outside (is_loop s) way) where
        asked : (test : Bool) → by_keeping Holds test (outsides known) (Cut (λ list. Agrees list place.containers) outsides count known) → by_keeping' test (Agrees (take count known) place.containers)
        asked true way = tt
        asked false way = way.1.0

        left_outside : (test : Bool) → by_keeping Holds test (outsides known) (Cut (λ list. Agrees list place.containers) outsides count known) → outsides (if test then known else take count known)
        left_outside true way = way
        left_outside false way = way.1.1
  finished_agrees arguments about kind line (consumer at from size name element worker) statements place known count outsides none opened inside way = (way.1.0, way.1.1)
  finished_agrees arguments about kind line (if_block earlier when) statements place known count outsides none opened inside way =
      let b : Branch = record { line = line; when = when; statements = statements } in
      (subst (Agrees known) (sym (nested_behind kind (earlier ++ b ∷ []) [] place ∙ ap (λ p. p.containers) (through-more earlier b place))) inside, way)
  finished_agrees arguments about kind line (else_block earlier) statements place known count outsides none opened inside way =
      (subst (Agrees known) (sym (nested_behind kind earlier statements place)) inside, way)

  take_listed : (entries : List (Name × Meaning)) (count : ℕ) (name : Name) (meaning : Meaning) → listed (take count entries) name ≡ Some meaning → listed entries name ≡ Some meaning
  take_listed [] zero name meaning is = is
  take_listed [] (suc count) name meaning is = is
  take_listed (entry ∷ entries) zero name meaning is = none_is_not_some meaning is
  take_listed (entry ∷ entries) (suc count) name meaning is = by_test (bytes_eq name entry.0) is (take_listed entries count name meaning) where
    by_test : (test : Bool) → (if test then Some entry.1 else listed (take count entries) name) ≡ Some meaning → (listed (take count entries) name ≡ Some meaning → listed entries name ≡ Some meaning) →
        (if test then Some entry.1 else listed entries name) ≡ Some meaning
    by_test true is later = is
    by_test false is later = later is

  take_agree : (meanings : List (Name × Meaning)) (count : ℕ) (programs : List FunctionTree) → SignaturesAgree meanings programs → SignaturesAgree (take count meanings) programs
  take_agree meanings count programs agree name signature' is = agree name signature' (take_listed meanings count name _ is)

  free_awaits : (awaited : Awaited) (place : Place) → AwaitsNoDef awaited → AwaitsWell Holds awaited place
  free_awaits nothing place free = tt
  free_awaits block place free = tt
  free_awaits (function_def line) place free = absurd free
  free_awaits (consume_def line from size) place free = absurd free

  opened_about : (about kind : BlockKind) (opener : Opener) → NoFunction opener → IsOpenedIn about kind opener → IsInner about
  opened_about about kind file none opened = absurd opened
  opened_about about kind (function name) none opened = absurd none
  opened_about about kind (statement s) none opened = body_inner about opened.0
  opened_about about kind (consumer line from size name element worker) none opened = body_inner about opened.0
  opened_about about kind (if_block earlier when) none opened = if_inner about opened.0
  opened_about about kind (else_block earlier) none opened = if_inner about opened.0

  -- a block that is no function ends
  block_kept : (context : Context) (about : OpenBlock) (rest : List OpenBlock) → NoFunction context.block.opener → AwaitsNoDef context.awaited → EndsRight context.block → context.outer ≡ about ∷ rest → IsWellNested context → HoldsSoFar Holds context →
      HoldsSoFar Holds (with_statements (finished context.block) (left_by about rest context))
  block_kept context about rest none free right is shape good =
      let programs' = reverse context.functions in
      let inner = context.block in
      let shape' : AreNested inner (about ∷ rest) = subst (AreNested inner) is shape in
      let blocks' : AreGoodBlocks Holds programs' context.arguments inner (about ∷ rest) = subst (AreGoodBlocks Holds programs' context.arguments inner) is good.blocks in
      let agrees' : Agrees context.names.containers (now programs' context.arguments inner (about ∷ rest)).containers = subst (λ outer. Agrees context.names.containers (now programs' context.arguments inner outer).containers) is good.agrees in
      let outside' : AgreeOutside Holds programs' context.arguments context.names.containers inner (about ∷ rest) = subst (AgreeOutside Holds programs' context.arguments context.names.containers inner) is good.outside in
      let place = now programs' context.arguments about rest in
      let ends = finished_agrees context.arguments about.kind inner.kind inner.line inner.opener inner.statements place context.names.containers inner.before.containers
      (λ list. AgreeOutside Holds programs' context.arguments list about rest) none shape'.0 agrees' outside' in
      record {
        blocks = many_more programs' context.arguments about rest (finished inner) shape'.1 (opened_about about.kind inner.kind inner.opener none shape'.0)
            (finished_every Holds lines context.arguments about.kind inner.kind inner.line inner.opener inner.statements place shape'.0 blocks'.0.opener blocks'.0.all right) blocks'.1;
        agrees = subst (λ p. Agrees (names_outside inner context.names).containers p.containers) (sym (now-many programs' context.arguments about rest (finished inner))) ends.0;
        outside = outside-same Holds programs' context.arguments (names_outside inner context.names).containers about rest (about.statements ++ finished inner) ends.1;
        programs = take_agree context.names.meanings inner.before.meanings programs' good.programs;
        arguments = good.arguments;
        functions = good.functions;
        counted = good.counted;
        awaits = free_awaits context.awaited _ free;
      }

  -- ---- a program ends

  signature_agrees : (meanings : List (Name × Meaning)) (count : ℕ) (f : FunctionTree) (signature' : Signature) (programs : List FunctionTree) → containers_in_all f.arguments ≡ length signature'.parameters → SignaturesAgree meanings programs →
      SignaturesAgree (put (take count meanings) f.name (Program_name (Some signature'))) (f ∷ programs)
  signature_agrees meanings count f signature' programs counted agree wanted found is = by_test (bytes_eq wanted f.name) (sym (listed-put (take count meanings) f.name (Program_name (Some signature')) wanted) ∙ is) where
    parameters_of : Option Meaning → ℕ
    parameters_of (Some (Program_name (Some s))) = length s.parameters
    parameters_of other = 0

    by_test : (test : Bool) → (if test then Some (Program_name (Some signature')) else listed (take count meanings) wanted) ≡ Some (Program_name (Some found)) →
        cond test (Some (containers_in_all f.arguments)) (in_force (argument_counts programs) wanted) ≡ Some (length found.parameters)
    by_test true is = ap Some (counted ∙ ap parameters_of is)
    by_test false is = agree wanted found (take_listed meanings count wanted _ is)

  function_place : (arguments : List StatementTree) (kind : BlockKind) (opener : Opener) (name : Name) (place : Place) → opener ≡ function name → begins arguments kind opener place ≡ in_function place.programs (block_listed arguments)
  function_place arguments kind opener name place is = subst (λ opener. begins arguments kind opener place ≡ in_function place.programs (block_listed arguments)) (sym is) refl

  function_kept : (context : Context) (about : OpenBlock) (rest : List OpenBlock) (name : Name) → context.block.opener ≡ function name → AwaitsNoDef context.awaited → context.outer ≡ about ∷ rest → IsWellNested context → HoldsSoFar Holds context →
      HoldsSoFar Holds (with_function name context.block.line (block_listed context.block.statements) (left_by about rest context))
  function_kept context about rest name is_function free is shape good =
      let programs' = reverse context.functions in
      let inner = context.block in
      let f : FunctionTree = record { name = name; line = inner.line; arguments = block_listed context.arguments; body = block_listed inner.statements } in
      let shape' : AreNested inner (about ∷ rest) = subst (AreNested inner) is shape in
      let opened : IsOpenedIn about.kind inner.kind (function name) = subst (IsOpenedIn about.kind inner.kind) is_function shape'.0 in
      let alone : rest ≡ [] = top_is_file about rest shape'.1 opened.0 in
      let blocks' : AreGoodBlocks Holds programs' context.arguments inner (about ∷ rest) = subst (AreGoodBlocks Holds programs' context.arguments inner) is good.blocks in
      let file' : AreGoodBlocks Holds programs' context.arguments about [] = subst (AreGoodBlocks Holds programs' context.arguments about) alone blocks'.1 in
      let place = now programs' context.arguments about rest in
      let begin : begins context.arguments inner.kind inner.opener place ≡ in_function programs' (block_listed context.arguments) =
      function_place context.arguments inner.kind inner.opener name place is_function ∙ ap (λ programs. in_function programs (block_listed context.arguments)) (programs_at programs' context.arguments about rest) in
      let body : EveryFrom Holds (in_function programs' f.arguments) f.body = subst (λ place. EveryFrom Holds place f.body) begin blocks'.0.all in
      let signature' = signature_of context.written context.parameters context.counts.calls in
      let counted' : containers_in_all f.arguments ≡ length signature'.parameters = sym good.counted ∙ sym (length-map context.parameters (parameter_of context.written)) in
      let more : f ∷ programs' ≡ reverse (context.functions ++ f ∷ []) = sym (reverse-append context.functions (f ∷ [])) in
      record {
        blocks = subst (λ programs. AreGoodBlocks Holds programs [] about rest) more (subst (AreGoodBlocks Holds (f ∷ programs') [] about) (sym alone) file');
        agrees = none_agrees _;
        outside = subst (λ programs. AgreeOutside Holds programs [] [] about rest) more (subst (AgreeOutside Holds (f ∷ programs') [] [] about) (sym alone) tt);
        programs = subst (SignaturesAgree _) more (signature_agrees context.names.meanings inner.before.meanings f signature' programs' counted' good.programs);
        arguments = tt;
        functions = subst (EveryFunction Holds) more ((good.arguments, body), good.functions);
        counted = refl;
        awaits = free_awaits context.awaited _ free;
      }

  pub close_kept : (outer : List OpenBlock) (context : Context) → context.outer ≡ outer → AwaitsNoDef context.awaited → EndsRight context.block → IsWellNested context → HoldsSoFar Holds context → HoldsSoFar Holds (closed_into outer context)
  close_kept [] context is free right shape good = good
  close_kept (about ∷ rest) context is free right shape good = by_opener context.block.opener refl where
    by_opener : (opener : Opener) → context.block.opener ≡ opener → HoldsSoFar Holds (closed_by opener about rest context)
    by_opener file same = block_kept context about rest (subst NoFunction (sym same) tt) free right is shape good
    by_opener (function name) same = function_kept context about rest name same free is shape good
    by_opener (statement s) same = block_kept context about rest (subst NoFunction (sym same) tt) free right is shape good
    by_opener (consumer line from size name element worker) same = block_kept context about rest (subst NoFunction (sym same) tt) free right is shape good
    by_opener (if_block earlier when) same = block_kept context about rest (subst NoFunction (sym same) tt) free right is shape good
    by_opener (else_block earlier) same = block_kept context about rest (subst NoFunction (sym same) tt) free right is shape good

  -- counts make no difference
  pub recounted : (context : Context) (counts : Counts) → HoldsSoFar Holds context → HoldsSoFar Holds (record context { counts = counts })
  recounted context counts good = record {
    blocks = good.blocks;
    agrees = good.agrees;
    outside = good.outside;
    programs = good.programs;
    arguments = good.arguments;
    functions = good.functions;
    counted = good.counted;
    awaits = good.awaits;
  }

  -- ---- arguments

  argument_blocks : (programs : List FunctionTree) (before behind' : List StatementTree) (inner : OpenBlock) (outer : List OpenBlock) (name : Name) → inner.opener ≡ function name → inner.statements ≡ [] → AreNested inner outer →
      AreGoodBlocks Holds programs before inner outer → AreGoodBlocks Holds programs behind' inner outer
  argument_blocks programs before behind' inner [] name is none shape good = good
  argument_blocks programs before behind' inner (about ∷ rest) name is none shape good =
      let opened : IsOpenedIn about.kind inner.kind (function name) = subst (IsOpenedIn about.kind inner.kind) is shape.0 in
      let alone : rest ≡ [] = top_is_file about rest shape.1 opened.0 in
      let file' : AreGoodBlocks Holds programs before about [] = subst (AreGoodBlocks Holds programs before about) alone good.1 in
      let old = function_place before inner.kind inner.opener name (now programs before about rest) is in
      let new = function_place behind' inner.kind inner.opener name (now programs behind' about rest) is in (
        record {
          opener = subst (λ opener. IsGoodOpener Holds inner.kind inner.line opener (now programs behind' about rest)) (sym is) tt;
          all = subst (AllFrom Holds (place_at programs behind' inner (about ∷ rest))) (sym none) tt;
          place = record { depth = ap (λ p. p.depth) new ∙ sym (ap (λ p. p.depth) old) ∙ good.0.place.depth; around = ap (λ p. p.around) new ∙ sym (ap (λ p. p.around) old) ∙ good.0.place.around };
        },
        subst (AreGoodBlocks Holds programs behind' about) (sym alone) file',
      )

  -- where a program has begun its arguments are in force
  argument_now : (programs : List FunctionTree) (arguments : List StatementTree) (inner : OpenBlock) (outer : List OpenBlock) (name : Name) → inner.opener ≡ function name → inner.statements ≡ [] → AreNested inner outer →
      (now programs arguments inner outer).containers ≡ behind_all (block_listed arguments) []
  argument_now programs arguments inner [] name is none shape = absurd (subst IsFile is shape.1)
  argument_now programs arguments inner (about ∷ rest) name is none shape =
      ap (λ statements. (over statements (place_at programs arguments inner (about ∷ rest))).containers) none
      ∙ ap (λ p. p.containers) (function_place arguments inner.kind inner.opener name (now programs arguments about rest) is)

  way_function : (opener : Opener) (name : Name) (kept cut : Type 0) → opener ≡ function name → by_way Holds opener kept cut
  way_function opener name kept cut is = subst (λ opener. by_way Holds opener kept cut) (sym is) tt

  argument_outside : (programs : List FunctionTree) (arguments : List StatementTree) (known : List (Name × Container)) (inner : OpenBlock) (outer : List OpenBlock) (name : Name) → inner.opener ≡ function name →
      AgreeOutside Holds programs arguments known inner outer
  argument_outside programs arguments known inner [] name is = tt
  argument_outside programs arguments known inner (about ∷ rest) name is = way_function inner.opener name _ _ is

  by_function : {P : Type 0} (opener : Opener) → IsFunction opener → ((name : Name) → opener ≡ function name → P) → P
  by_function file is go = absurd is
  by_function (function name) is go = go name refl
  by_function (statement s) is go = absurd is
  by_function (consumer line from size name element worker) is go = absurd is
  by_function (if_block earlier when) is go = absurd is
  by_function (else_block earlier) is go = absurd is

  pub argument_kept : (context : Context) (line : ℕ) (is_tasklet' : Bool) (at : ℕ) (name : Name) (bits : ℕ) (extents : Expressions) → AreExtents extents → IsBegun context → IsAccepted context (statement_head (argument_array at name bits extents)) → IsWellNested context →
      HoldsSoFar Holds context → HoldsSoFar Holds (context_after context line is_tasklet' (statement_head (argument_array at name bits extents)))
  argument_kept context line is_tasklet' at name bits extents few begun accepted' shape good =
      by_function context.block.opener begun.1
      (λ program_name is.
      let programs' = reverse context.functions in
      let a = argument_array at name bits extents in
      let known = put context.names.containers name (Array (or_one (affine_list context.names extents))) in
      let before = argument_now programs' context.arguments context.block context.outer program_name is begun.0 shape in
      let after' = argument_now programs' (context.arguments ++ a ∷ []) context.block context.outer program_name is begun.0 shape in
      let grown = more_agrees context.names.containers (now programs' context.arguments context.block context.outer).containers name (Array (or_one (affine_list context.names extents))) good.agrees in
      record {
        blocks = argument_blocks programs' context.arguments (context.arguments ++ a ∷ []) context.block context.outer program_name is begun.0 shape good.blocks;
        agrees = subst (Agrees known) (sym (after' ∙ behind-joined context.arguments (a ∷ []) []))
            (subst (λ containers. Agrees known ((name, of_dimensions (dimensions_of extents)) ∷ containers)) before
            (subst (λ holder. Agrees known ((name, holder) ∷ (now programs' context.arguments context.block context.outer).containers)) (argument_holder context.names extents) grown));
        outside = argument_outside programs' (context.arguments ++ a ∷ []) known context.block context.outer program_name is;
        programs = good.programs;
        arguments = from-joined Holds (in_signature programs') context.arguments (a ∷ []) good.arguments
            (lines.argument context.names (site_of context) (over context.arguments (in_signature programs')) at name bits extents few refl refl (passes context.names (site_of context) (statement_head a) accepted'), tt);
        functions = good.functions;
        counted = length-append context.parameters _ ∙ ap (λ n. n + 1) good.counted ∙ sym (count-joined context.arguments (a ∷ []));
        awaits = tt;
      })

  -- ---- the next block of an `if`

  by_if_block : {P : Type 0} (head : HeadTree) (opener : Opener) → goes_on (Form head) opener ≡ true → ((earlier : List Branch) (when : Expression) → opener ≡ if_block earlier when → P) → P
  by_if_block head file on go = false_is_not_true on
  by_if_block head (function name) on go = false_is_not_true on
  by_if_block head (statement s) on go = false_is_not_true on
  by_if_block head (consumer line from size name element worker) on go = false_is_not_true on
  by_if_block head (if_block earlier when) on go = go earlier when refl
  by_if_block head (else_block earlier) on go = false_is_not_true on

  next_begins : (arguments : List StatementTree) (kind : BlockKind) (branches : List Branch) (head : HeadTree) (place : Place) → begins arguments kind (next_opener branches head) place ≡ through branches place
  next_begins arguments kind branches import_line place = refl
  next_begins arguments kind branches (symbol_line name quoted) place = refl
  next_begins arguments kind branches program_decorator place = refl
  next_begins arguments kind branches (program_head name args) place = refl
  next_begins arguments kind branches (statement_head s) place = refl
  next_begins arguments kind branches (reduce_head lambda from to axis identity) place = refl
  next_begins arguments kind branches (input_head connector memlet) place = refl
  next_begins arguments kind branches (output_head connector memlet) place = refl
  next_begins arguments kind branches (consume_decorator from size) place = refl
  next_begins arguments kind branches (consume_head name element worker) place = refl
  next_begins arguments kind branches (elif_head when) place = refl
  next_begins arguments kind branches else_head place = refl

  next_way : (branches : List Branch) (head : HeadTree) (kept cut : Type 0) → kept → by_way Holds (next_opener branches head) kept cut
  next_way branches import_line kept cut holds = holds
  next_way branches (symbol_line name quoted) kept cut holds = holds
  next_way branches program_decorator kept cut holds = holds
  next_way branches (program_head name args) kept cut holds = holds
  next_way branches (statement_head s) kept cut holds = holds
  next_way branches (reduce_head lambda from to axis identity) kept cut holds = holds
  next_way branches (input_head connector memlet) kept cut holds = holds
  next_way branches (output_head connector memlet) kept cut holds = holds
  next_way branches (consume_decorator from size) kept cut holds = holds
  next_way branches (consume_head name element worker) kept cut holds = holds
  next_way branches (elif_head when) kept cut holds = holds
  next_way branches else_head kept cut holds = holds

  next_good : (names : Names) (site : Site) (kind : BlockKind) (line : ℕ) (branches : List Branch) (head : HeadTree) (place : Place) → IsIf site.kind → kind ≡ site.kind → IsAt Holds names site (through branches place) → Fits site.kind head → Passes names site head →
      AreBranches Holds kind branches place → IsGoodOpener Holds kind line (next_opener branches head) place
  next_good names site kind line branches import_line place may is at fit passed all = all
  next_good names site kind line branches (symbol_line name quoted) place may is at fit passed all = all
  next_good names site kind line branches program_decorator place may is at fit passed all = all
  next_good names site kind line branches (program_head name args) place may is at fit passed all = all
  next_good names site kind line branches (statement_head s) place may is at fit passed all = all
  next_good names site kind line branches (reduce_head lambda from to axis identity) place may is at fit passed all = all
  next_good names site kind line branches (input_head connector memlet) place may is at fit passed all = all
  next_good names site kind line branches (output_head connector memlet) place may is at fit passed all = all
  next_good names site kind line branches (consume_decorator from size) place may is at fit passed all = all
  next_good names site kind line branches (consume_head name element worker) place may is at fit passed all = all
  next_good names site kind line branches (elif_head when) place may is at fit passed all =
      (all, subst (λ kind. Holds (through branches place) (branch_with kind (record { line = line; when = when; statements = [] }) no_statement)) (sym is) (lines.other names site (through branches place) line when may at fit passed))
  next_good names site kind line branches else_head place may is at fit passed all = all

  -- what the next block of an `if` needs of its first ones
  next_names : (names : Names) (head : HeadTree) → is_elif_or_else head ≡ true → names_behind names false head ≡ names
  next_names names import_line is = false_is_not_true is
  next_names names (symbol_line name quoted) is = false_is_not_true is
  next_names names program_decorator is = false_is_not_true is
  next_names names (program_head name args) is = false_is_not_true is
  next_names names (statement_head s) is = false_is_not_true is
  next_names names (reduce_head lambda from to axis identity) is = false_is_not_true is
  next_names names (input_head connector memlet) is = false_is_not_true is
  next_names names (output_head connector memlet) is = false_is_not_true is
  next_names names (consume_decorator from size) is = false_is_not_true is
  next_names names (consume_head name element worker) is = false_is_not_true is
  next_names names (elif_head when) is = refl
  next_names names else_head is = refl

  next_parameters : (names : Names) (parameters : List (Name × List Affine)) (head : HeadTree) → is_elif_or_else head ≡ true → parameters_behind names parameters head ≡ parameters
  next_parameters names parameters import_line is = false_is_not_true is
  next_parameters names parameters (symbol_line name quoted) is = false_is_not_true is
  next_parameters names parameters program_decorator is = false_is_not_true is
  next_parameters names parameters (program_head name args) is = false_is_not_true is
  next_parameters names parameters (statement_head s) is = false_is_not_true is
  next_parameters names parameters (reduce_head lambda from to axis identity) is = false_is_not_true is
  next_parameters names parameters (input_head connector memlet) is = false_is_not_true is
  next_parameters names parameters (output_head connector memlet) is = false_is_not_true is
  next_parameters names parameters (consume_decorator from size) is = false_is_not_true is
  next_parameters names parameters (consume_head name element worker) is = false_is_not_true is
  next_parameters names parameters (elif_head when) is = refl
  next_parameters names parameters else_head is = refl

  next_awaits : (line : ℕ) (head : HeadTree) (place : Place) → is_elif_or_else head ≡ true → AwaitsWell Holds (awaited_behind line head) place
  next_awaits line import_line place is = false_is_not_true is
  next_awaits line (symbol_line name quoted) place is = false_is_not_true is
  next_awaits line program_decorator place is = false_is_not_true is
  next_awaits line (program_head name args) place is = false_is_not_true is
  next_awaits line (statement_head s) place is = false_is_not_true is
  next_awaits line (reduce_head lambda from to axis identity) place is = false_is_not_true is
  next_awaits line (input_head connector memlet) place is = false_is_not_true is
  next_awaits line (output_head connector memlet) place is = false_is_not_true is
  next_awaits line (consume_decorator from size) place is = false_is_not_true is
  next_awaits line (consume_head name element worker) place is = false_is_not_true is
  next_awaits line (elif_head when) place is = tt
  next_awaits line else_head place is = tt

  pub go_on_kept : (context : Context) (counts : Counts) (about : OpenBlock) (rest : List OpenBlock) (line : ℕ) (head : HeadTree) → AwaitsNoDef context.awaited → context.outer ≡ about ∷ rest → goes_on (Form head) context.block.opener ≡ true →
      Fits about.kind head → IsAccepted (behind_branch context counts about rest) head → IsWellNested context → HoldsSoFar Holds context → HoldsSoFar Holds (behind_other context counts about rest line head)
  go_on_kept context counts about rest line head free is on fit accepted' shape good =
      by_if_block head context.block.opener on
      (λ earlier when same.
      let programs' = reverse context.functions in
      let inner = context.block in
      let last : Branch = record { line = inner.line; when = when; statements = inner.statements } in
      let branches = earlier ++ last ∷ [] in
      let left' = behind_branch context counts about rest in
      let shape' : AreNested inner (about ∷ rest) = subst (AreNested inner) is shape in
      let within : IsOpenedIn about.kind inner.kind (if_block earlier when) = subst (IsOpenedIn about.kind inner.kind) same shape'.0 in
      let other : is_elif_or_else head ≡ true = subst (λ opener. goes_on (Form head) opener ≡ true) same on in
      let blocks' : AreGoodBlocks Holds programs' context.arguments inner (about ∷ rest) = subst (AreGoodBlocks Holds programs' context.arguments inner) is good.blocks in
      let place = now programs' context.arguments about rest in
      let begin : begins context.arguments inner.kind inner.opener place ≡ through earlier place = ap (λ opener. begins context.arguments inner.kind opener place) same in
      let agrees' : Agrees context.names.containers (over inner.statements (begins context.arguments inner.kind inner.opener place)).containers =
      subst (λ outer. Agrees context.names.containers (now programs' context.arguments inner outer).containers) is good.agrees in
      let through' : Agrees context.names.containers (through branches place).containers =
      subst (λ p. Agrees context.names.containers p.containers) (ap (over inner.statements) begin ∙ sym (through-more earlier last place)) agrees' in
      let kept : names_outside inner context.names ≡ left'.names = refl in
      let same_containers' : left'.names.containers ≡ context.names.containers = ap (λ opener. if keeps_containers opener then context.names.containers else take inner.before.containers context.names.containers) same in
      let outside' : AgreeOutside Holds programs' context.arguments context.names.containers about rest =
      subst (λ opener. by_way Holds opener (AgreeOutside Holds programs' context.arguments context.names.containers about rest)
      ((inner.before.containers ≤ length context.names.containers)
      × (Agrees (take inner.before.containers context.names.containers) place.containers × AgreeOutside Holds programs' context.arguments (take inner.before.containers context.names.containers) about rest))) same
      (subst (AgreeOutside Holds programs' context.arguments context.names.containers inner) is good.outside) in
      let about_place = block_place Holds programs' context.arguments about rest shape'.1 (if_inner about.kind within.0) blocks'.1 in
      let opener' : IsGoodOpener Holds inner.kind inner.line (if_block earlier when) place = subst (λ opener. IsGoodOpener Holds inner.kind inner.line opener place) same blocks'.0.opener in
      let all' : AllFrom Holds (through earlier place) inner.statements = subst (λ p. AllFrom Holds p inner.statements) begin blocks'.0.all in
      let branches' : AreBranches Holds inner.kind branches place = branches_more Holds lines inner.kind earlier last place opener'.0 opener'.1 all' in
      let programs_left = take_agree context.names.meanings inner.before.meanings programs' good.programs in
      let at : IsAt Holds left'.names (site_of left') (through branches place) = record {
        containers = subst (λ list. Agrees list (through branches place).containers) (sym same_containers') through';
        programs = subst (SignaturesAgree left'.names.meanings) (sym (programs_through branches place ∙ programs_at programs' context.arguments about rest)) programs_left;
        depth = through_depth branches place ∙ about_place.depth;
        around = through_around branches place ∙ about_place.around;
      } in
      let listed' : branches_of inner.line inner.statements inner.opener ≡ branches = ap (branches_of inner.line inner.statements) same in
      subst (λ found. HoldsSoFar Holds (opened (count_in_force left'.names) (next_opener found head) inner.kind line 0 (known_behind left' line false head))) (sym listed')
      (record {
        blocks = (
          record {
            opener = next_good left'.names (site_of left') inner.kind line branches head place within.0 within.1 at fit (passes left'.names (site_of left') head accepted') branches';
            all = tt;
            place = record {
              depth = ap (λ p. p.depth) (next_begins context.arguments inner.kind branches head place) ∙ through_depth branches place ∙ about_place.depth ∙ omega arith;
              around = ap (λ p. p.around) (next_begins context.arguments inner.kind branches head place) ∙ through_around branches place ∙ about_place.around ∙ ap around_of (sym within.1);
            };
          },
          blocks'.1,
        );
        agrees = subst (λ p. Agrees (names_behind left'.names false head).containers p.containers) (sym (next_begins context.arguments inner.kind branches head place))
            (subst (λ names. Agrees names.containers (through branches place).containers) (sym (next_names left'.names head other)) at.containers);
        outside = next_way branches head _ _ (subst (λ names. AgreeOutside Holds programs' context.arguments names.containers about rest) (sym (next_names left'.names head other))
            (subst (λ list. AgreeOutside Holds programs' context.arguments list about rest) (sym same_containers') outside'));
        programs = subst (λ names. SignaturesAgree names.meanings programs') (sym (next_names left'.names head other)) programs_left;
        arguments = good.arguments;
        functions = good.functions;
        counted = ap length (next_parameters left'.names left'.parameters head other) ∙ good.counted;
        awaits = next_awaits line head _ other;
      }))

  pub places_are_kept : Keeps (HoldsSoFar Holds)
  places_are_kept = record {
    begin = record {
      blocks = (refl, refl);
      agrees = none_agrees [];
      outside = tt;
      programs = λ name signature' is. absurd (none_is_not_some _ is);
      arguments = tt;
      functions = tt;
      counted = refl;
      awaits = tt;
    };
    pass = λ context line is_tasklet' head fit due accepted' shape good. pass_kept Holds lines context line is_tasklet' head fit due accepted' shape good;
    argument = λ context line is_tasklet' at name bits extents few begun accepted' shape good. argument_kept context line is_tasklet' at name bits extents few begun accepted' shape good;
    close = λ context counts free counted right shape good. close_kept context.outer (record context { counts = counts }) refl free right shape (recounted context counts good);
    go_on = λ context counts about outer line head free is on counted fit accepted' shape good. go_on_kept context counts about outer line head free is on fit accepted' shape good;
  }
