-- Each line that is accepted keeps that shapes fit.
use Rattle.std.proofs.Common.{◌≡◌, inr, ℕ, ◌<◌, List, [], ◌∷◌, map, length, reverse, Bool, true, false, ◌||◌, ◌≤◌, cond, if◌then◌else◌, Option, Some, None, bytes_eq, refl, ap, sym, ◌∙◌, subst, arith}
use Rattle.std.specs.List.{AllByRecursion, list_any}
use Rattle.std.proofs.lemmas.Slice.Eq.{bytes_eq-Decides}
use Rattle.sd_range.specs.declared.affine.Affine.{Affine}
use Rattle.sd_lex.specs.PlainTree.{Expression, Expressions, no_expression, and_expression, Dimension, index, span, StatementTree, argument_array, local_array, local_stream, copy, reduce, map_scope, tasklet, consume_scope, call, for_loop, while_loop, branch, set, tasklet_branch, FunctionTree}
use Rattle.sd_lex.specs.TreeFold.{block_listed}
use Rattle.sd_line.specs.line.Head.{statement_head}
use Rattle.sd_names.specs.declared.meaning.Meaning.TheVariants.{Variable, Local}
use Rattle.sd_names.specs.Names.{Name, Names, is_among, noted, meaning_of, is_free, with_meaning, all_meaning}
use Rattle.sd_names.specs.Expressions.{affine_list, expression_list}
use Rattle.sd_refusal.specs.NotAffine.{any_bound, varies, head_varies}
use Rattle.sd_uses.specs.Twice.{declares_local}
use Rattle.sd_uses.specs.UnknownName.{is_unknown_use}
use Rattle.sd_uses.specs.Uses.{part, argument, called, statement_uses}
use Rattle.sd_names.specs.Expressions.{is_rough}
use Rattle.sd_context.specs.context.Context.{OpenBlock, Context, site_of}
use Rattle.sd_context.specs.context.After.{context_after}
use Rattle.sd_context.specs.context.Declaring.{statement_names, with_local}
use Rattle.sd_names.specs.Extents.{or_one}
use Rattle.sd_program.specs.Bounds.{EachExpression, IfWritten, EachDimension}
use Rattle.sd_program.specs.Place.{length_of}
use Rattle.sd_program.specs.Names.{Named, in_force}
use Rattle.sd_read.proofs.readable_lemmas.kept.Heads.{IsOfLine, Fits as IsFit}
use Rattle.sd_read.proofs.readable_lemmas.kept.NewNames.{declares_new}
use Rattle.sd_read.proofs.readable_lemmas.kept.Passing.{Passes, passes, neither, true_is_not_false}
use Rattle.sd_read.proofs.readable_lemmas.kept.Steps.{IsAccepted as IsAcceptedLine}
use Rattle.sd_read.proofs.readable_lemmas.kept.Trees.{bare, of_line}
use Rattle.sd_made_valid.proofs.read_shapes_lemmas.Signatures.{AreTold, statement_told}
use Rattle.sd_made_valid.proofs.read_shapes_lemmas.Noted.{noted_more, noted_has}
use Rattle.sd_made_valid.proofs.read_shapes_lemmas.Blocks.{BlocksHold, blocks_so}
use Rattle.sd_made_valid.proofs.read_shapes_lemmas.Passed.{IsNoArgument, no_argument, statement_passed, same_names, statement_blocks}
use Rattle.sd_made_valid.specs.read_shapes.Fits.{extents_written, parameter_extents, AreExtents, Fits}
use Rattle.sd_made_valid.proofs.read_shapes_lemmas.Values.{by_place}
use Rattle.sd_made_valid.proofs.read_shapes_lemmas.Stretches.{IsSound}
use Rattle.sd_made_valid.proofs.read_shapes_lemmas.Sound.{IsAccepted, plain_arguments, plain_extents, known_of, bounds_accepted}
use Rattle.sd_made_valid.proofs.read_shapes_lemmas.Said.{TellsExtents, copy_fits, call_fits}
use Rattle.sd_made_valid.proofs.read_shapes_lemmas.Grown.{IsGrown, statement_grown, placed_within}
use Rattle.sd_made_valid.proofs.read_shapes_lemmas.Declared.{free_unlisted, all_free, argument_extents, AreHeld, more_arrays, array_held, stream_held}
use Rattle.sd_made_valid.proofs.read_shapes_lemmas.FitSoFar.{AllInside, AreParameters, ArgumentFits, FitBy, FitSoFar, HasMore, fits_more, arguments_more}

-- ---- a step

module _ (symbols : List Name) (functions : List FunctionTree) (parameters : List (Name × List Affine)) (arguments : List StatementTree) (names : Names) (blocks : List OpenBlock) (good : FitBy symbols functions parameters arguments names blocks) where
  -- the names behind it, and the arrays
  pub record IsStep (after : Names) (more : Named (List Expression)) : Type 0 where
    pub grown : IsGrown names.meanings after.meanings
    pub told : AreTold (TellsExtents (reverse functions) symbols good.place) after.meanings
    pub held : AreHeld symbols good.place more after.containers
    pub has : HasMore good.arrays more
    pub fresh : (name : Name) (extents : List Expression) → in_force more name ≡ Some extents → is_among after.declared name ≡ true

  -- with these parameters behind it
  pub stepped_with : (after : Names) (more : Named (List Expression)) (around : List OpenBlock) → IsStep after more →
      (BlocksHold (Fits symbols more (reverse functions)) blocks → BlocksHold (Fits symbols more (reverse functions)) around) → (AllInside symbols good.place blocks → AllInside symbols good.place around) →
      (passed : List (Name × List Affine)) (told : List StatementTree) → AreParameters symbols good.place passed (parameter_extents (block_listed told)) → AllByRecursion (ArgumentFits symbols more) told →
      FitBy symbols functions passed told after around
  stepped_with after more around step so inside passed told given begun = record {
    arrays = more;
    place = good.place;
    around = so (blocks_so (Fits symbols good.arrays (reverse functions)) (Fits symbols more (reverse functions)) (fits_more symbols good.arrays more (reverse functions) step.has) blocks good.around);
    inside = inside good.inside;
    named = record {
      kept = λ name among. let before = good.named.kept name among in let now = step.grown.kept name before.0 in (now.0, now.1 ∙ before.1);
      held = step.held;
      told = step.told;
    };
    known = λ name is. good.known name (step.grown.symbols name is);
    fresh = step.fresh;
    given = given;
    begun = begun;
    ended = good.ended;
  }

  pub arguments_still : (after : Names) (more : Named (List Expression)) → IsStep after more → AllByRecursion (ArgumentFits symbols more) arguments
  arguments_still after more step = arguments_more symbols good.arrays more (reverse functions) step.has arguments good.begun

  pub stepped : (after : Names) (more : Named (List Expression)) (around : List OpenBlock) → IsStep after more →
      (BlocksHold (Fits symbols more (reverse functions)) blocks → BlocksHold (Fits symbols more (reverse functions)) around) → (AllInside symbols good.place blocks → AllInside symbols good.place around) →
      FitBy symbols functions parameters arguments after around
  stepped after more around step so inside = stepped_with after more around step so inside parameters arguments good.given (arguments_still after more step)

  -- where no container is declared
  pub same_step : (after : Names) → IsGrown names.meanings after.meanings → AreTold (TellsExtents (reverse functions) symbols good.place) after.meanings → after.containers ≡ names.containers → after.declared ≡ names.declared → IsStep after good.arrays
  same_step after grown told containers declared = record {
    grown = grown;
    told = told;
    held = subst (AreHeld symbols good.place good.arrays) (sym containers) good.named.held;
    has = λ name extents is. is;
    fresh = λ name extents is. subst (λ declared. is_among declared name ≡ true) (sym declared) (good.fresh name extents is);
  }

  -- a name that is free is that of no array, and no size symbol
  pub new_array : (name : Name) → is_free names name ≡ true → (written : List Expression) → in_force good.arrays name ≡ Some written → ⊥
  new_array name free written is = true_is_not_false (sym (good.fresh name written is) ∙ (free_unlisted names name free).1)

  pub no_symbol : (name : Name) → is_free names name ≡ true → is_among symbols name ≡ false
  no_symbol name free = by_test (is_among symbols name) refl where
    by_test : (test : Bool) → is_among symbols name ≡ test → test ≡ false
    by_test true among = true_is_not_false (sym (good.named.kept name among).0 ∙ (free_unlisted names name free).0)
    by_test false none = refl

  pub below : (name : Name) → is_among symbols name ≡ true → good.place name < length names.meanings
  below name among = let kept = good.named.kept name among in subst (λ place. place < length names.meanings) kept.1 (placed_within names.meanings name kept.0)

  -- where an array is
  pub array_step : (after : Names) (name : Name) (extents : List Affine) (written : List Expression) → is_free names name ≡ true → AreExtents symbols written → extents ≡ map (by_place good.place) written →
      IsGrown names.meanings after.meanings → AreTold (TellsExtents (reverse functions) symbols good.place) after.meanings → AreHeld symbols good.place ((name, written) ∷ good.arrays) after.containers → after.declared ≡ noted names.declared name → IsStep after ((name, written) ∷ good.arrays)
  array_step after name extents written free are same grown told held declared = record {
    grown = grown;
    told = told;
    held = held;
    has = more_arrays good.arrays name written (new_array name free);
    fresh = λ wanted found is. subst (λ declared. is_among declared wanted ≡ true) (sym declared) (fresh_now wanted found (bytes_eq wanted name) refl is);
  } where
    fresh_now : (wanted : Name) (found : List Expression) (test : Bool) → bytes_eq wanted name ≡ test → cond test (Some written) (in_force good.arrays wanted) ≡ Some found → is_among (noted names.declared name) wanted ≡ true
    fresh_now wanted found true here is = subst (λ wanted. is_among (noted names.declared name) wanted ≡ true) (sym ((bytes_eq-Decides wanted name).0 here)) (noted_has names.declared name)
    fresh_now wanted found false other is = noted_more names.declared name wanted (good.fresh wanted found is)

-- ---- statements

sound_if : (names : Names) (e : Option Expression) → IfWritten (IsAccepted names) e → IfWritten (IsSound names.meanings) e
sound_if names None accepted = tt
sound_if names (Some e) accepted = accepted.1.1.1

sound_dimensions : (names : Names) (dimensions : List Dimension) → EachDimension (IsAccepted names) dimensions → EachDimension (IsSound names.meanings) dimensions
sound_dimensions names [] accepted = tt
sound_dimensions names (index at ∷ dimensions) accepted = (accepted.0.1.1.1, sound_dimensions names dimensions accepted.1)
sound_dimensions names (span begin end step ∷ dimensions) accepted = ((sound_if names begin accepted.0.0, sound_if names end accepted.0.1), sound_dimensions names dimensions accepted.1)

sound_arguments : (names : Names) (arguments : List (Name × List Dimension)) → AllByRecursion (λ passed. EachDimension (IsAccepted names) passed.1) arguments → AllByRecursion (λ passed. EachDimension (IsSound names.meanings) passed.1) arguments
sound_arguments names [] accepted = tt
sound_arguments names (passed ∷ arguments) accepted = (sound_dimensions names passed.1 accepted.0, sound_arguments names arguments accepted.1)

same_containers : (parameters : List Name) (names : Names) → ((all_meaning Variable names parameters).containers ≡ names.containers) × ((all_meaning Variable names parameters).declared ≡ names.declared)
same_containers [] names = (refl, refl)
same_containers (parameter ∷ parameters) names = same_containers parameters (with_meaning names parameter Variable)

local_containers : (names : Names) (name : Name) → ((with_local names name).containers ≡ names.containers) × ((with_local names name).declared ≡ names.declared)
local_containers names name = by_test (declares_local (meaning_of names name)) where
  by_test : (test : Bool) → ((if test then with_meaning names name Local else names).containers ≡ names.containers) × ((if test then with_meaning names name Local else names).declared ≡ names.declared)
  by_test true = (refl, refl)
  by_test false = (refl, refl)

local_extents : (names : Names) (symbols : List Name) (place : Name → ℕ) (extents : Expressions) → 1 ≤ length_of extents → AreExtents symbols (extents_written extents) × (or_one (affine_list names extents) ≡ map (by_place place) (extents_written extents)) →
    affine_list names extents ≡ map (by_place place) (extents_written extents)
local_extents names symbols place no_expression some same = absurd (omega (arith, some))
local_extents names symbols place (and_expression first rest) some same = same.1

module _ (context : Context) (good : FitSoFar context) where
  abbrev names : Names
  names = context.names

  abbrev above : List FunctionTree
  above = reverse context.functions

  abbrev IsNext : Names → Named (List Expression) → Type 0
  IsNext after more = IsStep context.symbols context.functions context.parameters context.arguments context.names (context.block ∷ context.outer) good after more

  abbrev StatementFits : StatementTree → Type 0
  StatementFits s = (more : Named (List Expression)) × (IsNext (statement_names names s) more × Fits context.symbols more above (bare s))

  told_behind : (s : StatementTree) → AreTold (TellsExtents above context.symbols good.place) (statement_names names s).meanings
  told_behind s = statement_told (TellsExtents above context.symbols good.place) names s good.named.told

  -- a statement that declares no container
  as_before : (s : StatementTree) → (statement_names names s).containers ≡ names.containers → (statement_names names s).declared ≡ names.declared → IsNext (statement_names names s) good.arrays
  as_before s containers declared =
      same_step context.symbols context.functions context.parameters context.arguments context.names (context.block ∷ context.outer) good (statement_names names s) (statement_grown names s) (told_behind s) containers declared

  no_symbol' : (name : Name) → is_free names name ≡ true → is_among context.symbols name ≡ false
  no_symbol' = no_symbol context.symbols context.functions context.parameters context.arguments context.names (context.block ∷ context.outer) good

  no_symbols : (parameters : List Name) → AllByRecursion (λ name. is_free names name ≡ true) parameters → AllByRecursion (λ parameter. is_among context.symbols parameter ≡ false) parameters
  no_symbols [] free = tt
  no_symbols (parameter ∷ parameters) free = (no_symbol' parameter free.0, no_symbols parameters free.1)

  -- what is declared, with its extents
  pub extents_known : (s : StatementTree) (extents : Expressions) → EachExpression (IsAccepted names) extents → head_varies names (statement_head s) ≡ list_any (varies names) (expression_list extents) → Passes names (site_of context) (statement_head s) →
      AreExtents context.symbols (extents_written extents) × (or_one (affine_list names extents) ≡ map (by_place good.place) (extents_written extents))
  extents_known s extents accepted says passed =
      argument_extents names context.symbols good.place good.named.kept good.known extents accepted
      (sym says ∙ (neither (list_any (any_bound is_rough) (statement_uses context.block.kind s)) (head_varies names (statement_head s)) passed.affine).1)

  statement_said : (s : StatementTree) → IsNoArgument s → IsOfLine s → Passes names (site_of context) (statement_head s) → StatementFits s
  statement_said (argument_array at name bits extents) not' of passed = absurd not'
  statement_said (local_array at name extents bits) not' of passed =
      let s = local_array at name extents bits in
      let free : is_free names name ≡ true = (all_free names [] (name ∷ []) (declares_new names (site_of context) (statement_head s) passed)).0 in
      let known = extents_known s extents (bounds_accepted names (site_of context) s passed of (plain_extents extents)) refl passed in
      let same = local_extents names context.symbols good.place extents of.0 known in
      let new = new_array context.symbols context.functions context.parameters context.arguments context.names (context.block ∷ context.outer) good name free in (
        (name, extents_written extents) ∷ good.arrays,
        (
          array_step context.symbols context.functions context.parameters context.arguments context.names (context.block ∷ context.outer) good (statement_names names s) name (affine_list names extents) (extents_written extents) free known.0 same
              (statement_grown names s) (told_behind s) (array_held context.symbols good.place good.arrays names.containers name (affine_list names extents) (extents_written extents) new known.0 same good.named.held) refl,
          (ap (λ test. cond test (Some (extents_written extents)) (in_force good.arrays name)) ((bytes_eq-Decides name name).1 refl), known.0),
        ),
      )
  statement_said (local_stream at name bits size) not' of passed = (
    good.arrays,
    (
      record {
        grown = statement_grown names (local_stream at name bits size);
        told = told_behind (local_stream at name bits size);
        held = stream_held context.symbols good.place good.arrays names.containers name good.named.held;
        has = λ wanted extents is. is;
        fresh = λ wanted extents is. noted_more names.declared name wanted (good.fresh wanted extents is);
      },
      tt,
    ),
  )
  statement_said (copy at to to_dimensions from from_dimensions) not' of passed =
      let s = copy at to to_dimensions from from_dimensions in
      let accepted = bounds_accepted names (site_of context) s passed of (tt, (tt, tt)) in
      let known = neither (is_unknown_use names (part to to_dimensions)) (is_unknown_use names (part from from_dimensions) || false) (known_of names (site_of context) s passed) in (
        good.arrays,
        (
          as_before s refl refl,
          copy_fits names context.symbols good.place good.arrays above good.named to to_dimensions from from_dimensions known.0 (neither (is_unknown_use names (part from from_dimensions)) false known.1).0
              (sound_dimensions names to_dimensions accepted.0) (sound_dimensions names from_dimensions accepted.1) passed.matching,
        ),
      )
  statement_said (reduce at lambda from to axis identity) not' of passed = absurd of
  statement_said (map_scope at parameters ranges body) not' of passed =
      let s = map_scope at parameters ranges body in
      let same = same_containers parameters names in
      (good.arrays, (as_before s same.0 same.1, no_symbols parameters (all_free names [] parameters (declares_new names (site_of context) (statement_head s) passed))))
  statement_said (consume_scope at from size name element worker body) not' of passed = absurd of
  statement_said (call at name arguments) not' of passed =
      let s = call at name arguments in
      let accepted = bounds_accepted names (site_of context) s passed of (tt, plain_arguments arguments) in
      let known = neither (is_unknown_use names (called name)) (list_any (is_unknown_use names) (map argument arguments)) (known_of names (site_of context) s passed) in
      (good.arrays, (as_before s refl refl, call_fits names context.symbols good.place good.arrays above good.named name arguments known.1 (sound_arguments names arguments accepted) passed.matching))
  statement_said (for_loop at name begin end step body) not' of passed =
      let s = for_loop at name begin end step body in
      (good.arrays, (as_before s refl refl, no_symbol' name (all_free names [] (name ∷ []) (declares_new names (site_of context) (statement_head s) passed)).0))
  statement_said (set at name value) not' of passed =
      let same = local_containers names name in
      (good.arrays, (as_before (set at name value) same.0 same.1, tt))
  statement_said s not' of passed = (good.arrays, (as_before s refl refl, tt))

-- where a statement opens a block
statement_inside : (symbols : List Name) (place : Name → ℕ) (context : Context) (line : ℕ) (scoped : Bool) (s : StatementTree) → IsOfLine s → ((name : Name) → is_among symbols name ≡ true → place name < length context.names.meanings) →
    AllInside symbols place (context.block ∷ context.outer) → let after = context_after context line scoped (statement_head s) in AllInside symbols place (after.block ∷ after.outer)
statement_inside symbols place context line scoped (argument_array at name bits extents) of before all = all
statement_inside symbols place context line scoped (map_scope at parameters ranges body) of before all = (inr before, all)
statement_inside symbols place context line scoped (tasklet at body) of before all = (inr before, all)
statement_inside symbols place context line scoped (for_loop at name begin end step body) of before all = (inr before, all)
statement_inside symbols place context line scoped (while_loop at when body) of before all = (inr before, all)
statement_inside symbols place context line scoped (branch at when body other) of before all = (inr before, all)
statement_inside symbols place context line scoped (tasklet_branch at when body other) of before all = (inr before, all)
statement_inside symbols place context line scoped s of before all = all

pub statement_fits : (context : Context) (line : ℕ) (scoped : Bool) (s : StatementTree) → IsFit context.block.kind (statement_head s) → IsAcceptedLine context (statement_head s) → FitSoFar context → FitSoFar (context_after context line scoped (statement_head s))
statement_fits context line scoped s fit accepted' good =
    let after = context_after context line scoped (statement_head s) in
    let none = no_argument context.block.kind s fit in
    let of = of_line context.block.kind s fit in
    let said = statement_said context good s none of (passes context.names (site_of context) (statement_head s) accepted') in
    let same = statement_passed context line scoped s none in
    let next : FitBy context.symbols context.functions context.parameters context.arguments (statement_names context.names s) (after.block ∷ after.outer) =
    stepped context.symbols context.functions context.parameters context.arguments context.names (context.block ∷ context.outer) good (statement_names context.names s) said.0 (after.block ∷ after.outer) said.1.0
    (statement_blocks (Fits context.symbols said.0 (reverse context.functions)) context line scoped s fit said.1.1)
    (statement_inside context.symbols good.place context line scoped s of (below context.symbols context.functions context.parameters context.arguments context.names (context.block ∷ context.outer) good)) in
    subst (λ symbols. FitBy symbols after.functions after.parameters after.arguments after.names (after.block ∷ after.outer)) (sym same.symbols)
    (subst (λ functions. FitBy context.symbols functions after.parameters after.arguments after.names (after.block ∷ after.outer)) (sym same.functions)
    (subst (λ parameters. FitBy context.symbols context.functions parameters after.arguments after.names (after.block ∷ after.outer)) (sym same.parameters)
    (subst (λ arguments. FitBy context.symbols context.functions context.parameters arguments after.names (after.block ∷ after.outer)) (sym same.arguments)
    (subst (λ names. FitBy context.symbols context.functions context.parameters context.arguments names (after.block ∷ after.outer)) (sym (same_names context line scoped s)) next))))
