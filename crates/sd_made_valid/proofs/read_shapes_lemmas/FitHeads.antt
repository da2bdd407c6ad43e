-- Lines that are no statements keep that shapes fit.
use Rattle.std.proofs.Common.{◌≡◌, ◌⊎◌, inl, inr, ℕ, ◌<◌, ℤ, pos, List, [], ◌∷◌, ◌++◌, map, length, reverse, Bool, true, false, not, ◌||◌, cond, if◌then◌else◌, Option, Some, None, is_some, bytes_eq, refl, ap, sym, ◌∙◌, subst}
use Rattle.std.specs.List.{AllByRecursion}
use Rattle.std.proofs.lemmas.Slice.Eq.{bytes_eq-Decides}
use Rattle.sd_range.specs.declared.affine.Affine.{Affine}
use Rattle.sd_lex.specs.PlainTree.{Expression, number, named, element_at, one, two, choice, StatementTree, argument_array, reduce, consume_scope, no_statement, Block, FunctionTree}
use Rattle.sd_lex.specs.TreeFold.{block_listed}
use Rattle.sd_line.specs.declared.line.head.BlockKind.{BlockKind}
use Rattle.sd_line.specs.declared.line.head.BlockKind.TheVariants.{Top, Program, Scope, Tasklet}
use Rattle.sd_line.specs.line.Head.{HeadTree, symbol_line, program_head, statement_head, reduce_head, input_head, output_head, consume_head}
use Rattle.sd_phrase.specs.Memlet.{LambdaTree}
use Rattle.sd_names.specs.declared.meaning.Container.{Container}
use Rattle.sd_names.specs.declared.meaning.Meaning.{Meaning}
use Rattle.sd_names.specs.declared.meaning.Meaning.TheVariants.{Symbol, Program as Program_name}
use Rattle.sd_names.specs.declared.meaning.Parameter.{Parameter}
use Rattle.sd_names.specs.Names.{Name, Names, listed, put, place_of, is_among, is_free, extents_of}
use Rattle.sd_names.specs.Expressions.{optional}
use Rattle.sd_names.specs.Extents.{one_extent}
use Rattle.sd_refusal.specs.OverLimit.{is_tasklet}
use Rattle.sd_uses.specs.ShapeMismatch.{left_over, is_left_over}
use Rattle.sd_uses.specs.UnknownName.{is_unknown_use}
use Rattle.sd_uses.specs.Uses.{part}
use Rattle.sd_context.specs.context.Context.{OpenBlock, Context, site_of}
use Rattle.sd_context.specs.context.After.{context_after}
use Rattle.sd_context.specs.context.Declaring.{names_behind, element_names, with_worker}
use Rattle.sd_context.specs.context.Placing.{consume_kind, kind_in, lambda_or_last}
use Rattle.sd_program.specs.Affines.{affine_variable, affine_one, affine_two}
use Rattle.sd_program.specs.Names.{Named, in_force}
use Rattle.sd_read.proofs.readable_lemmas.kept.Affine.{negated, none_is_not_some}
use Rattle.sd_read.proofs.readable_lemmas.kept.Heads.{Fits as IsFit, AreNested}
use Rattle.sd_read.proofs.readable_lemmas.kept.InForce.{listed-put}
use Rattle.sd_read.proofs.readable_lemmas.kept.Nesting.{top_is_file}
use Rattle.sd_read.proofs.readable_lemmas.kept.NewNames.{declares_new}
use Rattle.sd_read.proofs.readable_lemmas.kept.Passing.{Passes, passes, neither, true_is_not_false}
use Rattle.sd_read.proofs.readable_lemmas.kept.Steps.{IsAccepted, IsWellNested}
use Rattle.sd_made_valid.proofs.read_shapes_lemmas.Signatures.{AreTold, line_told}
use Rattle.sd_made_valid.proofs.read_shapes_lemmas.Noted.{longer_among, last_among}
use Rattle.sd_made_valid.proofs.read_shapes_lemmas.Blocks.{BlocksHold, blocks_more, consumer_held, file_held}
use Rattle.sd_made_valid.specs.read_shapes.Fits.{extents_written, parameter_extents, IsOver, AreExtents, Fits}
use Rattle.sd_made_valid.proofs.read_shapes_lemmas.Values.{IsListed, by_place}
use Rattle.sd_made_valid.proofs.read_shapes_lemmas.Said.{AreOf, TellsExtents, reduce_fits}
use Rattle.sd_made_valid.proofs.read_shapes_lemmas.Grown.{IsGrown, as_it_was, put_listed, put_place, put_grown, consumer_grown}
use Rattle.sd_made_valid.proofs.read_shapes_lemmas.Declared.{all_free, AreHeld, array_held}
use Rattle.sd_made_valid.proofs.read_shapes_lemmas.FitSoFar.{AllInside, AreParameters, ArgumentFits, FitBy, FitSoFar}
use Rattle.sd_made_valid.proofs.read_shapes_lemmas.FitLines.{IsStep, stepped, same_step, array_step, new_array, below, statement_fits}

-- ---- lines that are no statements

module _ (context : Context) (line : ℕ) (scoped : Bool) (good : FitSoFar context) where
  abbrev IsNext : Names → Named (List Expression) → Type 0
  IsNext after more = IsStep context.symbols context.functions context.parameters context.arguments context.names (context.block ∷ context.outer) good after more

  told_behind : (head : HeadTree) → AreTold (TellsExtents (reverse context.functions) context.symbols good.place) (names_behind context.names scoped head).meanings
  told_behind head = line_told (TellsExtents (reverse context.functions) context.symbols good.place) context.names scoped head good.named.told

  next : (after : Names) (more : Named (List Expression)) (around : List OpenBlock) → IsNext after more →
      (BlocksHold (Fits context.symbols more (reverse context.functions)) (context.block ∷ context.outer) → BlocksHold (Fits context.symbols more (reverse context.functions)) around) →
      (AllInside context.symbols good.place (context.block ∷ context.outer) → AllInside context.symbols good.place around) → FitBy context.symbols context.functions context.parameters context.arguments after around
  next = stepped context.symbols context.functions context.parameters context.arguments context.names (context.block ∷ context.outer) good

  unchanged : (after : Names) → IsGrown context.names.meanings after.meanings → AreTold (TellsExtents (reverse context.functions) context.symbols good.place) after.meanings → after.containers ≡ context.names.containers → after.declared ≡ context.names.declared → IsNext after good.arrays
  unchanged = same_step context.symbols context.functions context.parameters context.arguments context.names (context.block ∷ context.outer) good

  below' : (name : Name) → is_among context.symbols name ≡ true → good.place name < length context.names.meanings
  below' = below context.symbols context.functions context.parameters context.arguments context.names (context.block ∷ context.outer) good

  reduced_fits : (lambda : LambdaTree) (from to : Name) (axis identity : Option ℤ) → Passes context.names (site_of context) (reduce_head lambda from to axis identity) →
      Fits context.symbols good.arrays (reverse context.functions) (reduce line (lambda_or_last (kind_in lambda)) from to axis identity)
  reduced_fits lambda from to axis identity passed =
      let halves = neither (bytes_eq from to) (not (is_left_over (left_over axis (extents_of context.names from)) (extents_of context.names to))) passed.matching in
      let known = neither (is_unknown_use context.names (part from [])) (is_unknown_use context.names (part to []) || false) passed.known in
      reduce_fits context.names context.symbols good.place good.arrays (reverse context.functions) good.named from to axis known.0 (neither (is_unknown_use context.names (part to [])) false known.1).0
      (negated (is_left_over (left_over axis (extents_of context.names from)) (extents_of context.names to)) halves.1) halves.0

  -- the element of a consume scope is an array with one element, where it is no tasklet
  worker_same : (worker : Option Name) (names : Names) → ((with_worker worker names).containers ≡ names.containers) × ((with_worker worker names).declared ≡ names.declared)
  worker_same None names = (refl, refl)
  worker_same (Some name) names = (refl, refl)

  abbrev ElementFits : Bool → (element : Name) → (worker : Option Name) → Type 0
  ElementFits scoped' element worker = (more : Named (List Expression)) × (IsNext (with_worker worker (element_names scoped' context.names element)) more
      × ((at : ℕ) (stream : Name) (size : ℤ) (name : Name) (worker : Option Name) → is_tasklet (consume_kind scoped') ≡ false → Fits context.symbols more (reverse context.functions) (consume_scope at stream size name element worker no_statement)))

  element_fits : (scoped' : Bool) (element : Name) (worker : Option Name) → is_free context.names element ≡ true →
      AreTold (TellsExtents (reverse context.functions) context.symbols good.place) (with_worker worker (element_names scoped' context.names element)).meanings → ElementFits scoped' element worker
  element_fits true element worker free told =
      let same' = worker_same worker (element_names true context.names element) in
      (good.arrays, (unchanged (with_worker worker (element_names true context.names element)) (consumer_grown true context.names element worker) told same'.0 same'.1, λ at stream size name worker is. true_is_not_false is))
  element_fits false element worker free told =
      let one' : List Expression = number (pos 1) ∷ [] in
      let new = new_array context.symbols context.functions context.parameters context.arguments context.names (context.block ∷ context.outer) good element free in
      let same' = worker_same worker (element_names false context.names element) in
      let held = array_held context.symbols good.place good.arrays context.names.containers element (one_extent ∷ []) one' new ((tt, tt), tt) refl good.named.held in (
        (element, one') ∷ good.arrays,
        (
          array_step context.symbols context.functions context.parameters context.arguments context.names (context.block ∷ context.outer) good (with_worker worker (element_names false context.names element)) element (one_extent ∷ []) one' free ((tt, tt), tt) refl
              (consumer_grown false context.names element worker) told (subst (AreHeld context.symbols good.place ((element, one') ∷ good.arrays)) (sym same'.0) held) same'.1,
          λ at stream size name worker is none. ap (λ test. cond test (Some one') (in_force good.arrays element)) ((bytes_eq-Decides element element).1 refl),
        ),
      )

  consume_fits : (name element : Name) (worker : Option Name) → Passes context.names (site_of context) (consume_head name element worker) → FitSoFar (context_after context line scoped (consume_head name element worker))
  consume_fits name element worker passed =
      let free : is_free context.names element ≡ true = (all_free context.names [] (element ∷ optional worker) (declares_new context.names (site_of context) (consume_head name element worker) passed)).0 in
      let said = element_fits scoped element worker free (told_behind (consume_head name element worker)) in
      let after = context_after context line scoped (consume_head name element worker) in
      next after.names said.0 (after.block ∷ after.outer) said.1.0
      (λ all. consumer_held (Fits context.symbols said.0 (reverse context.functions)) (consume_kind scoped) context.awaited name element worker (BlocksHold (Fits context.symbols said.0 (reverse context.functions)) (context.block ∷ context.outer))
      (λ at stream size is. said.1.1 at stream size name worker is) all)
      (λ all. (inr below', all))

  program_fits : (name : Name) (arguments : Block) → FitSoFar (context_after context line scoped (program_head name arguments))
  program_fits name arguments =
      let grown = put_grown context.names.meanings name (Program_name None) (λ none. none) in
      record {
        arrays = [];
        place = good.place;
        around = tt;
        inside = (inr below', good.inside);
        named = record {
          kept = λ wanted among. let before = good.named.kept wanted among in let now = grown.kept wanted before.0 in (now.0, now.1 ∙ before.1);
          held = λ wanted extents is. none_is_not_some _ is;
          told = told_behind (program_head name arguments);
        };
        known = λ wanted is. good.known wanted (grown.symbols wanted is);
        fresh = λ wanted extents is. none_is_not_some _ is;
        given = tt;
        begun = tt;
        ended = good.ended;
      }

-- ---- one more size symbol

-- extents over size symbols whose places stay
module _ (symbols more : List Name) (place there : Name → ℕ) (so : (name : Name) → is_among symbols name ≡ true → (is_among more name ≡ true) × (place name ≡ there name)) where
  over_more : (e : Expression) → IsOver symbols e → IsOver more e × (by_place place e ≡ by_place there e)
  over_more (number value) over = (tt, refl)
  over_more (named name) over = let found = so name over in (found.0, ap affine_variable found.1)
  over_more (element_at name at) over = (tt, refl)
  over_more (one sign of) over = let inside = over_more of over in (inside.0, ap (affine_one sign) inside.1)
  over_more (two sign left right) over =
      let first = over_more left over.0 in
      let second = over_more right over.1 in
      ((first.0, second.0), λ i. affine_two sign (first.1 i) (second.1 i))
  over_more (choice value when other) over = (tt, refl)

  extents_more : (extents : List Expression) → AreExtents symbols extents → AreExtents more extents × (map (by_place place) extents ≡ map (by_place there) extents)
  extents_more [] are = (tt, refl)
  extents_more (e ∷ extents) are =
      let first = over_more e are.0.1 in
      let rest = extents_more extents are.1 in
      (((are.0.0, first.0), rest.0), λ i. first.1 i ∷ rest.1 i)

  parameters_more : (parameters : List Parameter) (extents : List (List Expression)) → AreOf symbols place parameters extents → AreOf more there parameters extents
  parameters_more [] [] are = tt
  parameters_more [] (first ∷ extents) are = absurd are
  parameters_more (parameter ∷ parameters) [] are = absurd are
  parameters_more (parameter ∷ parameters) (first ∷ extents) are =
      let now = extents_more first are.0.0 in
      ((now.0, are.0.1 ∙ now.1), parameters_more parameters extents are.1)

  given_more : (parameters : List (Name × List Affine)) (extents : List (List Expression)) → AreParameters symbols place parameters extents → AreParameters more there parameters extents
  given_more [] [] are = tt
  given_more [] (first ∷ extents) are = absurd are
  given_more (parameter ∷ parameters) [] are = absurd are
  given_more (parameter ∷ parameters) (first ∷ extents) are =
      let now = extents_more first are.0.0 in
      ((now.0, are.0.1 ∙ now.1), given_more parameters extents are.1)

  begun_more : (arrays : Named (List Expression)) (arguments : List StatementTree) → AllByRecursion (ArgumentFits symbols arrays) arguments → AllByRecursion (ArgumentFits more arrays) arguments
  begun_more arrays [] all = tt
  begun_more arrays (s ∷ arguments) all = (one_more s all.0, begun_more arrays arguments all.1) where
    one_more : (s : StatementTree) → ArgumentFits symbols arrays s → ArgumentFits more arrays s
    one_more (argument_array line name bits extents) fit = (fit.0, (extents_more (extents_written extents) fit.1).0)
    one_more s fit = absurd fit

  told_more : (above : List FunctionTree) (meanings : List (Name × Meaning)) → AreTold (TellsExtents above symbols place) meanings → AreTold (TellsExtents above more there) meanings
  told_more above meanings told name signature' is = let tells = told name signature' is in (tells.0, (tells.1.0, parameters_more signature'.parameters tells.0 tells.1.1))

  held_more : (arrays : Named (List Expression)) (containers : List (Name × Container)) → AreHeld symbols place arrays containers → AreHeld more there arrays containers
  held_more arrays containers held name extents is =
      let before = held name extents is in
      let now = extents_more before.0 before.1.1.0 in
      (before.0, (before.1.0, (now.0, before.1.1.1 ∙ now.1)))

among_last : (symbols : List Name) (name wanted : Name) → is_among (symbols ++ name ∷ []) wanted ≡ true → (is_among symbols wanted ≡ true) ⊎ (wanted ≡ name)
among_last [] name wanted is = by_test (bytes_eq wanted name) refl is where
  by_test : (test : Bool) → bytes_eq wanted name ≡ test → test || false ≡ true → (false ≡ true) ⊎ (wanted ≡ name)
  by_test true same is = inr ((bytes_eq-Decides wanted name).0 same)
  by_test false same is = inl is
among_last (first ∷ symbols) name wanted is = by_test (bytes_eq wanted first) is (among_last symbols name wanted) where
  by_test : (test : Bool) → test || is_among (symbols ++ name ∷ []) wanted ≡ true → (is_among (symbols ++ name ∷ []) wanted ≡ true → (is_among symbols wanted ≡ true) ⊎ (wanted ≡ name)) → (test || is_among symbols wanted ≡ true) ⊎ (wanted ≡ name)
  by_test true is later = inl refl
  by_test false is later = later is

symbol_top : (kind : BlockKind) (name quoted : Name) → IsFit kind (symbol_line name quoted) → kind ≡ Top
symbol_top Top name quoted fit = refl
symbol_top Program name quoted fit = absurd fit
symbol_top Scope name quoted fit = absurd fit
symbol_top Tasklet name quoted fit = absurd fit

file_open : (Holds : StatementTree → Type 0) (symbols : List Name) (place : Name → ℕ) (block : OpenBlock) (outer : List OpenBlock) → AreNested block outer → block.kind ≡ Top → BlocksHold Holds (block ∷ outer) × AllInside symbols place (block ∷ outer)
file_open Holds symbols place block outer nested top =
    let alone = top_is_file block outer nested top in
    let is = (subst (AreNested block) alone nested).1 in
    subst (λ outer. BlocksHold Holds (block ∷ outer) × AllInside symbols place (block ∷ outer)) (sym alone) (file_held Holds block.kind block.opener _ _ is, (inl is, tt))

symbol_fits : (context : Context) (line : ℕ) (scoped : Bool) (name quoted : Name) → IsFit context.block.kind (symbol_line name quoted) → IsWellNested context → FitSoFar context → FitSoFar (context_after context line scoped (symbol_line name quoted))
symbol_fits context line scoped name quoted fit shape good =
    let meanings = put context.names.meanings name Symbol in
    let more = context.symbols ++ name ∷ [] in
    let there : Name → ℕ = place_of meanings in
    let so : (wanted : Name) → is_among context.symbols wanted ≡ true → (is_among more wanted ≡ true) × (good.place wanted ≡ there wanted) = λ wanted among.
    let kept = good.named.kept wanted among in (longer_among context.symbols name wanted among, sym (put_place context.names.meanings name Symbol wanted kept.0 ∙ kept.1)) in
    let blocks = file_open (Fits more good.arrays (reverse context.functions)) more there context.block context.outer shape (symbol_top context.block.kind name quoted fit) in
    record {
      arrays = good.arrays;
      place = there;
      around = blocks.0;
      inside = blocks.1;
      named = record {
        kept = λ wanted among. (listed_now wanted (among_last context.symbols name wanted among), refl);
        held = held_more context.symbols more good.place there so good.arrays context.names.containers good.named.held;
        told = told_more context.symbols more good.place there so (reverse context.functions) meanings (line_told (TellsExtents (reverse context.functions) context.symbols good.place) context.names scoped (symbol_line name quoted) good.named.told);
      };
      known = λ wanted is. known_now wanted (bytes_eq wanted name) refl (sym (listed-put context.names.meanings name Symbol wanted) ∙ is);
      fresh = good.fresh;
      given = given_more context.symbols more good.place there so context.parameters (parameter_extents (block_listed context.arguments)) good.given;
      begun = begun_more context.symbols more good.place there so good.arrays context.arguments good.begun;
      ended = good.ended;
    } where
      listed_now : (wanted : Name) → (is_among context.symbols wanted ≡ true) ⊎ (wanted ≡ name) → IsListed (put context.names.meanings name Symbol) wanted
      listed_now wanted (inl among) = put_listed context.names.meanings name Symbol wanted (good.named.kept wanted among).0
      listed_now wanted (inr same) = subst (IsListed (put context.names.meanings name Symbol)) (sym same)
          (ap is_some (listed-put context.names.meanings name Symbol name) ∙ ap (λ test. is_some (if test then Some Symbol else listed context.names.meanings name)) ((bytes_eq-Decides name name).1 refl))

      known_now : (wanted : Name) (test : Bool) → bytes_eq wanted name ≡ test → (if test then Some Symbol else listed context.names.meanings wanted) ≡ Some Symbol → is_among (context.symbols ++ name ∷ []) wanted ≡ true
      known_now wanted true same is = subst (λ wanted. is_among (context.symbols ++ name ∷ []) wanted ≡ true) (sym ((bytes_eq-Decides wanted name).0 same)) (last_among context.symbols name)
      known_now wanted false same is = longer_among context.symbols name wanted (good.known wanted is)

-- ---- lines

pub line_fits : (context : Context) (line : ℕ) (scoped : Bool) (head : HeadTree) → IsFit context.block.kind head → IsAccepted context head → IsWellNested context → FitSoFar context → FitSoFar (context_after context line scoped head)
line_fits context line scoped (symbol_line name quoted) fit accepted' shape good = symbol_fits context line scoped name quoted fit shape good
line_fits context line scoped (program_head name arguments) fit accepted' shape good = program_fits context line scoped good name arguments
line_fits context line scoped (statement_head s) fit accepted' shape good = statement_fits context line scoped s fit accepted' good
line_fits context line scoped (reduce_head lambda from to axis identity) fit accepted' shape good =
    next context line scoped good context.names good.arrays _ (unchanged context line scoped good context.names (as_it_was context.names.meanings) good.named.told refl refl)
    (λ all. blocks_more (Fits context.symbols good.arrays (reverse context.functions)) context.block context.outer (_ ∷ [])
    (reduced_fits context line scoped good lambda from to axis identity (passes context.names (site_of context) (reduce_head lambda from to axis identity) accepted'), tt) all) (λ all. all)
line_fits context line scoped (input_head connector memlet) fit accepted' shape good =
    next context line scoped good (names_behind context.names scoped (input_head connector memlet)) good.arrays _
    (unchanged context line scoped good (names_behind context.names scoped (input_head connector memlet)) (put_grown context.names.meanings connector _ (λ none. none)) (told_behind context line scoped good (input_head connector memlet)) refl refl)
    (λ all. blocks_more (Fits context.symbols good.arrays (reverse context.functions)) context.block context.outer (_ ∷ []) (tt, tt) all) (λ all. all)
line_fits context line scoped (output_head connector memlet) fit accepted' shape good =
    next context line scoped good (names_behind context.names scoped (output_head connector memlet)) good.arrays _
    (unchanged context line scoped good (names_behind context.names scoped (output_head connector memlet)) (put_grown context.names.meanings connector _ (λ none. none)) (told_behind context line scoped good (output_head connector memlet)) refl refl)
    (λ all. blocks_more (Fits context.symbols good.arrays (reverse context.functions)) context.block context.outer (_ ∷ []) (tt, tt) all) (λ all. all)
line_fits context line scoped (consume_head name element worker) fit accepted' shape good =
    consume_fits context line scoped good name element worker (passes context.names (site_of context) (consume_head name element worker) accepted')
line_fits context line scoped head fit accepted' shape good = good
