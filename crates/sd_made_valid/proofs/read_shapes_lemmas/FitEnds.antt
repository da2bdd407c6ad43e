-- The arguments of a program, and the ends of blocks, keep that shapes fit.
use Rattle.std.proofs.Common.{◌≡◌, ◌⊎◌, inl, inr, ℕ, ◌<◌, List, [], ◌∷◌, ◌++◌, map, length, take, reverse, Bool, true, false, cond, if◌then◌else◌, Some, bytes_eq, refl, ap, sym, ◌∙◌, subst}
use Rattle.std.specs.List.{AllByRecursion}
use Rattle.std.proofs.lemmas.List.{reverse-append}
use Rattle.std.proofs.lemmas.Slice.Eq.{bytes_eq-Decides}
use Rattle.sd_range.specs.declared.affine.Affine.{Affine}
use Rattle.sd_lex.specs.PlainTree.{Expression, Expressions, StatementTree, argument_array, FunctionTree}
use Rattle.sd_lex.specs.TreeFold.{block_listed}
use Rattle.sd_line.specs.line.Head.{HeadTree, statement_head, elif_head, else_head}
use Rattle.sd_names.specs.declared.meaning.Container.{Container}
use Rattle.sd_names.specs.declared.meaning.Meaning.TheVariants.{Symbol, Program as Program_name}
use Rattle.sd_names.specs.declared.meaning.Signature.{Signature}
use Rattle.sd_names.specs.Names.{Name, listed, put, place_of, is_among}
use Rattle.sd_names.specs.Expressions.{affine_list}
use Rattle.sd_names.specs.Extents.{or_one}
use Rattle.sd_refusal.specs.declared.site.Counts.{Counts}
use Rattle.sd_context.specs.context.Context.{Opener, file, function, statement, consumer, if_block, else_block, OpenBlock, Context, site_of}
use Rattle.sd_context.specs.context.After.{context_after}
use Rattle.sd_context.specs.context.Declaring.{statement_names}
use Rattle.sd_context.specs.context.Placing.{with_statements}
use Rattle.sd_context.specs.blocks.Closing.{finished, keeps_containers, names_outside, parameter_of, signature_of, left_by, closed_by, closed_into}
use Rattle.sd_context.specs.blocks.Continuing.{is_elif_or_else, branches_of}
use Rattle.sd_program.specs.Every.{EveryIn}
use Rattle.sd_program.specs.Names.{Named, in_force}
use Rattle.sd_read.proofs.readable_lemmas.kept.Affine.{none_is_not_some}
use Rattle.sd_read.proofs.readable_lemmas.kept.Ahead.{EndsRight}
use Rattle.sd_read.proofs.readable_lemmas.kept.Heads.{AreExtents as HasFewExtents, IsFile, IsOpenedIn, AreNested}
use Rattle.sd_read.proofs.readable_lemmas.kept.Nesting.{top_is_file}
use Rattle.sd_read.proofs.readable_lemmas.kept.NewNames.{declares_new}
use Rattle.sd_read.proofs.readable_lemmas.kept.Passing.{passes, false_is_not_true}
use Rattle.sd_read.proofs.readable_lemmas.kept.Steps.{IsAccepted, Keeps, behind_other}
use Rattle.sd_read.proofs.readable_lemmas.kept.Trees.{all-more}
use Rattle.sd_made_valid.proofs.read_shapes_lemmas.Signatures.{AreTold, take_told, ByTest, ended_told}
use Rattle.sd_made_valid.proofs.read_shapes_lemmas.Blocks.{AllHold, BranchesHold, Held, BlocksHold, blocks_more, file_held, listed_hold, finished_hold, branches_hold}
use Rattle.sd_made_valid.proofs.read_shapes_lemmas.AtTheEnd.{goes_on_is}
use Rattle.sd_made_valid.specs.read_shapes.Fits.{extents_written, parameter_extents, extents_of_programs, AreExtents, Fits, AllFit}
use Rattle.sd_made_valid.proofs.read_shapes_lemmas.Values.{IsListed, by_place}
use Rattle.sd_made_valid.proofs.read_shapes_lemmas.Sound.{plain_extents, bounds_accepted}
use Rattle.sd_made_valid.proofs.read_shapes_lemmas.Said.{AreOf, TellsExtents, AreNamed}
use Rattle.sd_made_valid.proofs.read_shapes_lemmas.Grown.{put_grown, as_it_was, taken_listed, taken_kept, placed_within}
use Rattle.sd_made_valid.proofs.read_shapes_lemmas.Declared.{all_free, AreHeld, array_held}
use Rattle.sd_made_valid.proofs.read_shapes_lemmas.FitSoFar.{AllInside, AreParameters, ArgumentFits, FitBy, FitSoFar, fits_of_lines}
use Rattle.sd_made_valid.proofs.read_shapes_lemmas.FitLines.{stepped_with, arguments_still, array_step, new_array, extents_known}
use Rattle.sd_made_valid.proofs.read_shapes_lemmas.FitHeads.{line_fits}

-- ---- an argument of a program

extents_joined : (arguments : List StatementTree) (line : ℕ) (name : Name) (bits : ℕ) (extents : Expressions) →
    parameter_extents (block_listed (arguments ++ argument_array line name bits extents ∷ [])) ≡ parameter_extents (block_listed arguments) ++ extents_written extents ∷ []
extents_joined [] line name bits extents = refl
extents_joined (argument_array at other bits' extents' ∷ arguments) line name bits extents = ap (λ rest. extents_written extents' ∷ rest) (extents_joined arguments line name bits extents)
extents_joined (s ∷ arguments) line name bits extents = extents_joined arguments line name bits extents

given_one : (symbols : List Name) (place : Name → ℕ) (parameters : List (Name × List Affine)) (extents : List (List Expression)) (name : Name) (own : List Affine) (written : List Expression) →
    AreExtents symbols written → own ≡ map (by_place place) written → AreParameters symbols place parameters extents → AreParameters symbols place (parameters ++ (name, own) ∷ []) (extents ++ written ∷ [])
given_one symbols place [] [] name own written over same are = ((over, same), tt)
given_one symbols place [] (first ∷ extents) name own written over same are = absurd are
given_one symbols place (parameter ∷ parameters) [] name own written over same are = absurd are
given_one symbols place (parameter ∷ parameters) (first ∷ extents) name own written over same are = (are.0, given_one symbols place parameters extents name own written over same are.1)

argument_fits : (context : Context) (line : ℕ) (scoped : Bool) (at : ℕ) (name : Name) (bits : ℕ) (extents : Expressions) → HasFewExtents extents → IsAccepted context (statement_head (argument_array at name bits extents)) → FitSoFar context →
    FitSoFar (context_after context line scoped (statement_head (argument_array at name bits extents)))
argument_fits context line scoped at name bits extents few accepted' good =
    let a = argument_array at name bits extents in
    let names = context.names in
    let passed = passes names (site_of context) (statement_head a) accepted' in
    let written = extents_written extents in
    let own = or_one (affine_list names extents) in
    let free = (all_free names [] (name ∷ []) (declares_new names (site_of context) (statement_head a) passed)).0 in
    let known = extents_known context good a extents (bounds_accepted names (site_of context) a passed few (plain_extents extents)) refl passed in
    let new = new_array context.symbols context.functions context.parameters context.arguments names (context.block ∷ context.outer) good name free in
    let step = array_step context.symbols context.functions context.parameters context.arguments names (context.block ∷ context.outer) good (statement_names names a) name own written free known.0 known.1
    (as_it_was names.meanings) good.named.told (array_held context.symbols good.place good.arrays names.containers name own written new known.0 known.1 good.named.held) refl in
    stepped_with context.symbols context.functions context.parameters context.arguments names (context.block ∷ context.outer) good (statement_names names a) ((name, written) ∷ good.arrays) (context.block ∷ context.outer) step (λ all. all) (λ all. all)
    (context.parameters ++ (name, own) ∷ []) (context.arguments ++ a ∷ [])
    (subst (AreParameters context.symbols good.place (context.parameters ++ (name, own) ∷ [])) (sym (extents_joined context.arguments at name bits extents))
    (given_one context.symbols good.place context.parameters (parameter_extents (block_listed context.arguments)) name own written known.0 known.1 good.given))
    (all-more (ArgumentFits context.symbols ((name, written) ∷ good.arrays)) context.arguments a
    (arguments_still context.symbols context.functions context.parameters context.arguments names (context.block ∷ context.outer) good (statement_names names a) ((name, written) ∷ good.arrays) step)
    (ap (λ test. cond test (Some written) (in_force good.arrays name)) ((bytes_eq-Decides name name).1 refl), known.0))

-- ---- behind a block

-- size symbols come before the names of a block that was opened
symbols_before : (symbols : List Name) (place : Name → ℕ) (about : OpenBlock) (block : OpenBlock) → IsOpenedIn about.kind block.kind block.opener →
    (IsFile block.opener ⊎ ((name : Name) → is_among symbols name ≡ true → place name < block.before.meanings)) → (name : Name) → is_among symbols name ≡ true → place name < block.before.meanings
symbols_before symbols place about block opened either = by_opener block.opener opened either where
  by_opener : (opener : Opener) → IsOpenedIn about.kind block.kind opener → (IsFile opener ⊎ ((name : Name) → is_among symbols name ≡ true → place name < block.before.meanings)) →
      (name : Name) → is_among symbols name ≡ true → place name < block.before.meanings
  by_opener file opened either = absurd opened
  by_opener opener opened (inl is) = absurd is
  by_opener opener opened (inr before) = before

module _ (context : Context) (good : FitSoFar context) (about : OpenBlock) (opened : IsOpenedIn about.kind context.block.kind context.block.opener) where
  abbrev inner : List (Name × Container)
  inner = context.names.containers

  kept_outside : (name : Name) → is_among context.symbols name ≡ true → IsListed (take context.block.before.meanings context.names.meanings) name × (place_of (take context.block.before.meanings context.names.meanings) name ≡ good.place name)
  kept_outside name among =
      let kept = good.named.kept name among in
      let before = symbols_before context.symbols good.place about context.block opened good.inside.0 name among in
      let now = taken_kept context.names.meanings context.block.before.meanings name kept.0 (subst (λ place. place < context.block.before.meanings) (sym kept.1) before) in
      (now.0, now.1 ∙ kept.1)

  held_outside : (keeps : Bool) → AreHeld context.symbols good.place good.arrays (if keeps then inner else take context.block.before.containers inner)
  held_outside true = good.named.held
  held_outside false = λ name extents is. good.named.held name extents (taken_listed inner context.block.before.containers name _ is)

  named_outside : AreNamed (names_outside context.block context.names) context.symbols good.place good.arrays (reverse context.functions)
  named_outside = record {
    kept = kept_outside;
    held = held_outside (keeps_containers context.block.opener);
    told = take_told (TellsExtents (reverse context.functions) context.symbols good.place) context.names.meanings context.block.before.meanings good.named.told;
  }

  known_outside : (name : Name) → listed (take context.block.before.meanings context.names.meanings) name ≡ Some Symbol → is_among context.symbols name ≡ true
  known_outside name is = good.known name (taken_listed context.names.meanings context.block.before.meanings name Symbol is)

  below_outside : (name : Name) → is_among context.symbols name ≡ true → good.place name < length (take context.block.before.meanings context.names.meanings)
  below_outside name among =
      let kept = kept_outside name among in
      subst (λ place. place < length (take context.block.before.meanings context.names.meanings)) kept.1 (placed_within (take context.block.before.meanings context.names.meanings) name kept.0)

  left_fits : (rest blocks : List OpenBlock) → AllInside context.symbols good.place blocks → BlocksHold (Fits context.symbols good.arrays (reverse context.functions)) blocks →
      FitBy context.symbols context.functions context.parameters context.arguments (names_outside context.block context.names) blocks
  left_fits rest blocks inside around = record {
    arrays = good.arrays;
    place = good.place;
    around = around;
    inside = inside;
    named = named_outside;
    known = known_outside;
    fresh = good.fresh;
    given = good.given;
    begun = good.begun;
    ended = good.ended;
  }

-- ---- a program ends

parameters_of : (symbols : List Name) (place : Name → ℕ) (written : List Name) (parameters : List (Name × List Affine)) (extents : List (List Expression)) → AreParameters symbols place parameters extents → AreOf symbols place (map (parameter_of written) parameters) extents
parameters_of symbols place written [] [] are = tt
parameters_of symbols place written [] (first ∷ extents) are = absurd are
parameters_of symbols place written (parameter ∷ parameters) [] are = absurd are
parameters_of symbols place written (parameter ∷ parameters) (first ∷ extents) are = (are.0, parameters_of symbols place written parameters extents are.1)

arguments_every : (symbols : List Name) (arrays : Named (List Expression)) (above : List FunctionTree) (arguments : List StatementTree) → AllByRecursion (ArgumentFits symbols arrays) arguments → EveryIn (Fits symbols arrays above) (block_listed arguments)
arguments_every symbols arrays above [] all = tt
arguments_every symbols arrays above (argument_array line name bits extents ∷ arguments) all = (all.0, arguments_every symbols arrays above arguments all.1)
arguments_every symbols arrays above (s ∷ arguments) all = absurd all.0

function_tells : (above : List FunctionTree) (f : FunctionTree) (symbols : List Name) (place : Name → ℕ) (signature' : Signature) → AreOf symbols place signature'.parameters (parameter_extents f.arguments) → (wanted : Name) (found : Signature) →
    ByTest (bytes_eq wanted f.name) (found ≡ signature') (TellsExtents above symbols place wanted found) → TellsExtents (f ∷ above) symbols place wanted found
function_tells above f symbols place signature' are wanted found = by_test (bytes_eq wanted f.name) where
  own : List (List Expression)
  own = parameter_extents f.arguments

  by_test : (test : Bool) → ByTest test (found ≡ signature') (TellsExtents above symbols place wanted found) →
      (parameters : List (List Expression)) × ((cond test (Some (parameter_extents f.arguments)) (in_force (extents_of_programs above) wanted) ≡ Some parameters) × AreOf symbols place found.parameters parameters)
  by_test true same = (parameter_extents f.arguments, (refl, subst (λ s. AreOf symbols place s.parameters (parameter_extents f.arguments)) (sym same) are))
  by_test false tells = tells

function_fits : (context : Context) (about : OpenBlock) (rest : List OpenBlock) (name : Name) → IsOpenedIn about.kind context.block.kind context.block.opener → IsOpenedIn about.kind context.block.kind (function name) → AreNested about rest → (good : FitSoFar context) →
    AllHold (Fits context.symbols good.arrays (reverse context.functions)) context.block.statements → AllInside context.symbols good.place (about ∷ rest) → FitSoFar (closed_by (function name) about rest context)
function_fits context about rest name opened is shape good held inside =
    let above = reverse context.functions in
    let f : FunctionTree = record { name = name; line = context.block.line; arguments = block_listed context.arguments; body = block_listed context.block.statements } in
    let signature' = signature_of context.written context.parameters context.counts.calls in
    let more : f ∷ above ≡ reverse (context.functions ++ f ∷ []) = sym (reverse-append context.functions (f ∷ [])) in
    let before = take context.block.before.meanings context.names.meanings in
    let grown = put_grown before name (Program_name (Some signature')) (λ none. none) in
    let tells = function_tells above f context.symbols good.place signature' (parameters_of context.symbols good.place context.written context.parameters (parameter_extents (block_listed context.arguments)) good.given) in
    record {
      arrays = [];
      place = good.place;
      around = file_held (Fits context.symbols [] (reverse (context.functions ++ f ∷ []))) about.kind about.opener _ _ (subst (AreNested about) (top_is_file about rest shape is.0) shape).1;
      inside = inside;
      named = record {
        kept = λ wanted among. let outside = kept_outside context good about opened wanted among in let now = grown.kept wanted outside.0 in (now.0, now.1 ∙ outside.1);
        held = λ wanted extents is. none_is_not_some _ is;
        told = subst (λ functions. AreTold (TellsExtents functions context.symbols good.place) (put before name (Program_name (Some signature')))) more
            (ended_told (TellsExtents above context.symbols good.place) before name signature' (TellsExtents (f ∷ above) context.symbols good.place) tells
            (take_told (TellsExtents above context.symbols good.place) context.names.meanings context.block.before.meanings good.named.told));
      };
      known = λ wanted is. known_outside context good about opened wanted (grown.symbols wanted is);
      fresh = λ wanted extents is. none_is_not_some _ is;
      given = tt;
      begun = tt;
      ended = subst AllFit more ((context.symbols, (good.arrays, (arguments_every context.symbols good.arrays above context.arguments good.begun, listed_hold (Fits context.symbols good.arrays above) context.block.statements held))), good.ended);
    }

-- ---- ends of blocks

closed_fits : (context : Context) (about : OpenBlock) (rest : List OpenBlock) → AreNested context.block (about ∷ rest) → EndsRight context.block → (good : FitSoFar context) →
    BlocksHold (Fits context.symbols good.arrays (reverse context.functions)) (context.block ∷ about ∷ rest) → AllInside context.symbols good.place (about ∷ rest) → FitSoFar (closed_by context.block.opener about rest context)
closed_fits context about rest shape right good blocks inside =
    by_opener context.block.opener refl
    (finished_hold Holds (fits_of_lines context.symbols good.arrays (reverse context.functions)) about.kind context.block.kind context.block.line context.block.opener context.block.statements (BlocksHold Holds (about ∷ rest)) shape.0 right blocks) blocks where
      Holds : StatementTree → Type 0
      Holds = Fits context.symbols good.arrays (reverse context.functions)

      left : AllHold Holds (finished context.block) → BlocksHold Holds (about ∷ rest) → FitSoFar (with_statements (finished context.block) (left_by about rest context))
      left done outside = left_fits context good about shape.0 rest (record about { statements = about.statements ++ finished context.block } ∷ rest) inside (blocks_more Holds about rest (finished context.block) done outside)

      by_opener : (opener : Opener) → context.block.opener ≡ opener → AllHold Holds (finished context.block) → Held Holds context.block.kind opener (AllHold Holds context.block.statements) (BlocksHold Holds (about ∷ rest)) →
          FitSoFar (closed_by opener about rest context)
      by_opener file same done held = absurd (subst (IsOpenedIn about.kind context.block.kind) same shape.0)
      by_opener (function name) same done held = function_fits context about rest name shape.0 (subst (IsOpenedIn about.kind context.block.kind) same shape.0) shape.1 good held inside
      by_opener (statement s) same done held = left done held.1.1
      by_opener (consumer line from size name element worker) same done held = left done held.1.1
      by_opener (if_block earlier when) same done held = left done held.1.1
      by_opener (else_block earlier) same done held = left done held.1.1

close_fits : (outer : List OpenBlock) (context : Context) → context.outer ≡ outer → AreNested context.block outer → EndsRight context.block → FitSoFar context → FitSoFar (closed_into outer context)
close_fits [] context is shape right good = good
close_fits (about ∷ rest) context is shape right good =
    closed_fits context about rest shape right good (subst (λ outer. BlocksHold (Fits context.symbols good.arrays (reverse context.functions)) (context.block ∷ outer)) is good.around)
    (subst (AllInside context.symbols good.place) is good.inside.1)

-- ---- `elif` and `else`

next_fits : (context : Context) (counts : Counts) (about : OpenBlock) (outer : List OpenBlock) (line : ℕ) (head : HeadTree) → is_elif_or_else head ≡ true → IsOpenedIn about.kind context.block.kind context.block.opener → (good : FitSoFar context) →
    (let Holds = Fits context.symbols good.arrays (reverse context.functions) in BranchesHold Holds (branches_of context.block.line context.block.statements context.block.opener) × BlocksHold Holds (about ∷ outer)) →
    AllInside context.symbols good.place (about ∷ outer) → FitSoFar (behind_other context counts about outer line head)
next_fits context counts about outer line (elif_head when) on opened good blocks inside = left_fits context good about opened outer _ (inr (below_outside context good about opened), inside) (blocks.0, (tt, blocks.1))
next_fits context counts about outer line else_head on opened good blocks inside = left_fits context good about opened outer _ (inr (below_outside context good about opened), inside) (blocks.0, (tt, blocks.1))
next_fits context counts about outer line head on opened good blocks inside = false_is_not_true on

pub shapes_are_kept : Keeps FitSoFar
shapes_are_kept = record {
  begin = record {
    arrays = [];
    place = λ name. 0;
    around = tt;
    inside = (inl tt, tt);
    named = record { kept = λ name among. false_is_not_true among; held = λ name extents is. none_is_not_some _ is; told = λ name signature' is. none_is_not_some _ is };
    known = λ name is. none_is_not_some _ is;
    fresh = λ name extents is. none_is_not_some _ is;
    given = tt;
    begun = tt;
    ended = tt;
  };
  pass = λ context line scoped head fit due accepted' shape good. line_fits context line scoped head fit accepted' shape good;
  argument = λ context line scoped at name bits extents few begun accepted' shape good. argument_fits context line scoped at name bits extents few accepted' good;
  close = λ context counts free counted right shape good. close_fits context.outer (record context { counts = counts }) refl shape right good;
  go_on = λ context counts about outer line head free is on counted fit accepted' shape good.
      let Holds = Fits context.symbols good.arrays (reverse context.functions) in
      next_fits context counts about outer line head (goes_on_is head context.block.opener on) (subst (AreNested context.block) is shape).0 good
      (branches_hold Holds context.block.kind context.block.line context.block.statements head context.block.opener (BlocksHold Holds (about ∷ outer)) on (subst (λ outer. BlocksHold Holds (context.block ∷ outer)) is good.around))
      (subst (AllInside context.symbols good.place) is good.inside.1);
}
