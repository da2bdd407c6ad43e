-- In the bound graph of a program that was read all code is small.
use Rattle.std.proofs.Common.{◌≡◌, inl, inr, ℕ, ◌+◌, ◌≤◌, max, ℤ, List, [], ◌∷◌, map, Some, Ok, Bool, true, false, refl, sym, subst, arith}
use Rattle.std.proofs.Math.Nat.{max-le}
use Rattle.std.proofs.lemmas.Option.{same_Some}
use Rattle.std.specs.List.{AllByRecursion, list_all}
use Rattle.sd_lex.specs.PlainTree.{Expression, named, element_at, two, Expressions, StatementTree, assign, copy, reduce, map_scope, tasklet, consume_scope, call, while_loop, branch, Block, ProgramTree}
use Rattle.sd_lex.specs.declared.syntax.operator.TwoSign.TheVariants.{Add, Less}
use Rattle.sd_graph.specs.PlainTree.{KindTree, GraphTree, ExitTree, GuardTree}
use Rattle.sd_program.specs.Bounds.{EachBound}
use Rattle.sd_program.specs.IsAffine.{IsAffine}
use Rattle.sd_program.specs.Limits.{elements_in, own_element, HasFewReads, HasSmallTask}
use Rattle.sd_program.specs.Names.{Name}
use Rattle.sd_program.specs.Place.{Around, program, scope, task, signature, Place, in_tasklet, in_consume, EveryAt, EveryFrom, EveryPlace}
use Rattle.sd_program.specs.WellFormed.{IsWellFormed}
use Rattle.sd_source.specs.source.SourceReading.{reads}
use Rattle.sd_read.specs.readable.Levels.{levels_in, value_levels, HasFewLevels}
use Rattle.sd_read.proofs.readable_lemmas.Fields.{well_formed, levels_of_program}
use Rattle.sd_task.specs.task.Table.{Table}
use Rattle.sd_task.specs.task.ElementCode.{guard_of, element_task}
use Rattle.sd_elab.specs.items.Items.{taken_link}
use Rattle.sd_elab.specs.items.Kinds.{kind_of}
use Rattle.sd_elab.specs.states.Exits.{if_holds}
use Rattle.sd_elab.specs.elab.Elaboration.{graph_of}
use Rattle.sd_valid.specs.BoundExpression.{bound_assignment, bound_link}
use Rattle.sd_valid.specs.BoundTree.{bound_exit, bound_graph}
use Rattle.sd_valid.specs.SizeValues.{NamedSizes, sizes_in}
use Rattle.sd_valid.specs.Binding.{binding}
use Rattle.sd_validity.specs.rules.Places.{Thing, whole, leaving, doing, Place as GraphPlace, Scopes, all_places, places_of}
use Rattle.sd_validity.specs.rules.Parts.{is_exit_passed, is_thing_passed}
use Rattle.sd_validity.specs.bound_places.BoundPlace.{bound_thing, bound_place}
use Rattle.sd_validity.proofs.bound_places_lemmas.EachPlace.{AtThing, AtPlace, graph_places}
use Rattle.sd_validity.proofs.bound_places_lemmas.Asked.{all_mapped}
use Rattle.sd_validity.proofs.bound_places_lemmas.BoundPlaces.{graph_bound}
use Rattle.sd_made.proofs.places_lemmas.Made.{IsAround}
use Rattle.sd_made.proofs.places_lemmas.Given.{so_from}
use Rattle.sd_made.proofs.places_lemmas.Givens.{everywhere_at, both_places}
use Rattle.sd_made.proofs.places_lemmas.Bound.{bound_is}
use Rattle.sd_made.proofs.depths_lemmas.Made.{IsItem, IsExit, IsAsked}
use Rattle.sd_made.proofs.depths_lemmas.Told.{Whole, Leaving, Doing, IsTold, program_told}
use Rattle.sd_made_valid.specs.code.Code.{code_tests}
use Rattle.sd_made_valid.proofs.code_lemmas.Expressions.{affine_reads, value_brief}
use Rattle.sd_made_valid.proofs.code_lemmas.Tasklets.{tasklet_brief, taking_brief}
use Rattle.sd_made_valid.proofs.code_lemmas.Bound.{HasBriefCode, brief_bound, links_passed, sets_passed, kind_passed}

-- ---- what is given of each statement

pub record IsShort (place : Place) (statement : StatementTree) : Type 0 where
  pub reads : HasFewReads place statement
  pub task : HasSmallTask statement
  pub levels : HasFewLevels place statement
  pub affine : EachBound IsAffine statement

shallow_from : (place : Place) (block : Block) → EveryFrom IsShort place block → EveryFrom HasFewLevels place block
shallow_from = so_from IsShort HasFewLevels (λ place statement given. given.levels)

-- ---- items

most_levels : (around : Around) (add : Bool) → value_levels around add ≤ 64
most_levels program true = omega arith
most_levels program false = omega arith
most_levels scope add = omega arith
most_levels task add = omega arith
most_levels signature add = omega arith

element_brief : (table : Table) (in_scope add : Bool) (name : Name) (at : Expressions) (value : Expression) (around : Around) → IsAround in_scope around → elements_in value + (own_element around add + 1) ≤ 64 →
    levels_in value ≤ value_levels around add → HasBriefCode (element_task table in_scope name at add value)
element_brief table in_scope false name at value around stands few shallow = value_brief table value (omega (arith, few)) (omega (arith, shallow, most_levels around false))
element_brief table true true name at value around stands few shallow = value_brief table value (omega (arith, few)) (omega (arith, shallow, most_levels around true))
element_brief table false true name at value around stands few shallow =
    let reads : elements_in value + (1 + 1) ≤ 64 = subst (λ around. elements_in value + (own_element around true + 1) ≤ 64) stands few in
    let levels : levels_in value ≤ 63 = subst (λ around. levels_in value ≤ value_levels around true) stands shallow in
    let most : max 0 (levels_in value) ≤ 63 = max-le (omega arith) levels in
    value_brief table (two Add (element_at name at) value) (omega (arith, reads)) (omega (arith, most))

statement_brief : (statement : StatementTree) (in_scope : Bool) (place : Place) (table : Table) (container variable : ℕ) (graphs : Name → GraphTree) (kind : KindTree) → IsAround in_scope place.around →
    EveryAt IsShort place statement → kind_of graphs statement in_scope table container variable ≡ Some kind → HasBriefCode kind
statement_brief (assign line name at add value) in_scope place table container variable graphs kind around given made =
    subst HasBriefCode (same_Some _ kind made) (element_brief table in_scope add name at value place.around around given.reads given.levels.1.0)
statement_brief (copy line to to_dimensions from from_dimensions) in_scope place table container variable graphs kind around given made = subst HasBriefCode (same_Some _ kind made) tt
statement_brief (reduce line lambda from to axis identity) in_scope place table container variable graphs kind around given made = subst HasBriefCode (same_Some _ kind made) tt
statement_brief (map_scope line parameters ranges body) in_scope place table container variable graphs kind around given made = subst HasBriefCode (same_Some _ kind made) tt
statement_brief (tasklet line body) in_scope place table container variable graphs kind around given made =
    subst HasBriefCode (same_Some _ kind made) (tasklet_brief table body (in_tasklet place) (omega (arith, given.0.task.0)) given.0.task.1 (shallow_from (in_tasklet place) body given.1))
statement_brief (consume_scope line stream size name element worker body) in_scope place table container variable graphs kind around given made = subst HasBriefCode (same_Some _ kind made) tt
statement_brief (call line name arguments) in_scope place table container variable graphs kind around given made = subst HasBriefCode (same_Some _ kind made) tt
statement_brief statement in_scope place table container variable graphs kind around given made = cc

item_brief : (loops : ℕ) (scopes : Scopes) (kind : KindTree) → IsItem IsShort loops scopes kind → HasBriefCode kind
item_brief loops scopes kind (inl is) = statement_brief is.statement is.in_scope is.place is.table is.container is.variable is.graphs kind is.around is.given is.made
item_brief loops scopes kind (inr is) =
    let small = is.scope.task is.connects in
    let place : Place = in_consume true is.element is.place in
    subst HasBriefCode (sym is.made) (taking_brief is.table (taken_link is.element is.container) is.body place small.0 small.1 (shallow_from place is.body is.given))

-- ---- conditions

abbrev IsFewAsked : Expression → Type 0
IsFewAsked when = (elements_in when + 1 ≤ 64) × (levels_in when ≤ 64)

asked_few : (place : Place) (statement : StatementTree) (line : ℕ) (when : Expression) → EveryAt IsShort place statement → IsAsked IsShort statement line when → IsFewAsked when
asked_few place (while_loop line when body) line' when' given asked = subst IsFewAsked asked.1 (given.0.reads, given.0.levels.0)
asked_few place (branch line when body other) line' when' given asked = subst IsFewAsked asked.1 (given.0.reads, given.0.levels.0)
asked_few place statement line' when' given asked = absurd asked

module _ (sizes : List ℤ) where
  abbrev IsPassed : ExitTree → Type 0
  IsPassed exit = is_exit_passed code_tests (bound_exit sizes exit) ≡ true

  guard_passed : (table : Table) (line : ℕ) (when : Expression) (to : ℕ) → IsFewAsked when → IsPassed (if_holds (guard_of table line when) to)
  guard_passed table line when to few =
      let guard : GuardTree = guard_of table line when in
      rw (links_passed (map (bound_link sizes) guard.reads), brief_bound sizes guard.code (value_brief table when few.0 few.1)) refl

  exit_passed : (begun : List ℕ) (exit : ExitTree) → IsExit IsShort begun exit → IsPassed exit
  exit_passed begun exit (inl none) = rw none (sets_passed (map (bound_assignment sizes) exit.set))
  exit_passed begun exit (inr (inl (is, none))) = subst IsPassed (sym is.made) (guard_passed is.table is.line is.when is.to (asked_few is.place is.statement is.line is.when is.given is.asked))
  exit_passed begun exit (inr (inr is)) =
      let most : max 0 (levels_in is.end) ≤ 63 = max-le (omega arith) is.given.0.levels.1.0 in
      subst IsPassed (sym is.made)
      (guard_passed is.table is.line (two Less (named is.name) is.end) is.to (omega (arith, affine_reads is.end is.given.0.affine.1), omega (arith, most)))

  exits_passed : (begun : List ℕ) (exits : List ExitTree) → AllByRecursion (IsExit IsShort begun) exits → list_all (is_exit_passed code_tests) (map (bound_exit sizes) exits) ≡ true
  exits_passed begun [] all = refl
  exits_passed begun (exit ∷ exits) all = rw (exit_passed begun exit all.0) (exits_passed begun exits all.1)

  -- ---- at each place

  abbrev IsSmall : GraphPlace → Type 0
  IsSmall place = is_thing_passed code_tests place.thing ≡ true

  thing_small : (place : GraphPlace) (thing : Thing) → AtThing (Whole IsShort) (Leaving IsShort) (Doing IsShort) thing place → is_thing_passed code_tests (bound_thing sizes thing) ≡ true
  thing_small place whole is = refl
  thing_small place (leaving items exits) is = exits_passed _ exits is.1
  thing_small place (doing kind) is = kind_passed sizes kind (item_brief _ place.scopes kind is.1)

  all_small : (tree : GraphTree) → IsTold IsShort tree → AllByRecursion IsSmall (all_places (bound_graph sizes tree))
  all_small tree told =
      subst (AllByRecursion IsSmall) (sym (graph_bound sizes tree [] 0))
      (all_mapped (bound_place sizes) (AtPlace (Whole IsShort) (Leaving IsShort) (Doing IsShort)) IsSmall (λ place is. thing_small place place.thing is.1) (places_of tree [] 0)
      (graph_places (Whole IsShort) (Leaving IsShort) (Doing IsShort) tree [] 0 told))

abbrev HasTaskAffine : Place → StatementTree → Type 0
HasTaskAffine place statement = HasSmallTask statement × EachBound IsAffine statement

abbrev HasReadsLevels : Place → StatementTree → Type 0
HasReadsLevels place statement = HasFewReads place statement × HasFewLevels place statement

short_places : (source : ProgramTree) → IsWellFormed source → EveryPlace HasFewLevels source → EveryPlace IsShort source
short_places source well levels =
    both_places HasReadsLevels HasTaskAffine IsShort (λ place statement first second. record { reads = first.0; task = second.0; levels = first.1; affine = second.1 }) source
    (both_places HasFewReads HasFewLevels HasReadsLevels (λ place statement first second. (first, second)) source well.reads levels)
    (both_places (λ place. HasSmallTask) (λ place. EachBound IsAffine) HasTaskAffine (λ place statement first second. (first, second)) source
    (everywhere_at HasSmallTask source well.tasklets) (everywhere_at (EachBound IsAffine) source well.affine))

pub code_small : (text : List ℕ) (source : ProgramTree) (known : NamedSizes) (bound : GraphTree) → reads text ≡ Ok source → binding (graph_of source) known ≡ Ok bound →
    AllByRecursion (λ place. is_thing_passed code_tests place.thing ≡ true) (all_places bound)
code_small text source known bound read is =
    subst (λ bound. AllByRecursion (λ place. is_thing_passed code_tests place.thing ≡ true) (all_places bound)) (bound_is (graph_of source) bound known is)
    (all_small (sizes_in known (graph_of source)) (graph_of source)
    (program_told IsShort source (short_places source (well_formed text source read) (levels_of_program text source read))))
