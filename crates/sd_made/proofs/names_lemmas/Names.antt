-- What the bound graph of a program names is in force where it is named.
use Rattle.std.proofs.Common.{◌≡◌, ◌∙◌, inl, inr, ℕ, ◌+◌, ◌<◌, ◌≤◌, ℤ, List, [], ◌∷◌, map, length, Ok, Some, Bool, true, false, cond, ◌&&◌, refl, sym, subst, arith}
use Rattle.std.specs.Prelude.{⊤}
use Rattle.std.specs.List.{AllByRecursion, list_all, flat_map}
use Rattle.std.proofs.lemmas.Option.{same_Some}
use Rattle.std.proofs.lemmas.List.Folds.{list_all-append}
use Rattle.sd_lex.specs.PlainTree.{Expression, named, element_at, two, Dimension, Expressions, StatementTree, assign, copy, reduce, map_scope, tasklet, consume_scope, call, Block, FunctionTree, ProgramTree}
use Rattle.sd_lex.specs.declared.syntax.operator.TwoSign.TheVariants.{Add, Less}
use Rattle.sd_range.specs.Arithmetic.{affine_zero}
use Rattle.sd_range.specs.declared.range.Range.{Range}
use Rattle.sd_graph.specs.PlainTree as plain
use Rattle.sd_graph.specs.PlainTree.{KindTree, ItemTrees, GraphTree, ExitTree}
use Rattle.sd_graph.specs.TreeParts.{containers_of}
use Rattle.sd_graph.specs.ContainerParts.{container_at}
use Rattle.sd_graph.specs.declared.link.Link.{Link}
use Rattle.sd_graph.specs.Wiring.{has_number}
use Rattle.sd_program.specs.Names.{Name}
use Rattle.sd_program.specs.Place as source
use Rattle.sd_program.specs.Known.{KnowsElements}
use Rattle.sd_program.specs.WellFormed.{IsWellFormed}
use Rattle.sd_task.specs.in_force.Ranges.{affine_or, parameters_of}
use Rattle.sd_task.specs.task.Table.{Table}
use Rattle.sd_task.specs.task.ElementCode.{links_with, used_with, element_task, guard_of}
use Rattle.sd_task.specs.tasklet_names.UsedNames.{connectors_from}
use Rattle.sd_task.specs.tasklets.Item.{task_with, inputs_of, outputs_of}
use Rattle.sd_elab.specs.items.Counts.{variables_in}
use Rattle.sd_elab.specs.items.Items.{taken_link}
use Rattle.sd_elab.specs.items.Kinds.{kind_of}
use Rattle.sd_elab.specs.states.Exits.{if_holds, stepped_on}
use Rattle.sd_elab.specs.elab.Elaboration.{graph_of}
use Rattle.sd_made.proofs.elab_lemmas.NamesKnown.{affine_knows}
use Rattle.sd_valid.specs.BoundExpression.{bound_link, bound_param}
use Rattle.sd_valid.specs.BoundTree.{bound_kind, bound_exit, bound_graph}
use Rattle.sd_valid.specs.SizeValues.{NamedSizes, sizes_in}
use Rattle.sd_valid.specs.Binding.{binding}
use Rattle.sd_validity.specs.rules.GraphParts.{variables_of}
use Rattle.sd_validity.specs.rules.Places.{Thing, whole, leaving, doing, Place, Scopes, no_scopes, loops_at, param_numbers, all_places, places_of}
use Rattle.sd_validity.specs.rules.Parts.{is_link_passed, are_links_passed, is_exit_passed, is_kind_passed, is_thing_passed}
use Rattle.sd_validity.specs.rules.NamesInForce.{is_stream_in_force, is_there, params_at, set_at, names_tests, are_names_in_force}
use Rattle.sd_validity.specs.bound_places.BoundPlace.{bound_thing, bound_place}
use Rattle.sd_validity.proofs.bound_places_lemmas.EachPlace.{AtThing, AtPlace, graph_places}
use Rattle.sd_validity.proofs.bound_places_lemmas.Asked.{all_mapped}
use Rattle.sd_validity.proofs.bound_places_lemmas.BoundPlaces.{graph_bound}
use Rattle.sd_made.proofs.places_lemmas.Named.{InAffine, InRange, or_named, range_named}
use Rattle.sd_made.proofs.places_lemmas.Held.{IsVariable, AreVariables}
use Rattle.sd_made.proofs.places_lemmas.Made.{Stands, Fitting, IsWhole, IsItem, IsExit}
use Rattle.sd_made.proofs.places_lemmas.ProgramMade.{IsTold}
use Rattle.sd_made.proofs.places_lemmas.Extents.{extents_in_force}
use Rattle.sd_made.proofs.places_lemmas.LinksMade.{ArePositive}
use Rattle.sd_made.proofs.places_lemmas.ItemLinks.{IsArrayLink, SoundLinks, ArrayLinks, HasSoundLinks, statement_links, taking_links, reads_sound, knows_condition}
use Rattle.sd_made.proofs.places_lemmas.Bound.{AnyFunction, bound_is, told}
use Rattle.sd_validity.proofs.paths_lemmas.Found.{all_both}
use Rattle.sd_validity.proofs.paths_lemmas.Free.{HasNoScopes, HasNoScopesAt, graph_free}
use Rattle.sd_made.proofs.names_lemmas.Used.{expression_used, all_acts_used}
use Rattle.sd_made.proofs.names_lemmas.Passed.{IsHere, there_bound, used_bound, affine_bound, params_bound, container_bound, link_bound}

-- ---- the code and the parameters of an item name variables in force

module _ (tree : GraphTree) (scopes : Scopes) (loops : List ℕ) where
  abbrev P : ℕ → Type 0
  P variable = IsVariable tree scopes.params loops variable

  -- the variables of code, and of the ranges of parameters, which are there
  abbrev pub HasNamedCode : KindTree → Type 0
  HasNamedCode (plain.task code ins outs) = AllByRecursion P code.variables
  HasNamedCode (plain.map_scope sequential params private body) = AllByRecursion (λ param. InRange P param.1) params × AllByRecursion (λ param. param.0 < length (variables_of tree)) params
  HasNamedCode (plain.consume_scope stream element private body) = ⊤
  HasNamedCode (plain.nested_graph inner links) = ⊤
  HasNamedCode (plain.reduction resolution axis identity from to) = ⊤
  HasNamedCode (plain.copy from to) = ⊤

  either_code : (resolved : Bool) (one other : KindTree) → HasNamedCode one → HasNamedCode other → HasNamedCode (cond resolved one other)
  either_code true one other is others = is
  either_code false one other is others = others

  module _ (place : source.Place) (table : Table) (stands : Stands tree scopes loops place table) where
    element_code : (in_scope add : Bool) (name : Name) (at : Expressions) (value : Expression) → HasNamedCode (element_task table in_scope name at add value)
    element_code in_scope false name at value = expression_used P table.variables stands.variables [] value tt
    element_code true true name at value = expression_used P table.variables stands.variables [] value tt
    element_code false true name at value = expression_used P table.variables stands.variables [] (two Add (element_at name at) value) tt

    task_code : (ins outs : List Link) (body : Block) → HasNamedCode (task_with table ins outs body)
    task_code ins outs body = all_acts_used P table.variables stands.variables (connectors_from 0 ins) (connectors_from (length ins) outs) body [] 0 [] tt

    params_named : (ranges : List Dimension) (variable : ℕ) → variable + length ranges ≤ length (variables_of tree) →
        AllByRecursion (λ param. InRange P param.1) (parameters_of table.variables ranges variable) × AllByRecursion (λ param. param.0 < length (variables_of tree)) (parameters_of table.variables ranges variable)
    params_named [] variable room = (tt, tt)
    params_named (range ∷ ranges) variable room =
        let others = params_named ranges (variable + 1) (omega (arith, room)) in
        ((range_named P table.variables stands.variables range, others.0), (omega (arith, room), others.1))

module _ (Given : source.Place → StatementTree → Type 0) (Is : List Name → FunctionTree → Type 0) (fits : (place : source.Place) (statement : StatementTree) → Given place statement → Fitting place statement)
    (tree : GraphTree) (state : ℕ) (scopes : Scopes) where
  abbrev loops : List ℕ
  loops = loops_at tree state

  of_statement : (statement : StatementTree) (in_scope : Bool) (place : source.Place) (table : Table) (container variable : ℕ) (graphs : Name → GraphTree) (kind : KindTree) → Stands tree scopes loops place table →
      source.EveryAt Given place statement → variable + variables_in statement ≤ length (variables_of tree) → kind_of graphs statement in_scope table container variable ≡ Some kind → HasNamedCode tree scopes loops kind
  of_statement (assign line name at add value) in_scope place table container variable graphs kind stands given room made =
      subst (HasNamedCode tree scopes loops) (same_Some (element_task table in_scope name at add value) kind made) (element_code tree scopes loops place table stands in_scope add name at value)
  of_statement (copy line to to_dimensions from from_dimensions) in_scope place table container variable graphs kind stands given room made = subst (HasNamedCode tree scopes loops) (same_Some _ kind made) tt
  of_statement (reduce line lambda from to axis identity) in_scope place table container variable graphs kind stands given room made = subst (HasNamedCode tree scopes loops) (same_Some _ kind made) tt
  of_statement (map_scope line parameters ranges body) in_scope place table container variable graphs kind stands given room made =
      let few : length parameters ≡ length ranges = (fits place (map_scope line parameters ranges body) given.0).parameters.0 in
      subst (HasNamedCode tree scopes loops) (same_Some _ kind made) (params_named tree scopes loops place table stands ranges variable (omega (arith, room, few)))
  of_statement (tasklet line body) in_scope place table container variable graphs kind stands given room made =
      subst (HasNamedCode tree scopes loops) (same_Some _ kind made) (task_code tree scopes loops place table stands (inputs_of table body) (outputs_of table body) body)
  of_statement (consume_scope line stream size name element worker body) in_scope place table container variable graphs kind stands given room made = subst (HasNamedCode tree scopes loops) (same_Some _ kind made) tt
  of_statement (call line name arguments) in_scope place table container variable graphs kind stands given room made = subst (HasNamedCode tree scopes loops) (same_Some _ kind made) tt
  of_statement statement in_scope place table container variable graphs kind stands given room made = cc

  pub item_code : (kind : KindTree) → IsItem Given Is tree state scopes kind → HasNamedCode tree scopes loops kind
  item_code kind (inl is) = of_statement is.statement is.in_scope is.place is.table is.container is.variable is.graphs kind is.stands is.given is.room is.made
  item_code kind (inr is) =
      subst (HasNamedCode tree scopes loops) (sym is.made)
      (task_code tree scopes loops is.place is.table is.stands (taken_link is.element is.container ∷ inputs_of is.table is.body) (outputs_of is.table is.body) is.body)

-- ---- at a place

module _ (sizes : List ℤ) (place : Place) where
  module _ (Sized : Type 0) where
    array_links : (links : List Link) → ArrayLinks place.graph place.scopes place.loops Sized links → are_links_passed (names_tests (bound_place sizes place)) (map (bound_link sizes) links) ≡ true
    array_links [] all = refl
    array_links (link ∷ links) all = rw (link_bound sizes place link all.0.0.there all.0.0.names) (array_links links all.1)

    sound_links : (links : List Link) → SoundLinks place.graph place.scopes place.loops Sized links → are_links_passed (names_tests (bound_place sizes place)) (map (bound_link sizes) links) ≡ true
    sound_links [] all = refl
    sound_links (link ∷ links) all = rw (link_bound sizes place link all.0.there all.0.names) (sound_links links all.1)

    array_link : (link : Link) → IsArrayLink place.graph place.scopes place.loops Sized link → is_link_passed (names_tests (bound_place sizes place)) (bound_link sizes link) ≡ true
    array_link link is = link_bound sizes place link is.0.there is.0.names

    kind_passed : (kind : KindTree) → HasSoundLinks place.graph place.scopes place.loops Sized kind → HasNamedCode place.graph place.scopes place.loops kind →
        is_kind_passed (names_tests (bound_place sizes place)) (bound_kind sizes kind) ≡ true
    kind_passed (plain.task code ins outs) links known = rw (used_bound sizes place code.variables known, array_links ins links.0) (sound_links outs links.1)
    kind_passed (plain.map_scope sequential params private body) links known = params_bound sizes place params known.0
    kind_passed (plain.consume_scope stream element private body) links known = refl
    kind_passed (plain.nested_graph inner of) links known = array_links of links
    kind_passed (plain.reduction resolution axis identity from to) links known = rw (array_link from links.0) (array_link to links.1)
    kind_passed (plain.copy from to) links known = rw (array_link from links.0) (array_link to links.1)

    stream_passed : (kind : KindTree) → HasSoundLinks place.graph place.scopes place.loops Sized kind →
        is_stream_in_force (containers_of (bound_graph sizes place.graph)) place.scopes.private (doing (bound_kind sizes kind)) ≡ true
    stream_passed (plain.task code ins outs) links = refl
    stream_passed (plain.map_scope sequential params private body) links = refl
    stream_passed (plain.consume_scope stream element private body) links = container_bound sizes place stream links.0
    stream_passed (plain.nested_graph inner of) links = refl
    stream_passed (plain.reduction resolution axis identity from to) links = refl
    stream_passed (plain.copy from to) links = refl

  -- the parameters of a map are there
  numbers_there : (params : List (ℕ × Range)) → AllByRecursion (λ param. param.0 < length (variables_of place.graph)) params →
      list_all (is_there (bound_graph sizes place.graph)) (param_numbers (map (bound_param sizes) params)) ≡ true
  numbers_there [] all = refl
  numbers_there (param ∷ params) all = rw (there_bound sizes place param.0 all.0) (numbers_there params all.1)

  params_there : (kind : KindTree) → HasNamedCode place.graph place.scopes place.loops kind → list_all (is_there (bound_graph sizes place.graph)) (params_at (doing (bound_kind sizes kind))) ≡ true
  params_there (plain.task code ins outs) known = refl
  params_there (plain.map_scope sequential params private body) known = numbers_there params known.1
  params_there (plain.consume_scope stream element private body) known = refl
  params_there (plain.nested_graph inner links) known = refl
  params_there (plain.reduction resolution axis identity from to) known = refl
  params_there (plain.copy from to) known = refl

  -- a transition names variables in force, and sets such as are there
  abbrev IsNamed : ExitTree → Type 0
  IsNamed exit =
      (is_exit_passed (names_tests (bound_place sizes place)) (bound_exit sizes exit) ≡ true)
      × (list_all (is_there (bound_graph sizes place.graph)) (map (λ assignment. assignment.0) (bound_exit sizes exit).set) ≡ true)

  exits_passed : (exits : List ExitTree) → AllByRecursion IsNamed exits → list_all (is_exit_passed (names_tests (bound_place sizes place))) (map (bound_exit sizes) exits) ≡ true
  exits_passed [] all = refl
  exits_passed (exit ∷ exits) all = rw all.0.0 (exits_passed exits all.1)

  sets_there : (exits : List ExitTree) → AllByRecursion IsNamed exits →
      list_all (is_there (bound_graph sizes place.graph)) (flat_map (λ exit. map (λ assignment. assignment.0) exit.set) (map (bound_exit sizes) exits)) ≡ true
  sets_there [] all = refl
  sets_there (exit ∷ exits) all =
      list_all-append (is_there (bound_graph sizes place.graph)) (map (λ assignment. assignment.0) (bound_exit sizes exit).set) (flat_map (λ exit. map (λ assignment. assignment.0) exit.set) (map (bound_exit sizes) exits))
      ∙ rw all.0.1 (sets_there exits all.1)

-- ---- transitions

module _ (sizes : List ℤ) (Given : source.Place → StatementTree → Type 0) (Is : List Name → FunctionTree → Type 0) (fits : (place : source.Place) (statement : StatementTree) → Given place statement → Fitting place statement)
    (place : Place) (about : IsWhole Given Is place.graph) (showing : place.loops ≡ loops_at place.graph place.state) (none : place.scopes ≡ no_scopes) where
  abbrev extents : (container : ℕ) → AllByRecursion (InAffine (IsVariable place.graph [] (loops_at place.graph place.state))) (container_at (containers_of place.graph) container).extents
  extents = extents_in_force Given Is place.graph [] (loops_at place.graph place.state) about

  -- a condition
  guard_named : (of : source.Place) (table : Table) (line : ℕ) (when : Expression) (to : ℕ) → Stands place.graph no_scopes (loops_at place.graph place.state) of table → KnowsElements of.containers when →
      IsNamed sizes place (if_holds (guard_of table line when) to)
  guard_named of table line when to stands knows =
      let here : Stands place.graph place.scopes place.loops of table = subst (λ loops. Stands place.graph place.scopes loops of table) (sym showing) (subst (λ scopes. Stands place.graph scopes (loops_at place.graph place.state) of table) (sym none) stands) in
      let reads : ArrayLinks place.graph no_scopes (loops_at place.graph place.state) (ArePositive of.containers) (links_with table [] when) =
      reads_sound Given Is fits place.graph place.state extents of table when stands knows in
      let links : ArrayLinks place.graph place.scopes place.loops (ArePositive of.containers) (links_with table [] when) =
      subst (λ loops. ArrayLinks place.graph place.scopes loops (ArePositive of.containers) (links_with table [] when)) (sym showing)
      (subst (λ scopes. ArrayLinks place.graph scopes (loops_at place.graph place.state) (ArePositive of.containers) (links_with table [] when)) (sym none) reads) in
      let passed = array_links sizes place (ArePositive of.containers) (links_with table [] when) links in
      let code = used_bound sizes place (used_with table.variables [] when) (expression_used (IsHere sizes place) table.variables here.variables [] when tt) in
      (rw (passed, code) refl, refl)

  exit_named : (exit : ExitTree) → IsExit Given Is place.graph place.state exit → IsNamed sizes place exit
  exit_named exit (inl (to, inl plain)) = subst (IsNamed sizes place) (sym plain) (refl, refl)
  exit_named exit (inl (to, inr plain)) = subst (IsNamed sizes place) (sym plain) (refl, refl)
  exit_named exit (inr (inl is)) =
      subst (IsNamed sizes place) (sym is.made)
      (guard_named is.place is.table is.line is.when is.to is.stands (knows_condition Given Is fits place.graph place.state extents is.place is.statement is.line is.when is.given is.asked))
  exit_named exit (inr (inr (inl is))) =
      let here : AreVariables place.graph place.scopes.params place.loops is.table.variables =
      subst (λ loops. AreVariables place.graph place.scopes.params loops is.table.variables) (sym showing)
      (subst (λ (scopes : Scopes). AreVariables place.graph scopes.params (loops_at place.graph place.state) is.table.variables) (sym none) is.stands.variables) in
      let value = affine_bound sizes place (affine_or affine_zero is.table.variables is.loop.begin) (or_named (IsHere sizes place) is.table.variables here affine_zero is.loop.begin tt) in
      subst (IsNamed sizes place) (sym is.made) (rw value refl, rw (there_bound sizes place is.variable is.there) refl)
  exit_named exit (inr (inr (inr (inl is)))) =
      let end : Expression = two Less (named is.loop.name) is.loop.end in
      subst (IsNamed sizes place) (sym is.made)
      (guard_named is.loop.place is.table is.loop.line end is.to is.stands (tt, affine_knows is.loop.place.containers is.loop.end (fits is.loop.place _ is.loop.given.0).affine.1))
  exit_named exit (inr (inr (inr (inr is)))) =
      let shown : has_number place.loops is.variable ≡ true = subst (λ loops. has_number loops is.variable ≡ true) (sym showing) is.shown in
      let value = affine_bound sizes place (stepped_on is.variable is.loop.step) ((is.there, inr (inr shown)), tt) in
      subst (IsNamed sizes place) (sym is.made) (rw value refl, rw (there_bound sizes place is.variable is.there) refl)

  pub exits_named : (exits : List ExitTree) → AllByRecursion (IsExit Given Is place.graph place.state) exits → AllByRecursion (IsNamed sizes place) exits
  exits_named [] all = tt
  exits_named (exit ∷ exits) all = (exit_named exit all.0, exits_named exits all.1)

-- ---- together

module _ (sizes : List ℤ) (Given : source.Place → StatementTree → Type 0) (Is : List Name → FunctionTree → Type 0) (fits : (place : source.Place) (statement : StatementTree) → Given place statement → Fitting place statement) where
  abbrev At : Place → Type 0
  At place = AtPlace (IsWhole Given Is) (IsExit Given Is) (IsItem Given Is) place

  abbrev IsNamedAt : Place → Type 0
  IsNamedAt place = are_names_in_force (bound_place sizes place) ≡ true

  kind_named : (place : Place) (Sized : Type 0) (kind : KindTree) → place.thing ≡ doing kind → HasSoundLinks place.graph place.scopes place.loops Sized kind → HasNamedCode place.graph place.scopes place.loops kind → IsNamedAt place
  kind_named place Sized kind e links code =
      subst (λ thing.
      ((is_thing_passed (names_tests (bound_place sizes place)) (bound_thing sizes thing) && is_stream_in_force (containers_of (bound_graph sizes place.graph)) place.scopes.private (bound_thing sizes thing))
      && (list_all (is_there (bound_graph sizes place.graph)) (params_at (bound_thing sizes thing)) && list_all (is_there (bound_graph sizes place.graph)) (set_at (bound_thing sizes thing)))) ≡ true) (sym e)
      (rw (kind_passed sizes place Sized kind links code, stream_passed sizes place Sized kind links, params_there sizes place kind code) refl)

  item_named : (place : Place) (kind : KindTree) → place.thing ≡ doing kind → IsWhole Given Is place.graph → place.loops ≡ loops_at place.graph place.state → IsItem Given Is place.graph place.state place.scopes kind → IsNamedAt place
  item_named place kind e about showing (inl is) =
      let extents = extents_in_force Given Is place.graph place.scopes.params (loops_at place.graph place.state) about in
      kind_named place (ArePositive is.place.containers) kind e
      (subst (λ loops. HasSoundLinks place.graph place.scopes loops (ArePositive is.place.containers) kind) (sym showing) (statement_links Given Is fits place.graph place.state place.scopes extents kind is))
      (subst (λ loops. HasNamedCode place.graph place.scopes loops kind) (sym showing) (item_code Given Is fits place.graph place.state place.scopes kind (inl is)))
  item_named place kind e about showing (inr is) =
      let extents = extents_in_force Given Is place.graph place.scopes.params (loops_at place.graph place.state) about in
      kind_named place (ArePositive is.place.containers) kind e
      (subst (λ loops. HasSoundLinks place.graph place.scopes loops (ArePositive is.place.containers) kind) (sym showing) (taking_links Given Is fits place.graph place.state place.scopes extents kind is))
      (subst (λ loops. HasNamedCode place.graph place.scopes loops kind) (sym showing) (item_code Given Is fits place.graph place.state place.scopes kind (inr is)))

  state_named : (place : Place) (items : ItemTrees) (exits : List ExitTree) → place.thing ≡ leaving items exits → AllByRecursion (IsNamed sizes place) exits → IsNamedAt place
  state_named place items exits e all =
      subst (λ thing.
      ((is_thing_passed (names_tests (bound_place sizes place)) (bound_thing sizes thing) && is_stream_in_force (containers_of (bound_graph sizes place.graph)) place.scopes.private (bound_thing sizes thing))
      && (list_all (is_there (bound_graph sizes place.graph)) (params_at (bound_thing sizes thing)) && list_all (is_there (bound_graph sizes place.graph)) (set_at (bound_thing sizes thing)))) ≡ true) (sym e)
      (rw (exits_passed sizes place exits all) (sets_there sizes place exits all))

  whole_at : (place : Place) → place.thing ≡ whole → IsNamedAt place
  whole_at place e =
      subst (λ thing.
      ((is_thing_passed (names_tests (bound_place sizes place)) (bound_thing sizes thing) && is_stream_in_force (containers_of (bound_graph sizes place.graph)) place.scopes.private (bound_thing sizes thing))
      && (list_all (is_there (bound_graph sizes place.graph)) (params_at (bound_thing sizes thing)) && list_all (is_there (bound_graph sizes place.graph)) (set_at (bound_thing sizes thing)))) ≡ true) (sym e) refl

  -- no scope is about a state
  thing_named : (place : Place) (thing : Thing) → place.thing ≡ thing → IsWhole Given Is place.graph → AtThing (IsWhole Given Is) (IsExit Given Is) (IsItem Given Is) thing place → HasNoScopes thing place → IsNamedAt place
  thing_named place whole e about is free = whole_at place e
  thing_named place (leaving items exits) e about is free = state_named place items exits e (exits_named sizes Given Is fits place about is.0 free exits is.1)
  thing_named place (doing kind) e about is free = item_named place kind e about is.0 is.1

  pub all_named : (tree : GraphTree) → IsTold Given Is fits tree → AllByRecursion (λ place. are_names_in_force place ≡ true) (all_places (bound_graph sizes tree))
  all_named tree is =
      subst (AllByRecursion (λ place. are_names_in_force place ≡ true)) (sym (graph_bound sizes tree [] 0))
      (all_mapped (bound_place sizes) (λ place. At place × HasNoScopesAt place) (λ place. are_names_in_force place ≡ true) (λ place at. thing_named place place.thing refl at.0.0 at.0.1 at.1) (places_of tree [] 0)
      (all_both At HasNoScopesAt (places_of tree [] 0) (graph_places _ _ _ tree [] 0 is) (graph_free tree [] 0)))

pub names_bound : (program : ProgramTree) (known : NamedSizes) (bound : GraphTree) → IsWellFormed program → binding (graph_of program) known ≡ Ok bound → AllByRecursion (λ place. are_names_in_force place ≡ true) (all_places bound)
names_bound program known bound well is =
    subst (λ bound. AllByRecursion (λ place. are_names_in_force place ≡ true) (all_places bound)) (bound_is (graph_of program) bound known is)
    (all_named (sizes_in known (graph_of program)) Fitting AnyFunction (λ place statement fits. fits) (graph_of program) (told program well))
