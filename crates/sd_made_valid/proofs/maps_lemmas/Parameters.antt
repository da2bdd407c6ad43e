-- In the bound graph of a program that was read each map has 1 to 8 parameters.
use Rattle.std.proofs.Common.{◌≡◌, ◌∙◌, inl, inr, ℕ, ◌+◌, ◌≤◌, nat_le, ℤ, List, [], ◌∷◌, length, Some, Ok, Bool, true, false, reverse, refl, ap, sym, subst, arith}
use Rattle.std.specs.List.{AllByRecursion}
use Rattle.std.proofs.lemmas.List.{length-map}
use Rattle.std.proofs.lemmas.Option.{same_Some}
use Rattle.sd_lex.specs.PlainTree.{Expressions, Expression, Dimension, StatementTree, assign, copy, reduce, map_scope, tasklet, consume_scope, call, FunctionTree, ProgramTree}
use Rattle.sd_graph.specs.PlainTree as plain
use Rattle.sd_graph.specs.PlainTree.{KindTree, GraphTree, ExitTree}
use Rattle.sd_program.specs.Names.{Name, Named}
use Rattle.sd_program.specs.Place.{Place, EveryAt, EveryPlace}
use Rattle.sd_source.specs.source.SourceReading.{reads}
use Rattle.sd_read.specs.readable.Parts.{HasParts}
use Rattle.sd_read.proofs.readable_lemmas.Fields.{well_formed, parts_of_program}
use Rattle.sd_task.specs.in_force.Ranges.{parameters_of}
use Rattle.sd_task.specs.task.Table.{Table}
use Rattle.sd_task.specs.task.ElementCode.{element_task}
use Rattle.sd_elab.specs.items.Kinds.{kind_of}
use Rattle.sd_elab.specs.elab.Elaboration.{graph_of}
use Rattle.sd_valid.specs.BoundExpression.{bound_param}
use Rattle.sd_valid.specs.BoundTree.{bound_kind, bound_graph}
use Rattle.sd_valid.specs.SizeValues.{NamedSizes, sizes_in}
use Rattle.sd_valid.specs.Binding.{binding}
use Rattle.sd_validity.specs.rules.Places.{Thing, whole, leaving, doing, Place as GraphPlace, Scopes, all_places, places_of}
use Rattle.sd_validity.specs.rules.WithinLimits.{is_within}
use Rattle.sd_validity.specs.bound_places.BoundPlace.{bound_thing, bound_place}
use Rattle.sd_validity.proofs.bound_places_lemmas.EachPlace.{AtThing, AtPlace, graph_places}
use Rattle.sd_validity.proofs.bound_places_lemmas.Asked.{all_mapped}
use Rattle.sd_validity.proofs.bound_places_lemmas.BoundPlaces.{graph_bound}
use Rattle.sd_made.proofs.places_lemmas.Made.{Fitting, IsWhole, IsItem, IsExit}
use Rattle.sd_made.proofs.places_lemmas.ProgramMade.{IsTold, program_told}
use Rattle.sd_made.proofs.places_lemmas.Givens.{everywhere_at, both_places, fitting}
use Rattle.sd_made.proofs.places_lemmas.Bound.{AnyFunction, bound_is}
use Rattle.sd_made_valid.specs.maps.Parameters.{has_few_parameters, are_parameters_few}

-- ---- what is given of each statement

abbrev HasSomeParameters : Place → StatementTree → Type 0
HasSomeParameters place statement = Fitting place statement × HasParts statement

fits : (place : Place) (statement : StatementTree) → HasSomeParameters place statement → Fitting place statement
fits place statement given = given.0

any_function : (symbols : List Name) (functions : List FunctionTree) → AllByRecursion (AnyFunction symbols) functions
any_function symbols [] = tt
any_function symbols (function ∷ functions) = (tt, any_function symbols functions)

-- ---- items

abbrev IsFew : KindTree → Type 0
IsFew kind = has_few_parameters kind ≡ true

parameters_counted : (variables : Named ℕ) (ranges : List Dimension) (variable : ℕ) → length (parameters_of variables ranges variable) ≡ length ranges
parameters_counted variables [] variable = refl
parameters_counted variables (first ∷ rest) variable = omega (arith, parameters_counted variables rest (variable + 1))

within : (count : ℕ) → 1 ≤ count → count ≤ 8 → is_within 1 8 count ≡ true
within count least most =
    let first : nat_le 1 count ≡ true = grind (arith, least) in
    let second : nat_le count 8 ≡ true = grind (arith, most) in
    rw (first, second) refl

element_few : (table : Table) (in_scope add : Bool) (name : Name) (at : Expressions) (value : Expression) → IsFew (element_task table in_scope name at add value)
element_few table in_scope false name at value = refl
element_few table true true name at value = refl
element_few table false true name at value = refl

statement_few : (statement : StatementTree) (in_scope : Bool) (place : Place) (table : Table) (container variable : ℕ) (graphs : Name → GraphTree) (kind : KindTree) →
    EveryAt HasSomeParameters place statement → kind_of graphs statement in_scope table container variable ≡ Some kind → IsFew kind
statement_few (assign line name at add value) in_scope place table container variable graphs kind given made = subst IsFew (same_Some _ kind made) (element_few table in_scope add name at value)
statement_few (copy line to to_dimensions from from_dimensions) in_scope place table container variable graphs kind given made = subst IsFew (same_Some _ kind made) refl
statement_few (reduce line lambda from to axis identity) in_scope place table container variable graphs kind given made = subst IsFew (same_Some _ kind made) refl
statement_few (map_scope line parameters ranges body) in_scope place table container variable graphs kind given made =
    let counted : length (parameters_of table.variables ranges variable) ≡ length parameters = parameters_counted table.variables ranges variable ∙ sym given.0.0.parameters.0 in
    subst IsFew (same_Some _ kind made)
    (within (length (parameters_of table.variables ranges variable)) (omega (arith, counted, given.0.1)) (omega (arith, counted, given.0.0.parameters.1)))
statement_few (tasklet line body) in_scope place table container variable graphs kind given made = subst IsFew (same_Some _ kind made) refl
statement_few (consume_scope line stream size name element worker body) in_scope place table container variable graphs kind given made = subst IsFew (same_Some _ kind made) refl
statement_few (call line name arguments) in_scope place table container variable graphs kind given made = subst IsFew (same_Some _ kind made) refl
statement_few statement in_scope place table container variable graphs kind given made = cc

-- ---- with sizes

module _ (sizes : List ℤ) where
  kind_bound : (kind : KindTree) → IsFew kind → IsFew (bound_kind sizes kind)
  kind_bound (plain.task code ins outs) few = refl
  kind_bound (plain.map_scope sequential params private body) few = ap (is_within 1 8) (length-map params (bound_param sizes)) ∙ few
  kind_bound (plain.consume_scope stream element private body) few = refl
  kind_bound (plain.nested_graph inner links) few = refl
  kind_bound (plain.reduction resolution axis identity from to) few = refl
  kind_bound (plain.copy from to) few = refl

  abbrev Wholes : GraphTree → Type 0
  Wholes tree = IsWhole HasSomeParameters AnyFunction tree

  abbrev Exits : GraphTree → (state : ℕ) → ExitTree → Type 0
  Exits tree state exit = IsExit HasSomeParameters AnyFunction tree state exit

  abbrev Items : GraphTree → (state : ℕ) → Scopes → KindTree → Type 0
  Items tree state scopes kind = IsItem HasSomeParameters AnyFunction tree state scopes kind

  item_few : (tree : GraphTree) (state : ℕ) (scopes : Scopes) (kind : KindTree) → Items tree state scopes kind → IsFew kind
  item_few tree state scopes kind (inl is) = statement_few is.statement is.in_scope is.place is.table is.container is.variable is.graphs kind is.given is.made
  item_few tree state scopes kind (inr is) = subst IsFew (sym is.made) refl

  thing_few : (place : GraphPlace) (thing : Thing) → AtThing Wholes Exits Items thing place → are_parameters_few (bound_thing sizes thing) ≡ true
  thing_few place whole is = refl
  thing_few place (leaving items exits) is = refl
  thing_few place (doing kind) is = kind_bound kind (item_few place.graph place.state place.scopes kind is.1)

  all_few : (tree : GraphTree) → IsTold HasSomeParameters AnyFunction fits tree → AllByRecursion (λ place. are_parameters_few place.thing ≡ true) (all_places (bound_graph sizes tree))
  all_few tree told =
      subst (AllByRecursion (λ place. are_parameters_few place.thing ≡ true)) (sym (graph_bound sizes tree [] 0))
      (all_mapped (bound_place sizes) (AtPlace Wholes Exits Items) (λ place. are_parameters_few place.thing ≡ true) (λ place is. thing_few place place.thing is.1) (places_of tree [] 0)
      (graph_places Wholes Exits Items tree [] 0 told))

pub parameters_few : (text : List ℕ) (program : ProgramTree) (known : NamedSizes) (bound : GraphTree) → reads text ≡ Ok program → binding (graph_of program) known ≡ Ok bound →
    AllByRecursion (λ place. are_parameters_few place.thing ≡ true) (all_places bound)
parameters_few text program known bound read is =
    let given : EveryPlace HasSomeParameters program =
    both_places Fitting (λ place. HasParts) HasSomeParameters (λ place statement first second. (first, second)) program (fitting program (well_formed text program read))
    (everywhere_at HasParts program (parts_of_program text program read)) in
    let told : IsTold HasSomeParameters AnyFunction fits (graph_of program) =
    program_told HasSomeParameters AnyFunction fits program (any_function program.symbols (reverse program.functions)) given in
    subst (λ bound. AllByRecursion (λ place. are_parameters_few place.thing ≡ true) (all_places bound)) (bound_is (graph_of program) bound known is)
    (all_few (sizes_in known (graph_of program)) (graph_of program) told)
