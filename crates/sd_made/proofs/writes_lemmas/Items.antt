-- The items of a program write containers of the names that are written.
use Rattle.std.proofs.Common.{◌≡◌, ◌∙◌, ℕ, ◌+◌, List, [], ◌∷◌, length, Some, Bool, true, false, cond, unwrap_or, refl, ap, subst, arith}
use Rattle.std.specs.List.{AllByRecursion}
use Rattle.sd_lex.specs.PlainTree.{Dimension, Expression, Expressions, StatementTree, assign, copy, reduce, map_scope, tasklet, consume_scope, call, Block, no_statement, and_statement, FunctionTree}
use Rattle.sd_lex.specs.StatementKind.{has_connector}
use Rattle.sd_graph.specs.PlainTree as plain
use Rattle.sd_graph.specs.PlainTree.{KindTree, ItemTrees, GraphTree}
use Rattle.sd_graph.specs.TreeParts.{containers_of}
use Rattle.sd_graph.specs.ContainerParts.{Containers, name_at}
use Rattle.sd_program.specs.Calls.{argument_counts, IsCallable}
use Rattle.sd_program.specs.Declared.{containers_in}
use Rattle.sd_program.specs.Names.{Name, Named, in_force}
use Rattle.sd_program.specs.Place.{of_dimensions, scope, Place, past, in_map, in_tasklet, in_consume, EveryAt, EveryFrom}
use Rattle.sd_program.specs.Known.{IsPlaced, IsKnown}
use Rattle.sd_task.specs.task.Table.{Table, with_container, with_variables, container_number}
use Rattle.sd_task.specs.task.ElementCode.{element_task}
use Rattle.sd_task.specs.tasklets.Item.{tasklet_item, task_with, inputs_of, outputs_of}
use Rattle.sd_task.specs.in_force.Ranges.{parameters_of}
use Rattle.sd_elab.specs.items.Counts.{variables_in}
use Rattle.sd_elab.specs.items.NamesBehind.{own_of, table_behind}
use Rattle.sd_elab.specs.items.Items.{call_links, taken_link, items_with, items_of_body}
use Rattle.sd_task.specs.containers.Declarations.{with_element, containers_with, containers_with_all}
use Rattle.sd_made.proofs.elab_lemmas.ContainersMade.{Begins, first_begins, counted, element_longer}
use Rattle.sd_validity.proofs.bound_places_lemmas.EachPlace.{all_joined}
use Rattle.sd_validity.specs.rules.NestedLinks.{written_by, written_in, written_of}
use Rattle.sd_made.proofs.places_lemmas.Given.{so_at, so_from}
use Rattle.sd_made.proofs.places_lemmas.Made.{IsAround}
use Rattle.sd_made.specs.writes.Writes.{arguments_written, names_written, all_written, written_by_programs}
use Rattle.sd_made.specs.writes.Apart.{AreApart, CallsApart, IsKindApart, AreItemsApart, IsGraphApart}
use Rattle.sd_made.proofs.writes_lemmas.Known.{AreKnown, one_more_known, made_named, known_behind}
use Rattle.sd_made.proofs.writes_lemmas.Links.{all_first, all_second, part_known, number_written, outputs_written, Covers, call_written, call_unshared}

-- what is asked of each statement in its place
abbrev pub Fit : Place → StatementTree → Type 0
Fit place statement = IsPlaced place statement × (IsKnown place statement × (IsCallable place statement × CallsApart place statement))

pub placed_at : (place : Place) (statement : StatementTree) → EveryAt Fit place statement → EveryAt IsPlaced place statement
placed_at = so_at Fit IsPlaced (λ place statement fit. fit.0)

pub placed_from : (place : Place) (block : Block) → EveryFrom Fit place block → EveryFrom IsPlaced place block
placed_from = so_from Fit IsPlaced (λ place statement fit. fit.0)

known_from : (place : Place) (block : Block) → EveryFrom Fit place block → EveryFrom IsKnown place block
known_from = so_from Fit IsKnown (λ place statement fit. fit.1.0)

-- which parameters the latest program of a name above writes
abbrev pub parameters_of_program : List FunctionTree → Name → List Bool
parameters_of_program above name = unwrap_or (in_force (written_by_programs above) name) []

-- what is known of the graphs of the programs above
pub record AreCovered (above : List FunctionTree) (graphs : Name → GraphTree) : Type 0 where
  pub covers : (name : Name) → Covers (written_of (graphs name)) 0 (parameters_of_program above name)
  pub counts : (name : Name) (count : ℕ) → in_force (argument_counts above) name ≡ Some count → length (parameters_of_program above name) ≡ count
  pub apart : (name : Name) → IsGraphApart (graphs name)

module _ (W : Name → Type 0) (above : List FunctionTree) (graphs : Name → GraphTree) (are_covered : AreCovered above graphs) (symbols : Named ℕ) (declared : List Name) (all : Containers) where
  abbrev pub IsWritten : ℕ → Type 0
  IsWritten container = W (name_at all container)

  abbrev programs : Named (List Bool)
  programs = written_by_programs above

  abbrev IsGood : KindTree → Type 0
  IsGood kind = AllByRecursion IsWritten (written_by kind) × IsKindApart kind

  abbrev pub AreGood : ItemTrees → Type 0
  AreGood items = AllByRecursion IsWritten (written_in items) × AreItemsApart items

  with_item : (line : ℕ) (kind : KindTree) (rest : ItemTrees) → IsGood kind → AreGood rest → AreGood (plain.and_item line kind rest)
  with_item line kind rest good others = (all_joined IsWritten (written_by kind) (written_in rest) good.0 others.0, (good.1, others.1))

  element_good : (table : Table) (in_scope add : Bool) (name : Name) (at : Expressions) (value : Expression) → IsWritten (container_number table name) → IsGood (element_task table in_scope name at add value)
  element_good table in_scope false name at value written = ((written, tt), tt)
  element_good table true true name at value written = ((written, tt), tt)
  element_good table false true name at value written = ((written, tt), tt)

  call_good : (place : Place) (line : ℕ) (name : Name) (arguments : List (Name × List Dimension)) (table : Table) → place.programs ≡ above → Fit place (call line name arguments) → AreKnown all place.containers table.containers →
      AllByRecursion W (arguments_written (parameters_of_program above name) arguments) → IsGood (plain.nested_graph (graphs name) (call_links table arguments (containers_of (graphs name))))
  call_good place line name arguments table of fit are written =
      let same : length (parameters_of_program above name) ≡ length arguments =
      are_covered.counts name (length arguments) (subst (λ programs. in_force (argument_counts programs) name ≡ Some (length arguments)) of fit.1.1.0) in
      let apart : AreApart (parameters_of_program above name) arguments = subst (λ programs. AreApart (parameters_of_program programs name) arguments) of fit.1.1.1 in (
        call_written all table place.containers are W (written_of (graphs name)) 0 (parameters_of_program above name) arguments (containers_of (graphs name)) (are_covered.covers name) same fit.1.0 written,
        (
          call_unshared all table place.containers are (written_of (graphs name)) 0 (parameters_of_program above name) arguments (containers_of (graphs name)) (are_covered.covers name) same fit.1.0 apart,
          are_covered.apart name,
        ),
      )

  consumed_good : (is_task : Bool) (body : Block) (line : ℕ) (table : Table) (container variable : ℕ) (element : Name) (place : Place) (before : Containers) → length before ≡ container →
      Begins (cond is_task (with_element declared before is_task element) (containers_with_all symbols declared body true (with_element declared before is_task element))) all →
      AreKnown all place.containers table.containers → EveryFrom Fit (in_consume is_task element place) body → AllByRecursion W (all_written programs body) →
      ((with : Containers) → length with ≡ container + 1 → Begins (containers_with_all symbols declared body true with) all → AreKnown all ((element, of_dimensions 1) ∷ place.containers) ((element, container) ∷ table.containers) →
      EveryFrom Fit (in_consume false element place) body → AreGood (items_of_body graphs body (with_container element container table) (container + 1) variable)) →
      AreGood
      (cond is_task (plain.and_item line (task_with table (taken_link element container ∷ inputs_of table body) (outputs_of table body) body) plain.no_item)
      (items_of_body graphs body (with_container element container table) (container + 1) variable))
  consumed_good true body line table container variable element place before e begins are fit written of_body =
      let inside : Place = in_consume true element place in
      with_item line (task_with table (taken_link element container ∷ inputs_of table body) (outputs_of table body) body) plain.no_item
      (outputs_written W all table programs body inside refl (placed_from inside body fit) (known_from inside body fit) are written, tt) (tt, tt)
  consumed_good false body line table container variable element place before e begins are fit written of_body =
      let with : Containers = with_element declared before false element in
      let named : name_at all container ≡ element = made_named before _ all container e (first_begins symbols declared body true with all begins) in
      of_body with (omega (arith, element_longer symbols declared before false element, e)) begins
      (one_more_known all place.containers table.containers element (of_dimensions 1) container named are) fit

  mutual
    pub item_good : (statement : StatementTree) (in_scope : Bool) (table : Table) (container variable : ℕ) (rest : ItemTrees) (place : Place) (before : Containers) → IsAround in_scope place.around → length before ≡ container →
        Begins (containers_with symbols declared statement in_scope before) all → place.programs ≡ above → AreKnown all place.containers table.containers → EveryAt Fit place statement →
        AllByRecursion W (names_written programs statement) → AreGood rest → AreGood (items_with graphs statement in_scope table container variable rest)
    item_good (assign line name at add value) in_scope table container variable rest place before around e begins of are fit written good =
        with_item line (element_task table in_scope name at add value) rest (element_good table in_scope add name at value (number_written all table place.containers are W name (_, fit.1.0.0) written.0)) good
    item_good (copy line to to_dimensions from from_dimensions) in_scope table container variable rest place before around e begins of are fit written good =
        ((number_written all table place.containers are W to (part_known place.containers to to_dimensions fit.1.0.0) written.0, good.0), (tt, good.1))
    item_good (reduce line lambda from to axis identity) in_scope table container variable rest place before around e begins of are fit written good =
        ((number_written all table place.containers are W to (part_known place.containers to [] fit.1.0.1) written.0, good.0), (tt, good.1))
    item_good (map_scope line parameters ranges body) in_scope table container variable rest place before around e begins of are fit written good =
        let inside : ItemTrees = items_of_body graphs body (with_variables parameters variable table) container (variable + length parameters) in
        with_item line (plain.map_scope false (parameters_of table.variables ranges variable) (own_of body container) inside) rest
        (body_good body (with_variables parameters variable table) container (variable + length parameters) (in_map place) before refl e begins of are fit.1 written) good
    item_good (tasklet line body) in_scope table container variable rest place before around e begins of are fit written good =
        let inside : Place = in_tasklet place in
        with_item line (tasklet_item table body) rest (outputs_written W all table programs body inside refl (placed_from inside body fit.1) (known_from inside body fit.1) are written, tt) good
    item_good (consume_scope line stream size name element worker body) in_scope table container variable rest place before around e begins of are fit written good =
        let items : ItemTrees =
        cond (has_connector body) (plain.and_item line (task_with table (taken_link element container ∷ inputs_of table body) (outputs_of table body) body) plain.no_item)
        (items_of_body graphs body (with_container element container table) (container + 1) variable) in
        with_item line (plain.consume_scope (container_number table stream) container (own_of body (container + 1)) items) rest
        (consumed_good (has_connector body) body line table container variable element place before e begins are fit.1 written
        (λ with e begins are fit. body_good body (with_container element container table) (container + 1) variable (in_consume false element place) with refl e begins of are fit written)) good
    item_good (call line name arguments) in_scope table container variable rest place before around e begins of are fit written good =
        with_item line (plain.nested_graph (graphs name) (call_links table arguments (containers_of (graphs name)))) rest (call_good place line name arguments table of fit are written) good
    item_good statement in_scope table container variable rest place before around e begins of are fit written good = good

    body_good : (body : Block) (table : Table) (container variable : ℕ) (place : Place) (before : Containers) → place.around ≡ scope → length before ≡ container → Begins (containers_with_all symbols declared body true before) all →
        place.programs ≡ above → AreKnown all place.containers table.containers → EveryFrom Fit place body → AllByRecursion W (all_written programs body) → AreGood (items_of_body graphs body table container variable)
    body_good no_statement table container variable place before around e begins of are fit written = (tt, tt)
    body_good (and_statement first rest) table container variable place before around e begins of are fit written =
        let middle : Containers = containers_with symbols declared first true before in
        let made : Begins middle all = first_begins symbols declared rest true middle all begins in
        let placed : EveryAt IsPlaced place first = placed_at place first fit.0 in
        item_good first true table container variable (items_of_body graphs rest (table_behind first container table) (container + containers_in first) (variable + variables_in first)) place before around e made of are fit.0
        (all_first W (names_written programs first) (all_written programs rest) written)
        (body_good rest (table_behind first container table) (container + containers_in first) (variable + variables_in first) (past first place) middle around
        (counted symbols declared first true place before placed ∙ ap (λ number. number + containers_in first) e) begins of (known_behind symbols declared all first table container place before around placed e made are) fit.1
        (all_second W (names_written programs first) (all_written programs rest) written))
