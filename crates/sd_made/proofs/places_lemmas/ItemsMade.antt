-- The items of statements are told, one for one.
use Rattle.std.proofs.Common.{◌≡◌, ◌∙◌, inl, inr, ℕ, ◌+◌, ◌<◌, ◌≤◌, pos, List, [], ◌∷◌, ◌++◌, length, Bool, true, false, cond, ◌&&◌, nat_eq, refl, ap, sym, subst, arith}
use Rattle.sd_num.specs.declared.width.Width.TheVariants.{W64}
use Rattle.sd_lex.specs.PlainTree.{Dimension, Expressions, no_expression, and_expression, StatementTree, argument_array, local_array, local_stream, assign, copy, reduce, map_scope, tasklet, consume_scope, call, for_loop, while_loop, branch, tasklet_branch, Block, no_statement, and_statement, FunctionTree}
use Rattle.sd_lex.specs.StatementKind.{has_connector}
use Rattle.sd_graph.specs.PlainTree as plain
use Rattle.sd_graph.specs.PlainTree.{KindTree, ItemTrees, GraphTree}
use Rattle.sd_graph.specs.TreeParts.{containers_of}
use Rattle.sd_graph.specs.ContainerParts.{Containers, container_at}
use Rattle.sd_graph.specs.Wiring.{has_number}
use Rattle.sd_graph.specs.declared.container.Container.{Container}
use Rattle.sd_graph.specs.declared.container.ContainerKind.TheVariants.{Private, PrivateStream}
use Rattle.sd_graph.proofs.Among.{or_second}
use Rattle.sd_program.specs.Names.{Name, Named}
use Rattle.sd_program.specs.Affines.{affine_number, affines_of}
use Rattle.sd_program.specs.Declared.{containers_in}
use Rattle.sd_program.specs.Place.{Holder, of_dimensions, of_values, Place, scope, length_of, dimensions_of, past, in_map, in_consume, behind, EveryAt, EveryFrom}
use Rattle.sd_program.specs.Known.{StandsIn, StandsInScope, IsPlaced}
use Rattle.sd_task.specs.in_force.Names.{with_numbered}
use Rattle.sd_task.specs.in_force.Ranges.{extents_of, parameters_of}
use Rattle.sd_task.specs.task.Table.{Table, with_container, with_variables}
use Rattle.sd_task.specs.tasklets.Item.{task_with, inputs_of, outputs_of}
use Rattle.sd_elab.specs.items.Counts.{variables_in, variables_in_all}
use Rattle.sd_elab.specs.items.NamesBehind.{own_before, own_of, table_behind}
use Rattle.sd_elab.specs.items.Items.{taken_link, items_with, items_of_body}
use Rattle.sd_task.specs.containers.Declarations.{with_element, containers_with, containers_with_all}
use Rattle.sd_made.proofs.elab_lemmas.ContainersMade.{holds_here, Begins, first_begins, made_at, counted, element_longer, element_made}
use Rattle.sd_validity.specs.rules.GraphParts.{variables_of}
use Rattle.sd_validity.specs.rules.Places.{Scopes, in_map as in_map_of, in_consume as in_consume_of, loops_at, param_numbers}
use Rattle.sd_validity.specs.bound_places.Throughout.{InKind, InItems, Throughout}
use Rattle.sd_made.proofs.places_lemmas.Held.{IsOf, IsHeld, AreHeld, one_more_held, held_inside, in_first, in_second, has_first, AreVariables, variables_inside, numbered, are_params}
use Rattle.sd_made.proofs.places_lemmas.Made.{Stands, IsAround, Fitting, IsWhole, IsItem, IsExit}

-- ---- what is in force

affines_counted : (symbols : Named ℕ) (expressions : Expressions) → length (affines_of symbols expressions) ≡ length_of expressions
affines_counted symbols no_expression = refl
affines_counted symbols (and_expression first rest) = omega (arith, affines_counted symbols rest)

-- the extents of an array are as many as are written, where one is
pub extents_counted : (symbols : Named ℕ) (extents : Expressions) → 1 ≤ length_of extents → length (extents_of symbols extents) ≡ length_of extents
extents_counted symbols no_expression least = absurd (omega (arith, least))
extents_counted symbols (and_expression first rest) least = affines_counted symbols (and_expression first rest)

-- those of an argument, which has one where none is written
pub written_extents : (symbols : Named ℕ) (extents : Expressions) → length (extents_of symbols extents) ≡ dimensions_of extents
written_extents symbols no_expression = refl
written_extents symbols (and_expression first rest) = affines_counted symbols (and_expression first rest)

-- the containers of the block's other statements
own_of_rest : (first : StatementTree) (next : ℕ) (others : List ℕ) (number : ℕ) → has_number others number ≡ true → has_number (own_before first next others) number ≡ true
own_of_rest (local_array line name extents bits) next others number e = or_second (nat_eq number next) (has_number others number) e
own_of_rest (local_stream line name bits size) next others number e = or_second (nat_eq number next) (has_number others number) e
own_of_rest first next others number e = e

-- a container that a scope declares
own_held : (all : Containers) (private own : List ℕ) (before : Containers) (entry : Name × Container) (container : ℕ) (holder : Holder) → length before ≡ container → Begins (before ++ entry ∷ []) all →
    ((number : ℕ) → has_number (container ∷ own) number ≡ true → has_number private number ≡ true) → IsOf holder entry.1 → IsHeld all private holder container
own_held all private own before entry container holder e begins more of =
    let made : (length before < length all) × (container_at all (length before) ≡ entry.1) = made_at before entry all begins in
    let found : IsOf holder (container_at all (length before)) = subst (λ found. IsOf holder found) (sym made.1) of in (
      (subst (λ number. number < length all) e made.0, inr (more container (has_first container own))),
      subst (λ number. IsOf holder (container_at all number)) e found,
    )

module _ (symbols : Named ℕ) (declared : List Name) (all : Containers) where
  -- the containers in force behind a statement of a scope
  held_behind : (statement : StatementTree) (table : Table) (container : ℕ) (private own : List ℕ) (known : Named Holder) (before : Containers) → StandsInScope statement →
      length before ≡ container → Begins (containers_with symbols declared statement true before) all →
      ((number : ℕ) → has_number (own_before statement container own) number ≡ true → has_number private number ≡ true) →
      AreHeld all private known table.containers → AreHeld all private (behind statement known) (table_behind statement container table).containers
  held_behind (argument_array line name bits extents) table container private own known before stands e begins more are = absurd stands
  held_behind (local_array line name extents bits) table container private own known before stands e begins more are =
      let entry : Name × Container = (name, record { extents = extents_of symbols extents; kind = Private; width = W64 }) in
      let holder : Holder = of_dimensions (length_of extents) in
      one_more_held all private known table.containers name holder container (own_held all private own before entry container holder e begins more (refl, extents_counted symbols extents)) are
  held_behind (local_stream line name bits size) table container private own known before stands e begins more are =
      let entry : Name × Container = (name, record { extents = []; kind = PrivateStream; width = W64 }) in
      one_more_held all private known table.containers name of_values container (own_held all private own before entry container of_values e begins more (refl, refl)) are
  held_behind (for_loop line name begin end step body) table container private own known before stands e begins more are = absurd stands
  held_behind (while_loop line when body) table container private own known before stands e begins more are = absurd stands
  held_behind (branch line when body other) table container private own known before stands e begins more are = absurd stands
  held_behind (tasklet_branch line when body other) table container private own known before stands e begins more are = absurd stands
  held_behind statement table container private own known before stands e begins more are = are

  element_begins : (is_task : Bool) (body : Block) (with : Containers) → Begins (cond is_task with (containers_with_all symbols declared body true with)) all → Begins with all
  element_begins true body with begins = begins
  element_begins false body with begins = first_begins symbols declared body true with all begins

-- the parameters of a map are in force in it
map_variables : (tree : GraphTree) (params loops : List ℕ) (parameters : List Name) (ranges : List Dimension) (variable : ℕ) (known : Named ℕ) → length parameters ≡ length ranges →
    variable + length parameters ≤ length (variables_of tree) → AreVariables tree params loops known →
    AreVariables tree (param_numbers (parameters_of known ranges variable) ++ params) loops (with_numbered parameters variable known)
map_variables tree params loops parameters ranges variable known same room are name number e = elim (numbered parameters variable known name number e) [
  | inl within ↦ (omega (arith, within.1, room), inr (inl (in_first (param_numbers (parameters_of known ranges variable)) params number (are_params ranges known variable number within.0 (omega (arith, within.1, same))))))
  | inr earlier ↦ variables_inside tree params (param_numbers (parameters_of known ranges variable) ++ params) loops loops known
      (in_second (param_numbers (parameters_of known ranges variable)) params) (λ number e. e) are name number earlier
]

-- behind a statement of a scope the same variables are in force
same_variables : (statement : StatementTree) (container : ℕ) (table : Table) → table.variables ≡ (table_behind statement container table).variables
same_variables (local_array line name extents bits) container table = refl
same_variables (local_stream line name bits size) container table = refl
same_variables statement container table = refl

same_all : (statement : StatementTree) (container : ℕ) (table : Table) → (table_behind statement container table).all ≡ table.all
same_all (local_array line name extents bits) container table = refl
same_all (local_stream line name bits size) container table = refl
same_all statement container table = refl

module _ (Given : Place → StatementTree → Type 0) (Is : List Name → FunctionTree → Type 0) (fits : (place : Place) (statement : StatementTree) → Given place statement → Fitting place statement)
    (placed_at : (place : Place) (statement : StatementTree) → EveryAt Given place statement → EveryAt IsPlaced place statement)
    (placed_from : (place : Place) (block : Block) → EveryFrom Given place block → EveryFrom IsPlaced place block)
    (graphs : Name → GraphTree) (symbols : Named ℕ) (declared : List Name) where
  abbrev Items : ItemTrees → GraphTree → (state : ℕ) → Scopes → Type 0
  Items items tree state scopes = InItems (IsWhole Given Is) (IsExit Given Is) (IsItem Given Is) items tree state scopes

  abbrev Inside : KindTree → GraphTree → (state : ℕ) → Scopes → Type 0
  Inside kind tree state scopes = InKind (IsWhole Given Is) (IsExit Given Is) (IsItem Given Is) kind tree state scopes

  element_inside : (resolved : Bool) (one other : KindTree) (tree : GraphTree) (state : ℕ) (scopes : Scopes) → Inside one tree state scopes → Inside other tree state scopes → Inside (cond resolved one other) tree state scopes
  element_inside true one other tree state scopes holds others = holds
  element_inside false one other tree state scopes holds others = others

  module _ (tree : GraphTree) (state : ℕ) (inner : (name : Name) → Throughout (IsWhole Given Is) (IsExit Given Is) (IsItem Given Is) (graphs name)) where
    abbrev all : Containers
    all = containers_of tree

    -- where the block of a scope stands
    abbrev OfBody : Block → Table → (container variable : ℕ) → Scopes → Place → Type 0
    OfBody body table container variable scopes place = Items (items_of_body graphs body table container variable) tree state scopes

    -- the block of a consume scope, which may be one tasklet
    consumed_made : (is_task : Bool) (body : Block) (line : ℕ) (table : Table) (container variable : ℕ) (element : Name) (scopes : Scopes) (own : List ℕ) (place : Place) (before : Containers) →
        length before ≡ container → Begins (cond is_task (with_element declared before is_task element) (containers_with_all symbols declared body true (with_element declared before is_task element))) all →
        Stands tree scopes (loops_at tree state) place table → EveryFrom Given (in_consume is_task element place) body →
        ((with : Containers) → length with ≡ container + 1 → Begins (containers_with_all symbols declared body true with) all →
        Stands tree (in_consume_of scopes container own) (loops_at tree state) (in_consume false element place) (with_container element container table) →
        EveryFrom Given (in_consume false element place) body → OfBody body (with_container element container table) (container + 1) variable (in_consume_of scopes container own) (in_consume false element place)) →
        Items
        (cond is_task (plain.and_item line (task_with table (taken_link element container ∷ inputs_of table body) (outputs_of table body) body) plain.no_item)
        (items_of_body graphs body (with_container element container table) (container + 1) variable))
        tree state (in_consume_of scopes container own)
    consumed_made true body line table container variable element scopes own place before e begins stands given of_body =
        let more : (number : ℕ) → has_number scopes.private number ≡ true → has_number (container ∷ own ++ scopes.private) number ≡ true =
        λ number e. or_second (nat_eq number container) (has_number (own ++ scopes.private) number) (in_second own scopes.private number e) in
        let made : (length before < length all) × (container_at all (length before) ≡ record { extents = affine_number (pos 1) ∷ []; kind = Private; width = W64 }) = element_made symbols declared before true element all begins in (
          inr (record {
            place = place;
            body = body;
            table = table;
            element = element;
            container = container;
            stands = record {
              containers = held_inside all (container ∷ own ++ scopes.private) scopes.private place.containers table.containers more stands.containers;
              variables = stands.variables;
              all = stands.all;
            };
            given = given;
            there = subst (λ number. number < length all) e made.0;
            private = has_first container (own ++ scopes.private);
            held = subst (λ number. container_at all number ≡ record { extents = affine_number (pos 1) ∷ []; kind = Private; width = W64 }) e made.1;
            made = refl;
          }),
          tt,
          tt,
        )
    consumed_made false body line table container variable element scopes own place before e begins stands given of_body =
        let more : (number : ℕ) → has_number scopes.private number ≡ true → has_number (container ∷ own ++ scopes.private) number ≡ true =
        λ number e. or_second (nat_eq number container) (has_number (own ++ scopes.private) number) (in_second own scopes.private number e) in
        let with : Containers = with_element declared before false element in
        let made : (length before < length all) × (container_at all (length before) ≡ record { extents = affine_number (pos 1) ∷ []; kind = Private; width = W64 }) =
        element_made symbols declared before false element all (first_begins symbols declared body true with all begins) in
        let found : IsOf (of_dimensions 1) (container_at all (length before)) = subst (λ found. IsOf (of_dimensions 1) found) (sym made.1) (refl, λ least. refl) in
        of_body with (omega (arith, element_longer symbols declared before false element, e)) begins
        (record {
          containers = one_more_held all (container ∷ own ++ scopes.private) place.containers table.containers element (of_dimensions 1) container
              ((subst (λ number. number < length all) e made.0, inr (has_first container (own ++ scopes.private))), subst (λ number. IsOf (of_dimensions 1) (container_at all number)) e found)
              (held_inside all (container ∷ own ++ scopes.private) scopes.private place.containers table.containers more stands.containers);
          variables = stands.variables;
          all = stands.all;
        })
        given

    mutual
      pub item_made : (statement : StatementTree) (in_scope : Bool) (table : Table) (container variable : ℕ) (rest : ItemTrees) (scopes : Scopes) (place : Place) (before : Containers) →
          IsAround in_scope place.around → length before ≡ container → Begins (containers_with symbols declared statement in_scope before) all → variable + variables_in statement ≤ length (variables_of tree) →
          Stands tree scopes (loops_at tree state) place table → EveryAt Given place statement → Items rest tree state scopes →
          Items (items_with graphs statement in_scope table container variable rest) tree state scopes
      item_made (assign line name at add value) in_scope table container variable rest scopes place before around e begins room stands given others = (
        inl (record {
          place = place;
          statement = assign line name at add value;
          in_scope = in_scope;
          table = table;
          container = container;
          variable = variable;
          graphs = graphs;
          symbols = symbols;
          declared = declared;
          before = before;
          around = around;
          stands = stands;
          given = given;
          first = e;
          begins = begins;
          room = room;
          made = refl;
        }),
        element_inside (add && in_scope) _ _ tree state scopes tt tt,
        others,
      )
      item_made (copy line to to_dimensions from from_dimensions) in_scope table container variable rest scopes place before around e begins room stands given others = (
        inl (record {
          place = place;
          statement = copy line to to_dimensions from from_dimensions;
          in_scope = in_scope;
          table = table;
          container = container;
          variable = variable;
          graphs = graphs;
          symbols = symbols;
          declared = declared;
          before = before;
          around = around;
          stands = stands;
          given = given;
          first = e;
          begins = begins;
          room = room;
          made = refl;
        }),
        tt,
        others,
      )
      item_made (reduce line lambda from to axis identity) in_scope table container variable rest scopes place before around e begins room stands given others = (
        inl (record {
          place = place;
          statement = reduce line lambda from to axis identity;
          in_scope = in_scope;
          table = table;
          container = container;
          variable = variable;
          graphs = graphs;
          symbols = symbols;
          declared = declared;
          before = before;
          around = around;
          stands = stands;
          given = given;
          first = e;
          begins = begins;
          room = room;
          made = refl;
        }),
        tt,
        others,
      )
      item_made (map_scope line parameters ranges body) in_scope table container variable rest scopes place before around e begins room stands given others =
          let own : List ℕ = own_of body container in
          let inside : Scopes = in_map_of scopes (parameters_of table.variables ranges variable) own in (
            inl (record {
              place = place;
              statement = map_scope line parameters ranges body;
              in_scope = in_scope;
              table = table;
              container = container;
              variable = variable;
              graphs = graphs;
              symbols = symbols;
              declared = declared;
              before = before;
              around = around;
              stands = stands;
              given = given;
              first = e;
              begins = begins;
              room = room;
              made = refl;
            }),
            body_made body (with_variables parameters variable table) container (variable + length parameters) inside (in_map place) before refl e begins (omega (arith, room))
                (record {
                  containers = held_inside all (own ++ scopes.private) scopes.private place.containers table.containers (in_second own scopes.private) stands.containers;
                  variables = map_variables tree scopes.params (loops_at tree state) parameters ranges variable table.variables (fits place (map_scope line parameters ranges body) given.0).parameters.0
                      (omega (arith, room)) stands.variables;
                  all = stands.all;
                })
                (in_first own scopes.private) given.1,
            others,
          )
      item_made (tasklet line body) in_scope table container variable rest scopes place before around e begins room stands given others = (
        inl (record {
          place = place;
          statement = tasklet line body;
          in_scope = in_scope;
          table = table;
          container = container;
          variable = variable;
          graphs = graphs;
          symbols = symbols;
          declared = declared;
          before = before;
          around = around;
          stands = stands;
          given = given;
          first = e;
          begins = begins;
          room = room;
          made = refl;
        }),
        tt,
        others,
      )
      item_made (consume_scope line stream size name element worker body) in_scope table container variable rest scopes place before around e begins room stands given others =
          let own : List ℕ = own_of body (container + 1) in (
            inl (record {
              place = place;
              statement = consume_scope line stream size name element worker body;
              in_scope = in_scope;
              table = table;
              container = container;
              variable = variable;
              graphs = graphs;
              symbols = symbols;
              declared = declared;
              before = before;
              around = around;
              stands = stands;
              given = given;
              first = e;
              begins = begins;
              room = room;
              made = refl;
            }),
            consumed_made (has_connector body) body line table container variable element scopes own place before e begins stands given.1
                (λ with e' begins' stands' given'.
                body_made body (with_container element container table) (container + 1) variable (in_consume_of scopes container own) (in_consume false element place) with refl e' begins' (omega (arith, room)) stands'
                (λ number e. or_second (nat_eq number container) (has_number (own ++ scopes.private) number) (in_first own scopes.private number e)) given'),
            others,
          )
      item_made (call line name arguments) in_scope table container variable rest scopes place before around e begins room stands given others = (
        inl (record {
          place = place;
          statement = call line name arguments;
          in_scope = in_scope;
          table = table;
          container = container;
          variable = variable;
          graphs = graphs;
          symbols = symbols;
          declared = declared;
          before = before;
          around = around;
          stands = stands;
          given = given;
          first = e;
          begins = begins;
          room = room;
          made = refl;
        }),
        inner name,
        others,
      )
      item_made statement in_scope table container variable rest scopes place before around e begins room stands given others = others

      body_made : (body : Block) (table : Table) (container variable : ℕ) (scopes : Scopes) (place : Place) (before : Containers) → place.around ≡ scope → length before ≡ container →
          Begins (containers_with_all symbols declared body true before) all → variable + variables_in_all body ≤ length (variables_of tree) → Stands tree scopes (loops_at tree state) place table →
          ((number : ℕ) → has_number (own_of body container) number ≡ true → has_number scopes.private number ≡ true) → EveryFrom Given place body →
          Items (items_of_body graphs body table container variable) tree state scopes
      body_made no_statement table container variable scopes place before around e begins room stands more given = tt
      body_made (and_statement first rest) table container variable scopes place before around e begins room stands more given =
          let middle : Containers = containers_with symbols declared first true before in
          let first_made : Begins middle all = first_begins symbols declared rest true middle all begins in
          let own : List ℕ = own_of rest (container + containers_in first) in
          let placed : EveryAt IsPlaced place first = placed_at place first given.0 in
          let here : StandsInScope first = subst (λ kind. StandsIn kind first) around (holds_here IsPlaced place first placed) in
          item_made first true table container variable _ scopes place before around e first_made (omega (arith, room)) stands given.0
          (body_made rest (table_behind first container table) (container + containers_in first) (variable + variables_in first) scopes (past first place) middle around
          (counted symbols declared first true place before placed ∙ ap (λ number. number + containers_in first) e) begins (omega (arith, room))
          (record {
            containers = held_behind symbols declared all first table container scopes.private own place.containers before here e first_made more stands.containers;
            variables = subst (λ numbers. AreVariables tree scopes.params (loops_at tree state) numbers) (same_variables first container table) stands.variables;
            all = same_all first container table ∙ stands.all;
          })
          (λ number e. more number (own_of_rest first container own number e)) given.1)
