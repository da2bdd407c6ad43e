-- The items of statements name containers in force.
use Rattle.std.proofs.Common.{◌≡◌, ◌∙◌, inr, ℕ, ◌+◌, ◌<◌, List, [], ◌∷◌, ◌++◌, length, Bool, true, false, cond, nat_eq, refl, ap, sym, subst, arith}
use Rattle.std.proofs.lemmas.List.Folds.{list_any-append}
use Rattle.sd_lex.specs.PlainTree.{StatementTree, argument_array, local_array, local_stream, assign, copy, reduce, map_scope, tasklet, consume_scope, call, for_loop, while_loop, branch, input, output, set, set_at, tasklet_branch, Block, no_statement, and_statement}
use Rattle.sd_lex.specs.StatementKind.{has_connector}
use Rattle.sd_graph.specs.PlainTree as plain
use Rattle.sd_graph.specs.PlainTree.{ItemTrees, GraphTree}
use Rattle.sd_graph.specs.TreeParts.{containers_of}
use Rattle.sd_graph.specs.ContainerParts.{extents_of}
use Rattle.sd_graph.specs.InForce.{IsInForce, IsElement, AreLinksInForce, AreItemsInForce, AreContainersInForce}
use Rattle.sd_graph.specs.Wiring.{has_number}
use Rattle.sd_graph.specs.declared.container.Container.{Container}
use Rattle.sd_graph.specs.declared.link.Link.{Link}
use Rattle.sd_graph.specs.declared.container.ContainerKind.TheVariants.{Private}
use Rattle.sd_graph.proofs.Among.{nat_eq_same, or_first, or_second}
use Rattle.sd_program.specs.Names.{Name, Named}
use Rattle.sd_program.specs.Declared.{containers_in}
use Rattle.sd_program.specs.Place.{Holder, scope, task, Place, past, in_map, in_tasklet, in_consume, behind, EveryAt, EveryFrom, of_dimensions}
use Rattle.sd_program.specs.Known.{StandsIn, StandsInScope, IsPlaced, IsKnown, KnowsContainers}
use Rattle.sd_task.specs.task.Table.{Table, with_container, with_variables}
use Rattle.sd_task.specs.tasklets.Item.{task_with, inputs_of, outputs_of, input_before, output_before}
use Rattle.sd_elab.specs.items.Counts.{variables_in}
use Rattle.sd_elab.specs.items.NamesBehind.{own_before, own_of, table_behind}
use Rattle.sd_elab.specs.items.Items.{taken_link, items_with, items_of_body}
use Rattle.sd_task.specs.containers.Declarations.{Containers, with_element, containers_with, containers_with_all}
use Rattle.sd_made.proofs.elab_lemmas.ContainersMade.{holds_here, same_behind, Begins, first_begins, made_at, counted, element_longer, element_made}
use Rattle.sd_made.proofs.elab_lemmas.NamesKnown.{AreKnown, one_more_known, known_inside, name_in_force, array_in_force, part_in_force, target_in_force, element_in_force, call_in_force}

-- ---- the links of a tasklet

module _ (all : Containers) (private : List ℕ) where
  input_in_force : (statement : StatementTree) (known : Named Holder) (table : Table) (links : List Link) → AreKnown all private known table.containers → KnowsContainers known statement →
      AreLinksInForce all private links → AreLinksInForce all private (input_before table statement links)
  input_in_force (argument_array line name bits extents) known table links are knows force = force
  input_in_force (local_array line name extents bits) known table links are knows force = force
  input_in_force (local_stream line name bits size) known table links are knows force = force
  input_in_force (assign line name at add value) known table links are knows force = force
  input_in_force (copy line to to_dimensions from from_dimensions) known table links are knows force = force
  input_in_force (reduce line lambda from to axis identity) known table links are knows force = force
  input_in_force (map_scope line parameters ranges body) known table links are knows force = force
  input_in_force (tasklet line body) known table links are knows force = force
  input_in_force (consume_scope line stream size name element worker body) known table links are knows force = force
  input_in_force (call line name arguments) known table links are knows force = force
  input_in_force (for_loop line name begin end step body) known table links are knows force = force
  input_in_force (while_loop line when body) known table links are knows force = force
  input_in_force (branch line when body other) known table links are knows force = force
  input_in_force (input line connector memlet) known table links are knows force = (part_in_force all private known table are memlet.name memlet.dimensions knows, force)
  input_in_force (output line connector memlet) known table links are knows force = force
  input_in_force (set line name value) known table links are knows force = force
  input_in_force (set_at line name at value) known table links are knows force = force
  input_in_force (tasklet_branch line when body other) known table links are knows force = force

  output_in_force : (statement : StatementTree) (known : Named Holder) (table : Table) (links : List Link) → AreKnown all private known table.containers → KnowsContainers known statement →
      AreLinksInForce all private links → AreLinksInForce all private (output_before table statement links)
  output_in_force (argument_array line name bits extents) known table links are knows force = force
  output_in_force (local_array line name extents bits) known table links are knows force = force
  output_in_force (local_stream line name bits size) known table links are knows force = force
  output_in_force (assign line name at add value) known table links are knows force = force
  output_in_force (copy line to to_dimensions from from_dimensions) known table links are knows force = force
  output_in_force (reduce line lambda from to axis identity) known table links are knows force = force
  output_in_force (map_scope line parameters ranges body) known table links are knows force = force
  output_in_force (tasklet line body) known table links are knows force = force
  output_in_force (consume_scope line stream size name element worker body) known table links are knows force = force
  output_in_force (call line name arguments) known table links are knows force = force
  output_in_force (for_loop line name begin end step body) known table links are knows force = force
  output_in_force (while_loop line when body) known table links are knows force = force
  output_in_force (branch line when body other) known table links are knows force = force
  output_in_force (input line connector memlet) known table links are knows force = force
  output_in_force (output line connector memlet) known table links are knows force = (target_in_force all private known table are memlet.name memlet.dimensions knows, force)
  output_in_force (set line name value) known table links are knows force = force
  output_in_force (set_at line name at value) known table links are knows force = force
  output_in_force (tasklet_branch line when body other) known table links are knows force = force

  pub task_in_force : (body : Block) (place : Place) (table : Table) → place.around ≡ task → AreKnown all private place.containers table.containers →
      EveryFrom IsPlaced place body → EveryFrom IsKnown place body → AreLinksInForce all private (inputs_of table body) × AreLinksInForce all private (outputs_of table body)
  task_in_force no_statement place table around are placed known = (tt, tt)
  task_in_force (and_statement first rest) place table around are placed known =
      let are_behind : AreKnown all private (past first place).containers table.containers =
      subst (λ names. AreKnown all private names table.containers) (sym (same_behind first place around placed.0)) are in
      let others : AreLinksInForce all private (inputs_of table rest) × AreLinksInForce all private (outputs_of table rest) =
      task_in_force rest (past first place) table around are_behind placed.1 known.1 in
      let here : KnowsContainers place.containers first = holds_here IsKnown place first known.0 in
      (input_in_force first place.containers table (inputs_of table rest) are here others.0, output_in_force first place.containers table (outputs_of table rest) are here others.1)

-- ---- what a scope declares

has_first : (number : ℕ) (others : List ℕ) → has_number (number ∷ others) number ≡ true
has_first number others = or_first (nat_eq number number) (has_number others number) (nat_eq_same number number refl)

-- the containers of the block's other statements
own_of_rest : (first : StatementTree) (next : ℕ) (others : List ℕ) (number : ℕ) → has_number others number ≡ true → has_number (own_before first next others) number ≡ true
own_of_rest (argument_array line name bits extents) next others number e = e
own_of_rest (local_array line name extents bits) next others number e = or_second (nat_eq number next) (has_number others number) e
own_of_rest (local_stream line name bits size) next others number e = or_second (nat_eq number next) (has_number others number) e
own_of_rest (assign line name at add value) next others number e = e
own_of_rest (copy line to to_dimensions from from_dimensions) next others number e = e
own_of_rest (reduce line lambda from to axis identity) next others number e = e
own_of_rest (map_scope line parameters ranges body) next others number e = e
own_of_rest (tasklet line body) next others number e = e
own_of_rest (consume_scope line stream size name element worker body) next others number e = e
own_of_rest (call line name arguments) next others number e = e
own_of_rest (for_loop line name begin end step body) next others number e = e
own_of_rest (while_loop line when body) next others number e = e
own_of_rest (branch line when body other) next others number e = e
own_of_rest (input line connector memlet) next others number e = e
own_of_rest (output line connector memlet) next others number e = e
own_of_rest (set line name value) next others number e = e
own_of_rest (set_at line name at value) next others number e = e
own_of_rest (tasklet_branch line when body other) next others number e = e

in_first : (own private : List ℕ) (number : ℕ) → has_number own number ≡ true → has_number (own ++ private) number ≡ true
in_first own private number e = list_any-append (nat_eq number) own private ∙ or_first (has_number own number) (has_number private number) e

in_second : (own private : List ℕ) (number : ℕ) → has_number private number ≡ true → has_number (own ++ private) number ≡ true
in_second own private number e = list_any-append (nat_eq number) own private ∙ or_second (has_number own number) (has_number private number) e

module _ (symbols : Named ℕ) (declared : List Name) (all : Containers) where
  -- a container that a scope declares is private to it
  own_in_force : (private own : List ℕ) (before : Containers) (entry : Name × Container) (container : ℕ) → length before ≡ container → Begins (before ++ entry ∷ []) all →
      ((number : ℕ) → has_number (container ∷ own) number ≡ true → has_number private number ≡ true) → IsInForce all private container
  own_in_force private own before entry container e begins more =
      (subst (λ number. number < length all) e (made_at before entry all begins).0, inr (more container (has_first container own)))

  -- behind a statement of a scope
  known_behind : (statement : StatementTree) (table : Table) (container : ℕ) (private own : List ℕ) (known : Named Holder) (before : Containers) → StandsInScope statement →
      length before ≡ container → Begins (containers_with symbols declared statement true before) all →
      ((number : ℕ) → has_number (own_before statement container own) number ≡ true → has_number private number ≡ true) →
      AreKnown all private known table.containers → AreKnown all private (behind statement known) (table_behind statement container table).containers
  known_behind (argument_array line name bits extents) table container private own known before stands e begins more are = absurd stands
  known_behind (local_array line name extents bits) table container private own known before stands e begins more are =
      one_more_known all private known table.containers name _ container (own_in_force private own before _ container e begins more) are
  known_behind (local_stream line name bits size) table container private own known before stands e begins more are =
      one_more_known all private known table.containers name _ container (own_in_force private own before _ container e begins more) are
  known_behind (assign line name at add value) table container private own known before stands e begins more are = are
  known_behind (copy line to to_dimensions from from_dimensions) table container private own known before stands e begins more are = are
  known_behind (reduce line lambda from to axis identity) table container private own known before stands e begins more are = are
  known_behind (map_scope line parameters ranges body) table container private own known before stands e begins more are = are
  known_behind (tasklet line body) table container private own known before stands e begins more are = are
  known_behind (consume_scope line stream size name element worker body) table container private own known before stands e begins more are = are
  known_behind (call line name arguments) table container private own known before stands e begins more are = are
  known_behind (for_loop line name begin end step body) table container private own known before stands e begins more are = absurd stands
  known_behind (while_loop line when body) table container private own known before stands e begins more are = absurd stands
  known_behind (branch line when body other) table container private own known before stands e begins more are = absurd stands
  known_behind (input line connector memlet) table container private own known before stands e begins more are = absurd stands
  known_behind (output line connector memlet) table container private own known before stands e begins more are = absurd stands
  known_behind (set line name value) table container private own known before stands e begins more are = absurd stands
  known_behind (set_at line name at value) table container private own known before stands e begins more are = absurd stands
  known_behind (tasklet_branch line when body other) table container private own known before stands e begins more are = absurd stands

  element_begins : (is_task : Bool) (body : Block) (with : Containers) → Begins (cond is_task with (containers_with_all symbols declared body true with)) all → Begins with all
  element_begins true body with begins = begins
  element_begins false body with begins = first_begins symbols declared body true with all begins

  -- ---- items

  module _ (graphs : Name → GraphTree) (force : (name : Name) → AreContainersInForce (graphs name)) where
    -- the block of a consume scope, which may be one tasklet
    consumed_in_force : (is_task : Bool) (body : Block) (line : ℕ) (table : Table) (container variable : ℕ) (element : Name) (private own : List ℕ) (place : Place) (before : Containers) →
        length before ≡ container → Begins (cond is_task (with_element declared before is_task element) (containers_with_all symbols declared body true (with_element declared before is_task element))) all →
        AreKnown all private place.containers table.containers → EveryFrom IsPlaced (in_consume is_task element place) body → EveryFrom IsKnown (in_consume is_task element place) body →
        ((with : Containers) → length with ≡ container + 1 → Begins (containers_with_all symbols declared body true with) all →
        AreKnown all (container ∷ own ++ private) (in_consume false element place).containers (with_container element container table).containers →
        EveryFrom IsPlaced (in_consume false element place) body → EveryFrom IsKnown (in_consume false element place) body →
        AreItemsInForce (items_of_body graphs body (with_container element container table) (container + 1) variable) all (container ∷ own ++ private)) →
        AreItemsInForce
        (cond is_task (plain.and_item line (task_with table (taken_link element container ∷ inputs_of table body) (outputs_of table body) body) plain.no_item)
        (items_of_body graphs body (with_container element container table) (container + 1) variable))
        all (container ∷ own ++ private)
    consumed_in_force true body line table container variable element private own place before e begins are placed known of_body =
        let more : (number : ℕ) → has_number private number ≡ true → has_number (container ∷ own ++ private) number ≡ true =
        λ number e. or_second (nat_eq number container) (has_number (own ++ private) number) (in_second own private number e) in
        let links : AreLinksInForce all (container ∷ own ++ private) (inputs_of table body) × AreLinksInForce all (container ∷ own ++ private) (outputs_of table body) =
        task_in_force all (container ∷ own ++ private) body (in_consume true element place) table refl (known_inside all (container ∷ own ++ private) private place.containers table.containers more are) placed known in
        let there : container < length all = subst (λ number. number < length all) e (element_made symbols declared before true element all begins).0 in
        ((((there, inr (has_first container (own ++ private))), links.0), links.1), tt)
    consumed_in_force false body line table container variable element private own place before e begins are placed known of_body =
        let more : (number : ℕ) → has_number private number ≡ true → has_number (container ∷ own ++ private) number ≡ true =
        λ number e. or_second (nat_eq number container) (has_number (own ++ private) number) (in_second own private number e) in
        let with : Containers = with_element declared before false element in
        let there : container < length all = subst (λ number. number < length all) e (element_made symbols declared before false element all (first_begins symbols declared body true with all begins)).0 in
        of_body with (omega (arith, element_longer symbols declared before false element, e)) begins
        (one_more_known all (container ∷ own ++ private) place.containers table.containers element (of_dimensions 1) container (there, inr (has_first container (own ++ private)))
        (known_inside all (container ∷ own ++ private) private place.containers table.containers more are))
        placed known

    -- the element of a consume scope
    element_is_private : (before : Containers) (is_task : Bool) (element : Name) (container : ℕ) → length before ≡ container → Begins (with_element declared before is_task element) all → IsElement all container
    element_is_private before is_task element container e begins =
        subst (λ number. IsElement all number) e
        (subst (λ found. (found.kind ≡ Private) × (extents_of found ≡ 1 ∷ [])) (sym (element_made symbols declared before is_task element all begins).1) (refl, refl))

    mutual
      pub item_in_force : (statement : StatementTree) (in_scope : Bool) (table : Table) (container variable : ℕ) (rest : ItemTrees) (private : List ℕ) (place : Place) (before : Containers) →
          length before ≡ container → Begins (containers_with symbols declared statement in_scope before) all → AreKnown all private place.containers table.containers →
          EveryAt IsPlaced place statement → EveryAt IsKnown place statement → AreItemsInForce rest all private →
          AreItemsInForce (items_with graphs statement in_scope table container variable rest) all private
      item_in_force (argument_array line name bits extents) in_scope table container variable rest private place before e begins are placed known others = others
      item_in_force (local_array line name extents bits) in_scope table container variable rest private place before e begins are placed known others = others
      item_in_force (local_stream line name bits size) in_scope table container variable rest private place before e begins are placed known others = others
      item_in_force (assign line name at add value) in_scope table container variable rest private place before e begins are placed known others =
          (element_in_force all private place.containers table are in_scope name at add value known.0 known.1, others)
      item_in_force (copy line to to_dimensions from from_dimensions) in_scope table container variable rest private place before e begins are placed known others =
          ((part_in_force all private place.containers table are from from_dimensions known.1, (part_in_force all private place.containers table are to to_dimensions known.0, tt)), others)
      item_in_force (reduce line lambda from to axis identity) in_scope table container variable rest private place before e begins are placed known others =
          ((array_in_force all private place.containers table are from known.0, (array_in_force all private place.containers table are to known.1, tt)), others)
      item_in_force (map_scope line parameters ranges body) in_scope table container variable rest private place before e begins are placed known others =
          let own : List ℕ = own_of body container in (
            body_in_force body (with_variables parameters variable table) container (variable + length parameters) (own ++ private) (in_map place) before refl e begins
                (known_inside all (own ++ private) private place.containers table.containers (in_second own private) are) (in_first own private) placed.1 known.1,
            others,
          )
      item_in_force (tasklet line body) in_scope table container variable rest private place before e begins are placed known others =
          (task_in_force all private body (in_tasklet place) table refl are placed.1 known.1, others)
      item_in_force (consume_scope line stream size name element worker body) in_scope table container variable rest private place before e begins are placed known others =
          let own : List ℕ = own_of body (container + 1) in
          let is_task : Bool = has_connector body in (
            (
              name_in_force all private place.containers table are stream _ known.0,
              element_is_private before is_task element container e (element_begins is_task body (with_element declared before is_task element) begins),
              consumed_in_force is_task body line table container variable element private own place before e begins are placed.1 known.1
                  (λ with e' begins' are' placed' known'.
                  body_in_force body (with_container element container table) (container + 1) variable (container ∷ own ++ private) (in_consume false element place) with refl e' begins' are'
                  (λ number e. or_second (nat_eq number container) (has_number (own ++ private) number) (in_first own private number e)) placed' known'),
            ),
            others,
          )
      item_in_force (call line name arguments) in_scope table container variable rest private place before e begins are placed known others =
          ((call_in_force all private place.containers table are arguments (containers_of (graphs name)) known, force name), others)
      item_in_force (for_loop line name begin end step body) in_scope table container variable rest private place before e begins are placed known others = others
      item_in_force (while_loop line when body) in_scope table container variable rest private place before e begins are placed known others = others
      item_in_force (branch line when body other) in_scope table container variable rest private place before e begins are placed known others = others
      item_in_force (input line connector memlet) in_scope table container variable rest private place before e begins are placed known others = others
      item_in_force (output line connector memlet) in_scope table container variable rest private place before e begins are placed known others = others
      item_in_force (set line name value) in_scope table container variable rest private place before e begins are placed known others = others
      item_in_force (set_at line name at value) in_scope table container variable rest private place before e begins are placed known others = others
      item_in_force (tasklet_branch line when body other) in_scope table container variable rest private place before e begins are placed known others = others

      body_in_force : (body : Block) (table : Table) (container variable : ℕ) (private : List ℕ) (place : Place) (before : Containers) → place.around ≡ scope → length before ≡ container →
          Begins (containers_with_all symbols declared body true before) all → AreKnown all private place.containers table.containers →
          ((number : ℕ) → has_number (own_of body container) number ≡ true → has_number private number ≡ true) →
          EveryFrom IsPlaced place body → EveryFrom IsKnown place body → AreItemsInForce (items_of_body graphs body table container variable) all private
      body_in_force no_statement table container variable private place before around e begins are more placed known = tt
      body_in_force (and_statement first rest) table container variable private place before around e begins are more placed known =
          let middle : Containers = containers_with symbols declared first true before in
          let first_made : Begins middle all = first_begins symbols declared rest true middle all begins in
          let own : List ℕ = own_of rest (container + containers_in first) in
          item_in_force first true table container variable _ private place before e first_made are placed.0 known.0
          (body_in_force rest (table_behind first container table) (container + containers_in first) (variable + variables_in first) private (past first place) middle around
          (counted symbols declared first true place before placed.0 ∙ ap (λ number. number + containers_in first) e) begins
          (known_behind first table container private own place.containers before (subst (λ kind. StandsIn kind first) around (holds_here IsPlaced place first placed.0)) e first_made more are)
          (λ number e. more number (own_of_rest first container own number e)) placed.1 known.1)
