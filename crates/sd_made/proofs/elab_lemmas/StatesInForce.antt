-- The states of a program's graph name containers in force.
use Rattle.std.proofs.Common.{◌≡◌, ◌∙◌, inl, ℕ, ◌+◌, List, [], ◌∷◌, ◌++◌, length, Option, Some, unwrap_or, Bool, true, false, cond, reverse, refl, ap, subst, bytes_eq, zero-add}
use Rattle.std.proofs.lemmas.Grind.{reverse_onto}
use Rattle.std.specs.List.{AllByRecursion}
use Rattle.sd_lex.specs.PlainTree.{StatementTree, argument_array, local_array, local_stream, assign, copy, reduce, map_scope, tasklet, consume_scope, call, for_loop, while_loop, branch, input, output, set, set_at, tasklet_branch, Block, no_statement, and_statement, FunctionTree, ProgramTree}
use Rattle.sd_graph.specs.PlainTree.{ItemTrees, no_item, ExitTree, GraphTree}
use Rattle.sd_graph.specs.TreeFold.{PlainState, states_listed}
use Rattle.sd_graph.specs.InForce.{is_private, IsInForce, AreItemsInForce, AreExitsInForce, AreStatesInForce, AreContainersInForce}
use Rattle.sd_graph.specs.declared.container.Container.{Container}
use Rattle.sd_program.specs.Names.{Name, Named, in_force}
use Rattle.sd_program.specs.Declared.{states_in, states_in_all, containers_in, containers_in_all}
use Rattle.sd_program.specs.Bounds.{EachBound}
use Rattle.sd_program.specs.IsAffine.{IsAffine}
use Rattle.sd_program.specs.Every.{Every, EveryIn, EveryOf}
use Rattle.sd_program.specs.Place as place_of
use Rattle.sd_program.specs.Place.{Holder, program, signature, Place, past, past_all, in_loop, in_signature, in_function, EveryAt, EveryFrom, EveryOfFunction, EveryFunction}
use Rattle.sd_program.specs.Known.{StandsIn, StandsInProgram, IsPlaced, IsKnown}
use Rattle.sd_program.specs.WellFormed.{IsWellFormed}
use Rattle.sd_task.specs.in_force.Names.{with_numbered}
use Rattle.sd_task.specs.task.Table.{Table}
use Rattle.sd_elab.specs.items.NamesBehind.{table_behind_state, table_behind_all}
use Rattle.sd_elab.specs.items.Graphs.{no_graph, graph_named}
use Rattle.sd_elab.specs.items.Items.{items_with}
use Rattle.sd_task.specs.containers.Declarations.{Containers, containers_with, containers_with_all, containers_of_function}
use Rattle.sd_program.specs.DeclaredNames.{container_names}
use Rattle.sd_elab.specs.states.Exits.{plainly, back_to, stepped_on}
use Rattle.sd_elab.specs.states.Standing.{Standing, behind, behind_all, state_behind, with_loop_variable}
use Rattle.sd_elab.specs.states.States.{chained, chained_all, chained_other}
use Rattle.sd_elab.specs.elab.Elaboration.{function_graph, graphs_with, latest, graph_of, start_of, arguments_in_force}
use Rattle.sd_made.proofs.elab_lemmas.ContainersMade.{holds_here, Begins, begins_itself, first_begins, made_at, counted, all_made}
use Rattle.sd_made.proofs.elab_lemmas.NamesKnown.{AreKnown, none_known, one_more_known, affine_knows, links_in_force}
use Rattle.sd_made.proofs.elab_lemmas.ItemsInForce.{item_in_force}

abbrev States : List PlainState → Containers → Type 0
States states all = AreStatesInForce (states_listed states) all

states_joined : (all : Containers) (first second : List PlainState) → States first all → States second all → States (first ++ second) all
states_joined all [] second force others = others
states_joined all (state ∷ first) second force others = (force.0, force.1, states_joined all first second force.2 others)

module _ (symbols : Named ℕ) (declared : List Name) (all : Containers) where
  -- ---- the names in force behind a statement

  -- a container that a program declares outside of scopes
  whole_in_force : (before : Containers) (entry : Name × Container) (number : ℕ) → length before ≡ number → Begins (before ++ entry ∷ []) all → is_private entry.1.kind ≡ false → IsInForce all [] number
  whole_in_force before entry number e begins whole =
      subst (λ number. IsInForce all [] number) e
      ((made_at before entry all begins).0, inl (ap (λ container. is_private container.kind) (made_at before entry all begins).1 ∙ whole))

  stands_in_program : (place : Place) (statement : StatementTree) → place.around ≡ program → EveryAt IsPlaced place statement → StandsInProgram statement
  stands_in_program place statement around placed = subst (λ kind. StandsIn kind statement) around (holds_here IsPlaced place statement placed)

  mutual
    known_past : (statement : StatementTree) (table : Table) (container : ℕ) (place : Place) (before : Containers) → place.around ≡ program → length before ≡ container →
        Begins (containers_with symbols declared statement false before) all → EveryAt IsPlaced place statement → AreKnown all [] place.containers table.containers →
        AreKnown all [] (place_of.behind statement place.containers) (table_behind_state statement container table).containers
    known_past (argument_array line name bits extents) table container place before around e begins placed are = absurd (stands_in_program place (argument_array line name bits extents) around placed)
    known_past (local_array line name extents bits) table container place before around e begins placed are =
        one_more_known all [] place.containers table.containers name _ container (whole_in_force before _ container e begins refl) are
    known_past (local_stream line name bits size) table container place before around e begins placed are =
        one_more_known all [] place.containers table.containers name _ container (whole_in_force before _ container e begins refl) are
    known_past (assign line name at add value) table container place before around e begins placed are = are
    known_past (copy line to to_dimensions from from_dimensions) table container place before around e begins placed are = are
    known_past (reduce line lambda from to axis identity) table container place before around e begins placed are = are
    known_past (map_scope line parameters ranges body) table container place before around e begins placed are = are
    known_past (tasklet line body) table container place before around e begins placed are = are
    known_past (consume_scope line stream size name element worker body) table container place before around e begins placed are = are
    known_past (call line name arguments) table container place before around e begins placed are = are
    known_past (for_loop line name begin end step body) table container place before around e begins placed are = all_known_past body table container (in_loop place) before around e begins placed.1 are
    known_past (while_loop line when body) table container place before around e begins placed are = all_known_past body table container (in_loop place) before around e begins placed.1 are
    known_past (branch line when body other) table container place before around e begins placed are =
        let middle : Containers = containers_with_all symbols declared body false before in
        all_known_past other (table_behind_all body container table) (container + containers_in_all body) (past_all body place) middle around
        (all_made symbols declared body false place before placed.1.0 ∙ ap (λ number. number + containers_in_all body) e) begins placed.1.1
        (all_known_past body table container place before around e (first_begins symbols declared other false middle all begins) placed.1.0 are)
    known_past (input line connector memlet) table container place before around e begins placed are = are
    known_past (output line connector memlet) table container place before around e begins placed are = are
    known_past (set line name value) table container place before around e begins placed are = are
    known_past (set_at line name at value) table container place before around e begins placed are = are
    known_past (tasklet_branch line when body other) table container place before around e begins placed are = absurd (stands_in_program place (tasklet_branch line when body other) around placed)

    all_known_past : (block : Block) (table : Table) (container : ℕ) (place : Place) (before : Containers) → place.around ≡ program → length before ≡ container →
        Begins (containers_with_all symbols declared block false before) all → EveryFrom IsPlaced place block → AreKnown all [] place.containers table.containers →
        AreKnown all [] (place_of.behind_all block place.containers) (table_behind_all block container table).containers
    all_known_past no_statement table container place before around e begins placed are = are
    all_known_past (and_statement first rest) table container place before around e begins placed are =
        let middle : Containers = containers_with symbols declared first false before in
        all_known_past rest (table_behind_state first container table) (container + containers_in first) (past first place) middle around
        (counted symbols declared first false place before placed.0 ∙ ap (λ number. number + containers_in first) e) begins placed.1
        (known_past first table container place before around e (first_begins symbols declared rest false middle all begins) placed.0 are)

  -- the arguments of a program
  arguments_known : (arguments : Block) (numbers : Named ℕ) (next : ℕ) (place : Place) (before : Containers) → place.around ≡ signature → length before ≡ next →
      Begins (containers_with_all symbols declared arguments false before) all → EveryFrom IsPlaced place arguments → AreKnown all [] place.containers numbers →
      AreKnown all [] (place_of.behind_all arguments place.containers) (arguments_in_force arguments next numbers)
  arguments_known no_statement numbers next place before around e begins placed are = are
  arguments_known (and_statement (argument_array line name bits extents) rest) numbers next place before around e begins placed are =
      let first : StatementTree = argument_array line name bits extents in
      let middle : Containers = containers_with symbols declared first false before in
      arguments_known rest ((name, next) ∷ numbers) (next + 1) (past first place) middle around
      (counted symbols declared first false place before placed.0 ∙ ap (λ number. number + 1) e) begins placed.1
      (one_more_known all [] place.containers numbers name _ next (whole_in_force before _ next e (first_begins symbols declared rest false middle all begins) refl) are)
  arguments_known (and_statement (local_array line name extents bits) rest) numbers next place before around e begins placed are = absurd (subst (λ kind. StandsIn kind (local_array line name extents bits)) around placed.0)
  arguments_known (and_statement (local_stream line name bits size) rest) numbers next place before around e begins placed are = absurd (subst (λ kind. StandsIn kind (local_stream line name bits size)) around placed.0)
  arguments_known (and_statement (assign line name at add value) rest) numbers next place before around e begins placed are = absurd (subst (λ kind. StandsIn kind (assign line name at add value)) around placed.0)
  arguments_known (and_statement (copy line to to_dimensions from from_dimensions) rest) numbers next place before around e begins placed are = absurd (subst (λ kind. StandsIn kind (copy line to to_dimensions from from_dimensions)) around placed.0)
  arguments_known (and_statement (reduce line lambda from to axis identity) rest) numbers next place before around e begins placed are = absurd (subst (λ kind. StandsIn kind (reduce line lambda from to axis identity)) around placed.0)
  arguments_known (and_statement (map_scope line parameters ranges body) rest) numbers next place before around e begins placed are = absurd (subst (λ kind. StandsIn kind (map_scope line parameters ranges body)) around placed.0.0)
  arguments_known (and_statement (tasklet line body) rest) numbers next place before around e begins placed are = absurd (subst (λ kind. StandsIn kind (tasklet line body)) around placed.0.0)
  arguments_known (and_statement (consume_scope line stream size name element worker body) rest) numbers next place before around e begins placed are = absurd (subst (λ kind. StandsIn kind (consume_scope line stream size name element worker body)) around placed.0.0)
  arguments_known (and_statement (call line name arguments) rest) numbers next place before around e begins placed are = absurd (subst (λ kind. StandsIn kind (call line name arguments)) around placed.0)
  arguments_known (and_statement (for_loop line name begin end step body) rest) numbers next place before around e begins placed are = absurd (subst (λ kind. StandsIn kind (for_loop line name begin end step body)) around placed.0.0)
  arguments_known (and_statement (while_loop line when body) rest) numbers next place before around e begins placed are = absurd (subst (λ kind. StandsIn kind (while_loop line when body)) around placed.0.0)
  arguments_known (and_statement (branch line when body other) rest) numbers next place before around e begins placed are = absurd (subst (λ kind. StandsIn kind (branch line when body other)) around placed.0.0)
  arguments_known (and_statement (input line connector memlet) rest) numbers next place before around e begins placed are = absurd (subst (λ kind. StandsIn kind (input line connector memlet)) around placed.0)
  arguments_known (and_statement (output line connector memlet) rest) numbers next place before around e begins placed are = absurd (subst (λ kind. StandsIn kind (output line connector memlet)) around placed.0)
  arguments_known (and_statement (set line name value) rest) numbers next place before around e begins placed are = absurd (subst (λ kind. StandsIn kind (set line name value)) around placed.0)
  arguments_known (and_statement (set_at line name at value) rest) numbers next place before around e begins placed are = absurd (subst (λ kind. StandsIn kind (set_at line name at value)) around placed.0)
  arguments_known (and_statement (tasklet_branch line when body other) rest) numbers next place before around e begins placed are = absurd (subst (λ kind. StandsIn kind (tasklet_branch line when body other)) around placed.0.0)

  -- ---- states

  module _ (graphs : Name → GraphTree) (force : (name : Name) → AreContainersInForce (graphs name)) where
    abbrev Follows : (ItemTrees → List PlainState) → Type 0
    Follows rest = (items : ItemTrees) → AreItemsInForce items all [] → States (rest items) all

    -- a statement that makes one state with one item
    made_in_force : (statement : StatementTree) (at : Standing) (items : ItemTrees) (rest : ItemTrees → List PlainState) (place : Place) (before : Containers) → length before ≡ at.container →
        Begins (containers_with symbols declared statement false before) all → AreKnown all [] place.containers at.table.containers → EveryAt IsPlaced place statement → EveryAt IsKnown place statement →
        AreItemsInForce items all [] → Follows rest →
        States ((items, plainly at.state ∷ []) ∷ rest (items_with graphs statement false at.table at.container at.variable no_item)) all
    made_in_force statement at items rest place before e begins are placed known here follows =
        (here, (tt, tt), follows _ (item_in_force symbols declared all graphs force statement false at.table at.container at.variable no_item [] place before e begins are placed known tt))

    mutual
      statement_in_force : (statement : StatementTree) (at : Standing) (items : ItemTrees) (rest : ItemTrees → List PlainState) (place : Place) (before : Containers) → place.around ≡ program →
          length before ≡ at.container → Begins (containers_with symbols declared statement false before) all → AreKnown all [] place.containers at.table.containers →
          EveryAt IsPlaced place statement → EveryAt IsKnown place statement → Every (EachBound IsAffine) statement → AreItemsInForce items all [] → Follows rest →
          States (chained graphs statement at items rest) all
      statement_in_force (argument_array line name bits extents) at items rest place before around e begins are placed known affine here follows = follows items here
      statement_in_force (local_array line name extents bits) at items rest place before around e begins are placed known affine here follows = follows items here
      statement_in_force (local_stream line name bits size) at items rest place before around e begins are placed known affine here follows = follows items here
      statement_in_force (branch line when body other) at items rest place before around e begins are placed known affine here follows =
          let middle : Containers = containers_with_all symbols declared body false before in
          let first_made : Begins middle all = first_begins symbols declared other false middle all begins in (
            here,
            (links_in_force all [] place.containers at.table are [] when known.0 tt, (tt, tt)),
            other_in_force other (behind_all body (state_behind at)) (λ join. chained_all graphs body (state_behind at) no_item (plainly join ∷ [])) rest (past_all body place) middle around
                (all_made symbols declared body false place before placed.1.0 ∙ ap (λ number. number + containers_in_all body) e) begins
                (all_known_past body at.table at.container place before around e first_made placed.1.0 are) placed.1.1 known.1.1 affine.1.1
                (λ join. block_in_force body (state_behind at) no_item (plainly join ∷ []) place before around e first_made are placed.1.0 known.1.0 affine.1.0 tt (tt, tt))
                follows,
          )
      statement_in_force (while_loop line when body) at items rest place before around e begins are placed known affine here follows =
          let back : List ExitTree = back_to at.state [] ∷ [] in
          let inside : Standing = state_behind (state_behind at) in (
            here,
            (tt, tt),
            (
              tt,
              (links_in_force all [] place.containers at.table are [] when known.0 tt, (tt, tt)),
              states_joined all (chained_all graphs body inside no_item back) (rest no_item)
                  (block_in_force body inside no_item back (in_loop place) before around e begins are placed.1 known.1 affine.1 tt (tt, tt)) (follows no_item tt),
            ),
          )
      statement_in_force (for_loop line name begin end step body) at items rest place before around e begins are placed known affine here follows =
          let back : List ExitTree = back_to at.state ((at.variable, stepped_on at.variable step) ∷ []) ∷ [] in
          let inside : Standing = with_loop_variable name (state_behind (state_behind at)) in (
            here,
            (tt, tt),
            (
              tt,
              (links_in_force all [] place.containers inside.table are [] end (affine_knows place.containers end affine.0.1) tt, (tt, tt)),
              states_joined all (chained_all graphs body inside no_item back) (rest no_item)
                  (block_in_force body inside no_item back (in_loop place) before around e begins are placed.1 known.1 affine.1 tt (tt, tt)) (follows no_item tt),
            ),
          )
      statement_in_force (assign line name target add value) at items rest place before around e begins are placed known affine here follows =
          made_in_force (assign line name target add value) at items rest place before e begins are placed known here follows
      statement_in_force (copy line to to_dimensions from from_dimensions) at items rest place before around e begins are placed known affine here follows =
          made_in_force (copy line to to_dimensions from from_dimensions) at items rest place before e begins are placed known here follows
      statement_in_force (reduce line lambda from to axis identity) at items rest place before around e begins are placed known affine here follows =
          made_in_force (reduce line lambda from to axis identity) at items rest place before e begins are placed known here follows
      statement_in_force (map_scope line parameters ranges body) at items rest place before around e begins are placed known affine here follows =
          made_in_force (map_scope line parameters ranges body) at items rest place before e begins are placed known here follows
      statement_in_force (tasklet line body) at items rest place before around e begins are placed known affine here follows =
          made_in_force (tasklet line body) at items rest place before e begins are placed known here follows
      statement_in_force (consume_scope line stream size name element worker body) at items rest place before around e begins are placed known affine here follows =
          made_in_force (consume_scope line stream size name element worker body) at items rest place before e begins are placed known here follows
      statement_in_force (call line name arguments) at items rest place before around e begins are placed known affine here follows =
          made_in_force (call line name arguments) at items rest place before e begins are placed known here follows
      statement_in_force (input line connector memlet) at items rest place before around e begins are placed known affine here follows = (here, (tt, tt), follows no_item tt)
      statement_in_force (output line connector memlet) at items rest place before around e begins are placed known affine here follows = (here, (tt, tt), follows no_item tt)
      statement_in_force (set line name value) at items rest place before around e begins are placed known affine here follows = (here, (tt, tt), follows no_item tt)
      statement_in_force (set_at line name target value) at items rest place before around e begins are placed known affine here follows = (here, (tt, tt), follows no_item tt)
      statement_in_force (tasklet_branch line when body other) at items rest place before around e begins are placed known affine here follows = (here, (tt, tt), follows no_item tt)

      block_in_force : (block : Block) (at : Standing) (items : ItemTrees) (exits : List ExitTree) (place : Place) (before : Containers) → place.around ≡ program →
          length before ≡ at.container → Begins (containers_with_all symbols declared block false before) all → AreKnown all [] place.containers at.table.containers →
          EveryFrom IsPlaced place block → EveryFrom IsKnown place block → EveryIn (EachBound IsAffine) block → AreItemsInForce items all [] → AreExitsInForce all exits →
          States (chained_all graphs block at items exits) all
      block_in_force no_statement at items exits place before around e begins are placed known affine here ends = (here, ends, tt)
      block_in_force (and_statement first rest) at items exits place before around e begins are placed known affine here ends =
          let middle : Containers = containers_with symbols declared first false before in
          let first_made : Begins middle all = first_begins symbols declared rest false middle all begins in
          statement_in_force first at items (λ items. chained_all graphs rest (behind first at) items exits) place before around e first_made are placed.0 known.0 affine.0 here
          (λ items here. block_in_force rest (behind first at) items exits (past first place) middle around
          (counted symbols declared first false place before placed.0 ∙ ap (λ number. number + containers_in first) e) begins
          (known_past first at.table at.container place before around e first_made placed.0 are) placed.1 known.1 affine.1 here ends)

      -- behind the first block of an `if`
      other_in_force : (other : Block) (at : Standing) (first : ℕ → List PlainState) (rest : ItemTrees → List PlainState) (place : Place) (before : Containers) → place.around ≡ program →
          length before ≡ at.container → Begins (containers_with_all symbols declared other false before) all → AreKnown all [] place.containers at.table.containers →
          EveryFrom IsPlaced place other → EveryFrom IsKnown place other → EveryIn (EachBound IsAffine) other → ((join : ℕ) → States (first join) all) → Follows rest →
          States (chained_other graphs other at first rest) all
      other_in_force no_statement at first rest place before around e begins are placed known affine here follows =
          states_joined all (first at.state) (rest no_item) (here at.state) (follows no_item tt)
      other_in_force (and_statement statement others) at first rest place before around e begins are placed known affine here follows =
          let join : ℕ = at.state + 1 + (states_in statement + states_in_all others) in
          let behind_first : ItemTrees → List PlainState = λ items. chained_all graphs others (behind statement (state_behind at)) items (plainly join ∷ []) in
          let inner : List PlainState = chained graphs statement (state_behind at) no_item behind_first in
          let middle : Containers = containers_with symbols declared statement false before in
          let first_made : Begins middle all = first_begins symbols declared others false middle all begins in
          states_joined all (first join) (inner ++ rest no_item) (here join)
          (states_joined all inner (rest no_item)
          (statement_in_force statement (state_behind at) no_item behind_first place before around e first_made are placed.0 known.0 affine.0 tt
          (λ items here. block_in_force others (behind statement (state_behind at)) items (plainly join ∷ []) (past statement place) middle around
          (counted symbols declared statement false place before placed.0 ∙ ap (λ number. number + containers_in statement) e) begins
          (known_past statement at.table at.container place before around e first_made placed.0 are) placed.1 known.1 affine.1 here (tt, tt)))
          (follows no_item tt))

-- ---- graphs

abbrev AreInForce : Named GraphTree → Type 0
AreInForce graphs = AllByRecursion (λ entry. AreContainersInForce entry.1) graphs

named_one : (found : Bool) (of : GraphTree) (others : Option GraphTree) → AreContainersInForce of → AreContainersInForce (unwrap_or others no_graph) →
    AreContainersInForce (unwrap_or (cond found (Some of) others) no_graph)
named_one true of others force rest = force
named_one false of others force rest = rest

named_in_force : (graphs : Named GraphTree) → AreInForce graphs → (name : Name) → AreContainersInForce (graph_named graphs name)
named_in_force [] force name = tt
named_in_force (entry ∷ graphs) force name = named_one (bytes_eq name entry.0) entry.1 (in_force graphs name) force.0 (named_in_force graphs force.1 name)

-- each form of a function stands where it may, and each container that it names is in force
abbrev IsFounded : FunctionTree → Type 0
IsFounded function = (above : List FunctionTree) × EveryOfFunction IsPlaced above function × EveryOfFunction IsKnown above function

founded : (functions : List FunctionTree) → EveryFunction IsPlaced functions → EveryFunction IsKnown functions → AllByRecursion IsFounded functions
founded [] placed known = tt
founded (function ∷ above) placed known = ((above, placed.0, known.0), founded above placed.1 known.1)

all_of_two : {A : Type 0} (P : A → Type 0) (first second : List A) → AllByRecursion P (first ++ second) → AllByRecursion P first × AllByRecursion P second
all_of_two P [] second all = (tt, all)
all_of_two P (member ∷ first) second all = ((all.0, (all_of_two P first second all.1).0), (all_of_two P first second all.1).1)

all_turned : {A : Type 0} (P : A → Type 0) (members : List A) → AllByRecursion P (reverse members) → AllByRecursion P members
all_turned P [] all = tt
all_turned P (member ∷ members) all =
    let both : AllByRecursion P (reverse members) × AllByRecursion P (member ∷ []) =
    all_of_two P (reverse members) (member ∷ []) (subst (AllByRecursion P) (reverse_onto members member []) all) in
    (both.1.0, all_turned P members both.0)

function_in_force : (symbols : List Name) (graphs : Name → GraphTree) → ((name : Name) → AreContainersInForce (graphs name)) → (function : FunctionTree) → IsFounded function →
    EveryOf (EachBound IsAffine) function → AreContainersInForce (function_graph symbols graphs function)
function_in_force symbols graphs force function (above, placed, known) affine =
    let all : Containers = containers_of_function symbols function in
    let numbered : Named ℕ = with_numbered symbols 0 [] in
    let declared : List Name = container_names function in
    let given : Containers = containers_with_all numbered declared function.arguments false [] in
    block_in_force numbered declared all graphs force function.body (start_of symbols function) no_item [] (in_function above function.arguments) given refl
    (all_made numbered declared function.arguments false (in_signature above) [] placed.0 ∙ zero-add (containers_in_all function.arguments)) (begins_itself all)
    (arguments_known numbered declared all function.arguments [] 0 (in_signature above) [] refl refl
    (first_begins numbered declared function.body false given all (begins_itself all)) placed.0 (none_known all []))
    placed.1 known.1 affine.1 tt tt

graphs_in_force : (symbols : List Name) (before : Named GraphTree) (functions : List FunctionTree) → AreInForce before → AllByRecursion IsFounded functions →
    AllByRecursion (EveryOf (EachBound IsAffine)) functions → AreInForce (graphs_with symbols before functions)
graphs_in_force symbols before [] force founds affine = force
graphs_in_force symbols before (function ∷ functions) force founds affine =
    graphs_in_force symbols ((function.name, function_graph symbols (graph_named before) function) ∷ before) functions
    (function_in_force symbols (graph_named before) (named_in_force before force) function founds.0 affine.0, force) founds.1 affine.1

latest_in_force : (graphs : Named GraphTree) → AreInForce graphs → AreContainersInForce (latest graphs)
latest_in_force [] force = tt
latest_in_force (entry ∷ graphs) force = force.0

pub program_names_in_force : (source : ProgramTree) → IsWellFormed source → AreContainersInForce (graph_of source)
program_names_in_force source well =
    latest_in_force (graphs_with source.symbols [] source.functions)
    (graphs_in_force source.symbols [] source.functions tt (all_turned IsFounded source.functions (founded (reverse source.functions) well.placed well.known)) well.affine)
