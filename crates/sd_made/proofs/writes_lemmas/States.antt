-- The states of a program write containers of the names that are written.
use Rattle.std.proofs.Common.{◌≡◌, ◌∙◌, ℕ, ◌+◌, List, [], ◌∷◌, ◌++◌, length, Bool, false, ap}
use Rattle.std.specs.List.{AllByRecursion}
use Rattle.sd_lex.specs.PlainTree.{StatementTree, argument_array, local_array, local_stream, for_loop, while_loop, branch, Block, no_statement, and_statement, FunctionTree}
use Rattle.sd_graph.specs.PlainTree.{ItemTrees, no_item, GraphTree, ExitTree}
use Rattle.sd_graph.specs.TreeFold.{PlainState, states_listed}
use Rattle.sd_graph.specs.ContainerParts.{Containers}
use Rattle.sd_program.specs.Declared.{states_in, states_in_all, containers_in, containers_in_all}
use Rattle.sd_program.specs.Names.{Name, Named}
use Rattle.sd_program.specs.Place.{program, Place, past, past_all, in_loop, EveryAt, EveryFrom}
use Rattle.sd_elab.specs.items.Items.{items_with}
use Rattle.sd_range.specs.Arithmetic.{affine_zero}
use Rattle.sd_task.specs.in_force.Ranges.{affine_or}
use Rattle.sd_task.specs.task.ElementCode.{guard_of, below}
use Rattle.sd_elab.specs.states.Exits.{plainly, setting, if_holds, back_to, stepped_on}
use Rattle.sd_elab.specs.states.Standing.{Standing, behind, behind_all, state_behind, with_loop_variable}
use Rattle.sd_elab.specs.states.States.{chained, chained_all, chained_other}
use Rattle.sd_task.specs.containers.Declarations.{containers_with, containers_with_all}
use Rattle.sd_made.proofs.elab_lemmas.ContainersMade.{Begins, first_begins, counted, all_made}
use Rattle.sd_validity.proofs.bound_places_lemmas.EachPlace.{all_joined}
use Rattle.sd_validity.specs.rules.NestedLinks.{written_in, written_in_states}
use Rattle.sd_made.specs.writes.Writes.{names_written, all_written, written_by_programs}
use Rattle.sd_made.specs.writes.Apart.{AreStatesApart}
use Rattle.sd_made.proofs.writes_lemmas.Known.{AreKnown, known_past, all_known_past}
use Rattle.sd_made.proofs.writes_lemmas.Links.{all_first, all_second}
use Rattle.sd_made.proofs.writes_lemmas.Items.{Fit, placed_at, placed_from, AreCovered, IsWritten, AreGood, item_good}

module _ (W : Name → Type 0) (above : List FunctionTree) (graphs : Name → GraphTree) (are_covered : AreCovered above graphs) (symbols : Named ℕ) (declared : List Name) (all : Containers) where
  abbrev programs : Named (List Bool)
  programs = written_by_programs above

  abbrev Items : ItemTrees → Type 0
  Items items = AreGood W above graphs are_covered symbols declared all items

  abbrev Written : ℕ → Type 0
  Written container = IsWritten W above graphs are_covered symbols declared all container

  abbrev pub Good : List PlainState → Type 0
  Good states = AllByRecursion Written (written_in_states (states_listed states)) × AreStatesApart (states_listed states)

  with_state : (items : ItemTrees) (exits : List ExitTree) (rest : List PlainState) → Items items → Good rest → Good ((items, exits) ∷ rest)
  with_state items exits rest good others = (all_joined Written (written_in items) (written_in_states (states_listed rest)) good.0 others.0, (good.1, others.1))

  states_joined : (first second : List PlainState) → Good first → Good second → Good (first ++ second)
  states_joined [] second good others = others
  states_joined (state ∷ first) second good others =
      let own : AllByRecursion Written (written_in state.0) = all_first Written (written_in state.0) (written_in_states (states_listed first)) good.0 in
      let rest : AllByRecursion Written (written_in_states (states_listed first)) = all_second Written (written_in state.0) (written_in_states (states_listed first)) good.0 in
      with_state state.0 state.1 (first ++ second) (own, good.1.0) (states_joined first second (rest, good.1.1) others)

  -- where the block of a program stands
  pub record Here (at : Standing) (place : Place) (before : Containers) : Type 0 where
    pub around : place.around ≡ program
    pub first : length before ≡ at.container
    pub of : place.programs ≡ above
    pub known : AreKnown all place.containers at.table.containers

  here_past : (statement : StatementTree) (at : Standing) (place : Place) (before : Containers) → Here at place before → Begins (containers_with symbols declared statement false before) all → EveryAt Fit place statement →
      Here (behind statement at) (past statement place) (containers_with symbols declared statement false before)
  here_past statement at place before here begins fit = record {
    around = here.around;
    first = counted symbols declared statement false place before (placed_at place statement fit) ∙ ap (λ number. number + containers_in statement) here.first;
    of = here.of;
    known = known_past symbols declared all statement at.table at.container place before here.around here.first begins (placed_at place statement fit) here.known;
  }

  here_past_all : (block : Block) (at : Standing) (place : Place) (before : Containers) → Here at place before → Begins (containers_with_all symbols declared block false before) all → EveryFrom Fit place block →
      Here (behind_all block at) (past_all block place) (containers_with_all symbols declared block false before)
  here_past_all block at place before here begins fit = record {
    around = here.around;
    first = all_made symbols declared block false place before (placed_from place block fit) ∙ ap (λ number. number + containers_in_all block) here.first;
    of = here.of;
    known = all_known_past symbols declared all block at.table at.container place before here.around here.first begins (placed_from place block fit) here.known;
  }

  one_on : (at : Standing) (place : Place) (before : Containers) → Here at place before → Here (state_behind at) place before
  one_on at place before here = record { around = here.around; first = here.first; of = here.of; known = here.known }

  in_its_loop : (at : Standing) (place : Place) (before : Containers) → Here at place before → Here (state_behind (state_behind at)) (in_loop place) before
  in_its_loop at place before here = record { around = here.around; first = here.first; of = here.of; known = here.known }

  in_for_loop : (name : Name) (at : Standing) (place : Place) (before : Containers) → Here at place before → Here (with_loop_variable name (state_behind (state_behind at))) (in_loop place) before
  in_for_loop name at place before here = record { around = here.around; first = here.first; of = here.of; known = here.known }

  abbrev Follows : (ItemTrees → List PlainState) → Type 0
  Follows rest = (items : ItemTrees) → Items items → Good (rest items)

  abbrev Names : StatementTree → Type 0
  Names statement = AllByRecursion W (names_written programs statement)

  abbrev AllNames : Block → Type 0
  AllNames block = AllByRecursion W (all_written programs block)

  leaf_good : (statement : StatementTree) (at : Standing) (items : ItemTrees) (rest : ItemTrees → List PlainState) (place : Place) (before : Containers) → Here at place before →
      Begins (containers_with symbols declared statement false before) all → EveryAt Fit place statement → Names statement → Items items → Follows rest →
      Good ((items, plainly at.state ∷ []) ∷ rest (items_with graphs statement false at.table at.container at.variable no_item))
  leaf_good statement at items rest place before here begins fit names good follows =
      let new : ItemTrees = items_with graphs statement false at.table at.container at.variable no_item in
      with_state items (plainly at.state ∷ []) (rest new) good
      (follows new
      (item_good W above graphs are_covered symbols declared all statement false at.table at.container at.variable no_item place before here.around here.first begins here.of here.known fit names (tt, tt)))

  mutual
    statement_good : (statement : StatementTree) (at : Standing) (items : ItemTrees) (rest : ItemTrees → List PlainState) (place : Place) (before : Containers) → Here at place before →
        Begins (containers_with symbols declared statement false before) all → EveryAt Fit place statement → Names statement → Items items → Follows rest → Good (chained graphs statement at items rest)
    statement_good (argument_array line name bits extents) at items rest place before here begins fit names good follows = follows items good
    statement_good (local_array line name extents bits) at items rest place before here begins fit names good follows = follows items good
    statement_good (local_stream line name bits size) at items rest place before here begins fit names good follows = follows items good
    statement_good (branch line when body other) at items rest place before here begins fit names good follows =
        let middle : Containers = containers_with_all symbols declared body false before in
        let made : Begins middle all = first_begins symbols declared other false middle all begins in
        let first : ℕ → List PlainState = λ join. chained_all graphs body (state_behind at) no_item (plainly join ∷ []) in
        let others : Good (chained_other graphs other (behind_all body (state_behind at)) first rest) =
        other_good other (behind_all body (state_behind at)) first rest (past_all body place) middle (here_past_all body (state_behind at) place before (one_on at place before here) made fit.1.0) begins fit.1.1
        (all_second W (all_written programs body) (all_written programs other) names)
        (λ join. block_good body (state_behind at) no_item (plainly join ∷ []) place before (one_on at place before here) made fit.1.0 (all_first W (all_written programs body) (all_written programs other) names) (tt, tt)) follows in
        with_state items (if_holds (guard_of at.table line when) at.state ∷ plainly (at.state + 1 + states_in_all body) ∷ []) (chained_other graphs other (behind_all body (state_behind at)) first rest) good others
    statement_good (while_loop line when body) at items rest place before here begins fit names good follows =
        let inside : Standing = state_behind (state_behind at) in
        let back : List ExitTree = back_to at.state [] ∷ [] in
        let tests : List ExitTree = if_holds (guard_of at.table line when) (at.state + 1) ∷ plainly (at.state + 1 + 1 + states_in_all body) ∷ [] in
        let inner : List PlainState = chained_all graphs body inside no_item back in
        with_state items (plainly at.state ∷ []) ((no_item, tests) ∷ (inner ++ rest no_item)) good
        (with_state no_item tests (inner ++ rest no_item) (tt, tt)
        (states_joined inner (rest no_item) (block_good body inside no_item back (in_loop place) before (in_its_loop at place before here) begins fit.1 names (tt, tt)) (follows no_item (tt, tt))))
    statement_good (for_loop line name begin end step body) at items rest place before here begins fit names good follows =
        let inside : Standing = with_loop_variable name (state_behind (state_behind at)) in
        let begun : List ExitTree = setting at.state at.variable (affine_or affine_zero at.table.variables begin) ∷ [] in
        let back : List ExitTree = back_to at.state ((at.variable, stepped_on at.variable step) ∷ []) ∷ [] in
        let tests : List ExitTree = if_holds (below inside.table line name end) (at.state + 1) ∷ plainly (at.state + 1 + 1 + states_in_all body) ∷ [] in
        let inner : List PlainState = chained_all graphs body inside no_item back in
        with_state items begun ((no_item, tests) ∷ (inner ++ rest no_item)) good
        (with_state no_item tests (inner ++ rest no_item) (tt, tt)
        (states_joined inner (rest no_item) (block_good body inside no_item back (in_loop place) before (in_for_loop name at place before here) begins fit.1 names (tt, tt)) (follows no_item (tt, tt))))
    statement_good statement at items rest place before here begins fit names good follows = leaf_good statement at items rest place before here begins fit names good follows

    pub block_good : (block : Block) (at : Standing) (items : ItemTrees) (exits : List ExitTree) (place : Place) (before : Containers) → Here at place before →
        Begins (containers_with_all symbols declared block false before) all → EveryFrom Fit place block → AllNames block → Items items → Good (chained_all graphs block at items exits)
    block_good no_statement at items exits place before here begins fit names good = with_state items exits [] good (tt, tt)
    block_good (and_statement first rest) at items exits place before here begins fit names good =
        let middle : Containers = containers_with symbols declared first false before in
        let made : Begins middle all = first_begins symbols declared rest false middle all begins in
        statement_good first at items (λ items. chained_all graphs rest (behind first at) items exits) place before here made fit.0 (all_first W (names_written programs first) (all_written programs rest) names) good
        (λ items good.
        block_good rest (behind first at) items exits (past first place) middle (here_past first at place before here made fit.0) begins fit.1 (all_second W (names_written programs first) (all_written programs rest) names) good)

    other_good : (other : Block) (at : Standing) (first : ℕ → List PlainState) (rest : ItemTrees → List PlainState) (place : Place) (before : Containers) → Here at place before →
        Begins (containers_with_all symbols declared other false before) all → EveryFrom Fit place other → AllNames other → ((join : ℕ) → Good (first join)) → Follows rest → Good (chained_other graphs other at first rest)
    other_good no_statement at first rest place before here begins fit names good follows = states_joined (first at.state) (rest no_item) (good at.state) (follows no_item (tt, tt))
    other_good (and_statement statement others) at first rest place before here begins fit names good follows =
        let join : ℕ = at.state + 1 + (states_in statement + states_in_all others) in
        let middle : Containers = containers_with symbols declared statement false before in
        let made : Begins middle all = first_begins symbols declared others false middle all begins in
        let behind_first : ItemTrees → List PlainState = λ items. chained_all graphs others (behind statement (state_behind at)) items (plainly join ∷ []) in
        let inner : List PlainState = chained graphs statement (state_behind at) no_item behind_first in
        states_joined (first join) (inner ++ rest no_item) (good join)
        (states_joined inner (rest no_item)
        (statement_good statement (state_behind at) no_item behind_first place before (one_on at place before here) made fit.0 (all_first W (names_written programs statement) (all_written programs others) names) (tt, tt)
        (λ items good.
        block_good others (behind statement (state_behind at)) items (plainly join ∷ []) (past statement place) middle (here_past statement (state_behind at) place before (one_on at place before here) made fit.0) begins fit.1
        (all_second W (names_written programs statement) (all_written programs others) names) good))
        (follows no_item (tt, tt)))
