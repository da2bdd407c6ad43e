-- The states of a program have items of the shapes that they may.
use Rattle.std.proofs.Common.{◌≡◌, ◌∙◌, ℕ, suc, ◌+◌, List, [], ◌∷◌, ◌++◌, length, false, ap}
use Rattle.std.specs.List.{AllByRecursion}
use Rattle.sd_lex.specs.PlainTree.{Expression, StatementTree, argument_array, local_array, local_stream, for_loop, while_loop, branch, Block, no_statement, and_statement, FunctionTree}
use Rattle.sd_graph.specs.PlainTree.{ItemTrees, no_item, GraphTree, ExitTree}
use Rattle.sd_graph.specs.TreeFold.{PlainState, states_listed}
use Rattle.sd_graph.specs.ContainerParts.{Containers}
use Rattle.sd_program.specs.Declared.{states_in, states_in_all, containers_in, containers_in_all}
use Rattle.sd_program.specs.Names.{Name, Named}
use Rattle.sd_program.specs.Place.{program, Place, past, past_all, in_loop, EveryAt, EveryFrom}
use Rattle.sd_elab.specs.items.Items.{items_with}
use Rattle.sd_range.specs.Arithmetic.{affine_zero}
use Rattle.sd_task.specs.in_force.Ranges.{affine_or}
use Rattle.sd_task.specs.task.ElementCode.{guard_of, below}
use Rattle.sd_elab.specs.states.Exits.{plainly, setting, if_holds, back_to, stepped_on}
use Rattle.sd_elab.specs.states.Standing.{Standing, behind, behind_all, state_behind, with_loop_variable}
use Rattle.sd_elab.specs.states.States.{chained, chained_all, chained_other}
use Rattle.sd_task.specs.containers.Declarations.{containers_with, containers_with_all}
use Rattle.sd_made.proofs.elab_lemmas.ContainersMade.{Begins, first_begins, counted, all_made}
use Rattle.sd_validity.specs.rules.Places.{no_scopes}
use Rattle.sd_validity.specs.bound_places.Throughout.{InItems, InStates}
use Rattle.sd_made.proofs.shapes_lemmas.NormalForms.{AreNormal}
use Rattle.sd_made_valid.proofs.fits_lemmas.Agreeing.{others_agree}
use Rattle.sd_made_valid.proofs.fits_lemmas.Tied.{Fit, placed_at, placed_from, Are, tied_past, all_tied_past}
use Rattle.sd_made_valid.proofs.fits_lemmas.Items.{IsWhole, IsLeaving, IsDoing, AreMade, item_right}

module _ (symbols : List Name) (arrays : Named (List Expression)) (above : List FunctionTree) (graphs : Name → GraphTree) (known : Named ℕ) (are_made : AreMade known above graphs) (declared : List Name) (all : Containers)
    (normal : AreNormal all) (tree : GraphTree) where
  abbrev States : List PlainState → (number : ℕ) → Type 0
  States states number = InStates IsWhole IsLeaving IsDoing (states_listed states) tree number

  -- in whatever state they stand
  abbrev Everywhere : ItemTrees → Type 0
  Everywhere items = (state : ℕ) → InItems IsWhole IsLeaving IsDoing items tree state no_scopes

  abbrev AllStates : List PlainState → Type 0
  AllStates states = (number : ℕ) → States states number

  abbrev Follows : (ItemTrees → List PlainState) → Type 0
  Follows rest = (items : ItemTrees) → Everywhere items → AllStates (rest items)

  abbrev AllFit : Place → StatementTree → Type 0
  AllFit = Fit symbols arrays above

  all_leaving : (state : ℕ) (exits : List ExitTree) → AllByRecursion (IsLeaving tree state) exits
  all_leaving state [] = tt
  all_leaving state (exit ∷ exits) = (tt, all_leaving state exits)

  with_state : (items : ItemTrees) (exits : List ExitTree) (rest : List PlainState) → Everywhere items → AllStates rest → AllStates ((items, exits) ∷ rest)
  with_state items exits rest right others number = (all_leaving number exits, right number, others (suc number))

  states_joined : (first second : List PlainState) → AllStates first → AllStates second → AllStates (first ++ second)
  states_joined [] second all others number = others number
  states_joined (state ∷ first) second all others number = ((all number).0, (all number).1, both first second number (all number).2 others)
    where
      both : (first second : List PlainState) (number : ℕ) → States first (suc number) → AllStates second → States (first ++ second) (suc number)
      both [] second number all others = others (suc number)
      both (state ∷ first) second number all others = (all.0, all.1, both first second (suc number) all.2 others)

  nothing : Everywhere no_item
  nothing state = tt

  -- where the block of a program stands
  pub record Here (at : Standing) (place : Place) (before : Containers) : Type 0 where
    pub around : place.around ≡ program
    pub first : length before ≡ at.container
    pub tied : Are symbols arrays above known declared all place.containers at.table

  here_past : (statement : StatementTree) (at : Standing) (place : Place) (before : Containers) → Here at place before → Begins (containers_with known declared statement false before) all → EveryAt AllFit place statement →
      Here (behind statement at) (past statement place) (containers_with known declared statement false before)
  here_past statement at place before here begins fit = record {
    around = here.around;
    first = counted known declared statement false place before (placed_at symbols arrays above place statement fit) ∙ ap (λ number. number + containers_in statement) here.first;
    tied = tied_past symbols arrays above known declared all statement at.table at.container place before here.around fit here.first begins here.tied;
  }

  here_past_all : (block : Block) (at : Standing) (place : Place) (before : Containers) → Here at place before → Begins (containers_with_all known declared block false before) all → EveryFrom AllFit place block →
      Here (behind_all block at) (past_all block place) (containers_with_all known declared block false before)
  here_past_all block at place before here begins fit = record {
    around = here.around;
    first = all_made known declared block false place before (placed_from symbols arrays above place block fit) ∙ ap (λ number. number + containers_in_all block) here.first;
    tied = all_tied_past symbols arrays above known declared all block at.table at.container place before here.around fit here.first begins here.tied;
  }

  one_on : (at : Standing) (place : Place) (before : Containers) → Here at place before → Here (state_behind at) place before
  one_on at place before here = record { around = here.around; first = here.first; tied = here.tied }

  in_its_loop : (at : Standing) (place : Place) (before : Containers) → Here at place before → Here (state_behind (state_behind at)) (in_loop place) before
  in_its_loop at place before here = record { around = here.around; first = here.first; tied = here.tied }

  in_for_loop : (line : ℕ) (name : Name) (begin end : _) (step : _) (body : Block) (at : Standing) (place : Place) (before : Containers) → Here at place before → AllFit place (for_loop line name begin end step body) →
      Here (with_loop_variable name (state_behind (state_behind at))) (in_loop place) before
  in_for_loop line name begin end step body at place before here fit = record {
    around = here.around;
    first = here.first;
    tied = (here.tied.0, (others_agree symbols known (name ∷ []) at.variable at.table.variables (fit.1.1, tt) here.tied.1.0, here.tied.1.1));
  }

  leaf_right : (statement : StatementTree) (at : Standing) (items : ItemTrees) (rest : ItemTrees → List PlainState) (place : Place) (before : Containers) → Here at place before →
      Begins (containers_with known declared statement false before) all → EveryAt AllFit place statement → Everywhere items → Follows rest →
      AllStates ((items, plainly at.state ∷ []) ∷ rest (items_with graphs statement false at.table at.container at.variable no_item))
  leaf_right statement at items rest place before here begins fit right follows =
      let new : ItemTrees = items_with graphs statement false at.table at.container at.variable no_item in
      with_state items (plainly at.state ∷ []) (rest new) right
      (follows new (λ state. item_right symbols arrays above graphs known are_made declared all normal tree statement false at.table at.container at.variable no_item state no_scopes place before here.first begins here.tied fit tt))

  mutual
    statement_right : (statement : StatementTree) (at : Standing) (items : ItemTrees) (rest : ItemTrees → List PlainState) (place : Place) (before : Containers) → Here at place before →
        Begins (containers_with known declared statement false before) all → EveryAt AllFit place statement → Everywhere items → Follows rest → AllStates (chained graphs statement at items rest)
    statement_right (argument_array line name bits extents) at items rest place before here begins fit right follows = follows items right
    statement_right (local_array line name extents bits) at items rest place before here begins fit right follows = follows items right
    statement_right (local_stream line name bits size) at items rest place before here begins fit right follows = follows items right
    statement_right (branch line when body other) at items rest place before here begins fit right follows =
        let middle : Containers = containers_with_all known declared body false before in
        let made : Begins middle all = first_begins known declared other false middle all begins in
        let first : ℕ → List PlainState = λ join. chained_all graphs body (state_behind at) no_item (plainly join ∷ []) in
        with_state items (if_holds (guard_of at.table line when) at.state ∷ plainly (at.state + 1 + states_in_all body) ∷ []) (chained_other graphs other (behind_all body (state_behind at)) first rest) right
        (other_right other (behind_all body (state_behind at)) first rest (past_all body place) middle (here_past_all body (state_behind at) place before (one_on at place before here) made fit.1.0) begins fit.1.1
        (λ join. block_right body (state_behind at) no_item (plainly join ∷ []) place before (one_on at place before here) made fit.1.0 nothing) follows)
    statement_right (while_loop line when body) at items rest place before here begins fit right follows =
        let inside : Standing = state_behind (state_behind at) in
        let back : List ExitTree = back_to at.state [] ∷ [] in
        let tests : List ExitTree = if_holds (guard_of at.table line when) (at.state + 1) ∷ plainly (at.state + 1 + 1 + states_in_all body) ∷ [] in
        let inner : List PlainState = chained_all graphs body inside no_item back in
        with_state items (plainly at.state ∷ []) ((no_item, tests) ∷ (inner ++ rest no_item)) right
        (with_state no_item tests (inner ++ rest no_item) nothing
        (states_joined inner (rest no_item) (block_right body inside no_item back (in_loop place) before (in_its_loop at place before here) begins fit.1 nothing) (follows no_item nothing)))
    statement_right (for_loop line name begin end step body) at items rest place before here begins fit right follows =
        let inside : Standing = with_loop_variable name (state_behind (state_behind at)) in
        let begun : List ExitTree = setting at.state at.variable (affine_or affine_zero at.table.variables begin) ∷ [] in
        let back : List ExitTree = back_to at.state ((at.variable, stepped_on at.variable step) ∷ []) ∷ [] in
        let tests : List ExitTree = if_holds (below inside.table line name end) (at.state + 1) ∷ plainly (at.state + 1 + 1 + states_in_all body) ∷ [] in
        let inner : List PlainState = chained_all graphs body inside no_item back in
        with_state items begun ((no_item, tests) ∷ (inner ++ rest no_item)) right
        (with_state no_item tests (inner ++ rest no_item) nothing
        (states_joined inner (rest no_item) (block_right body inside no_item back (in_loop place) before (in_for_loop line name begin end step body at place before here fit.0) begins fit.1 nothing) (follows no_item nothing)))
    statement_right statement at items rest place before here begins fit right follows = leaf_right statement at items rest place before here begins fit right follows

    pub block_right : (block : Block) (at : Standing) (items : ItemTrees) (exits : List ExitTree) (place : Place) (before : Containers) → Here at place before →
        Begins (containers_with_all known declared block false before) all → EveryFrom AllFit place block → Everywhere items → AllStates (chained_all graphs block at items exits)
    block_right no_statement at items exits place before here begins fit right = with_state items exits [] right (λ number. tt)
    block_right (and_statement first rest) at items exits place before here begins fit right =
        let middle : Containers = containers_with known declared first false before in
        let made : Begins middle all = first_begins known declared rest false middle all begins in
        statement_right first at items (λ items. chained_all graphs rest (behind first at) items exits) place before here made fit.0 right
        (λ items right. block_right rest (behind first at) items exits (past first place) middle (here_past first at place before here made fit.0) begins fit.1 right)

    other_right : (other : Block) (at : Standing) (first : ℕ → List PlainState) (rest : ItemTrees → List PlainState) (place : Place) (before : Containers) → Here at place before →
        Begins (containers_with_all known declared other false before) all → EveryFrom AllFit place other → ((join : ℕ) → AllStates (first join)) → Follows rest → AllStates (chained_other graphs other at first rest)
    other_right no_statement at first rest place before here begins fit right follows = states_joined (first at.state) (rest no_item) (right at.state) (follows no_item nothing)
    other_right (and_statement statement others) at first rest place before here begins fit right follows =
        let join : ℕ = at.state + 1 + (states_in statement + states_in_all others) in
        let middle : Containers = containers_with known declared statement false before in
        let made : Begins middle all = first_begins known declared others false middle all begins in
        let behind_first : ItemTrees → List PlainState = λ items. chained_all graphs others (behind statement (state_behind at)) items (plainly join ∷ []) in
        let inner : List PlainState = chained graphs statement (state_behind at) no_item behind_first in
        states_joined (first join) (inner ++ rest no_item) (right join)
        (states_joined inner (rest no_item)
        (statement_right statement (state_behind at) no_item behind_first place before (one_on at place before here) made fit.0 nothing
        (λ items right.
        block_right others (behind statement (state_behind at)) items (plainly join ∷ []) (past statement place) middle (here_past statement (state_behind at) place before (one_on at place before here) made fit.0) begins fit.1 right))
        (follows no_item nothing))
