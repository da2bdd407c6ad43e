-- The states of a program's block are told, one after another.
use Rattle.std.proofs.Common.{◌≡◌, ◌∙◌, inl, inr, ℕ, suc, ◌+◌, ◌<◌, ◌≤◌, List, [], ◌∷◌, ◌++◌, length, true, false, refl, ap, sym, subst, arith, add-zero}
use Rattle.std.specs.List.{AllByRecursion}
use Rattle.sd_num.specs.declared.width.Width.TheVariants.{W64}
use Rattle.sd_lex.specs.PlainTree.{StatementTree, argument_array, local_array, local_stream, for_loop, while_loop, branch, tasklet_branch, Block, no_statement, and_statement, FunctionTree}
use Rattle.sd_graph.specs.PlainTree.{ItemTrees, no_item, ExitTree, GraphTree}
use Rattle.sd_graph.specs.TreeFold.{PlainState, states_listed}
use Rattle.sd_graph.specs.TreeParts.{containers_of}
use Rattle.sd_graph.specs.ContainerParts.{Containers, container_at}
use Rattle.sd_graph.specs.InForce.{is_private}
use Rattle.sd_graph.specs.Wiring.{has_number}
use Rattle.sd_graph.specs.declared.container.Container.{Container}
use Rattle.sd_graph.specs.declared.container.ContainerKind.TheVariants.{Transient, Stream}
use Rattle.sd_program.specs.Names.{Name, Named}
use Rattle.sd_program.specs.Declared.{states_in, states_in_all, states_in_other, containers_in, containers_in_all}
use Rattle.sd_program.specs.Place as place_of
use Rattle.sd_program.specs.Place.{Holder, of_dimensions, of_values, program, length_of, Place, past, past_all, in_loop, EveryAt, EveryFrom}
use Rattle.sd_program.specs.Known.{StandsIn, StandsInProgram, IsPlaced}
use Rattle.sd_task.specs.in_force.Names.{with_numbered}
use Rattle.sd_task.specs.in_force.Ranges.{extents_of}
use Rattle.sd_task.specs.task.Table.{Table}
use Rattle.sd_task.specs.task.ElementCode.{guard_of, below}
use Rattle.sd_elab.specs.items.Counts.{variables_in, variables_in_all}
use Rattle.sd_elab.specs.items.NamesBehind.{table_behind_state, table_behind_all}
use Rattle.sd_elab.specs.items.Items.{items_with}
use Rattle.sd_task.specs.containers.Declarations.{containers_with, containers_with_all}
use Rattle.sd_elab.specs.states.Exits.{plainly, if_holds, back_to, stepped_on}
use Rattle.sd_elab.specs.states.Standing.{Standing, behind, behind_all, state_behind, with_loop_variable}
use Rattle.sd_elab.specs.states.States.{chained, chained_all, chained_other}
use Rattle.sd_made.proofs.elab_lemmas.ContainersMade.{holds_here, Begins, first_begins, made_at, counted, all_made}
use Rattle.sd_made.proofs.elab_lemmas.StateCounts.{one_counted, all_counted}
use Rattle.sd_made.specs.loops_shown.Shown.{ShowsOne, ShowsAll, ShowsOther}
use Rattle.sd_validity.specs.rules.GraphParts.{variables_of, symbols_in}
use Rattle.sd_validity.specs.rules.Places.{no_scopes, loops_at}
use Rattle.sd_validity.specs.bound_places.Throughout.{InItems, InStates, Throughout}
use Rattle.sd_made.proofs.places_lemmas.Held.{IsOf, IsHeld, AreHeld, one_more_held, in_first, in_second, has_first, AreVariables, variables_inside, numbered}
use Rattle.sd_made.proofs.places_lemmas.Made.{Stands, Fitting, IsWhole, IsItem, IsExit, IsLoop}
use Rattle.sd_made.proofs.places_lemmas.ItemsMade.{extents_counted, item_made}

-- ---- names in force

-- a container that a program declares outside of scopes
pub whole_held : (all : Containers) (before : Containers) (entry : Name × Container) (number : ℕ) (holder : Holder) → length before ≡ number → Begins (before ++ entry ∷ []) all → is_private entry.1.kind ≡ false → IsOf holder entry.1 →
    IsHeld all [] holder number
whole_held all before entry number holder e begins whole of =
    let made : (length before < length all) × (container_at all (length before) ≡ entry.1) = made_at before entry all begins in
    subst (λ number. IsHeld all [] holder number) e
    ((made.0, inl (ap (λ container. is_private container.kind) made.1 ∙ whole)), subst (λ found. IsOf holder found) (sym made.1) of)

-- the variable of a loop is in force in it
loop_variables : (tree : GraphTree) (loops : List ℕ) (name : Name) (variable : ℕ) (known : Named ℕ) → variable + 1 ≤ length (variables_of tree) → AreVariables tree [] loops known →
    AreVariables tree [] (loops ++ variable ∷ []) (with_numbered (name ∷ []) variable known)
loop_variables tree loops name variable known room are other number e = elim (numbered (name ∷ []) variable known other number e) [
  | inl within ↦ (
      let same : variable ≡ number = omega (arith, within.0, within.1) in
      (omega (arith, same, room), inr (inr (in_second loops (variable ∷ []) number (subst (λ number. has_number (variable ∷ []) number ≡ true) same (has_first variable [])))))
      )
  | inr earlier ↦ variables_inside tree [] [] loops (loops ++ variable ∷ []) known (λ number e. e) (in_first loops (variable ∷ [])) are other number earlier
]

-- behind statements the same variables are in force, in the same program
mutual
  same_variables : (statement : StatementTree) (container : ℕ) (table : Table) → table.variables ≡ (table_behind_state statement container table).variables
  same_variables (local_array line name extents bits) container table = refl
  same_variables (local_stream line name bits size) container table = refl
  same_variables (for_loop line name begin end step body) container table = all_same_variables body container table
  same_variables (while_loop line when body) container table = all_same_variables body container table
  same_variables (branch line when body other) container table =
      all_same_variables body container table ∙ all_same_variables other (container + containers_in_all body) (table_behind_all body container table)
  same_variables statement container table = refl

  all_same_variables : (block : Block) (container : ℕ) (table : Table) → table.variables ≡ (table_behind_all block container table).variables
  all_same_variables no_statement container table = refl
  all_same_variables (and_statement first rest) container table =
      same_variables first container table ∙ all_same_variables rest (container + containers_in first) (table_behind_state first container table)

mutual
  same_all : (statement : StatementTree) (container : ℕ) (table : Table) → (table_behind_state statement container table).all ≡ table.all
  same_all (local_array line name extents bits) container table = refl
  same_all (local_stream line name bits size) container table = refl
  same_all (for_loop line name begin end step body) container table = all_same_all body container table
  same_all (while_loop line when body) container table = all_same_all body container table
  same_all (branch line when body other) container table =
      all_same_all other (container + containers_in_all body) (table_behind_all body container table) ∙ all_same_all body container table
  same_all statement container table = refl

  all_same_all : (block : Block) (container : ℕ) (table : Table) → (table_behind_all block container table).all ≡ table.all
  all_same_all no_statement container table = refl
  all_same_all (and_statement first rest) container table =
      all_same_all rest (container + containers_in first) (table_behind_state first container table) ∙ same_all first container table

module _ (symbols : Named ℕ) (declared : List Name) (all : Containers) where
  stands_in_program : (place : Place) (statement : StatementTree) → place.around ≡ program → EveryAt IsPlaced place statement → StandsInProgram statement
  stands_in_program place statement around placed = subst (λ kind. StandsIn kind statement) around (holds_here IsPlaced place statement placed)

  mutual
    held_past : (statement : StatementTree) (table : Table) (container : ℕ) (place : Place) (before : Containers) → place.around ≡ program → length before ≡ container →
        Begins (containers_with symbols declared statement false before) all → EveryAt IsPlaced place statement → AreHeld all [] place.containers table.containers →
        AreHeld all [] (place_of.behind statement place.containers) (table_behind_state statement container table).containers
    held_past (argument_array line name bits extents) table container place before around e begins placed are = absurd (stands_in_program place (argument_array line name bits extents) around placed)
    held_past (local_array line name extents bits) table container place before around e begins placed are =
        let entry : Name × Container = (name, record { extents = extents_of symbols extents; kind = Transient; width = W64 }) in
        let holder : Holder = of_dimensions (length_of extents) in
        one_more_held all [] place.containers table.containers name holder container (whole_held all before entry container holder e begins refl (refl, extents_counted symbols extents)) are
    held_past (local_stream line name bits size) table container place before around e begins placed are =
        let entry : Name × Container = (name, record { extents = []; kind = Stream; width = W64 }) in
        one_more_held all [] place.containers table.containers name of_values container (whole_held all before entry container of_values e begins refl (refl, refl)) are
    held_past (for_loop line name begin end step body) table container place before around e begins placed are = all_held_past body table container (in_loop place) before around e begins placed.1 are
    held_past (while_loop line when body) table container place before around e begins placed are = all_held_past body table container (in_loop place) before around e begins placed.1 are
    held_past (branch line when body other) table container place before around e begins placed are =
        let middle : Containers = containers_with_all symbols declared body false before in
        all_held_past other (table_behind_all body container table) (container + containers_in_all body) (past_all body place) middle around
        (all_made symbols declared body false place before placed.1.0 ∙ ap (λ number. number + containers_in_all body) e) begins placed.1.1
        (all_held_past body table container place before around e (first_begins symbols declared other false middle all begins) placed.1.0 are)
    held_past (tasklet_branch line when body other) table container place before around e begins placed are = absurd (stands_in_program place (tasklet_branch line when body other) around placed)
    held_past statement table container place before around e begins placed are = are

    all_held_past : (block : Block) (table : Table) (container : ℕ) (place : Place) (before : Containers) → place.around ≡ program → length before ≡ container →
        Begins (containers_with_all symbols declared block false before) all → EveryFrom IsPlaced place block → AreHeld all [] place.containers table.containers →
        AreHeld all [] (place_of.behind_all block place.containers) (table_behind_all block container table).containers
    all_held_past no_statement table container place before around e begins placed are = are
    all_held_past (and_statement first rest) table container place before around e begins placed are =
        let middle : Containers = containers_with symbols declared first false before in
        all_held_past rest (table_behind_state first container table) (container + containers_in first) (past first place) middle around
        (counted symbols declared first false place before placed.0 ∙ ap (λ number. number + containers_in first) e) begins placed.1
        (held_past first table container place before around e (first_begins symbols declared rest false middle all begins) placed.0 are)

-- ---- states

module _ (Given : Place → StatementTree → Type 0) (Is : List Name → FunctionTree → Type 0) (fits : (place : Place) (statement : StatementTree) → Given place statement → Fitting place statement)
    (placed_at : (place : Place) (statement : StatementTree) → EveryAt Given place statement → EveryAt IsPlaced place statement)
    (placed_from : (place : Place) (block : Block) → EveryFrom Given place block → EveryFrom IsPlaced place block)
    (graphs : Name → GraphTree) (symbols : Named ℕ) (declared : List Name) (tree : GraphTree)
    (inner : (name : Name) → Throughout (IsWhole Given Is) (IsExit Given Is) (IsItem Given Is) (graphs name)) where
  abbrev all : Containers
  all = containers_of tree

  abbrev Exits : (state : ℕ) → List ExitTree → Type 0
  Exits state exits = AllByRecursion (IsExit Given Is tree state) exits

  abbrev Items : ItemTrees → (state : ℕ) → Type 0
  Items items state = InItems (IsWhole Given Is) (IsExit Given Is) (IsItem Given Is) items tree state no_scopes

  -- the states from this number on
  abbrev States : List PlainState → (number : ℕ) → Type 0
  States states number = InStates (IsWhole Given Is) (IsExit Given Is) (IsItem Given Is) (states_listed states) tree number

  states_joined : (first second : List PlainState) (number next : ℕ) → number + length first ≡ next → States first number → States second next → States (first ++ second) number
  states_joined [] second number next e holds others = subst (States second) (omega (arith, e)) others
  states_joined (state ∷ first) second number next e holds others = (holds.0, holds.1, states_joined first second (suc number) next (omega (arith, e)) holds.2 others)

  -- where the block of a program stands: its current state has this number, and these loops are about it
  pub record At (at : Standing) (number : ℕ) (loops : List ℕ) (place : Place) (before : Containers) : Type 0 where
    pub around : place.around ≡ program
    pub next : suc number ≡ at.state
    pub first : length before ≡ at.container
    pub own : symbols_in tree ≤ at.variable
    pub stands : Stands tree no_scopes loops place at.table

  -- in a state in which these loops show
  standing_in : (state : ℕ) (loops : List ℕ) (place : Place) (table : Table) → loops_at tree state ≡ loops → Stands tree no_scopes loops place table → Stands tree no_scopes (loops_at tree state) place table
  standing_in state loops place table e stands = subst (λ loops. Stands tree no_scopes loops place table) (sym e) stands

  -- behind a statement
  stands_past : (statement : StatementTree) (at : Standing) (number : ℕ) (loops : List ℕ) (place : Place) (before : Containers) → At at number loops place before →
      Begins (containers_with symbols declared statement false before) all → EveryAt Given place statement →
      At (behind statement at) (number + states_in statement) loops (past statement place) (containers_with symbols declared statement false before)
  stands_past statement at number loops place before here begins given =
      let placed : EveryAt IsPlaced place statement = placed_at place statement given in
      record {
        around = here.around;
        next = omega (arith, here.next);
        first = counted symbols declared statement false place before placed ∙ ap (λ number. number + containers_in statement) here.first;
        own = omega (arith, here.own);
        stands = record {
          containers = held_past symbols declared all statement at.table at.container place before here.around here.first begins placed here.stands.containers;
          variables = subst (λ numbers. AreVariables tree [] loops numbers) (same_variables statement at.container at.table) here.stands.variables;
          all = same_all statement at.container at.table ∙ here.stands.all;
        };
      }

  -- behind a block
  stands_past_all : (block : Block) (at : Standing) (number : ℕ) (loops : List ℕ) (place : Place) (before : Containers) → At at number loops place before →
      Begins (containers_with_all symbols declared block false before) all → EveryFrom Given place block →
      At (behind_all block at) (number + states_in_all block) loops (past_all block place) (containers_with_all symbols declared block false before)
  stands_past_all block at number loops place before here begins given =
      let placed : EveryFrom IsPlaced place block = placed_from place block given in
      record {
        around = here.around;
        next = omega (arith, here.next);
        first = all_made symbols declared block false place before placed ∙ ap (λ number. number + containers_in_all block) here.first;
        own = omega (arith, here.own);
        stands = record {
          containers = all_held_past symbols declared all block at.table at.container place before here.around here.first begins placed here.stands.containers;
          variables = subst (λ numbers. AreVariables tree [] loops numbers) (all_same_variables block at.container at.table) here.stands.variables;
          all = all_same_all block at.container at.table ∙ here.stands.all;
        };
      }

  -- one state on
  one_on : (at : Standing) (number : ℕ) (loops : List ℕ) (place : Place) (before : Containers) → At at number loops place before → At (state_behind at) at.state loops place before
  one_on at number loops place before here = record { around = here.around; next = omega arith; first = here.first; own = here.own; stands = here.stands }

  -- in the block of a loop
  in_its_loop : (at : Standing) (number : ℕ) (loops : List ℕ) (place : Place) (before : Containers) → At at number loops place before → At (state_behind (state_behind at)) (at.state + 1) loops (in_loop place) before
  in_its_loop at number loops place before here =
      record { around = here.around; next = omega arith; first = here.first; own = here.own; stands = record { containers = here.stands.containers; variables = here.stands.variables; all = here.stands.all } }

  in_for_loop : (name : Name) (at : Standing) (number : ℕ) (loops : List ℕ) (place : Place) (before : Containers) → At at number loops place before → at.variable + 1 ≤ length (variables_of tree) →
      At (with_loop_variable name (state_behind (state_behind at))) (at.state + 1) (loops ++ at.variable ∷ []) (in_loop place) before
  in_for_loop name at number loops place before here room = record {
    around = here.around;
    next = omega arith;
    first = here.first;
    own = omega (arith, here.own);
    stands = record {
      containers = here.stands.containers;
      variables = loop_variables tree loops name at.variable at.table.variables room here.stands.variables;
      all = here.stands.all;
    };
  }

  plain_exit : (state to : ℕ) → Exits state (plainly to ∷ [])
  plain_exit state to = (inl (to, inl refl), tt)

  -- what follows from the state of this number on, in which these loops show
  abbrev Follows : (ItemTrees → List PlainState) → (number : ℕ) → (loops : List ℕ) → Type 0
  Follows rest number loops = (items : ItemTrees) → loops_at tree number ≡ loops → Items items number → States (rest items) number

  -- a statement that makes one state with one item
  made_state : (statement : StatementTree) (at : Standing) (items : ItemTrees) (rest : ItemTrees → List PlainState) (number : ℕ) (loops : List ℕ) (place : Place) (before : Containers) →
      At at number loops place before → Begins (containers_with symbols declared statement false before) all → at.variable + variables_in statement ≤ length (variables_of tree) → EveryAt Given place statement →
      Items items number → loops_at tree at.state ≡ loops → Follows rest (number + 1) loops →
      States ((items, plainly at.state ∷ []) ∷ rest (items_with graphs statement false at.table at.container at.variable no_item)) number
  made_state statement at items rest number loops place before here begins room given items_here shows follows =
      let next : number + 1 ≡ at.state = omega (arith, here.next) in
      let one : number + 1 ≡ suc number = omega arith in (
        plain_exit number at.state,
        items_here,
        subst (States (rest (items_with graphs statement false at.table at.container at.variable no_item))) one
            (follows (items_with graphs statement false at.table at.container at.variable no_item) (ap (loops_at tree) next ∙ shows)
            (subst (Items (items_with graphs statement false at.table at.container at.variable no_item)) (sym next)
            (item_made Given Is fits placed_at placed_from graphs symbols declared tree at.state inner statement false at.table at.container at.variable no_item no_scopes place before here.around here.first begins room
            (standing_in at.state loops place at.table shows here.stands) given tt))),
      )

  mutual
    statement_made : (statement : StatementTree) (at : Standing) (items : ItemTrees) (rest : ItemTrees → List PlainState) (number : ℕ) (loops : List ℕ) (place : Place) (before : Containers) →
        At at number loops place before → Begins (containers_with symbols declared statement false before) all → at.variable + variables_in statement ≤ length (variables_of tree) → EveryAt Given place statement →
        loops_at tree number ≡ loops → ShowsOne (loops_at tree) statement at.state at.variable loops → Items items number → Follows rest (number + states_in statement) loops →
        States (chained graphs statement at items rest) number
    statement_made (argument_array line name bits extents) at items rest number loops place before here begins room given now shows items_here follows =
        subst (States (rest items)) (add-zero number) (follows items (ap (loops_at tree) (add-zero number) ∙ now) (subst (Items items) (sym (add-zero number)) items_here))
    statement_made (local_array line name extents bits) at items rest number loops place before here begins room given now shows items_here follows =
        subst (States (rest items)) (add-zero number) (follows items (ap (loops_at tree) (add-zero number) ∙ now) (subst (Items items) (sym (add-zero number)) items_here))
    statement_made (local_stream line name bits size) at items rest number loops place before here begins room given now shows items_here follows =
        subst (States (rest items)) (add-zero number) (follows items (ap (loops_at tree) (add-zero number) ∙ now) (subst (Items items) (sym (add-zero number)) items_here))
    statement_made (branch line when body other) at items rest number loops place before here begins room given now shows items_here follows =
        let middle : Containers = containers_with_all symbols declared body false before in
        let first_made : Begins middle all = first_begins symbols declared other false middle all begins in
        let first : ℕ → List PlainState = λ join. chained_all graphs body (state_behind at) no_item (plainly join ∷ []) in
        let inside : At (state_behind at) at.state loops place before = one_on at number loops place before here in
        let last : number + (1 + states_in_all body + states_in_other other) ≡ at.state + states_in_all body + states_in_other other = omega (arith, here.next) in (
          (
            inr (inl (record {
              place = place;
              statement = branch line when body other;
              table = at.table;
              line = line;
              when = when;
              to = at.state;
              stands = standing_in number loops place at.table now here.stands;
              given = given;
              asked = (refl, refl);
              made = refl;
            })),
            plain_exit number (at.state + 1 + states_in_all body),
          ),
          items_here,
          subst (States (chained_other graphs other (behind_all body (state_behind at)) first rest)) (sym here.next)
              (other_made other (behind_all body (state_behind at)) first rest at.state (states_in_all body) loops (past_all body place) middle
              (stands_past_all body (state_behind at) at.state loops place before inside first_made given.1.0) begins (omega (arith, room)) given.1.1 shows.2
              (λ join. all_counted graphs body (state_behind at) no_item (plainly join ∷ []))
              (λ join. block_made body (state_behind at) no_item (plainly join ∷ []) at.state loops place before inside first_made (omega (arith, room)) given.1.0 shows.0 shows.1 tt (λ last shows. plain_exit last join))
              (λ items e holds. subst (States (rest items)) last (follows items (ap (loops_at tree) last ∙ e) (subst (Items items) (sym last) holds)))),
        )
    statement_made (while_loop line when body) at items rest number loops place before here begins room given now shows items_here follows =
        let inside : At (state_behind (state_behind at)) (at.state + 1) loops (in_loop place) before = in_its_loop at number loops place before here in
        let back : List ExitTree = back_to at.state [] ∷ [] in
        let inner_states : List PlainState = chained_all graphs body (state_behind (state_behind at)) no_item back in
        let next : at.state + 1 ≡ suc at.state = omega arith in
        let last : number + (2 + states_in_all body + 1) ≡ at.state + 1 + 1 + states_in_all body = omega (arith, here.next) in (
          plain_exit number at.state,
          items_here,
          subst (States ((no_item, if_holds (guard_of at.table line when) (at.state + 1) ∷ plainly (at.state + 1 + 1 + states_in_all body) ∷ []) ∷ (inner_states ++ rest no_item))) (sym here.next) (
            (
              inr (inl (record {
                place = place;
                statement = while_loop line when body;
                table = at.table;
                line = line;
                when = when;
                to = at.state + 1;
                stands = standing_in at.state loops place at.table shows.0 here.stands;
                given = given;
                asked = (refl, refl);
                made = refl;
              })),
              plain_exit at.state (at.state + 1 + 1 + states_in_all body),
            ),
            tt,
            states_joined inner_states (rest no_item) (suc at.state) (number + (2 + states_in_all body + 1)) (omega (arith, here.next, all_counted graphs body (state_behind (state_behind at)) no_item back))
                (subst (States inner_states) next
                (block_made body (state_behind (state_behind at)) no_item back (at.state + 1) loops (in_loop place) before inside begins (omega (arith, room)) given.1 shows.1 shows.2 tt
                (λ last shows. (inl (at.state, inr refl), tt))))
                (follows no_item (ap (loops_at tree) last ∙ shows.3) tt),
          ),
        )
    statement_made (for_loop line name begin end step body) at items rest number loops place before here begins room given now shows items_here follows =
        let here_room : at.variable + 1 ≤ length (variables_of tree) = omega (arith, room) in
        let standing : Standing = with_loop_variable name (state_behind (state_behind at)) in
        let further : List ℕ = loops ++ at.variable ∷ [] in
        let inside : At standing (at.state + 1) further (in_loop place) before = in_for_loop name at number loops place before here here_room in
        let back : List ExitTree = back_to at.state ((at.variable, stepped_on at.variable step) ∷ []) ∷ [] in
        let inner_states : List PlainState = chained_all graphs body standing no_item back in
        let next : at.state + 1 ≡ suc at.state = omega arith in
        let last : number + (2 + states_in_all body + 1) ≡ at.state + 1 + 1 + states_in_all body = omega (arith, here.next) in
        let loop : (state : ℕ) → IsLoop Given Is tree state =
        λ state. record { place = place; line = line; name = name; begin = begin; end = end; step = step; body = body; given = given } in (
          (
            inr (inr (inl (record {
              loop = loop number;
              table = at.table;
              variable = at.variable;
              to = at.state;
              own = here.own;
              there = omega (arith, room);
              stands = standing_in number loops place at.table now here.stands;
              made = refl;
            }))),
            tt,
          ),
          items_here,
          subst (States ((no_item, if_holds (below standing.table line name end) (at.state + 1) ∷ plainly (at.state + 1 + 1 + states_in_all body) ∷ []) ∷ (inner_states ++ rest no_item))) (sym here.next) (
            (
              inr (inr (inr (inl (record {
                loop = loop at.state;
                table = standing.table;
                to = at.state + 1;
                stands = standing_in at.state further place standing.table shows.0 (record { containers = here.stands.containers; variables = inside.stands.variables; all = here.stands.all });
                made = refl;
              })))),
              plain_exit at.state (at.state + 1 + 1 + states_in_all body),
            ),
            tt,
            states_joined inner_states (rest no_item) (suc at.state) (number + (2 + states_in_all body + 1)) (omega (arith, here.next, all_counted graphs body standing no_item back))
                (subst (States inner_states) next
                (block_made body standing no_item back (at.state + 1) further (in_loop place) before inside begins (omega (arith, room)) given.1 shows.1 shows.2 tt
                (λ end e. (
                  inr (inr (inr (inr (record {
                    loop = loop end;
                    variable = at.variable;
                    to = at.state;
                    own = here.own;
                    there = omega (arith, room);
                    shown = subst (λ shown. has_number shown at.variable ≡ true) (sym e) (in_second loops (at.variable ∷ []) at.variable (has_first at.variable []));
                    made = refl;
                  })))),
                  tt,
                ))))
                (follows no_item (ap (loops_at tree) last ∙ shows.3) tt),
          ),
        )
    statement_made statement at items rest number loops place before here begins room given now shows items_here follows =
        made_state statement at items rest number loops place before here begins room given items_here shows follows

    -- a block; the last state has these transitions
    pub block_made : (block : Block) (at : Standing) (items : ItemTrees) (exits : List ExitTree) (number : ℕ) (loops : List ℕ) (place : Place) (before : Containers) →
        At at number loops place before → Begins (containers_with_all symbols declared block false before) all → at.variable + variables_in_all block ≤ length (variables_of tree) → EveryFrom Given place block →
        loops_at tree number ≡ loops → ShowsAll (loops_at tree) block at.state at.variable loops → Items items number →
        ((last : ℕ) → loops_at tree last ≡ loops → Exits last exits) → States (chained_all graphs block at items exits) number
    block_made no_statement at items exits number loops place before here begins room given now shows items_here last = (last number now, items_here, tt)
    block_made (and_statement first rest) at items exits number loops place before here begins room given now shows items_here last =
        let middle : Containers = containers_with symbols declared first false before in
        let first_made : Begins middle all = first_begins symbols declared rest false middle all begins in
        statement_made first at items (λ items. chained_all graphs rest (behind first at) items exits) number loops place before here first_made (omega (arith, room)) given.0 now shows.0 items_here
        (λ items e holds.
        block_made rest (behind first at) items exits (number + states_in first) loops (past first place) middle (stands_past first at number loops place before here first_made given.0) begins (omega (arith, room)) given.1 e
        shows.1 holds last)

    -- behind the first block of a branch, whose states begin with this number
    other_made : (other : Block) (at : Standing) (first : ℕ → List PlainState) (rest : ItemTrees → List PlainState) (number count : ℕ) (loops : List ℕ) (place : Place) (before : Containers) →
        At at (number + count) loops place before → Begins (containers_with_all symbols declared other false before) all → at.variable + variables_in_all other ≤ length (variables_of tree) → EveryFrom Given place other →
        ShowsOther (loops_at tree) other at.state at.variable loops → ((join : ℕ) → length (first join) ≡ count + 1) → ((join : ℕ) → States (first join) number) →
        Follows rest (number + count + states_in_other other) loops → States (chained_other graphs other at first rest) number
    other_made no_statement at first rest number count loops place before here begins room given shows counted holds follows =
        let last : number + count + 1 ≡ at.state = omega (arith, here.next) in
        states_joined (first at.state) (rest no_item) number (number + count + 1) (omega (arith, counted at.state)) (holds at.state) (follows no_item (ap (loops_at tree) last ∙ shows) tt)
    other_made (and_statement statement others) at first rest number count loops place before here begins room given shows counted holds follows =
        let join : ℕ = at.state + 1 + (states_in statement + states_in_all others) in
        let behind_first : ItemTrees → List PlainState = λ items. chained_all graphs others (behind statement (state_behind at)) items (plainly join ∷ []) in
        let inner_states : List PlainState = chained graphs statement (state_behind at) no_item behind_first in
        let middle : Containers = containers_with symbols declared statement false before in
        let first_made : Begins middle all = first_begins symbols declared others false middle all begins in
        let inside : At (state_behind at) at.state loops place before = one_on at (number + count) loops place before here in
        let lengths : length inner_states ≡ states_in statement + (states_in_all others + 1) =
        one_counted graphs statement (state_behind at) no_item behind_first (states_in_all others + 1) (λ items. all_counted graphs others (behind statement (state_behind at)) items (plainly join ∷ [])) in
        let last : number + count + (1 + (states_in statement + states_in_all others) + 1) ≡ at.state + 1 + (states_in statement + states_in_all others) = omega (arith, here.next) in
        states_joined (first join) (inner_states ++ rest no_item) number at.state (omega (arith, counted join, here.next)) (holds join)
        (states_joined inner_states (rest no_item) at.state (number + count + (1 + (states_in statement + states_in_all others) + 1)) (omega (arith, lengths, here.next))
        (statement_made statement (state_behind at) no_item behind_first at.state loops place before inside first_made (omega (arith, room)) given.0 shows.0 shows.1.0 tt
        (λ items e items_here.
        block_made others (behind statement (state_behind at)) items (plainly join ∷ []) (at.state + states_in statement) loops (past statement place) middle
        (stands_past statement (state_behind at) at.state loops place before inside first_made given.0) begins (omega (arith, room)) given.1 e shows.1.1 items_here (λ last shows. plain_exit last join)))
        (follows no_item (ap (loops_at tree) last ∙ shows.2) tt))
