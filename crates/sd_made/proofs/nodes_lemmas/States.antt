-- The states of a program have the nodes, and do to its arguments, what its statements say.
use Rattle.std.proofs.Common.{◌≡◌, ◌∙◌, ℕ, ◌+◌, ◌<◌, ◌≤◌, List, [], ◌∷◌, ◌++◌, length, None, Bool, true, false, ◌&&◌, ◌||◌, refl, ap, sym, arith}
use Rattle.std.specs.Prelude.{⊤}
use Rattle.std.specs.List.{AllByRecursion, list_any}
use Rattle.std.proofs.lemmas.List.Folds.{list_any-append}
use Rattle.sd_lex.specs.PlainTree.{Expression, named, two, StatementTree, argument_array, local_array, local_stream, for_loop, while_loop, branch, Block, no_statement, and_statement, FunctionTree}
use Rattle.sd_lex.specs.declared.syntax.operator.TwoSign.TheVariants.{Less}
use Rattle.sd_range.specs.Arithmetic.{affine_zero}
use Rattle.sd_source.specs.nodes.Items as source
use Rattle.sd_source.specs.nodes.Items.{Item}
use Rattle.sd_source.specs.nodes.Names.{is_among, noted_own}
use Rattle.sd_source.specs.nodes.Nodes.{chosen, with_mentioned}
use Rattle.sd_source.specs.nodes.NodeLimits.{count_of, count_in_all}
use Rattle.sd_source.specs.nodes.SourceItems.{elements_in, item_of}
use Rattle.sd_source.specs.nodes.SourceNodes.{with_used, with_all_used, state_nodes, with_states, with_all_states}
use Rattle.sd_source.specs.declared.nodes.access.Access.{Access}
use Rattle.sd_source.specs.declared.nodes.access.Access.TheVariants.{Read, Write}
use Rattle.sd_source.specs.declared.nodes.functions.Functions.{Functions}
use Rattle.sd_source.specs.declared.nodes.node.Node.{Node}
use Rattle.sd_graph.specs.PlainTree.{ItemTrees, no_item, GraphTree, ExitTree, GuardTree}
use Rattle.sd_graph.specs.TreeFold.{PlainState, states_listed}
use Rattle.sd_graph.specs.ContainerParts.{Containers}
use Rattle.sd_graph.specs.Wiring.{Use, guard_uses, exit_uses, item_uses, state_uses}
use Rattle.sd_wire.specs.wiring.Mentioned.{has_access, own_of_state}
use Rattle.sd_wire.specs.wiring.Listing.{nodes_of}
use Rattle.sd_program.specs.Names.{Name}
use Rattle.sd_program.specs.IsAffine.{IsAffine}
use Rattle.sd_program.specs.Declared.{containers_in, containers_in_all}
use Rattle.sd_program.specs.Place.{of_dimensions, program, Place, past, past_all, in_loop, EveryAt, EveryFrom}
use Rattle.sd_program.specs.Known.{KnowsElements}
use Rattle.sd_task.specs.task.Table.{Table}
use Rattle.sd_task.specs.task.ElementCode.{links_with, guard_of, below}
use Rattle.sd_task.specs.in_force.Ranges.{affine_or}
use Rattle.sd_elab.specs.items.Items.{items_with}
use Rattle.sd_elab.specs.states.Exits.{plainly, setting, if_holds, back_to, stepped_on}
use Rattle.sd_elab.specs.states.Standing.{Standing, behind, behind_all, state_behind, with_loop_variable}
use Rattle.sd_elab.specs.states.Threaded.{Threaded, closed, holding, to_block, in_loop as in_its_loop, join_of, else_begun, in_else, threaded, threaded_all}
use Rattle.sd_made.proofs.elab_lemmas.NamesKnown.{affine_knows}
use Rattle.sd_made.specs.counted.Counted as counted
use Rattle.sd_made.specs.counted.Counted.{names_in, list_nested}
use Rattle.sd_made.specs.counted.Drawn as drawn
use Rattle.sd_made.proofs.counted_lemmas.CountedNodes.{mentioned_names, items_counted}
use Rattle.sd_made.proofs.counted_lemmas.Agreed.{IsOwn, among_own}
use Rattle.sd_made.proofs.nodes_lemmas.Places.{nested_in_all, nodes_in_states, AreFew, HaveFew}
use Rattle.sd_made.proofs.nodes_lemmas.Bound.{nodes_counted}
use Rattle.sd_made.proofs.nodes_lemmas.Entries.{Entry, name_of, number_of, entries_of, entries_in, all_first, all_second, AreApart}
use Rattle.sd_made.proofs.nodes_lemmas.Own.{IsOutside, IsClear, AreClear}
use Rattle.sd_made.proofs.nodes_lemmas.Known.{AreKnown, known_past, all_known_past}
use Rattle.sd_made.proofs.nodes_lemmas.Modes.{drawn_as, or_none, or_assoc, and_true, has_link, takes, reads_read, reads_write, reads_take}
use Rattle.sd_made.proofs.nodes_lemmas.Outside.{none_current}
use Rattle.sd_made.proofs.nodes_lemmas.Uses.{elements_same, affine_reads}
use Rattle.sd_made.proofs.nodes_lemmas.Items.{Fit, placed_at, placed_from, AreCallees, AllAgree, none_agree, statement_agrees}

-- ---- one more state

module _ (containers : Containers) where
  more_nodes : (finished : List PlainState) (items : ItemTrees) (exits : List ExitTree) →
      nodes_in_states (states_listed (finished ++ (items, exits) ∷ [])) containers ≡ nodes_in_states (states_listed finished) containers + (length (nodes_of containers items) + nested_in_all items)
  more_nodes [] items exits = omega arith
  more_nodes (state ∷ finished) items exits = omega (arith, more_nodes finished items exits)

  more_few : (most : ℕ) (finished : List PlainState) (items : ItemTrees) (exits : List ExitTree) → HaveFew most (states_listed finished) containers → length (nodes_of containers items) ≤ most → AreFew most items →
      HaveFew most (states_listed (finished ++ (items, exits) ∷ [])) containers
  more_few most [] items exits few own inner = (own, (inner, tt))
  more_few most (state ∷ finished) items exits few own inner = (few.0, (few.1.0, more_few most finished items exits few.1.1 own inner))

  more_uses : (test : Use → Bool) (finished : List PlainState) (items : ItemTrees) (exits : List ExitTree) →
      list_any test (state_uses (states_listed (finished ++ (items, exits) ∷ [])) containers)
      ≡ (list_any test (state_uses (states_listed finished) containers) || (list_any test (item_uses items containers) || list_any test (exit_uses exits)))
  more_uses test [] items exits =
      list_any-append test (item_uses items containers) (exit_uses exits ++ [])
      ∙ ap (λ found. list_any test (item_uses items containers) || found) (list_any-append test (exit_uses exits) [] ∙ or_none (list_any test (exit_uses exits)))
  more_uses test (state ∷ finished) items exits =
      let first : Bool = list_any test (item_uses state.0 containers) in
      let second : Bool = list_any test (exit_uses state.1) in
      let last : Bool = list_any test (item_uses items containers) || list_any test (exit_uses exits) in
      list_any-append test (item_uses state.0 containers) (exit_uses state.1 ++ state_uses (states_listed (finished ++ (items, exits) ∷ [])) containers)
      ∙ ap (λ found. first || found)
      (list_any-append test (exit_uses state.1) (state_uses (states_listed (finished ++ (items, exits) ∷ [])) containers) ∙ ap (λ found. second || found) (more_uses test finished items exits)
      ∙ sym (or_assoc second (list_any test (state_uses (states_listed finished) containers)) last))
      ∙ sym (or_assoc first (second || list_any test (state_uses (states_listed finished) containers)) last)
      ∙ ap (λ found. found || last)
      (sym (list_any-append test (item_uses state.0 containers) (exit_uses state.1 ++ state_uses (states_listed finished) containers)
      ∙ ap (λ found. first || found) (list_any-append test (exit_uses state.1) (state_uses (states_listed finished) containers))))

-- the end of a loop reads nothing
nothing_read : (end : Expression) → IsAffine end → (access : Access) (wanted : Name) → is_among [] wanted ≡ is_among (chosen access ([] ++ elements_in end) []) wanted
nothing_read end affine Read wanted = sym (affine_reads end wanted affine)
nothing_read end affine Write wanted = refl

all_last : (P : List Node → Type 0) (made : List (List Node)) (nodes : List Node) → AllByRecursion P (made ++ nodes ∷ []) → AllByRecursion P made × P nodes
all_last P made nodes all = (all_first P made (nodes ∷ []) all, (all_second P made (nodes ∷ []) all).0)

module _ (most : ℕ) (above : List FunctionTree) (graphs : Name → GraphTree) (functions : Functions) (callees : AreCallees most above graphs functions) (Is : Entry → Type 0)
    (apart : (entry other : Entry) → Is entry → Is other → AreApart entry other) (all : Containers) (level : List Entry) (names : List Name) (own : IsOwn name_of number_of level (own_of_state all) names)
    (has_level : AllByRecursion Is level) (arguments : List Name) (first : ℕ) where
  -- an argument of the program, all of which stand before this number
  pub record IsArgument (entry : Entry) : Type 0 where
    pub is : Is entry
    pub dimensions : ℕ
    pub array : entry.holder ≡ of_dimensions dimensions
    pub before : entry.number < first
    pub argument : is_among arguments entry.name ≡ true

  -- the states that are made have these nodes, and read and write these arguments
  pub record Good (made : List (List Node)) (known : Access → List Name) (t : Threaded) : Type 0 where
    pub total : nodes_in_states (states_listed t.finished) all + (length (nodes_of all t.items) + nested_in_all t.items) ≡ count_in_all functions.counts made
    pub few : AllByRecursion (λ nodes. count_of [] nodes ≤ most) made → HaveFew most (states_listed t.finished) all × ((length (nodes_of all t.items) ≤ most) × AreFew most t.items)
    pub does : (access : Access) (entry : Entry) → IsArgument entry →
        (has_access (drawn_as access) (state_uses (states_listed t.finished) all) entry.number || has_access (drawn_as access) (item_uses t.items all) entry.number) ≡ is_among (known access) entry.name
    pub taken : (entry : Entry) → IsArgument entry → (takes (state_uses (states_listed t.finished) all) entry.number || takes (item_uses t.items all) entry.number) ≡ false

  pub nothing_good : Good [] (λ access. []) (record { finished = []; items = no_item })
  nothing_good = record {
    total = omega arith;
    few = λ small. (tt, (omega arith, tt));
    does = λ access entry is. refl;
    taken = λ entry is. refl;
  }

  -- arguments that are noted
  noted_argument : (known more : List Name) (entry : Entry) → IsArgument entry → is_among (noted_own arguments known more) entry.name ≡ (is_among known entry.name || is_among more entry.name)
  noted_argument known more entry is =
      among_own arguments known more entry.name
      ∙ ap (λ found. is_among known entry.name || found) (ap (λ own. is_among more entry.name && own) is.argument ∙ and_true (is_among more entry.name))

  -- what transitions read
  pub record Asks (exits : List ExitTree) (more : Access → List Name) : Type 0 where
    pub does : (access : Access) (entry : Entry) → IsArgument entry → has_access (drawn_as access) (exit_uses exits) entry.number ≡ is_among (more access) entry.name
    pub taken : (entry : Entry) → IsArgument entry → takes (exit_uses exits) entry.number ≡ false

  -- the current state is finished
  pub closed_good : (t : Threaded) (exits : List ExitTree) (made : List (List Node)) (known more : Access → List Name) → Asks exits more → Good made known t →
      Good made (λ access. noted_own arguments (known access) (more access)) (closed t exits)
  closed_good t exits made known more asks good = record {
    total = omega (arith, more_nodes all t.finished t.items exits, good.total);
    few = λ small. (more_few all most t.finished t.items exits (good.few small).0 (good.few small).1.0 (good.few small).1.1, (omega arith, tt));
    does = λ access entry is.
        or_none _ ∙ more_uses all _ t.finished t.items exits
        ∙ sym (or_assoc (has_access (drawn_as access) (state_uses (states_listed t.finished) all) entry.number) (has_access (drawn_as access) (item_uses t.items all) entry.number) (has_access (drawn_as access) (exit_uses exits) entry.number))
        ∙ (λ i. good.does access entry is i || asks.does access entry is i)
        ∙ sym (noted_argument (known access) (more access) entry is);
    taken = λ entry is.
        or_none _ ∙ more_uses all _ t.finished t.items exits
        ∙ sym (or_assoc (takes (state_uses (states_listed t.finished) all) entry.number) (takes (item_uses t.items all) entry.number) (takes (exit_uses exits) entry.number))
        ∙ (λ i. good.taken entry is i || asks.taken entry is i);
  }

  asks_nothing : (exit : ExitTree) → exit.when ≡ None → Asks (exit ∷ []) (λ access. [])
  asks_nothing exit plain = record {
    does = λ access entry is. ap (λ when. has_access (drawn_as access) (guard_uses when ++ []) entry.number) plain;
    taken = λ entry is. ap (λ when. takes (guard_uses when ++ []) entry.number) plain;
  }

  -- a state without a condition behind it
  plainly_closed : (t : Threaded) (exit : ExitTree) (made : List (List Node)) (known : Access → List Name) → exit.when ≡ None → Good made known t → Good made known (closed t (exit ∷ []))
  plainly_closed t exit made known plain good = closed_good t (exit ∷ []) made known (λ access. []) (asks_nothing exit plain) good

  -- a condition
  asks_guard : (guard : GuardTree) (to : ℕ) (other : ExitTree) (expression : Expression) (place : Place) (table : Table) → guard.reads ≡ links_with table [] expression → other.when ≡ None →
      AreKnown Is place.containers table.containers → KnowsElements place.containers expression → (more : Access → List Name) →
      ((access : Access) (wanted : Name) → is_among (more access) wanted ≡ is_among (chosen access (elements_in expression) []) wanted) → Asks (if_holds guard to ∷ other ∷ []) more
  asks_guard guard to other expression place table reads plain are knows more same = record {
    does = λ access entry is.
        ap (λ when. has_access (drawn_as access) (guard_uses (if_holds guard to).when ++ (guard_uses when ++ [])) entry.number) plain
        ∙ list_any-append _ (guard_uses (if_holds guard to).when) [] ∙ or_none _ ∙ one access entry is ∙ sym (same access entry.name);
    taken = λ entry is.
        ap (λ when. takes (guard_uses (if_holds guard to).when ++ (guard_uses when ++ [])) entry.number) plain
        ∙ list_any-append _ (guard_uses (if_holds guard to).when) [] ∙ or_none _ ∙ reads_take guard.reads entry.number;
  }
    where
      one : (access : Access) (entry : Entry) → IsArgument entry → has_access (drawn_as access) (guard_uses (if_holds guard to).when) entry.number ≡ is_among (chosen access (elements_in expression) []) entry.name
      one Read entry is =
          reads_read guard.reads entry.number ∙ ap (λ links. has_link links entry.number) reads ∙ elements_same Is apart table entry is.is place.containers are [] expression knows
      one Write entry is = reads_write guard.reads entry.number

  -- where the block of a program stands
  pub record Here (at : Standing) (place : Place) : Type 0 where
    pub around : place.around ≡ program
    pub of : place.programs ≡ above
    pub known : AreKnown Is place.containers at.table.containers
    pub behind : first ≤ at.container

  here_past : (statement : StatementTree) (at : Standing) (place : Place) → Here at place → EveryAt Fit place statement → AllByRecursion Is (entries_of statement at.container) → Here (behind statement at) (past statement place)
  here_past statement at place here fit has = record {
    around = here.around;
    of = here.of;
    known = known_past Is statement at.table at.container place here.around has (placed_at place statement fit) here.known;
    behind = omega (arith, here.behind);
  }

  here_past_all : (block : Block) (at : Standing) (place : Place) → Here at place → EveryFrom Fit place block → AllByRecursion Is (entries_in block at.container) → Here (behind_all block at) (past_all block place)
  here_past_all block at place here fit has = record {
    around = here.around;
    of = here.of;
    known = all_known_past Is block at.table at.container place here.around has (placed_from place block fit) here.known;
    behind = omega (arith, here.behind);
  }

  one_on : (at : Standing) (place : Place) → Here at place → Here (state_behind at) place
  one_on at place here = record { around = here.around; of = here.of; known = here.known; behind = here.behind }

  in_while : (at : Standing) (place : Place) → Here at place → Here (state_behind (state_behind at)) (in_loop place)
  in_while at place here = record { around = here.around; of = here.of; known = here.known; behind = here.behind }

  in_for : (name : Name) (at : Standing) (place : Place) → Here at place → Here (in_its_loop name at) (in_loop place)
  in_for name at place here = record { around = here.around; of = here.of; known = here.known; behind = here.behind }

  -- a state with one item
  holding_good : (statement : StatementTree) (at : Standing) (place : Place) (t : Threaded) (made : List (List Node)) (known : Access → List Name) → Here at place → EveryAt Fit place statement →
      AllByRecursion Is (entries_of statement at.container) → IsClear level statement at.container → Good made known t →
      Good (made ++ state_nodes functions.parameters names statement ∷ []) (λ access. with_mentioned arguments access (known access) (item_of functions.parameters false statement))
      (holding (closed t (plainly at.state ∷ [])) (items_with graphs statement false at.table at.container at.variable no_item))
  holding_good statement at place t made known here fit has clear good =
      let item : Item = item_of functions.parameters false statement in
      let new : ItemTrees = items_with graphs statement false at.table at.container at.variable no_item in
      let one : source.Items = source.and_item item source.no_item in
      let before : Good made known (closed t (plainly at.state ∷ [])) = plainly_closed t (plainly at.state) made known refl good in
      let agree : AllAgree most above graphs functions callees Is apart all new one at.container (containers_in statement + 0) (λ level. IsClear level statement at.container × ⊤) =
      statement_agrees most above graphs functions callees Is apart all statement false at.table at.container at.variable place no_item source.no_item no_statement here.around here.of here.known fit has
      (none_agree most above graphs functions callees Is apart all (at.container + containers_in statement)) in
      let same : drawn.list_nodes new all (own_of_state all) [] ≡ counted.list_nodes names [] one = agree.nodes level (own_of_state all) names own has_level (clear, tt) [] [] (none_current level) in
      let outside : (entry : Entry) → IsArgument entry → IsOutside at.container (containers_in statement + 0) entry = λ entry is least less. omega (arith, is.before, here.behind, least) in
      record {
        total = omega (
          arith,
          before.total,
          all_counted made (state_nodes functions.parameters names statement),
          items_counted functions.counts names [] [] one,
          nodes_counted all new,
          same,
          agree.inner,
        );
        few = λ small.
            let both : AllByRecursion (λ nodes. count_of [] nodes ≤ most) made × (count_of [] (state_nodes functions.parameters names statement) ≤ most) = all_last _ made (state_nodes functions.parameters names statement) small in
            ((before.few both.0).0, (omega (arith, both.1, items_counted [] names [] [] one, nodes_counted all new, same), agree.few));
        does = λ access entry is.
            (λ i. (sym (or_none (has_access (drawn_as access) (state_uses (states_listed (closed t (plainly at.state ∷ [])).finished) all) entry.number)) ∙ before.does access entry is) i
            || (agree.does access entry is.is (outside entry is) ∙ list_any-append _ (names_in access item) [] ∙ or_none (is_among (names_in access item) entry.name)) i)
            ∙ sym (ap (λ names. is_among names entry.name) (mentioned_names arguments access (known access) item) ∙ noted_argument (known access) (names_in access item) entry is);
        taken = λ entry is.
            (λ i. (sym (or_none (takes (state_uses (states_listed (closed t (plainly at.state ∷ [])).finished) all) entry.number)) ∙ before.taken entry is) i || agree.taken entry is.dimensions is.is is.array (outside entry is) i);
      }
    where
      all_counted : (made : List (List Node)) (nodes : List Node) → count_in_all functions.counts (made ++ nodes ∷ []) ≡ count_in_all functions.counts made + count_of functions.counts nodes
      all_counted [] nodes = omega arith
      all_counted (one ∷ made) nodes = omega (arith, all_counted made nodes)

  -- the same with another state next
  abbrev in_state : ℕ → Standing → Standing
  in_state next at = record { state = next; container = at.container; variable = at.variable; table = at.table }

  -- behind the first block of an `if`
  else_good : (other : Block) (at : Standing) (place : Place) (t : Threaded) (made : List (List Node)) (known : Access → List Name) → Here at place → Good made known t →
      ((next : ℕ) (t : Threaded) → Here (in_state next at) place → Good made known t →
      Good (with_all_states functions.parameters names made other) (λ access. with_all_used functions.parameters arguments access (known access) other) (threaded_all graphs other (in_state next at) t)) →
      Good (with_all_states functions.parameters names made other) (λ access. with_all_used functions.parameters arguments access (known access) other)
      (closed (threaded_all graphs other (in_else other at) (else_begun other at t)) (plainly (join_of other at) ∷ []))
  else_good no_statement at place t made known here good of_block = plainly_closed t _ made known refl good
  else_good (and_statement first rest) at place t made known here good of_block =
      plainly_closed (threaded_all graphs (and_statement first rest) (state_behind at) (closed t (plainly (join_of (and_statement first rest) at) ∷ []))) _ _ _ refl
      (of_block (at.state + 1) (closed t (plainly (join_of (and_statement first rest) at) ∷ [])) (one_on at place here) (plainly_closed t _ made known refl good))

  mutual
    statement_good : (statement : StatementTree) (at : Standing) (place : Place) (t : Threaded) (made : List (List Node)) (known : Access → List Name) → Here at place → EveryAt Fit place statement →
        AllByRecursion Is (entries_of statement at.container) → IsClear level statement at.container → Good made known t →
        Good (with_states functions.parameters names made statement) (λ access. with_used functions.parameters arguments access (known access) statement) (threaded graphs statement at t)
    statement_good (argument_array line name bits extents) at place t made known here fit has clear good = good
    statement_good (local_array line name extents bits) at place t made known here fit has clear good = good
    statement_good (local_stream line name bits size) at place t made known here fit has clear good = good
    statement_good (branch line when body other) at place t made known here fit has clear good =
        let inner : List Entry = entries_in body at.container in
        let others : List Entry = entries_in other (at.container + containers_in_all body) in
        let guard : GuardTree = guard_of at.table line when in
        let begun : Threaded = closed t (to_block guard body at) in
        let asked : Access → List Name = λ access. noted_own arguments (known access) (chosen access (elements_in when) []) in
        let begun_good : Good made asked begun =
        closed_good t (to_block guard body at) made known (λ access. chosen access (elements_in when) [])
        (asks_guard guard at.state _ when place at.table refl refl here.known fit.0.1.0 (λ access. chosen access (elements_in when) []) (λ access wanted. refl)) good in
        else_good other (behind_all body (state_behind at)) (past_all body place) (threaded_all graphs body (state_behind at) begun) (with_all_states functions.parameters names made body)
        (λ access. with_all_used functions.parameters arguments access (asked access) body) (here_past_all body (state_behind at) place (one_on at place here) fit.1.0 (all_first Is inner others has))
        (block_good body (state_behind at) place begun made asked (one_on at place here) fit.1.0 (all_first Is inner others has) clear.0 begun_good)
        (λ next t here good.
        block_good other (in_state next (behind_all body (state_behind at))) (past_all body place) t (with_all_states functions.parameters names made body) (λ access. with_all_used functions.parameters arguments access (asked access) body) here fit.1.1
        (all_second Is inner others has) clear.1 good)
    statement_good (while_loop line when body) at place t made known here fit has clear good =
        let guard : GuardTree = guard_of at.table line when in
        let first : Threaded = closed t (plainly at.state ∷ []) in
        let second : Threaded = closed first (to_block guard body (state_behind at)) in
        let asked : Access → List Name = λ access. noted_own arguments (known access) (chosen access (elements_in when) []) in
        let second_good : Good made asked second =
        closed_good first (to_block guard body (state_behind at)) made known (λ access. chosen access (elements_in when) [])
        (asks_guard guard _ _ when place at.table refl refl here.known fit.0.1.0 (λ access. chosen access (elements_in when) []) (λ access wanted. refl)) (plainly_closed t (plainly at.state) made known refl good) in
        plainly_closed (threaded_all graphs body (state_behind (state_behind at)) second) (back_to at.state []) _ _ refl
        (block_good body (state_behind (state_behind at)) (in_loop place) second made asked (in_while at place here) fit.1 has clear second_good)
    statement_good (for_loop line name begin end step body) at place t made known here fit has clear good =
        let inside : Standing = with_loop_variable name (state_behind at) in
        let guard : GuardTree = below inside.table line name end in
        let begins : ExitTree = setting at.state at.variable (affine_or affine_zero at.table.variables begin) in
        let first : Threaded = closed t (begins ∷ []) in
        let second : Threaded = closed first (to_block guard body inside) in
        let second_good : Good made known second =
        closed_good first (to_block guard body inside) made known (λ access. [])
        (asks_guard guard _ _ (two Less (named name) end) place inside.table refl refl here.known (tt, affine_knows place.containers end fit.0.1.1.1.1) (λ access. [])
        (λ access wanted. nothing_read end fit.0.1.1.1.1 access wanted)) (plainly_closed t begins made known refl good) in
        plainly_closed (threaded_all graphs body (in_its_loop name at) second) (back_to at.state ((at.variable, stepped_on at.variable step) ∷ [])) _ _ refl
        (block_good body (in_its_loop name at) (in_loop place) second made known (in_for name at place here) fit.1 has clear second_good)
    statement_good statement at place t made known here fit has clear good = holding_good statement at place t made known here fit has clear good

    pub block_good : (block : Block) (at : Standing) (place : Place) (t : Threaded) (made : List (List Node)) (known : Access → List Name) → Here at place → EveryFrom Fit place block →
        AllByRecursion Is (entries_in block at.container) → AreClear level block at.container → Good made known t →
        Good (with_all_states functions.parameters names made block) (λ access. with_all_used functions.parameters arguments access (known access) block) (threaded_all graphs block at t)
    block_good no_statement at place t made known here fit has clear good = good
    block_good (and_statement first rest) at place t made known here fit has clear good =
        let one : List Entry = entries_of first at.container in
        let others : List Entry = entries_in rest (at.container + containers_in first) in
        block_good rest (behind first at) (past first place) (threaded graphs first at t) (with_states functions.parameters names made first)
        (λ access. with_used functions.parameters arguments access (known access) first) (here_past first at place here fit.0 (all_first Is one others has)) fit.1 (all_second Is one others has) clear.1
        (statement_good first at place t made known here fit.0 (all_first Is one others has) clear.0 good)
