-- The graphs of a program have the nodes that its functions are counted to have.
use Rattle.std.proofs.Common.{◌≡◌, ◌∙◌, ℕ, suc, ◌+◌, ◌<◌, ◌≤◌, nat_lt, List, [], ◌∷◌, ◌++◌, map, length, Option, Some, None, unwrap_or, Bool, true, false, cond, not, ◌&&◌, if◌then◌else◌, bytes_eq, reverse, refl, ap, sym, subst, arith, append_assoc, append-nil, zero-add}
use Rattle.std.specs.Prelude.{⊤, is_some}
use Rattle.std.specs.List.{AllByRecursion, IsDistinct}
use Rattle.std.proofs.lemmas.Grind.{reverse_onto}
use Rattle.std.proofs.lemmas.Slice.Eq.{bytes_eq-Decides}
use Rattle.sd_lex.specs.PlainTree.{StatementTree, argument_array, Block, no_statement, and_statement, FunctionTree, ProgramTree}
use Rattle.sd_source.specs.nodes.Names.{is_among, found, put}
use Rattle.sd_source.specs.nodes.NodeLimits.{or_none as or_none_count, nested, count_of, count_in_all, line_over, states_over, lesser, any_state_over, graph_over, with_function, functions_over, node_limits}
use Rattle.sd_source.specs.nodes.SourceItems.{Parameters, parameters_by, is_for}
use Rattle.sd_source.specs.nodes.SourceNodes.{arguments_of, own_of, with_all_used, states_of, access_to, access_to_each, parameters_of}
use Rattle.sd_source.specs.declared.nodes.access.Access.{Access}
use Rattle.sd_source.specs.declared.nodes.access.Access.TheVariants.{Read, Write}
use Rattle.sd_source.specs.declared.nodes.functions.Functions.{Functions}
use Rattle.sd_source.specs.declared.nodes.node.Node.{Node}
use Rattle.sd_source.proofs.nodes_lemmas.KeptLemmas.{line_tells, states_tell}
use Rattle.sd_graph.specs.PlainTree.{no_item, GraphTree}
use Rattle.sd_graph.specs.TreeFold.{states_listed}
use Rattle.sd_graph.specs.TreeParts.{containers_of}
use Rattle.sd_graph.specs.ContainerParts.{Containers}
use Rattle.sd_graph.specs.Mode.{joined_mode}
use Rattle.sd_graph.proofs.Among.{OneOf}
use Rattle.sd_graph.specs.Wiring.{Use, has_number, modes_on, state_uses, graph_uses}
use Rattle.sd_wire.specs.declared.wiring.access.Access.TheVariants.{Reads, Writes}
use Rattle.sd_wire.specs.wiring.Mentioned.{has_access, is_mode_of, own_of_state}
use Rattle.sd_program.specs.Names.{Name, Named, in_force}
use Rattle.sd_program.specs.Bounds.{EachBound}
use Rattle.sd_program.specs.IsAffine.{IsAffine}
use Rattle.sd_program.specs.Calls.{argument_counts, IsCallable}
use Rattle.sd_program.specs.Declared.{containers_in_all}
use Rattle.sd_program.specs.DeclaredNames.{container_names}
use Rattle.sd_program.specs.Place as place_of
use Rattle.sd_program.specs.Place.{Holder, of_dimensions, dimensions_of, signature, Place, past, in_signature, in_function, EveryAt, EveryFrom, EveryOfFunction, EveryFunction, EveryPlace}
use Rattle.sd_program.specs.Known.{StandsIn, IsPlaced, IsKnown}
use Rattle.sd_program.specs.WellFormed.{IsWellFormed}
use Rattle.sd_task.specs.in_force.Names.{with_numbered}
use Rattle.sd_elab.specs.items.Graphs.{no_graph, graph_named}
use Rattle.sd_task.specs.containers.Declarations.{containers_with_all}
use Rattle.sd_elab.specs.states.Threaded.{Threaded, closed, threaded_all}
use Rattle.sd_elab.proofs.states_lemmas.ThreadedLemmas.{all_chained}
use Rattle.sd_elab.specs.elab.Elaboration.{arguments_in_force, start_of, states_of_function, function_graph, graphs_with, latest, graph_of}
use Rattle.sd_made.proofs.elab_lemmas.ContainersMade.{holds_here, all_made}
use Rattle.sd_validity.proofs.bound_places_lemmas.EachPlace.{all_joined}
use Rattle.sd_made.proofs.places_lemmas.Givens.{everywhere_at, both_places}
use Rattle.sd_made.proofs.counted_lemmas.Agreed.{NumbersDiffer, IsOwn, names_there}
use Rattle.sd_made.specs.nodes.FewNodes.{last_counted, nodes_counted}
use Rattle.sd_made.proofs.nodes_lemmas.Places.{nodes_in_states, nodes_in, HaveFew, HasFew}
use Rattle.sd_made.proofs.nodes_lemmas.Entries.{Entry, entry_of, name_of, number_of, entries_in, level_in, all_first, all_second, all_weaker, each_is_one, all_levels_hold, IsBetween, differ_joined, both_differ, function_names_told, names_differ, AreApart, one_or_apart}
use Rattle.sd_made.proofs.nodes_lemmas.Own.{map_joined, function_names, all_program_names, levels_between, all_levels_differ, level_names_differ, program_is_clear}
use Rattle.sd_made.proofs.nodes_lemmas.OwnOfStates.{all_program_own}
use Rattle.sd_made.proofs.nodes_lemmas.Known.{AreKnown, one_more_known, none_known}
use Rattle.sd_made.proofs.nodes_lemmas.Modes.{or_none, takes, joined_told, DoesAs, DoAs}
use Rattle.sd_made.proofs.nodes_lemmas.Items.{Fit, placed_from, IsCallee, AreCallees}
use Rattle.sd_made.proofs.nodes_lemmas.States.{IsArgument, Good, nothing_good, Here, closed_good, block_good}

-- ---- arguments

not_in_signature : (statement : StatementTree) (place : Place) → place.around ≡ signature → EveryAt IsPlaced place statement → StandsIn signature statement
not_in_signature statement place around placed = subst (λ kind. StandsIn kind statement) around (holds_here IsPlaced place statement placed)

module _ (Is : Entry → Type 0) where
  arguments_known : (arguments : Block) (numbers : Named ℕ) (next : ℕ) (place : Place) → place.around ≡ signature → AllByRecursion Is (entries_in arguments next) → EveryFrom IsPlaced place arguments →
      AreKnown Is place.containers numbers → AreKnown Is (place_of.behind_all arguments place.containers) (arguments_in_force arguments next numbers)
  arguments_known no_statement numbers next place around has placed are = are
  arguments_known (and_statement (argument_array line name bits extents) rest) numbers next place around has placed are =
      let first : StatementTree = argument_array line name bits extents in
      arguments_known rest ((name, next) ∷ numbers) (next + 1) (past first place) around has.1 placed.1 (one_more_known Is place.containers numbers name _ next has.0 are)
  arguments_known (and_statement statement rest) numbers next place around has placed are = absurd (not_in_signature statement place around placed.0)

accesses_counted : (reads writes : List Name) (arguments : Block) (place : Place) → place.around ≡ signature → EveryFrom IsPlaced place arguments → length (access_to_each reads writes arguments) ≡ containers_in_all arguments
accesses_counted reads writes no_statement place around placed = refl
accesses_counted reads writes (and_statement (argument_array line name bits extents) rest) place around placed =
    omega (arith, accesses_counted reads writes rest (past (argument_array line name bits extents) place) around placed.1)
accesses_counted reads writes (and_statement statement rest) place around placed = absurd (not_in_signature statement place around placed.0)

-- what is done with an argument, by what is read and what is written
access_told : (writes reads : Bool) → (is_for Write (if writes then Some Write else if reads then Some Read else None) ≡ writes) × (is_for Read (if writes then Some Write else if reads then Some Read else None) ≡ (reads && not writes))
access_told true true = (refl, refl)
access_told true false = (refl, refl)
access_told false true = (refl, refl)
access_told false false = (refl, refl)

module _ (uses : List Use) (reads writes : List Name) where
  -- an argument that nothing takes from is read and written as its name is
  abbrev IsDone : Entry → Type 0
  IsDone entry = (has_access Reads uses entry.number ≡ is_among reads entry.name) × ((has_access Writes uses entry.number ≡ is_among writes entry.name) × (takes uses entry.number ≡ false))

  one_done : (entry : Entry) → IsDone entry → DoesAs (access_to reads writes entry.name) (joined_mode (modes_on entry.number uses))
  one_done entry done =
      let told : (is_mode_of Writes (joined_mode (modes_on entry.number uses)) ≡ has_access Writes uses entry.number)
      × ((is_mode_of Reads (joined_mode (modes_on entry.number uses)) ≡ (has_access Reads uses entry.number && not (has_access Writes uses entry.number))) × _) = joined_told uses entry.number done.1.1 in (
        told.1.0 ∙ (λ i. done.0 i && not (done.1.0 i)) ∙ sym (access_told (is_among writes entry.name) (is_among reads entry.name)).1,
        (told.0 ∙ done.1.0 ∙ sym (access_told (is_among writes entry.name) (is_among reads entry.name)).0, told.1.1),
      )

  all_done : (arguments : Block) (next : ℕ) (place : Place) → place.around ≡ signature → EveryFrom IsPlaced place arguments → AllByRecursion IsDone (level_in arguments next) → DoAs uses next (access_to_each reads writes arguments)
  all_done no_statement next place around placed done = tt
  all_done (and_statement (argument_array line name bits extents) rest) next place around placed done =
      let first : StatementTree = argument_array line name bits extents in (
        one_done (entry_of name (of_dimensions (dimensions_of extents)) next) done.0,
        subst (λ number. DoAs uses number (access_to_each reads writes rest)) (sym (next_one next)) (all_done rest (next + 1) (past first place) around placed.1 done.1),
      )
    where
      next_one : (next : ℕ) → suc next ≡ next + 1
      next_one next = omega arith
  all_done (and_statement statement rest) next place around placed done = absurd (not_in_signature statement place around placed.0)

-- the entries of arguments are arrays
arrays_of : (P : Entry → Type 0) → ((entry : Entry) (dimensions : ℕ) → entry.holder ≡ of_dimensions dimensions → P entry) → (arguments : Block) (next : ℕ) (place : Place) → place.around ≡ signature →
    EveryFrom IsPlaced place arguments → AllByRecursion P (level_in arguments next)
arrays_of P holds no_statement next place around placed = tt
arrays_of P holds (and_statement (argument_array line name bits extents) rest) next place around placed =
    (holds (entry_of name (of_dimensions (dimensions_of extents)) next) (dimensions_of extents) refl, arrays_of P holds rest (next + 1) (past (argument_array line name bits extents) place) around placed.1)
arrays_of P holds (and_statement statement rest) next place around placed = absurd (not_in_signature statement place around placed.0)

all_both : {A : Type 0} (P Q R : A → Type 0) (members : List A) → ((member : A) → P member → Q member → R member) → AllByRecursion P members → AllByRecursion Q members → AllByRecursion R members
all_both P Q R [] so all others = tt
all_both P Q R (member ∷ members) so all others = (so member all.0 others.0, all_both P Q R members so all.1 others.1)

-- ---- functions

module _ (most : ℕ) (symbols : List Name) (above : List FunctionTree) (graphs : Name → GraphTree) (functions : Functions) (callees : AreCallees most above graphs functions) (function : FunctionTree)
    (fit : EveryOfFunction Fit above function) (distinct : IsDistinct bytes_eq (container_names function)) where
  abbrev tree : GraphTree
  tree = function_graph symbols graphs function

  abbrev all : Containers
  all = containers_of tree

  abbrev arguments : Block
  arguments = function.arguments

  abbrev first : ℕ
  first = containers_in_all arguments

  abbrev entries : List Entry
  entries = entries_in arguments 0 ++ entries_in function.body first

  abbrev Is : Entry → Type 0
  Is entry = OneOf (λ same. same ≡ entry) entries

  apart : (entry other : Entry) → Is entry → Is other → AreApart entry other
  apart entry other is is_other =
      one_or_apart entries entry other (both_differ arguments function.body) (names_differ entries (subst (IsDistinct bytes_eq) (function_names_told arguments function.body) distinct)) is is_other

  has_arguments : AllByRecursion Is (entries_in arguments 0)
  has_arguments = all_first Is (entries_in arguments 0) (entries_in function.body first) (each_is_one entries)

  has_body : AllByRecursion Is (entries_in function.body first)
  has_body = all_second Is (entries_in arguments 0) (entries_in function.body first) (each_is_one entries)

  placed : EveryFrom IsPlaced (in_signature above) arguments
  placed = placed_from (in_signature above) arguments fit.0

  body_placed : EveryFrom IsPlaced (in_function above arguments) function.body
  body_placed = placed_from (in_function above arguments) function.body fit.1

  abbrev known_symbols : Named ℕ
  known_symbols = with_numbered symbols 0 []

  abbrev passed : Containers
  passed = containers_with_all known_symbols (container_names function) arguments false []

  passed_counted : length passed ≡ first
  passed_counted = all_made known_symbols (container_names function) arguments false (in_signature above) [] placed ∙ zero-add first

  abbrev level : List Entry
  level = level_in arguments 0 ++ level_in function.body first

  has_level : AllByRecursion Is level
  has_level = all_joined Is (level_in arguments 0) (level_in function.body first) (all_levels_hold Is arguments 0 has_arguments) (all_levels_hold Is function.body first has_body)

  level_differs : NumbersDiffer name_of number_of level
  level_differs =
      differ_joined 0 first (first + containers_in_all function.body) (level_in arguments 0) (level_in function.body first) (below_first (levels_between arguments 0)) (levels_between function.body first)
      (all_levels_differ arguments 0) (all_levels_differ function.body first)
    where
      below_first : AllByRecursion (IsBetween 0 (0 + first)) (level_in arguments 0) → AllByRecursion (IsBetween 0 first) (level_in arguments 0)
      below_first all = all_weaker (IsBetween 0 (0 + first)) (IsBetween 0 first) (level_in arguments 0) (λ entry between. (between.0, omega (arith, between.1))) all

  numbers_told : own_of_state all ≡ map number_of level
  numbers_told =
      all_program_own known_symbols (container_names function) function.body passed first (in_function above arguments) passed_counted body_placed
      ∙ ap (λ (numbers : List ℕ). numbers ++ map number_of (level_in function.body first)) (all_program_own known_symbols (container_names function) arguments [] 0 (in_signature above) refl placed)
      ∙ sym (map_joined number_of (level_in arguments 0) (level_in function.body first))

  own : IsOwn name_of number_of level (own_of_state all) (own_of function)
  own = record {
    numbers = λ number. ap (λ (numbers : List ℕ). has_number numbers number) numbers_told;
    names = λ name. function_names arguments function.body name;
    numbers_differ = level_differs;
    names_differ = level_names_differ Is apart level has_level level_differs;
  }

  abbrev Argument : Entry → Type 0
  Argument entry = IsArgument most above graphs functions callees Is apart all level (own_of function) own has_level (arguments_of function) first entry

  abbrev made : Threaded
  made = closed (threaded_all graphs function.body (start_of symbols function) (record { finished = []; items = no_item })) []

  abbrev used : Access → List Name
  used access = with_all_used functions.parameters (arguments_of function) access [] function.body

  here : Here most above graphs functions callees Is apart all level (own_of function) own has_level (arguments_of function) first (start_of symbols function) (in_function above arguments)
  here = record {
    around = refl;
    of = refl;
    known = arguments_known Is arguments [] 0 (in_signature above) refl has_arguments placed (none_known Is);
    behind = omega arith;
  }

  good : Good most above graphs functions callees Is apart all level (own_of function) own has_level (arguments_of function) first (states_of functions.parameters function) used made
  good =
      closed_good most above graphs functions callees Is apart all level (own_of function) own has_level (arguments_of function) first
      (threaded_all graphs function.body (start_of symbols function) (record { finished = []; items = no_item })) [] (states_of functions.parameters function) used (λ access. [])
      (record { does = λ access entry is. refl; taken = λ entry is. refl })
      (block_good most above graphs functions callees Is apart all level (own_of function) own has_level (arguments_of function) first function.body (start_of symbols function) (in_function above arguments)
      (record { finished = []; items = no_item }) [] (λ access. []) here fit.1 has_body (program_is_clear arguments function.body)
      (nothing_good most above graphs functions callees Is apart all level (own_of function) own has_level (arguments_of function) first))

  states_told : made.finished ≡ states_of_function symbols graphs function
  states_told = all_chained graphs function.body (start_of symbols function) (record { finished = []; items = no_item }) []

  -- an argument is read and written as its name is
  arguments_done : AllByRecursion (IsDone (graph_uses tree) (used Read) (used Write)) (level_in arguments 0)
  arguments_done =
      let P : Entry → Type 0 = λ entry. Is entry × ((entry.number < first) × (is_among (arguments_of function) entry.name ≡ true)) in
      let all_arrays : AllByRecursion (λ entry. (dimensions : ℕ) × (entry.holder ≡ of_dimensions dimensions)) (level_in arguments 0) =
      arrays_of (λ entry. (dimensions : ℕ) × (entry.holder ≡ of_dimensions dimensions)) (λ entry dimensions array. (dimensions, array)) arguments 0 (in_signature above) refl placed in
      all_both P (λ entry. (dimensions : ℕ) × (entry.holder ≡ of_dimensions dimensions)) (IsDone (graph_uses tree) (used Read) (used Write)) (level_in arguments 0)
      (λ entry given array. done entry (record { is = given.0; dimensions = array.0; array = array.1; before = given.1.0; argument = given.1.1 }))
      (all_both Is (λ entry. (entry.number < first) × (is_among (arguments_of function) entry.name ≡ true)) P (level_in arguments 0) (λ entry is rest. (is, rest)) (all_levels_hold Is arguments 0 has_arguments)
      (all_both (IsBetween 0 (0 + first)) (λ entry. is_among (map name_of (level_in arguments 0)) entry.name ≡ true) (λ entry. (entry.number < first) × (is_among (arguments_of function) entry.name ≡ true)) (level_in arguments 0)
      (λ entry between named. (omega (arith, between.1), all_program_names arguments [] 0 entry.name ∙ named)) (levels_between arguments 0) (names_there name_of number_of (level_in arguments 0))))
      all_arrays
    where
      same_uses : state_uses (states_listed made.finished) all ≡ graph_uses tree
      same_uses = ap (λ states. state_uses (states_listed states) all) states_told

      done : (entry : Entry) → Argument entry → IsDone (graph_uses tree) (used Read) (used Write) entry
      done entry is = (
        ap (λ uses. has_access Reads uses entry.number) (sym same_uses) ∙ sym (or_none _) ∙ good.does Read entry is,
        (
          ap (λ uses. has_access Writes uses entry.number) (sym same_uses) ∙ sym (or_none _) ∙ good.does Write entry is,
          ap (λ uses. takes uses entry.number) (sym same_uses) ∙ sym (or_none _) ∙ good.taken entry is,
        ),
      )

  pub function_callee : AllByRecursion (λ nodes. count_of [] nodes ≤ most) (states_of functions.parameters function) →
      IsCallee most tree (parameters_of functions.parameters function) (count_in_all functions.counts (states_of functions.parameters function)) first
  function_callee small = record {
    counted = accesses_counted (used Read) (used Write) arguments (in_signature above) refl placed;
    there = omega (arith, all_made known_symbols (container_names function) function.body false (in_function above arguments) passed body_placed, passed_counted);
    does = all_done (graph_uses tree) (used Read) (used Write) arguments 0 (in_signature above) refl placed arguments_done;
    same = ap (λ states. nodes_in_states (states_listed states) all) (sym states_told) ∙ omega (arith, good.total);
    few = subst (λ states. HaveFew most (states_listed states) all) states_told (good.few small).0;
  }

-- ---- functions one after another

found_put : {A : Type 0} (entries : Named A) (name : Name) (a : A) (wanted : Name) → found (put entries name a) wanted ≡ cond (bytes_eq wanted name) (Some a) (found entries wanted)
found_put {A = A} [] name a wanted = refl
found_put {A = A} (entry ∷ entries) name a wanted = by (bytes_eq name entry.0) refl (found_put entries name a wanted)
  where
    both : (here there : Bool) → (there ≡ true → here ≡ true) → (here ≡ true → there ≡ true) → here ≡ there
    both true true so back = refl
    both true false so back = sym (back refl)
    both false true so back = so refl
    both false false so back = refl

    swapped : (one two : Bool) (first second rest : Option A) → (one ≡ true → two ≡ true → ⊥) → cond one first (cond two second rest) ≡ cond two second (cond one first rest)
    swapped true true first second rest never = absurd (never refl refl)
    swapped true false first second rest never = refl
    swapped false two first second rest never = refl

    by : (same : Bool) → bytes_eq name entry.0 ≡ same → found (put entries name a) wanted ≡ cond (bytes_eq wanted name) (Some a) (found entries wanted) →
        found (if same then (entry.0, a) ∷ entries else entry ∷ put entries name a) wanted ≡ cond (bytes_eq wanted name) (Some a) (cond (bytes_eq wanted entry.0) (Some entry.1) (found entries wanted))
    by true e rest =
        let same : name ≡ entry.0 = (bytes_eq-Decides name entry.0).0 e in
        ap (λ other. cond (bytes_eq wanted other) (Some a) (found entries wanted)) (sym same)
        ∙ twice (bytes_eq wanted name) (bytes_eq wanted entry.0) (ap (λ other. bytes_eq wanted other) same)
      where
        twice : (one two : Bool) → one ≡ two → cond one (Some a) (found entries wanted) ≡ cond one (Some a) (cond two (Some entry.1) (found entries wanted))
        twice true two e = refl
        twice false true e = cc
        twice false false e = refl
    by false e rest =
        ap (λ others. cond (bytes_eq wanted entry.0) (Some entry.1) others) rest
        ∙ swapped (bytes_eq wanted entry.0) (bytes_eq wanted name) (Some entry.1) (Some a) (found entries wanted)
        (λ first second.
        let same : name ≡ entry.0 = sym ((bytes_eq-Decides wanted name).0 second) ∙ (bytes_eq-Decides wanted entry.0).0 first in
        let there : bytes_eq name entry.0 ≡ true = (bytes_eq-Decides name entry.0).1 same in
        false_true (sym e ∙ there))
      where
        false_true : false ≡ true → ⊥
        false_true e = cc

module _ (most : ℕ) where
  -- what is found under a name
  found_callee : (same : Bool) (tree : GraphTree) (trees : Option GraphTree) (parameters : Parameters) (others : Option Parameters) (nodes : ℕ) (counts : Option ℕ) (own : ℕ) (known : Option ℕ) (count : ℕ) →
      IsCallee most tree parameters nodes own → (known ≡ Some count → IsCallee most (unwrap_or trees no_graph) (parameters_by others) (or_none_count counts) count) → cond same (Some own) known ≡ Some count →
      IsCallee most (unwrap_or (cond same (Some tree) trees) no_graph) (parameters_by (cond same (Some parameters) others)) (or_none_count (cond same (Some nodes) counts)) count
  found_callee true tree trees parameters others nodes counts own known count is rest e = subst (IsCallee most tree parameters nodes) (inside own count e) is
    where
      inside : (own count : ℕ) → Some own ≡ Some count → own ≡ count
      inside own count e = cc
  found_callee false tree trees parameters others nodes counts own known count is rest e = rest e

  one_more_callee : (symbols : List Name) (above : List FunctionTree) (graphs : Named GraphTree) (functions : Functions) (function : FunctionTree) (tree : GraphTree) →
      IsCallee most tree (parameters_of functions.parameters function) (count_in_all functions.counts (states_of functions.parameters function)) (containers_in_all function.arguments) →
      AreCallees most above (graph_named graphs) functions → AreCallees most (function ∷ above) (graph_named ((function.name, tree) ∷ graphs)) (with_function functions function)
  one_more_callee symbols above graphs functions function tree is callees name count e =
      let parameters : Parameters = parameters_of functions.parameters function in
      let nodes : ℕ = count_in_all functions.counts (states_of functions.parameters function) in
      subst (λ parameters. IsCallee most (graph_named ((function.name, tree) ∷ graphs) name) (parameters_by parameters) (nested (put functions.counts function.name nodes) (Some name)) count)
      (sym (found_put functions.parameters function.name parameters name))
      (subst (λ counts. IsCallee most (graph_named ((function.name, tree) ∷ graphs) name) (parameters_by (cond (bytes_eq name function.name) (Some parameters) (found functions.parameters name))) (or_none_count counts) count)
      (sym (found_put functions.counts function.name nodes name))
      (found_callee (bytes_eq name function.name) tree (in_force graphs name) parameters (found functions.parameters name) nodes (found functions.counts name) (containers_in_all function.arguments)
      (in_force (argument_counts above) name) count is (callees name count) e))

-- ---- limits

none_of_both : (first second : Option ℕ) → lesser first second ≡ None → (first ≡ None) × (second ≡ None)
none_of_both None None e = (refl, refl)
none_of_both None (Some line) e = cc
none_of_both (Some line) None e = cc
none_of_both (Some line) (Some other) e = cc

none_over : (limit count : ℕ) (line : Option ℕ) → nat_lt limit count ≡ is_some line → line ≡ None → count ≤ limit
none_over limit count line told none =
    let not_over : nat_lt limit count ≡ false = told ∙ ap is_some none in
    grind (arith, not_over)

states_small : (limit : ℕ) (states : List (List Node)) → any_state_over limit states ≡ None → AllByRecursion (λ nodes. count_of [] nodes ≤ limit) states
states_small limit [] none = tt
states_small limit (nodes ∷ states) none =
    let both : (line_over [] limit nodes ≡ None) × (any_state_over limit states ≡ None) = none_of_both (line_over [] limit nodes) (any_state_over limit states) none in
    (none_over limit (count_of [] nodes) (line_over [] limit nodes) (line_tells [] limit nodes) both.0, states_small limit states both.1)

-- of functions, each below those before it
abbrev AreFit : (above : List FunctionTree) → List FunctionTree → Type 0
AreFit above [] = ⊤
AreFit above (function ∷ functions) = EveryOfFunction Fit above function × AreFit (function ∷ above) functions

-- few nodes, as many in all as are counted
abbrev IsWithin : (count : ℕ) → GraphTree → Type 0
IsWithin count tree = HasFew 1024 tree × ((nodes_in tree ≤ 65536) × (nodes_in tree ≡ count))

all_within : (symbols : List Name) (above : List FunctionTree) (graphs : Named GraphTree) (last : ℕ) (before : Functions) (functions : List FunctionTree) → AreCallees 1024 above (graph_named graphs) before → IsWithin last (latest graphs) →
    AreFit above functions → AllByRecursion (λ function. IsDistinct bytes_eq (container_names function)) functions → functions_over node_limits before functions ≡ None →
    IsWithin (last_counted last before functions) (latest (graphs_with symbols graphs functions))
all_within symbols above graphs last before [] callees within fit distinct none = within
all_within symbols above graphs last before (function ∷ functions) callees within fit distinct none =
    let states : List (List Node) = states_of before.parameters function in
    let both : (graph_over node_limits before.counts states ≡ None) × (functions_over node_limits (with_function before function) functions ≡ None) =
    none_of_both (graph_over node_limits before.counts states) (functions_over node_limits (with_function before function) functions) none in
    let limits : (any_state_over 1024 states ≡ None) × (states_over before.counts 65536 states ≡ None) = none_of_both (any_state_over 1024 states) (states_over before.counts 65536 states) both.0 in
    let tree : GraphTree = function_graph symbols (graph_named graphs) function in
    let count : ℕ = count_in_all before.counts states in
    let is : IsCallee 1024 tree (parameters_of before.parameters function) count (containers_in_all function.arguments) =
    function_callee 1024 symbols above (graph_named graphs) before callees function fit.0 distinct.0 (states_small 1024 states limits.0) in
    all_within symbols (function ∷ above) ((function.name, tree) ∷ graphs) count (with_function before function) functions (one_more_callee 1024 symbols above graphs before function tree is callees)
    (is.few, (omega (arith, is.same, none_over 65536 count (states_over before.counts 65536 states) (states_tell before.counts 65536 states) limits.1), is.same)) fit.1 distinct.1 both.1

-- ---- programs

of_last : (first last : List FunctionTree) → EveryFunction Fit (first ++ last) → EveryFunction Fit last
of_last [] last fit = fit
of_last (function ∷ first) last fit = of_last first last fit.1

all_fit : (functions above : List FunctionTree) → EveryFunction Fit (reverse functions ++ above) → AreFit above functions
all_fit [] above fit = tt
all_fit (function ∷ functions) above fit =
    let order : reverse (function ∷ functions) ++ above ≡ reverse functions ++ function ∷ above =
    ap (λ turned. turned ++ above) (reverse_onto functions function []) ∙ append_assoc (reverse functions) (function ∷ []) above in
    let fit_on : EveryFunction Fit (reverse functions ++ function ∷ above) = subst (EveryFunction Fit) order fit in
    ((of_last (reverse functions) (function ∷ above) fit_on).0, all_fit functions (function ∷ above) fit_on)

abbrev IsCalledAffine : Place → StatementTree → Type 0
IsCalledAffine place statement = IsCallable place statement × EachBound IsAffine statement

abbrev IsKnownCalled : Place → StatementTree → Type 0
IsKnownCalled place statement = IsKnown place statement × IsCalledAffine place statement

no_callees : AreCallees 1024 [] (graph_named []) (record { parameters = []; counts = [] })
no_callees name count e = cc

-- the graph of a well-formed program has few nodes
pub program_within : (source : ProgramTree) → IsWellFormed source → IsWithin (nodes_counted source) (graph_of source)
program_within source well =
    let called : EveryPlace IsCalledAffine source =
    both_places IsCallable (λ place. EachBound IsAffine) IsCalledAffine (λ place statement one other. (one, other)) source well.calls (everywhere_at (EachBound IsAffine) source well.affine) in
    let known : EveryPlace IsKnownCalled source = both_places IsKnown IsCalledAffine IsKnownCalled (λ place statement one other. (one, other)) source well.known called in
    let fit : EveryPlace Fit source = both_places IsPlaced IsKnownCalled Fit (λ place statement one other. (one, other)) source well.placed known in
    all_within source.symbols [] [] 0 (record { parameters = []; counts = [] }) source.functions no_callees (tt, (omega arith, refl))
    (all_fit source.functions [] (subst (EveryFunction Fit) (sym (append-nil (reverse source.functions))) fit)) well.names well.nodes
