-- Each place of the graph of a program is told.
use Rattle.std.proofs.Common.{◌≡◌, ◌∙◌, inl, inr, ℕ, ◌+◌, ◌≤◌, List, [], ◌∷◌, ◌++◌, length, Option, Some, unwrap_or, Bool, true, false, cond, reverse, refl, ap, subst, arith, bytes_eq, zero-add}
use Rattle.std.proofs.lemmas.Grind.{reverse_onto}
use Rattle.std.specs.List.{AllByRecursion}
use Rattle.sd_num.specs.declared.width.Width.TheVariants.{W64}
use Rattle.sd_lex.specs.PlainTree.{StatementTree, argument_array, Block, no_statement, and_statement, FunctionTree, ProgramTree}
use Rattle.sd_graph.specs.PlainTree.{no_item, GraphTree}
use Rattle.sd_graph.specs.TreeParts.{containers_of}
use Rattle.sd_graph.specs.ContainerParts.{Containers}
use Rattle.sd_graph.specs.declared.container.Container.{Container}
use Rattle.sd_graph.specs.declared.container.ContainerKind.TheVariants.{Argument}
use Rattle.sd_program.specs.Names.{Name, Named, in_force}
use Rattle.sd_program.specs.Declared.{containers_in_all}
use Rattle.sd_program.specs.Place as place_of
use Rattle.sd_program.specs.Place.{Holder, of_dimensions, dimensions_of, signature, Place, past, in_signature, in_function, EveryAt, EveryFrom, EveryOfFunction, EveryFunction, EveryPlace}
use Rattle.sd_program.specs.Known.{StandsIn, IsPlaced}
use Rattle.sd_program.specs.DeclaredNames.{container_names}
use Rattle.sd_task.specs.in_force.Names.{with_numbered}
use Rattle.sd_task.specs.in_force.Ranges.{extents_of}
use Rattle.sd_elab.specs.items.Counts.{variables_in_all}
use Rattle.sd_elab.specs.items.Graphs.{no_graph, graph_named}
use Rattle.sd_task.specs.containers.Declarations.{variable_names_all, containers_with, containers_with_all}
use Rattle.sd_elab.specs.elab.Elaboration.{arguments_in_force, start_of, function_graph, graphs_with, latest, graph_of}
use Rattle.sd_made.proofs.elab_lemmas.ContainersMade.{holds_here, Begins, begins_itself, first_begins, counted, all_made}
use Rattle.sd_made.proofs.loops_shown_lemmas.FunctionShown.{function_shown, none_shown_first}
use Rattle.sd_validity.specs.rules.GraphParts.{variables_of, symbols_in}
use Rattle.sd_validity.specs.bound_places.Throughout.{Throughout}
use Rattle.sd_made.proofs.places_lemmas.Held.{AreHeld, none_held, one_more_held, AreVariables, numbered}
use Rattle.sd_made.proofs.places_lemmas.Variables.{all_names_longer}
use Rattle.sd_made.proofs.places_lemmas.Given.{so_at, so_from}
use Rattle.sd_made.proofs.places_lemmas.Made.{Fitting, IsWhole, IsItem, IsExit}
use Rattle.sd_made.proofs.places_lemmas.ItemsMade.{written_extents}
use Rattle.sd_made.proofs.places_lemmas.StatesMade.{whole_held, block_made}

-- ---- arguments

module _ (symbols : Named ℕ) (declared : List Name) (all : Containers) where
  arguments_held : (arguments : Block) (numbers : Named ℕ) (next : ℕ) (place : Place) (before : Containers) → place.around ≡ signature → length before ≡ next →
      Begins (containers_with_all symbols declared arguments false before) all → EveryFrom IsPlaced place arguments → AreHeld all [] place.containers numbers →
      AreHeld all [] (place_of.behind_all arguments place.containers) (arguments_in_force arguments next numbers)
  arguments_held no_statement numbers next place before around e begins placed are = are
  arguments_held (and_statement (argument_array line name bits extents) rest) numbers next place before around e begins placed are =
      let first : StatementTree = argument_array line name bits extents in
      let middle : Containers = containers_with symbols declared first false before in
      let entry : Name × Container = (name, record { extents = extents_of symbols extents; kind = Argument; width = W64 }) in
      let holder : Holder = of_dimensions (dimensions_of extents) in
      arguments_held rest ((name, next) ∷ numbers) (next + 1) (past first place) middle around
      (counted symbols declared first false place before placed.0 ∙ ap (λ number. number + 1) e) begins placed.1
      (one_more_held all [] place.containers numbers name holder next
      (whole_held all before entry next holder e (first_begins symbols declared rest false middle all begins) refl (refl, λ least. written_extents symbols extents)) are)
  arguments_held (and_statement statement rest) numbers next place before around e begins placed are = absurd (subst (λ kind. StandsIn kind statement) around (holds_here IsPlaced place statement placed.0))

-- ---- graphs

module _ (Given : Place → StatementTree → Type 0) (Is : List Name → FunctionTree → Type 0) (fits : (place : Place) (statement : StatementTree) → Given place statement → Fitting place statement) where
  abbrev pub IsTold : GraphTree → Type 0
  IsTold tree = Throughout (IsWhole Given Is) (IsExit Given Is) (IsItem Given Is) tree

  placed_at : (place : Place) (statement : StatementTree) → EveryAt Given place statement → EveryAt IsPlaced place statement
  placed_at = so_at Given IsPlaced (λ place statement given. (fits place statement given).placed)

  placed_from : (place : Place) (block : Block) → EveryFrom Given place block → EveryFrom IsPlaced place block
  placed_from = so_from Given IsPlaced (λ place statement given. (fits place statement given).placed)

  symbols_in_force : (symbols : List Name) (tree : GraphTree) (e : length symbols ≤ length (variables_of tree)) → symbols_in tree ≡ length symbols → AreVariables tree [] [] (with_numbered symbols 0 [])
  symbols_in_force symbols tree few same name number found = elim (numbered symbols 0 [] name number found) [
    | inl within ↦ (omega (arith, within.1, few), inl (omega (arith, within.1, same)))
    | inr earlier ↦ cc
  ]

  function_told : (symbols : List Name) (graphs : Name → GraphTree) → ((name : Name) → IsTold (graphs name)) → (above : List FunctionTree) (function : FunctionTree) → Is symbols function →
      EveryOfFunction Given above function → IsTold (function_graph symbols graphs function)
  function_told symbols graphs inner above function is given =
      let tree : GraphTree = function_graph symbols graphs function in
      let all : Containers = containers_of tree in
      let known : Named ℕ = with_numbered symbols 0 [] in
      let declared : List Name = container_names function in
      let passed : Containers = containers_with_all known declared function.arguments false [] in
      let placed : EveryFrom IsPlaced (in_signature above) function.arguments = placed_from (in_signature above) function.arguments given.0 in
      let few : length symbols + variables_in_all function.body ≤ length (variable_names_all function.body symbols) = omega (arith, all_names_longer function.body symbols) in (
        inr (record { symbols = symbols; graphs = graphs; function = function; made = refl; is = is }),
        block_made Given Is fits placed_at placed_from graphs known declared tree inner function.body (start_of symbols function) no_item [] 0 [] (in_function above function.arguments) passed
            (record {
              around = refl;
              next = refl;
              first = all_made known declared function.arguments false (in_signature above) [] placed ∙ zero-add (containers_in_all function.arguments);
              own = omega arith;
              stands = record {
                containers = arguments_held known declared all function.arguments [] 0 (in_signature above) [] refl refl
                    (first_begins known declared function.body false passed all (begins_itself all)) placed (none_held all []);
                variables = symbols_in_force symbols tree (omega (arith, few)) refl;
                all = refl;
              };
            })
            (begins_itself all) few given.1 (none_shown_first symbols graphs function (length (variable_names_all function.body symbols)))
            (function_shown symbols graphs function (length (variable_names_all function.body symbols)) few) tt (λ last e. tt),
      )

  abbrev AreTold : Named GraphTree → Type 0
  AreTold graphs = AllByRecursion (λ entry. IsTold entry.1) graphs

  none_told : IsTold no_graph
  none_told = (inl refl, tt)

  named_one : (found : Bool) (of : GraphTree) (others : Option GraphTree) → IsTold of → IsTold (unwrap_or others no_graph) → IsTold (unwrap_or (cond found (Some of) others) no_graph)
  named_one true of others told rest = told
  named_one false of others told rest = rest

  named_told : (graphs : Named GraphTree) → AreTold graphs → (name : Name) → IsTold (graph_named graphs name)
  named_told [] told name = none_told
  named_told (entry ∷ graphs) told name = named_one (bytes_eq name entry.0) entry.1 (in_force graphs name) told.0 (named_told graphs told.1 name)

  abbrev IsFounded : (symbols : List Name) → FunctionTree → Type 0
  IsFounded symbols function = Is symbols function × ((above : List FunctionTree) × EveryOfFunction Given above function)

  founded : (symbols : List Name) (functions : List FunctionTree) → AllByRecursion (Is symbols) functions → EveryFunction Given functions → AllByRecursion (IsFounded symbols) functions
  founded symbols [] is given = tt
  founded symbols (function ∷ above) is given = ((is.0, (above, given.0)), founded symbols above is.1 given.1)

  all_of_two : {A : Type 0} (P : A → Type 0) (first second : List A) → AllByRecursion P (first ++ second) → AllByRecursion P first × AllByRecursion P second
  all_of_two P [] second all = (tt, all)
  all_of_two P (member ∷ first) second all = ((all.0, (all_of_two P first second all.1).0), (all_of_two P first second all.1).1)

  all_turned : {A : Type 0} (P : A → Type 0) (members : List A) → AllByRecursion P (reverse members) → AllByRecursion P members
  all_turned P [] all = tt
  all_turned P (member ∷ members) all =
      let both : AllByRecursion P (reverse members) × AllByRecursion P (member ∷ []) =
      all_of_two P (reverse members) (member ∷ []) (subst (AllByRecursion P) (reverse_onto members member []) all) in
      (both.1.0, all_turned P members both.0)

  graphs_told : (symbols : List Name) (before : Named GraphTree) (functions : List FunctionTree) → AreTold before → AllByRecursion (IsFounded symbols) functions → AreTold (graphs_with symbols before functions)
  graphs_told symbols before [] told founds = told
  graphs_told symbols before (function ∷ functions) told founds =
      graphs_told symbols ((function.name, function_graph symbols (graph_named before) function) ∷ before) functions
      (function_told symbols (graph_named before) (named_told before told) founds.0.1.0 function founds.0.0 founds.0.1.1, told) founds.1

  latest_told : (graphs : Named GraphTree) → AreTold graphs → IsTold (latest graphs)
  latest_told [] told = none_told
  latest_told (entry ∷ graphs) told = told.0

  pub program_told : (source : ProgramTree) → AllByRecursion (Is source.symbols) (reverse source.functions) → EveryPlace Given source → IsTold (graph_of source)
  program_told source is given =
      latest_told (graphs_with source.symbols [] source.functions)
      (graphs_told source.symbols [] source.functions tt (all_turned (IsFounded source.symbols) source.functions (founded source.symbols (reverse source.functions) is given)))
