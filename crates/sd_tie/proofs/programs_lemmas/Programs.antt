-- What a program says is what its graph comes to.
use Rattle.std.proofs.Common.{◌≡◌, ◌∙◌, ℕ, ◌+◌, ◌≤◌, ℤ, pos, List, [], length, map, replicate, Some, false, refl, ap, arith, zero-add}
use Rattle.sd_lex.specs.PlainTree.{FunctionTree}
use Rattle.sd_work.specs.Memory.{Memories}
use Rattle.sd_work.specs.Exit.{Values}
use Rattle.sd_work.specs.Step.{Outcome, Done, Faulted, Spent}
use Rattle.sd_work.specs.BigStep.{Reached, Coming, and_then, big_step, big_states}
use Rattle.sd_graph.specs.PlainTree.{StateTrees, no_item, GraphTree}
use Rattle.sd_graph.specs.TreeFold.{PlainState, states_listed}
use Rattle.sd_graph.specs.TreeParts.{items_at, exits_at}
use Rattle.sd_graph.specs.LoopScope.{loops_in_force}
use Rattle.sd_graph.specs.Context.{Reach, own_reach}
use Rattle.sd_graph.specs.Unfold.{at_state}
use Rattle.sd_graph.specs.declared.place.Frame.{Frame}
use Rattle.sd_graph.specs.declared.place.Place as shown
use Rattle.sd_valid.specs.Limits.{states_containers}
use Rattle.sd_valid.specs.SizedWork.{sized_state, sized_exit}
use Rattle.sd_program.specs.Names.{Name, Named}
use Rattle.sd_program.specs.Declared.{containers_in_all, states_in_all}
use Rattle.sd_program.specs.Place.{in_signature, in_function, EveryFrom}
use Rattle.sd_program.specs.DeclaredNames.{container_names}
use Rattle.sd_task.specs.containers.Declarations.{Containers, variable_names_all, containers_with_all, containers_of_function}
use Rattle.sd_elab.specs.items.Counts.{variables_in_all}
use Rattle.sd_elab.specs.states.Standing.{Standing}
use Rattle.sd_elab.specs.elab.Elaboration.{start_of, states_of_function, function_graph}
use Rattle.sd_made.proofs.elab_lemmas.ContainersMade.{begins_itself, all_made}
use Rattle.sd_made.proofs.loops_shown_lemmas.FunctionShown.{function_shown, none_shown_first}
use Rattle.sd_says.specs.Declared.{declared_of}
use Rattle.sd_says.specs.Items.{Calls}
use Rattle.sd_says.specs.Says.{setting_of}
use Rattle.sd_says.proofs.ByLeaves.{says_function}
use Rattle.sd_tie.specs.items.Called.{IsCalled}
use Rattle.sd_tie.specs.items.CallsDo.{CallsDo}
use Rattle.sd_tie.specs.items.Follows.{Follows}
use Rattle.sd_tie.specs.items.Standing.{Fits, HaveElements}
use Rattle.sd_tie.proofs.items_lemmas.ItemsTied.{name_count_all}
use Rattle.sd_tie.specs.states.Course.{Goes, EndsAt}
use Rattle.sd_tie.specs.states.Made.{AreMade}
use Rattle.sd_tie.proofs.states_lemmas.Courses.{idle_by, last_ends}
use Rattle.sd_tie.proofs.states_lemmas.BlocksTied.{all_go}
use Rattle.sd_tie.proofs.made_lemmas.StatesFound.{has_all, all_begins, begin_items}
use Rattle.sd_tie.proofs.made_lemmas.MadeTied as made_tied
use Rattle.sd_tie.specs.programs.Programs.{symbols_of, values_of, IsFitting}
use Rattle.sd_tie.specs.items.Extents.{HasExtents, HaveExtents, HasExtentsThroughout}
use Rattle.sd_tie.proofs.programs_lemmas.Lists.{all_first, all_second}
use Rattle.sd_tie.proofs.programs_lemmas.CallsMade.{block_sized}
use Rattle.sd_tie.proofs.programs_lemmas.Fitting.{fits_from}
use Rattle.sd_tie.proofs.programs_lemmas.Sizes.{numbered}
use Rattle.sd_tie.proofs.programs_lemmas.Declaring.{AreAs, program_declared}
use Rattle.sd_tie.proofs.programs_lemmas.Elements.{all_elements_named}
use Rattle.sd_tie.proofs.programs_lemmas.Names.{names_stand, names_counted, all_elements_kept}
use Rattle.sd_tie.proofs.programs_lemmas.Beginning.{holds, begins_tied}

module _ (named : Named ℤ) (above : List FunctionTree) (graphs : Name → GraphTree) (function : FunctionTree) (fine : IsFitting above function) where
  abbrev pub tree : GraphTree
  tree = function_graph (symbols_of named) graphs function

  abbrev pub names : List Name
  names = variable_names_all function.body (symbols_of named)

  abbrev pub listed : List PlainState
  listed = states_of_function (symbols_of named) graphs function

  abbrev pub states : StateTrees
  states = states_listed listed

  abbrev start : Standing
  start = start_of (symbols_of named) function

  abbrev pub containers : Containers
  containers = containers_of_function (symbols_of named) function

  abbrev zeros : Values
  zeros = replicate (length names) (pos 0)

  pub alike : AreAs named containers (declared_of named function)
  alike = program_declared named function fine.affine.0 fine.affine.1

  -- ---- its containers

  given_first : length (containers_with_all (numbered named) (container_names function) function.arguments false []) ≡ containers_in_all function.arguments
  given_first = all_made (numbered named) (container_names function) function.arguments false (in_signature above) [] fine.placed.0 ∙ zero-add (containers_in_all function.arguments)

  pub containers_counted : length containers ≡ containers_in_all function.arguments + containers_in_all function.body
  containers_counted =
      all_made (numbered named) (container_names function) function.body false (in_function above function.arguments) (containers_with_all (numbered named) (container_names function) function.arguments false []) fine.placed.1
      ∙ ap (λ count. count + containers_in_all function.body) given_first

  elements : HaveElements containers function.body (containers_in_all function.arguments)
  elements = all_elements_named (numbered named) (container_names function) containers function.body false (containers_in_all function.arguments) (in_function above function.arguments)
      (containers_with_all (numbered named) (container_names function) function.arguments false []) given_first fine.placed.1 fine.plain.1 (begins_itself containers)

  -- ---- its states

  few_names : length (symbols_of named) + variables_in_all function.body ≤ length names
  few_names = omega (arith, names_counted function.body (symbols_of named), name_count_all function.body)

  made : (last : ℕ) × (last + 1 ≡ 1 + states_in_all function.body)
      × AreMade graphs states (loops_in_force states (length names)) function.body start.table start.container start.variable [] 0 last × (exits_at states last ≡ [])
  made = made_tied.all_made graphs states (loops_in_force states (length names)) function.body start no_item [] [] 0 (has_all listed)
      (function_shown (symbols_of named) graphs function (length names) few_names) refl

  idle : items_at states 0 ≡ no_item
  idle = begin_items states 1 no_item listed (all_begins graphs function.body start no_item []) (has_all listed) 0 refl

  module _ (sized : HasExtentsThroughout (values_of named) tree) where
    pub have : HaveExtents (values_of named) containers
    have = all_first (HasExtents (values_of named)) containers (states_containers states) sized

    fits : EveryFrom (Fits (IsCalled (values_of named) graphs above)) (in_function above function.arguments) function.body
    fits = fits_from (values_of named) graphs above function.body (in_function above function.arguments) refl fine.known.1 fine.placed.1 fine.callable.1
        (block_sized (values_of named) graphs states (loops_in_force states (length names)) (all_second (HasExtents (values_of named)) containers (states_containers states) sized)
        function.body start.table start.container start.variable [] 0 made.0 (in_function above function.arguments) refl fine.placed.1 made.2)
        fine.affine.1 fine.few.1 fine.joined.1

    module _ (calls : Calls) (calls_do : CallsDo (values_of named) graphs (IsCalled (values_of named) graphs above) calls) (reach : ℕ → Reach) (around : List Frame)
        (owns : (number : ℕ) → containers_in_all function.arguments ≤ number → reach number ≡ own_reach (holds named function alike have) number) where
      ends : (outcome : Outcome shown.Place Reached) (memories : Memories) (turns : ℕ) →
          Goes (values_of named) (holds named function alike have) names states reach around 0 made.0 (length (symbols_of named)) zeros memories turns outcome →
          EndsAt (values_of named) (holds named function alike have) names states reach around 0 zeros memories turns outcome
      ends (Done now) memories turns goes =
          goes.2 (Done now) (last_ends (values_of named) (holds named function alike have) names states reach around made.0 made.3 goes.0 now.memories now.turns)
      ends (Faulted fault) memories turns goes = goes
      ends Spent memories turns goes = goes

      -- the run of the graph over its memory
      abbrev pub run_parts : (most : ℕ) → Memories → (turns : ℕ) → Coming shown.Place
      run_parts most memories turns =
          and_then (big_step (sized_state (values_of named) states 0 (at_state (holds named function alike have) names states reach around 0 zeros)) most memories turns)
          (big_states most (λ state values. big_step (sized_state (values_of named) states state (at_state (holds named function alike have) names states reach around state values)) most)
          (λ state values. map (sized_exit (values_of named) (at_state (holds named function alike have) names states reach around state values)) (exits_at states state)) 0 zeros)

      pub program_follows : (most : ℕ) (memories : Memories) (turns : ℕ) (outcome : Outcome shown.Place Reached) → says_function named calls function reach around most memories turns ≡ Some outcome →
          Follows (λ most. run_parts most memories turns) outcome
      program_follows most memories turns outcome says =
          let goes = all_go (values_of named) graphs (IsCalled (values_of named) graphs above) calls (declared_of named function) calls_do (holds named function alike have) names states reach around
          (containers_in_all function.arguments) owns function.body most (in_function above function.arguments) (containers_in_all function.arguments) (length (symbols_of named)) [] 0 made.0
          start.table (setting_of named function reach around) zeros refl
          (record { stands = begins_tied named function alike have names states reach around zeros above fine.placed.0; loops_below = tt; own = omega arith })
          (names_stand function.body (symbols_of named)) (all_elements_kept (values_of named) containers function.body (containers_in_all function.arguments) elements) fits made.2
          (none_shown_first (symbols_of named) graphs function (length names)) memories turns outcome says in
          let ended = ends outcome memories turns goes in
          (ended.0, λ more. idle_by (values_of named) (holds named function alike have) names states reach around 0 idle zeros memories turns (ended.0 + more) (ended.0 + more) ∙ ended.1 more more)
