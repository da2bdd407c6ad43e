-- What a call of a program says is what its graph comes to, and so for a source.
use Rattle.std.proofs.Common.{◌≡◌, ◌∙◌, inl, inr, ℕ, suc, ◌+◌, ◌<◌, ◌≤◌, ℤ, List, [], ◌∷◌, length, Option, Some, None, unwrap_or, Bool, true, false, cond, if◌then◌else◌, bytes_eq, refl, ap, sym, subst, arith}
use Rattle.sd_lex.specs.PlainTree.{Dimension, FunctionTree}
use Rattle.sd_work.specs.Memory.{Memory, Memories}
use Rattle.sd_work.specs.Step.{Outcome}
use Rattle.sd_work.specs.Run.{Left}
use Rattle.sd_work.specs.BigStep.{Reached, Coming, leaving, big_step}
use Rattle.sd_work.specs.BigRun.{left_by, big_run}
use Rattle.sd_graph.specs.PlainTree.{GraphTree}
use Rattle.sd_graph.specs.TreeParts.{containers_of}
use Rattle.sd_graph.specs.ContainerParts.{Containers, container_at, is_argument}
use Rattle.sd_graph.specs.Context.{Reach, own_reach, raised}
use Rattle.sd_graph.specs.Unfold.{run_memory}
use Rattle.sd_graph.specs.declared.place.Frame.{Frame}
use Rattle.sd_graph.specs.declared.place.Place as shown
use Rattle.sd_valid.specs.SizedWork.{sized_graph, sized_run}
use Rattle.sd_program.specs.Names.{Name, Named, in_force}
use Rattle.sd_program.specs.Calls.{argument_counts}
use Rattle.sd_program.specs.Declared.{containers_in_all}
use Rattle.sd_program.specs.DeclaredNames.{container_names}
use Rattle.sd_program.specs.Place.{Place, in_signature}
use Rattle.sd_task.specs.containers.Declarations.{containers_with_all}
use Rattle.sd_elab.specs.items.Graphs.{no_graph, graph_named}
use Rattle.sd_elab.specs.elab.Elaboration.{function_graph}
use Rattle.sd_made.proofs.elab_lemmas.ContainersMade.{begins_itself, first_begins}
use Rattle.sd_made.proofs.elab_lemmas.StateRanges.{split}
use Rattle.sd_says.specs.Held as held
use Rattle.sd_says.specs.Declared as declared
use Rattle.sd_says.specs.Declared.{declared_of}
use Rattle.sd_says.specs.Parts.{Part, view_of}
use Rattle.sd_says.specs.Items.{Calls}
use Rattle.sd_says.specs.Says.{shape_at, argument_reach, reach_passed, says_last}
use Rattle.sd_says.proofs.ByLeaves as leaves
use Rattle.sd_says.proofs.ByLeaves.{says_function, says_call}
use Rattle.sd_says.proofs.Same.{last-same}
use Rattle.sd_tie.specs.items.Passed.{through, passed_reach}
use Rattle.sd_tie.specs.items.Follows.{Follows}
use Rattle.sd_tie.specs.items.Called.{IsCalled}
use Rattle.sd_tie.specs.items.CallsDo.{CallFollows, CallsDo}
use Rattle.sd_tie.proofs.items_lemmas.Following.{follows-leaving}
use Rattle.sd_tie.proofs.items_lemmas.Memories.{run_memory_tied}
use Rattle.sd_tie.specs.programs.Programs.{symbols_of, values_of, IsFitting, AreFitting, graphs_latest, source_graph}
use Rattle.sd_tie.specs.items.Extents.{HasExtentsThroughout}
use Rattle.sd_tie.proofs.programs_lemmas.Lists.{nothing_past, something_there}
use Rattle.sd_tie.proofs.programs_lemmas.Sizes.{numbered}
use Rattle.sd_tie.proofs.programs_lemmas.Names.{argument_there}
use Rattle.sd_tie.proofs.programs_lemmas.Beginning.{holds, declared_all, extents_shape, kind_kept, own_said}
use Rattle.sd_tie.proofs.programs_lemmas.Programs.{tree, alike, have, containers, containers_counted, run_parts, program_follows}

same_if : {A : Type 0} (b : Bool) (one : A) → (if b then one else one) ≡ one
same_if true one = refl
same_if false one = refl

module _ (named : Named ℤ) (above : List FunctionTree) (graphs : Name → GraphTree) (calls : Calls) (calls_do : CallsDo (values_of named) graphs (IsCalled (values_of named) graphs above) calls)
    (function : FunctionTree) (fine : IsFitting above function) (sized : HasExtentsThroughout (values_of named) (tree named above graphs function fine)) where
  abbrev count : ℕ
  count = containers_in_all function.arguments

  abbrev inner : Containers
  inner = holds named function (alike named above graphs function fine) (have named above graphs function fine sized)

  -- ---- a call

  module _ (parts : List Part) (many : length parts ≡ count) where
    passed_none : (number : ℕ) → count ≤ number → passed_reach inner parts number ≡ own_reach inner number
    passed_none number past =
        ap (λ part. if is_argument (container_at inner number).kind then through inner number part else own_reach inner number) (nothing_past parts number (omega (arith, past, many)))
        ∙ same_if (is_argument (container_at inner number).kind) (own_reach inner number)

    is_given : (number : ℕ) → number < count → is_argument (container_at inner number).kind ≡ true
    is_given number below =
        ap is_argument (kind_kept named function (alike named above graphs function fine) (have named above graphs function fine sized) number)
        ∙ argument_there (numbered named) (container_names function) (containers named above graphs function fine) function.arguments (in_signature above) [] number refl fine.placed.0
        (first_begins (numbered named) (container_names function) function.body false (containers_with_all (numbered named) (container_names function) function.arguments false []) (containers named above graphs function fine)
        (begins_itself (containers named above graphs function fine))) (omega arith) (omega (arith, below))

    passed_tied : (number : ℕ) → reach_passed (declared_of named function) parts number ≡ passed_reach inner parts number
    passed_tied number = elim (split number count) [
      | inl below ↦ (let there = something_there parts number (omega (arith, below, many)) in
          ap (argument_reach (shape_at (declared_of named function) number) number) there.1
          ∙ (λ i. raised (view_of there.0 (extents_shape named function (alike named above graphs function fine) (have named above graphs function fine sized) number i)))
          ∙ sym (ap (λ part. if is_argument (container_at inner number).kind then through inner number part else own_reach inner number) there.1
          ∙ ap (λ (b : Bool). if b then through inner number (Some there.0) else own_reach inner number) (is_given number below)))
      | inr past ↦ ap (argument_reach (shape_at (declared_of named function) number) number) (nothing_past parts number (omega (arith, past, many)))
          ∙ own_said named function (alike named above graphs function fine) (have named above graphs function fine sized) number ∙ sym (passed_none number past)
    ]

    pub call_follows : (around : List Frame) (most : ℕ) (memories : Memories) (turns : ℕ) (outcome : Outcome shown.Place Reached) →
        leaving (says_function named calls function (reach_passed (declared_of named function) parts) around most (declared.run_memory (declared_of named function) ∷ memories) turns) ≡ Some outcome →
        Follows (λ most. big_step (sized_graph (values_of named) (tree named above graphs function fine) (passed_reach inner parts) (run_memory inner) around) most memories turns) outcome
    call_follows around most memories turns outcome says =
        follows-leaving (λ most. run_parts named above graphs function fine sized calls calls_do (passed_reach inner parts) around passed_none most (run_memory inner ∷ memories) turns)
        (says_function named calls function (passed_reach inner parts) around most (run_memory inner ∷ memories) turns)
        (program_follows named above graphs function fine sized calls calls_do (passed_reach inner parts) around passed_none most (run_memory inner ∷ memories) turns) outcome
        (subst (λ memory. leaving (says_function named calls function (passed_reach inner parts) around most (memory ∷ memories) turns) ≡ Some outcome)
        (ap declared.run_memory (declared_all named function (alike named above graphs function fine) (have named above graphs function fine sized)) ∙ sym (run_memory_tied (values_of named) (containers named above graphs function fine)))
        (subst (λ reach. leaving (says_function named calls function reach around most (declared.run_memory (declared_of named function) ∷ memories) turns) ≡ Some outcome) (λ i number. passed_tied number i) says))

  -- ---- a source of which it is the last program

  pub last_follows : (most : ℕ) (memory : Memory) (turns : ℕ) (outcome : Outcome shown.Place Left) →
      left_by (says_function named calls function (λ number. held.own_reach (shape_at (declared_of named function) number) number) [] most (memory ∷ []) turns) ≡ Some outcome →
      (least : ℕ) × ((more : ℕ) → big_run (sized_run (values_of named) (tree named above graphs function fine) memory) (least + more) turns ≡ Some outcome)
  last_follows most memory turns outcome says =
      left_follows (says_function named calls function (own_reach inner) [] most (memory ∷ []) turns)
      (program_follows named above graphs function fine sized calls calls_do (own_reach inner) [] (λ number past. refl) most (memory ∷ []) turns)
      (subst (λ (reach : ℕ → Reach). left_by (says_function named calls function reach [] most (memory ∷ []) turns) ≡ Some outcome)
      (λ i number. own_said named function (alike named above graphs function fine) (have named above graphs function fine sized) number i) says)
    where
      left_follows : (said : Coming shown.Place) →
          ((outcome : Outcome shown.Place Reached) → said ≡ Some outcome → Follows (λ most. run_parts named above graphs function fine sized calls calls_do (own_reach inner) [] (λ number past. refl) most (memory ∷ []) turns) outcome) →
          left_by said ≡ Some outcome → (least : ℕ) × ((more : ℕ) → big_run (sized_run (values_of named) (tree named above graphs function fine) memory) (least + more) turns ≡ Some outcome)
      left_follows None follow e = cc
      left_follows (Some reached) follow e = (let found = follow reached refl in (found.0, λ more. ap left_by (found.1 more) ∙ e))

-- ---- calls of several programs

module _ (named : Named ℤ) where
  abbrev graphs_of : List FunctionTree → Name → GraphTree
  graphs_of functions = graph_named (graphs_latest (symbols_of named) functions)

  abbrev AllDo : List FunctionTree → Type 0
  AllDo functions = CallsDo (values_of named) (graphs_of functions) (IsCalled (values_of named) (graphs_of functions) functions) (says_call named functions)

  -- the graph of a name, which is that of the newest program or not, and what a call of it does
  module _ (function : FunctionTree) (above : List FunctionTree) (name : Name) where
    abbrev found : Bool → GraphTree
    found is = unwrap_or (cond is (Some (function_graph (symbols_of named) (graphs_of above) function)) (in_force (graphs_latest (symbols_of named) above) name)) no_graph

    abbrev told : Bool → List Part → List Frame → (most : ℕ) → Memories → ℕ → Coming shown.Place
    told is parts around most memories turns =
        cond is
        (leaving (says_function named (says_call named above) function (reach_passed (declared_of named function) parts) around most (declared.run_memory (declared_of named function) ∷ memories) turns))
        (says_call named above name parts around most memories turns)

    either_does : IsFitting above function → AllDo above → (place : Place) (line : ℕ) (arguments : List (Name × List Dimension)) (is : Bool) →
        cond is (Some (containers_in_all function.arguments)) (in_force (argument_counts above) name) ≡ Some (length arguments) → HasExtentsThroughout (values_of named) (found is) →
        (length arguments ≤ length (containers_of (found is))) × CallFollows (values_of named) (found is) (told is) (length arguments)
    either_does fine does place line arguments true counted sized =
        let many : containers_in_all function.arguments ≡ length arguments = ap (λ (of : Option ℕ). unwrap_or of 0) counted in (
          omega (arith, many, containers_counted named above (graphs_of above) function fine),
          λ parts are around most memories turns outcome says.
              call_follows named above (graphs_of above) (says_call named above) does function fine sized parts (are ∙ sym many) around most memories turns outcome says,
        )
    either_does fine does place line arguments false counted sized = does place line name arguments (counted, sized)

  latest_does : (function : FunctionTree) (above : List FunctionTree) → IsFitting above function → AllDo above → AllDo (function ∷ above)
  latest_does function above fine does place line name arguments (callable, sized) = either_does function above name fine does place line arguments (bytes_eq name function.name) callable sized

  none_do : AllDo []
  none_do place line name arguments (callable, sized) = cc

  pub calls_do : (functions : List FunctionTree) → AreFitting functions → AllDo functions
  calls_do [] fine = none_do
  calls_do (function ∷ above) fine = latest_does function above fine.0 (calls_do above fine.1)

  -- ---- a source

  leaves_follow : (functions : List FunctionTree) → AreFitting functions → HasExtentsThroughout (values_of named) (source_graph named functions) → (most : ℕ) (memory : Memory) (turns : ℕ) (outcome : Outcome shown.Place Left) →
      left_by (leaves.says_last named functions most (memory ∷ []) turns) ≡ Some outcome →
      (least : ℕ) × ((more : ℕ) → big_run (sized_run (values_of named) (source_graph named functions) memory) (least + more) turns ≡ Some outcome)
  leaves_follow [] fine sized most memory turns outcome says = (1, λ more. ap (λ (count : ℕ). big_run (sized_run (values_of named) no_graph memory) count turns) (one_more more) ∙ says)
    where
      one_more : (more : ℕ) → 1 + more ≡ suc more
      one_more more = omega arith
  leaves_follow (function ∷ above) fine sized most memory turns outcome says =
      last_follows named above (graphs_of above) (says_call named above) (calls_do above fine.1) function fine.0 sized most memory turns outcome says

  pub source_follows : (functions : List FunctionTree) → AreFitting functions → HasExtentsThroughout (values_of named) (source_graph named functions) → (most : ℕ) (memory : Memory) (turns : ℕ) (outcome : Outcome shown.Place Left) →
      left_by (says_last named functions most (memory ∷ []) turns) ≡ Some outcome →
      (least : ℕ) × ((more : ℕ) → big_run (sized_run (values_of named) (source_graph named functions) memory) (least + more) turns ≡ Some outcome)
  source_follows functions fine sized most memory turns outcome says =
      leaves_follow functions fine sized most memory turns outcome ((λ i. left_by (last-same named functions most i (memory ∷ []) turns)) ∙ says)
