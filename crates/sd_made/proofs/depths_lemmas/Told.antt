-- Throughout the graph of a program it is known what items and conditions are made of, and how deep items stand.
use Rattle.std.proofs.Common.{◌≡◌, inl, inr, ℕ, List, [], ◌∷◌, ◌++◌, Option, Some, unwrap_or, Bool, true, false, cond, reverse, refl, subst, bytes_eq}
use Rattle.std.specs.Prelude.{⊤}
use Rattle.std.proofs.lemmas.Grind.{reverse_onto}
use Rattle.std.specs.List.{AllByRecursion}
use Rattle.sd_lex.specs.PlainTree.{StatementTree, FunctionTree, ProgramTree}
use Rattle.sd_graph.specs.PlainTree.{no_item, KindTree, ExitTree, GraphTree}
use Rattle.sd_graph.specs.TreeFold.{PlainState, states_listed}
use Rattle.sd_graph.specs.TreeParts.{exits_at, states_of_graph}
use Rattle.sd_program.specs.Names.{Name, Named, in_force}
use Rattle.sd_program.specs.Place.{Place, in_function, EveryOfFunction, EveryFunction, EveryPlace}
use Rattle.sd_elab.specs.items.Graphs.{no_graph, graph_named}
use Rattle.sd_elab.specs.elab.Elaboration.{start_of, states_of_function, function_graph, graphs_with, latest, graph_of}
use Rattle.sd_wire.specs.loops.About.{loops_about}
use Rattle.sd_made.proofs.elab_lemmas.LoopsClosed.{function_closes}
use Rattle.sd_validity.specs.rules.Ranks.{begun_at}
use Rattle.sd_validity.specs.rules.Places.{Scopes}
use Rattle.sd_validity.specs.bound_places.Throughout.{Throughout}
use Rattle.sd_made.proofs.depths_lemmas.Loops.{Loops, loops_of_all, block_about}
use Rattle.sd_made.proofs.depths_lemmas.Starts.{IsOne, starts_of_all, block_starts}
use Rattle.sd_made.proofs.depths_lemmas.Counted.{Closes, fewer_about}
use Rattle.sd_made.proofs.depths_lemmas.Made.{IsItem, IsExit, fewer_loops}
use Rattle.sd_made.proofs.depths_lemmas.Alone.{StatesAlone, leaving_at, states_throughout}
use Rattle.sd_made.proofs.depths_lemmas.Items.{Do}
use Rattle.sd_made.proofs.depths_lemmas.States.{IsSetting, IsAsking, Leave, block_made}
use Rattle.sd_made.proofs.depths_lemmas.Begun.{none_begun}

all_so : (P Q : ExitTree → Type 0) → ((exit : ExitTree) → P exit → Q exit) → (exits : List ExitTree) → AllByRecursion P exits → AllByRecursion Q exits
all_so P Q so [] all = tt
all_so P Q so (exit ∷ exits) all = (so exit all.0, all_so P Q so exits all.1)

module _ (Given : Place → StatementTree → Type 0) where
  abbrev pub Whole : GraphTree → Type 0
  Whole tree = ⊤

  abbrev pub Leaving : GraphTree → (state : ℕ) → ExitTree → Type 0
  Leaving tree state exit = IsExit Given (begun_at (states_of_graph tree) state) exit

  abbrev pub Doing : GraphTree → (state : ℕ) → Scopes → KindTree → Type 0
  Doing tree state scopes kind = IsItem Given (loops_about (states_of_graph tree) state) scopes kind

  abbrev pub IsTold : GraphTree → Type 0
  IsTold tree = Throughout Whole Leaving Doing tree

  -- a condition in a state at which no loop begins
  asking_told : (starts begun : List ℕ) (state : ℕ) (exit : ExitTree) → ((IsOne starts state → ⊥) → begun ≡ []) → IsAsking Given starts state exit → IsExit Given begun exit
  asking_told starts begun state exit none (inl unasked) = inl unasked
  asking_told starts begun state exit none (inr (inl is)) = inr (inl (is.0, none is.1))
  asking_told starts begun state exit none (inr (inr is)) = inr (inr is)

  function_told : (symbols : List Name) (graphs : Name → GraphTree) → ((name : Name) → IsTold (graphs name)) → (above : List FunctionTree) (function : FunctionTree) →
      EveryOfFunction Given above function → IsTold (function_graph symbols graphs function)
  function_told symbols graphs inner above function given =
      let loops : Loops = loops_of_all function.body 1 in
      let starts : List ℕ = starts_of_all function.body 1 in
      let listed : List PlainState = states_of_function symbols graphs function in
      let alone : StatesAlone IsTold (Leave Given loops starts) (Do Given IsTold (Leave Given loops starts) loops graphs inner) listed 0 =
      block_made Given IsTold loops starts graphs inner function.body (start_of symbols function) no_item [] 0 (in_function above function.arguments) refl refl given.1 (block_about function.body 1)
      (block_starts function.body) tt tt in
      let leaving : (number : ℕ) → AllByRecursion (Leave Given loops starts number) (exits_at (states_listed listed) number) =
      λ number. leaving_at IsTold (Leave Given loops starts) (Do Given IsTold (Leave Given loops starts) loops graphs inner) listed number alone in
      let closes : (number : ℕ) → AllByRecursion (Closes loops number) (exits_at (states_listed listed) number) =
      λ number. all_so (Leave Given loops starts number) (Closes loops number) (λ exit leave. leave.0) (exits_at (states_listed listed) number) (leaving number) in
      let sets : (number : ℕ) → AllByRecursion (IsSetting starts) (exits_at (states_listed listed) number) =
      λ number. all_so (Leave Given loops starts number) (IsSetting starts) (λ exit leave. leave.1) (exits_at (states_listed listed) number) (leaving number) in (
        tt,
        states_throughout Whole Leaving Doing (Leave Given loops starts) (Do Given IsTold (Leave Given loops starts) loops graphs inner) (function_graph symbols graphs function)
            (λ state exit leave. asking_told starts (begun_at (states_listed listed) state) state exit (none_begun starts (states_listed listed) state sets) leave.2)
            (λ state scopes kind is. fewer_loops Given (loops_about (states_listed listed) state) _ (fewer_about (states_listed listed) loops (function_closes symbols graphs function) closes state) scopes kind is) listed
            0 alone,
      )

  abbrev AreTold : Named GraphTree → Type 0
  AreTold graphs = AllByRecursion (λ entry. IsTold entry.1) graphs

  named_one : (found : Bool) (of : GraphTree) (others : Option GraphTree) → IsTold of → IsTold (unwrap_or others no_graph) → IsTold (unwrap_or (cond found (Some of) others) no_graph)
  named_one true of others told rest = told
  named_one false of others told rest = rest

  named_told : (graphs : Named GraphTree) → AreTold graphs → (name : Name) → IsTold (graph_named graphs name)
  named_told [] told name = (tt, tt)
  named_told (entry ∷ graphs) told name = named_one (bytes_eq name entry.0) entry.1 (in_force graphs name) told.0 (named_told graphs told.1 name)

  abbrev IsFounded : FunctionTree → Type 0
  IsFounded function = (above : List FunctionTree) × EveryOfFunction Given above function

  founded : (functions : List FunctionTree) → EveryFunction Given functions → AllByRecursion IsFounded functions
  founded [] given = tt
  founded (function ∷ above) given = ((above, given.0), founded above given.1)

  all_of_two : {A : Type 0} (P : A → Type 0) (first second : List A) → AllByRecursion P (first ++ second) → AllByRecursion P first × AllByRecursion P second
  all_of_two P [] second all = (tt, all)
  all_of_two P (member ∷ first) second all = ((all.0, (all_of_two P first second all.1).0), (all_of_two P first second all.1).1)

  all_turned : {A : Type 0} (P : A → Type 0) (members : List A) → AllByRecursion P (reverse members) → AllByRecursion P members
  all_turned P [] all = tt
  all_turned P (member ∷ members) all =
      let both : AllByRecursion P (reverse members) × AllByRecursion P (member ∷ []) =
      all_of_two P (reverse members) (member ∷ []) (subst (AllByRecursion P) (reverse_onto members member []) all) in
      (both.1.0, all_turned P members both.0)

  graphs_told : (symbols : List Name) (before : Named GraphTree) (functions : List FunctionTree) → AreTold before → AllByRecursion IsFounded functions → AreTold (graphs_with symbols before functions)
  graphs_told symbols before [] told founds = told
  graphs_told symbols before (function ∷ functions) told founds =
      graphs_told symbols ((function.name, function_graph symbols (graph_named before) function) ∷ before) functions
      (function_told symbols (graph_named before) (named_told before told) founds.0.0 function founds.0.1, told) founds.1

  latest_told : (graphs : Named GraphTree) → AreTold graphs → IsTold (latest graphs)
  latest_told [] told = (tt, tt)
  latest_told (entry ∷ graphs) told = told.0

  pub program_told : (source : ProgramTree) → EveryPlace Given source → IsTold (graph_of source)
  program_told source given =
      latest_told (graphs_with source.symbols [] source.functions)
      (graphs_told source.symbols [] source.functions tt (all_turned IsFounded source.functions (founded (reverse source.functions) given)))
