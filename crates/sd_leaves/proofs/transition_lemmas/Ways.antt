-- The ways out of a state, in the code and in the tree.
use Rattle.std.proofs.Common.{◌≡◌, ℕ, zero, suc, ◌<◌, ◌≤◌, List, [], ◌∷◌, Option, Some, None, Ok, Err, refl, sym, subst, ap, ◌∙◌, arith, length, map, get_or, slice_get}
use Rattle.std.proofs.lemmas.List.{length-map}
use Rattle.sd_range.specs.Affine.{affine_value}
use Rattle.sd_range.specs.Variables.{with_variables}
use Rattle.sd_work.specs.Memory.{Memories}
use Rattle.sd_work.specs.declared.fault.FaultKind.{FaultKind}
use Rattle.sd_work.specs.Move.{fault_at}
use Rattle.sd_work.specs.Exit.{Values, first_exit}
use Rattle.sd_work.specs.Exit as work
use Rattle.sd_graph.specs.PlainTree.{StateTrees, GraphTree, graph, ExitTree}
use Rattle.sd_graph.specs.TreeParts.{states_of_graph, exits_at}
use Rattle.sd_graph.specs.Context.{Reach, Context}
use Rattle.sd_graph.specs.Unfold.{exit_of}
use Rattle.sd_graph.specs.TreeFold.{PlainState, graph_tree, state_tree, state_trees, exit_tree}
use Rattle.sd_graph.proofs.TreeLemmas.{state_opened, graph_opened}
use Rattle.sd_graph.specs.declared.graph.State.{State}
use Rattle.sd_graph.specs.declared.graph.Sdfg.{Sdfg}
use Rattle.sd_graph.specs.declared.exit.Exit.{Exit}
use Rattle.sd_graph.specs.declared.graph.ItemKind.TheViews.{out-State, out-Sdfg}
use Rattle.sd_graph.specs.declared.place.Frame.{Frame}
use Rattle.sd_graph.specs.declared.place.Place.{Place}
use Rattle.sd_mem.specs.machine.Coming.{state_context, exits_of, IsExit}
use Rattle.sd_leaves.specs.declared.transition.onward.Entry.{Entry}
use Rattle.sd_leaves.specs.leaves.Next.{IsNext}
use Rattle.sd_leaves.specs.declared.leaves.exit.Next.{Next}
use Rattle.sd_leaves.specs.declared.leaves.exit.Next.TheVariants.{Nowhere, By, Fault}
use Rattle.sd_leaves.specs.declared.transition.onward.Onward.TheVariants as variants
use Rattle.sd_leaves.specs.transition.Onward.{IsEntry, IsBehind, IsOnward}

-- ---- the exits of a state

exits_in : (states : List State) (state : ℕ) (here : State) → state < length states → here ≡ get_or states state here → exits_at (state_trees states) state ≡ (state_tree here).1
exits_in [] state here within is = absurd (omega (arith, within))
exits_in (first ∷ states) zero here within is = ap (λ (s : State). (state_tree s).1) (sym is)
exits_in (first ∷ states) (suc state) here within is = exits_in states state here (omega (arith, within)) is

exits_beyond : (states : List State) (state : ℕ) → length states ≤ state → exits_at (state_trees states) state ≡ []
exits_beyond [] state beyond = refl
exits_beyond (first ∷ states) zero beyond = absurd (omega (arith, beyond))
exits_beyond (first ∷ states) (suc state) beyond = exits_beyond states state (omega (arith, beyond))

states_in : (g : Sdfg) → states_of_graph (graph_tree g) ≡ state_trees (out-Sdfg g).states.items
states_in g = ap states_of_graph (graph_opened g)

module _ (g : Sdfg) (states : List State) (same_states : states ≡ (out-Sdfg g).states.items) (state : ℕ) where
  in_code : exits_at (states_of_graph (graph_tree g)) state ≡ exits_at (state_trees states) state
  in_code = ap (λ (s : StateTrees). exits_at s state) (states_in g ∙ ap state_trees (sym same_states))

  pub exits_here : (here : State) → state < length states → here ≡ get_or states state here → exits_at (states_of_graph (graph_tree g)) state ≡ (state_tree here).1
  exits_here here within is = in_code ∙ exits_in states state here within is

  pub no_exits : length states ≤ state → exits_at (states_of_graph (graph_tree g)) state ≡ []
  no_exits beyond = in_code ∙ exits_beyond states state beyond

-- ---- the choice among them

exits_of_graph : (tree : GraphTree) (reach : ℕ → Reach) (around : List Frame) (state : ℕ) (values : Values)
    → exits_of tree reach around state values ≡ map (exit_of (state_context tree reach around state values)) (exits_at (states_of_graph tree) state)
exits_of_graph (graph name containers arguments variables symbols states) reach around state values = refl

values_there : (tree : GraphTree) (reach : ℕ → Reach) (around : List Frame) (state : ℕ) (values : Values) → (state_context tree reach around state values).values ≡ values
values_there (graph name containers arguments variables symbols states) reach around state values = refl

-- without exits none is taken
pub nowhere : (tree : GraphTree) (reach : ℕ → Reach) (around : List Frame) (state : ℕ) (values : Values) (memories : Memories) → exits_at (states_of_graph tree) state ≡ []
    → first_exit (exits_of tree reach around state values) memories ≡ Ok None
nowhere tree reach around state values memories none =
    ap (λ (ways : List (work.Exit Place)). first_exit ways memories)
    (exits_of_graph tree reach around state values ∙ ap (map (exit_of (state_context tree reach around state values))) none)

-- the exit of a number, in the code and in the tree
exit_at : (exits : List Exit) (number : ℕ) (exit : Exit) → number < length exits → exit ≡ get_or exits number exit → slice_get (map exit_tree exits) number ≡ Some (exit_tree exit)
exit_at [] number exit within is = absurd (omega (arith, within))
exit_at (first ∷ exits) zero exit within is = ap (λ (e : Exit). Some (exit_tree e)) (sym is)
exit_at (first ∷ exits) (suc number) exit within is = exit_at exits number exit (omega (arith, within)) is

module _ (tree : GraphTree) (here : State) (state : ℕ) (reach : ℕ → Reach) (around : List Frame) (values : Values) (context : Context) (same : context ≡ state_context tree reach around state values)
    (at : exits_at (states_of_graph tree) state ≡ (state_tree here).1) (exits : List Exit) (same_exits : exits ≡ (out-State here).exits.items) (memories : Memories) where
  -- the choice among the exits of the code is that of the run's work
  pub same_choice : first_exit (map (exit_of context) (map exit_tree exits)) memories ≡ first_exit (exits_of tree reach around state values) memories
  same_choice =
      ap (λ (ways : List (work.Exit Place)). first_exit ways memories)
      (sym (exits_of_graph tree reach around state values
      ∙ ap (map (exit_of (state_context tree reach around state values))) (at ∙ ap (λ (p : PlainState). p.1) (state_opened here) ∙ ap (map exit_tree) (sym same_exits))
      ∙ ap (λ (context : Context). map (exit_of context) (map exit_tree exits)) (sym same)))

  module _ (number : ℕ) (exit : Exit) (within : number < length exits) (is : exit ≡ get_or exits number exit) where
    pub chosen : IsExit context (slice_get (map exit_tree exits) number) (map exit_tree exits) memories
        → first_exit (exits_of tree reach around state values) memories ≡ Ok (Some (exit_of context (exit_tree exit)))
    chosen taken = sym same_choice ∙ subst (λ (option : Option ExitTree). IsExit context option (map exit_tree exits) memories) (exit_at exits number exit within is) taken

    -- what begins behind it is what begins behind the exit of the run's work
    pub entered : (entry : Entry) → IsBehind (exit_tree exit) values entry → IsEntry (exit_of context (exit_tree exit)) entry
    entered entry behind = record {
      state = behind.state;
      values = behind.values ∙ ap (λ (v : Values). with_variables (map (λ assignment. (assignment.0, affine_value v assignment.1)) (exit_tree exit).set) v)
          (sym (ap (λ (c : Context). c.values) same ∙ values_there tree reach around state values));
      marked = behind.marked;
    }

  module _ (next : Next) (is_next : IsNext context (map exit_tree exits) memories next) where
    pub no_way : next ≡ Nowhere → first_exit (exits_of tree reach around state values) memories ≡ Ok None
    no_way is = sym same_choice ∙ subst (λ (n : Next). IsNext context (map exit_tree exits) memories n) is is_next

    pub faulted : (place : Place) (kind : FaultKind) → next ≡ Fault place kind → first_exit (exits_of tree reach around state values) memories ≡ Err (fault_at place kind)
    faulted place kind is = sym same_choice ∙ subst (λ (n : Next). IsNext context (map exit_tree exits) memories n) is is_next

    module _ (number : ℕ) (by : next ≡ By number) where
      taken : IsNext context (map exit_tree exits) memories (By number)
      taken = subst (λ (n : Next). IsNext context (map exit_tree exits) memories n) by is_next

      pub number_within : number < length exits
      number_within = omega (arith, taken.0, length-map exits exit_tree)

      pub by_way : (exit : Exit) → exit ≡ get_or exits number exit → (entry : Entry) → IsBehind (exit_tree exit) values entry → IsOnward (first_exit (exits_of tree reach around state values) memories) (variants.State entry)
      by_way exit is entry behind = (exit_of context (exit_tree exit), chosen number exit number_within is taken.1, entered number exit number_within is entry behind)
