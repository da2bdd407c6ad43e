-- Steps through the states of a run, over the graph of the code.
use Rattle.std.proofs.Common.{◌≡◌, ℕ, zero, suc, ◌<◌, ◌≤◌, List, [], ◌∷◌, Option, Some, Ok, true, refl, sym, subst, ap, ◌∙◌, arith, length, map, get_or, slice_get, replicate, pos, String, string_bytes, Vec, vec_len}
use Rattle.std.specs.declared.alloc.Global.{Global}
use Rattle.std.proofs.lemmas.List.{length-map}
use Rattle.sd_range.specs.Affine.{affine_value}
use Rattle.sd_range.specs.Variables.{with_variables}
use Rattle.sd_work.specs.Memory.{Memories}
use Rattle.sd_work.specs.Exit.{Values, first_exit}
use Rattle.sd_work.specs.BigStep.{Reached, Coming}
use Rattle.sd_work.specs.declared.fault.FaultKind.{FaultKind}
use Rattle.sd_graph.specs.declared.place.Place.{Place}
use Rattle.sd_graph.specs.declared.place.Frame.{Frame}
use Rattle.sd_graph.specs.PlainTree.{ItemTrees, no_item, StateTrees, GraphTree, graph, ExitTree}
use Rattle.sd_graph.specs.TreeParts.{containers_of, states_of_graph, exits_at, items_at}
use Rattle.sd_graph.specs.Context.{Reach, Context}
use Rattle.sd_graph.specs.Unfold.{exit_of}
use Rattle.sd_graph.specs.Upwards.{ItemsLeadUpwards, LeadsUpwards}
use Rattle.sd_graph.specs.TreeFold.{PlainState, graph_tree, state_tree, state_trees, item_trees, exit_tree, named_container}
use Rattle.sd_graph.proofs.TreeLemmas.{state_opened, graph_opened}
use Rattle.sd_graph.specs.declared.graph.State.{State}
use Rattle.sd_graph.specs.declared.graph.Sdfg.{Sdfg}
use Rattle.sd_graph.specs.declared.exit.Exit.{Exit}
use Rattle.sd_graph.specs.declared.graph.ItemKind.TheViews.{out-State, out-Sdfg}
use Rattle.sd_mem.specs.machine.Stack.{IsPaid}
use Rattle.sd_mem.specs.machine.ComesTo.{IsEnd}
use Rattle.sd_mem.specs.machine.Coming.{items_coming, state_context, exits_of, from_state, variable_count, IsExit}
use Rattle.sd_mem.specs.declared.machine.end.End.{End}
use Rattle.sd_mem.specs.declared.machine.end.End.TheVariants.{Finished, Fault, OutOfTurns}
use Rattle.sd_leaves.specs.leaves.Next.{IsNext}
use Rattle.sd_leaves.specs.declared.leaves.exit.Next.{Next}
use Rattle.sd_leaves.specs.declared.leaves.exit.Next.TheVariants.{Nowhere, By, Fault as Fault_of_exit}
use Rattle.sd_row.proofs.row_lemmas.Comes.{IsLeft}
use Rattle.sd_seq.proofs.States.{exits_of_graph, state_stop, exit_nowhere, exit_fault, exit_spent, exit_on, items_of_state_lead, measure, measure_falls}

-- ---- states and exits of the code

pub state_opened_here : (state : State) → state_tree state ≡ (item_trees (out-State state).items.items, map exit_tree (out-State state).exits.items)
state_opened_here = state_opened

items_in : (states : List State) (state : ℕ) (here : State) → state < length states → here ≡ get_or states state here →
    items_at (state_trees states) state ≡ (state_tree here).0
items_in [] state here within is = absurd (omega (arith, within))
items_in (first ∷ states) zero here within is = ap (λ (s : State). (state_tree s).0) (sym is)
items_in (first ∷ states) (suc state) here within is = items_in states state here (omega (arith, within)) is

exits_in : (states : List State) (state : ℕ) (here : State) → state < length states → here ≡ get_or states state here →
    exits_at (state_trees states) state ≡ map exit_tree (out-State here).exits.items
exits_in [] state here within is = absurd (omega (arith, within))
exits_in (first ∷ states) zero here within is = ap (λ (s : State). (state_tree s).1) (sym is) ∙ ap (λ (p : PlainState). p.1) (state_opened here)
exits_in (first ∷ states) (suc state) here within is = exits_in states state here (omega (arith, within)) is

states_in : (g : Sdfg) → states_of_graph (graph_tree g) ≡ state_trees (out-Sdfg g).states.items
states_in g = ap states_of_graph (graph_opened g)

module _ (g : Sdfg) (states : List State) (same_states : states ≡ (out-Sdfg g).states.items) (state : ℕ) (here : State) (within : state < length states) (is : here ≡ get_or states state here) where
  items_here : items_at (states_of_graph (graph_tree g)) state ≡ (state_tree here).0
  items_here = ap (λ (s : StateTrees). items_at s state) (states_in g ∙ ap state_trees (sym same_states)) ∙ items_in states state here within is

  exits_here : exits_at (states_of_graph (graph_tree g)) state ≡ map exit_tree (out-State here).exits.items
  exits_here = ap (λ (s : StateTrees). exits_at s state) (states_in g ∙ ap state_trees (sym same_states)) ∙ exits_in states state here within is

  -- the items of a state lead upwards
  pub items_lead : LeadsUpwards (graph_tree g) → ItemsLeadUpwards (state_tree here).0
  items_lead leads = subst ItemsLeadUpwards items_here (items_of_state_lead (graph_tree g) state leads)

-- the exit of a number, in the code and in the tree
exit_at : (exits : List Exit) (number : ℕ) (exit : Exit) → number < length exits → exit ≡ get_or exits number exit → slice_get (map exit_tree exits) number ≡ Some (exit_tree exit)
exit_at [] number exit within is = absurd (omega (arith, within))
exit_at (first ∷ exits) zero exit within is = ap (λ (e : Exit). Some (exit_tree e)) (sym is)
exit_at (first ∷ exits) (suc number) exit within is = exit_at exits number exit (omega (arith, within)) is

-- ---- one state and the way out of it

values_there : (tree : GraphTree) (reach : ℕ → Reach) (around : List Frame) (state : ℕ) (values : Values) → (state_context tree reach around state values).values ≡ values
values_there (graph name containers arguments variables symbols states) reach around state values = refl

some_tree : (context : Context) (exits : List ExitTree) (memories : Memories) (option : Option ExitTree) (exit : ExitTree) → option ≡ Some exit → IsExit context option exits memories →
    first_exit (map (exit_of context) exits) memories ≡ Ok (Some (exit_of context exit))
some_tree context exits memories option exit is taken = subst (λ (o : Option ExitTree). IsExit context o exits memories) is taken

module _ (g : Sdfg) (states : List State) (same_states : states ≡ (out-Sdfg g).states.items) (state : ℕ) (here : State) (within : state < length states) (is : here ≡ get_or states state here)
    (reach : ℕ → Reach) (around : List Frame) (values : Values) (context : Context) (whole : ℕ → Coming Place) (before middle now : Reached) (end : End)
    (same : context ≡ state_context (graph_tree g) reach around state values)
    (left : IsLeft whole before (from_state (graph_tree g) reach around state values middle) middle)
    (ends : IsEnd (items_coming (state_tree here).0 context middle) middle end now) where
  abbrev there : Context
  there = state_context (graph_tree g) reach around state values

  in_state : IsEnd (items_coming (items_at (states_of_graph (graph_tree g)) state) there middle) middle end now
  in_state = subst (λ (t : ItemTrees). IsEnd (items_coming t there middle) middle end now) (sym (items_here g states same_states state here within is))
      (subst (λ (c : Context). IsEnd (items_coming (state_tree here).0 c middle) middle end now) same ends)

  -- the items stop the run
  pub graph_stop : ((end ≡ Finished) → ⊥) → IsEnd whole before end now
  graph_stop stop = state_stop whole (graph_tree g) reach around state values before middle now left end in_state stop

  module _ (finished : end ≡ Finished) (exits : List Exit) (same_exits : exits ≡ (out-State here).exits.items) (next : Next)
      (is_next : IsNext context (map exit_tree exits) now.memories next) where
    done_state : IsEnd (items_coming (items_at (states_of_graph (graph_tree g)) state) there middle) middle Finished now
    done_state = subst (λ (e : End). IsEnd (items_coming (items_at (states_of_graph (graph_tree g)) state) there middle) middle e now) finished in_state

    next_there : IsNext there (exits_at (states_of_graph (graph_tree g)) state) now.memories next
    next_there = subst (λ (x : List ExitTree). IsNext there x now.memories next) (ap (map exit_tree) same_exits ∙ sym (exits_here g states same_states state here within is))
        (subst (λ (c : Context). IsNext c (map exit_tree exits) now.memories next) same is_next)

    -- no exit is taken
    pub graph_nowhere : next ≡ Nowhere → IsEnd whole before Finished now
    graph_nowhere by = exit_nowhere whole (graph_tree g) reach around state values before middle now left done_state
        (ap (λ x. first_exit x now.memories) (exits_of_graph (graph_tree g) reach around state values)
        ∙ subst (λ (n : Next). IsNext there (exits_at (states_of_graph (graph_tree g)) state) now.memories n) by next_there)

    -- a condition has a fault
    pub graph_fault : (place : Place) (kind : FaultKind) → next ≡ Fault_of_exit place kind → IsEnd whole before (Fault place kind) now
    graph_fault place kind by = exit_fault whole (graph_tree g) reach around state values before middle now left done_state place kind
        (ap (λ x. first_exit x now.memories) (exits_of_graph (graph_tree g) reach around state values)
        ∙ subst (λ (n : Next). IsNext there (exits_at (states_of_graph (graph_tree g)) state) now.memories n) by next_there)

    module _ (number : ℕ) (by : next ≡ By number) (exit : Exit) (exit_is : exit ≡ get_or exits number exit) where
      number_within : number < length exits
      number_within = subst (λ (l : ℕ). number < l) (length-map exits exit_tree)
          (subst (λ (n : Next). IsNext context (map exit_tree exits) now.memories n) by is_next).0

      in_tree : slice_get (exits_at (states_of_graph (graph_tree g)) state) number ≡ Some (exit_tree exit)
      in_tree = ap (λ (x : List ExitTree). slice_get x number) (exits_here g states same_states state here within is ∙ ap (map exit_tree) (sym same_exits)) ∙ exit_at exits number exit number_within exit_is

      taken : first_exit (exits_of (graph_tree g) reach around state values) now.memories ≡ Ok (Some (exit_of there (exit_tree exit)))
      taken = ap (λ x. first_exit x now.memories) (exits_of_graph (graph_tree g) reach around state values)
          ∙ some_tree there (exits_at (states_of_graph (graph_tree g)) state) now.memories _ (exit_tree exit) in_tree
          (subst (λ (n : Next). IsNext there (exits_at (states_of_graph (graph_tree g)) state) now.memories n) by next_there).1

      -- the exit wants a turn, and none is left
      pub graph_spent : exit.back ≡ true → now.turns ≡ 0 → (then : Reached) → then.memories ≡ now.memories → then.turns ≡ 0 → IsEnd whole before OutOfTurns then
      graph_spent marked empty then same_memories no_turns = exit_spent whole (graph_tree g) reach around state values before middle now left done_state
          (exit_of there (exit_tree exit)) taken marked empty then same_memories (omega (arith, no_turns))

      -- the exit leads on
      pub graph_on : (then : Reached) → then.memories ≡ now.memories → IsPaid exit.back now.turns then.turns → (behind : Values) → behind ≡ with_variables (map (λ assignment. (assignment.0, affine_value values assignment.1)) (exit_tree exit).set) values →
          IsLeft whole before (from_state (graph_tree g) reach around exit.to behind then) then
      graph_on then same_memories paid_turns behind same_values =
          subst (λ (v : Values). IsLeft whole before (from_state (graph_tree g) reach around exit.to v then) then)
          (sym (same_values ∙ ap (λ (v : Values). with_variables (map (λ assignment. (assignment.0, affine_value v assignment.1)) (exit_tree exit).set) v) (sym (values_there (graph_tree g) reach around state values))))
          (exit_on whole (graph_tree g) reach around state values before middle now left done_state
          (exit_of there (exit_tree exit)) taken then same_memories paid_turns)

      -- and the measure falls
      pub graph_falls : LeadsUpwards (graph_tree g) → (then : Reached) → IsPaid exit.back now.turns then.turns →
          measure (graph_tree g) then.turns exit.to < measure (graph_tree g) middle.turns state
      graph_falls leads then paid_turns = measure_falls (graph_tree g) state number (exit_tree exit) leads in_tree then.turns now.turns middle.turns paid_turns ends.turns

-- ---- the end and the begin

items_beyond : (states : List State) (state : ℕ) → length states ≤ state → items_at (state_trees states) state ≡ no_item
items_beyond [] state beyond = refl
items_beyond (first ∷ states) zero beyond = absurd (omega (arith, beyond))
items_beyond (first ∷ states) (suc state) beyond = items_beyond states state (omega (arith, beyond))

exits_beyond : (states : List State) (state : ℕ) → length states ≤ state → exits_at (state_trees states) state ≡ []
exits_beyond [] state beyond = refl
exits_beyond (first ∷ states) zero beyond = absurd (omega (arith, beyond))
exits_beyond (first ∷ states) (suc state) beyond = exits_beyond states state (omega (arith, beyond))

-- behind the last state a run has ended
pub graph_over : (g : Sdfg) (states : List State) → states ≡ (out-Sdfg g).states.items → (state : ℕ) → length states ≤ state → (reach : ℕ → Reach) (around : List Frame) (values : Values)
    (whole : ℕ → Coming Place) (before middle : Reached) → IsLeft whole before (from_state (graph_tree g) reach around state values middle) middle → IsEnd whole before Finished middle
graph_over g states same_states state beyond reach around values whole before middle left =
    let in_tree : state_trees states ≡ states_of_graph (graph_tree g) = ap state_trees same_states ∙ sym (states_in g) in
    let nothing_left : items_at (states_of_graph (graph_tree g)) state ≡ no_item = subst (λ (t : StateTrees). items_at t state ≡ no_item) in_tree (items_beyond states state beyond) in
    let no_exit : exits_at (states_of_graph (graph_tree g)) state ≡ [] = subst (λ (t : StateTrees). exits_at t state ≡ []) in_tree (exits_beyond states state beyond) in
    exit_nowhere whole (graph_tree g) reach around state values before middle middle left
    (subst (λ (t : ItemTrees). IsEnd (items_coming t (state_context (graph_tree g) reach around state values) middle) middle Finished middle) (sym nothing_left)
    (record { comes = λ most. refl; depth = refl; turns = omega arith }))
    (ap (λ x. first_exit x middle.memories) (exits_of_graph (graph_tree g) reach around state values
    ∙ ap (map (exit_of (state_context (graph_tree g) reach around state values))) no_exit))

pub as_many : (names : Vec (String Global) Global) → vec_len names ≡ length names.items
as_many names = omega (arith, names.ok)

-- the values of the variables at a run's begin
pub values_begin : (g : Sdfg) (values : Values) → values ≡ replicate (length (out-Sdfg g).variables.items) (pos 0) → values ≡ replicate (variable_count (graph_tree g)) (pos 0)
values_begin g values same_values =
    let counted : variable_count (graph_tree g) ≡ length (out-Sdfg g).variables.items = ap variable_count (graph_opened g) ∙ length-map (out-Sdfg g).variables.items string_bytes in
    same_values ∙ ap (λ (n : ℕ). replicate n (pos 0)) (sym counted)
