-- What holds of all that is in a graph holds of it with two of its states fused.
use Rattle.std.proofs.Common.{◌≡◌, ◌≢◌, ◌⊎◌, inl, inr, ℕ, ◌<◌, List, [], length, true, refl, sym, ◌∙◌, subst, arith}
use Rattle.sd_graph.specs.PlainTree.{ItemTrees, no_item, and_item, StateTrees, GraphTree, graph, ExitTree}
use Rattle.sd_graph.specs.TreeParts.{items_at, exits_at, count_states}
use Rattle.sd_graph.specs.ContainerParts.{Containers}
use Rattle.sd_graph.specs.Wiring.{has_number}
use Rattle.sd_validity.specs.rules.Places.{Scopes, no_scopes, loops_at, whole, leaving}
use Rattle.sd_validity.specs.rules.NestedLinks.{written_in, written_in_states}
use Rattle.sd_alike.specs.alike.Places.{items_then}
use Rattle.sd_alike.proofs.kept_lemmas.Held.{Asked, HoldsAmong, HoldsInStates, HoldsAll, IsLocal, StaysWider}
use Rattle.sd_statex.specs.states.FusedStates.{lowered, exits_lowered, fused, plain_exit, AreFusible, graph_fused}
use Rattle.sd_statex.proofs.states_lemmas.StatesFused.{is_same_state}
use Rattle.sd_statex.proofs.states_lemmas.FusedParts.{items_apart, exits_apart, items_both, exits_both}
use Rattle.sd_statex.proofs.kept_lemmas.Moved.{raised, lowered_raised, raised_stays, raised_below, exit_there, count_fused, moved, moved_second, moved_apart}
use Rattle.sd_statex.proofs.kept_lemmas.LoopsFused.{loops_moved}
use Rattle.sd_statex.proofs.kept_lemmas.Summed.{written_numbers, has_fused}
use Rattle.sd_statex.proofs.kept_lemmas.Seen.{IsSeen}
use Rattle.sd_statex.proofs.kept_lemmas.HeldChanged.{LooksSame}
use Rattle.sd_statex.proofs.kept_lemmas.Carried.{HoldsState, behind_none, each_state, all_states, thing_carried, among_carried}

among_then : (asked : Asked) (tree : GraphTree) (loops : List ℕ) (scopes : Scopes) (items others : ItemTrees) →
    HoldsAmong asked tree loops scopes items → HoldsAmong asked tree loops scopes others → HoldsAmong asked tree loops scopes (items_then items others)
among_then asked tree loops scopes no_item others first rest = rest
among_then asked tree loops scopes (and_item line kind items) others first rest = (first.0, (first.1.0, among_then asked tree loops scopes items others first.1.1 rest))

-- two states of a graph may be fused, and the second one is there
abbrev pub AreFusibleThere : (first second : ℕ) → GraphTree → Type 0
AreFusibleThere first second (graph name containers arguments variables symbols states) = AreFusible first second states × (second < count_states states)

module _ (first second : ℕ) where
  pub fused_looks : LooksSame (AreFusibleThere first second) (graph_fused first second)
  fused_looks (graph name containers arguments variables symbols states) fusible = record {
    containers = refl;
    arguments = refl;
    written = λ number. has_fused written_in written_in_states written_numbers number first second states fusible.0;
  }

  module _ (asked : Asked) (local : IsLocal asked) (stays : StaysWider asked) (seen : IsSeen asked)
      (name : List ℕ) (containers : Containers) (arguments : ℕ) (variables : List (List ℕ)) (symbols : ℕ) (states : StateTrees)
      (fusible : AreFusible first second states) (second_there : second < count_states states) where
    abbrev after : StateTrees
    after = fused first second states

    abbrev here : GraphTree
    here = graph name containers arguments variables symbols states

    abbrev there : GraphTree
    there = graph name containers arguments variables symbols after

    -- what is in force in a state is in force where it stands
    loops_wider : (state to : ℕ) → moved first second state ≡ to → (number : ℕ) → has_number (loops_at here state) number ≡ true → has_number (loops_at there to) number ≡ true
    loops_wider state to stands number is =
        subst (λ to. has_number (loops_at there to) number ≡ true) stands (loops_moved first second states fusible (length variables) state number is)

    leaving_carried : (state to : ℕ) → moved first second state ≡ to → (items others : ItemTrees) (exits : List ExitTree) →
        asked here (loops_at here state) no_scopes (leaving items exits) ≡ true → asked there (loops_at there to) no_scopes (leaving others (exits_lowered second exits)) ≡ true
    leaving_carried state to stands items others exits is =
        local.list there (loops_at there to) no_scopes items others (exits_lowered second exits)
        ∙ seen.low second there (loops_at there to) no_scopes items exits
        ∙ thing_carried asked local stays name containers arguments variables symbols states after (loops_at here state) (loops_at there to) (loops_wider state to stands) no_scopes (leaving items exits) is

    items_carried : (state to : ℕ) → moved first second state ≡ to → (items : ItemTrees) → HoldsAmong asked here (loops_at here state) no_scopes items → HoldsAmong asked there (loops_at there to) no_scopes items
    items_carried state to stands items holds =
        among_carried asked local stays name containers arguments variables symbols states after (loops_at here state) (loops_at there to) (loops_wider state to stands) no_scopes items holds

    module _ (holds : HoldsInStates asked here 0 states) where
      held_at_state : (state : ℕ) → state < count_states states → HoldsState asked here state (items_at states state) (exits_at states state)
      held_at_state state below = subst (λ number. HoldsState asked here number (items_at states state) (exits_at states state)) (behind_none state) (each_state asked here 0 states holds state below)

      -- a state that is none of the two
      state_apart : (state : ℕ) → state ≢ first → state ≢ second → state < count_states states →
          HoldsState asked there (lowered second state) (items_at after (lowered second state)) (exits_at after (lowered second state))
      state_apart state other stays below =
          let held = held_at_state state below in
          let stands : moved first second state ≡ lowered second state = moved_apart first second state stays in
          subst (λ items. HoldsState asked there (lowered second state) items (exits_at after (lowered second state))) (sym (items_apart first second states fusible state other stays))
          (subst (λ exits. HoldsState asked there (lowered second state) (items_at states state) exits) (sym (exits_apart first second states fusible state other stays)) (
            leaving_carried state (lowered second state) stands (items_at states state) (items_at states state) (exits_at states state) held.0,
            items_carried state (lowered second state) stands (items_at states state) held.1,
          ))

      -- the two as one
      state_both : HoldsState asked there (lowered second first) (items_at after (lowered second first)) (exits_at after (lowered second first))
      state_both =
          let first_there : first < count_states states = exit_there states first (plain_exit second) [] fusible.step in
          let before = held_at_state first first_there in
          let held = held_at_state second second_there in
          let both : ItemTrees = items_then (items_at states first) (items_at states second) in
          let to : ℕ = lowered second first in
          subst (λ items. HoldsState asked there to items (exits_at after to)) (sym (items_both first second states fusible))
          (subst (λ exits. HoldsState asked there to both exits) (sym (exits_both first second states fusible)) (
            leaving_carried second to (moved_second first second) (items_at states second) both (exits_at states second) held.0,
            among_then asked there (loops_at there to) no_scopes (items_at states first) (items_at states second)
                (items_carried first to (moved_apart first second first fusible.apart) (items_at states first) before.1)
                (items_carried second to (moved_second first second) (items_at states second) held.1),
          ))

      state_after : (state : ℕ) → state ≢ second → state < count_states states → HoldsState asked there (lowered second state) (items_at after (lowered second state)) (exits_at after (lowered second state))
      state_after state stays below = by (is_same_state state first)
        where
          by : (state ≡ first) ⊎ (state ≢ first) → HoldsState asked there (lowered second state) (items_at after (lowered second state)) (exits_at after (lowered second state))
          by (inl same) = subst (λ state. HoldsState asked there (lowered second state) (items_at after (lowered second state)) (exits_at after (lowered second state))) (sym same) state_both
          by (inr other) = state_apart state other stays below

      pub states_after : HoldsInStates asked there 0 after
      states_after = all_states asked there 0 after (λ state below.
          subst (λ number. HoldsState asked there number (items_at after state) (exits_at after state)) (sym (behind_none state))
          (subst (λ state. HoldsState asked there state (items_at after state) (exits_at after state)) (lowered_raised second state)
          (state_after (raised second state) (raised_stays second state) (raised_below second state states (omega (arith, below, count_fused first second states fusible))))))

  pub fused_keeps : (asked : Asked) → IsLocal asked → StaysWider asked → IsSeen asked → (tree : GraphTree) → AreFusibleThere first second tree → HoldsAll asked tree → HoldsAll asked (graph_fused first second tree)
  fused_keeps asked local stays seen (graph name containers arguments variables symbols states) fusible holds = (
    local.head name containers arguments variables symbols states (fused first second states) [] no_scopes whole ∙ holds.0,
    states_after asked local stays seen name containers arguments variables symbols states fusible.0 fusible.1 holds.1,
  )
