-- A graph with two of its states fused: its states, its transitions, and its runs.
use Rattle.std.proofs.Common.{◌≡◌, ◌≢◌, ℕ, zero, suc, pos, List, [], ◌∷◌, map, length, replicate, refl, sym, ◌∙◌, ap, subst}
use Rattle.sd_work.specs.Memory.{Memory, Memories}
use Rattle.sd_work.specs.Exit.{Values, Exit, first_exit}
use Rattle.sd_work.specs.BigStep.{Coming, and_then, big_step, big_parts, big_states}
use Rattle.sd_graph.specs.PlainTree.{ItemTrees, StateTrees, no_state, and_state, graph}
use Rattle.sd_graph.specs.TreeParts.{items_at, exits_at}
use Rattle.sd_graph.specs.ContainerParts.{Containers}
use Rattle.sd_graph.specs.Context.{Reach, Context}
use Rattle.sd_graph.specs.Unfold.{at_state, exit_of, unfold_items, unfold_state, unfold_graph}
use Rattle.sd_graph.specs.declared.place.Frame.{Frame}
use Rattle.sd_graph.specs.declared.place.Place.{Place}
use Rattle.sd_alike.specs.alike.Lift.{as_it_is, reach_in}
use Rattle.sd_alike.specs.alike.SameWork.{AgreeBelow}
use Rattle.sd_alike.specs.alike.Alike.{ItemsBelow, StatesBelow, AreAlike}
use Rattle.sd_alike.specs.alike.Places.{items_then}
use Rattle.sd_alike.proofs.alike_lemmas.SameTrees.{exits_below, items_same}
use Rattle.sd_alike.proofs.alike_lemmas.SamePlaces.{big_then, items_unfold_then, run_step}
use Rattle.sd_statex.specs.states.FusedStates.{lowered, fused, AreFusible}
use Rattle.sd_statex.specs.states.Reaching.{Reaches, GoesTo, AtMost, twice}
use Rattle.sd_statex.proofs.states_lemmas.More.{reach_then, reach_on, same_reaches, same_reaches_back, more_for_parts}
use Rattle.sd_statex.proofs.states_lemmas.StatesFused.{FoundLowered, plain_step, fused_reaches, fused_reaches_back}
use Rattle.sd_statex.proofs.states_lemmas.FusedParts.{items_apart, exits_apart, items_both, exits_both, found_lowered}

-- ---- runs of states

pub items_below_at : (count : ℕ) (states : StateTrees) (state : ℕ) → StatesBelow count states → ItemsBelow count (items_at states state)
items_below_at count no_state state below = tt
items_below_at count (and_state items exits states) zero below = below.0
items_below_at count (and_state items exits states) (suc state) below = items_below_at count states state below.1.1

state_step : (states : StateTrees) (state : ℕ) (context : Context) (most : ℕ) (memories : Memories) (turns : ℕ) →
    big_step (unfold_state states state context) most memories turns ≡ big_parts (unfold_items (items_at states state) context) most memories turns
state_step no_state state context most memories turns = refl
state_step (and_state items exits states) zero context most memories turns = refl
state_step (and_state items exits states) (suc state) context most memories turns = state_step states state context most memories turns

items_reach : (most more : ℕ) → AtMost most more → (items : ItemTrees) (count : ℕ) (context other : Context) → ItemsBelow count items → AreAlike as_it_is count context other →
    GoesTo (big_parts (unfold_items items context) most) (big_parts (unfold_items items other) more)
items_reach most more enough items count context other below alike memories turns =
    reach_on (big_parts (unfold_items items context) most memories turns) (big_parts (unfold_items items other) most memories turns) (big_parts (unfold_items items other) more memories turns)
    (same_reaches (big_parts (unfold_items items context) most memories turns) (big_parts (unfold_items items other) most memories turns) (items_same most items as_it_is count context other below alike memories turns))
    (more_for_parts (unfold_items items other) most more enough memories turns)

items_reach_back : (most more : ℕ) → AtMost most more → (items : ItemTrees) (count : ℕ) (context other : Context) → ItemsBelow count items → AreAlike as_it_is count context other →
    GoesTo (big_parts (unfold_items items other) most) (big_parts (unfold_items items context) more)
items_reach_back most more enough items count context other below alike memories turns =
    reach_on (big_parts (unfold_items items other) most memories turns) (big_parts (unfold_items items context) most memories turns) (big_parts (unfold_items items context) more memories turns)
    (same_reaches_back (big_parts (unfold_items items context) most memories turns) (big_parts (unfold_items items other) most memories turns) (items_same most items as_it_is count context other below alike memories turns))
    (more_for_parts (unfold_items items context) most more enough memories turns)

lowered_first : (gone : ℕ) → gone ≢ 0 → lowered gone 0 ≡ 0
lowered_first zero later = absurd (later refl)
lowered_first (suc gone) later = refl

module _ (first second : ℕ) (name : List ℕ) (containers : Containers) (arguments : ℕ) (variables : List (List ℕ)) (symbols : ℕ) (states : StateTrees)
    (fusible : AreFusible first second states) (below : StatesBelow (length variables) states)
    (reach other : ℕ → Reach) (own : Memory) (around other_around : List Frame) (reaches : (number : ℕ) → other number ≡ reach_in as_it_is (reach number))
  where
    abbrev count : ℕ
    count = length variables

    abbrev after : StateTrees
    after = fused first second states

    abbrev here : ℕ → Values → Context
    here = at_state containers variables states reach around

    abbrev there : ℕ → Values → Context
    there = at_state containers variables after other other_around

    abbrev run : (most : ℕ) → ℕ → Values → Memories → ℕ → Coming Place
    run most state values = big_step (unfold_state states state (here state values)) most

    abbrev other_run : (most : ℕ) → ℕ → Values → Memories → ℕ → Coming Place
    other_run most state values = big_step (unfold_state after state (there state values)) most

    abbrev exits : ℕ → Values → List (Exit Place)
    exits state values = map (exit_of (here state values)) (exits_at states state)

    abbrev other_exits : ℕ → Values → List (Exit Place)
    other_exits state values = map (exit_of (there state values)) (exits_at after state)

    alike : (state to : ℕ) (values other_values : Values) → AgreeBelow count values other_values → AreAlike as_it_is count (here state values) (there to other_values)
    alike state to values other_values agree = record { containers = refl; values = agree; reach = reaches }

    step_taken : (values : Values) → exits first values ≡ plain_step second values ∷ []
    step_taken values = ap (map (exit_of (here first values))) fusible.step

    found_apart : (state : ℕ) (values other_values : Values) → state ≢ first → state ≢ second → AgreeBelow count values other_values → (memories : Memories) →
        FoundLowered second count (first_exit (exits state values) memories) (first_exit (other_exits (lowered second state) other_values) memories)
    found_apart state values other_values differs stays agree memories =
        subst (λ new. FoundLowered second count (first_exit (exits state values) memories) (first_exit (map (exit_of (there (lowered second state) other_values)) new) memories))
        (sym (exits_apart first second states fusible state differs stays))
        (found_lowered second count (here state values) (there (lowered second state) other_values) (alike state (lowered second state) values other_values agree) (exits_at states state)
        (exits_below count states state below) (fusible.entry state differs) memories)

    found_behind : (values other_values : Values) → AgreeBelow count values other_values → (memories : Memories) →
        FoundLowered second count (first_exit (exits second values) memories) (first_exit (other_exits (lowered second first) other_values) memories)
    found_behind values other_values agree memories =
        subst (λ new. FoundLowered second count (first_exit (exits second values) memories) (first_exit (map (exit_of (there (lowered second first) other_values)) new) memories))
        (sym (exits_both first second states fusible))
        (found_lowered second count (here second values) (there (lowered second first) other_values) (alike second (lowered second first) values other_values agree) (exits_at states second)
        (exits_below count states second below) (fusible.entry second (λ same. fusible.apart (sym same))) memories)

    -- what a state is, and what it is then
    run_is : (most state : ℕ) (values : Values) (memories : Memories) (turns : ℕ) → run most state values memories turns ≡ big_parts (unfold_items (items_at states state) (here state values)) most memories turns
    run_is most state values memories turns = state_step states state (here state values) most memories turns

    other_run_is : (most state : ℕ) (values : Values) (items : ItemTrees) → items_at after state ≡ items → (memories : Memories) (turns : ℕ) →
        other_run most state values memories turns ≡ big_parts (unfold_items items (there state values)) most memories turns
    other_run_is most state values items same memories turns =
        state_step after state (there state values) most memories turns ∙ ap (λ items. big_parts (unfold_items items (there state values)) most memories turns) same

    -- the items of both, one after another
    two_are : (most : ℕ) (values other_values : Values) (memories : Memories) (turns : ℕ) →
        other_run most (lowered second first) other_values memories turns
        ≡ and_then (big_parts (unfold_items (items_at states first) (there (lowered second first) other_values)) most memories turns) (big_parts (unfold_items (items_at states second) (there (lowered second first) other_values)) most)
    two_are most values other_values memories turns =
        other_run_is most (lowered second first) other_values (items_then (items_at states first) (items_at states second)) (items_both first second states fusible) memories turns
        ∙ ap (λ parts. big_parts parts most memories turns) (items_unfold_then (items_at states first) (items_at states second) (there (lowered second first) other_values))
        ∙ big_then (unfold_items (items_at states first) (there (lowered second first) other_values)) (unfold_items (items_at states second) (there (lowered second first) other_values)) most memories turns

    two_were : (most : ℕ) (values : Values) (memories : Memories) (turns : ℕ) →
        and_then (run most first values memories turns) (run most second values)
        ≡ and_then (big_parts (unfold_items (items_at states first) (here first values)) most memories turns) (big_parts (unfold_items (items_at states second) (here second values)) most)
    two_were most values memories turns = λ i. and_then (run_is most first values memories turns i) (λ memories turns. run_is most second values memories turns i)

    module _ (most more : ℕ) (enough : AtMost most more) where
      apart_reaches : (state : ℕ) (values other_values : Values) → state ≢ first → state ≢ second → AgreeBelow count values other_values → GoesTo (run most state values) (other_run more (lowered second state) other_values)
      apart_reaches state values other_values differs stays agree memories turns =
          subst (λ coming. Reaches coming (other_run more (lowered second state) other_values memories turns)) (sym (run_is most state values memories turns))
          (subst (λ coming. Reaches (big_parts (unfold_items (items_at states state) (here state values)) most memories turns) coming)
          (sym (other_run_is more (lowered second state) other_values (items_at states state) (items_apart first second states fusible state differs stays) memories turns))
          (items_reach most more enough (items_at states state) count (here state values) (there (lowered second state) other_values) (items_below_at count states state below) (alike state (lowered second state) values other_values agree) memories turns))

      apart_reaches_back : (state : ℕ) (values other_values : Values) → state ≢ first → state ≢ second → AgreeBelow count values other_values → GoesTo (other_run most (lowered second state) other_values) (run more state values)
      apart_reaches_back state values other_values differs stays agree memories turns =
          subst (λ coming. Reaches (other_run most (lowered second state) other_values memories turns) coming) (sym (run_is more state values memories turns))
          (subst (λ coming. Reaches coming (big_parts (unfold_items (items_at states state) (here state values)) more memories turns))
          (sym (other_run_is most (lowered second state) other_values (items_at states state) (items_apart first second states fusible state differs stays) memories turns))
          (items_reach_back most more enough (items_at states state) count (here state values) (there (lowered second state) other_values) (items_below_at count states state below) (alike state (lowered second state) values other_values agree) memories turns))

      both_reach : (values other_values : Values) → AgreeBelow count values other_values → GoesTo (λ memories turns. and_then (run most first values memories turns) (run most second values)) (other_run more (lowered second first) other_values)
      both_reach values other_values agree memories turns =
          subst (λ coming. Reaches coming (other_run more (lowered second first) other_values memories turns)) (sym (two_were most values memories turns))
          (subst (λ coming. Reaches (and_then (big_parts (unfold_items (items_at states first) (here first values)) most memories turns) (big_parts (unfold_items (items_at states second) (here second values)) most)) coming)
          (sym (two_are more values other_values memories turns))
          (reach_then (big_parts (unfold_items (items_at states first) (here first values)) most memories turns) (big_parts (unfold_items (items_at states first) (there (lowered second first) other_values)) more memories turns)
          (big_parts (unfold_items (items_at states second) (here second values)) most) (big_parts (unfold_items (items_at states second) (there (lowered second first) other_values)) more)
          (items_reach most more enough (items_at states first) count (here first values) (there (lowered second first) other_values) (items_below_at count states first below) (alike first (lowered second first) values other_values agree) memories turns)
          (items_reach most more enough (items_at states second) count (here second values) (there (lowered second first) other_values) (items_below_at count states second below) (alike second (lowered second first) values other_values agree))))

      both_reach_back : (values other_values : Values) → AgreeBelow count values other_values → GoesTo (other_run most (lowered second first) other_values) (λ memories turns. and_then (run more first values memories turns) (run more second values))
      both_reach_back values other_values agree memories turns =
          subst (λ coming. Reaches (other_run most (lowered second first) other_values memories turns) coming) (sym (two_were more values memories turns))
          (subst (λ coming. Reaches coming (and_then (big_parts (unfold_items (items_at states first) (here first values)) more memories turns) (big_parts (unfold_items (items_at states second) (here second values)) more)))
          (sym (two_are most values other_values memories turns))
          (reach_then (big_parts (unfold_items (items_at states first) (there (lowered second first) other_values)) most memories turns) (big_parts (unfold_items (items_at states first) (here first values)) more memories turns)
          (big_parts (unfold_items (items_at states second) (there (lowered second first) other_values)) most) (big_parts (unfold_items (items_at states second) (here second values)) more)
          (items_reach_back most more enough (items_at states first) count (here first values) (there (lowered second first) other_values) (items_below_at count states first below) (alike first (lowered second first) values other_values agree) memories turns)
          (items_reach_back most more enough (items_at states second) count (here second values) (there (lowered second first) other_values) (items_below_at count states second below) (alike second (lowered second first) values other_values agree))))

    abbrev opening : Values
    opening = replicate count (pos 0)

    -- where a run with two states is done, the run with one is
    pub run_reaches : (most more : ℕ) → AtMost most more →
        GoesTo (run_step (unfold_graph (graph name containers arguments variables symbols states) reach own around) most) (run_step (unfold_graph (graph name containers arguments variables symbols after) other own other_around) more)
    run_reaches most more enough memories turns =
        subst (λ begin. Reaches (run_step (unfold_graph (graph name containers arguments variables symbols states) reach own around) most memories turns)
        (and_then (other_run more begin opening (own ∷ memories) turns) (big_states more (other_run more) other_exits begin opening)))
        (lowered_first second fusible.later)
        (fused_reaches first second count (run most) (other_run more) exits other_exits step_taken found_apart found_behind (apart_reaches most more enough) (both_reach most more enough)
        most more enough 0 (λ same. fusible.later (sym same)) opening opening (λ variable below. refl) (own ∷ memories) turns)

    -- and where the run with one is done, the run with two is, with twice as many transitions and one more
    pub run_reaches_back : (most more : ℕ) → AtMost most more → AtMost (suc (twice most)) more →
        GoesTo (run_step (unfold_graph (graph name containers arguments variables symbols after) other own other_around) most) (run_step (unfold_graph (graph name containers arguments variables symbols states) reach own around) more)
    run_reaches_back most more enough doubled memories turns =
        subst (λ begin. Reaches (and_then (other_run most begin opening (own ∷ memories) turns) (big_states most (other_run most) other_exits begin opening))
        (run_step (unfold_graph (graph name containers arguments variables symbols states) reach own around) more memories turns))
        (lowered_first second fusible.later)
        (fused_reaches_back first second count (run more) (other_run most) exits other_exits step_taken found_apart found_behind (apart_reaches_back most more enough) (both_reach_back most more enough)
        most more doubled 0 (λ same. fusible.later (sym same)) opening opening (λ variable below. refl) (own ∷ memories) turns)
