-- Work that is done with so many transitions and takes is done with more.
use Rattle.std.proofs.Common.{◌≡◌, ℕ, zero, suc, ℤ, List, [], ◌∷◌, drop, Option, Some, None, option_map, Result, Ok, Err, Bool, true, false, refl, sym, ◌∙◌, ap}
use Rattle.sd_work.specs.Memory.{Memories, waiting}
use Rattle.sd_work.specs.Change.{take, apply}
use Rattle.sd_work.specs.Move.{Fault}
use Rattle.sd_work.specs.Exit.{Values, Exit, first_exit}
use Rattle.sd_work.specs.Residual.{Term, leaf, list, owning, nested, ended, pool, Terms, none, also, Actives, idle, busy}
use Rattle.sd_work.specs.BigStep.{Reached, Coming, reached, and_then, spending, leaving, after_exit, after_oldest, big_step, big_parts, big_active, big_states, big_takes}
use Rattle.sd_alike.specs.alike.Lift.{as_it_is}
use Rattle.sd_alike.specs.alike.SameWork.{done_of, reached_in, EndsSame}
use Rattle.sd_alike.proofs.alike_lemmas.SameLeaf.{then_done, done_then}
use Rattle.sd_statex.specs.states.Reaching.{Reaches, GoesTo, DoesWith, DoWith, AtMost, nothing_more, one_more, twice}

-- ---- bounds

pub at_most_same : (most : ℕ) → AtMost most most
at_most_same zero = nothing_more
at_most_same (suc most) = one_more (at_most_same most)

pub at_most_next : (most more : ℕ) → AtMost most more → AtMost most (suc more)
at_most_next zero more below = nothing_more
at_most_next (suc most) zero below = elim below [ ]
at_most_next (suc most) (suc more) (one_more below) = one_more (at_most_next most more below)

pub at_most_less : (most more : ℕ) → AtMost (suc most) more → AtMost most more
at_most_less most zero below = elim below [ ]
at_most_less most (suc more) (one_more below) = at_most_next most more below

pub at_most_twice : (most : ℕ) → AtMost most (twice most)
at_most_twice zero = nothing_more
at_most_twice (suc most) = one_more (at_most_next most (twice most) (at_most_twice most))

-- ---- work one after another

pub nothing_done : {A : Type 0} (now : Reached) → None ≡ Some now → A
nothing_done now is = absurd (none now is)
  where
    none : (now : Reached) → None ≡ Some now → ⊥
    none now is = cc

rest_reached : {P Q : Type 0} (done : Option Reached) (other : Option Reached) (rest : Memories → ℕ → Coming P) (others : Memories → ℕ → Coming Q) →
    ((now : Reached) → done ≡ Some now → other ≡ Some now) → GoesTo rest others → (now : Reached) → then_done done rest ≡ Some now → then_done other others ≡ Some now
rest_reached None other rest others same goes now is = nothing_done now is
rest_reached (Some mid) other rest others same goes now is = ap (λ done. then_done done others) (same mid refl) ∙ goes mid.memories mid.turns now is

pub reach_then : {P Q : Type 0} (coming : Coming P) (other : Coming Q) (rest : Memories → ℕ → Coming P) (others : Memories → ℕ → Coming Q) →
    Reaches coming other → GoesTo rest others → Reaches (and_then coming rest) (and_then other others)
reach_then coming other rest others same goes now is =
    done_then other others ∙ rest_reached (done_of coming) (done_of other) rest others same goes now (sym (done_then coming rest) ∙ is)

pub reach_leaving : {P Q : Type 0} (coming : Coming P) (other : Coming Q) → Reaches coming other → Reaches (leaving coming) (leaving other)
reach_leaving coming other same = reach_then coming other (λ memories turns. reached (drop 1 memories) turns) (λ memories turns. reached (drop 1 memories) turns) same (λ memories turns now is. is)

pub reach_spending : {P Q : Type 0} (turn : Bool) (turns : ℕ) (rest : ℕ → Coming P) (others : ℕ → Coming Q) → ((turns : ℕ) → Reaches (rest turns) (others turns)) → Reaches (spending turn turns rest) (spending turn turns others)
reach_spending true zero rest others h = λ now is. nothing_done now is
reach_spending true (suc turns) rest others h = h turns
reach_spending false turns rest others h = h turns

-- ---- the same work with more transitions and takes

exit_more : {P : Type 0} (found : Result (Option (Exit P)) (Fault P)) (memories : Memories) (turns : ℕ) (rest others : Exit P → ℕ → Coming P) →
    ((exit : Exit P) (turns : ℕ) → Reaches (rest exit turns) (others exit turns)) → Reaches (after_exit found memories turns rest) (after_exit found memories turns others)
exit_more (Err fault) memories turns rest others h = λ now is. nothing_done now is
exit_more (Ok None) memories turns rest others h = λ now is. is
exit_more (Ok (Some exit)) memories turns rest others h = reach_spending exit.marked turns (rest exit) (others exit) (h exit)

states_more : {P : Type 0} (most more : ℕ) → AtMost most more → (run other : ℕ → Values → Memories → ℕ → Coming P) (exits : ℕ → Values → List (Exit P)) → ((state : ℕ) (values : Values) → GoesTo (run state values) (other state values)) →
    (state : ℕ) (values : Values) → GoesTo (big_states most run exits state values) (big_states more other exits state values)
states_more zero more below run other exits goes state values = λ memories turns now is. nothing_done now is
states_more (suc most) zero below run other exits goes state values = elim below [ ]
states_more (suc most) (suc more) (one_more below) run other exits goes state values = λ memories turns.
    exit_more (first_exit (exits state values) memories) memories turns
    (λ exit turns. and_then (run exit.state exit.values memories turns) (big_states most run exits exit.state exit.values))
    (λ exit turns. and_then (other exit.state exit.values memories turns) (big_states more other exits exit.state exit.values))
    (λ exit turns. reach_then (run exit.state exit.values memories turns) (other exit.state exit.values memories turns) (big_states most run exits exit.state exit.values) (big_states more other exits exit.state exit.values)
    (goes exit.state exit.values memories turns) (states_more most more below run other exits goes exit.state exit.values))

pub oldest_reached : {P Q : Type 0} (values : List ℤ) (memories : Memories) (turns : ℕ) (rest : ℤ → Coming P) (others : ℤ → Coming Q) → ((value : ℤ) → Reaches (rest value) (others value)) →
    Reaches (after_oldest values memories turns rest) (after_oldest values memories turns others)
oldest_reached [] memories turns rest others h = λ now is. is
oldest_reached (value ∷ values) memories turns rest others h = h value

pub takes_reached : {P Q : Type 0} (most more : ℕ) → AtMost most more → (level container : ℕ) (run : ℤ → Memories → ℕ → Coming P) (other : ℤ → Memories → ℕ → Coming Q) → ((value : ℤ) → GoesTo (run value) (other value)) →
    GoesTo (big_takes most level container run) (big_takes more level container other)
takes_reached zero more below level container run other goes = λ memories turns now is. nothing_done now is
takes_reached (suc most) zero below level container run other goes = elim below [ ]
takes_reached (suc most) (suc more) (one_more below) level container run other goes = λ memories turns.
    oldest_reached (waiting level container memories) memories turns
    (λ value. and_then (run value (apply (take level container 0) memories) turns) (big_takes most level container run))
    (λ value. and_then (other value (apply (take level container 0) memories) turns) (big_takes more level container other))
    (λ value. reach_then (run value (apply (take level container 0) memories) turns) (other value (apply (take level container 0) memories) turns) (big_takes most level container run) (big_takes more level container other)
    (goes value (apply (take level container 0) memories) turns) (takes_reached most more below level container run other goes))

mutual
  pub more_is_enough : {P : Type 0} (term : Term P) (most more : ℕ) → AtMost most more → DoesWith most term more term
  more_is_enough (leaf place work) most more below = λ memories turns now is. is
  more_is_enough (list kind before parts) most more below = more_for_parts parts most more below
  more_is_enough (owning own part) most more below = λ memories turns.
      reach_leaving (big_step part most (own ∷ memories) turns) (big_step part more (own ∷ memories) turns) (more_is_enough part most more below (own ∷ memories) turns)
  more_is_enough (nested body exits own state values part) most more below = λ memories turns.
      reach_leaving (and_then (big_step part most (own ∷ memories) turns) (big_states most (λ state values. big_step (body state values) most) exits state values))
      (and_then (big_step part more (own ∷ memories) turns) (big_states more (λ state values. big_step (body state values) more) exits state values))
      (reach_then (big_step part most (own ∷ memories) turns) (big_step part more (own ∷ memories) turns)
      (big_states most (λ state values. big_step (body state values) most) exits state values) (big_states more (λ state values. big_step (body state values) more) exits state values)
      (more_is_enough part most more below (own ∷ memories) turns)
      (states_more most more below (λ state values. big_step (body state values) most) (λ state values. big_step (body state values) more) exits (λ state values. more_is_enough (body state values) most more below) state values))
  more_is_enough (ended own) most more below = λ memories turns now is. is
  more_is_enough (pool level container body active true) most more below = λ memories turns now is. is
  more_is_enough (pool level container body active false) most more below = λ memories turns.
      reach_then (big_active active most memories turns) (big_active active more memories turns)
      (big_takes most level container (λ value. big_step (body value) most)) (big_takes more level container (λ value. big_step (body value) more))
      (more_for_active active most more below memories turns)
      (takes_reached most more below level container (λ value. big_step (body value) most) (λ value. big_step (body value) more) (λ value. more_is_enough (body value) most more below))

  pub more_for_parts : {P : Type 0} (parts : Terms P) (most more : ℕ) → AtMost most more → DoWith most parts more parts
  more_for_parts none most more below = λ memories turns now is. is
  more_for_parts (also part parts) most more below = λ memories turns.
      reach_then (big_step part most memories turns) (big_step part more memories turns) (big_parts parts most) (big_parts parts more) (more_is_enough part most more below memories turns) (more_for_parts parts most more below)

  more_for_active : {P : Type 0} (active : Actives P) (most more : ℕ) → AtMost most more → GoesTo (big_active active most) (big_active active more)
  more_for_active idle most more below = λ memories turns now is. is
  more_for_active (busy value part active) most more below = λ memories turns.
      reach_then (big_step part most memories turns) (big_step part more memories turns) (big_active active most) (big_active active more) (more_is_enough part most more below memories turns) (more_for_active active most more below)

-- ---- work that is the same

as_it_was : (done : Option Reached) → option_map (reached_in as_it_is) done ≡ done
as_it_was None = refl
as_it_was (Some now) = refl

pub same_reaches : {P Q : Type 0} (coming : Coming P) (other : Coming Q) → EndsSame as_it_is coming other → Reaches coming other
same_reaches coming other same now is = same ∙ as_it_was (done_of coming) ∙ is

pub same_reaches_back : {P Q : Type 0} (coming : Coming P) (other : Coming Q) → EndsSame as_it_is coming other → Reaches other coming
same_reaches_back coming other same now is = sym (same ∙ as_it_was (done_of coming)) ∙ is

pub reach_on : {P Q R : Type 0} (coming : Coming P) (other : Coming Q) (third : Coming R) → Reaches coming other → Reaches other third → Reaches coming third
reach_on coming other third same next now is = next now (same now is)
