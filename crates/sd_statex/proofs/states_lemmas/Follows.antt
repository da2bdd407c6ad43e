-- Work that is done where other work is done, in one of two directions, part by part.
use Rattle.std.proofs.Common.{ℕ, zero, suc, ℤ, List, ◌∷◌, Option, Some, None, Result, Ok, Err, Bool, true, false, sym, subst}
use Rattle.sd_work.specs.Memory.{Memory, Memories}
use Rattle.sd_work.specs.Move.{Fault}
use Rattle.sd_work.specs.Exit.{Values, Exit, first_exit}
use Rattle.sd_work.specs.Residual.{Term, owning, pool, Terms, also, idle}
use Rattle.sd_work.specs.BigStep.{Coming, and_then, after_exit, big_step, big_parts, big_states}
use Rattle.sd_alike.specs.alike.Lift.{as_it_is}
use Rattle.sd_alike.specs.alike.SameWork.{DoesSame, DoSame, AgreeBelow, IsExitSame}
use Rattle.sd_alike.proofs.alike_lemmas.SameTerms.{FoundSame, found_same, TransitionsSame}
use Rattle.sd_statex.specs.states.Reaching.{Reaches, GoesTo, AtMost, one_more}
use Rattle.sd_statex.proofs.states_lemmas.More.{nothing_done, reach_then, reach_leaving, reach_spending, reach_on, takes_reached, more_is_enough, more_for_parts, same_reaches, same_reaches_back}

-- forward: where one is done, the other is; else where the other is done, the one is
abbrev pub Follow : {P Q : Type 0} → (forward : Bool) → (go go_more : Memories → ℕ → Coming P) → (other other_more : Memories → ℕ → Coming Q) → Type 0
Follow true go go_more other other_more = GoesTo go other_more
Follow false go go_more other other_more = GoesTo other go_more

abbrev pub TermFollows : {P Q : Type 0} → (forward : Bool) → (most more : ℕ) → Term P → Term Q → Type 0
TermFollows forward most more term other = Follow forward (big_step term most) (big_step term more) (big_step other most) (big_step other more)

abbrev pub PartsFollow : {P Q : Type 0} → (forward : Bool) → (most more : ℕ) → Terms P → Terms Q → Type 0
PartsFollow forward most more parts others = Follow forward (big_parts parts most) (big_parts parts more) (big_parts others most) (big_parts others more)

pub same_follows : {P Q : Type 0} (forward : Bool) (most more : ℕ) → AtMost most more → (term : Term P) (other : Term Q) → DoesSame most as_it_is term other → TermFollows forward most more term other
same_follows true most more enough term other same = λ memories turns.
    reach_on (big_step term most memories turns) (big_step other most memories turns) (big_step other more memories turns)
    (same_reaches (big_step term most memories turns) (big_step other most memories turns) (same memories turns)) (more_is_enough other most more enough memories turns)
same_follows false most more enough term other same = λ memories turns.
    reach_on (big_step other most memories turns) (big_step term most memories turns) (big_step term more memories turns)
    (same_reaches_back (big_step term most memories turns) (big_step other most memories turns) (same memories turns)) (more_is_enough term most more enough memories turns)

pub same_follow : {P Q : Type 0} (forward : Bool) (most more : ℕ) → AtMost most more → (parts : Terms P) (others : Terms Q) → DoSame most as_it_is parts others → PartsFollow forward most more parts others
same_follow true most more enough parts others same = λ memories turns.
    reach_on (big_parts parts most memories turns) (big_parts others most memories turns) (big_parts others more memories turns)
    (same_reaches (big_parts parts most memories turns) (big_parts others most memories turns) (same memories turns)) (more_for_parts others most more enough memories turns)
same_follow false most more enough parts others same = λ memories turns.
    reach_on (big_parts others most memories turns) (big_parts parts most memories turns) (big_parts parts more memories turns)
    (same_reaches_back (big_parts parts most memories turns) (big_parts others most memories turns) (same memories turns)) (more_for_parts parts most more enough memories turns)

pub also_follows : {P Q : Type 0} (forward : Bool) (most more : ℕ) (part : Term P) (other : Term Q) (parts : Terms P) (others : Terms Q) →
    TermFollows forward most more part other → PartsFollow forward most more parts others → PartsFollow forward most more (also part parts) (also other others)
also_follows true most more part other parts others first rest = λ memories turns. reach_then (big_step part most memories turns) (big_step other more memories turns) (big_parts parts most) (big_parts others more) (first memories turns) rest
also_follows false most more part other parts others first rest = λ memories turns. reach_then (big_step other most memories turns) (big_step part more memories turns) (big_parts others most) (big_parts parts more) (first memories turns) rest

pub owning_follows : {P Q : Type 0} (forward : Bool) (most more : ℕ) (own : Memory) (part : Term P) (other : Term Q) → TermFollows forward most more part other → TermFollows forward most more (owning own part) (owning own other)
owning_follows true most more own part other follows = λ memories turns. reach_leaving (big_step part most (own ∷ memories) turns) (big_step other more (own ∷ memories) turns) (follows (own ∷ memories) turns)
owning_follows false most more own part other follows = λ memories turns. reach_leaving (big_step other most (own ∷ memories) turns) (big_step part more (own ∷ memories) turns) (follows (own ∷ memories) turns)

pub pool_follows : {P Q : Type 0} (forward : Bool) (most more : ℕ) → AtMost most more → (level container : ℕ) (body : ℤ → Term P) (other : ℤ → Term Q) →
    ((value : ℤ) → TermFollows forward most more (body value) (other value)) → TermFollows forward most more (pool level container body idle false) (pool level container other idle false)
pool_follows true most more enough level container body other follows = λ memories turns.
    takes_reached most more enough level container (λ value. big_step (body value) most) (λ value. big_step (other value) more) follows memories turns
pool_follows false most more enough level container body other follows = λ memories turns.
    takes_reached most more enough level container (λ value. big_step (other value) most) (λ value. big_step (body value) more) follows memories turns

-- ---- states

exit_reaches : {P Q : Type 0} (count : ℕ) (found : Result (Option (Exit P)) (Fault P)) (other : Result (Option (Exit Q)) (Fault Q)) (memories : Memories) (turns : ℕ)
    (rest : Exit P → ℕ → Coming P) (others : Exit Q → ℕ → Coming Q) → FoundSame as_it_is count found other →
    ((exit : Exit P) (exit' : Exit Q) → IsExitSame as_it_is count exit exit' → (turns : ℕ) → Reaches (rest exit turns) (others exit' turns)) → Reaches (after_exit found memories turns rest) (after_exit other memories turns others)
exit_reaches count (Ok None) (Ok None) memories turns rest others same h = λ now is. is
exit_reaches count (Ok None) (Ok (Some exit')) memories turns rest others same h = elim same [ ]
exit_reaches count (Ok None) (Err fault) memories turns rest others same h = elim same [ ]
exit_reaches count (Ok (Some exit)) (Ok None) memories turns rest others same h = elim same [ ]
exit_reaches count (Ok (Some exit)) (Ok (Some exit')) memories turns rest others same h =
    subst {A = Bool} (λ marked. Reaches (after_exit (Ok (Some exit)) memories turns rest) (after_exit (Ok (Some (record exit' { marked = marked }))) memories turns (λ exit turns. others exit' turns))) (sym same.marked)
    (reach_spending exit.marked turns (rest exit) (others exit') (h exit exit' same))
exit_reaches count (Ok (Some exit)) (Err fault) memories turns rest others same h = elim same [ ]
exit_reaches count (Err fault) (Ok found) memories turns rest others same h = elim same [ ]
exit_reaches count (Err fault) (Err other) memories turns rest others same h = λ now is. nothing_done now is

exit_reaches_back : {P Q : Type 0} (count : ℕ) (found : Result (Option (Exit P)) (Fault P)) (other : Result (Option (Exit Q)) (Fault Q)) (memories : Memories) (turns : ℕ)
    (rest : Exit P → ℕ → Coming P) (others : Exit Q → ℕ → Coming Q) → FoundSame as_it_is count found other →
    ((exit : Exit P) (exit' : Exit Q) → IsExitSame as_it_is count exit exit' → (turns : ℕ) → Reaches (others exit' turns) (rest exit turns)) → Reaches (after_exit other memories turns others) (after_exit found memories turns rest)
exit_reaches_back count (Ok None) (Ok None) memories turns rest others same h = λ now is. is
exit_reaches_back count (Ok None) (Ok (Some exit')) memories turns rest others same h = elim same [ ]
exit_reaches_back count (Ok None) (Err fault) memories turns rest others same h = elim same [ ]
exit_reaches_back count (Ok (Some exit)) (Ok None) memories turns rest others same h = elim same [ ]
exit_reaches_back count (Ok (Some exit)) (Ok (Some exit')) memories turns rest others same h =
    subst {A = Bool} (λ marked. Reaches (after_exit (Ok (Some (record exit' { marked = marked }))) memories turns (λ exit turns. others exit' turns)) (after_exit (Ok (Some exit)) memories turns rest)) (sym same.marked)
    (reach_spending exit.marked turns (others exit') (rest exit) (h exit exit' same))
exit_reaches_back count (Ok (Some exit)) (Err fault) memories turns rest others same h = elim same [ ]
exit_reaches_back count (Err fault) (Ok found) memories turns rest others same h = elim same [ ]
exit_reaches_back count (Err fault) (Err other) memories turns rest others same h = λ now is. nothing_done now is

module _ {P Q : Type 0} (count : ℕ) (exits : ℕ → Values → List (Exit P)) (others : ℕ → Values → List (Exit Q)) (ways : TransitionsSame as_it_is count exits others) where
  states_reach : (most more : ℕ) → AtMost most more → (run : ℕ → Values → Memories → ℕ → Coming P) (other : ℕ → Values → Memories → ℕ → Coming Q) →
      ((state : ℕ) (values other_values : Values) → AgreeBelow count values other_values → GoesTo (run state values) (other state other_values)) →
      (state : ℕ) (values other_values : Values) → AgreeBelow count values other_values → GoesTo (big_states most run exits state values) (big_states more other others state other_values)
  states_reach zero more below run other goes state values other_values agree = λ memories turns now is. nothing_done now is
  states_reach (suc most) zero below run other goes state values other_values agree = elim below [ ]
  states_reach (suc most) (suc more) (one_more below) run other goes state values other_values agree = λ memories turns.
      exit_reaches count (first_exit (exits state values) memories) (first_exit (others state other_values) memories) memories turns
      (λ exit turns. and_then (run exit.state exit.values memories turns) (big_states most run exits exit.state exit.values))
      (λ exit turns. and_then (other exit.state exit.values memories turns) (big_states more other others exit.state exit.values))
      (found_same as_it_is count (exits state values) (others state other_values) memories (ways state values other_values agree))
      (λ exit exit' same turns. subst (λ state. Reaches (and_then (run exit.state exit.values memories turns) (big_states most run exits exit.state exit.values))
      (and_then (other state exit'.values memories turns) (big_states more other others state exit'.values))) (sym same.state)
      (reach_then (run exit.state exit.values memories turns) (other exit.state exit'.values memories turns) (big_states most run exits exit.state exit.values) (big_states more other others exit.state exit'.values)
      (goes exit.state exit.values exit'.values same.values memories turns) (states_reach most more below run other goes exit.state exit.values exit'.values same.values)))

  states_reach_back : (most more : ℕ) → AtMost most more → (run : ℕ → Values → Memories → ℕ → Coming P) (other : ℕ → Values → Memories → ℕ → Coming Q) →
      ((state : ℕ) (values other_values : Values) → AgreeBelow count values other_values → GoesTo (other state other_values) (run state values)) →
      (state : ℕ) (values other_values : Values) → AgreeBelow count values other_values → GoesTo (big_states most other others state other_values) (big_states more run exits state values)
  states_reach_back zero more below run other goes state values other_values agree = λ memories turns now is. nothing_done now is
  states_reach_back (suc most) zero below run other goes state values other_values agree = elim below [ ]
  states_reach_back (suc most) (suc more) (one_more below) run other goes state values other_values agree = λ memories turns.
      exit_reaches_back count (first_exit (exits state values) memories) (first_exit (others state other_values) memories) memories turns
      (λ exit turns. and_then (run exit.state exit.values memories turns) (big_states more run exits exit.state exit.values))
      (λ exit turns. and_then (other exit.state exit.values memories turns) (big_states most other others exit.state exit.values))
      (found_same as_it_is count (exits state values) (others state other_values) memories (ways state values other_values agree))
      (λ exit exit' same turns. subst (λ state. Reaches (and_then (other state exit'.values memories turns) (big_states most other others state exit'.values))
      (and_then (run exit.state exit.values memories turns) (big_states more run exits exit.state exit.values))) (sym same.state)
      (reach_then (other exit.state exit'.values memories turns) (run exit.state exit.values memories turns) (big_states most other others exit.state exit'.values) (big_states more run exits exit.state exit.values)
      (goes exit.state exit.values exit'.values same.values memories turns) (states_reach_back most more below run other goes exit.state exit.values exit'.values same.values)))

-- a run from a state on, inside its owner
pub run_follows : {P Q : Type 0} (forward : Bool) (most more : ℕ) → AtMost most more → (count : ℕ) (body : ℕ → Values → Term P) (other : ℕ → Values → Term Q) (exits : ℕ → Values → List (Exit P)) (others : ℕ → Values → List (Exit Q)) →
    TransitionsSame as_it_is count exits others → ((state : ℕ) (values other_values : Values) → AgreeBelow count values other_values → TermFollows forward most more (body state values) (other state other_values)) →
    (own : Memory) (state : ℕ) (values other_values : Values) → AgreeBelow count values other_values →
    Follow forward
    (λ memories turns. and_then (big_step (body state values) most (own ∷ memories) turns) (big_states most (λ state values. big_step (body state values) most) exits state values))
    (λ memories turns. and_then (big_step (body state values) more (own ∷ memories) turns) (big_states more (λ state values. big_step (body state values) more) exits state values))
    (λ memories turns. and_then (big_step (other state other_values) most (own ∷ memories) turns) (big_states most (λ state values. big_step (other state values) most) others state other_values))
    (λ memories turns. and_then (big_step (other state other_values) more (own ∷ memories) turns) (big_states more (λ state values. big_step (other state values) more) others state other_values))
run_follows true most more enough count body other exits others ways follows own state values other_values agree = λ memories turns.
    reach_then (big_step (body state values) most (own ∷ memories) turns) (big_step (other state other_values) more (own ∷ memories) turns)
    (big_states most (λ state values. big_step (body state values) most) exits state values) (big_states more (λ state values. big_step (other state values) more) others state other_values)
    (follows state values other_values agree (own ∷ memories) turns)
    (states_reach count exits others ways most more enough (λ state values. big_step (body state values) most) (λ state values. big_step (other state values) more) follows state values other_values agree)
run_follows false most more enough count body other exits others ways follows own state values other_values agree = λ memories turns.
    reach_then (big_step (other state other_values) most (own ∷ memories) turns) (big_step (body state values) more (own ∷ memories) turns)
    (big_states most (λ state values. big_step (other state values) most) others state other_values) (big_states more (λ state values. big_step (body state values) more) exits state values)
    (follows state values other_values agree (own ∷ memories) turns)
    (states_reach_back count exits others ways most more enough (λ state values. big_step (body state values) more) (λ state values. big_step (other state values) most) follows state values other_values agree)
