-- The states and transitions of a graph with two of its states fused.
use Rattle.std.proofs.Common.{◌≡◌, ◌≢◌, ℕ, zero, suc, List, [], ◌∷◌, map, Option, Result, Ok, Err, Bool, true, false, refl, ◌∙◌, ap}
use Rattle.std.specs.List.{AllByRecursion}
use Rattle.sd_work.specs.Memory.{Memories}
use Rattle.sd_work.specs.Move.{Fault}
use Rattle.sd_work.specs.Exit.{Exit, passed, or_later, first_exit}
use Rattle.sd_graph.specs.PlainTree.{ItemTrees, StateTrees, no_state, and_state, ExitTree}
use Rattle.sd_graph.specs.TreeParts.{items_at, exits_at}
use Rattle.sd_graph.specs.Context.{Context}
use Rattle.sd_graph.specs.Unfold.{exit_of}
use Rattle.sd_alike.specs.alike.Lift.{as_it_is}
use Rattle.sd_alike.specs.alike.SameWork.{IsExitSame}
use Rattle.sd_alike.specs.alike.Alike.{ExitBelow, AreAlike}
use Rattle.sd_alike.specs.alike.Places.{items_then}
use Rattle.sd_alike.proofs.alike_lemmas.SameTerms.{VerdictSame, passed_same}
use Rattle.sd_alike.proofs.alike_lemmas.SameLeaves.{exits_alike}
use Rattle.sd_statex.specs.states.FusedStates.{lowered, exit_lowered, exits_lowered, states_lowered, left_out, put_in, fused, plain_exit, AreFusible}
use Rattle.sd_statex.proofs.states_lemmas.StatesFused.{FoundLowered, IsFoundLowered}

-- ---- states

pub items_left_out : (gone state : ℕ) (states : StateTrees) → state ≢ gone → items_at (left_out gone states) (lowered gone state) ≡ items_at states state
items_left_out gone state no_state apart = refl
items_left_out zero zero (and_state items exits states) apart = absurd (apart refl)
items_left_out zero (suc state) (and_state items exits states) apart = refl
items_left_out (suc gone) zero (and_state items exits states) apart = refl
items_left_out (suc gone) (suc state) (and_state items exits states) apart = items_left_out gone state states (λ same. apart (ap suc same))

exits_left_out : (gone state : ℕ) (states : StateTrees) → state ≢ gone → exits_at (left_out gone states) (lowered gone state) ≡ exits_at states state
exits_left_out gone state no_state apart = refl
exits_left_out zero zero (and_state items exits states) apart = absurd (apart refl)
exits_left_out zero (suc state) (and_state items exits states) apart = refl
exits_left_out (suc gone) zero (and_state items exits states) apart = refl
exits_left_out (suc gone) (suc state) (and_state items exits states) apart = exits_left_out gone state states (λ same. apart (ap suc same))

items_lowered : (gone : ℕ) (states : StateTrees) (state : ℕ) → items_at (states_lowered gone states) state ≡ items_at states state
items_lowered gone no_state state = refl
items_lowered gone (and_state items exits states) zero = refl
items_lowered gone (and_state items exits states) (suc state) = items_lowered gone states state

lowered_at : (gone : ℕ) (states : StateTrees) (state : ℕ) → exits_at (states_lowered gone states) state ≡ exits_lowered gone (exits_at states state)
lowered_at gone no_state state = refl
lowered_at gone (and_state items exits states) zero = refl
lowered_at gone (and_state items exits states) (suc state) = lowered_at gone states state

pub items_beside : (number state : ℕ) (new : ItemTrees) (new_exits : List ExitTree) (states : StateTrees) → state ≢ number → items_at (put_in number new new_exits states) state ≡ items_at states state
items_beside number state new new_exits no_state apart = refl
items_beside zero zero new new_exits (and_state items exits states) apart = absurd (apart refl)
items_beside zero (suc state) new new_exits (and_state items exits states) apart = refl
items_beside (suc number) zero new new_exits (and_state items exits states) apart = refl
items_beside (suc number) (suc state) new new_exits (and_state items exits states) apart = items_beside number state new new_exits states (λ same. apart (ap suc same))

pub exits_beside : (number state : ℕ) (new : ItemTrees) (new_exits : List ExitTree) (states : StateTrees) → state ≢ number → exits_at (put_in number new new_exits states) state ≡ exits_at states state
exits_beside number state new new_exits no_state apart = refl
exits_beside zero zero new new_exits (and_state items exits states) apart = absurd (apart refl)
exits_beside zero (suc state) new new_exits (and_state items exits states) apart = refl
exits_beside (suc number) zero new new_exits (and_state items exits states) apart = refl
exits_beside (suc number) (suc state) new new_exits (and_state items exits states) apart = exits_beside number state new new_exits states (λ same. apart (ap suc same))

no_exit : {A : Type 0} (exit : ExitTree) → [] ≡ exit ∷ [] → A
no_exit exit is = absurd (none exit is)
  where
    none : (exit : ExitTree) → [] ≡ exit ∷ [] → ⊥
    none exit is = cc

items_put : (number : ℕ) (new : ItemTrees) (new_exits : List ExitTree) (states : StateTrees) (exit : ExitTree) → exits_at states number ≡ exit ∷ [] → items_at (put_in number new new_exits states) number ≡ new
items_put number new new_exits no_state exit is = no_exit exit is
items_put zero new new_exits (and_state items exits states) exit is = refl
items_put (suc number) new new_exits (and_state items exits states) exit is = items_put number new new_exits states exit is

exits_put : (number : ℕ) (new : ItemTrees) (new_exits : List ExitTree) (states : StateTrees) (exit : ExitTree) → exits_at states number ≡ exit ∷ [] → exits_at (put_in number new new_exits states) number ≡ new_exits
exits_put number new new_exits no_state exit is = no_exit exit is
exits_put zero new new_exits (and_state items exits states) exit is = refl
exits_put (suc number) new new_exits (and_state items exits states) exit is = exits_put number new new_exits states exit is

module _ (first second : ℕ) (states : StateTrees) (fusible : AreFusible first second states) where
  abbrev both_items : ItemTrees
  both_items = items_then (items_at states first) (items_at states second)

  abbrev put : StateTrees
  put = put_in first both_items (exits_at states second) states

  -- ---- the states that there are then

  pub items_apart : (state : ℕ) → state ≢ first → state ≢ second → items_at (fused first second states) (lowered second state) ≡ items_at states state
  items_apart state differs stays =
      items_lowered second (left_out second put) (lowered second state) ∙ items_left_out second state put stays ∙ items_beside first state both_items (exits_at states second) states differs

  pub exits_apart : (state : ℕ) → state ≢ first → state ≢ second → exits_at (fused first second states) (lowered second state) ≡ exits_lowered second (exits_at states state)
  exits_apart state differs stays =
      lowered_at second (left_out second put) (lowered second state) ∙ ap (exits_lowered second) (exits_left_out second state put stays ∙ exits_beside first state both_items (exits_at states second) states differs)

  pub items_both : items_at (fused first second states) (lowered second first) ≡ items_then (items_at states first) (items_at states second)
  items_both =
      items_lowered second (left_out second put) (lowered second first) ∙ items_left_out second first put fusible.apart ∙ items_put first both_items (exits_at states second) states (plain_exit second) fusible.step

  pub exits_both : exits_at (fused first second states) (lowered second first) ≡ exits_lowered second (exits_at states second)
  exits_both =
      lowered_at second (left_out second put) (lowered second first)
      ∙ ap (exits_lowered second) (exits_left_out second first put fusible.apart ∙ exits_put first both_items (exits_at states second) states (plain_exit second) fusible.step)

-- ---- transitions

or_later_lowered : {P Q : Type 0} (gone count : ℕ) (verdict : Result Bool (Fault P)) (other_verdict : Result Bool (Fault Q)) (exit : Exit P) (other : Exit Q)
    (later : Result (Option (Exit P)) (Fault P)) (others : Result (Option (Exit Q)) (Fault Q)) → VerdictSame verdict other_verdict → IsFoundLowered gone count exit other → FoundLowered gone count later others →
    FoundLowered gone count (or_later verdict exit later) (or_later other_verdict other others)
or_later_lowered gone count (Ok true) (Ok true) exit other later others verdict same rest = same
or_later_lowered gone count (Ok true) (Ok false) exit other later others verdict same rest = elim verdict [ ]
or_later_lowered gone count (Ok true) (Err fault) exit other later others verdict same rest = elim verdict [ ]
or_later_lowered gone count (Ok false) (Ok true) exit other later others verdict same rest = elim verdict [ ]
or_later_lowered gone count (Ok false) (Ok false) exit other later others verdict same rest = rest
or_later_lowered gone count (Ok false) (Err fault) exit other later others verdict same rest = elim verdict [ ]
or_later_lowered gone count (Err fault) (Ok held) exit other later others verdict same rest = elim verdict [ ]
or_later_lowered gone count (Err fault) (Err fault') exit other later others verdict same rest = tt

pub found_lowered : (gone count : ℕ) (context other : Context) → AreAlike as_it_is count context other → (exits : List ExitTree) → AllByRecursion (ExitBelow count) exits → AllByRecursion (λ exit. exit.to ≢ gone) exits →
    (memories : Memories) → FoundLowered gone count (first_exit (map (exit_of context) exits) memories) (first_exit (map (exit_of other) (exits_lowered gone exits)) memories)
found_lowered gone count context other alike [] below stays memories = tt
found_lowered gone count context other alike (exit ∷ exits) below stays memories =
    let same : IsExitSame as_it_is count (exit_of context exit) (exit_of other exit) = (exits_alike as_it_is count context other alike (exit ∷ []) (below.0, tt)).0 in
    or_later_lowered gone count (passed (exit_of context exit).when memories) (passed (exit_of other exit).when memories) (exit_of context exit) (exit_of other (exit_lowered gone exit))
    (first_exit (map (exit_of context) exits) memories) (first_exit (map (exit_of other) (exits_lowered gone exits)) memories)
    (passed_same as_it_is (exit_of context exit).when (exit_of other exit).when memories same.when)
    (record { marked = refl; state = refl; stays = stays.0; values = same.values })
    (found_lowered gone count context other alike exits below.1 stays.1 memories)
