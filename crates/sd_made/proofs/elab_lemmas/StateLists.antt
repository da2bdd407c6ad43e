-- Lists of states, the first of which has the number before some next one.
use Rattle.std.proofs.Common.{◌≡◌, ℕ, zero, suc, ◌+◌, List, [], ◌∷◌, ◌++◌, length, refl, ap, ◌∙◌, sym, subst, arith, add-zero}
use Rattle.std.specs.Prelude.{⊤}
use Rattle.sd_graph.specs.PlainTree.{ExitTree}
use Rattle.sd_graph.specs.TreeFold.{PlainState, states_listed}
use Rattle.sd_graph.specs.TreeParts.{count_states, exits_at}
use Rattle.sd_graph.specs.Upwards.{ExitsLeadUpwards, ItemsLeadUpwards, StatesLeadUpwards}

-- the items and transitions of each state lead upwards, where there are so many states in all
abbrev pub AreUpwards : (count next : ℕ) → List PlainState → Type 0
AreUpwards count next [] = ⊤
AreUpwards count next (state ∷ states) =
    ItemsLeadUpwards state.0 × ((number : ℕ) → number + 1 ≡ next → ExitsLeadUpwards count number state.1) × AreUpwards count (next + 1) states

pub upwards_joined : (count next : ℕ) (first second : List PlainState) →
    AreUpwards count next first → AreUpwards count (next + length first) second → AreUpwards count next (first ++ second)
upwards_joined count next [] second all others = subst (λ number. AreUpwards count number second) (add-zero next) others
upwards_joined count next (state ∷ first) second all others = (
  all.0,
  all.1,
  upwards_joined count (next + 1) first second all.2
      (subst (λ number. AreUpwards count number second) (moved next (length first)) others),
)
  where
    moved : (next more : ℕ) → next + suc more ≡ next + 1 + more
    moved next more = omega arith

pub upwards_items : (count next : ℕ) (states : List PlainState) → AreUpwards count next states → StatesLeadUpwards (states_listed states)
upwards_items count next [] all = tt
upwards_items count next (state ∷ states) all = (all.0, upwards_items count (next + 1) states all.2)

pub upwards_exits : (count : ℕ) (states : List PlainState) (number : ℕ) → AreUpwards count (number + 1) states → (state : ℕ) →
    ExitsLeadUpwards count (number + state) (exits_at (states_listed states) state)
upwards_exits count [] number all state = tt
upwards_exits count (first ∷ states) number all zero = subst (λ at. ExitsLeadUpwards count at first.1) (sym (add-zero number)) (all.1 number refl)
upwards_exits count (first ∷ states) number all (suc state) =
    subst (λ at. ExitsLeadUpwards count at (exits_at (states_listed states) state)) (back number state) (upwards_exits count states (number + 1) all.2 state)
  where
    back : (number state : ℕ) → number + 1 + state ≡ number + suc state
    back number state = omega arith

pub states_counted : (states : List PlainState) → count_states (states_listed states) ≡ length states
states_counted [] = refl
states_counted (state ∷ states) = omega (arith, states_counted states)

-- ---- states by their numbers

-- the states from this next one on have these transitions
abbrev pub HasStates : (exits : ℕ → List ExitTree) → (next : ℕ) → List PlainState → Type 0
HasStates exits next [] = ⊤
HasStates exits next (state ∷ states) = ((number : ℕ) → number + 1 ≡ next → exits number ≡ state.1) × HasStates exits (next + 1) states

pub first_of_two : (exits : ℕ → List ExitTree) (next : ℕ) (first second : List PlainState) → HasStates exits next (first ++ second) → HasStates exits next first
first_of_two exits next [] second has = tt
first_of_two exits next (state ∷ first) second has = (has.0, first_of_two exits (next + 1) first second has.1)

pub second_of_two : (exits : ℕ → List ExitTree) (next : ℕ) (first second : List PlainState) → HasStates exits next (first ++ second) → HasStates exits (next + length first) second
second_of_two exits next [] second has = subst (λ number. HasStates exits number second) (sym (add-zero next)) has
second_of_two exits next (state ∷ first) second has =
    subst (λ number. HasStates exits number second) (moved next (length first)) (second_of_two exits (next + 1) first second has.1)
  where
    moved : (next more : ℕ) → next + 1 + more ≡ next + suc more
    moved next more = omega arith

pub has_itself : (exits : ℕ → List ExitTree) (begin : ℕ) (states : List PlainState) → ((state : ℕ) → exits (begin + state) ≡ exits_at (states_listed states) state) → HasStates exits (begin + 1) states
has_itself exits begin [] same = tt
has_itself exits begin (first ∷ states) same = (
  (λ number e. ap exits (at_first number begin e) ∙ same 0),
  has_itself exits (begin + 1) states (λ state. ap exits (one_further begin state) ∙ same (suc state)),
)
  where
    at_first : (number begin : ℕ) → number + 1 ≡ begin + 1 → number ≡ begin + 0
    at_first number begin e = omega (arith, e)

    one_further : (begin state : ℕ) → begin + 1 + state ≡ begin + suc state
    one_further begin state = omega arith
