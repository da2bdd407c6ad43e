-- Where a state stands in a graph with two of its states fused, and the transitions out of it there.
use Rattle.std.proofs.Common.{◌≡◌, ◌≢◌, ◌⊎◌, inl, inr, ℕ, zero, suc, ◌+◌, ◌<◌, List, [], ◌∷◌, nat_eq, Bool, true, false, refl, sym, ◌∙◌, ap, subst, arith}
use Rattle.sd_graph.specs.PlainTree.{ItemTrees, StateTrees, no_state, and_state, ExitTree}
use Rattle.sd_graph.specs.TreeParts.{items_at, exits_at, count_states}
use Rattle.sd_alike.specs.alike.Places.{items_then}
use Rattle.sd_statex.specs.states.FusedStates.{lowered, exits_lowered, states_lowered, left_out, put_in, fused, plain_exit, AreFusible}
use Rattle.sd_statex.proofs.states_lemmas.StatesFused.{is_same_state}
use Rattle.sd_statex.proofs.states_lemmas.FusedParts.{exits_apart, exits_both}

pub equal : (a b : ℕ) → nat_eq a b ≡ true → a ≡ b
equal a b is = grind (arith, is)

pub differ : (a b : ℕ) → nat_eq a b ≡ false → a ≢ b
differ a b is = λ same. grind (arith, is, same)

pub is_equal : (a b : ℕ) → a ≡ b → nat_eq a b ≡ true
is_equal a b same = grind (arith, same)

pub is_other : (a b : ℕ) → a ≢ b → nat_eq a b ≡ false
is_other a b apart = by (nat_eq a b) refl
  where
    by : (same : Bool) → nat_eq a b ≡ same → nat_eq a b ≡ false
    by true is = absurd (apart (equal a b is))
    by false is = is

-- ---- numbers

-- two states that stay have different numbers then
pub lowered_apart : (gone a b : ℕ) → a ≢ gone → b ≢ gone → lowered gone a ≡ lowered gone b → a ≡ b
lowered_apart zero zero b stays also same = absurd (stays refl)
lowered_apart zero (suc a) zero stays also same = absurd (also refl)
lowered_apart zero (suc a) (suc b) stays also same = ap suc same
lowered_apart (suc gone) zero zero stays also same = refl
lowered_apart (suc gone) zero (suc b) stays also same = cc
lowered_apart (suc gone) (suc a) zero stays also same = cc
lowered_apart (suc gone) (suc a) (suc b) stays also same = ap suc (lowered_apart gone a b (λ e. stays (ap suc e)) (λ e. also (ap suc e)) (before same))
  where
    before : {a b : ℕ} → suc a ≡ suc b → a ≡ b
    before same = cc

-- the state that has a number then
abbrev pub raised : (gone number : ℕ) → ℕ
raised zero number = suc number
raised (suc gone) zero = zero
raised (suc gone) (suc number) = suc (raised gone number)

pub lowered_raised : (gone number : ℕ) → lowered gone (raised gone number) ≡ number
lowered_raised zero number = refl
lowered_raised (suc gone) zero = refl
lowered_raised (suc gone) (suc number) = ap suc (lowered_raised gone number)

pub raised_stays : (gone number : ℕ) → raised gone number ≢ gone
raised_stays zero number = λ same. never same
  where
    never : {number : ℕ} → suc number ≡ zero → ⊥
    never same = cc
raised_stays (suc gone) zero = λ same. never same
  where
    never : {number : ℕ} → zero ≡ suc number → ⊥
    never same = cc
raised_stays (suc gone) (suc number) = λ same. raised_stays gone number (before same)
  where
    before : {a b : ℕ} → suc a ≡ suc b → a ≡ b
    before same = cc

-- ---- how many states there are

count_lowered : (gone : ℕ) (states : StateTrees) → count_states (states_lowered gone states) ≡ count_states states
count_lowered gone no_state = refl
count_lowered gone (and_state items exits states) = ap (λ count. count + 1) (count_lowered gone states)

count_put : (number : ℕ) (new : ItemTrees) (exits : List ExitTree) (states : StateTrees) → count_states (put_in number new exits states) ≡ count_states states
count_put number new exits no_state = refl
count_put zero new exits (and_state items old states) = refl
count_put (suc number) new exits (and_state items old states) = ap (λ count. count + 1) (count_put number new exits states)

-- a state that stays is there then
left_below : (gone state : ℕ) (states : StateTrees) → state ≢ gone → state < count_states states → lowered gone state < count_states (left_out gone states)
left_below gone state no_state stays below = absurd (omega (arith, below))
left_below zero zero (and_state items exits states) stays below = absurd (stays refl)
left_below zero (suc state) (and_state items exits states) stays below = omega (arith, below)
left_below (suc gone) zero (and_state items exits states) stays below = omega arith
left_below (suc gone) (suc state) (and_state items exits states) stays below =
    omega (arith, left_below gone state states (λ e. stays (ap suc e)) (omega (arith, below)))

-- and one that is there then was there
pub raised_below : (gone number : ℕ) (states : StateTrees) → number < count_states (left_out gone states) → raised gone number < count_states states
raised_below gone number no_state below = absurd (omega (arith, below))
raised_below zero number (and_state items exits states) below = omega (arith, below)
raised_below (suc gone) zero (and_state items exits states) below = omega arith
raised_below (suc gone) (suc number) (and_state items exits states) below = omega (arith, raised_below gone number states (omega (arith, below)))

-- a state out of which a transition leads is there
pub exit_there : (states : StateTrees) (state : ℕ) (exit : ExitTree) (exits : List ExitTree) → exits_at states state ≡ exit ∷ exits → state < count_states states
exit_there no_state state exit exits is = absurd (none exit exits is)
  where
    none : (exit : ExitTree) (exits : List ExitTree) → [] ≡ exit ∷ exits → ⊥
    none exit exits is = cc
exit_there (and_state items old states) zero exit exits is = omega arith
exit_there (and_state items old states) (suc state) exit exits is = omega (arith, exit_there states state exit exits is)

-- ---- where a state stands

abbrev pub stands : (first second state : ℕ) → (is_second : Bool) → ℕ
stands first second state true = lowered second first
stands first second state false = lowered second state

-- the second one stands where the first one does
abbrev pub moved : (first second state : ℕ) → ℕ
moved first second state = stands first second state (nat_eq state second)

pub moved_second : (first second : ℕ) → moved first second second ≡ lowered second first
moved_second first second = ap (stands first second second) (is_equal second second refl)

pub moved_apart : (first second state : ℕ) → state ≢ second → moved first second state ≡ lowered second state
moved_apart first second state stays = ap (stands first second state) (is_other state second stays)

module _ (first second : ℕ) (states : StateTrees) (fusible : AreFusible first second states) where
  pub count_fused : count_states (fused first second states) ≡ count_states (left_out second states)
  count_fused = count_lowered second (left_out second put) ∙ same_count second states put (sym (count_put first both (exits_at states second) states))
    where
      both : ItemTrees
      both = items_then (items_at states first) (items_at states second)

      put : StateTrees
      put = put_in first both (exits_at states second) states

      same_count : (gone : ℕ) (some others : StateTrees) → count_states some ≡ count_states others → count_states (left_out gone others) ≡ count_states (left_out gone some)
      same_count gone no_state no_state same = refl
      same_count gone no_state (and_state items exits others) same = absurd (omega (arith, same))
      same_count gone (and_state items exits some) no_state same = absurd (omega (arith, same))
      same_count zero (and_state items exits some) (and_state items' exits' others) same = omega (arith, same)
      same_count (suc gone) (and_state items exits some) (and_state items' exits' others) same =
          ap (λ count. count + 1) (same_count gone some others (omega (arith, same)))

  -- a state that is there stands among the new ones
  pub moved_below : (state : ℕ) → state < count_states states → moved first second state < count_states (fused first second states)
  moved_below state below = by (nat_eq state second) refl
    where
      there : (state : ℕ) → state ≢ second → state < count_states states → lowered second state < count_states (fused first second states)
      there state stays below = omega (arith, count_fused, left_below second state states stays below)

      by : (is_second : Bool) → nat_eq state second ≡ is_second → stands first second state is_second < count_states (fused first second states)
      by true is = there first fusible.apart (exit_there states first (plain_exit second) [] fusible.step)
      by false is = there state (differ state second is) below

  -- its transitions lead where they did, but for those out of the first, which are gone
  pub exits_moved : (state : ℕ) → state ≢ first → exits_at (fused first second states) (moved first second state) ≡ exits_lowered second (exits_at states state)
  exits_moved state other = by (is_same_state state second)
    where
      by : (state ≡ second) ⊎ (state ≢ second) → exits_at (fused first second states) (moved first second state) ≡ exits_lowered second (exits_at states state)
      by (inl same) =
          subst (λ state. exits_at (fused first second states) (moved first second state) ≡ exits_lowered second (exits_at states state)) (sym same)
          (ap (exits_at (fused first second states)) (moved_second first second) ∙ exits_both first second states fusible)
      by (inr stays) = ap (exits_at (fused first second states)) (moved_apart first second state stays) ∙ exits_apart first second states fusible state other stays
