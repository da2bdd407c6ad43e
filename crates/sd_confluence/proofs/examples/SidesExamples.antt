-- Which paths are of two parts, what two takes of one pool do, which terms are alike, and what may be left of work.
use Rattle.std.proofs.Common.{◌≡◌, ℕ, pos, suc, [], ◌∷◌, None, Bool, true, false, cond, int_eq, refl, sym, subst, inl, inr, ap, arith}
use Rattle.sd_num.specs.declared.width.Width.TheVariants.{W64}
use Rattle.sd_work.specs.Memory.{array, stream}
use Rattle.sd_work.specs.Leaf.{Leaf, doing, write_value}
use Rattle.sd_work.specs.Residual.{Term, leaf, owning, ended, pool, none, also, idle, busy}
use Rattle.sd_work.specs.Step.{Machine, Done, next_moves, step}
use Rattle.sd_work.specs.Touch.{Touch, writes, LeafTouches}
use Rattle.sd_work.proofs.examples.ExampleParts.{cell, sets, two, points}
use Rattle.sd_confluence.specs.Left.{IsLeftOf}
use Rattle.sd_confluence.specs.Sides.{AreOfTwoParts, AreTermsAlike}
use Rattle.sd_confluence.proofs.left.AlikeMemories.{memories-alike}

abbrev pair : Term ℕ
pair = points (two (sets 1 (cell 0 0 0) (pos 7)) (sets 2 (cell 0 0 1) (pos 8)))

two_points_are_two_parts : AreOfTwoParts pair (0 ∷ []) (1 ∷ [])
two_points_are_two_parts = inl (λ e. cc)

-- also where the list stands in another one, in a point's memory
two_points_of_one_item_are_two_parts : AreOfTwoParts (points (two (owning [] pair) pair)) (0 ∷ 0 ∷ []) (0 ∷ 1 ∷ [])
two_points_of_one_item_are_two_parts = inr (refl, inl (λ e. cc))

one_leaf_is_not_two_parts : AreOfTwoParts pair (0 ∷ []) (0 ∷ []) → ⊥
one_leaf_is_not_two_parts h = elim h [ inl two ↦ two refl | inr deep ↦ deep.1 ]

-- a pool at work, whose stream has two values more
abbrev at_work : Term ℕ
at_work = pool 0 0 (λ value. pair) (busy (pos 5) pair (busy (pos 6) pair idle)) false

two_active_terms_are_two_parts : AreOfTwoParts at_work (1 ∷ 0 ∷ 0 ∷ []) (1 ∷ 1 ∷ 0 ∷ [])
two_active_terms_are_two_parts = inl (λ e. cc)

two_points_of_one_active_term_are_two_parts : AreOfTwoParts at_work (1 ∷ 0 ∷ 0 ∷ []) (1 ∷ 0 ∷ 1 ∷ [])
two_points_of_one_active_term_are_two_parts = inr (refl, inl (λ e. cc))

an_active_term_and_a_take_are_two_parts : AreOfTwoParts at_work (1 ∷ 0 ∷ 0 ∷ []) (0 ∷ 1 ∷ []) × AreOfTwoParts at_work (0 ∷ 1 ∷ []) (1 ∷ 0 ∷ 0 ∷ [])
an_active_term_and_a_take_are_two_parts = (tt, tt)

two_takes_are_not_two_parts : AreOfTwoParts at_work (0 ∷ 0 ∷ []) (0 ∷ 1 ∷ []) → ⊥
two_takes_are_not_two_parts h = h

-- a pool over two values, and what the take of the first one leaves
abbrev over_two : Machine ℕ
over_two = record { term = owning (stream W64 (pos 7 ∷ pos 8 ∷ []) ∷ []) (pool 0 0 (λ value. pair) idle false); turns = 3 }

abbrev over_one : Machine ℕ
over_one = record { term = owning (stream W64 (pos 8 ∷ []) ∷ []) (pool 0 0 (λ value. pair) (busy (pos 7) pair idle) false); turns = 3 }

two_values_may_be_taken : next_moves over_two ≡ (0 ∷ 0 ∷ []) ∷ (0 ∷ 1 ∷ []) ∷ []
two_values_may_be_taken = refl

-- the second position is gone
behind_a_take_a_later_position_is_one_less : (step (0 ∷ 0 ∷ []) over_two ≡ Done over_one) × (next_moves over_one ≡ (1 ∷ 0 ∷ 0 ∷ []) ∷ (1 ∷ 0 ∷ 1 ∷ []) ∷ (0 ∷ 0 ∷ []) ∷ [])
behind_a_take_a_later_position_is_one_less = (refl, refl)

exchanged : (a b : Bool) (n : ℕ) → cond a (suc (cond b (suc n) n)) (cond b (suc n) n) ≡ cond b (suc (cond a (suc n) n)) (cond a (suc n) n)
exchanged true true n = refl
exchanged true false n = refl
exchanged false true n = refl
exchanged false false n = refl

streams_of_a_term_may_differ_in_their_order : AreTermsAlike (owning (stream W64 (pos 7 ∷ pos 8 ∷ []) ∷ []) pair) (owning (stream W64 (pos 8 ∷ pos 7 ∷ []) ∷ []) pair)
streams_of_a_term_may_differ_in_their_order = (
  stream W64 (pos 7 ∷ pos 8 ∷ []) ∷ [],
  pair,
  refl,
  ((refl, λ value. exchanged (int_eq (pos 7) value) (int_eq (pos 8) value) 0), tt),
  (two (sets 1 (cell 0 0 0) (pos 7)) (sets 2 (cell 0 0 1) (pos 8)), refl, (sets 1 (cell 0 0 0) (pos 7), also (sets 2 (cell 0 0 1) (pos 8)) none, refl, refl, (sets 2 (cell 0 0 1) (pos 8), none, refl, refl, refl))),
)

-- but not in the elements of an array
terms_with_other_elements_are_not_alike : AreTermsAlike {P = ℕ} (ended (array W64 (pos 7 ∷ []) ∷ [])) (ended (array W64 (pos 8 ∷ []) ∷ [])) → ⊥
terms_with_other_elements_are_not_alike alike = differ (memories-alike (ended (array W64 (pos 7 ∷ []) ∷ [])) (ended (array W64 (pos 8 ∷ []) ∷ [])) alike).0.1
  where
    differ : pos 7 ∷ [] ≡ pos 8 ∷ [] → ⊥
    differ same = cc

-- a write that is left, of two
abbrev writing : Leaf
writing = doing (write_value (pos 7) (cell 0 0 0) None ∷ write_value (pos 8) (cell 0 0 1) None ∷ [])

the_second_write_may_be_left : IsLeftOf {P = ℕ} (leaf 1 writing) (leaf 1 (doing (write_value (pos 8) (cell 0 0 1) None ∷ [])))
the_second_write_may_be_left = (writing, refl, λ touch is. inr is)

another_write_may_not : IsLeftOf {P = ℕ} (leaf 1 writing) (leaf 1 (doing (write_value (pos 8) (cell 0 0 2) None ∷ []))) → ⊥
another_write_may_not h =
    let same : writing ≡ h.0 = cc in
    elim (subst (λ work. LeafTouches work (writes (record { level = 0; container = 0; element = 2 }) None)) (sym same) (h.2 (writes (record { level = 0; container = 0; element = 2 }) None) (inl refl))) [
      | inl first ↦ let clash : 2 ≡ 0 = ap element_of first in omega (arith, clash)
      | inr later ↦ elim later [ inl second ↦ (let clash : 2 ≡ 1 = ap element_of second in omega (arith, clash)) | inr nothing ↦ nothing ]
    ]
  where
    element_of : Touch → ℕ
    element_of (writes to by) = to.element
    element_of touch = 0
