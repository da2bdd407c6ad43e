-- Two takes of one pool, in either order.
use Rattle.std.proofs.Common.{◌≡◌, ℕ, pos, negsuc, [], ◌∷◌, false, refl, inr, ap, ◌∙◌, subst, arith}
use Rattle.sd_num.specs.declared.width.Width.TheVariants.{W64}
use Rattle.sd_work.specs.Memory.{stream}
use Rattle.sd_work.specs.Residual.{Term, owning, pool, Actives, idle, busy}
use Rattle.sd_work.specs.Step.{Machine, Done, step}
use Rattle.sd_work.proofs.examples.ExampleParts.{cell, sets, two, points}
use Rattle.sd_confluence.specs.Takes.{AreTwoTakes, behind_take, IsPutInto, AreTermsReordered}
use Rattle.sd_confluence.proofs.left.Reordered.{same_order}

abbrev work : Term ℕ
work = points (two (sets 1 (cell 0 0 0) (pos 7)) (sets 2 (cell 0 0 1) (pos 8)))

-- a pool over two values, with active terms
abbrev taking : Actives ℕ → Term ℕ
taking active = pool 0 0 (λ value. work) active false

two_positions_are_two_takes : AreTwoTakes (taking idle) (0 ∷ 0 ∷ []) (0 ∷ 1 ∷ [])
two_positions_are_two_takes e = cc

one_position_is_not_two_takes : AreTwoTakes (taking idle) (0 ∷ 1 ∷ []) (0 ∷ 1 ∷ []) → ⊥
one_position_is_not_two_takes two = two refl

a_take_and_an_active_term_are_not_two_takes : AreTwoTakes (taking (busy (pos 5) work idle)) (0 ∷ 0 ∷ []) (1 ∷ 0 ∷ 0 ∷ []) → ⊥
a_take_and_an_active_term_are_not_two_takes h = h

-- also where the pool stands in an active term of another one
a_later_position_is_one_less : (behind_take (0 ∷ 1 ∷ []) (0 ∷ 3 ∷ []) ≡ 0 ∷ 2 ∷ []) × (behind_take (1 ∷ 4 ∷ 0 ∷ 1 ∷ []) (1 ∷ 4 ∷ 0 ∷ 3 ∷ []) ≡ 1 ∷ 4 ∷ 0 ∷ 2 ∷ [])
a_later_position_is_one_less = (refl, refl)

an_earlier_position_stays : behind_take (0 ∷ 3 ∷ []) (0 ∷ 1 ∷ []) ≡ 0 ∷ 1 ∷ []
an_earlier_position_stays = refl

-- both orders from two values that wait
abbrev machine : Term ℕ → Machine ℕ
machine term = record { term = term; turns = 3 }

abbrev both_wait : Machine ℕ
both_wait = machine (owning (stream W64 (pos 7 ∷ pos 8 ∷ []) ∷ []) (taking idle))

abbrev first_taken : Machine ℕ
first_taken = machine (owning (stream W64 (pos 8 ∷ []) ∷ []) (taking (busy (pos 7) work idle)))

abbrev second_taken : Machine ℕ
second_taken = machine (owning (stream W64 (pos 7 ∷ []) ∷ []) (taking (busy (pos 8) work idle)))

abbrev one_then_two : Term ℕ
one_then_two = owning (stream W64 [] ∷ []) (taking (busy (pos 7) work (busy (pos 8) work idle)))

abbrev two_then_one : Term ℕ
two_then_one = owning (stream W64 [] ∷ []) (taking (busy (pos 8) work (busy (pos 7) work idle)))

the_first_and_then_the_second : (step (0 ∷ 0 ∷ []) both_wait ≡ Done first_taken) × (step (behind_take (0 ∷ 0 ∷ []) (0 ∷ 1 ∷ [])) first_taken ≡ Done (machine one_then_two))
the_first_and_then_the_second = (refl, refl)

the_second_and_then_the_first : (step (0 ∷ 1 ∷ []) both_wait ≡ Done second_taken) × (step (behind_take (0 ∷ 1 ∷ []) (0 ∷ 0 ∷ [])) second_taken ≡ Done (machine two_then_one))
the_second_and_then_the_first = (refl, refl)

they_differ_in_the_order_of_active_terms : AreTermsReordered one_then_two two_then_one
they_differ_in_the_order_of_active_terms = (
  taking (busy (pos 7) work (busy (pos 8) work idle)),
  refl,
  (
    busy (pos 7) work (busy (pos 8) work idle),
    refl,
    (work, busy (pos 7) work idle, inr (busy (pos 8) work idle, refl, refl), same, (work, idle, refl, same, refl)),
  ),
)
  where
    same : AreTermsReordered work work
    same = same_order work

-- but active terms of other values are not in another order
other_values_are_not_reordered : AreTermsReordered (taking (busy (pos 7) work idle)) (taking (busy (pos 8) work idle)) → ⊥
other_values_are_not_reordered h =
    let put : h.0 ≡ busy (pos 8) h.2.0 idle = subst (λ rest. IsPutInto (pos 8) h.2.0 rest h.0) h.2.4 h.2.2 in
    let same : busy (pos 7) work idle ≡ h.0 = cc in
    let clash : 7 ≡ 8 = ap number_of (same ∙ put) in
    absurd (omega (arith, clash))
  where
    number_of : Actives ℕ → ℕ
    number_of idle = 0
    number_of (busy (pos n) part active) = n
    number_of (busy (negsuc n) part active) = 0
