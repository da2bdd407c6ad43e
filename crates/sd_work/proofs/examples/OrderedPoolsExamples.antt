-- Pools that stand in order with what feeds them, and what comes of others.
use Rattle.std.proofs.Common.{◌≡◌, ◌<◌, ℕ, zero, suc, ℤ, pos, List, [], ◌∷◌, Result, Ok, true, false, refl, sym, subst, inl, inr, arith}
use Rattle.std.specs.Int.{int_wrap}
use Rattle.sd_work.specs.declared.fault.FaultKind.{FaultKind}
use Rattle.sd_num.specs.declared.width.Width.TheVariants.{W64}
use Rattle.sd_work.specs.Memory.{Memory, array, stream}
use Rattle.sd_work.specs.Leaf.{Pending, push_to}
use Rattle.sd_work.specs.Residual.{Term, list, Items, Points, pool, idle, busy, part_at}
use Rattle.sd_work.specs.BigRun.{big_run}
use Rattle.sd_work.specs.Touch.{pushes, takes, SomePendingTouches, Touches}
use Rattle.sd_work.specs.OrderedPools.{DoesNotFeed, HasOrderedPools}
use Rattle.sd_work.proofs.examples.ExampleParts.{cell, task, sets, two, unordered, in_turn, then, points, graph, run_of, done}
use Rattle.sd_work.proofs.examples.PoolExamples.{memory, writes, passes_on}

-- a tasklet that pushes one value into the stream that `writes` takes from
abbrev feeds : Term ℕ
feeds = task 1 [] (λ values. push_to 0 1 (pos 5) ∷ [])

feeds_it : Touches feeds (pushes 0 1)
feeds_it = inr ([], push_to 0 1 (pos 5) ∷ [], refl, inl refl)

takes_from_it : Touches writes (takes 0 1)
takes_from_it = inl refl

-- ---- the item that feeds is before the pool

abbrev pub in_order : Term ℕ
in_order = graph (then feeds writes) (memory (pos 0) [])

never_unordered : (i j : ℕ) → i < j → in_turn i j ≡ false → ⊥
never_unordered i j up e = grind (arith, up, e)

items_in_turn_are_ordered : HasOrderedPools 1 (then feeds writes)
items_in_turn_are_ordered = ((tt, ((omega arith, tt, tt, λ value. tt), tt)), λ e i j up q. elim (never_unordered i j up q) [ ])

pools_of_items_in_turn_are_ordered : HasOrderedPools 0 in_order
pools_of_items_in_turn_are_ordered = (items_in_turn_are_ordered, λ state values. items_in_turn_are_ordered)

a_pool_takes_what_is_pushed_before_it : run_of [] in_order 2 ≡ done (memory (pos 5) []) 0
unfolding int_wrap
a_pool_takes_what_is_pushed_before_it = refl

both_readings_of_items_in_turn : big_run in_order 2 2 ≡ run_of [] in_order 2
unfolding int_wrap
both_readings_of_items_in_turn = refl

-- ---- the two are not ordered: the pool is finished for good before the value comes, but from left to right it comes first

abbrev beside : Term ℕ
beside = list Items unordered (two feeds writes)

items_beside_each_other_are_not_ordered : HasOrderedPools 1 beside → ⊥
items_beside_each_other_are_not_ordered h = h.1 refl 0 1 (omega arith) refl 0 1 feeds_it takes_from_it

a_value_for_a_finished_pool_stays : run_of [] (graph beside (memory (pos 0) [])) 2 ≡ done (memory (pos 0) (pos 5 ∷ [])) 1
unfolding int_wrap
a_value_for_a_finished_pool_stays = refl

it_is_taken_from_left_to_right : big_run (graph beside (memory (pos 0) [])) 2 2 ≡ done (memory (pos 5) []) 0
unfolding int_wrap
it_is_taken_from_left_to_right = refl

-- nothing is asked of the later of the two: it may feed the pool of the earlier, which is done with
abbrev after_it : Term ℕ
after_it = list Items unordered (two writes feeds)

no_push_takes : (effects : List Pending) → (push_to 0 1 (pos 5) ∷ []) ≡ effects → (level container : ℕ) → SomePendingTouches effects (takes level container) → ⊥
no_push_takes effects same level container touch =
    elim (subst (λ effects. SomePendingTouches effects (takes level container)) (sym same) touch) [ inl e ↦ clash e | inr none ↦ none ]
  where
    clash : takes level container ≡ pushes 0 1 → ⊥
    clash e = cc

-- what an evaluation answers
abbrev evaluated : List Pending → Result (List Pending) FaultKind
evaluated effects = Ok effects

a_tasklet_takes_nothing : (level container : ℕ) → Touches feeds (takes level container) → ⊥
a_tasklet_takes_nothing level container touch =
    elim touch [ inl none ↦ none | inr it ↦ no_push_takes it.1 (let same : push_to 0 1 (pos 5) ∷ [] ≡ it.1 = effects_of it.2 in same) level container it.3 ]
  where
    effects_of : {effects : List Pending} → evaluated (push_to 0 1 (pos 5) ∷ []) ≡ evaluated effects → push_to 0 1 (pos 5) ∷ [] ≡ effects
    effects_of e = cc

a_pool_before_what_feeds_it_is_ordered : HasOrderedPools 1 after_it
a_pool_before_what_feeds_it_is_ordered = (((omega arith, tt, tt, λ value. tt), (tt, tt)), apart)
  where
    apart : Items ≡ Items → (i j : ℕ) → i < j → unordered i j ≡ false → DoesNotFeed (part_at (two writes feeds) i) (part_at (two writes feeds) j)
    apart e i zero up q level container into touch = let no : ⊥ = omega arith in elim no [ ]
    apart e i (suc zero) up q level container into touch = a_tasklet_takes_nothing level container touch
    apart e i (suc (suc j)) up q level container into touch = touch

-- ---- nothing is asked of points, whose pools over a stream outside wait

passed_on_in_order : (number : ℤ) → HasOrderedPools 1 (passes_on number)
passed_on_in_order number = (((omega arith, tt, tt, λ value. tt), (tt, tt)), λ e i j up q. elim (never_unordered i j up q) [ ])

points_are_ordered : HasOrderedPools 1 (points (two (passes_on (pos 1)) (passes_on (pos 2))))
points_are_ordered = ((passed_on_in_order (pos 1), (passed_on_in_order (pos 2), tt)), λ e. elim (not_items e) [ ])
  where
    not_items : Points ≡ Items → ⊥
    not_items e = cc

-- ---- a pool over a stream of a memory that is not there is never finished, but from left to right it is passed

abbrev pub nowhere : Term ℕ
nowhere = graph (then (pool 5 1 (λ value. sets 1 (cell 0 0 0) value) idle false) (sets 2 (cell 0 0 0) (pos 5))) (memory (pos 0) [])

no_stream_is_no_order : HasOrderedPools 0 nowhere → ⊥
no_stream_is_no_order h = let up : 5 < 1 = h.0.0.0.0 in let no : ⊥ = omega arith in no

a_run_ends_at_a_pool_without_a_stream : run_of [] nowhere 1 ≡ done (memory (pos 0) []) 1
a_run_ends_at_a_pool_without_a_stream = refl

such_a_pool_is_passed_from_left_to_right : big_run nowhere 1 1 ≡ done (memory (pos 5) []) 0
unfolding int_wrap
such_a_pool_is_passed_from_left_to_right = refl

-- ---- two active terms, of which the first feeds a pool of the second

abbrev with_another : (values : List ℤ) → (element : ℤ) → Memory
with_another values element = array W64 (element ∷ []) ∷ stream W64 [] ∷ stream W64 values ∷ []

abbrev two_active : Term ℕ
two_active = graph
    (pool 0 1 (λ value. sets 1 (cell 0 0 0) value)
    (busy (pos 1) (task 1 [] (λ values. push_to 0 2 (pos 5) ∷ [])) (busy (pos 2) (pool 0 2 (λ value. sets 1 (cell 0 0 0) value) idle false) idle)) false)
    (with_another [] (pos 0))

two_active_terms_are_no_order : HasOrderedPools 0 two_active → ⊥
two_active_terms_are_no_order h = let done_with : false ≡ true = h.0.1.0 in cc

a_pool_of_a_later_active_term_ends_early : run_of [] two_active 2 ≡ done (with_another (pos 5 ∷ []) (pos 0)) 1
unfolding int_wrap
a_pool_of_a_later_active_term_ends_early = refl

it_ends_late_from_left_to_right : big_run two_active 2 2 ≡ done (with_another [] (pos 5)) 0
unfolding int_wrap
it_ends_late_from_left_to_right = refl
