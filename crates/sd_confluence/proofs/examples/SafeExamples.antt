-- Which work is safe, and which may interleave.
use Rattle.std.proofs.Common.{◌≡◌, ℕ, zero, suc, ◌<◌, ◌⊎◌, ℤ, pos, negsuc, List, [], ◌∷◌, Some, None, Bool, true, false, refl, sym, subst, ap, inl, inr, nat_lt, arith}
use Rattle.std.specs.Int.{int_wrap}
use Rattle.sd_num.specs.declared.resolution.Resolution.TheVariants.{Sum}
use Rattle.sd_work.specs.Memory.{Memory}
use Rattle.sd_work.specs.Leaf.{Pending, write_value, push_to, doing}
use Rattle.sd_work.specs.Exit.{Values}
use Rattle.sd_work.specs.Residual.{Items, Points, Term, leaf, list, owning, pool, begun, none, also, part_at, Actives, idle, busy, none_active, IsOrder}
use Rattle.sd_work.specs.Step.{Done}
use Rattle.sd_work.specs.Run.{Left, Run}
use Rattle.sd_work.specs.Touch.{Touch, writes, pushes, takes, AreCompatible, inner, SomePendingTouches, Touches, SomeActiveTouches, PoolTouches}
use Rattle.sd_work.proofs.examples.ExampleParts.{cell, task, sets, two, unordered, in_turn, points, graph, run_of, trace_of, done}
use Rattle.sd_work.proofs.examples.PoolExamples.{memory, counts_down}
use Rattle.sd_confluence.specs.Safe.{TouchCompatibly, TakesNothingOutside, ArePartsSafe, IsSafe, AreActiveSafe, MayInterleave, pool_over}
use Rattle.sd_confluence.specs.Alike.{LeaveAlike}
use Rattle.sd_confluence.proofs.runs.Interleavings.{every-run}
use Rattle.sd_confluence.proofs.examples.TouchExamples.{at, sums_into_one_element_do_not_conflict, replacements_of_two_elements_do_not_conflict, task_does, cells, replaces, level_of, not_own, conditions, consume}

-- ---- safe lists

-- items without an order
abbrev side_by_side : Term ℕ → Term ℕ → Term ℕ
side_by_side first second = list Items unordered (two first second)

-- two parts have one pair
one_pair : (before : ℕ → ℕ → Bool) (first second : Term ℕ) → TouchCompatibly first second → (i j : ℕ) → i < j → before i j ≡ false → TouchCompatibly (part_at (two first second) i) (part_at (two first second) j)
one_pair before first second h zero zero up e = absurd (omega (arith, up))
one_pair before first second h zero (suc zero) up e = h
one_pair before first second h zero (suc (suc j)) up e = λ a b ta tb. elim tb [ ]
one_pair before first second h (suc zero) zero up e = absurd (omega (arith, up))
one_pair before first second h (suc zero) (suc zero) up e = absurd (omega (arith, up))
one_pair before first second h (suc zero) (suc (suc j)) up e = λ a b ta tb. elim tb [ ]
one_pair before first second h (suc (suc i)) j up e = λ a b ta tb. elim ta [ ]

items_are_safe : (first second : Term ℕ) → TouchCompatibly first second → ArePartsSafe Items unordered (two first second)
items_are_safe first second h = record { compatible = one_pair unordered first second h; points = λ e. let clash : Items ≡ Points = e in cc }

points_are_safe : (first second : Term ℕ) → TouchCompatibly first second → TakesNothingOutside second → ArePartsSafe Points unordered (two first second)
points_are_safe first second h none_taken = record { compatible = one_pair unordered first second h; points = λ e i j up f. later_takes i j up }
  where
    later_takes : (i j : ℕ) → i < j → TakesNothingOutside (part_at (two first second) j)
    later_takes i zero up = absurd (omega (arith, up))
    later_takes i (suc zero) up = none_taken
    later_takes i (suc (suc j)) up = λ level container h. h

-- nothing is asked of items in turn
turns_are_safe : (first second : Term ℕ) → ArePartsSafe Items in_turn (two first second)
turns_are_safe first second = record { compatible = λ i j up e. let later_one : in_turn i j ≡ true = grind (arith, up) in cc; points = λ e. let clash : Items ≡ Points = e in cc }

-- a tasklet that adds into element 0
abbrev adds : (line : ℕ) → ℤ → Term ℕ
adds line value = task line [] (λ values. write_value value (cell 0 0 0) (Some Sum) ∷ [])

adds_into : (line : ℕ) (v : ℤ) (a : Touch) → Touches (adds line v) a → a ≡ writes (at 0) (Some Sum)
adds_into line v a h = elim (task_does line [] (λ values. write_value v (cell 0 0 0) (Some Sum) ∷ []) a h) [ inl x ↦ elim x [ ] | inr x ↦ elim x.1 [ inl e ↦ e | inr y ↦ elim y [ ] ] ]

-- what any two that touch one thing alone do not conflict about
by_one : (c d a b : Touch) → a ≡ c → b ≡ d → AreCompatible c d → AreCompatible a b
by_one c d a b e f h = subst (λ x. AreCompatible x b) (sym e) (subst (λ y. AreCompatible c y) (sym f) h)

items_that_add_into_one_element_are_safe : IsSafe (side_by_side (adds 1 (pos 5)) (adds 2 (pos 6)))
items_that_add_into_one_element_are_safe = (
  (tt, (tt, tt)),
  items_are_safe (adds 1 (pos 5)) (adds 2 (pos 6)) (λ a b ta tb.
      by_one (writes (at 0) (Some Sum)) (writes (at 0) (Some Sum)) a b (adds_into 1 (pos 5) a ta) (adds_into 2 (pos 6) b tb) sums_into_one_element_do_not_conflict),
)

items_that_replace_one_element_are_not_safe : IsSafe (side_by_side (sets 1 (cell 0 0 0) (pos 5)) (sets 2 (cell 0 0 0) (pos 6))) → ⊥
items_that_replace_one_element_are_not_safe s =
    s.1.compatible 0 1 (omega arith) refl (writes (at 0) None) (writes (at 0) None)
    (inr ([], write_value (pos 5) (cell 0 0 0) None ∷ [], refl, inl refl)) (inr ([], write_value (pos 6) (cell 0 0 0) None ∷ [], refl, inl refl)) refl

the_same_items_in_turn_are_safe : IsSafe (list Items in_turn (two (sets 1 (cell 0 0 0) (pos 5)) (sets 2 (cell 0 0 0) (pos 6))))
the_same_items_in_turn_are_safe = ((tt, (tt, tt)), turns_are_safe (sets 1 (cell 0 0 0) (pos 5)) (sets 2 (cell 0 0 0) (pos 6)))

-- not only neighbours: the first item and the last one
items_between_do_not_make_others_safe : IsSafe (list Items unordered (also (sets 1 (cell 0 0 0) (pos 5)) (two (task 2 [] (λ values. [])) (sets 3 (cell 0 0 0) (pos 6))))) → ⊥
items_between_do_not_make_others_safe s =
    s.1.compatible 0 2 (omega arith) refl (writes (at 0) None) (writes (at 0) None)
    (inr ([], write_value (pos 5) (cell 0 0 0) None ∷ [], refl, inl refl)) (inr ([], write_value (pos 6) (cell 0 0 0) None ∷ [], refl, inl refl)) refl

-- the other element of the array, so nothing is in conflict
items_that_replace_two_elements_are_safe : IsSafe (side_by_side (sets 1 (cell 0 0 0) (pos 5)) (sets 2 (cell 0 0 1) (pos 6)))
items_that_replace_two_elements_are_safe = (
  (tt, (tt, tt)),
  items_are_safe (sets 1 (cell 0 0 0) (pos 5)) (sets 2 (cell 0 0 1) (pos 6)) (λ a b ta tb.
      by_one (writes (at 0) None) (writes (at 1) None) a b (replaces 1 0 0 (pos 5) a ta) (replaces 2 0 1 (pos 6) b tb) replacements_of_two_elements_do_not_conflict),
)

-- each writes the element of that number of a container of its own
abbrev has_own : (line : ℕ) → Term ℕ
has_own line = owning cells (sets line (cell 0 0 0) (pos 5))

has_own_touches : (line : ℕ) (a : Touch) → Touches (has_own line) a → ⊥
has_own_touches line a h = not_own a (ap level_of (replaces line 0 0 (pos 5) (inner a) h))

points_with_private_containers_are_safe : IsSafe (points (two (has_own 1) (has_own 2)))
points_with_private_containers_are_safe = (
  (tt, (tt, tt)),
  points_are_safe (has_own 1) (has_own 2) (λ a b ta tb. absurd (has_own_touches 1 a ta)) (λ level container h. has_own_touches 2 (takes level container) h),
)

-- an item that pushes one value
abbrev pushes_one : Term ℕ
pushes_one = task 1 [] (λ values. push_to 0 1 (pos 5) ∷ [])

-- what the body of this pool does is nothing, and still it takes
abbrev takes_all : (closed : Bool) → Term ℕ
takes_all closed = consume (λ value. list Items unordered none) idle closed

a_push_beside_a_pool_is_not_safe : IsSafe (side_by_side pushes_one (takes_all false)) → ⊥
a_push_beside_a_pool_is_not_safe s =
    s.1.compatible 0 1 (omega arith) refl (pushes 0 1) (takes 0 1) (inr ([], push_to 0 1 (pos 5) ∷ [], refl, inl refl)) (inl refl) refl refl

-- nor beside a pool that takes no more
a_push_beside_a_closed_pool_is_not_safe : IsSafe (side_by_side pushes_one (takes_all true)) → ⊥
a_push_beside_a_closed_pool_is_not_safe s =
    s.1.compatible 0 1 (omega arith) refl (pushes 0 1) (takes 0 1) (inr ([], push_to 0 1 (pos 5) ∷ [], refl, inl refl)) (inl refl) refl refl

takes_all_touches : (a : Touch) → Touches (takes_all false) a → a ≡ takes 0 1
takes_all_touches a (inl e) = e
takes_all_touches a (inr (inl h)) = elim h [ ]
takes_all_touches a (inr (inr h)) = elim h.1 [ ]

takes_all_is_safe : IsSafe (takes_all false)
takes_all_is_safe = (tt, (λ value. (tt, record { compatible = λ i j up e a b ta tb. elim ta [ ]; points = λ e. let clash : Items ≡ Points = e in cc })), nothing_touched, λ e. let clash : false ≡ true = e in cc)
  where
    nothing_touched : (a b : Touch) → PoolTouches {P = ℕ} (λ value. list Items unordered none) idle a → PoolTouches {P = ℕ} (λ value. list Items unordered none) idle b → AreCompatible a b
    nothing_touched a b (inl h) tb = elim h [ ]
    nothing_touched a b (inr h) tb = elim h.1 [ ]

-- an item writes an element, and a pool takes from a stream
no_conflict : (a b : Touch) → a ≡ writes (at 0) None → b ≡ takes 0 1 → AreCompatible a b
no_conflict a b e f = by_one (writes (at 0) None) (takes 0 1) a b e f tt

-- nothing is in conflict, but a pool waits for all earlier points
a_later_point_that_takes_from_outside_is_not_safe : IsSafe (points (two (sets 1 (cell 0 0 0) (pos 5)) (takes_all false))) → ⊥
a_later_point_that_takes_from_outside_is_not_safe s = s.1.points refl 0 1 (omega arith) refl 0 1 (inl refl)

the_same_as_items_is_safe : IsSafe (side_by_side (sets 1 (cell 0 0 0) (pos 5)) (takes_all false))
the_same_as_items_is_safe = (
  (tt, (takes_all_is_safe, tt)),
  items_are_safe (sets 1 (cell 0 0 0) (pos 5)) (takes_all false) (λ a b ta tb. no_conflict a b (replaces 1 0 0 (pos 5) a ta) (takes_all_touches b tb)),
)

-- nothing is asked of points in turn either
a_later_point_in_turn_may_take_from_outside : IsSafe (list Points in_turn (two (sets 1 (cell 0 0 0) (pos 5)) (takes_all false)))
a_later_point_in_turn_may_take_from_outside = (
  (tt, (takes_all_is_safe, tt)),
  record {
    compatible = λ i j up e. let later_one : in_turn i j ≡ true = grind (arith, up) in cc;
    points = λ kind i j up e. let later_one : in_turn i j ≡ true = grind (arith, up) in cc;
  },
)

-- no point is before the first one
a_first_point_that_takes_from_outside_is_safe : IsSafe (points (two (takes_all false) (sets 1 (cell 0 0 0) (pos 5))))
a_first_point_that_takes_from_outside_is_safe = (
  (takes_all_is_safe, (tt, tt)),
  points_are_safe (takes_all false) (sets 1 (cell 0 0 0) (pos 5))
      (λ a b ta tb. by_one (takes 0 1) (writes (at 0) None) a b (takes_all_touches a ta) (replaces 1 0 0 (pos 5) b tb) tt)
      (λ level container h. let clash : takes level container ≡ writes (at 0) None = replaces 1 0 0 (pos 5) (takes level container) h in cc),
)

-- ---- safe pools

abbrev writes_all : Term ℕ
writes_all = consume (sets 1 (cell 0 0 0)) idle false

a_pool_whose_body_replaces_an_element_is_not_safe : IsSafe writes_all → ⊥
a_pool_whose_body_replaces_an_element_is_not_safe s =
    let touch : Touches (sets 1 (cell 0 0 0) (pos 5)) (writes (at 0) None) = inr ([], write_value (pos 5) (cell 0 0 0) None ∷ [], refl, inl refl) in
    s.2 (writes (at 0) None) (writes (at 0) None) (inr (pos 5, touch)) (inr (pos 5, touch)) refl

-- a pool that adds up what it takes, also while such terms are active
adds_all_safe : (active : Actives ℕ) (closed : Bool) → AreActiveSafe active → ((a : Touch) → SomeActiveTouches active a → a ≡ writes (at 0) (Some Sum)) → (closed ≡ true → none_active active ≡ true)
    → IsSafe (consume (adds 1) active closed)
adds_all_safe active closed safe only over = (safe, (λ value. tt), together, over)
  where
    one : (a : Touch) → PoolTouches (adds 1) active a → a ≡ writes (at 0) (Some Sum)
    one a (inl h) = only a h
    one a (inr h) = adds_into 1 h.0 a h.1

    together : (a b : Touch) → PoolTouches (adds 1) active a → PoolTouches (adds 1) active b → AreCompatible a b
    together a b ta tb = by_one (writes (at 0) (Some Sum)) (writes (at 0) (Some Sum)) a b (one a ta) (one b tb) sums_into_one_element_do_not_conflict

a_pool_whose_body_adds_is_safe : IsSafe (consume (adds 1) idle false)
a_pool_whose_body_adds_is_safe = adds_all_safe idle false tt (λ a h. elim h [ ]) (λ e. let clash : false ≡ true = e in cc)

-- an active term that replaces the element, beside a body that adds into it
an_active_term_that_replaces_what_the_body_adds_into_is_not_safe : IsSafe (consume (adds 1) (busy (pos 7) (sets 2 (cell 0 0 0) (pos 5)) idle) false) → ⊥
an_active_term_that_replaces_what_the_body_adds_into_is_not_safe s =
    s.2 (writes (at 0) None) (writes (at 0) (Some Sum))
    (inl (inl (inr ([], write_value (pos 5) (cell 0 0 0) None ∷ [], refl, inl refl))))
    (inr (pos 5, inr ([], write_value (pos 5) (cell 0 0 0) (Some Sum) ∷ [], refl, inl refl))) refl

-- two active terms that replace it, where the body does nothing
active_terms_that_replace_one_element_are_not_safe : IsSafe (consume (λ value. list Items unordered none) (busy (pos 7) (sets 1 (cell 0 0 0) (pos 7)) (busy (pos 8) (sets 1 (cell 0 0 0) (pos 8)) idle)) false) → ⊥
active_terms_that_replace_one_element_are_not_safe s =
    s.2 (writes (at 0) None) (writes (at 0) None)
    (inl (inl (inr ([], write_value (pos 7) (cell 0 0 0) None ∷ [], refl, inl refl))))
    (inl (inr (inl (inr ([], write_value (pos 8) (cell 0 0 0) None ∷ [], refl, inl refl))))) refl

-- a term that is active and not finished
abbrev at_work : Actives ℕ
at_work = busy (pos 7) (adds 1 (pos 7)) idle

at_work_adds : (a : Touch) → SomeActiveTouches at_work a → a ≡ writes (at 0) (Some Sum)
at_work_adds a (inl h) = adds_into 1 (pos 7) a h
at_work_adds a (inr h) = elim h [ ]

an_open_pool_with_an_active_term_is_safe : IsSafe (consume (adds 1) at_work false)
an_open_pool_with_an_active_term_is_safe = adds_all_safe at_work false (tt, tt) at_work_adds (λ e. let clash : false ≡ true = e in cc)

a_closed_pool_with_an_active_term_is_not_safe : IsSafe (consume (adds 1) at_work true) → ⊥
a_closed_pool_with_an_active_term_is_not_safe s = let clash : false ≡ true = s.3 refl in cc

-- the same term when it has done all
abbrev has_done : Actives ℕ
has_done = busy (pos 7) (leaf 1 (doing [])) idle

has_done_touches : (a : Touch) → SomeActiveTouches has_done a → a ≡ writes (at 0) (Some Sum)
has_done_touches a (inl h) = elim h [ ]
has_done_touches a (inr h) = elim h [ ]

a_closed_pool_with_a_finished_term_is_safe : IsSafe (consume (adds 1) has_done true)
a_closed_pool_with_a_finished_term_is_safe = adds_all_safe has_done true (tt, tt) has_done_touches (λ e. refl)

-- ---- unsafe work anywhere makes the whole unsafe

abbrev unsafe : Term ℕ
unsafe = side_by_side (sets 1 (cell 0 0 0) (pos 5)) (sets 2 (cell 0 0 0) (pos 6))

unsafe_work_in_a_list_is_not_safe : IsSafe (list Items in_turn (two (sets 1 (cell 0 0 0) (pos 5)) unsafe)) → ⊥
unsafe_work_in_a_list_is_not_safe s = items_that_replace_one_element_are_not_safe s.0.1.0

unsafe_work_at_the_front_of_a_list_is_not_safe : IsSafe (list Items in_turn (two unsafe (sets 1 (cell 0 0 0) (pos 5)))) → ⊥
unsafe_work_at_the_front_of_a_list_is_not_safe s = items_that_replace_one_element_are_not_safe s.0.0

unsafe_work_with_private_containers_is_not_safe : IsSafe (owning cells unsafe) → ⊥
unsafe_work_with_private_containers_is_not_safe s = items_that_replace_one_element_are_not_safe s

unsafe_work_in_a_nested_run_is_not_safe : IsSafe (graph unsafe cells) → ⊥
unsafe_work_in_a_nested_run_is_not_safe s = items_that_replace_one_element_are_not_safe s.0

-- only state 1 is unsafe
abbrev turns_unsafe : ℕ → Values → Term ℕ
turns_unsafe zero values = list Items unordered none
turns_unsafe (suc state) values = unsafe

unsafe_work_in_a_later_state_is_not_safe : IsSafe (begun turns_unsafe conditions cells []) → ⊥
unsafe_work_in_a_later_state_is_not_safe s = items_that_replace_one_element_are_not_safe (s.1 1 [])

-- in an array of the element's own, so that two elements are not in conflict
unsafe_work_in_the_body_of_a_pool_is_not_safe : IsSafe (consume (λ value. owning cells unsafe) idle false) → ⊥
unsafe_work_in_the_body_of_a_pool_is_not_safe s = items_that_replace_one_element_are_not_safe (s.1 (pos 5))

unsafe_work_in_an_active_term_is_not_safe : IsSafe (consume (λ value. list Items unordered none) (busy (pos 7) (owning cells unsafe) idle) false) → ⊥
unsafe_work_in_an_active_term_is_not_safe s = items_that_replace_one_element_are_not_safe s.0.0

unsafe_work_in_a_later_active_term_is_not_safe : IsSafe (consume (λ value. list Items unordered none) (busy (pos 7) (has_own 1) (busy (pos 8) (owning cells unsafe) idle)) false) → ⊥
unsafe_work_in_a_later_active_term_is_not_safe s = items_that_replace_one_element_are_not_safe s.0.1.0

-- ---- work that may interleave

abbrev below : ℤ → List Pending
below (pos zero) = []
below (pos (suc n)) = push_to 0 1 (pos n) ∷ []
below (negsuc n) = []

-- a value is added up, and the one below is pushed
abbrev counting : ℤ → Term ℕ
counting value = task 1 [] (λ values. write_value value (cell 0 0 0) (Some Sum) ∷ below value)

-- it touches an element and its own stream
counts_touches : (v : ℤ) (a : Touch) → Touches (counting v) a → (a ≡ writes (at 0) (Some Sum)) ⊎ (a ≡ pushes 0 1)
counts_touches v a h = elim (task_does 1 [] (λ values. write_value v (cell 0 0 0) (Some Sum) ∷ below v) a h) [ inl x ↦ elim x [ ] | inr x ↦ elim x.1 [ inl e ↦ inl e | inr y ↦ inr (pushed_below v y) ] ]
  where
    pushed_below : (v : ℤ) → SomePendingTouches (below v) a → a ≡ pushes 0 1
    pushed_below (pos zero) h = elim h [ ]
    pushed_below (pos (suc n)) (inl e) = e
    pushed_below (pos (suc n)) (inr h) = elim h [ ]
    pushed_below (negsuc n) h = elim h [ ]

counts_together : (a b : Touch) → (a ≡ writes (at 0) (Some Sum)) ⊎ (a ≡ pushes 0 1) → (b ≡ writes (at 0) (Some Sum)) ⊎ (b ≡ pushes 0 1) → AreCompatible a b
counts_together a b (inl e) (inl f) = by_one (writes (at 0) (Some Sum)) (writes (at 0) (Some Sum)) a b e f sums_into_one_element_do_not_conflict
counts_together a b (inl e) (inr f) = by_one (writes (at 0) (Some Sum)) (pushes 0 1) a b e f tt
counts_together a b (inr e) (inl f) = by_one (pushes 0 1) (writes (at 0) (Some Sum)) a b e f tt
counts_together a b (inr e) (inr f) = by_one (pushes 0 1) (pushes 0 1) a b e f tt

only_counts : (a : Touch) → PoolTouches counting idle a → (a ≡ writes (at 0) (Some Sum)) ⊎ (a ≡ pushes 0 1)
only_counts a (inl h) = elim h [ ]
only_counts a (inr h) = counts_touches h.0 a h.1

counts_down_is_safe : IsSafe counts_down
counts_down_is_safe = (tt, (λ value. tt), (λ a b ta tb. counts_together a b (only_counts a ta) (only_counts b tb)), λ e. let clash : false ≡ true = e in cc)

-- what it takes is a value of the innermost memory
takes_its_own : (level container : ℕ) → Touches counts_down (takes (suc level) container) → ⊥
takes_its_own level container (inl e) = let clash : suc level ≡ 0 = ap level_of e in cc
takes_its_own level container (inr h) = elim (only_counts (takes (suc level) container) h) [ inl e ↦ let clash : takes (suc level) container ≡ writes (at 0) (Some Sum) = e in cc | inr e ↦ let clash : takes (suc level) container ≡ pushes 0 1 = e in cc ]

graph_takes_nothing : (own : Memory) → TakesNothingOutside (graph counts_down own)
graph_takes_nothing own level container (inl h) = takes_its_own level container h
graph_takes_nothing own level container (inr (inl h)) = takes_its_own level container h.2
graph_takes_nothing own level container (inr (inr h)) = elim h.2 [ ]

a_graph_with_a_pool_over_its_own_stream_may_interleave : MayInterleave (graph counts_down (memory (pos 0) (pos 3 ∷ [])))
a_graph_with_a_pool_over_its_own_stream_may_interleave =
    record {
      ordered = ((tt, λ value. tt), λ state values. (tt, λ value. tt));
      safe = (counts_down_is_safe, λ state values. counts_down_is_safe);
      inside = graph_takes_nothing (memory (pos 0) (pos 3 ∷ []));
    }

-- the same graph, by its name
a_pool_over_its_own_stream_may_interleave : MayInterleave (pool_over (memory (pos 0) (pos 3 ∷ [])) 1 counting)
a_pool_over_its_own_stream_may_interleave = a_graph_with_a_pool_over_its_own_stream_may_interleave

a_pool_over_a_stream_outside_may_not_interleave : MayInterleave (graph (pool 1 1 counting idle false) cells) → ⊥
a_pool_over_a_stream_outside_may_not_interleave m = m.inside 0 1 (inl (inl refl))

-- nor over one that is further outside
a_pool_over_a_stream_further_outside_may_not_interleave : MayInterleave (graph (pool 2 1 counting idle false) cells) → ⊥
a_pool_over_a_stream_further_outside_may_not_interleave m = m.inside 1 1 (inl (inl refl))

a_pool_alone_may_not_interleave : MayInterleave counts_down → ⊥
a_pool_alone_may_not_interleave m = m.inside 0 1 (inl refl)

unsafe_work_may_not_interleave : MayInterleave (graph unsafe cells) → ⊥
unsafe_work_may_not_interleave m = unsafe_work_in_a_nested_run_is_not_safe m.safe

-- an order that leads from a higher number to a lower one is none
abbrev backwards : ℕ → ℕ → Bool
backwards j k = nat_lt k j

abbrev in_no_order : Term ℕ
in_no_order = list Items backwards (two (sets 1 (cell 0 0 0) (pos 5)) (sets 2 (cell 0 0 1) (pos 5)))

not_in_order : IsOrder backwards → ⊥
not_in_order o = let wrong : 1 < 0 = o.rises 1 0 refl in omega (arith, wrong)

items_in_no_order_may_not_interleave : MayInterleave in_no_order → ⊥
items_in_no_order_may_not_interleave m = not_in_order m.ordered.0

items_in_no_order_may_not_be_the_body_of_a_pool : MayInterleave (pool_over (memory (pos 0) []) 1 (λ value. in_no_order)) → ⊥
items_in_no_order_may_not_be_the_body_of_a_pool m = not_in_order (m.ordered.0.1 (pos 5)).0

-- state 0 does nothing
abbrev turns_in_no_order : ℕ → Values → Term ℕ
turns_in_no_order zero values = list Items unordered none
turns_in_no_order (suc state) values = in_no_order

items_in_no_order_may_not_be_a_later_state : MayInterleave (begun turns_in_no_order conditions cells []) → ⊥
items_in_no_order_may_not_be_a_later_state m = not_in_order (m.ordered.1 1 []).0

-- ---- the law on one pool: it adds up its values, whatever is taken and done first

abbrev adds_up : Term ℕ
adds_up = graph (consume (adds 1) idle false) (memory (pos 0) (pos 7 ∷ pos 8 ∷ pos 9 ∷ []))

one_run_by_picks_leaves_what_the_sequential_run_does : run_of (2 ∷ 1 ∷ 2 ∷ []) adds_up 3 ≡ run_of [] adds_up 3
unfolding int_wrap
one_run_by_picks_leaves_what_the_sequential_run_does = refl

the_sum_is_left : run_of (2 ∷ 1 ∷ 2 ∷ []) adds_up 3 ≡ done (memory (pos 24) []) 0
unfolding int_wrap
the_sum_is_left = refl

abbrev first_pick : List (ℕ × ℕ) → ℕ
first_pick [] = 0
first_pick (pick ∷ picks) = pick.0

-- though the moves were other ones
the_moves_are_other_ones : trace_of (2 ∷ 1 ∷ 2 ∷ []) adds_up 3 ≡ trace_of [] adds_up 3 → ⊥
the_moves_are_other_ones h = let clash : 2 ≡ 0 = ap first_pick h in omega (arith, clash)

adds_all_takes_its_own : (level container : ℕ) → Touches (consume (adds 1) idle false) (takes (suc level) container) → ⊥
adds_all_takes_its_own level container (inl e) = let clash : suc level ≡ 0 = ap level_of e in cc
adds_all_takes_its_own level container (inr (inl h)) = elim h [ ]
adds_all_takes_its_own level container (inr (inr h)) = let clash : takes (suc level) container ≡ writes (at 0) (Some Sum) = adds_into 1 h.0 (takes (suc level) container) h.1 in cc

adds_up_takes_nothing : TakesNothingOutside adds_up
adds_up_takes_nothing level container (inl h) = adds_all_takes_its_own level container h
adds_up_takes_nothing level container (inr (inl h)) = adds_all_takes_its_own level container h.2
adds_up_takes_nothing level container (inr (inr h)) = elim h.2 [ ]

adds_up_may_interleave : MayInterleave adds_up
adds_up_may_interleave =
    record {
      ordered = ((tt, λ value. tt), λ state values. (tt, λ value. tt));
      safe = (a_pool_whose_body_adds_is_safe, λ state values. a_pool_whose_body_adds_is_safe);
      inside = adds_up_takes_nothing;
    }

-- so by any picks, from what the one run leaves
each_run_of_this_pool_leaves_the_sum : (picks : List ℕ)
    → (end : Left) × Run adds_up 3 picks (Done end) × LeaveAlike (record { memory = memory (pos 24) []; turns = 0 }) end
unfolding int_wrap
each_run_of_this_pool_leaves_the_sum picks = every-run adds_up 3 [] picks (record { memory = memory (pos 24) []; turns = 0 }) adds_up_may_interleave (12, refl)
