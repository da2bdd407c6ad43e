-- Which changes work does not see.
use Rattle.std.proofs.Common.{◌≡◌, ◌⊎◌, ℕ, suc, pos, [], ◌∷◌, Some, None, false, refl, sym, ap, subst, inl, inr, arith}
use Rattle.sd_num.specs.declared.resolution.Resolution.TheVariants.{Sum}
use Rattle.sd_num.specs.declared.width.Width.TheVariants.{W64}
use Rattle.sd_work.specs.Memory.{Memories, Reference, array, stream}
use Rattle.sd_work.specs.Change.{Change, write, push, take, apply}
use Rattle.sd_work.specs.Leaf.{write_value, push_to, doing}
use Rattle.sd_work.specs.Residual.{Term, leaf, owning, pool, idle}
use Rattle.sd_work.specs.Moves.{moves}
use Rattle.sd_work.specs.Fire.{fire}
use Rattle.sd_work.specs.Touch.{Touch, reads, writes, pushes, takes, inner, inner_reference, SomePendingTouches, Touches, SparesTouch, SparesWork}
use Rattle.sd_work.proofs.Spared.{fire-apply}
use Rattle.sd_work.proofs.examples.ExampleParts.{cell, value_of, task}

abbrev at : (level element : ℕ) → Reference
at level element = record { level = level; container = 0; element = element }

abbrev sets : (level element : ℕ) → Change
sets level element = write (at level element) None (pos 5)

-- what is touched is known, and spared
known : (a b : Touch) (d : Change) → a ≡ b → SparesTouch b d → SparesTouch a d
known a b d e h = subst (λ touch. SparesTouch touch d) (sym e) h

-- ---- an instance that reads element 0 and adds it to element 1

abbrev adds : Term ℕ
adds = task 1 (cell 0 0 0 ∷ []) (λ values. write_value (value_of values 0) (cell 0 0 1) (Some Sum) ∷ [])

adds_touches : (a : Touch) → Touches adds a → (a ≡ reads (at 0 0)) ⊎ (a ≡ writes (at 0 1) (Some Sum))
adds_touches a (inl t) = elim t [ inl e ↦ inl e | inr n ↦ elim n [ ] ]
adds_touches a (inr t) =
    let same : write_value (value_of t.0 0) (cell 0 0 1) (Some Sum) ∷ [] ≡ t.1 = cc in
    elim (subst (λ e. SomePendingTouches e a) (sym same) t.3) [ inl e ↦ inr e | inr n ↦ elim n [ ] ]

spared_adds : (d : Change) → SparesTouch (reads (at 0 0)) d → SparesWork adds d
spared_adds d h a t = elim (adds_touches a t) [ inl e ↦ known a _ d e h | inr e ↦ known a _ d e tt ]

a_write_of_another_element_is_not_seen : SparesWork adds (sets 0 2)
a_write_of_another_element_is_not_seen = spared_adds (sets 0 2) (λ e. let clash : 0 ≡ 2 = ap (λ (r : Reference). r.element) e in omega (arith, clash))

-- what it writes itself it does not look at
a_write_of_what_is_written_is_not_seen : SparesWork adds (sets 0 1)
a_write_of_what_is_written_is_not_seen = spared_adds (sets 0 1) (λ e. let clash : 0 ≡ 1 = ap (λ (r : Reference). r.element) e in omega (arith, clash))

a_write_of_what_is_read_is_seen : SparesWork adds (sets 0 0) → ⊥
a_write_of_what_is_read_is_seen h = h (reads (at 0 0)) (inl (inl refl)) refl

a_sum_into_what_is_read_is_seen : SparesWork adds (write (at 0 0) (Some Sum) (pos 5)) → ⊥
a_sum_into_what_is_read_is_seen h = h (reads (at 0 0)) (inl (inl refl)) refl

-- the container and the element are the same, the memory another one
a_write_of_another_memory_is_not_seen : SparesWork adds (sets 1 0)
a_write_of_another_memory_is_not_seen = spared_adds (sets 1 0) (λ e. let clash : 0 ≡ 1 = ap (λ (r : Reference). r.level) e in omega (arith, clash))

a_push_is_not_seen_by_a_read : SparesWork adds (push 0 0 (pos 5))
a_push_is_not_seen_by_a_read = spared_adds (push 0 0 (pos 5)) tt

-- so its move is the same, in memories of any kind
its_move_is_the_same : (memories : Memories) → fire adds [] (apply (sets 0 2) memories) ≡ fire adds [] memories
its_move_is_the_same = fire-apply adds (sets 0 2) a_write_of_another_element_is_not_seen []

-- in an owner it reads the owner's element
a_write_outside_is_not_seen_in_an_owner : SparesWork (owning (array W64 (pos 7 ∷ []) ∷ []) adds) (sets 0 0)
a_write_outside_is_not_seen_in_an_owner a t = go a (adds_touches (inner a) t)
  where
    go : (a : Touch) → (inner a ≡ reads (at 0 0)) ⊎ (inner a ≡ writes (at 0 1) (Some Sum)) → SparesTouch a (sets 0 0)
    go (reads r) (inl e) =
        let same : inner_reference r ≡ at 0 0 = cc in
        let clash : suc r.level ≡ 0 = ap (λ (q : Reference). q.level) same in λ f. cc
    go (reads r) (inr e) = cc
    go (writes r by) e = tt
    go (pushes l c) e = tt
    go (takes l c) (inl e) = cc
    go (takes l c) (inr e) = cc

-- an element outside, read from inside an owner
abbrev reads_outside : Term ℕ
reads_outside = owning [] (task 1 (cell 1 0 0 ∷ []) (λ values. []))

a_write_outside_is_seen_in_an_owner_that_reads_it : SparesWork reads_outside (sets 0 0) → ⊥
a_write_outside_is_seen_in_an_owner_that_reads_it h = h (reads (at 0 0)) (inl (inl refl)) refl

-- ---- an instance that pushes

abbrev feeds : Term ℕ
feeds = task 1 [] (λ values. push_to 0 1 (pos 7) ∷ [])

spared_feeds : (d : Change) → SparesWork feeds d
spared_feeds d a (inl n) = elim n [ ]
spared_feeds d a (inr t) =
    let same : push_to 0 1 (pos 7) ∷ [] ≡ t.1 = cc in
    elim (subst (λ e. SomePendingTouches e a) (sym same) t.3) [ inl e ↦ known a _ d e tt | inr n ↦ elim n [ ] ]

-- nor does it look at what waits in the stream
a_push_is_not_seen_by_a_push : SparesWork feeds (push 0 1 (pos 5))
a_push_is_not_seen_by_a_push = spared_feeds _

a_take_is_not_seen_by_a_push : SparesWork feeds (take 0 1 0)
a_take_is_not_seen_by_a_push = spared_feeds _

-- ---- a pool over stream 1, which does nothing with its values

abbrev drains : Term ℕ
drains = pool 0 1 (λ value. leaf 1 (doing [])) idle false

spared_drains : (d : Change) → SparesTouch (takes 0 1) d → SparesWork drains d
spared_drains d h a (inl e) = known a _ d e h
spared_drains d h a (inr (inl n)) = elim n [ ]
spared_drains d h a (inr (inr n)) = elim n.1 [ ]

a_push_into_its_stream_is_seen : SparesWork drains (push 0 1 (pos 5)) → ⊥
a_push_into_its_stream_is_seen h = h (takes 0 1) (inl refl) refl refl

a_take_from_its_stream_is_seen : SparesWork drains (take 0 1 0) → ⊥
a_take_from_its_stream_is_seen h = h (takes 0 1) (inl refl) refl refl

a_push_into_another_stream_is_not_seen : SparesWork drains (push 0 2 (pos 5))
a_push_into_another_stream_is_not_seen = spared_drains (push 0 2 (pos 5)) (λ e f. cc)

a_take_from_a_stream_of_another_memory_is_not_seen : SparesWork drains (take 1 1 0)
a_take_from_a_stream_of_another_memory_is_not_seen = spared_drains (take 1 1 0) (λ e f. cc)

a_write_is_not_seen_by_a_pool : SparesWork drains (sets 0 1)
a_write_is_not_seen_by_a_pool = spared_drains (sets 0 1) tt

-- where it is seen, there may be another move
a_pushed_value_is_one_more_move : moves drains (apply (push 0 1 (pos 5)) ((array W64 [] ∷ stream W64 [] ∷ []) ∷ [])) ≡ (0 ∷ 0 ∷ []) ∷ []
a_pushed_value_is_one_more_move = refl
