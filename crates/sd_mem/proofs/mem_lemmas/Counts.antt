-- Products that stand still at a number.
use Rattle.std.proofs.Common.{◌≡◌, ℕ, zero, suc, ◌*◌, ◌<◌, min, List, [], ◌∷◌, length, drop, slice_index_or, arith, ◌+◌, add-one, drop-cons}
use Rattle.std.specs.List.{fold}

-- two numbers are one where they stand still
times_same : (most a b factor : ℕ) → min a most ≡ min b most → min (a * factor) most ≡ min (b * factor) most
times_same most a b zero same = omega (arith, same)
times_same most a b (suc factor) same = grind (arith, same)

fold_same : (most a b : ℕ) (counts : List ℕ) → min a most ≡ min b most → min (fold (λ all count. all * count) a counts) most ≡ min (fold (λ all count. all * count) b counts) most
fold_same most a b [] same = same
fold_same most a b (count ∷ counts) same = fold_same most (a * count) (b * count) counts (times_same most a b count same)

-- a product that has been held back goes on as it would have
pub held_back : (most a : ℕ) (counts : List ℕ) → min (fold (λ all count. all * count) (min a most) counts) most ≡ min (fold (λ all count. all * count) a counts) most
held_back most a counts = fold_same most (min a most) a counts (omega arith)

-- one extent more
pub held_next : (most count next : ℕ) (shape : List ℕ) (i : ℕ) → i < length shape → next ≡ min (count * slice_index_or shape i 0) most →
    min (fold (λ all count. all * count) next (drop (i + 1) shape)) most ≡ min (fold (λ all count. all * count) count (drop i shape)) most
held_next most count next shape i below is =
    rw (add-one, drop-cons shape i 0 below, is) (held_back most (count * slice_index_or shape i 0) (drop (suc i) shape))
