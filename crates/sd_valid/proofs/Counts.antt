-- Products that stand still at a number.
use Rattle.std.proofs.Common.{ap, ◌∙◌, unsigned_abs, map, ◌≡◌, ℕ, zero, suc, ◌*◌, ◌<◌, min, List, [], ◌∷◌, length, drop, slice_index_or, arith, ◌+◌, add-one, drop-cons}
use Rattle.std.specs.List.{fold}
use Rattle.sd_range.specs.declared.affine.Affine.{Affine}

-- two numbers are one where they stand still
times_same : (most a b factor : ℕ) → min a most ≡ min b most → min (a * factor) most ≡ min (b * factor) most
times_same most a b zero same = omega (arith, same)
times_same most a b (suc factor) same = grind (arith, same)

fold_same : (most a b : ℕ) (counts : List ℕ) → min a most ≡ min b most → min (fold (λ all count. all * count) a counts) most ≡ min (fold (λ all count. all * count) b counts) most
fold_same most a b [] same = same
fold_same most a b (count ∷ counts) same = fold_same most (a * count) (b * count) counts (times_same most a b count same)

-- a product that has been held back goes on as it would have
pub held_back : (most a : ℕ) (counts : List ℕ) → min (fold (λ all count. all * count) (min a most) counts) most ≡ min (fold (λ all count. all * count) a counts) most
held_back most a counts = fold_same most (min a most) a counts (omega arith)

-- one extent more, of a list of expressions whose constants are the extents
pub held_next_of : (most count next : ℕ) (extents : List Affine) (i : ℕ) (item : Affine) → i < length extents → item ≡ slice_index_or extents i item → next ≡ min (count * unsigned_abs item.constant) most →
    min (fold (λ all count. all * count) next (map (λ extent. unsigned_abs extent.constant) (drop (i + 1) extents))) most
    ≡ min (fold (λ all count. all * count) count (map (λ extent. unsigned_abs extent.constant) (drop i extents))) most
held_next_of most count next extents i item below item_is is =
    let rest = map (λ (extent : Affine). unsigned_abs extent.constant) (drop (suc i) extents) in
    rw (add-one, drop-cons extents i item below, is)
    (held_back most (count * unsigned_abs item.constant) rest
    ∙ ap (λ (extent : Affine). min (fold (λ all count. all * count) (count * unsigned_abs extent.constant) rest) most) item_is)
