-- The dimensions of a box in a window, one after another.
use Rattle.std.proofs.Common.{◌≡◌, ℕ, suc, ◌+◌, ◌<◌, ◌≤◌, ℤ, pos, ◌+ℤ◌, ◌≤ℤ◌, List, [], ◌∷◌, ◌++◌, length, drop, slice_index_or, sym, ◌∙◌, ap, subst, arith}
use Rattle.std.proofs.Math.Seq.{drop-cons}
use Rattle.std.proofs.lemmas.List.{append_assoc, drop_all}
use Rattle.sd_part.specs.declared.boxes.interval.Interval.{Interval}
use Rattle.sd_part.specs.declared.numbers.Side.{Side}
use Rattle.sd_part.specs.Sides.{side_of, sides_of, BeginsWithin}

rest_of : {A : Type 0} (xs : List A) (i : ℕ) (d : A) → i < length xs → drop i xs ≡ slice_index_or xs i d ∷ drop (i + 1) xs
rest_of xs i d h = let next : suc i ≡ i + 1 = omega arith in drop-cons xs i d h ∙ ap (λ n. slice_index_or xs i d ∷ drop n xs) next

-- one dimension more
pub sides_next : (all next : List Side) (side : Side) (i : ℕ) (shift : List ℤ) (extents : List ℕ) (intervals : List Interval) (s : ℤ) (e : ℕ) (v : Interval) → i < length intervals → length shift ≡ length intervals →
    length extents ≡ length intervals → next ≡ all ++ side ∷ [] → side ≡ side_of (slice_index_or shift i s) (slice_index_or extents i e) (slice_index_or intervals i v) →
    all ++ sides_of (drop i shift) (drop i extents) (drop i intervals) ≡ sides_of shift extents intervals →
    next ++ sides_of (drop (i + 1) shift) (drop (i + 1) extents) (drop (i + 1) intervals) ≡ sides_of shift extents intervals
sides_next all next side i shift extents intervals s e v less p q pushed is h =
    let a = rest_of shift i s (omega (arith, p)) in
    let b = rest_of extents i e (omega (arith, q)) in
    let d = rest_of intervals i v less in
    let left = sides_of (drop (i + 1) shift) (drop (i + 1) extents) (drop (i + 1) intervals) in
    ap (λ l. l ++ left) pushed
    ∙ append_assoc all (side ∷ []) left
    ∙ ap (λ z. all ++ z ∷ left) is
    ∙ ap (λ l. all ++ l) (sym (λ k. sides_of (a k) (b k) (d k)))
    ∙ h

pub within_next : (i : ℕ) (shift : List ℤ) (intervals : List Interval) (s : ℤ) (v : Interval) (Whole : Type 0) → i < length intervals → length shift ≡ length intervals →
    pos 0 ≤ℤ (slice_index_or shift i s +ℤ pos (slice_index_or intervals i v).low) → (BeginsWithin (drop i shift) (drop i intervals) → Whole) → BeginsWithin (drop (i + 1) shift) (drop (i + 1) intervals) → Whole
within_next i shift intervals s v Whole less p above h left =
    let a = rest_of shift i s (omega (arith, p)) in
    let d = rest_of intervals i v less in
    h (subst (λ l. BeginsWithin l (drop i intervals)) (sym a) (subst (BeginsWithin (slice_index_or shift i s ∷ drop (i + 1) shift)) (sym d) (above, left)))

-- behind the last dimension nothing is left
pub within_all : (i : ℕ) (shift : List ℤ) (intervals : List Interval) → length shift ≡ length intervals → length intervals ≤ i → BeginsWithin (drop i shift) (drop i intervals)
within_all i shift intervals same over =
    subst (λ l. BeginsWithin l (drop i intervals)) (sym (drop_all i shift (omega (arith, same, over)))) (subst (BeginsWithin []) (sym (drop_all i intervals over)) tt)
