-- A cut that some boxes mark, and one box more.
use Rattle.std.proofs.Common.{◌≡◌, ℕ, suc, ◌+◌, ◌<◌, List, [], ◌∷◌, ◌++◌, length, drop, slice_index_or, refl, sym, ◌∙◌, ap, arith}
use Rattle.std.proofs.Math.Seq.{drop-cons}
use Rattle.std.specs.List.{fold}
use Rattle.sd_cut.specs.Overlaid.{Overlaid}
use Rattle.sd_part.specs.Boxes.{NumberBox}
use Rattle.sd_part.specs.Marking.{with_box}

fold-more : (boxes some : List NumberBox) (box : NumberBox) (cut : Overlaid) → with_box boxes (fold (with_box boxes) cut some) box ≡ fold (with_box boxes) cut (some ++ box ∷ [])
fold-more boxes [] box cut = refl
fold-more boxes (first ∷ some) box cut = fold-more boxes some box (with_box boxes cut first)

pub one-more : (boxes some : List NumberBox) (box : NumberBox) (cut now next : Overlaid) → now ≡ fold (with_box boxes) cut some → next ≡ with_box boxes now box → next ≡ fold (with_box boxes) cut (some ++ box ∷ [])
one-more boxes some box cut now next so is = is ∙ ap (λ (o : Overlaid). with_box boxes o box) so ∙ fold-more boxes some box cut

-- those that are left, without the next one
pub left-next : (boxes : List NumberBox) (i : ℕ) (box : NumberBox) (now next all : Overlaid) → i < length boxes → box ≡ slice_index_or boxes i box → next ≡ with_box boxes now box → fold (with_box boxes) now (drop i boxes) ≡ all →
    fold (with_box boxes) next (drop (i + 1) boxes) ≡ all
left-next boxes i box now next all less here is so =
    let after : i + 1 ≡ suc i = omega arith in
    (λ k. fold (with_box boxes) (is k) (drop (after k) boxes))
    ∙ ap (fold (with_box boxes) now) (sym (drop-cons boxes i box less ∙ ap (λ (b : NumberBox). b ∷ drop (suc i) boxes) (sym here)))
    ∙ so
