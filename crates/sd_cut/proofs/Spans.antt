-- The dimensions of a window, one after another.
use Rattle.std.proofs.Common.{◌≡◌, ℕ, zero, suc, ◌+◌, ◌<◌, ℤ, ◌+ℤ◌, List, [], ◌∷◌, ◌++◌, length, drop, slice_index_or, sym, ◌∙◌, ap, subst, arith, FitsSigned}
use Rattle.std.proofs.lemmas.Int.{ints}
use Rattle.std.proofs.Math.Seq.{drop-cons}
use Rattle.std.proofs.lemmas.List.{append_assoc}
use Rattle.std.proofs.lemmas.List.Elements.{All-push}
use Rattle.std.specs.Int.{w128}
use Rattle.std.specs.List.{All}
use Rattle.sd_range.specs.declared.affine.Affine.{Affine}
use Rattle.sd_range.specs.declared.subset.Dim.{Dim}
use Rattle.sd_range.specs.Affine.{terms_value, IsEvaluable}
use Rattle.sd_range.specs.Range.{IsEvaluableRange}
use Rattle.sd_cut.specs.Cells.{span_within, spans_within}

-- a number alone is told where it fits
pub number_told : (a : Affine) (z : ℤ) → a.constant ≡ z → a.terms ≡ [] → FitsSigned w128 z → IsEvaluable [] a
number_told a z same none fits = record {
  known = subst (λ (terms : List (ℕ × ℤ)). All (λ (term : ℕ × ℤ). term.0 < 0) terms) (sym none) (λ k d less. absurd (omega arith));
  fits = subst (FitsSigned w128) (sym (ap (λ (terms : List (ℕ × ℤ)). a.constant +ℤ terms_value [] terms) none ∙ (let e = same in omega (arith, ints, e)))) fits;
}

one-told : (e : Affine) → IsEvaluable [] e → All (IsEvaluable []) (e ∷ [])
one-told e h = λ k d less. on k d less
  where
    on : (k : ℕ) (d : Affine) → k < length (e ∷ []) → IsEvaluable [] (slice_index_or (e ∷ []) k d)
    on zero d less = h
    on (suc k) d less = absurd (omega arith)

pub range_told : (begin end : Affine) (ends : List Affine) (step : ℤ) → ends ≡ end ∷ [] → IsEvaluable [] begin → IsEvaluable [] end → IsEvaluableRange [] (record { begin = begin; ends = ends; step = step })
range_told begin end ends step is b e = record { begin = b; ends = subst (All (IsEvaluable [])) (sym is) (one-told end e) }

rest-of : {A : Type 0} (xs : List A) (i : ℕ) (d : A) → i < length xs → drop i xs ≡ slice_index_or xs i d ∷ drop (i + 1) xs
rest-of xs i d h = let next : suc i ≡ i + 1 = omega arith in drop-cons xs i d h ∙ ap (λ n. slice_index_or xs i d ∷ drop n xs) next

pub spans_next : (dims next : List Dim) (d : Dim) (i : ℕ) (shift : List ℤ) (extents : List ℕ) (s : ℤ) (e : ℕ) → i < length shift → length shift ≡ length extents → next ≡ dims ++ d ∷ [] →
    d ≡ span_within s e → s ≡ slice_index_or shift i s → e ≡ slice_index_or extents i e → dims ++ spans_within (drop i shift) (drop i extents) ≡ spans_within shift extents →
    next ++ spans_within (drop (i + 1) shift) (drop (i + 1) extents) ≡ spans_within shift extents
spans_next dims next d i shift extents s e less same pushed is of_shift of_extents h =
    let a : drop i shift ≡ s ∷ drop (i + 1) shift = rest-of shift i s less ∙ ap (λ z. z ∷ drop (i + 1) shift) (sym of_shift) in
    let b : drop i extents ≡ e ∷ drop (i + 1) extents = rest-of extents i e (omega (arith, same)) ∙ ap (λ z. z ∷ drop (i + 1) extents) (sym of_extents) in
    ap (λ l. l ++ spans_within (drop (i + 1) shift) (drop (i + 1) extents)) pushed
    ∙ append_assoc dims (d ∷ []) (spans_within (drop (i + 1) shift) (drop (i + 1) extents))
    ∙ ap (λ z. dims ++ z ∷ spans_within (drop (i + 1) shift) (drop (i + 1) extents)) is
    ∙ ap (λ l. dims ++ l) (sym (λ k. spans_within (a k) (b k)))
    ∙ h

pub all_next : {A : Type 0} (P : A → Type 0) (xs next : List A) (x : A) → next ≡ xs ++ x ∷ [] → All P xs → P x → All P next
all_next P xs next x is h p = subst (All P) (sym is) (All-push P xs x h p)
