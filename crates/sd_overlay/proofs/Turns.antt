-- What a use makes of an element, as what is committed of it shows.
use Rattle.std.proofs.Common.{◌≡◌, ℕ, zero, suc, ℤ, Option, Some, None, Bool, true, false, refl, sym, ◌∙◌, ap}
use Rattle.std.proofs.lemmas.Bool.{eqb-true}
use Rattle.sd_num.specs.Width.{wrapped_to, IsElement}
use Rattle.sd_num.specs.Resolution.{stored, identity_of, IsCommuting}
use Rattle.sd_num.specs.declared.width.Width.{Width}
use Rattle.sd_num.specs.declared.resolution.Resolution.{Resolution}
use Rattle.sd_num.specs.declared.resolution.Resolution.TheVariants.{Sum, Product, Min, Max, And, Or, Xor, Last}
use Rattle.sd_num.proofs.StoredLemmas.{wrapped_to-twice, wrapped_to-element, stored-comm, stored-assoc, identity-stored, IsElement-stored}
use Rattle.sd_cut.specs.declared.elements.CutElement.{CutElement}
use Rattle.sd_cut.specs.declared.elements.ElementMark.{ElementMark}
use Rattle.sd_cut.specs.declared.elements.ElementMark.TheVariants.{Untouched, Kept, Replaced, Gathered}
use Rattle.sd_cut.specs.declared.turning.ElementLeft.{ElementLeft}
use Rattle.sd_cut.specs.Turning.{number_of, are_one, sees_by, kept_left, gathered_left, gathered_with, gathered_on, gathered_or_kept, replaced_mark, written_left, written_with}
use Rattle.sd_cut.proofs.Merging.{marked_by}

-- what a turn makes of an element of this value in the memory: what is committed of it is what was, changed so; where it is kept then, it was cut with that value
abbrev pub TurnsTo : (Width → CutElement → ℤ → ElementLeft) → (Width → ℤ → ℤ) → Type 0
TurnsTo turn change =
    (w : Width) (one : CutElement) (left old : ℤ) → IsElement w old → ((turn w one left).mark ≡ Kept → one.opening ≡ old)
    → marked_by w (turn w one left).mark (wrapped_to w (turn w one left).value) old ≡ change w (marked_by w one.mark left old)

-- ---- stored values

stored-left : (w : Width) (r : Resolution) (a v : ℤ) → stored w (Some r) (wrapped_to w a) v ≡ stored w (Some r) a v
stored-left w r a v = rw (wrapped_to-twice w a) refl

stored-right : (w : Width) (r : Resolution) (a v : ℤ) → stored w (Some r) a (wrapped_to w v) ≡ stored w (Some r) a v
stored-right w r a v = rw (wrapped_to-twice w v) refl

stored-fits : (w : Width) (by : Option Resolution) (a v : ℤ) → wrapped_to w (stored w by a v) ≡ stored w by a v
stored-fits w by a v = wrapped_to-element w (stored w by a v) (IsElement-stored w by a v)

commutes : (r : Resolution) (w : Width) (e : ℤ) → identity_of r w ≡ Some e → IsCommuting r
commutes r w e is last = let clash : None ≡ Some e = ap (λ s. identity_of s w) (sym last) ∙ is in cc

-- without an identity a value replaces the element, whatever it was
replaces : (w : Width) (r : Resolution) (a b v : ℤ) → identity_of r w ≡ None → stored w (Some r) a v ≡ stored w (Some r) b v
replaces w Sum a b v is = cc
replaces w Product a b v is = cc
replaces w Min a b v is = cc
replaces w Max a b v is = cc
replaces w And a b v is = cc
replaces w Or a b v is = cc
replaces w Xor a b v is = cc
replaces w Last a b v is = refl

abbrev resolution_at : ℕ → Resolution
resolution_at zero = Sum
resolution_at (suc zero) = Product
resolution_at (suc (suc zero)) = Min
resolution_at (suc (suc (suc zero))) = Max
resolution_at (suc (suc (suc (suc zero)))) = And
resolution_at (suc (suc (suc (suc (suc zero))))) = Or
resolution_at (suc (suc (suc (suc (suc (suc zero)))))) = Xor
resolution_at (suc (suc (suc (suc (suc (suc (suc n))))))) = Last

at-its-number : (r : Resolution) → resolution_at (number_of r) ≡ r
at-its-number Sum = refl
at-its-number Product = refl
at-its-number Min = refl
at-its-number Max = refl
at-its-number And = refl
at-its-number Or = refl
at-its-number Xor = refl
at-its-number Last = refl

are-same : (a b : Resolution) → are_one a b ≡ true → a ≡ b
are-same a b is = sym (at-its-number a) ∙ ap resolution_at (eqb-true (number_of a) (number_of b) is) ∙ at-its-number b

-- ---- turns

-- what is left counts as wrapped
as-wrapped : (w : Width) (mark : ElementMark) (left old : ℤ) → marked_by w mark (wrapped_to w left) old ≡ marked_by w mark left old
as-wrapped w Untouched left old = refl
as-wrapped w Kept left old = wrapped_to-twice w left
as-wrapped w Replaced left old = wrapped_to-twice w left
as-wrapped w (Gathered by) left old = stored-right w by old left

pub kept-turns : TurnsTo kept_left (λ w old. old)
kept-turns w one left old fits same = wrapped_to-twice w (sees_by one.mark w one.opening left) ∙ on one.mark
  where
    on : (mark : ElementMark) → wrapped_to w (sees_by mark w one.opening left) ≡ marked_by w mark left old
    on Untouched = ap (wrapped_to w) (same refl) ∙ wrapped_to-element w old fits
    on Kept = refl
    on Replaced = refl
    on (Gathered by) = stored-fits w (Some by) one.opening left ∙ ap (λ x. stored w (Some by) x left) (same refl)

pub gathered-turns : (by : Resolution) → TurnsTo (gathered_left by) (λ w old. old)
gathered-turns by w one left old fits same = on (identity_of by w) refl same
  where
    either : (b : Bool) → ((gathered_or_kept b w one left).mark ≡ Kept → one.opening ≡ old) →
        marked_by w (gathered_or_kept b w one left).mark (wrapped_to w (gathered_or_kept b w one left).value) old ≡ marked_by w one.mark left old
    either true s = as-wrapped w one.mark left old
    either false s = kept-turns w one left old fits s

    by-mark : (e : ℤ) → identity_of by w ≡ Some e → (mark : ElementMark) → one.mark ≡ mark → ((gathered_on mark by e w one left).mark ≡ Kept → one.opening ≡ old) →
        marked_by w (gathered_on mark by e w one left).mark (wrapped_to w (gathered_on mark by e w one left).value) old ≡ marked_by w one.mark left old
    by-mark e is Untouched m s =
        stored-right w by old e
        ∙ stored-comm w by old e (commutes by w e is)
        ∙ identity-stored w by e old is
        ∙ wrapped_to-element w old fits
        ∙ sym (ap (λ k. marked_by w k left old) m)
    by-mark e is Kept m s = as-wrapped w one.mark left old
    by-mark e is Replaced m s = as-wrapped w one.mark left old
    by-mark e is (Gathered other) m s = either (are_one by other) s

    on : (o : Option ℤ) → identity_of by w ≡ o → ((gathered_with o by w one left).mark ≡ Kept → one.opening ≡ old) →
        marked_by w (gathered_with o by w one left).mark (wrapped_to w (gathered_with o by w one left).value) old ≡ marked_by w one.mark left old
    on None is s = kept-turns w one left old fits s
    on (Some e) is s = by-mark e is one.mark refl s

-- one that is replaced, or replaced and kept, is as left
replaced-is : (w : Width) (mark : ElementMark) (left old : ℤ) → marked_by w (replaced_mark mark) left old ≡ wrapped_to w left
replaced-is w Untouched left old = refl
replaced-is w Kept left old = refl
replaced-is w Replaced left old = refl
replaced-is w (Gathered by) left old = refl

pub written-turns : (by : Option Resolution) (value : ℤ) → TurnsTo (written_left by value) (λ w old. stored w by old value)
written-turns None value w one left old fits same = replaced-is w one.mark (wrapped_to w (wrapped_to w value)) old ∙ wrapped_to-twice w (wrapped_to w value) ∙ wrapped_to-twice w value
written-turns (Some r) value w one left old fits same = on (identity_of r w) refl same
  where
    -- what is stored in what is left
    put : (a : ℤ) → wrapped_to w (wrapped_to w (stored w (Some r) a value)) ≡ stored w (Some r) a value
    put a = wrapped_to-twice w (stored w (Some r) a value) ∙ stored-fits w (Some r) a value

    kept-so : (mark : ElementMark) → one.mark ≡ mark → ((x : ℤ) → marked_by w mark x old ≡ wrapped_to w x) →
        marked_by w one.mark (wrapped_to w (stored w (Some r) left value)) old ≡ stored w (Some r) (marked_by w one.mark left old) value
    kept-so mark m is-left =
        ap (λ k. marked_by w k (wrapped_to w (stored w (Some r) left value)) old) m
        ∙ is-left (wrapped_to w (stored w (Some r) left value))
        ∙ put left
        ∙ sym (stored-left w r left value)
        ∙ ap (λ a. stored w (Some r) a value) (sym (is-left left))
        ∙ ap (λ k. stored w (Some r) (marked_by w k left old) value) (sym m)

    by-one : (other : Resolution) → one.mark ≡ Gathered other → (b : Bool) → are_one r other ≡ b → ((gathered_or_kept b w one left).mark ≡ Kept → one.opening ≡ old) →
        marked_by w (gathered_or_kept b w one left).mark (wrapped_to w (stored w (Some r) (gathered_or_kept b w one left).value value)) old ≡ stored w (Some r) (marked_by w one.mark left old) value
    by-one other m true is s =
        let same_one : r ≡ other = are-same r other is in
        ap (λ k. marked_by w k (wrapped_to w (stored w (Some r) left value)) old) m
        ∙ stored-right w other old (stored w (Some r) left value)
        ∙ ap (λ (q : Resolution). stored w (Some q) old (stored w (Some r) left value)) (sym same_one)
        ∙ sym (stored-assoc w r old left value)
        ∙ ap (λ (q : Resolution). stored w (Some r) (stored w (Some q) old left) value) same_one
        ∙ ap (λ k. stored w (Some r) (marked_by w k left old) value) (sym m)
    by-one other m false is s =
        put (sees_by one.mark w one.opening left)
        ∙ ap (λ k. stored w (Some r) (sees_by k w one.opening left) value) m
        ∙ ap (λ x. stored w (Some r) (stored w (Some other) x left) value) (s refl)
        ∙ ap (λ k. stored w (Some r) (marked_by w k left old) value) (sym m)

    by-mark : (e : ℤ) → identity_of r w ≡ Some e → (mark : ElementMark) → one.mark ≡ mark → ((gathered_on mark r e w one left).mark ≡ Kept → one.opening ≡ old) →
        marked_by w (gathered_on mark r e w one left).mark (wrapped_to w (stored w (Some r) (gathered_on mark r e w one left).value value)) old ≡ stored w (Some r) (marked_by w one.mark left old) value
    by-mark e is Untouched m s =
        stored-right w r old (stored w (Some r) e value)
        ∙ ap (stored w (Some r) old) (identity-stored w r e value is)
        ∙ stored-right w r old value
        ∙ ap (λ k. stored w (Some r) (marked_by w k left old) value) (sym m)
    by-mark e is Kept m s = kept-so Kept m (λ x. refl)
    by-mark e is Replaced m s = kept-so Replaced m (λ x. refl)
    by-mark e is (Gathered other) m s = by-one other m (are_one r other) refl s

    on : (o : Option ℤ) → identity_of r w ≡ o → ((written_with o r value w one left).mark ≡ Kept → one.opening ≡ old) →
        marked_by w (written_with o r value w one left).mark (wrapped_to w (written_with o r value w one left).value) old ≡ stored w (Some r) (marked_by w one.mark left old) value
    on None is s = replaced-is w one.mark (wrapped_to w (stored w (Some r) left value)) old ∙ put left ∙ replaces w r left (marked_by w one.mark left old) value is
    on (Some e) is s = by-mark e is one.mark refl s
