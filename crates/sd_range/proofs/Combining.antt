-- The first term of a combination, and the combination of what is left.
use Rattle.std.proofs.Common.{◌≡◌, ℕ, ℤ, pos, ◌+ℤ◌, ◌*ℤ◌, List, [], ◌∷◌, ◌++◌, ◌≤◌, length, length-append, arith, drop, refl, ap, sym, ◌∙◌, subst, rules, FitsSigned}
use Rattle.std.specs.Int.{int_wrap, w128}
use Rattle.std.specs.List.{All}
use Rattle.std.proofs.lemmas.Int.{int_wrap_fits}
use Rattle.std.proofs.lemmas.List.{append_assoc, append-nil, drop_at}
use Rattle.std.proofs.lemmas.List.Elements.{All-head, All-drop}
use Rattle.sd_range.specs.Terms.{IsBelow, IsNormal}
use Rattle.sd_range.specs.Arithmetic.{put_before, plus_term, combined}
use Rattle.sd_range.specs.Merge.{IsNext}
use Rattle.sd_range.specs.declared.arithmetic.Next.{Next}
use Rattle.sd_range.proofs.Normal.{by_zero, put_before-zero, put_before-other, plus_term-before, plus_term-same, plus_term-after, below-lower, below-combined, normal-front}

-- a term of a variable before all others comes first
plus_term-first : (variable : ℕ) (coefficient : ℤ) (terms : List (ℕ × ℤ)) → IsBelow variable terms → plus_term terms variable coefficient ≡ put_before variable coefficient terms
plus_term-first variable coefficient [] below = refl
plus_term-first variable coefficient (term ∷ terms) below = plus_term-before term terms variable coefficient below

-- the first term of the left side stays first where its variable is the lowest
combined-cons : (term : ℕ × ℤ) (terms : List (ℕ × ℤ)) (factor : ℤ) (others : List (ℕ × ℤ)) → IsNormal others → IsBelow term.0 others →
    combined (term ∷ terms) factor others ≡ term ∷ combined terms factor others
combined-cons term terms factor [] normal below = refl
combined-cons term terms factor (other ∷ others) normal below =
    ap (λ all. plus_term all other.0 (factor *ℤ other.1)) (combined-cons term terms factor others normal.2 (below-lower term.0 other.0 others below normal.1))
    ∙ plus_term-after term (combined terms factor others) other.0 (factor *ℤ other.1) below

-- the left side's variable is the lowest
pub combined-left_first : (term : ℕ × ℤ) (terms : List (ℕ × ℤ)) (factor : ℤ) (others : List (ℕ × ℤ)) → IsNormal (term ∷ terms) → IsNormal others → IsBelow term.0 others →
    combined (term ∷ terms) factor others ≡ put_before term.0 term.1 (combined terms factor others)
combined-left_first term terms factor others normal normal' below =
    combined-cons term terms factor others normal' below
    ∙ sym (put_before-other term.0 term.1 (combined terms factor others) normal.0)

-- the right side's variable is the lowest
pub combined-right_first : (terms : List (ℕ × ℤ)) (factor : ℤ) (other : ℕ × ℤ) (others : List (ℕ × ℤ)) → IsNormal terms → IsNormal (other ∷ others) → IsBelow other.0 terms →
    combined terms factor (other ∷ others) ≡ put_before other.0 (factor *ℤ other.1) (combined terms factor others)
combined-right_first terms factor other others normal normal' below =
    plus_term-first other.0 (factor *ℤ other.1) (combined terms factor others)
    (below-combined other.0 terms factor others normal normal'.2 below normal'.1)

-- both sides have the lowest variable
pub combined-both_first : (term : ℕ × ℤ) (terms : List (ℕ × ℤ)) (factor : ℤ) (other : ℕ × ℤ) (others : List (ℕ × ℤ)) → IsNormal (other ∷ others) → other.0 ≡ term.0 →
    combined (term ∷ terms) factor (other ∷ others) ≡ put_before other.0 (term.1 +ℤ (factor *ℤ other.1)) (combined terms factor others)
combined-both_first term terms factor other others normal' same =
    ap (λ all. plus_term all other.0 (factor *ℤ other.1)) (combined-cons term terms factor others normal'.2 (subst (λ v. IsBelow v others) same normal'.1))
    ∙ plus_term-same term (combined terms factor others) other.0 (factor *ℤ other.1) same

-- a term before others, at the end of those so far
append-put_before : (terms : List (ℕ × ℤ)) (variable : ℕ) (coefficient : ℤ) (rest : List (ℕ × ℤ)) →
    (terms ++ put_before variable coefficient []) ++ rest ≡ terms ++ put_before variable coefficient rest
append-put_before terms variable coefficient rest =
    by_zero coefficient
    (λ is. rw (put_before-zero variable coefficient [] is, put_before-zero variable coefficient rest is, append-nil terms) refl)
    (λ other. rw (put_before-other variable coefficient [] other, put_before-other variable coefficient rest other) (append_assoc terms ((variable, coefficient) ∷ []) rest))

-- the coefficient of a term that is put before others is exact
wrapped-put_before : (variable : ℕ) (coefficient : ℤ) (rest : List (ℕ × ℤ)) → All (λ term. FitsSigned w128 term.1) (put_before variable coefficient rest) → int_wrap w128 coefficient ≡ coefficient
wrapped-put_before variable coefficient rest fits =
    by_zero coefficient
    (λ is. rw is (int_wrap_fits w128 (pos 0) (search rules)))
    (λ other. int_wrap_fits w128 coefficient (All-head (λ term. FitsSigned w128 term.1) (variable, coefficient) rest (rw (put_before-other variable coefficient rest other) at fits)))

-- where the whole combination fits the next coefficient is exact
exact-next : (terms left : List (ℕ × ℤ)) (factor : ℤ) (right whole : List (ℕ × ℤ)) (next : Next) → terms ++ combined left factor right ≡ whole → All (λ term. FitsSigned w128 term.1) whole →
    (is : IsNext left factor right next) → next.coefficient ≡ is.exact
exact-next terms left factor right whole next split fits is =
    let P : ℕ × ℤ → Type 0 = λ term. FitsSigned w128 term.1 in
    let rest : drop (length terms) whole ≡ combined left factor right = ap (drop (length terms)) (sym split) ∙ drop_at terms (combined left factor right) (length terms) refl in
    let fits_rest : All P (put_before next.variable is.exact (combined next.left.now factor next.right.now)) =
    subst (All P) (rest ∙ is.first) (All-drop P (length terms) whole fits) in
    is.kept ∙ wrapped-put_before next.variable is.exact (combined next.left.now factor next.right.now) fits_rest

-- the next term leaves the combination of what is left
pub combined-next : (terms left : List (ℕ × ℤ)) (factor : ℤ) (right whole : List (ℕ × ℤ)) (next : Next) → terms ++ combined left factor right ≡ whole → All (λ term. FitsSigned w128 term.1) whole →
    IsNext left factor right next →
    (terms ++ put_before next.variable next.coefficient []) ++ combined next.left.now factor next.right.now ≡ whole
combined-next terms left factor right whole next split fits is =
    append-put_before terms next.variable next.coefficient (combined next.left.now factor next.right.now)
    ∙ ap (λ coefficient. terms ++ put_before next.variable coefficient (combined next.left.now factor next.right.now)) (exact-next terms left factor right whole next split fits is)
    ∙ ap (λ rest. terms ++ rest) (sym is.first)
    ∙ split

-- the terms so far and the next one are normal
pub normal-next : (terms left : List (ℕ × ℤ)) (factor : ℤ) (right whole : List (ℕ × ℤ)) (next : Next) → terms ++ combined left factor right ≡ whole → All (λ term. FitsSigned w128 term.1) whole →
    IsNext left factor right next → IsNormal whole → IsNormal (terms ++ put_before next.variable next.coefficient [])
normal-next terms left factor right whole next split fits is normal =
    normal-front (terms ++ put_before next.variable next.coefficient []) (combined next.left.now factor next.right.now)
    (rw (combined-next terms left factor right whole next split fits is) normal)

-- the terms so far and the next one are no more than all
pub short-next : (terms left : List (ℕ × ℤ)) (factor : ℤ) (right whole : List (ℕ × ℤ)) (next : Next) → terms ++ combined left factor right ≡ whole → All (λ term. FitsSigned w128 term.1) whole →
    IsNext left factor right next → length (terms ++ put_before next.variable next.coefficient []) ≤ length whole
short-next terms left factor right whole next split fits is =
    let first = terms ++ put_before next.variable next.coefficient [] in
    let rest = combined next.left.now factor next.right.now in
    omega (arith, ap length (combined-next terms left factor right whole next split fits is), length-append first rest)
