-- The normal form of terms, and what keeps it.
use Rattle.std.proofs.Common.{◌≡◌, ◌≢◌, inl, inr, ℕ, ◌<◌, ℤ, pos, ◌+ℤ◌, ◌*ℤ◌, ◌≤◌, List, [], ◌∷◌, ◌++◌, Bool, false, length, take, drop, refl, ap, sym, ◌∙◌, subst, arith}
use Rattle.std.specs.Ordering.{int_eq}
use Rattle.std.specs.List.{filter}
use Rattle.std.proofs.lemmas.Bool.{cases_order, cases_eq, cases_Bool, lt-ltb, le-ltb, eq-eqb, ne_eqb}
use Rattle.std.proofs.lemmas.Bool.Decides.{Decides-int_eq, not_from_Decides}
use Rattle.std.proofs.lemmas.List.{length-append, take-append-drop}
use Rattle.std.proofs.lemmas.List.Elements.{filter-append}
use Rattle.sd_range.specs.Terms.{IsBelow, IsNormal}
use Rattle.sd_range.specs.Arithmetic.{put_before, plus_term, combined}

-- a number is zero or it is not
pub by_zero : {P : Type 0} (n : ℤ) → (n ≡ pos 0 → P) → (n ≢ pos 0 → P) → P
by_zero {P} n zero other = elim (cases_Bool (int_eq n (pos 0))) [
  | inl is ↦ zero ((Decides-int_eq n (pos 0)).0 is)
  | inr is ↦ other (not_from_Decides (int_eq n (pos 0)) (Decides-int_eq n (pos 0)) is)
]

-- the three orders of two variables
pub by_order : {P : Type 0} (a b : ℕ) → (a < b → P) → (a ≡ b → P) → (b < a → P) → P
by_order a b before same after = elim (cases_order a b) [
  | inl is ↦ same is
  | inr other ↦ elim other [ inl is ↦ before is | inr is ↦ after is ]
]

-- two variables are one or they are not
pub by_same : {P : Type 0} (a b : ℕ) → (a ≡ b → P) → (a ≢ b → P) → P
by_same a b same other = elim (cases_eq a b) [ inl is ↦ same is | inr is ↦ other is ]

-- a term of coefficient zero is left out
pub put_before-zero : (variable : ℕ) (coefficient : ℤ) (terms : List (ℕ × ℤ)) → coefficient ≡ pos 0 → put_before variable coefficient terms ≡ terms
put_before-zero variable coefficient terms is = rw ((Decides-int_eq coefficient (pos 0)).1 is) refl

-- a number that is not zero fails the test
int_eq-other : (n : ℤ) → n ≢ pos 0 → int_eq n (pos 0) ≡ false
int_eq-other n other = elim (cases_Bool (int_eq n (pos 0))) [
  | inl is ↦ absurd (other ((Decides-int_eq n (pos 0)).0 is))
  | inr is ↦ is
]

-- any other term is put before
pub put_before-other : (variable : ℕ) (coefficient : ℤ) (terms : List (ℕ × ℤ)) → coefficient ≢ pos 0 → put_before variable coefficient terms ≡ (variable, coefficient) ∷ terms
put_before-other variable coefficient terms other = rw (int_eq-other coefficient other) refl

-- a term of a lower variable comes first
pub plus_term-before : (term : ℕ × ℤ) (terms : List (ℕ × ℤ)) (variable : ℕ) (coefficient : ℤ) → variable < term.0 →
    plus_term (term ∷ terms) variable coefficient ≡ put_before variable coefficient (term ∷ terms)
plus_term-before term terms variable coefficient h = rw (lt-ltb variable term.0 h) refl

-- terms of one variable become one
pub plus_term-same : (term : ℕ × ℤ) (terms : List (ℕ × ℤ)) (variable : ℕ) (coefficient : ℤ) → variable ≡ term.0 →
    plus_term (term ∷ terms) variable coefficient ≡ put_before variable (term.1 +ℤ coefficient) terms
plus_term-same term terms variable coefficient h = rw (le-ltb variable term.0 (omega arith), eq-eqb variable term.0 h) refl

-- a term of a higher variable comes later
pub plus_term-after : (term : ℕ × ℤ) (terms : List (ℕ × ℤ)) (variable : ℕ) (coefficient : ℤ) → term.0 < variable →
    plus_term (term ∷ terms) variable coefficient ≡ term ∷ plus_term terms variable coefficient
plus_term-after term terms variable coefficient h = rw (le-ltb variable term.0 (omega arith), ne_eqb variable term.0 (λ is. omega arith)) refl

-- a lower variable comes before them too
pub below-lower : (low high : ℕ) (terms : List (ℕ × ℤ)) → low < high → IsBelow high terms → IsBelow low terms
below-lower low high [] h below = tt
below-lower low high (term ∷ terms) h below = omega arith

-- a variable before a term comes before those after it
below-rest : (low : ℕ) (term : ℕ × ℤ) (terms : List (ℕ × ℤ)) → IsNormal (term ∷ terms) → low < term.0 → IsBelow low terms
below-rest low term terms normal h = below-lower low term.0 terms h normal.1

-- a higher term that is put before others leaves the variable before them
below-put_before : (low variable : ℕ) (coefficient : ℤ) (terms : List (ℕ × ℤ)) → low < variable → IsBelow low terms → IsBelow low (put_before variable coefficient terms)
below-put_before low variable coefficient terms h below =
    by_zero coefficient
    (λ is. rw (put_before-zero variable coefficient terms is) below)
    (λ other. rw (put_before-other variable coefficient terms other) h)

-- a term of a higher variable leaves the variable before them
below-plus_term : (low variable : ℕ) (coefficient : ℤ) (terms : List (ℕ × ℤ)) → IsNormal terms → low < variable → IsBelow low terms → IsBelow low (plus_term terms variable coefficient)
below-plus_term low variable coefficient [] normal h below = below-put_before low variable coefficient [] h tt
below-plus_term low variable coefficient (term ∷ terms) normal h below =
    by_order variable term.0
    (λ is. rw (plus_term-before term terms variable coefficient is) (below-put_before low variable coefficient (term ∷ terms) h below))
    (λ is. rw (plus_term-same term terms variable coefficient is) (below-put_before low variable (term.1 +ℤ coefficient) terms h (below-rest low term terms normal below)))
    (λ is. rw (plus_term-after term terms variable coefficient is) below)

-- before terms of higher variables any term is in place
pub normal-put_before : (variable : ℕ) (coefficient : ℤ) (terms : List (ℕ × ℤ)) → IsBelow variable terms → IsNormal terms → IsNormal (put_before variable coefficient terms)
normal-put_before variable coefficient terms below normal =
    by_zero coefficient
    (λ is. rw (put_before-zero variable coefficient terms is) normal)
    (λ other. rw (put_before-other variable coefficient terms other) (other, below, normal))

-- a term more keeps the normal form
pub normal-plus_term : (variable : ℕ) (coefficient : ℤ) (terms : List (ℕ × ℤ)) → IsNormal terms → IsNormal (plus_term terms variable coefficient)
normal-plus_term variable coefficient [] normal = normal-put_before variable coefficient [] tt tt
normal-plus_term variable coefficient (term ∷ terms) normal =
    by_order variable term.0
    (λ is. rw (plus_term-before term terms variable coefficient is) (normal-put_before variable coefficient (term ∷ terms) is normal))
    (λ is. rw (plus_term-same term terms variable coefficient is) (normal-put_before variable (term.1 +ℤ coefficient) terms (subst (λ v. IsBelow v terms) (sym is) normal.1) normal.2))
    (λ is. rw (plus_term-after term terms variable coefficient is)
    (normal.0, below-plus_term term.0 variable coefficient terms normal.2 is normal.1, normal-plus_term variable coefficient terms normal.2))

-- a combination is normal where its first side is
pub normal-combined : (terms : List (ℕ × ℤ)) (factor : ℤ) (others : List (ℕ × ℤ)) → IsNormal terms → IsNormal (combined terms factor others)
normal-combined terms factor [] normal = normal
normal-combined terms factor (other ∷ others) normal = normal-plus_term other.0 (factor *ℤ other.1) (combined terms factor others) (normal-combined terms factor others normal)

-- a variable before both sides comes before their combination
pub below-combined : (low : ℕ) (terms : List (ℕ × ℤ)) (factor : ℤ) (others : List (ℕ × ℤ)) → IsNormal terms → IsNormal others → IsBelow low terms → IsBelow low others →
    IsBelow low (combined terms factor others)
below-combined low terms factor [] normal normal' below below' = below
below-combined low terms factor (other ∷ others) normal normal' below below' =
    below-plus_term low other.0 (factor *ℤ other.1) (combined terms factor others) (normal-combined terms factor others normal) below'
    (below-combined low terms factor others normal normal'.2 below (below-rest low other others normal' below'))

-- the first terms of a normal list are normal
pub normal-front : (front back : List (ℕ × ℤ)) → IsNormal (front ++ back) → IsNormal front
normal-front [] back normal = tt
normal-front (term ∷ []) back normal = (normal.0, tt, tt)
normal-front (term ∷ (next ∷ front)) back normal = (normal.0, normal.1, normal-front (next ∷ front) back normal.2)

-- terms that are left out leave a variable before the others
below-filter : (keeps : ℕ × ℤ → Bool) (low : ℕ) (terms : List (ℕ × ℤ)) → IsNormal terms → IsBelow low terms → IsBelow low (filter keeps terms)
below-filter keeps low [] normal below = tt
below-filter keeps low (term ∷ terms) normal below = elim (cases_Bool (keeps term)) [
  | inl is ↦ rw is below
  | inr is ↦ rw is (below-filter keeps low terms normal.2 (below-rest low term terms normal below))
]

-- terms that are left out leave the others normal
pub normal-filter : (keeps : ℕ × ℤ → Bool) (terms : List (ℕ × ℤ)) → IsNormal terms → IsNormal (filter keeps terms)
normal-filter keeps [] normal = tt
normal-filter keeps (term ∷ terms) normal = elim (cases_Bool (keeps term)) [
  | inl is ↦ rw is (normal.0, below-filter keeps term.0 terms normal.2 normal.1, normal-filter keeps terms normal.2)
  | inr is ↦ rw is (normal-filter keeps terms normal.2)
]

-- the first terms of normal ones are normal
pub normal-take : (terms : List (ℕ × ℤ)) (count : ℕ) → IsNormal terms → IsNormal (take count terms)
normal-take terms count normal = normal-front (take count terms) (drop count terms) (rw (take-append-drop count terms) normal)

-- of the first terms no more are kept than of all
pub short-filter : (keeps : ℕ × ℤ → Bool) (terms : List (ℕ × ℤ)) (count : ℕ) → length (filter keeps (take count terms)) ≤ length (filter keeps terms)
short-filter keeps terms count =
    let parts : filter keeps (take count terms) ++ filter keeps (drop count terms) ≡ filter keeps terms =
    sym (filter-append keeps (take count terms) (drop count terms)) ∙ ap (filter keeps) (take-append-drop count terms) in
    omega (arith, ap length parts, length-append (filter keeps (take count terms)) (filter keeps (drop count terms)))
