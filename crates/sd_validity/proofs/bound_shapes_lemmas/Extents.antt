-- Where two extents are the same, they are with sizes.
use Rattle.std.proofs.Common.{◌≡◌, ◌∙◌, ℕ, nat_lt, nat_eq, ℤ, pos, neg_ℤ, ◌-ℤ◌, List, [], ◌∷◌, ◌++◌, map, length, Bool, true, false, not, ◌&&◌, ◌||◌, cond, if◌then◌else◌, refl, ap, sym, subst, arith}
use Rattle.std.specs.Ordering.{int_eq}
use Rattle.std.specs.List.{AllByRecursion, list_all, list_any}
use Rattle.std.proofs.lemmas.Int.{ints}
use Rattle.std.proofs.lemmas.Bool.Decides.{Decides-int_eq}
use Rattle.std.proofs.lemmas.List.Folds.{list_any-append}
use Rattle.sd_range.specs.Affine.{affine_value}
use Rattle.sd_range.specs.Arithmetic.{affine_difference}
use Rattle.sd_range.specs.Terms.{coefficient_of}
use Rattle.sd_range.proofs.AffineLaws.{affine_value-difference}
use Rattle.sd_range.proofs.Coefficients.{coefficient_of-combined, same_coefficients}
use Rattle.sd_range.proofs.Normal.{normal-combined}
use Rattle.sd_range.proofs.Same.{same_parts}
use Rattle.sd_valid.specs.BoundExpression.{terms_left, bound_affine}
use Rattle.sd_validity.specs.rules.Shapes.{Extent, variables_in, is_coefficient_same, is_extent_same, are_extents_same}
use Rattle.sd_validity.specs.bound_shapes.NormalShapes.{IsNormalAffine}

-- ---- tests

both : (first second : Bool) → (first && second) ≡ true → (first ≡ true) × (second ≡ true)
both true second e = (refl, e)
both false second e = cc

neither : (first second : Bool) → (first || second) ≡ false → (first ≡ false) × (second ≡ false)
neither true second e = cc
neither false second e = (refl, e)

passes_first : (test : ℕ → Bool) (same : Bool) (number first : ℕ) (rest : List ℕ) → nat_eq number first ≡ same → test first ≡ true → (list_any (nat_eq number) rest ≡ true → test number ≡ true) →
    (same || list_any (nat_eq number) rest) ≡ true → test number ≡ true
passes_first test true number first rest e is later has =
    let here : first ≡ number = grind (arith, e) in
    subst (λ number. test number ≡ true) here is
passes_first test false number first rest e is later has = later has

passes_at : (test : ℕ → Bool) (numbers : List ℕ) (number : ℕ) → list_all test numbers ≡ true → list_any (nat_eq number) numbers ≡ true → test number ≡ true
passes_at test [] number all has = cc
passes_at test (first ∷ rest) number all has =
    let split = both (test first) (list_all test rest) all in
    passes_first test (nat_eq number first) number first rest refl split.0 (passes_at test rest number split.1) has

all_pass : (test : ℕ → Bool) (numbers : List ℕ) → ((number : ℕ) → test number ≡ true) → list_all test numbers ≡ true
all_pass test [] passes = refl
all_pass test (first ∷ rest) passes = rw (passes first) (all_pass test rest passes)

-- ---- coefficients

-- a variable that is not among the terms has none
absent_first : (same : Bool) (variable : ℕ) (term : ℕ × ℤ) (rest : List (ℕ × ℤ)) → nat_eq variable term.0 ≡ same → (same || list_any (nat_eq variable) (map (λ (term : ℕ × ℤ). term.0) rest)) ≡ false →
    (list_any (nat_eq variable) (map (λ (term : ℕ × ℤ). term.0) rest) ≡ false → coefficient_of rest variable ≡ pos 0) → coefficient_of (term ∷ rest) variable ≡ pos 0
absent_first true variable term rest e none later = cc
absent_first false variable term rest e none later =
    let other : nat_eq term.0 variable ≡ false = grind (arith, e) in
    rw other (later none)

absent : (terms : List (ℕ × ℤ)) (variable : ℕ) → list_any (nat_eq variable) (map (λ (term : ℕ × ℤ). term.0) terms) ≡ false → coefficient_of terms variable ≡ pos 0
absent [] variable none = refl
absent (term ∷ rest) variable none = absent_first (nat_eq variable term.0) variable term rest refl none (absent rest variable)

module _ (extent other : Extent) where
  abbrev all : List ℕ
  all = (variables_in extent.last ++ variables_in extent.begin) ++ (variables_in other.last ++ variables_in other.begin)

  abbrev IsDistanceSame : ℕ → Type 0
  IsDistanceSame variable =
      (coefficient_of extent.last.terms variable -ℤ coefficient_of extent.begin.terms variable) ≡ (coefficient_of other.last.terms variable -ℤ coefficient_of other.begin.terms variable)

  none_differs : (variable : ℕ) → list_any (nat_eq variable) all ≡ false → IsDistanceSame variable
  none_differs variable none =
      let whole = neither (list_any (nat_eq variable) (variables_in extent.last ++ variables_in extent.begin)) (list_any (nat_eq variable) (variables_in other.last ++ variables_in other.begin))
      (sym (list_any-append (nat_eq variable) (variables_in extent.last ++ variables_in extent.begin) (variables_in other.last ++ variables_in other.begin)) ∙ none) in
      let first = neither (list_any (nat_eq variable) (variables_in extent.last)) (list_any (nat_eq variable) (variables_in extent.begin)) (sym (list_any-append (nat_eq variable) (variables_in extent.last) (variables_in extent.begin)) ∙ whole.0) in
      let second = neither (list_any (nat_eq variable) (variables_in other.last)) (list_any (nat_eq variable) (variables_in other.begin)) (sym (list_any-append (nat_eq variable) (variables_in other.last) (variables_in other.begin)) ∙ whole.1) in
      rw (absent extent.last.terms variable first.0, absent extent.begin.terms variable first.1, absent other.last.terms variable second.0, absent other.begin.terms variable second.1) refl

  one_same : (has : Bool) (variable : ℕ) → list_any (nat_eq variable) all ≡ has → list_all (is_coefficient_same extent other) all ≡ true → IsDistanceSame variable
  one_same true variable e same =
      (Decides-int_eq (coefficient_of extent.last.terms variable -ℤ coefficient_of extent.begin.terms variable) (coefficient_of other.last.terms variable -ℤ coefficient_of other.begin.terms variable)).0
      (passes_at (is_coefficient_same extent other) all variable same e)
  one_same false variable e same = none_differs variable e

  -- both distances of the constants and of each variable's coefficients are the same
  pub distances_same : is_extent_same extent other ≡ true → ((extent.last.constant -ℤ extent.begin.constant) ≡ (other.last.constant -ℤ other.begin.constant)) × ((variable : ℕ) → IsDistanceSame variable)
  distances_same is =
      let split = both (int_eq (extent.last.constant -ℤ extent.begin.constant) (other.last.constant -ℤ other.begin.constant)) (list_all (is_coefficient_same extent other) all) is in
      ((Decides-int_eq (extent.last.constant -ℤ extent.begin.constant) (other.last.constant -ℤ other.begin.constant)).0 split.0, λ variable. one_same (list_any (nat_eq variable) all) variable refl split.1)

  pub same_distances : ((extent.last.constant -ℤ extent.begin.constant) ≡ (other.last.constant -ℤ other.begin.constant)) → ((variable : ℕ) → IsDistanceSame variable) → is_extent_same extent other ≡ true
  same_distances constant each =
      rw ((Decides-int_eq (extent.last.constant -ℤ extent.begin.constant) (other.last.constant -ℤ other.begin.constant)).1 constant)
      (all_pass (is_coefficient_same extent other) all
      (λ variable.
      (Decides-int_eq (coefficient_of extent.last.terms variable -ℤ coefficient_of extent.begin.terms variable) (coefficient_of other.last.terms variable -ℤ coefficient_of other.begin.terms variable)).1 (each variable)))

-- ---- with sizes

abbrev pub HasNormal : Extent → Type 0
HasNormal extent = IsNormalAffine extent.last × IsNormalAffine extent.begin

abbrev pub bound_extent : (sizes : List ℤ) → Extent → Extent
bound_extent sizes extent = record { last = bound_affine sizes extent.last; begin = bound_affine sizes extent.begin }

-- the distance is one expression
distance_is : (extent other : Extent) → HasNormal extent → HasNormal other → is_extent_same extent other ≡ true → affine_difference extent.last extent.begin ≡ affine_difference other.last other.begin
distance_is extent other normal normals is =
    let same = distances_same extent other is in
    let constant : (affine_difference extent.last extent.begin).constant ≡ (affine_difference other.last other.begin).constant = omega (arith, ints, same.0) in
    let coefficients : (variable : ℕ) → coefficient_of (affine_difference extent.last extent.begin).terms variable ≡ coefficient_of (affine_difference other.last other.begin).terms variable =
    λ variable. (
    omega (
      arith,
      ints,
      same.1 variable,
      coefficient_of-combined extent.last.terms (neg_ℤ (pos 1)) extent.begin.terms variable normal.0 normal.1,
      coefficient_of-combined other.last.terms (neg_ℤ (pos 1)) other.begin.terms variable normals.0 normals.1,
    )
    ) in
    same_parts (affine_difference extent.last extent.begin) (affine_difference other.last other.begin) constant
    (same_coefficients (affine_difference extent.last extent.begin).terms (affine_difference other.last other.begin).terms
    (normal-combined extent.last.terms (neg_ℤ (pos 1)) extent.begin.terms normal.0) (normal-combined other.last.terms (neg_ℤ (pos 1)) other.begin.terms normals.0) coefficients)

-- the coefficients that are left
left_first : (symbol : Bool) (count : ℕ) (term : ℕ × ℤ) (rest : List (ℕ × ℤ)) (variable : ℕ) → nat_lt term.0 count ≡ symbol →
    coefficient_of (terms_left count rest) variable ≡ (if nat_lt variable count then pos 0 else coefficient_of rest variable) →
    coefficient_of (cond (not symbol) (term ∷ terms_left count rest) (terms_left count rest)) variable ≡ (if nat_lt variable count then pos 0 else coefficient_of (term ∷ rest) variable)
left_first true count term rest variable e later = by_symbol (nat_lt variable count) refl later
  where
    by_symbol : (below : Bool) → nat_lt variable count ≡ below → coefficient_of (terms_left count rest) variable ≡ (if below then pos 0 else coefficient_of rest variable) →
        coefficient_of (terms_left count rest) variable ≡ (if below then pos 0 else coefficient_of (term ∷ rest) variable)
    by_symbol true e' later = later
    by_symbol false e' later =
        let other : nat_eq term.0 variable ≡ false = grind (arith, e, e') in
        rw other later
left_first false count term rest variable e later = by_symbol (nat_lt variable count) refl later
  where
    by_symbol : (below : Bool) → nat_lt variable count ≡ below → coefficient_of (terms_left count rest) variable ≡ (if below then pos 0 else coefficient_of rest variable) →
        coefficient_of (term ∷ terms_left count rest) variable ≡ (if below then pos 0 else coefficient_of (term ∷ rest) variable)
    by_symbol true e' later =
        let other : nat_eq term.0 variable ≡ false = grind (arith, e, e') in
        rw other later
    by_symbol false e' later = ap (λ rest. if nat_eq term.0 variable then term.1 else rest) later

left_coefficient : (count : ℕ) (terms : List (ℕ × ℤ)) (variable : ℕ) → coefficient_of (terms_left count terms) variable ≡ (if nat_lt variable count then pos 0 else coefficient_of terms variable)
left_coefficient count [] variable = none (nat_lt variable count)
  where
    none : (below : Bool) → pos 0 ≡ (if below then pos 0 else pos 0)
    none true = refl
    none false = refl
left_coefficient count (term ∷ terms) variable = left_first (nat_lt term.0 count) count term terms variable refl (left_coefficient count terms variable)

kept_distance : (below : Bool) (a b c d : ℤ) → (a -ℤ b) ≡ (c -ℤ d) → ((if below then pos 0 else a) -ℤ (if below then pos 0 else b)) ≡ ((if below then pos 0 else c) -ℤ (if below then pos 0 else d))
kept_distance true a b c d e = refl
kept_distance false a b c d e = e

module _ (sizes : List ℤ) where
  pub extent_bound : (extent other : Extent) → HasNormal extent → HasNormal other → is_extent_same extent other ≡ true → is_extent_same (bound_extent sizes extent) (bound_extent sizes other) ≡ true
  extent_bound extent other normal normals is =
      let one = distance_is extent other normal normals is in
      let same = distances_same extent other is in
      let value : (affine_value sizes extent.last -ℤ affine_value sizes extent.begin) ≡ (affine_value sizes other.last -ℤ affine_value sizes other.begin) =
      sym (affine_value-difference extent.last extent.begin sizes) ∙ ap (affine_value sizes) one ∙ affine_value-difference other.last other.begin sizes in
      same_distances (bound_extent sizes extent) (bound_extent sizes other) value
      (λ variable.
      rw (
        left_coefficient (length sizes) extent.last.terms variable,
        left_coefficient (length sizes) extent.begin.terms variable,
        left_coefficient (length sizes) other.last.terms variable,
        left_coefficient (length sizes) other.begin.terms variable,
      )
      (kept_distance (nat_lt variable (length sizes)) (coefficient_of extent.last.terms variable) (coefficient_of extent.begin.terms variable) (coefficient_of other.last.terms variable)
      (coefficient_of other.begin.terms variable) (same.1 variable)))

  pub extents_bound : (ones others : List Extent) → AllByRecursion HasNormal ones → AllByRecursion HasNormal others → are_extents_same ones others ≡ true →
      are_extents_same (map (bound_extent sizes) ones) (map (bound_extent sizes) others) ≡ true
  extents_bound [] [] normal normals is = refl
  extents_bound [] (other ∷ others) normal normals is = cc
  extents_bound (one ∷ ones) [] normal normals is = cc
  extents_bound (one ∷ ones) (other ∷ others) normal normals is =
      let split = both (is_extent_same one other) (are_extents_same ones others) is in
      rw (extent_bound one other normal.0 normals.0 split.0) (extents_bound ones others normal.1 normals.1 split.1)
