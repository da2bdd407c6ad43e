-- What is bound has, at whatever values, the values that it has where the size symbols have their sizes.
use Rattle.std.proofs.Common.{◌≡◌, ℕ, zero, suc, ◌<◌, ◌≤◌, ℤ, pos, ◌+ℤ◌, ◌*ℤ◌, List, [], ◌∷◌, ◌++◌, length, map, drop, true, false, nat_lt, inl, inr, refl, ap, sym, ◌∙◌, arith, ◌^◌, unsigned_abs}
use Rattle.std.specs.Int.{int_min}
use Rattle.std.specs.List.{All, AllByRecursion, fold}
use Rattle.std.proofs.lemmas.Int.{ints}
use Rattle.std.proofs.lemmas.Bool.{cases_lt}
use Rattle.std.proofs.lemmas.List.{get_or_past}
use Rattle.std.proofs.lemmas.List.Elements.{All-from_recursion, All-get_or}
use Rattle.sd_range.specs.Weight.{weight_of}
use Rattle.sd_range.proofs.Weights.{abs_sum, value_below}
use Rattle.sd_range.specs.Affine.{variable_value, terms_value, affine_value}
use Rattle.sd_range.specs.Range.{range_values, least_value, stepped}
use Rattle.sd_range.specs.Points.{tuples, points, ranges_of}
use Rattle.sd_range.specs.Subset.{dim_values, elements}
use Rattle.sd_range.specs.declared.affine.Affine.{Affine}
use Rattle.sd_range.specs.declared.range.Range.{Range}
use Rattle.sd_range.specs.declared.subset.Dim.{Dim}
use Rattle.sd_range.specs.declared.subset.Dim.TheVariants.{Index, Span}
use Rattle.sd_range.specs.declared.subset.Subset.{Subset}
use Rattle.sd_graph.specs.Context.{index_at, span_counts}
use Rattle.sd_valid.specs.BoundExpression.{terms_left, bound_affine, bound_range, bound_dim, bound_subset, bound_param}
use Rattle.sd_valid.specs.SizedValues.{sized}

nothing : (count : ℕ) → drop {A = ℤ} count [] ≡ []
nothing zero = refl
nothing (suc count) = refl

-- a size symbol has its size
pub size_value : (sizes values : List ℤ) (variable : ℕ) → variable < length sizes → variable_value (sized sizes values) variable ≡ variable_value sizes variable
size_value [] values variable below = absurd (omega arith)
size_value (size ∷ sizes) [] zero below = refl
size_value (size ∷ sizes) (value ∷ values) zero below = refl
size_value (size ∷ sizes) [] (suc variable) below =
    ap (λ (rest : List ℤ). variable_value (sizes ++ rest) variable) (sym (nothing (length sizes))) ∙ size_value sizes [] variable (omega arith)
size_value (size ∷ sizes) (value ∷ values) (suc variable) below = size_value sizes values variable (omega arith)

-- another variable has its value
pub other_value : (sizes values : List ℤ) (variable : ℕ) → length sizes ≤ variable → variable_value (sized sizes values) variable ≡ variable_value values variable
other_value [] values variable above = refl
other_value (size ∷ sizes) [] zero above = absurd (omega arith)
other_value (size ∷ sizes) (value ∷ values) zero above = absurd (omega arith)
other_value (size ∷ sizes) [] (suc variable) above =
    ap (λ (rest : List ℤ). variable_value (sizes ++ rest) variable) (sym (nothing (length sizes))) ∙ other_value sizes [] variable (omega arith)
other_value (size ∷ sizes) (value ∷ values) (suc variable) above = other_value sizes values variable (omega arith)

-- a term of a size symbol goes into the constant
into_constant : (coefficient value size sizes_sum others_sum : ℤ) → value ≡ size → (coefficient *ℤ value) +ℤ (sizes_sum +ℤ others_sum) ≡ ((coefficient *ℤ size) +ℤ sizes_sum) +ℤ others_sum
into_constant coefficient value size sizes_sum others_sum is = rw is (omega (arith, ints))

-- another term stays
stays : (coefficient value other size sizes_sum others_sum : ℤ) → value ≡ other → size ≡ pos 0 →
    (coefficient *ℤ value) +ℤ (sizes_sum +ℤ others_sum) ≡ ((coefficient *ℤ size) +ℤ sizes_sum) +ℤ ((coefficient *ℤ other) +ℤ others_sum)
stays coefficient value other size sizes_sum others_sum is none = rw (is, none) (omega (arith, ints))

-- the test of a term
kept : (symbols : ℕ) (term : ℕ × ℤ) (terms : List (ℕ × ℤ)) → symbols ≤ term.0 → terms_left symbols (term ∷ terms) ≡ term ∷ terms_left symbols terms
kept symbols term terms above =
    let no : nat_lt term.0 symbols ≡ false = grind arith in
    rw no refl

dropped : (symbols : ℕ) (term : ℕ × ℤ) (terms : List (ℕ × ℤ)) → term.0 < symbols → terms_left symbols (term ∷ terms) ≡ terms_left symbols terms
dropped symbols term terms below =
    let yes : nat_lt term.0 symbols ≡ true = grind arith in
    rw yes refl

-- the value of terms is that of the size symbols' and that of the others
sized-terms : (sizes values : List ℤ) (terms : List (ℕ × ℤ)) → terms_value (sized sizes values) terms ≡ terms_value sizes terms +ℤ terms_value values (terms_left (length sizes) terms)
sized-terms sizes values [] = refl
sized-terms sizes values (term ∷ terms) =
    let rest = terms_left (length sizes) terms in
    ap (λ (others : ℤ). (term.1 *ℤ variable_value (sized sizes values) term.0) +ℤ others) (sized-terms sizes values terms)
    ∙ elim (cases_lt term.0 (length sizes)) [
      | inl below ↦ into_constant term.1 (variable_value (sized sizes values) term.0) (variable_value sizes term.0) (terms_value sizes terms) (terms_value values rest) (size_value sizes values term.0 below)
          ∙ ap (λ (left : List (ℕ × ℤ)). ((term.1 *ℤ variable_value sizes term.0) +ℤ terms_value sizes terms) +ℤ terms_value values left) (sym (dropped (length sizes) term terms below))
      | inr above ↦ stays term.1 (variable_value (sized sizes values) term.0) (variable_value values term.0) (variable_value sizes term.0) (terms_value sizes terms) (terms_value values rest)
          (other_value sizes values term.0 above) (get_or_past sizes term.0 (pos 0) above)
          ∙ ap (λ (left : List (ℕ × ℤ)). ((term.1 *ℤ variable_value sizes term.0) +ℤ terms_value sizes terms) +ℤ terms_value values left) (sym (kept (length sizes) term terms above))
    ]

regrouped : (constant sizes_sum others_sum : ℤ) → (constant +ℤ sizes_sum) +ℤ others_sum ≡ constant +ℤ (sizes_sum +ℤ others_sum)
regrouped constant sizes_sum others_sum = omega (arith, ints)

-- an expression
pub bound-value : (sizes values : List ℤ) (a : Affine) → affine_value values (bound_affine sizes a) ≡ affine_value (sized sizes values) a
bound-value sizes values a =
    regrouped a.constant (terms_value sizes a.terms) (terms_value values (terms_left (length sizes) a.terms))
    ∙ ap (λ (sum : ℤ). a.constant +ℤ sum) (sym (sized-terms sizes values a.terms))

bound-each : (sizes values : List ℤ) (all : List Affine) → map (affine_value values) (map (bound_affine sizes) all) ≡ map (affine_value (sized sizes values)) all
bound-each sizes values [] = refl
bound-each sizes values (a ∷ all) = rw (bound-value sizes values a, bound-each sizes values all) refl

bound-least : (sizes values : List ℤ) (ends : List Affine) → least_value values (map (bound_affine sizes) ends) ≡ least_value (sized sizes values) ends
bound-least sizes values [] = refl
bound-least sizes values (end ∷ ends) =
    ap (λ (first : ℤ). fold int_min first (map (affine_value values) (map (bound_affine sizes) ends))) (bound-value sizes values end)
    ∙ ap (fold int_min (affine_value (sized sizes values) end)) (bound-each sizes values ends)

-- a range
pub bound-range : (sizes values : List ℤ) (range : Range) → range_values values (bound_range sizes range) ≡ range_values (sized sizes values) range
bound-range sizes values range =
    ap (λ (first : ℤ). stepped first (least_value values (map (bound_affine sizes) range.ends)) range.step) (bound-value sizes values range.begin)
    ∙ ap (λ (last : ℤ). stepped (affine_value (sized sizes values) range.begin) last range.step) (bound-least sizes values range.ends)

bound-dim : (sizes values : List ℤ) (dim : Dim) → dim_values values (bound_dim sizes dim) ≡ dim_values (sized sizes values) dim
bound-dim sizes values (Index at) = ap (λ (number : ℤ). number ∷ []) (bound-value sizes values at)
bound-dim sizes values (Span range) = bound-range sizes values range

bound-dims : (sizes values : List ℤ) (dims : List Dim) → map (dim_values values) (map (bound_dim sizes) dims) ≡ map (dim_values (sized sizes values)) dims
bound-dims sizes values [] = refl
bound-dims sizes values (dim ∷ dims) = rw (bound-dim sizes values dim, bound-dims sizes values dims) refl

-- the elements of a subset
pub bound-elements : (sizes values : List ℤ) (subset : Subset) → elements (bound_subset sizes subset) values ≡ elements subset (sized sizes values)
bound-elements sizes values subset = ap tuples (bound-dims sizes values subset.dims)

-- the extents of a connector
pub bound-counts : (sizes values : List ℤ) (dims : List Dim) → span_counts (map (bound_dim sizes) dims) values ≡ span_counts dims (sized sizes values)
bound-counts sizes values [] = refl
bound-counts sizes values (Index at ∷ dims) = bound-counts sizes values dims
bound-counts sizes values (Span range ∷ dims) = rw (bound-range sizes values range, bound-counts sizes values dims) refl

-- the index at a place
pub bound-index : (sizes values : List ℤ) (dims : List Dim) (at : List ℤ) → index_at (map (bound_dim sizes) dims) values at ≡ index_at dims (sized sizes values) at
bound-index sizes values [] at = refl
bound-index sizes values (Index number ∷ dims) at = rw (bound-value sizes values number, bound-index sizes values dims at) refl
bound-index sizes values (Span range ∷ dims) [] = rw (bound-value sizes values range.begin, bound-index sizes values dims []) refl
bound-index sizes values (Span range ∷ dims) (number ∷ at) = rw (bound-value sizes values range.begin, bound-index sizes values dims at) refl

bound-ranges : (sizes values : List ℤ) (params : List (ℕ × Range)) → map (range_values values) (ranges_of (map (bound_param sizes) params)) ≡ map (range_values (sized sizes values)) (ranges_of params)
bound-ranges sizes values [] = refl
bound-ranges sizes values (param ∷ params) = rw (bound-range sizes values param.1, bound-ranges sizes values params) refl

-- the points of a map
pub bound-points : (sizes values : List ℤ) (params : List (ℕ × Range)) → points (ranges_of (map (bound_param sizes) params)) values ≡ points (ranges_of params) (sized sizes values)
bound-points sizes values params = ap tuples (bound-ranges sizes values params)

-- ---- sizes of expressions

-- the terms that stay weigh no more
pub left-weight : (symbols : ℕ) (terms : List (ℕ × ℤ)) → weight_of (terms_left symbols terms) ≤ weight_of terms
left-weight symbols [] = omega arith
left-weight symbols (term ∷ terms) = elim (cases_lt term.0 symbols) [
  | inl below ↦ rw (dropped symbols term terms below) (omega (arith, left-weight symbols terms))
  | inr above ↦ rw (kept symbols term terms above) (omega (arith, left-weight symbols terms))
]

-- they name no size symbol
left-names : (symbols : ℕ) (terms : List (ℕ × ℤ)) → AllByRecursion (λ term. symbols ≤ term.0) (terms_left symbols terms)
left-names symbols [] = tt
left-names symbols (term ∷ terms) = elim (cases_lt term.0 symbols) [
  | inl below ↦ rw (dropped symbols term terms below) (left-names symbols terms)
  | inr above ↦ rw (kept symbols term terms above) (above, left-names symbols terms)
]

pub names-none : (sizes : List ℤ) (a : Affine) → All (λ term. length sizes ≤ term.0) (bound_affine sizes a).terms
names-none sizes a = All-from_recursion (λ term. length sizes ≤ term.0) (terms_left (length sizes) a.terms) (left-names (length sizes) a.terms)

-- sizes within a limit, where a variable without one counts as 0
each_size : (sizes : List ℤ) (most : ℕ) → All (λ size. unsigned_abs size ≤ most) sizes → (variable : ℕ) → unsigned_abs (variable_value sizes variable) ≤ most
each_size sizes most all variable = elim (cases_lt variable (length sizes)) [
  | inl inside ↦ All-get_or (λ size. unsigned_abs size ≤ most) sizes variable (pos 0) inside all
  | inr past ↦ rw (get_or_past sizes variable (pos 0) past) (omega arith)
]

-- the constant stays small
pub small-constant : (sizes : List ℤ) (a : Affine) → All (λ size. unsigned_abs size ≤ 2 ^ 24) sizes → unsigned_abs a.constant ≤ 2 ^ 40 → weight_of a.terms ≤ 2 ^ 10 →
    unsigned_abs (bound_affine sizes a).constant < 2 ^ 41
small-constant sizes a all constant weight =
    omega (arith, abs_sum a.constant (terms_value sizes a.terms), value_below a.terms sizes (2 ^ 24) (each_size sizes (2 ^ 24) all), constant, weight)
