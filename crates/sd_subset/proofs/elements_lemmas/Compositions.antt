-- The elements of a composed subset.
use Rattle.std.proofs.Common.{◌≡◌, ℕ, zero, suc, ◌<◌, ℤ, pos, ◌+ℤ◌, ◌-ℤ◌, ◌*ℤ◌, List, [], ◌∷◌, ◌++◌, length, map, int_lt, refl, ap, sym, ◌∙◌, arith}
use Rattle.std.specs.Int.{int_min}
use Rattle.std.specs.List.{AllByRecursion, flat_map, fold}
use Rattle.std.proofs.lemmas.Int.{ints}
use Rattle.std.proofs.lemmas.List.{append-nil, map-append}
use Rattle.std.proofs.lemmas.Simd.{map-map}
use Rattle.sd_range.specs.Affine.{affine_value}
use Rattle.sd_range.specs.Arithmetic.{affine_sum}
use Rattle.sd_range.specs.Range.{least_value, count_between, counted_from, stepped}
use Rattle.sd_range.specs.Points.{tuples}
use Rattle.sd_range.specs.Subset.{IsDim, dim_values}
use Rattle.sd_range.specs.declared.affine.Affine.{Affine}
use Rattle.sd_range.specs.declared.subset.Dim.{Dim}
use Rattle.sd_range.specs.declared.subset.Dim.TheVariants.{Index, Span}
use Rattle.sd_range.proofs.AffineLaws.{affine_value-sum}
use Rattle.sd_graph.specs.Context.{index_at}
use Rattle.sd_subset.specs.elements.Composition.{begins, composed, moved, HasUnitStep}

-- ---- values that are moved

-- so much more
abbrev pub more_by : ℤ → ℤ → ℤ
more_by by number = by +ℤ number

min_moved : (by a b : ℤ) → int_min (by +ℤ a) (by +ℤ b) ≡ by +ℤ int_min a b
min_moved by a b = grind (arith, ints)

fold_moved : (by least : ℤ) (begin : Affine) (values : List ℤ) (ends : List Affine) → affine_value values begin ≡ by →
    fold int_min (by +ℤ least) (map (affine_value values) (map (affine_sum begin) ends)) ≡ by +ℤ fold int_min least (map (affine_value values) ends)
fold_moved by least begin values [] is = refl
fold_moved by least begin values (end ∷ ends) is =
    ap (λ (next : ℤ). fold int_min next (map (affine_value values) (map (affine_sum begin) ends)))
    (ap (λ (number : ℤ). int_min (by +ℤ least) number) (affine_value-sum begin end values ∙ ap (λ (number : ℤ). number +ℤ affine_value values end) is) ∙ min_moved by least (affine_value values end))
    ∙ fold_moved by (int_min least (affine_value values end)) begin values ends is

least_moved : (begin : Affine) (values : List ℤ) (ends : List Affine) → 0 < length ends →
    least_value values (map (affine_sum begin) ends) ≡ affine_value values begin +ℤ least_value values ends
least_moved begin values [] some = absurd (omega arith)
least_moved begin values (end ∷ ends) some =
    ap (λ (first : ℤ). fold int_min first (map (affine_value values) (map (affine_sum begin) ends))) (affine_value-sum begin end values)
    ∙ fold_moved (affine_value values begin) (affine_value values end) begin values ends refl

test_moved : (by a b : ℤ) → int_lt (by +ℤ a) (by +ℤ b) ≡ int_lt a b
test_moved by a b = grind (arith, ints)

gap_moved : (by a b : ℤ) → (by +ℤ a) -ℤ (by +ℤ b) ≡ a -ℤ b
gap_moved by a b = omega (arith, ints)

count_moved : (by begin last step : ℤ) → count_between (by +ℤ begin) (by +ℤ last) step ≡ count_between begin last step
count_moved by begin last step = rw (test_moved by last begin, gap_moved by last begin) refl

next_moved : (by begin step : ℤ) → (by +ℤ begin) +ℤ step ≡ by +ℤ (begin +ℤ step)
next_moved by begin step = omega (arith, ints)

counted_moved : (by begin step : ℤ) (count : ℕ) → counted_from (by +ℤ begin) step count ≡ map (more_by by) (counted_from begin step count)
counted_moved by begin step zero = refl
counted_moved by begin step (suc count) =
    ap (λ (numbers : List ℤ). (by +ℤ begin) ∷ numbers)
    (ap (λ (first : ℤ). counted_from first step count) (next_moved by begin step) ∙ counted_moved by (begin +ℤ step) step count)

-- a dimension that is moved has its values so much more
dim_moved : (begin : Affine) (values : List ℤ) (dim : Dim) → IsDim dim → dim_values values (moved begin dim) ≡ map (more_by (affine_value values begin)) (dim_values values dim)
dim_moved begin values (Index at) ok = ap (λ (number : ℤ). number ∷ []) (affine_value-sum begin at values)
dim_moved begin values (Span range) ok =
    let by = affine_value values begin in
    ap (λ (first : ℤ). stepped first (least_value values (map (affine_sum begin) range.ends)) range.step) (affine_value-sum begin range.begin values)
    ∙ ap (λ (last : ℤ). stepped (by +ℤ affine_value values range.begin) last range.step) (least_moved begin values range.ends ok.ended)
    ∙ ap (counted_from (by +ℤ affine_value values range.begin) range.step) (count_moved by (affine_value values range.begin) (least_value values range.ends) range.step)
    ∙ counted_moved by (affine_value values range.begin) range.step (count_between (affine_value values range.begin) (least_value values range.ends) range.step)

-- ---- tuples

-- one number before each tuple
tuples-single : (number : ℤ) (lists : List (List ℤ)) → tuples ((number ∷ []) ∷ lists) ≡ map (λ rest. number ∷ rest) (tuples lists)
tuples-single number lists = append-nil (map (λ rest. number ∷ rest) (tuples lists))

-- tuples of a first list each of whose numbers is mapped, and of others whose tuples are mapped
tuples-mapped : (f : ℤ → ℤ) (g : List ℤ → List ℤ) (h : List ℤ → List ℤ) → ((number : ℤ) (rest : List ℤ) → h (number ∷ rest) ≡ f number ∷ g rest) →
    (firsts : List ℤ) (inner : List (List ℤ)) →
    flat_map (λ first. map (λ rest. first ∷ rest) (map g inner)) (map f firsts) ≡ map h (flat_map (λ first. map (λ rest. first ∷ rest) inner) firsts)
tuples-mapped f g h each [] inner = refl
tuples-mapped f g h each (first ∷ firsts) inner =
    ap (λ (begun : List (List ℤ)). begun ++ flat_map (λ first. map (λ rest. first ∷ rest) (map g inner)) (map f firsts)) (begun f g h each first inner)
    ∙ ap (λ (others : List (List ℤ)). map h (map (λ rest. first ∷ rest) inner) ++ others) (tuples-mapped f g h each firsts inner)
    ∙ sym (map-append h (map (λ rest. first ∷ rest) inner) (flat_map (λ first. map (λ rest. first ∷ rest) inner) firsts))
  where
    begun : (f : ℤ → ℤ) (g : List ℤ → List ℤ) (h : List ℤ → List ℤ) → ((number : ℤ) (rest : List ℤ) → h (number ∷ rest) ≡ f number ∷ g rest) →
        (first : ℤ) (inner : List (List ℤ)) → map (λ rest. f first ∷ rest) (map g inner) ≡ map h (map (λ rest. first ∷ rest) inner)
    begun f g h each first [] = refl
    begun f g h each first (rest ∷ inner) = rw (each first rest, begun f g h each first inner) refl

-- ---- elements

-- a place in a range of step 1
unit_place : (begin number step : ℤ) → step ≡ pos 1 → begin +ℤ (step *ℤ number) ≡ begin +ℤ number
unit_place begin number step is = rw is (omega (arith, ints))

-- the elements of a composed subset are the outer ones at the elements of the inner one
pub composed-elements : (outer inner : List Dim) (values : List ℤ) → AllByRecursion HasUnitStep outer → AllByRecursion IsDim inner → length (begins outer) ≡ length inner →
    tuples (map (dim_values values) (composed outer inner)) ≡ map (index_at outer values) (tuples (map (dim_values values) inner))
composed-elements [] [] values units ok same = refl
composed-elements [] (dim ∷ inner) values units ok same = absurd (omega (arith, same))
composed-elements (Index at ∷ outer) inner values units ok same =
    tuples-single (affine_value values at) (map (dim_values values) (composed outer inner))
    ∙ ap (map (λ rest. affine_value values at ∷ rest)) (composed-elements outer inner values units.1 ok same)
    ∙ map-map (λ rest. affine_value values at ∷ rest) (index_at outer values) (tuples (map (dim_values values) inner))
composed-elements (Span range ∷ outer) [] values units ok same = absurd (omega (arith, same))
composed-elements (Span range ∷ outer) (dim ∷ inner) values units ok same =
    let by = affine_value values range.begin in
    let rest_same : length (begins outer) ≡ length inner = omega (arith, same) in
    ap (λ (firsts : List ℤ). flat_map (λ first. map (λ rest. first ∷ rest) (tuples (map (dim_values values) (composed outer inner)))) firsts) (dim_moved range.begin values dim ok.0)
    ∙ ap (λ (others : List (List ℤ)). flat_map (λ first. map (λ rest. first ∷ rest) others) (map (more_by by) (dim_values values dim))) (composed-elements outer inner values units.1 ok.1 rest_same)
    ∙ tuples-mapped (more_by by) (index_at outer values) (index_at (Span range ∷ outer) values)
    (λ number rest. ap (λ (first : ℤ). first ∷ index_at outer values rest) (unit_place by number range.step units.0))
    (dim_values values dim) (tuples (map (dim_values values) inner))
