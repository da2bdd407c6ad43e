-- The bounds of one dimension of several boxes, one box after another.
use Rattle.std.specs.List.{flat_map, fold, list_all}
use Rattle.std.proofs.Common.{◌≡◌, ℕ, zero, suc, ◌+◌, ◌<◌, ◌≤◌, List, [], ◌∷◌, ◌++◌, length, get_or, take, drop, map, ℤ, pos, int_lt, ◌&&◌, append-nil, add-one, drop-cons, Bool, true, false, Some, None, refl, ap, sym, ◌∙◌, arith, if◌then◌else◌}
use Rattle.std.proofs.lemmas.List.{take-append-drop}
use Rattle.std.proofs.lemmas.List.Concat.{flat_map-append}
use Rattle.sd_range.specs.Arithmetic.{affine_difference}
use Rattle.sd_range.specs.declared.affine.Affine.{Affine}
use Rattle.sd_subset.specs.declared.boxes.bounds.Bounds.{Bounds}
use Rattle.sd_subset.specs.declared.boxes.joining.Widest.{Widest}
use Rattle.sd_subset.specs.boxes.Box.{Box}
use Rattle.sd_subset.specs.boxes.Hull.{differs_by_constant, has_no_terms, first_of, rest_of, is_level, wider, hull_bounds, hull}
use Rattle.sd_subset.specs.boxes.Columns.{column, widest_of, bounds_in, IsWidest}
use Rattle.sd_subset.proofs.boxes_lemmas.Walks.{take-next, drop-next}

-- both of two tests
two : (a b : Bool) → (a && b) ≡ true → (a ≡ true) × (b ≡ true)
two true b is = (refl, is)
two false b is = cc

and-false : (a b : Bool) → b ≡ false → (a && b) ≡ false
and-false true b is = is
and-false false b is = refl

-- one of two expressions with the same terms
chosen : (test : Bool) (a b : Affine) (terms : List (ℕ × ℤ)) → a.terms ≡ terms → b.terms ≡ terms → (if test then a else b).terms ≡ terms
chosen true a b terms is is' = is
chosen false a b terms is is' = is'

-- the bounds of a dimension that a box has
pub first-there : (box : Box) (dimension : ℕ) (bounds : Bounds) → dimension < length box → bounds ≡ get_or box dimension bounds → first_of (drop dimension box) ≡ bounds ∷ []
first-there [] dimension bounds below is = absurd (omega arith)
first-there (first ∷ box) zero bounds below is = ap (λ one. one ∷ []) (sym is)
first-there (first ∷ box) (suc dimension) bounds below is = first-there box dimension bounds (omega arith) is

-- and of one that it has not
pub first-none : (box : Box) (dimension : ℕ) → length box ≤ dimension → first_of (drop dimension box) ≡ []
first-none [] zero over = refl
first-none [] (suc dimension) over = refl
first-none (first ∷ box) zero over = absurd (omega arith)
first-none (first ∷ box) (suc dimension) over = first-none box dimension (omega arith)

-- the boxes with one more have its bounds more
pub column-next : (dimension : ℕ) (boxes : List Box) (i : ℕ) (box : Box) (found : List Bounds) → i < length boxes → box ≡ get_or boxes i box → first_of (drop dimension box) ≡ found →
    column dimension (take (i + 1) boxes) ≡ column dimension (take i boxes) ++ found
column-next dimension boxes i box found below is found_is =
    ap (column dimension) (take-next boxes i box below is) ∙ flat_map-append (λ box. first_of (drop dimension box)) (take i boxes) (box ∷ [])
    ∙ ap (λ last. column dimension (take i boxes) ++ last) (append-nil (first_of (drop dimension box)) ∙ found_is)

-- all boxes have the bounds of the first ones, then those of one more, then others
pub column-whole : (dimension : ℕ) (boxes : List Box) (i : ℕ) (box : Box) (found : List Bounds) → i < length boxes → box ≡ get_or boxes i box → first_of (drop dimension box) ≡ found →
    column dimension boxes ≡ column dimension (take i boxes) ++ (found ++ column dimension (drop (i + 1) boxes))
column-whole dimension boxes i box found below is found_is =
    ap (column dimension) (sym (take-append-drop i boxes)) ∙ flat_map-append (λ box. first_of (drop dimension box)) (take i boxes) (drop i boxes)
    ∙ ap (λ rest. column dimension (take i boxes) ++ column dimension rest) (drop-next boxes i box below is)
    ∙ ap (λ one. column dimension (take i boxes) ++ (one ++ column dimension (drop (i + 1) boxes))) found_is

-- expressions with the same terms differ from others alike
alike : (a b c : Affine) → a.terms ≡ b.terms → differs_by_constant a c ≡ differs_by_constant b c
alike a b c same = ap (λ terms. has_no_terms (affine_difference c (record { constant = pos 0; terms = terms })).terms) same

level-alike : (a b c : Bounds) → a.low.terms ≡ b.low.terms → a.high.terms ≡ b.high.terms → is_level a c ≡ is_level b c
level-alike a b c low high = λ i. alike a.low b.low c.low low i && alike a.high b.high c.high high i

fold-more : (first : Bounds) (others : List Bounds) (one : Bounds) → fold wider first (others ++ one ∷ []) ≡ wider (fold wider first others) one
fold-more first [] one = refl
fold-more first (other ∷ others) one = fold-more (wider first other) others one

all-more : (test : Bounds → Bool) (others : List Bounds) (one : Bounds) → list_all test others ≡ true → test one ≡ true → list_all test (others ++ one ∷ []) ≡ true
all-more test [] one all is = rw is refl
all-more test (other ∷ others) one all is = let (here, rest) = two (test other) (list_all test others) all in rw (here, all-more test others one rest is) refl

not_all : (test : Bounds → Bool) (others : List Bounds) (one : Bounds) (rest : List Bounds) → test one ≡ false → list_all test (others ++ one ∷ rest) ≡ false
not_all test [] one rest is = rw is refl
not_all test (other ∷ others) one rest is = and-false (test other) (list_all test (others ++ one ∷ rest)) (not_all test others one rest is)

-- the first bounds are the widest
pub widest-one : (known : List Bounds) (bounds : Bounds) (widest : Widest) → IsWidest None known → bounds_in widest ≡ bounds → IsWidest (Some widest) (known ++ bounds ∷ [])
widest-one [] bounds widest none is = ((refl, sym is), ap (λ (b : Bounds). b.low.terms) is, ap (λ (b : Bounds). b.high.terms) is)
widest-one (first ∷ known) bounds widest none is = absurd none

-- and with one more that can be compared the wider ones are
pub widest-more : (known : List Bounds) (bounds : Bounds) (widest next : Widest) → IsWidest (Some widest) known → is_level (bounds_in widest) bounds ≡ true →
    widest.low.now.terms ≡ bounds.low.terms → widest.high.now.terms ≡ bounds.high.terms → bounds_in next ≡ wider (bounds_in widest) bounds → IsWidest (Some next) (known ++ bounds ∷ [])
widest-more [] bounds widest next is level low high more = absurd is
widest-more (first ∷ others) bounds widest next ((levels, widest_is), same_low, same_high) level low high more = (
  (
    all-more (is_level first) others bounds levels (sym (level-alike (bounds_in widest) first bounds same_low same_high) ∙ level),
    fold-more first others bounds ∙ ap (λ one. wider one bounds) widest_is ∙ sym more,
  ),
  ap (λ (b : Bounds). b.low.terms) more ∙ chosen (int_lt bounds.low.constant widest.low.now.constant) bounds.low widest.low.now first.low.terms (sym low ∙ same_low) same_low,
  ap (λ (b : Bounds). b.high.terms) more ∙ chosen (int_lt widest.high.now.constant bounds.high.constant) bounds.high widest.high.now first.high.terms (sym high ∙ same_high) same_high,
)

-- where one cannot be compared none are
pub widest-none : (known : List Bounds) (bounds : Bounds) (rest : List Bounds) (widest : Widest) → IsWidest (Some widest) known → is_level (bounds_in widest) bounds ≡ false → widest_of (known ++ bounds ∷ rest) ≡ None
widest-none [] bounds rest widest is level = absurd is
widest-none (first ∷ others) bounds rest widest (_, same_low, same_high) level =
    ap (λ test. if test then Some (fold wider first (others ++ bounds ∷ rest)) else None)
    (not_all (is_level first) others bounds rest (sym (level-alike (bounds_in widest) first bounds same_low same_high) ∙ level))

-- the hull has in each dimension that of the boxes' bounds there
column-drops : (dimension : ℕ) (boxes : List Box) → flat_map first_of (map (drop dimension) boxes) ≡ column dimension boxes
column-drops dimension [] = refl
column-drops dimension (box ∷ boxes) = ap (λ rest. first_of (drop dimension box) ++ rest) (column-drops dimension boxes)

rest-drop : (dimension : ℕ) (box : Box) → rest_of (drop dimension box) ≡ drop (suc dimension) box
rest-drop zero [] = refl
rest-drop zero (bounds ∷ box) = refl
rest-drop (suc dimension) [] = refl
rest-drop (suc dimension) (bounds ∷ box) = rest-drop dimension box

rests-drop : (dimension : ℕ) (boxes : List Box) → map rest_of (map (drop dimension) boxes) ≡ map (drop (suc dimension)) boxes
rests-drop dimension [] = refl
rests-drop dimension (box ∷ boxes) = λ i. rest-drop dimension box i ∷ rests-drop dimension boxes i

pub drops-none : (boxes : List Box) → map (drop 0) boxes ≡ boxes
drops-none [] = refl
drops-none (box ∷ boxes) = ap (λ rest. box ∷ rest) (drops-none boxes)

-- one dimension of the hull stands before those that are left
pub hull-next : (dimension : ℕ) (extents : List ℕ) (boxes : List Box) → dimension < length extents →
    hull (drop dimension extents) (map (drop dimension) boxes) ≡ hull_bounds (get_or extents dimension 0) (column dimension boxes) ∷ hull (drop (dimension + 1) extents) (map (drop (dimension + 1)) boxes)
hull-next dimension extents boxes below =
    let extent = get_or extents dimension 0 in
    ap (λ all. hull all (map (drop dimension) boxes)) (drop-cons extents dimension 0 below)
    ∙ ap (λ all. hull_bounds extent all ∷ hull (drop (suc dimension) extents) (map rest_of (map (drop dimension) boxes))) (column-drops dimension boxes)
    ∙ ap (λ all. hull_bounds extent (column dimension boxes) ∷ hull (drop (suc dimension) extents) all) (rests-drop dimension boxes)
    ∙ ap (λ next. hull_bounds extent (column dimension boxes) ∷ hull (drop next extents) (map (drop next) boxes)) (sym (add-one dimension))
