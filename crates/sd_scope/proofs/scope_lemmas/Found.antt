-- The number of an element in row order, extent by extent.
use Rattle.std.proofs.Common.{◌≡◌, ℕ, suc, ◌+◌, ◌*◌, ◌<◌, ◌≤◌, ℤ, pos, List, [], ◌∷◌, length, drop, get_or, Option, Some, None, Bool, true, false, ◌&&◌, int_le, int_lt, unsigned_abs, if◌then◌else◌, refl, ap, sym, ◌∙◌, arith}
use Rattle.std.proofs.lemmas.List.{drop_more, drop_all, get_or-map, length-map}
use Rattle.sd_range.specs.declared.affine.Affine.{Affine}
use Rattle.sd_range.specs.declared.subset.Dim.{Dim}
use Rattle.sd_range.specs.declared.subset.Dim.TheVariants.{Index, Span}
use Rattle.sd_range.specs.Points.{product}
use Rattle.sd_range.specs.Subset.{inside}
use Rattle.sd_range.proofs.TupleLaws.{product-cons}
use Rattle.sd_graph.specs.RowOrder.{row_number}
use Rattle.sd_graph.specs.Context.{index_at}
use Rattle.sd_scope.specs.scope.Standing.{constants_of}

-- a number is inside an extent
abbrev pub is_within : (extent : ℕ) → (number : ℤ) → Bool
is_within extent number = int_le (pos 0) number && int_lt number (pos extent)

-- the element from this place on, where what is left of the index is inside what is left of the extents
abbrev pub found_from : (place : ℕ) → (extents : List ℕ) → (index : List ℤ) → Option ℕ
found_from place [] [] = Some place
found_from place [] (number ∷ index) = None
found_from place (extent ∷ extents) [] = None
found_from place (extent ∷ extents) (number ∷ index) =
    if is_within extent number then found_from (place * extent + unsigned_abs number) extents index else None

-- a place further on
further_place : (place extent number stride rest : ℕ) → (place * extent + number) * stride + rest ≡ place * (extent * stride) + (number * stride + rest)
further_place place extent number stride rest = omega arith

-- a number more that is inside, or is not
found_step : (test others : Bool) (next : Option ℕ) (place same : ℕ) → next ≡ (if others then Some place else None) → place ≡ same →
    (if test then next else None) ≡ (if (test && others) then Some same else None)
found_step true others next place same is further = is ∙ ap (λ (n : ℕ). if others then Some n else None) further
found_step false others next place same is further = refl

pub found_from-is : (place : ℕ) (extents : List ℕ) (index : List ℤ) →
    found_from place extents index ≡ (if inside extents index then Some (place * product extents + row_number extents index) else None)
found_from-is place [] [] = ap Some (omega arith)
found_from-is place [] (number ∷ index) = refl
found_from-is place (extent ∷ extents) [] = refl
found_from-is place (extent ∷ extents) (number ∷ index) =
    found_step (is_within extent number) (inside extents index) (found_from (place * extent + unsigned_abs number) extents index) _ _
    (found_from-is (place * extent + unsigned_abs number) extents index)
    (further_place place extent (unsigned_abs number) (product extents) (row_number extents index)
    ∙ ap (λ (all : ℕ). place * all + (unsigned_abs number * product extents + row_number extents index)) (sym (product-cons extent extents)))

-- all of it
pub found_all : (extents : List ℕ) (index : List ℤ) → found_from 0 extents index ≡ (if inside extents index then Some (row_number extents index) else None)
found_all extents index = found_from-is 0 extents index ∙ ap (λ (n : ℕ). if inside extents index then Some n else None) (omega arith)

-- one extent further on
pub found_next : (place : ℕ) (extents : List ℕ) (index : List ℤ) (i : ℕ) (d : ℕ) (n : ℤ) → i < length extents → i < length index →
    found_from place (drop i extents) (drop i index)
    ≡ (if is_within (get_or extents i d) (get_or index i n) then found_from (place * get_or extents i d + unsigned_abs (get_or index i n)) (drop (i + 1) extents) (drop (i + 1) index) else None)
found_next place extents index i d n below within =
    ap (λ left. found_from place left (drop i index)) (drop_more extents i d below)
    ∙ ap (λ left. found_from place (get_or extents i d ∷ drop (i + 1) extents) left) (drop_more index i n within)

-- what comes behind a number, where there is nothing
none_behind : (test : Bool) (next : Option ℕ) → next ≡ None → (if test then next else None) ≡ None
none_behind true next is = is
none_behind false next is = refl

-- where there are not as many numbers as extents, there is none
pub not_found : (place : ℕ) (extents : List ℕ) (index : List ℤ) → (length extents ≡ length index → ⊥) → found_from place extents index ≡ None
not_found place [] [] other = absurd (other refl)
not_found place [] (number ∷ index) other = refl
not_found place (extent ∷ extents) [] other = refl
not_found place (extent ∷ extents) (number ∷ index) other =
    none_behind (is_within extent number) (found_from (place * extent + unsigned_abs number) extents index)
    (not_found (place * extent + unsigned_abs number) extents index (λ same. other (ap suc same)))

-- a test that fails, and one that passes, seen from what they give
none_from : (test : Bool) (place : ℕ) (next : Option ℕ) → None ≡ (if test then Some place else None) → (if test then next else None) ≡ None
none_from true place next is = cc
none_from false place next is = refl

some_from : (test : Bool) (place further : ℕ) (next : ℕ → Option ℕ) → Some further ≡ (if test then Some place else None) → (if test then next place else None) ≡ next further
some_from true place further next is = let same : further ≡ place = cc in ap next (sym same)
some_from false place further next is = cc

-- a number that is outside
pub stopped : (place : ℕ) (extents : List ℕ) (index : List ℤ) (i d : ℕ) (n : ℤ) → i < length extents → i < length index →
    None ≡ (if is_within (get_or extents i d) (get_or index i n) then Some (place * get_or extents i d + unsigned_abs (get_or index i n)) else None) →
    found_from place (drop i extents) (drop i index) ≡ None
stopped place extents index i d n below within outside =
    found_next place extents index i d n below within
    ∙ none_from (is_within (get_or extents i d) (get_or index i n)) (place * get_or extents i d + unsigned_abs (get_or index i n)) _ outside

-- a number that is inside
pub went_on : (place next : ℕ) (extents : List ℕ) (index : List ℤ) (i d : ℕ) (n : ℤ) → i < length extents → i < length index →
    Some next ≡ (if is_within (get_or extents i d) (get_or index i n) then Some (place * get_or extents i d + unsigned_abs (get_or index i n)) else None) →
    found_from place (drop i extents) (drop i index) ≡ found_from next (drop (i + 1) extents) (drop (i + 1) index)
went_on place next extents index i d n below within inside =
    found_next place extents index i d n below within
    ∙ some_from (is_within (get_or extents i d) (get_or index i n)) (place * get_or extents i d + unsigned_abs (get_or index i n)) next
    (λ place. found_from place (drop (i + 1) extents) (drop (i + 1) index)) inside

-- the first number is inside, or outside
pub first_inside : (place next extent : ℕ) (number : ℤ) (extents : List ℕ) (index : List ℤ) →
    Some next ≡ (if is_within extent number then Some (place * extent + unsigned_abs number) else None) → found_from place (extent ∷ extents) (number ∷ index) ≡ found_from next extents index
first_inside place next extent number extents index is =
    some_from (is_within extent number) (place * extent + unsigned_abs number) next (λ place. found_from place extents index) is

pub first_outside : (place extent : ℕ) (number : ℤ) (extents : List ℕ) (index : List ℤ) →
    None ≡ (if is_within extent number then Some (place * extent + unsigned_abs number) else None) → found_from place (extent ∷ extents) (number ∷ index) ≡ None
first_outside place extent number extents index is =
    none_from (is_within extent number) (place * extent + unsigned_abs number) (found_from (place * extent + unsigned_abs number) extents index) is

-- where each dimension begins, one number for each
pub begins_counted : (dims : List Dim) (values : List ℤ) → length (index_at dims values []) ≡ length dims
begins_counted [] values = refl
begins_counted (Index number ∷ dims) values = ap suc (begins_counted dims values)
begins_counted (Span range ∷ dims) values = ap suc (begins_counted dims values)

-- the dimension that is left first begins at this number
pub begins_at : (dims : List Dim) (values : List ℤ) (i : ℕ) (dim : Dim) (number : ℤ) → i < length dims → dim ≡ get_or dims i dim →
    index_at (dim ∷ drop (i + 1) dims) values [] ≡ number ∷ index_at (drop (i + 1) dims) values [] → index_at (drop i dims) values [] ≡ number ∷ index_at (drop (i + 1) dims) values []
begins_at dims values i dim number within is here =
    ap (λ left. index_at left values []) (drop_more dims i dim within ∙ ap (λ first. first ∷ drop (i + 1) dims) (sym is)) ∙ here

-- it begins inside
pub began_inside : (place next : ℕ) (extents : List ℕ) (index others : List ℤ) (i d : ℕ) (number : ℤ) → i < length extents → index ≡ number ∷ others →
    Some next ≡ (if is_within (get_or extents i d) number then Some (place * get_or extents i d + unsigned_abs number) else None) →
    found_from place (drop i extents) index ≡ found_from next (drop (i + 1) extents) others
began_inside place next extents index others i d number below begins inside =
    ap (λ left. found_from place left index) (drop_more extents i d below)
    ∙ ap (λ index. found_from place (get_or extents i d ∷ drop (i + 1) extents) index) begins
    ∙ first_inside place next (get_or extents i d) number (drop (i + 1) extents) others inside

-- it begins outside
pub began_outside : (place : ℕ) (extents : List ℕ) (index others : List ℤ) (i d : ℕ) (number : ℤ) → i < length extents → index ≡ number ∷ others →
    None ≡ (if is_within (get_or extents i d) number then Some (place * get_or extents i d + unsigned_abs number) else None) →
    found_from place (drop i extents) index ≡ None
began_outside place extents index others i d number below begins outside =
    ap (λ left. found_from place left index) (drop_more extents i d below)
    ∙ ap (λ index. found_from place (get_or extents i d ∷ drop (i + 1) extents) index) begins
    ∙ first_outside place (get_or extents i d) number (drop (i + 1) extents) others outside

-- no number is left
pub arrived : (place : ℕ) (extents : List ℕ) (index : List ℤ) (i : ℕ) → length extents ≤ i → length index ≤ i →
    found_from place (drop i extents) (drop i index) ≡ Some place
arrived place extents index i over past = rw (drop_all i extents over, drop_all i index past) refl

-- an extent among constants
pub constant_at : (extents : List Affine) (i : ℕ) (extent : Affine) → i < length extents → extent ≡ get_or extents i extent → get_or (constants_of extents) i 0 ≡ unsigned_abs extent.constant
constant_at extents i extent below is =
    get_or-map (λ (extent : Affine). unsigned_abs extent.constant) extents i extent 0 below ∙ ap (λ (extent : Affine). unsigned_abs extent.constant) (sym is)

pub constants_counted : (extents : List Affine) → length (constants_of extents) ≡ length extents
constants_counted extents = length-map extents (λ (extent : Affine). unsigned_abs extent.constant)
