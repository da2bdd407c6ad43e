-- Where variables agree, what names no others has the same value.
use Rattle.std.proofs.Common.{◌≡◌, ℕ, zero, suc, ◌<◌, ℤ, ◌+ℤ◌, ◌*ℤ◌, List, [], ◌∷◌, map, length, Some, None, slice_get, refl, ap, ap₂, subst}
use Rattle.std.specs.List.{AllByRecursion, fold}
use Rattle.std.specs.Int.{int_min}
use Rattle.sd_range.specs.Affine.{affine_value, terms_value, variable_value}
use Rattle.sd_range.specs.Range.{range_values, least_value, stepped}
use Rattle.sd_range.specs.Points.{tuples, points}
use Rattle.sd_range.specs.Subset.{dim_values, elements}
use Rattle.sd_range.specs.declared.affine.Affine.{Affine}
use Rattle.sd_range.specs.declared.range.Range.{Range}
use Rattle.sd_range.specs.declared.subset.Dim.{Dim}
use Rattle.sd_range.specs.declared.subset.Dim.TheVariants.{Index, Span}
use Rattle.sd_range.specs.declared.subset.Subset.{Subset}
use Rattle.sd_work.specs.Exit.{Values}
use Rattle.sd_range.specs.Variables.{with_variable, with_variables}
use Rattle.sd_graph.specs.Context.{span_counts, index_at}
use Rattle.sd_alike.specs.alike.SameWork.{AgreeBelow}
use Rattle.sd_alike.specs.alike.Alike.{AffineBelow, RangeBelow, DimBelow}

-- ---- lists

pub map_same : {A B : Type 0} (P : A → Type 0) (f g : A → B) → ((x : A) → P x → f x ≡ g x) → (xs : List A) → AllByRecursion P xs → map f xs ≡ map g xs
map_same P f g h [] all = refl
map_same P f g h (x ∷ xs) all = ap₂ (λ y ys. y ∷ ys) (h x all.0) (map_same P f g h xs all.1)

pub map_twice : {A B C : Type 0} (f : A → C) (g : B → C) (k : A → B) → ((x : A) → f x ≡ g (k x)) → (xs : List A) → map f xs ≡ map g (map k xs)
map_twice f g k h [] = refl
map_twice f g k h (x ∷ xs) = ap₂ (λ y ys. y ∷ ys) (h x) (map_twice f g k h xs)

pub member_has : {A : Type 0} (P : A → Type 0) (xs : List A) (number : ℕ) → AllByRecursion P xs → (x : A) → slice_get xs number ≡ Some x → P x
member_has P [] number all x e = absurd (nothing_is_no_member x e)
  where
    nothing_is_no_member : {B : Type 0} (x : B) → None ≡ Some x → ⊥
    nothing_is_no_member x e = cc
member_has P (y ∷ xs) zero all x e = subst P (some_same y x e) all.0
  where
    some_same : {B : Type 0} (y x : B) → Some y ≡ Some x → y ≡ x
    some_same y x e = cc
member_has P (y ∷ xs) (suc number) all x e = member_has P xs number all.1 x e

-- ---- values

-- each variable that is named has this property, and those that have it have the same values
abbrev pub AffineWhere : (ℕ → Type 0) → Affine → Type 0
AffineWhere P a = AllByRecursion (λ term. P term.0) a.terms

abbrev pub RangeWhere : (ℕ → Type 0) → Range → Type 0
RangeWhere P range = AffineWhere P range.begin × AllByRecursion (AffineWhere P) range.ends

abbrev pub AgreeWhere : (ℕ → Type 0) → Values → Values → Type 0
AgreeWhere P values other = (variable : ℕ) → P variable → variable_value other variable ≡ variable_value values variable

terms_where : (P : ℕ → Type 0) (values other : Values) → AgreeWhere P values other → (terms : List (ℕ × ℤ)) → AllByRecursion (λ term. P term.0) terms → terms_value other terms ≡ terms_value values terms
terms_where P values other agree [] all = refl
terms_where P values other agree (term ∷ terms) all = ap₂ (λ value rest. (term.1 *ℤ value) +ℤ rest) (agree term.0 all.0) (terms_where P values other agree terms all.1)

pub affine_where : (P : ℕ → Type 0) (values other : Values) → AgreeWhere P values other → (a : Affine) → AffineWhere P a → affine_value other a ≡ affine_value values a
affine_where P values other agree a all = ap (λ rest. a.constant +ℤ rest) (terms_where P values other agree a.terms all)

pub least_where : (P : ℕ → Type 0) (values other : Values) → AgreeWhere P values other → (ends : List Affine) → AllByRecursion (AffineWhere P) ends → least_value other ends ≡ least_value values ends
least_where P values other agree [] all = refl
least_where P values other agree (end ∷ ends) all =
    ap₂ (λ first others. fold int_min first others) (affine_where P values other agree end all.0)
    (map_same (AffineWhere P) (λ end. affine_value other end) (λ end. affine_value values end) (affine_where P values other agree) ends all.1)

pub range_where : (P : ℕ → Type 0) (values other : Values) → AgreeWhere P values other → (range : Range) → RangeWhere P range → range_values other range ≡ range_values values range
range_where P values other agree range all = ap₂ (λ begin last. stepped begin last range.step) (affine_where P values other agree range.begin all.0) (least_where P values other agree range.ends all.1)

pub ranges_where : (P : ℕ → Type 0) (values other : Values) → AgreeWhere P values other → (params : List (ℕ × Range)) → AllByRecursion (λ param. RangeWhere P param.1) params →
    map {A = Range} (range_values other) (map (λ param. param.1) params) ≡ map {A = Range} (range_values values) (map (λ param. param.1) params)
ranges_where P values other agree [] all = refl
ranges_where P values other agree (param ∷ params) all = ap₂ (λ first others. first ∷ others) (range_where P values other agree param.1 all.0) (ranges_where P values other agree params all.1)

pub affine_same : (count : ℕ) (values other : Values) → AgreeBelow count values other → (a : Affine) → AffineBelow count a → affine_value other a ≡ affine_value values a
affine_same count values other agree a all = affine_where (λ variable. variable < count) values other agree a all

pub range_same : (count : ℕ) (values other : Values) → AgreeBelow count values other → (range : Range) → RangeBelow count range → range_values other range ≡ range_values values range
range_same count values other agree range all = range_where (λ variable. variable < count) values other agree range all

dim_same : (count : ℕ) (values other : Values) → AgreeBelow count values other → (dim : Dim) → DimBelow count dim → dim_values other dim ≡ dim_values values dim
dim_same count values other agree (Index at) all = ap (λ value. value ∷ []) (affine_same count values other agree at all)
dim_same count values other agree (Span range) all = range_same count values other agree range all

pub elements_same : (count : ℕ) (values other : Values) → AgreeBelow count values other → (subset : Subset) → AllByRecursion (DimBelow count) subset.dims → elements subset other ≡ elements subset values
elements_same count values other agree subset all = ap tuples (map_same (DimBelow count) (dim_values other) (dim_values values) (dim_same count values other agree) subset.dims all)

pub points_same : (count : ℕ) (values other : Values) → AgreeBelow count values other → (params : List (ℕ × Range)) → AllByRecursion (λ param. RangeBelow count param.1) params →
    points (map (λ param. param.1) params) other ≡ points (map (λ param. param.1) params) values
points_same count values other agree params all = ap tuples (ranges_where (λ variable. variable < count) values other agree params all)

pub spans_same : (count : ℕ) (values other : Values) → AgreeBelow count values other → (dims : List Dim) → AllByRecursion (DimBelow count) dims → span_counts dims other ≡ span_counts dims values
spans_same count values other agree [] all = refl
spans_same count values other agree (Index at ∷ dims) all = spans_same count values other agree dims all.1
spans_same count values other agree (Span range ∷ dims) all = ap₂ (λ first others. length first ∷ others) (range_same count values other agree range all.0) (spans_same count values other agree dims all.1)

pub index_same : (count : ℕ) (values other : Values) → AgreeBelow count values other → (dims : List Dim) → AllByRecursion (DimBelow count) dims → (at : List ℤ) → index_at dims other at ≡ index_at dims values at
index_same count values other agree [] all at = refl
index_same count values other agree (Index number ∷ dims) all at = ap₂ (λ first others. first ∷ others) (affine_same count values other agree number all.0) (index_same count values other agree dims all.1 at)
index_same count values other agree (Span range ∷ dims) all [] = ap₂ (λ first others. first ∷ others) (affine_same count values other agree range.begin all.0.0) (index_same count values other agree dims all.1 [])
index_same count values other agree (Span range ∷ dims) all (number ∷ at) =
    ap₂ (λ first others. (first +ℤ (range.step *ℤ number)) ∷ others) (affine_same count values other agree range.begin all.0.0) (index_same count values other agree dims all.1 at)

-- ---- variables that are set

set_same : (variable asked : ℕ) (value : ℤ) (values other : Values) → variable_value other asked ≡ variable_value values asked →
    variable_value (with_variable variable value other) asked ≡ variable_value (with_variable variable value values) asked
set_same zero zero value [] [] same = refl
set_same zero zero value [] (o ∷ other) same = refl
set_same zero zero value (v ∷ values) [] same = refl
set_same zero zero value (v ∷ values) (o ∷ other) same = refl
set_same zero (suc asked) value [] [] same = refl
set_same zero (suc asked) value [] (o ∷ other) same = same
set_same zero (suc asked) value (v ∷ values) [] same = same
set_same zero (suc asked) value (v ∷ values) (o ∷ other) same = same
set_same (suc variable) zero value [] [] same = refl
set_same (suc variable) zero value [] (o ∷ other) same = same
set_same (suc variable) zero value (v ∷ values) [] same = same
set_same (suc variable) zero value (v ∷ values) (o ∷ other) same = same
set_same (suc variable) (suc asked) value [] [] same = set_same variable asked value [] [] refl
set_same (suc variable) (suc asked) value [] (o ∷ other) same = set_same variable asked value [] other same
set_same (suc variable) (suc asked) value (v ∷ values) [] same = set_same variable asked value values [] same
set_same (suc variable) (suc asked) value (v ∷ values) (o ∷ other) same = set_same variable asked value values other same

pub agree_with : (count : ℕ) (variable : ℕ) (value : ℤ) (values other : Values) → AgreeBelow count values other → AgreeBelow count (with_variable variable value values) (with_variable variable value other)
agree_with count variable value values other agree = λ asked below. set_same variable asked value values other (agree asked below)

pub agree_all : (count : ℕ) (assignments : List (ℕ × ℤ)) (values other : Values) → AgreeBelow count values other → AgreeBelow count (with_variables assignments values) (with_variables assignments other)
agree_all count [] values other agree = agree
agree_all count (assignment ∷ assignments) values other agree =
    agree_all count assignments (with_variable assignment.0 assignment.1 values) (with_variable assignment.0 assignment.1 other) (agree_with count assignment.0 assignment.1 values other agree)
