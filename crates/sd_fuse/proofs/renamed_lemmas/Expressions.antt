-- Expressions, ranges and subsets with variables renamed have the values that they have at the values of the old names.
use Rattle.std.specs.List.{fold}
use Rattle.std.specs.Int.{int_min}
use Rattle.std.proofs.Common.{◌≡◌, ◌≢◌, ℕ, nat_eq, ℤ, ◌+ℤ◌, ◌*ℤ◌, List, [], ◌∷◌, map, length, if◌then◌else◌, refl, sym, ◌∙◌, ap, ap₂, inl, inr, arith}
use Rattle.std.proofs.lemmas.Int.{ints}
use Rattle.std.proofs.lemmas.Bool.{eqb-true, eqb-false, cases_Bool}
use Rattle.sd_range.specs.declared.affine.Affine.{Affine}
use Rattle.sd_range.specs.declared.range.Range.{Range}
use Rattle.sd_range.specs.declared.subset.Dim.{Dim}
use Rattle.sd_range.specs.declared.subset.Dim.TheVariants.{Index, Span}
use Rattle.sd_range.specs.Affine.{variable_value, terms_value, affine_value}
use Rattle.sd_range.specs.Range.{range_values, least_value, stepped}
use Rattle.sd_range.specs.Subset.{dim_values}
use Rattle.sd_range.proofs.AffineLaws.{terms_value-plus_term}
use Rattle.sd_range.proofs.Variables.{variable_set, variable_kept}
use Rattle.sd_graph.specs.Context.{span_counts, index_at}
use Rattle.sd_fuse.specs.renamed.Renamed.{Names, values_renamed, variable_renamed, terms_renamed, affine_renamed, range_renamed, dim_renamed}

pub variable-renamed : (names : Names) (values : List ℤ) (variable : ℕ) → variable_value values (variable_renamed names variable) ≡ variable_value (values_renamed names values) variable
variable-renamed [] values variable = refl
variable-renamed (name ∷ names) values variable = elim (cases_Bool (nat_eq variable name.0)) [
  | inl is ↦
      (let same : variable ≡ name.0 = eqb-true variable name.0 is in
      ap (λ b. variable_value values (if b then name.1 else variable_renamed names variable)) is
      ∙ sym (variable_set name.0 (variable_value values name.1) (values_renamed names values)) ∙ ap (variable_value (values_renamed (name ∷ names) values)) (sym same))
  | inr free ↦
      (let other : name.0 ≢ variable = λ same. eqb-false variable name.0 free (sym same) in
      ap (λ b. variable_value values (if b then name.1 else variable_renamed names variable)) free
      ∙ variable-renamed names values variable ∙ sym (variable_kept name.0 variable (variable_value values name.1) (values_renamed names values) other))
]

terms-renamed : (names : Names) (values : List ℤ) (terms : List (ℕ × ℤ)) → terms_value values (terms_renamed names terms) ≡ terms_value (values_renamed names values) terms
terms-renamed names values [] = refl
terms-renamed names values (term ∷ terms) =
    terms_value-plus_term (terms_renamed names terms) (variable_renamed names term.0) term.1 values
    ∙ ap₂ (λ rest value. rest +ℤ (term.1 *ℤ value)) (terms-renamed names values terms) (variable-renamed names values term.0)
    ∙ turned (terms_value (values_renamed names values) terms) (term.1 *ℤ variable_value (values_renamed names values) term.0)
  where
    turned : (a b : ℤ) → a +ℤ b ≡ b +ℤ a
    turned a b = omega (arith, ints)

pub affine-renamed : (names : Names) (values : List ℤ) (a : Affine) → affine_value values (affine_renamed names a) ≡ affine_value (values_renamed names values) a
affine-renamed names values a = ap (λ rest. a.constant +ℤ rest) (terms-renamed names values a.terms)

affines-renamed : (names : Names) (values : List ℤ) (all : List Affine) → map (affine_value values) (map (affine_renamed names) all) ≡ map (affine_value (values_renamed names values)) all
affines-renamed names values [] = refl
affines-renamed names values (a ∷ all) = λ i. affine-renamed names values a i ∷ affines-renamed names values all i

least-renamed : (names : Names) (values : List ℤ) (ends : List Affine) → least_value values (map (affine_renamed names) ends) ≡ least_value (values_renamed names values) ends
least-renamed names values [] = refl
least-renamed names values (end ∷ ends) = λ i. fold int_min (affine-renamed names values end i) (affines-renamed names values ends i)

pub range-renamed : (names : Names) (values : List ℤ) (r : Range) → range_values values (range_renamed names r) ≡ range_values (values_renamed names values) r
range-renamed names values r = λ i. stepped (affine-renamed names values r.begin i) (least-renamed names values r.ends i) r.step

pub dims-renamed : (names : Names) (values : List ℤ) (dims : List Dim) → map (dim_values values) (map (dim_renamed names) dims) ≡ map (dim_values (values_renamed names values)) dims
dims-renamed names values [] = refl
dims-renamed names values (Index at ∷ dims) = λ i. (affine-renamed names values at i ∷ []) ∷ dims-renamed names values dims i
dims-renamed names values (Span r ∷ dims) = λ i. range-renamed names values r i ∷ dims-renamed names values dims i

pub counts-renamed : (names : Names) (values : List ℤ) (dims : List Dim) → span_counts (map (dim_renamed names) dims) values ≡ span_counts dims (values_renamed names values)
counts-renamed names values [] = refl
counts-renamed names values (Index at ∷ dims) = counts-renamed names values dims
counts-renamed names values (Span r ∷ dims) = λ i. length (range-renamed names values r i) ∷ counts-renamed names values dims i

pub index-renamed : (names : Names) (values : List ℤ) (dims : List Dim) (at : List ℤ) → index_at (map (dim_renamed names) dims) values at ≡ index_at dims (values_renamed names values) at
index-renamed names values [] at = refl
index-renamed names values (Index number ∷ dims) at = λ i. affine-renamed names values number i ∷ index-renamed names values dims at i
index-renamed names values (Span r ∷ dims) [] = λ i. affine-renamed names values r.begin i ∷ index-renamed names values dims [] i
index-renamed names values (Span r ∷ dims) (number ∷ at) = λ i. (affine-renamed names values r.begin i +ℤ (r.step *ℤ number)) ∷ index-renamed names values dims at i
