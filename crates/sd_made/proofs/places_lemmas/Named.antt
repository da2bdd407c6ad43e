-- The variables that affine expressions name are those that their names stand for.
use Rattle.std.proofs.Common.{◌≡◌, ℕ, nat_eq, nat_lt, ℤ, pos, neg_ℤ, ◌+ℤ◌, ◌*ℤ◌, List, [], ◌∷◌, map, Option, Some, None, Bool, true, false, if◌then◌else◌, refl}
use Rattle.std.specs.List.{AllByRecursion}
use Rattle.std.specs.Ordering.{int_eq}
use Rattle.sd_lex.specs.PlainTree.{Expression, number, named, element_at, one, two, choice, Expressions, no_expression, and_expression, Dimension, index, span}
use Rattle.sd_lex.specs.declared.syntax.operator.OneSign.{OneSign}
use Rattle.sd_lex.specs.declared.syntax.operator.OneSign.TheVariants.{Neg}
use Rattle.sd_lex.specs.declared.syntax.operator.TwoSign.{TwoSign}
use Rattle.sd_lex.specs.declared.syntax.operator.TwoSign.TheVariants.{Add, Sub, Mul}
use Rattle.sd_range.specs.Arithmetic.{put_before, plus_term, combined, affine_zero, affine_difference, affine_product}
use Rattle.sd_range.specs.declared.affine.Affine.{Affine}
use Rattle.sd_range.specs.declared.range.Range.{Range}
use Rattle.sd_range.specs.declared.subset.Dim.{Dim}
use Rattle.sd_range.specs.declared.subset.Dim.TheVariants.{Index, Span}
use Rattle.sd_program.specs.Names.{Name, Named, in_force}
use Rattle.sd_program.specs.Affines.{affine_number, affine_name, product_of, affine_one, affine_two, affine_of, affines_of}
use Rattle.sd_task.specs.in_force.Ranges.{affine_or, range_between, range_of, extents_of}
use Rattle.sd_task.specs.in_force.Subsets.{whole, first_element, dim_of, dims_of, subset_of, are_units, first_or_whole, connector_subset}

-- where something holds of variables
module _ (P : ℕ → Type 0) where
  abbrev pub InTerms : List (ℕ × ℤ) → Type 0
  InTerms terms = AllByRecursion (λ term. P term.0) terms

  -- each variable of an expression
  abbrev pub InAffine : Affine → Type 0
  InAffine a = InTerms a.terms

  put_one : (zero : Bool) (variable : ℕ) (coefficient : ℤ) (terms : List (ℕ × ℤ)) → P variable → InTerms terms → InTerms (if zero then terms else (variable, coefficient) ∷ terms)
  put_one true variable coefficient terms is all = all
  put_one false variable coefficient terms is all = (is, all)

  plus_one : (below same : Bool) (first second third : List (ℕ × ℤ)) → InTerms first → InTerms second → InTerms third → InTerms (if below then first else if same then second else third)
  plus_one true same first second third in_first in_second in_third = in_first
  plus_one false true first second third in_first in_second in_third = in_second
  plus_one false false first second third in_first in_second in_third = in_third

  plus_named : (terms : List (ℕ × ℤ)) (variable : ℕ) (coefficient : ℤ) → P variable → InTerms terms → InTerms (plus_term terms variable coefficient)
  plus_named [] variable coefficient is all = put_one (int_eq coefficient (pos 0)) variable coefficient [] is tt
  plus_named (term ∷ terms) variable coefficient is all =
      plus_one (nat_lt variable term.0) (nat_eq variable term.0) (put_before variable coefficient (term ∷ terms)) (put_before variable (term.1 +ℤ coefficient) terms) (term ∷ plus_term terms variable coefficient)
      (put_one (int_eq coefficient (pos 0)) variable coefficient (term ∷ terms) is all) (put_one (int_eq (term.1 +ℤ coefficient) (pos 0)) variable (term.1 +ℤ coefficient) terms is all.1)
      (all.0, plus_named terms variable coefficient is all.1)

  combined_named : (terms : List (ℕ × ℤ)) (factor : ℤ) (others : List (ℕ × ℤ)) → InTerms terms → InTerms others → InTerms (combined terms factor others)
  combined_named terms factor [] all more = all
  combined_named terms factor (other ∷ others) all more =
      plus_named (combined terms factor others) other.0 (factor *ℤ other.1) more.0 (combined_named terms factor others all more.1)

  pub difference_named : (a b : Affine) → InAffine a → InAffine b → InAffine (affine_difference a b)
  difference_named a b first second = combined_named a.terms (neg_ℤ (pos 1)) b.terms first second

  product_named : (factor : ℤ) (a : Affine) → InAffine a → InAffine (affine_product factor a)
  product_named factor a is = combined_named [] factor a.terms tt is

  either_product : (terms : List (ℕ × ℤ)) (left right : Affine) → InAffine left → InAffine right → InAffine (product_of terms left right)
  either_product [] left right first second = product_named left.constant right second
  either_product (term ∷ terms) left right first second = product_named right.constant left first

  one_named : (sign : OneSign) (of : Affine) → InAffine of → InAffine (affine_one sign of)
  one_named Neg of is = product_named (neg_ℤ (pos 1)) of is
  one_named sign of is = tt

  two_named : (sign : TwoSign) (left right : Affine) → InAffine left → InAffine right → InAffine (affine_two sign left right)
  two_named Add left right first second = combined_named left.terms (pos 1) right.terms first second
  two_named Sub left right first second = combined_named left.terms (neg_ℤ (pos 1)) right.terms first second
  two_named Mul left right first second = either_product left.terms left right first second
  two_named sign left right first second = tt

  -- a range, and a dimension of a subset
  abbrev pub InRange : Range → Type 0
  InRange range = InAffine range.begin × AllByRecursion InAffine range.ends

  abbrev pub InDim : Dim → Type 0
  InDim (Index at) = InAffine at
  InDim (Span range) = InRange range

  -- where it holds of each variable in force
  module _ (variables : Named ℕ) (are : (name : Name) (variable : ℕ) → in_force variables name ≡ Some variable → P variable) where
    name_named : (found : Option ℕ) → ((variable : ℕ) → found ≡ Some variable → P variable) → InAffine (affine_name found)
    name_named None of = tt
    name_named (Some variable) of = (of variable refl, tt)

    pub affine_named : (expression : Expression) → InAffine (affine_of variables expression)
    affine_named (number value) = tt
    affine_named (named name) = name_named (in_force variables name) (are name)
    affine_named (element_at name at) = tt
    affine_named (one sign of) = one_named sign (affine_of variables of) (affine_named of)
    affine_named (two sign left right) = two_named sign (affine_of variables left) (affine_of variables right) (affine_named left) (affine_named right)
    affine_named (choice value when other) = tt

    pub affines_named : (expressions : Expressions) → AllByRecursion InAffine (affines_of variables expressions)
    affines_named no_expression = tt
    affines_named (and_expression first rest) = (affine_named first, affines_named rest)

    pub extents_named : (extents : Expressions) → AllByRecursion InAffine (extents_of variables extents)
    extents_named no_expression = (tt, tt)
    extents_named (and_expression first rest) = affines_named (and_expression first rest)

    pub or_named : (other : Affine) (expression : Option Expression) → InAffine other → InAffine (affine_or other variables expression)
    or_named other None is = is
    or_named other (Some expression) is = affine_named expression

    pub between_named : (begin end : Affine) (step : Option ℤ) → InAffine begin → InAffine end → InRange (range_between begin end step)
    between_named begin end step first second = (first, (difference_named end (affine_number (pos 1)) second tt, tt))

    pub range_named : (dimension : Dimension) → InRange (range_of variables dimension)
    range_named (index at) = (affine_named at, (affine_named at, tt))
    range_named (span begin end step) = between_named (affine_or affine_zero variables begin) (affine_or affine_zero variables end) step (or_named affine_zero begin tt) (or_named affine_zero end tt)

    dim_named : (dimension : Dimension) (extent : Affine) → InAffine extent → InDim (dim_of variables dimension extent)
    dim_named (index at) extent is = affine_named at
    dim_named (span begin end step) extent is = between_named (affine_or affine_zero variables begin) (affine_or extent variables end) step (or_named affine_zero begin tt) (or_named extent end is)

    dims_named : (dimensions : List Dimension) (extents : List Affine) → AllByRecursion InAffine extents → AllByRecursion InDim (dims_of variables dimensions extents)
    dims_named [] extents all = tt
    dims_named (dimension ∷ dimensions) [] all = tt
    dims_named (dimension ∷ dimensions) (extent ∷ extents) all = (dim_named dimension extent all.0, dims_named dimensions extents all.1)

    whole_named : (extents : List Affine) → AllByRecursion InAffine extents → AllByRecursion InDim (whole extents)
    whole_named [] all = tt
    whole_named (extent ∷ extents) all = (between_named affine_zero extent None tt all.0, whole_named extents all.1)

    first_named : (extents : List Affine) → AllByRecursion InDim (first_element extents)
    first_named [] = tt
    first_named (extent ∷ extents) = (tt, first_named extents)

    pub subset_named : (dimensions : List Dimension) (extents : List Affine) → AllByRecursion InAffine extents → AllByRecursion InDim (subset_of variables dimensions extents)
    subset_named [] extents all = whole_named extents all
    subset_named (dimension ∷ dimensions) extents all = dims_named (dimension ∷ dimensions) extents all

    either_whole : (units : Bool) (extents : List Affine) → AllByRecursion InAffine extents → AllByRecursion InDim (first_or_whole units extents)
    either_whole true extents all = first_named extents
    either_whole false extents all = whole_named extents all

    pub connector_named : (dimensions : List Dimension) (extents : List Affine) → AllByRecursion InAffine extents → AllByRecursion InDim (connector_subset variables dimensions extents)
    connector_named [] extents all = either_whole (are_units extents) extents all
    connector_named (dimension ∷ dimensions) extents all = dims_named (dimension ∷ dimensions) extents all

    pub indices_named : (at : Expressions) → AllByRecursion InDim (map Index (affines_of variables at))
    indices_named no_expression = tt
    indices_named (and_expression first rest) = (affine_named first, indices_named rest)
