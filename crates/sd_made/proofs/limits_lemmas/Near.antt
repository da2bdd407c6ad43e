-- An expression within the limits, or one less than it, is small with sizes in the place of the size symbols.
use Rattle.std.proofs.Common.{◌≡◌, ℕ, zero, suc, ◌+◌, ◌*◌, ◌<◌, ◌≤◌, ◌^◌, nat_lt, nat_le, ℤ, pos, negsuc, List, [], ◌∷◌, map, length, Option, Some, None, Result, Ok, Bool, true, false, not, cond, ◌&&◌, if◌then◌else◌, unsigned_abs, refl, arith}
use Rattle.std.proofs.lemmas.Int.{ints}
use Rattle.sd_range.specs.Affine.{variable_value, terms_value, affine_value}
use Rattle.sd_range.specs.Arithmetic.{affine_difference}
use Rattle.sd_range.specs.Weight.{weight_of}
use Rattle.sd_range.specs.declared.affine.Affine.{Affine}
use Rattle.sd_range.proofs.Weights.{abs_sum, value_below}
use Rattle.sd_program.specs.Affines.{affine_number}
use Rattle.sd_program.specs.Small.{IsWithinLimits}
use Rattle.sd_graph.specs.PlainTree.{GraphTree}
use Rattle.sd_valid.specs.declared.error.BindError.{BindError}
use Rattle.sd_valid.specs.declared.error.BindError.TheVariants.{MissingSize, BadSize}
use Rattle.sd_valid.specs.BoundExpression.{terms_left, bound_affine}
use Rattle.sd_valid.specs.SizeValues.{NamedSizes, value_of_size, is_size, first_name, has_no_size, has_bad_size, symbols_of, sizes_in}
use Rattle.sd_valid.specs.Limits.{all_containers, tally}
use Rattle.sd_valid.specs.Binding.{binding, unless_refused, within_limits, with_sizes}
use Rattle.sd_validity.specs.rules.WithinLimits.{is_small}

-- ---- sizes

-- the value of each size symbol is at most 2^24
abbrev pub AreSizes : List ℤ → Type 0
AreSizes sizes = (variable : ℕ) → unsigned_abs (variable_value sizes variable) ≤ 2 ^ 24

size_is_small : (value : ℤ) → is_size value ≡ true → unsigned_abs value ≤ 2 ^ 24
size_is_small (pos n) is = grind (arith, ints)
size_is_small (negsuc n) is = cc

by_test : (named : NamedSizes) (name : List ℕ) (names : List (List ℕ)) (size : Bool) → is_size (value_of_size named name) ≡ size →
    (if not size then Some name else first_name (has_bad_size named) names) ≡ None → (is_size (value_of_size named name) ≡ true) × (first_name (has_bad_size named) names ≡ None)
by_test named name names true is none = (is, none)
by_test named name names false is none = cc

none_bad : (named : NamedSizes) (names : List (List ℕ)) → first_name (has_bad_size named) names ≡ None → AreSizes (map (value_of_size named) names)
none_bad named [] none zero = omega arith
none_bad named [] none (suc symbol) = omega arith
none_bad named (name ∷ names) none zero = size_is_small (value_of_size named name) (by_test named name names (is_size (value_of_size named name)) refl none).0
none_bad named (name ∷ names) none (suc symbol) = none_bad named names (by_test named name names (is_size (value_of_size named name)) refl none).1 symbol

not_refused : (error : List ℕ → BindError) (refused : Option (List ℕ)) (next : Result GraphTree BindError) (bound : GraphTree) → unless_refused error refused next ≡ Ok bound → (refused ≡ None) × (next ≡ Ok bound)
not_refused error None next bound is = (refl, is)
not_refused error (Some name) next bound is = cc

-- sizes that are not refused
pub are_sizes : (tree bound : GraphTree) (named : NamedSizes) → binding tree named ≡ Ok bound → AreSizes (sizes_in named tree)
are_sizes tree bound named is =
    let sized = with_sizes tree named in
    let limited = within_limits (tally 0 (all_containers sized)) sized in
    let bad = first_name (has_bad_size named) (symbols_of tree) in
    let first = not_refused MissingSize (first_name (has_no_size named) (symbols_of tree)) (unless_refused BadSize bad limited) bound is in
    none_bad named (symbols_of tree) (not_refused BadSize bad limited bound first.1).0

-- ---- expressions

-- an expression whose constant may be one more than the limits of a source allow
pub record IsNear (a : Affine) : Type 0 where
  pub constant : unsigned_abs a.constant ≤ 2 ^ 40
  pub coefficients : weight_of a.terms ≤ 2 ^ 10

pub near_within : (a : Affine) → IsWithinLimits a → IsNear a
near_within a within = record { constant = omega (arith, within.constant); coefficients = within.coefficients }

pub one_less_near : (a : Affine) → IsWithinLimits a → IsNear (affine_difference a (affine_number (pos 1)))
one_less_near a within = record { constant = omega (arith, within.constant, abs_sum a.constant (negsuc 0)); coefficients = within.coefficients }

left_light : (symbol : Bool) (term : ℕ × ℤ) (rest terms : List (ℕ × ℤ)) → weight_of rest ≤ weight_of terms → weight_of (cond (not symbol) (term ∷ rest) rest) ≤ unsigned_abs term.1 + weight_of terms
left_light true term rest terms light = omega (arith, light)
left_light false term rest terms light = omega (arith, light)

-- the terms that are left weigh no more
weight_left : (symbols : ℕ) (terms : List (ℕ × ℤ)) → weight_of (terms_left symbols terms) ≤ weight_of terms
weight_left symbols [] = omega arith
weight_left symbols (term ∷ terms) = left_light (nat_lt term.0 symbols) term (terms_left symbols terms) terms (weight_left symbols terms)

small_numbers : (constant weight : ℕ) → constant < 2 ^ 41 → weight ≤ 2 ^ 10 → (nat_lt constant (2 ^ 41) && nat_le weight (2 ^ 10)) ≡ true
small_numbers constant weight low light =
    let first : nat_lt constant (2 ^ 41) ≡ true = grind (arith, low) in
    let second : nat_le weight (2 ^ 10) ≡ true = grind (arith, light) in
    rw (first, second) refl

pub near_bound : (sizes : List ℤ) → AreSizes sizes → (a : Affine) → IsNear a → is_small (bound_affine sizes a) ≡ true
near_bound sizes are a near =
    let value : unsigned_abs (terms_value sizes a.terms) ≤ weight_of a.terms * 2 ^ 24 = value_below a.terms sizes (2 ^ 24) are in
    let below : unsigned_abs (affine_value sizes a) < 2 ^ 41 = omega (arith, abs_sum a.constant (terms_value sizes a.terms), value, near.constant, near.coefficients) in
    small_numbers (unsigned_abs (affine_value sizes a)) (weight_of (terms_left (length sizes) a.terms)) below (omega (arith, weight_left (length sizes) a.terms, near.coefficients))
