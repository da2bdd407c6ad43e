-- Conditions and steps of loops, with sizes.
use Rattle.std.proofs.Common.{◌≡◌, ◌∙◌, inl, inr, ℕ, zero, suc, ◌≤◌, nat_lt, nat_eq, ℤ, pos, ◌+ℤ◌, ◌*ℤ◌, int_le, List, [], ◌∷◌, map, length, Option, Some, None, option_map, Bool, true, false, ◌&&◌, ◌||◌, if◌then◌else◌, slice_get, slice_index_or, refl, ap, sym, subst, arith}
use Rattle.std.proofs.lemmas.Int.{ints}
use Rattle.std.proofs.lemmas.Option.{get_or_from_slice_get}
use Rattle.sd_range.specs.Affine.{variable_value}
use Rattle.sd_range.specs.declared.affine.Affine.{Affine}
use Rattle.sd_graph.specs.PlainTree.{ValueTree, literal, variable, local, input, one, two, choice, GuardTree, ExitTree}
use Rattle.sd_graph.specs.declared.operator.OneSign.{OneSign}
use Rattle.sd_graph.specs.declared.operator.OneSign.TheVariants.{Neg}
use Rattle.sd_graph.specs.declared.operator.TwoSign.{TwoSign}
use Rattle.sd_graph.specs.declared.operator.TwoSign.TheVariants.{Add, Sub, Mul}
use Rattle.sd_valid.specs.BoundExpression.{bound_affine, bound_link}
use Rattle.sd_valid.specs.BoundCode.{names_symbol, bound_value, bound_acts}
use Rattle.sd_valid.specs.BoundTree.{bound_guard, bound_exit}
use Rattle.sd_made.specs.elab.AffineValue.{HasNumbersOnly, IsNegation, IsAffineJoin, IsAffineValue, IsBelow, IsConditionBelow}
use Rattle.sd_made.specs.elab.LoopShape.{IsStepOf, BeginsLoop}
use Rattle.sd_validity.specs.rules.Parts.{is_empty}
use Rattle.sd_validity.specs.rules.Compared.{compared}
use Rattle.sd_validity.specs.rules.Transitions.{has_numbers_only, is_negation, is_affine_join, is_affine_value, is_below, is_condition_below, is_unconditional, begins_loop, is_step_of}

module _ (sizes : List ℤ) (variables : List ℕ) where
  numbers_only : (value : ValueTree) → HasNumbersOnly value → has_numbers_only (bound_value sizes variables value) ≡ true
  numbers_only (literal number) only = refl
  numbers_only (variable place) only = absurd only
  numbers_only (local number) only = absurd only
  numbers_only (input connector at) only = absurd only
  numbers_only (one sign of) only = numbers_only of only
  numbers_only (two sign left right) only = rw (numbers_only left only.0) (numbers_only right only.1)
  numbers_only (choice value when other) only = absurd only

  either_affine : (named : Bool) (number : ℤ) (place : ℕ) → is_affine_value (if named then literal number else variable place) ≡ true
  either_affine true number place = refl
  either_affine false number place = refl

  negated : (sign : OneSign) → IsNegation sign → is_negation sign ≡ true
  negated Neg is = refl
  negated sign is = absurd is

  second_true : (first second : Bool) → second ≡ true → (first || second) ≡ true
  second_true true second e = refl
  second_true false second e = e

  joined : (sign : TwoSign) (left right : ValueTree) → IsAffineJoin sign left right → is_affine_join sign (bound_value sizes variables left) (bound_value sizes variables right) ≡ true
  joined Add left right is = refl
  joined Sub left right is = refl
  joined Mul left right (inl is) = rw (numbers_only left is) refl
  joined Mul left right (inr is) = second_true (has_numbers_only (bound_value sizes variables left)) (has_numbers_only (bound_value sizes variables right)) (numbers_only right is)
  joined sign left right is = absurd is

  affine_bound : (value : ValueTree) → IsAffineValue value → is_affine_value (bound_value sizes variables value) ≡ true
  affine_bound (literal number) affine = refl
  affine_bound (variable place) affine = either_affine (names_symbol (length sizes) variables place) (variable_value sizes (slice_index_or variables place 0)) place
  affine_bound (local number) affine = absurd affine
  affine_bound (input connector at) affine = absurd affine
  affine_bound (one sign of) affine = rw (negated sign affine.0) (affine_bound of affine.1)
  affine_bound (two sign left right) affine = rw (joined sign left right affine.0, affine_bound left affine.1.0) (affine_bound right affine.1.1)
  affine_bound (choice value when other) affine = absurd affine

  -- a variable that is no size symbol stays
  not_symbol : (place number : ℕ) → slice_get variables place ≡ Some number → length sizes ≤ number → names_symbol (length sizes) variables place ≡ false
  not_symbol place number at high =
      let found : slice_index_or variables place 0 ≡ number = found_there variables place number at in
      let above : nat_lt number (length sizes) ≡ false = grind (arith, high) in
      both_false (nat_lt place (length variables)) (nat_lt (slice_index_or variables place 0) (length sizes)) (ap (λ number. nat_lt number (length sizes)) found ∙ above)
    where
      both_false : (first second : Bool) → second ≡ false → (first && second) ≡ false
      both_false true second e = e
      both_false false second e = refl

      found_there : (members : List ℕ) (place number : ℕ) → slice_get members place ≡ Some number → slice_index_or members place 0 ≡ number
      found_there members place number e = get_or_from_slice_get members place number 0 e

same_number : (number : ℕ) → nat_eq number number ≡ true
same_number number = grind arith

-- the condition that a variable, which is no size symbol, is below an affine expression
below_bound : (sizes : List ℤ) (number : ℕ) (guard : GuardTree) → length sizes ≤ number → IsBelow number guard → is_condition_below number (Some (bound_guard sizes guard)) ≡ true
below_bound sizes number guard high is =
    let stays : names_symbol (length sizes) guard.code.variables is.place ≡ false = not_symbol sizes guard.code.variables is.place number is.variable high in
    subst (λ reads. (is_empty (map (bound_link sizes) reads) && is_below guard.code.variables number (compared (bound_acts sizes guard.code.variables guard.code.body))) ≡ true) (sym is.reads)
    (subst (λ body. is_below guard.code.variables number (compared (bound_acts sizes guard.code.variables body)) ≡ true) (sym is.code)
    (rw stays (rw is.variable (rw (same_number number) (affine_bound sizes guard.code.variables is.bound is.affine)))))

condition_bound : (sizes : List ℤ) (number : ℕ) (when : Option GuardTree) → length sizes ≤ number → IsConditionBelow number when → is_condition_below number (option_map (bound_guard sizes) when) ≡ true
condition_bound sizes number None high is = absurd is
condition_bound sizes number (Some guard) high is = below_bound sizes number guard high is

pub begins_bound : (sizes : List ℤ) (number : ℕ) (exits : List ExitTree) → length sizes ≤ number → BeginsLoop number exits → begins_loop number (map (bound_exit sizes) exits) ≡ true
begins_bound sizes number [] high is = absurd is
begins_bound sizes number (first ∷ []) high is = absurd is
begins_bound sizes number (first ∷ second ∷ []) high is =
    rw (condition_bound sizes number first.when high is.0) (ap (λ when. is_unconditional (option_map (bound_guard sizes) when)) is.1)
begins_bound sizes number (first ∷ second ∷ third ∷ exits) high is = absurd is

-- ---- steps

-- what is no size symbol has no size
no_size : (sizes : List ℤ) (number : ℕ) → length sizes ≤ number → variable_value sizes number ≡ pos 0
no_size [] number high = refl
no_size (size ∷ sizes) zero high = absurd (omega (arith, high))
no_size (size ∷ sizes) (suc number) high = no_size sizes number (omega (arith, high))

pub step_bound : (sizes : List ℤ) (number : ℕ) (value : Affine) → length sizes ≤ number → IsStepOf number value → is_step_of number (bound_affine sizes value) ≡ true
step_bound sizes number value high (step, e, least) =
    let above : nat_lt number (length sizes) ≡ false = grind (arith, high) in
    let none : variable_value sizes number ≡ pos 0 = no_size sizes number high in
    let constant : pos step +ℤ ((pos 1 *ℤ variable_value sizes number) +ℤ pos 0) ≡ pos step = rw none (omega (arith, ints)) in
    let enough : int_le (pos 1) (pos step) ≡ true = grind (arith, ints, least) in
    subst (λ value. is_step_of number (bound_affine sizes value) ≡ true) (sym e)
    (rw above (rw (same_number number) (rw constant enough)))
