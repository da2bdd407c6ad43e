-- With sizes the ends of loops name lower variables alone, where they name no others beside the symbols.
use Rattle.std.proofs.Common.{◌≡◌, ℕ, ◌<◌, nat_lt, ℤ, List, [], ◌∷◌, map, length, Option, Some, None, option_map, slice_index_or, Bool, true, false, ◌&&◌, if◌then◌else◌, refl, subst}
use Rattle.std.proofs.lemmas.Bool.{lt-ltb}
use Rattle.std.specs.List.{AllByRecursion, filter}
use Rattle.sd_graph.specs.PlainTree as plain
use Rattle.sd_graph.specs.PlainTree.{ValueTree, ValueTrees, no_value, and_value, ActTree, set_local, assign, branch, ActTrees, no_act, and_act, GuardTree, ExitTree, KindTree, ItemTrees, no_item, and_item, StateTrees, no_state, and_state, GraphTree, graph}
use Rattle.sd_graph.specs.Wiring.{has_number}
use Rattle.sd_valid.specs.BoundCode.{names_symbol, bound_value, bound_acts}
use Rattle.sd_range.specs.Affine.{variable_value}
use Rattle.sd_valid.specs.BoundTree.{bound_exit, bound_guard}
use Rattle.sd_validity.specs.rules.Compared.{Comparison, place_of_variable, comparison_at, is_less, comparison, compared}
use Rattle.sd_validity.specs.rules.Ranks.{Naming, value_variables, end_naming, condition_naming, is_begun, end_namings}
use Rattle.sd_validity.specs.levels.Levels.{IsPlaced, IsEndPlaced, IsConditionPlaced}
use Rattle.sd_validity.proofs.levels_lemmas.Named.{joined, in_first, in_second, Before, After, SizeOrLower, Lower, no_size}

module _ (sizes : List ℤ) (level : ℕ → ℕ) where
  module _ (begun : List ℕ) (variables : List ℕ) where
    variable_lower : (test : Bool) (number place : ℕ) → names_symbol (length sizes) variables place ≡ test → place < length variables → SizeOrLower sizes level number (slice_index_or variables place 0) →
        AllByRecursion (Lower sizes level number) (value_variables variables (if test then plain.literal (variable_value sizes (slice_index_or variables place 0)) else plain.variable place))
    variable_lower true number place e there is = tt
    variable_lower false number place e there is =
        let within : nat_lt place (length variables) ≡ true = lt-ltb place (length variables) there in
        let other : nat_lt (slice_index_or variables place 0) (length sizes) ≡ false = subst (λ test. (test && nat_lt (slice_index_or variables place 0) (length sizes)) ≡ false) within e in
        (no_size sizes level number (slice_index_or variables place 0) other is, tt)

    value_lower : (number : ℕ) (value : ValueTree) → IsPlaced variables value → AllByRecursion (SizeOrLower sizes level number) (value_variables variables value) →
        AllByRecursion (Lower sizes level number) (value_variables variables (bound_value sizes variables value))
    value_lower number (plain.literal value) there all = tt
    value_lower number (plain.variable place) there all = variable_lower (names_symbol (length sizes) variables place) number place refl there all.0
    value_lower number (plain.local value) there all = tt
    value_lower number (plain.input connector at) there all = tt
    value_lower number (plain.one sign of) there all = value_lower number of there all
    value_lower number (plain.two sign left right) there all =
        joined (Lower sizes level number) (value_variables variables (bound_value sizes variables left)) (value_variables variables (bound_value sizes variables right))
        (value_lower number left there.0 (in_first (SizeOrLower sizes level number) (value_variables variables left) (value_variables variables right) all))
        (value_lower number right there.1 (in_second (SizeOrLower sizes level number) (value_variables variables left) (value_variables variables right) all))
    value_lower number (plain.choice value when other) there all = tt

    abbrev Ends : (Naming → Type 0) → Option Comparison → Type 0
    Ends P found = AllByRecursion P (filter (is_begun begun) (end_naming variables found))

    end_of : (test : Bool) (own : ℕ) (bound : ValueTree) → IsPlaced variables bound → AllByRecursion (Before sizes level) (if test then record { variable = own; named = value_variables variables bound } ∷ [] else []) →
        AllByRecursion (After sizes level) (if test then record { variable = own; named = value_variables variables (bound_value sizes variables bound) } ∷ [] else [])
    end_of true own bound there all = (value_lower own bound there all.0, tt)
    end_of false own bound there all = tt

    variable_end : (test : Bool) (size : ℤ) (place : ℕ) (bound : ValueTree) → IsPlaced variables bound → Ends (Before sizes level) (comparison_at (Some place) bound) →
        Ends (After sizes level) (comparison_at (place_of_variable (if test then plain.literal size else plain.variable place)) (bound_value sizes variables bound))
    variable_end true size place bound there all = tt
    variable_end false size place bound there all = end_of (has_number begun (slice_index_or variables place 0)) (slice_index_or variables place 0) bound there all

    left_end : (left right : ValueTree) → IsEndPlaced variables (comparison_at (place_of_variable left) right) → Ends (Before sizes level) (comparison_at (place_of_variable left) right) →
        Ends (After sizes level) (comparison_at (place_of_variable (bound_value sizes variables left)) (bound_value sizes variables right))
    left_end (plain.literal value) right there all = tt
    left_end (plain.variable place) right there all = variable_end (names_symbol (length sizes) variables place) (variable_value sizes (slice_index_or variables place 0)) place right there all
    left_end (plain.local value) right there all = tt
    left_end (plain.input connector at) right there all = tt
    left_end (plain.one sign of) right there all = tt
    left_end (plain.two sign left other) right there all = tt
    left_end (plain.choice value when other) right there all = tt

    two_end : (less : Bool) (left right : ValueTree) → IsEndPlaced variables (if less then comparison_at (place_of_variable left) right else None) →
        Ends (Before sizes level) (if less then comparison_at (place_of_variable left) right else None) →
        Ends (After sizes level) (if less then comparison_at (place_of_variable (bound_value sizes variables left)) (bound_value sizes variables right) else None)
    two_end true left right there all = left_end left right there all
    two_end false left right there all = tt

    bound_not_two : (test : Bool) (size : ℤ) (place : ℕ) → Ends (After sizes level) (comparison (if test then plain.literal size else plain.variable place))
    bound_not_two true size place = tt
    bound_not_two false size place = tt

    value_end : (value : ValueTree) → IsEndPlaced variables (comparison value) → Ends (Before sizes level) (comparison value) → Ends (After sizes level) (comparison (bound_value sizes variables value))
    value_end (plain.literal value) there all = tt
    value_end (plain.variable place) there all = bound_not_two (names_symbol (length sizes) variables place) (variable_value sizes (slice_index_or variables place 0)) place
    value_end (plain.local value) there all = tt
    value_end (plain.input connector at) there all = tt
    value_end (plain.one sign of) there all = tt
    value_end (plain.two sign left right) there all = two_end (is_less sign) left right there all
    value_end (plain.choice value when other) there all = tt

    acts_end : (acts : ActTrees) → IsEndPlaced variables (compared acts) → Ends (Before sizes level) (compared acts) → Ends (After sizes level) (compared (bound_acts sizes variables acts))
    acts_end no_act there all = tt
    acts_end (and_act (set_local number value) no_act) there all = tt
    acts_end (and_act (assign connector no_value value) no_act) there all = value_end value there all
    acts_end (and_act (assign connector (and_value first rest) value) no_act) there all = tt
    acts_end (and_act (branch when body other) no_act) there all = tt
    acts_end (and_act act (and_act second acts)) there all = tt

  condition_end : (begun : List ℕ) (when : Option GuardTree) → IsConditionPlaced when → AllByRecursion (Before sizes level) (filter (is_begun begun) (condition_naming when)) →
      AllByRecursion (After sizes level) (filter (is_begun begun) (condition_naming (option_map (bound_guard sizes) when)))
  condition_end begun None there all = tt
  condition_end begun (Some guard) there all = acts_end begun guard.code.variables guard.code.body there all

  pub ends_lower : (begun : List ℕ) (exits : List ExitTree) → AllByRecursion (λ exit. IsConditionPlaced exit.when) exits → AllByRecursion (Before sizes level) (end_namings begun exits) →
      AllByRecursion (After sizes level) (end_namings begun (map (bound_exit sizes) exits))
  ends_lower begun [] there all = tt
  ends_lower begun (exit ∷ exits) there all =
      let here : List Naming = filter (is_begun begun) (condition_naming exit.when) in
      joined (After sizes level) (filter (is_begun begun) (condition_naming (option_map (bound_guard sizes) exit.when))) (end_namings begun (map (bound_exit sizes) exits))
      (condition_end begun exit.when there.0 (in_first (Before sizes level) here (end_namings begun exits) all)) (ends_lower begun exits there.1 (in_second (Before sizes level) here (end_namings begun exits) all))
