-- Rule 3: transitions lead to states that are there, and set the variables of `for` loops alone.
use Rattle.std.specs.Prelude.{ℕ, nat_eq, nat_lt, ℤ, pos, int_le, List, [], ◌∷◌, ◌++◌, map, Bool, true, false, not, ◌&&◌, ◌||◌, if◌then◌else◌, Option, Some, None, slice_get}
use Rattle.std.specs.List.{list_all, flat_map}
use Rattle.std.specs.Ordering.{int_eq}
use Rattle.sd_range.specs.declared.affine.Affine.{Affine}
use Rattle.sd_graph.specs.PlainTree.{ValueTree, literal, variable, local, input, one, two, choice, GuardTree, ExitTree, StateTrees}
use Rattle.sd_graph.specs.TreeParts.{states_of_graph, count_states, exits_at}
use Rattle.sd_graph.specs.LoopScope.{leads_to}
use Rattle.sd_graph.specs.declared.operator.OneSign.{OneSign}
use Rattle.sd_graph.specs.declared.operator.OneSign.TheVariants.{Neg}
use Rattle.sd_graph.specs.declared.operator.TwoSign.{TwoSign}
use Rattle.sd_graph.specs.declared.operator.TwoSign.TheVariants.{Add, Sub, Mul}
use Rattle.sd_validity.specs.rules.Places.{Thing, whole, leaving, doing, Place}
use Rattle.sd_validity.specs.rules.Parts.{is_empty}
use Rattle.sd_validity.specs.rules.NamesInForce.{of_graph}
use Rattle.sd_validity.specs.rules.Compared.{Comparison, compared}

-- ---- where transitions lead

-- to a state that is there: a higher one, but a marked transition not to a higher one
abbrev pub leads_right : (count state : ℕ) → ExitTree → Bool
leads_right count state exit = nat_lt exit.to count && (if exit.back then not (nat_lt state exit.to) else nat_lt state exit.to)

-- ---- affine code

-- only numbers stand in the value
abbrev pub has_numbers_only : ValueTree → Bool
has_numbers_only (literal number) = true
has_numbers_only (variable place) = false
has_numbers_only (local number) = false
has_numbers_only (input connector at) = false
has_numbers_only (one sign of) = has_numbers_only of
has_numbers_only (two sign left right) = has_numbers_only left && has_numbers_only right
has_numbers_only (choice value when other) = false

abbrev pub is_negation : OneSign → Bool
is_negation Neg = true
is_negation sign = false

-- sums, differences, and products one side of which has no variable
abbrev pub is_affine_join : TwoSign → (left right : ValueTree) → Bool
is_affine_join Add left right = true
is_affine_join Sub left right = true
is_affine_join Mul left right = has_numbers_only left || has_numbers_only right
is_affine_join sign left right = false

abbrev pub is_affine_value : ValueTree → Bool
is_affine_value (literal number) = true
is_affine_value (variable place) = true
is_affine_value (local number) = false
is_affine_value (input connector at) = false
is_affine_value (one sign of) = is_negation sign && is_affine_value of
is_affine_value (two sign left right) = is_affine_join sign left right && (is_affine_value left && is_affine_value right)
is_affine_value (choice value when other) = false

-- ---- loops

-- the number at a place of a list is this one
abbrev pub is_number : Option ℕ → (number : ℕ) → Bool
is_number None number = false
is_number (Some other) number = nat_eq other number

-- what is compared is whether a variable is below an affine expression
abbrev pub is_below : (variables : List ℕ) → (number : ℕ) → Option Comparison → Bool
is_below variables number None = false
is_below variables number (Some comparison) = is_number (slice_get variables comparison.place) number && is_affine_value comparison.bound

-- a condition that reads nothing, and says that the variable is below an affine expression
abbrev pub is_condition_below : (number : ℕ) → Option GuardTree → Bool
is_condition_below number None = false
is_condition_below number (Some guard) = is_empty guard.reads && is_below guard.code.variables number (compared guard.code.body)

abbrev pub is_unconditional : Option GuardTree → Bool
is_unconditional None = true
is_unconditional (Some guard) = false

-- the transitions of a loop's begin: the first where the variable is below an end, and the second, out of the loop, without a condition
abbrev pub begins_loop : (number : ℕ) → List ExitTree → Bool
begins_loop number (first ∷ second ∷ []) = is_condition_below number first.when && is_unconditional second.when
begins_loop number exits = false

-- the terms are a variable alone
abbrev pub is_alone : (number : ℕ) → List (ℕ × ℤ) → Bool
is_alone number [] = false
is_alone number (term ∷ terms) = (nat_eq term.0 number && int_eq term.1 (pos 1)) && is_empty terms

-- the variable plus a step of at least 1
abbrev pub is_step_of : (number : ℕ) → Affine → Bool
is_step_of number value = is_alone number value.terms && int_le (pos 1) value.constant

-- a state is the begin, or no path leads from it to the end that does not come to the begin
abbrev pub is_kept_out : StateTrees → (begin from end : ℕ) → Bool
is_kept_out states begin from end = nat_eq from begin || not (leads_to states begin from end)

-- Each path from state 0 to the end of a loop comes to the loop's begin, and leaves it for the last time by the first of its two transitions:
-- neither from state 0 nor from where the second one leads is there a path to the end that does not come to the begin.
abbrev pub is_entered_at_begin : StateTrees → (begin end : ℕ) → List ExitTree → Bool
is_entered_at_begin states begin end (first ∷ second ∷ []) = is_kept_out states begin 0 end && is_kept_out states begin second.to end
is_entered_at_begin states begin end exits = false

-- A transition that sets a variable leads to the begin of the variable's loop; a marked one closes the loop, and adds a step.
abbrev pub sets_loop_variable : StateTrees → (state : ℕ) → ExitTree → ℕ × Affine → Bool
sets_loop_variable states state exit assignment =
    begins_loop assignment.0 (exits_at states exit.to)
    && (not exit.back || (is_step_of assignment.0 assignment.1 && is_entered_at_begin states exit.to state (exits_at states exit.to)))

-- ---- one begin

-- the variables that a transition sets, each with the state to which it leads
abbrev pub begins_of : ExitTree → List (ℕ × ℕ)
begins_of exit = map (λ assignment. (assignment.0, exit.to)) exit.set

-- those of the transitions at a place
abbrev pub begins_at : Thing → List (ℕ × ℕ)
begins_at whole = []
begins_at (leaving items exits) = flat_map begins_of exits
begins_at (doing kind) = []

-- of one variable, and with another state
abbrev pub are_begins_agreed : ℕ × ℕ → ℕ × ℕ → Bool
are_begins_agreed begin other = not (nat_eq begin.0 other.0) || nat_eq begin.1 other.1

-- each agrees with those before it
abbrev pub agree : (known : List (ℕ × ℕ)) → List (ℕ × ℕ) → Bool
agree known [] = true
agree known (begin ∷ begins) = list_all (are_begins_agreed begin) known && agree (known ++ begin ∷ []) begins

-- those of the same graph before a place
abbrev pub begins_before : (before : List Place) → Place → List (ℕ × ℕ)
begins_before before place = flat_map (λ other. begins_at other.thing) (of_graph before place)

-- ---- the rule

abbrev pub is_exit_right : StateTrees → (state : ℕ) → ExitTree → Bool
is_exit_right states state exit = leads_right (count_states states) state exit && list_all (sets_loop_variable states state exit) exit.set

abbrev pub are_transitions_right : StateTrees → (state : ℕ) → Thing → Bool
are_transitions_right states state whole = true
are_transitions_right states state (leaving items exits) = list_all (is_exit_right states state) exits
are_transitions_right states state (doing kind) = true

abbrev pub rule_3 : (before : List Place) → Place → Bool
rule_3 before place =
    are_transitions_right (states_of_graph place.graph) place.state place.thing
    && agree (begins_before before place) (begins_at place.thing)
