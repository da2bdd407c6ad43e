-- The values of a tasklet's expressions by code are those by the lines.
use Rattle.std.proofs.Common.{◌≡◌, ◌∙◌, ℕ, ◌<◌, ℤ, pos, List, [], ◌∷◌, length, map, Option, Some, None, option_map, unwrap_or, Ok, Err, if◌then◌else◌, nat_eq, position, slice_index_or, refl, ap, sym}
use Rattle.std.specs.Int.{int_wrap}
use Rattle.std.proofs.lemmas.List.{get_or-map}
use Rattle.sd_lex.specs.PlainTree.{Expression, number, named, element_at, one, two, choice, Expressions, no_expression, and_expression}
use Rattle.sd_num.specs.Wrapped.{wrapped}
use Rattle.sd_range.specs.Affine.{variable_value}
use Rattle.sd_graph.specs.TaskletMeaning as graph
use Rattle.sd_graph.specs.TaskletMeaning.{Inputs, Meaning, holds, and_then, checked, extents_of_connector, element_of}
use Rattle.sd_program.specs.Names.{Name, Named, in_force}
use Rattle.sd_task.specs.in_force.Names.{number_or}
use Rattle.sd_task.specs.task.Operators.{one_sign, two_sign}
use Rattle.sd_task.specs.task.UsedVariables as task
use Rattle.sd_task.specs.task.UsedVariables.{with_variable}
use Rattle.sd_task.specs.tasklets.Code as code
use Rattle.sd_task.specs.tasklet_names.UsedNames.{named_variable, used_value, used_values}
use Rattle.sd_says.specs.Setting.{with_each}
use Rattle.sd_says.specs.Operators.{one_value, two_sides}
use Rattle.sd_says.specs.Connectors.{Input, Outlet, value_at}
use Rattle.sd_says.specs.Tasklets.{named_value, value_from, task_value, task_values}
use Rattle.sd_tie.proofs.elements_lemmas.Lookups.{in_force_made}
use Rattle.sd_made.proofs.names_lemmas.UsedPlaces.{Has, IsUsed, place_found, kept_one, has_one, used_more}
use Rattle.sd_tie.proofs.elements_lemmas.Values.{then_same}
use Rattle.sd_tie.proofs.elements_lemmas.Signs.{one_same, sides_same}
use Rattle.sd_tie.specs.tasklets.Connected.{IsAmong, SubscriptsInputs, SubscriptInputs}

zero_wrapped : pos 0 ≡ wrapped (pos 0)
unfolding int_wrap
zero_wrapped = refl

then_then : {A B C : Type 0} (first : Meaning A) (next : A → Meaning B) (last : B → Meaning C) → and_then (and_then first next) last ≡ and_then first (λ value. and_then (next value) last)
then_then (Ok value) next last = refl
then_then (Err kind) next last = refl

-- ---- variables that are used stay among those used

kept_named : (connector local known : Option ℕ) (used : List ℕ) (other : ℕ) → Has used other → Has (named_variable connector local known used) other
kept_named (Some connector) local known used other h = h
kept_named None (Some local) known used other h = h
kept_named None None known used other h = kept_one used known other h

module _ (variables ins outs : Named ℕ) where
  mutual
    pub kept_value : (locals : Named ℕ) (expression : Expression) (used : List ℕ) (other : ℕ) → Has used other → Has (used_value variables ins outs locals expression used) other
    kept_value locals (number value) used other h = h
    kept_value locals (named name) used other h = kept_named (in_force ins name) (in_force locals name) (in_force variables name) used other h
    kept_value locals (element_at name at) used other h = kept_values locals at used other h
    kept_value locals (one sign of) used other h = kept_value locals of used other h
    kept_value locals (two sign left right) used other h = kept_value locals right (used_value variables ins outs locals left used) other (kept_value locals left used other h)
    kept_value locals (choice value when last) used other h =
        kept_value locals last (used_value variables ins outs locals when (used_value variables ins outs locals value used)) other
        (kept_value locals when (used_value variables ins outs locals value used) other (kept_value locals value used other h))

    pub kept_values : (locals : Named ℕ) (expressions : Expressions) (used : List ℕ) (other : ℕ) → Has used other → Has (used_values variables ins outs locals expressions used) other
    kept_values locals no_expression used other h = h
    kept_values locals (and_expression first rest) used other h = kept_values locals rest (used_value variables ins outs locals first used) other (kept_value locals first used other h)

-- code is given these inputs, and its variables have their values, as elements; each name of an input has a number
module _ (inputs : Inputs) (values : List ℤ) (variables ins outs : Named ℕ) (all : List ℕ) (in_names : List Name)
    (are : inputs.variables ≡ map (λ variable. wrapped (variable_value values variable)) all)
    (numbered : (name : Name) → IsAmong in_names name → (number : ℕ) × (in_force ins name ≡ Some number)) where
  abbrev pub input_of : ℕ → Input
  input_of k = record { extents = slice_index_or inputs.extents k []; values = slice_index_or inputs.values k [] }

  abbrev pub local_of : List ℤ → ℕ → ℤ
  local_of held k = slice_index_or held k (pos 0)

  -- all variables of these are among those that the code uses
  abbrev pub Within : List ℕ → Type 0
  Within used = (other : ℕ) → Has used other → Has all other

  variable_tied : (held : List ℤ) (found : Option ℕ) → IsUsed all found → graph.value_of inputs held (task.variable_value all found) ≡ Ok (wrapped (unwrap_or (option_map (variable_value values) found) (pos 0)))
  variable_tied held None h = ap Ok zero_wrapped
  variable_tied held (Some variable) h =
      let place : ℕ = unwrap_or (position (nat_eq variable) all) 0 in
      let found : (place < length all) × (slice_index_or all place 0 ≡ variable) = place_found variable all h in
      ap Ok (ap (λ given. slice_index_or given place (pos 0)) are
      ∙ get_or-map (λ variable. wrapped (variable_value values variable)) all place 0 (pos 0) found.0
      ∙ ap (λ variable. wrapped (variable_value values variable)) found.1)

  name_tied : (held : List ℤ) (connector local known : Option ℕ) (start : List ℕ) → Within (named_variable connector local known start) →
      graph.value_of inputs held (code.named_value connector local (task.variable_value all known))
      ≡ named_value (option_map input_of connector) (option_map (local_of held) local) (unwrap_or (option_map (variable_value values) known) (pos 0))
  name_tied held (Some connector) local known start within = refl
  name_tied held None (Some local) known start within = refl
  name_tied held None None known start within = variable_tied held known (used_more (with_variable start known) all within known (has_one start known))

  module _ (outlets : Named Outlet) (held : List ℤ) (locals : Named ℕ) where
    abbrev said_inputs : Named Input
    said_inputs = with_each input_of ins

    abbrev said_variables : Named ℤ
    said_variables = with_each (variable_value values) variables

    abbrev said_locals : Named ℤ
    said_locals = with_each (local_of held) locals

    mutual
      pub expression_tied : (expression : Expression) (start : List ℕ) → Within (used_value variables ins outs locals expression start) → SubscriptsInputs in_names expression →
          graph.value_of inputs held (code.task_value variables ins outs all locals expression) ≡ task_value said_variables said_inputs outlets said_locals expression
      expression_tied (number value) start within c = refl
      expression_tied (named name) start within c =
          name_tied held (in_force ins name) (in_force locals name) (in_force variables name) start within
          ∙ (λ i. named_value (sym (in_force_made input_of ins name) i) (sym (in_force_made (local_of held) locals name) i) (unwrap_or (sym (in_force_made (variable_value values) variables name) i) (pos 0)))
      expression_tied (element_at name at) start within c =
          let found : (number : ℕ) × (in_force ins name ≡ Some number) = numbered name c.0 in
          let connector : ℕ = number_or 0 ins name in
          let is : in_force (with_each input_of ins) name ≡ Some (input_of connector) =
          in_force_made input_of ins name ∙ ap (option_map input_of) found.1 ∙ ap (λ k. Some (input_of (unwrap_or k 0))) (sym found.1) in
          then_then (graph.values_of inputs held (code.task_values variables ins outs all locals at)) (checked (extents_of_connector inputs connector)) (λ at. Ok (element_of inputs connector at))
          ∙ ap (λ place. and_then place (value_at (input_of connector))) (expressions_tied at start within c.1)
          ∙ ap (λ from. value_from from (task_values said_variables said_inputs outlets said_locals at)) (sym is)
      expression_tied (one sign of) start within c =
          then_same _ _ (λ value. Ok (graph.one_value (one_sign sign) value)) (λ value. Ok (one_value sign value)) (expression_tied of start within c) (λ value. ap Ok (one_same sign value))
      expression_tied (two sign left right) start within c =
          let first : List ℕ = used_value variables ins outs locals left start in
          let second : graph.value_of inputs held (code.task_value variables ins outs all locals right) ≡ task_value said_variables said_inputs outlets said_locals right = expression_tied right first within c.1 in
          then_same _ _ (λ value. graph.two_sides (two_sign sign) value (graph.value_of inputs held (code.task_value variables ins outs all locals right)))
          (λ value. two_sides sign value (task_value said_variables said_inputs outlets said_locals right))
          (expression_tied left start (λ other h. within other (kept_value variables ins outs locals right first other h)) c.0)
          (λ value. sides_same sign value (graph.value_of inputs held (code.task_value variables ins outs all locals right)) ∙ ap (two_sides sign value) second)
      expression_tied (choice value when last) start within c =
          let first : List ℕ = used_value variables ins outs locals value start in
          let next : List ℕ = used_value variables ins outs locals when first in
          let one_case = expression_tied value start (λ other h. within other (kept_value variables ins outs locals last next other (kept_value variables ins outs locals when first other h))) c.0 in
          let other_case = expression_tied last next within c.1.1 in
          then_same _ _
          (λ condition. if holds condition then graph.value_of inputs held (code.task_value variables ins outs all locals value) else graph.value_of inputs held (code.task_value variables ins outs all locals last))
          (λ condition. if holds condition then task_value said_variables said_inputs outlets said_locals value else task_value said_variables said_inputs outlets said_locals last)
          (expression_tied when first (λ other h. within other (kept_value variables ins outs locals last next other h)) c.1.0)
          (λ condition. (λ i. if holds condition then one_case i else other_case i))

      pub expressions_tied : (expressions : Expressions) (start : List ℕ) → Within (used_values variables ins outs locals expressions start) → SubscriptInputs in_names expressions →
          graph.values_of inputs held (code.task_values variables ins outs all locals expressions) ≡ task_values said_variables said_inputs outlets said_locals expressions
      expressions_tied no_expression start within c = refl
      expressions_tied (and_expression first rest) start within c =
          let used : List ℕ = used_value variables ins outs locals first start in
          then_same _ _
          (λ value. and_then (graph.values_of inputs held (code.task_values variables ins outs all locals rest)) (λ values. Ok (value ∷ values)))
          (λ value. and_then (task_values said_variables said_inputs outlets said_locals rest) (λ values. Ok (value ∷ values)))
          (expression_tied first start (λ other h. within other (kept_values variables ins outs locals rest used other h)) c.0)
          (λ value. ap (λ made. and_then made (λ values. Ok (value ∷ values))) (expressions_tied rest used within c.1))
