-- The variables that code uses are those that its names stand for.
use Rattle.std.proofs.Common.{◌≡◌, ℕ, List, [], ◌∷◌, ◌++◌, nat_eq, Option, Some, None, Bool, true, false, if◌then◌else◌, refl}
use Rattle.std.specs.List.{AllByRecursion, list_any}
use Rattle.sd_lex.specs.PlainTree.{Expression, number, named, element_at, one, two, choice, Expressions, no_expression, and_expression, StatementTree, set, set_at, tasklet_branch, Block, no_statement, and_statement}
use Rattle.sd_program.specs.Names.{Name, Named, in_force}
use Rattle.sd_task.specs.task.UsedVariables.{with_variable}
use Rattle.sd_task.specs.task.ElementCode.{used_with}
use Rattle.sd_task.specs.tasklet_names.UsedNames.{named_variable, locals_behind, next_behind, next_behind_all, used_value, used_values, used_acts, used_acts_all}
use Rattle.sd_validity.proofs.bound_places_lemmas.EachPlace.{all_joined}

-- where something holds of each variable in force
module _ (P : ℕ → Type 0) (variables : Named ℕ) (are : (name : Name) (variable : ℕ) → in_force variables name ≡ Some variable → P variable) where
  abbrev InUsed : List ℕ → Type 0
  InUsed used = AllByRecursion P used

  either_used : (there : Bool) (used : List ℕ) (variable : ℕ) → InUsed used → P variable → InUsed (if there then used else used ++ variable ∷ [])
  either_used true used variable all is = all
  either_used false used variable all is = all_joined P used (variable ∷ []) all (is, tt)

  variable_used : (used : List ℕ) (found : Option ℕ) → ((variable : ℕ) → found ≡ Some variable → P variable) → InUsed used → InUsed (with_variable used found)
  variable_used used None of all = all
  variable_used used (Some variable) of all = either_used (list_any (nat_eq variable) used) used variable all (of variable refl)

  pub expression_used : (used : List ℕ) (expression : Expression) → InUsed used → InUsed (used_with variables used expression)
  expression_used used (number value) all = all
  expression_used used (named name) all = variable_used used (in_force variables name) (are name) all
  expression_used used (element_at name at) all = all
  expression_used used (one sign of) all = expression_used used of all
  expression_used used (two sign left right) all = expression_used (used_with variables used left) right (expression_used used left all)
  expression_used used (choice value when other) all =
      expression_used (used_with variables (used_with variables used value) when) other (expression_used (used_with variables used value) when (expression_used used value all))

  -- ---- tasklets

  module _ (ins outs : Named ℕ) where
    name_used : (connector own : Option ℕ) (name : Name) (used : List ℕ) → InUsed used → InUsed (named_variable connector own (in_force variables name) used)
    name_used (Some connector) own name used all = all
    name_used None (Some own) name used all = all
    name_used None None name used all = variable_used used (in_force variables name) (are name) all

    mutual
      value_used : (locals : Named ℕ) (expression : Expression) (used : List ℕ) → InUsed used → InUsed (used_value variables ins outs locals expression used)
      value_used locals (number value) used all = all
      value_used locals (named name) used all = name_used (in_force ins name) (in_force locals name) name used all
      value_used locals (element_at name at) used all = values_used locals at used all
      value_used locals (one sign of) used all = value_used locals of used all
      value_used locals (two sign left right) used all = value_used locals right (used_value variables ins outs locals left used) (value_used locals left used all)
      value_used locals (choice value when other) used all =
          value_used locals other (used_value variables ins outs locals when (used_value variables ins outs locals value used))
          (value_used locals when (used_value variables ins outs locals value used) (value_used locals value used all))

      values_used : (locals : Named ℕ) (expressions : Expressions) (used : List ℕ) → InUsed used → InUsed (used_values variables ins outs locals expressions used)
      values_used locals no_expression used all = all
      values_used locals (and_expression first rest) used all = values_used locals rest (used_value variables ins outs locals first used) (value_used locals first used all)

    mutual
      acts_used : (statement : StatementTree) (locals : Named ℕ) (next : ℕ) (used : List ℕ) → InUsed used → InUsed (used_acts variables ins outs statement locals next used)
      acts_used (set line name value) locals next used all = value_used locals value used all
      acts_used (set_at line name at value) locals next used all = value_used locals value (used_values variables ins outs locals at used) (values_used locals at used all)
      acts_used (tasklet_branch line when body other) locals next used all =
          all_acts_used other locals (next_behind_all variables ins outs body locals next) (used_acts_all variables ins outs body locals next (used_value variables ins outs locals when used))
          (all_acts_used body locals next (used_value variables ins outs locals when used) (value_used locals when used all))
      acts_used statement locals next used all = all

      pub all_acts_used : (block : Block) (locals : Named ℕ) (next : ℕ) (used : List ℕ) → InUsed used → InUsed (used_acts_all variables ins outs block locals next used)
      all_acts_used no_statement locals next used all = all
      all_acts_used (and_statement first rest) locals next used all =
          all_acts_used rest (locals_behind variables ins outs first locals next) (next_behind variables ins outs first locals next) (used_acts variables ins outs first locals next used)
          (acts_used first locals next used all)
