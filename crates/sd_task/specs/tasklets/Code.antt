-- The code of a tasklet's block, line by line.
use Rattle.std.specs.Prelude.{ℕ, ◌+◌, List, ◌∷◌, Option, Some, None, Bool, cond, ◌||◌, is_some}
use Rattle.sd_lex.specs.PlainTree.{Expression, number, named, element_at, one, two, choice, Expressions, no_expression, and_expression, StatementTree, set, set_at, tasklet_branch, Block, no_statement, and_statement}
use Rattle.sd_graph.specs.PlainTree as plain
use Rattle.sd_graph.specs.PlainTree.{ValueTree, ValueTrees, ActTree, ActTrees}
use Rattle.sd_program.specs.Names.{Name, Named, in_force}
use Rattle.sd_task.specs.in_force.Names.{number_or}
use Rattle.sd_task.specs.task.Operators.{one_sign, two_sign}
use Rattle.sd_task.specs.task.UsedVariables.{variable_value}
use Rattle.sd_task.specs.tasklet_names.UsedNames.{locals_behind, next_behind, next_behind_all}

-- a name stands for an input connector, else for a local, else for a variable
abbrev pub named_value : (connector local : Option ℕ) → (variable : ValueTree) → ValueTree
named_value (Some connector) own known = plain.input connector plain.no_value
named_value None (Some own) known = plain.local own
named_value None None known = known

-- what is assigned to an output connector, or else to a local
abbrev pub assigned : (connector : Option ℕ) → (local : ℕ) → ValueTree → ActTree
assigned (Some connector) local value = plain.assign connector plain.no_value value
assigned None local value = plain.set_local local value

-- the code of a line, if it has any, before that of the lines behind it
abbrev pub followed_by : Option ActTree → ActTrees → ActTrees
followed_by None rest = rest
followed_by (Some act) rest = plain.and_act act rest

-- the variables in force, and the tasklet's inputs and outputs
module _ (variables ins outs : Named ℕ) where
  -- where all of the code uses these variables
  module _ (used : List ℕ) where
    abbrev mutual
      pub task_value : Named ℕ → Expression → ValueTree
      task_value locals (number value) = plain.literal value
      task_value locals (named name) = named_value (in_force ins name) (in_force locals name) (variable_value used (in_force variables name))
      task_value locals (element_at name at) = plain.input (number_or 0 ins name) (task_values locals at)
      task_value locals (one sign of) = plain.one (one_sign sign) (task_value locals of)
      task_value locals (two sign left right) = plain.two (two_sign sign) (task_value locals left) (task_value locals right)
      task_value locals (choice value when other) = plain.choice (task_value locals value) (task_value locals when) (task_value locals other)

      pub task_values : Named ℕ → Expressions → ValueTrees
      task_values locals no_expression = plain.no_value
      task_values locals (and_expression first rest) = plain.and_value (task_value locals first) (task_values locals rest)

    abbrev mutual
      -- the code of a line; a line that declares a connector has none
      pub act_of : StatementTree → Named ℕ → (next : ℕ) → Option ActTree
      act_of (set line name value) locals next = Some (assigned (in_force outs name) (number_or next locals name) (task_value locals value))
      act_of (set_at line name at value) locals next = Some (plain.assign (number_or 0 outs name) (task_values locals at) (task_value locals value))
      act_of (tasklet_branch line when body other) locals next =
          Some (plain.branch (task_value locals when) (acts_of body locals next) (acts_of other locals (next_behind_all variables ins outs body locals next)))
      act_of statement locals next = None

      -- the code of a block
      pub acts_of : Block → Named ℕ → (next : ℕ) → ActTrees
      acts_of no_statement locals next = plain.no_act
      acts_of (and_statement first rest) locals next = followed_by (act_of first locals next) (acts_of rest (locals_behind variables ins outs first locals next) (next_behind variables ins outs first locals next))
