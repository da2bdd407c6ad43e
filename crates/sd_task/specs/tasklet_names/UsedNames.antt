-- The names of a tasklet's block: the connectors and locals in force line by line, and the variables that are used.
use Rattle.std.specs.Prelude.{ℕ, ◌+◌, List, [], ◌∷◌, Option, Some, None, Bool, cond, ◌||◌, is_some, map}
use Rattle.sd_lex.specs.PlainTree.{Expression, number, named, element_at, one, two, choice, Expressions, no_expression, and_expression, StatementTree, set, set_at, tasklet_branch, Block, no_statement, and_statement}
use Rattle.sd_graph.specs.declared.link.Link.{Link}
use Rattle.sd_program.specs.Names.{Name, Named, in_force}
use Rattle.sd_task.specs.in_force.Names.{with_numbered}
use Rattle.sd_task.specs.task.UsedVariables.{with_variable}

-- connectors as names in force, the first with this number
abbrev pub connectors_from : (next : ℕ) → List Link → Named ℕ
connectors_from next links = with_numbered (map (λ link. link.connector) links) next []

-- after these variables, the one that a name stands for
abbrev pub named_variable : (connector local variable : Option ℕ) → List ℕ → List ℕ
named_variable (Some connector) own known used = used
named_variable None (Some own) known used = used
named_variable None None known used = with_variable used known

-- the variables in force, and the tasklet's inputs and outputs
module _ (variables ins outs : Named ℕ) where
  -- a name is that of an output connector or of a local in force
  abbrev pub is_assigned : Named ℕ → Name → Bool
  is_assigned locals name = is_some (in_force outs name) || is_some (in_force locals name)

  -- the locals in force behind a line, where a new one has this number
  abbrev pub locals_behind : StatementTree → Named ℕ → (next : ℕ) → Named ℕ
  locals_behind (set line name value) locals next = cond (is_assigned locals name) locals ((name, next) ∷ locals)
  locals_behind statement locals next = locals

  -- the number of the next new local behind a line and the blocks below it
  abbrev mutual
    pub next_behind : StatementTree → Named ℕ → (next : ℕ) → ℕ
    next_behind (set line name value) locals next = cond (is_assigned locals name) next (next + 1)
    next_behind (tasklet_branch line when body other) locals next = next_behind_all other locals (next_behind_all body locals next)
    next_behind statement locals next = next

    pub next_behind_all : Block → Named ℕ → (next : ℕ) → ℕ
    next_behind_all no_statement locals next = next
    next_behind_all (and_statement first rest) locals next = next_behind_all rest (locals_behind first locals next) (next_behind first locals next)

  -- ---- the variables that the code uses, after these

  abbrev mutual
    pub used_value : Named ℕ → Expression → List ℕ → List ℕ
    used_value locals (number value) used = used
    used_value locals (named name) used = named_variable (in_force ins name) (in_force locals name) (in_force variables name) used
    used_value locals (element_at name at) used = used_values locals at used
    used_value locals (one sign of) used = used_value locals of used
    used_value locals (two sign left right) used = used_value locals right (used_value locals left used)
    used_value locals (choice value when other) used = used_value locals other (used_value locals when (used_value locals value used))

    pub used_values : Named ℕ → Expressions → List ℕ → List ℕ
    used_values locals no_expression used = used
    used_values locals (and_expression first rest) used = used_values locals rest (used_value locals first used)

  abbrev mutual
    pub used_acts : StatementTree → Named ℕ → (next : ℕ) → List ℕ → List ℕ
    used_acts (set line name value) locals next used = used_value locals value used
    used_acts (set_at line name at value) locals next used = used_value locals value (used_values locals at used)
    used_acts (tasklet_branch line when body other) locals next used =
        used_acts_all other locals (next_behind_all body locals next) (used_acts_all body locals next (used_value locals when used))
    used_acts statement locals next used = used

    pub used_acts_all : Block → Named ℕ → (next : ℕ) → List ℕ → List ℕ
    used_acts_all no_statement locals next used = used
    used_acts_all (and_statement first rest) locals next used =
        used_acts_all rest (locals_behind first locals next) (next_behind first locals next) (used_acts first locals next used)
