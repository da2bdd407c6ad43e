-- How large code is: its connectors, its lines, and the levels of its expressions.
use Rattle.std.specs.Prelude.{ℕ, suc, ◌+◌, max, nat_le, length, Bool, ◌&&◌}
use Rattle.sd_graph.specs.PlainTree.{ValueTree, literal, variable, local, input, one, two, choice, ValueTrees, no_value, and_value, ActTree, set_local, assign, branch, ActTrees, no_act, and_act, TaskletTree}

-- signs, functions, choices and subscripts of connectors, one in the other
abbrev mutual
  pub levels_of : ValueTree → ℕ
  levels_of (literal number) = 0
  levels_of (variable place) = 0
  levels_of (local number) = 0
  levels_of (input connector at) = subscript_levels at
  levels_of (one sign of) = suc (levels_of of)
  levels_of (two sign left right) = suc (max (levels_of left) (levels_of right))
  levels_of (choice value when other) = suc (max (levels_of value) (max (levels_of when) (levels_of other)))

  -- those of an input with these subscripts
  pub subscript_levels : ValueTrees → ℕ
  subscript_levels no_value = 0
  subscript_levels (and_value first rest) = suc (max (levels_of first) (greatest_levels rest))

  pub greatest_levels : ValueTrees → ℕ
  greatest_levels no_value = 0
  greatest_levels (and_value first rest) = max (levels_of first) (greatest_levels rest)

-- the greatest levels of the expressions of statements
abbrev mutual
  pub act_levels : ActTree → ℕ
  act_levels (set_local number value) = levels_of value
  act_levels (assign connector at value) = max (greatest_levels at) (levels_of value)
  act_levels (branch when body other) = max (levels_of when) (max (acts_levels body) (acts_levels other))

  pub acts_levels : ActTrees → ℕ
  acts_levels no_act = 0
  acts_levels (and_act act acts) = max (act_levels act) (acts_levels acts)

-- a line for each statement
abbrev mutual
  pub act_lines : ActTree → ℕ
  act_lines (set_local number value) = 1
  act_lines (assign connector at value) = 1
  act_lines (branch when body other) = suc (acts_lines body + acts_lines other)

  pub acts_lines : ActTrees → ℕ
  acts_lines no_act = 0
  acts_lines (and_act act acts) = act_lines act + acts_lines acts

abbrev pub are_ports_few : TaskletTree → Bool
are_ports_few code = nat_le (length code.ins + length code.outs) 64

-- within the limits
abbrev pub is_code_small : TaskletTree → Bool
is_code_small code = are_ports_few code && (nat_le (acts_lines code.body) 1024 && nat_le (acts_levels code.body) 64)
