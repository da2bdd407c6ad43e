-- The code of a tasklet has no more connectors and lines than its block, and no more levels than the expressions of its lines.
use Rattle.std.proofs.Common.{◌≡◌, ℕ, ◌+◌, ◌≤◌, max, List, [], ◌∷◌, length, Option, Some, None, if◌then◌else◌, refl, arith}
use Rattle.std.proofs.Math.Nat.{max-le}
use Rattle.std.proofs.lemmas.List.{length-map}
use Rattle.sd_lex.specs.PlainTree.{Expression, number, named, element_at, one, two, choice, Expressions, no_expression, and_expression, StatementTree, input, output, set, set_at, tasklet_branch, Block, no_statement, and_statement}
use Rattle.sd_lex.specs.StatementKind.{is_connector}
use Rattle.sd_graph.specs.PlainTree.{ValueTree, ActTrees}
use Rattle.sd_graph.specs.declared.link.Link.{Link}
use Rattle.sd_program.specs.Bounds.{EachExpression}
use Rattle.sd_program.specs.Limits.{connectors_in, lines_in, lines_in_all, lines_in_other}
use Rattle.sd_program.specs.Names.{Named, in_force}
use Rattle.sd_program.specs.Place.{Place, past, past_all, EveryAt, EveryFrom}
use Rattle.sd_task.specs.in_force.Names.{number_or}
use Rattle.sd_task.specs.in_force.Subsets.{ranges_among}
use Rattle.sd_read.specs.readable.Levels.{code_levels_in, code_levels_in_all, IsShallowCode, HasFewLevels}
use Rattle.sd_task.specs.task.Table.{Table}
use Rattle.sd_task.specs.task.Links.{port_of, ports_of}
use Rattle.sd_task.specs.task.UsedVariables.{variable_value}
use Rattle.sd_task.specs.tasklet_names.UsedNames.{connectors_from, used_acts_all, locals_behind, next_behind, next_behind_all}
use Rattle.sd_task.specs.tasklets.Code.{named_value, assigned, followed_by, task_value, task_values, act_of, acts_of}
use Rattle.sd_task.specs.tasklets.Item.{input_before, output_before, inputs_of, outputs_of, code_with}
use Rattle.sd_validity.specs.rules.CodeSize.{levels_of, subscript_levels, greatest_levels, act_levels, acts_levels, act_lines, acts_lines}
use Rattle.sd_made_valid.proofs.code_lemmas.Expressions.{max_more, IsBrief, variable_level}

-- ---- connectors

first_counted : (table : Table) (statement : StatementTree) (ins outs : List Link) →
    length (input_before table statement ins) + length (output_before table statement outs) ≡ (if is_connector statement then 1 else 0) + (length ins + length outs)
first_counted table (input line connector memlet) ins outs = omega arith
first_counted table (output line connector memlet) ins outs = omega arith
first_counted table statement ins outs = omega arith

connectors_counted : (table : Table) (body : Block) → length (inputs_of table body) + length (outputs_of table body) ≡ connectors_in body
connectors_counted table no_statement = omega arith
connectors_counted table (and_statement first rest) =
    omega (arith, first_counted table first (inputs_of table rest) (outputs_of table rest), connectors_counted table rest)

ports_counted : (links : List Link) → length (ports_of links) ≡ length links
ports_counted links = length-map links (λ link. port_of link.connector (ranges_among link.memlet.subset.dims))

-- ---- lines and levels

other_lines : (other : Block) → lines_in_all other ≤ lines_in_other other
other_lines no_statement = omega arith
other_lines (and_statement first rest) = omega arith

named_level : (connector local : Option ℕ) (variable : ValueTree) → levels_of variable ≡ 0 → levels_of (named_value connector local variable) ≡ 0
named_level (Some connector) own known none = refl
named_level None (Some own) known none = refl
named_level None None known none = none

assigned_line : (connector : Option ℕ) (local : ℕ) (value : ValueTree) → act_lines (assigned connector local value) ≡ 1
assigned_line (Some connector) local value = refl
assigned_line None local value = refl

assigned_levels : (connector : Option ℕ) (local : ℕ) (value : ValueTree) → levels_of value ≤ 64 → act_levels (assigned connector local value) ≤ 64
assigned_levels (Some connector) local value few = max-le (omega arith) few
assigned_levels None local value few = few

module _ (variables ins outs : Named ℕ) (used : List ℕ) where
  mutual
    value_levels : (locals : Named ℕ) (expression : Expression) → levels_of (task_value variables ins outs used locals expression) ≤ code_levels_in expression
    value_levels locals (number value) = omega arith
    value_levels locals (named name) =
        omega (arith, named_level (in_force ins name) (in_force locals name) (variable_value used (in_force variables name)) (variable_level used (in_force variables name)))
    value_levels locals (element_at name at) = subscripts locals at
    value_levels locals (one sign of) = omega (arith, value_levels locals of)
    value_levels locals (two sign left right) =
        let more : max (levels_of (task_value variables ins outs used locals left)) (levels_of (task_value variables ins outs used locals right)) ≤ max (code_levels_in left) (code_levels_in right) =
        max_more _ _ (code_levels_in left) (code_levels_in right) (value_levels locals left) (value_levels locals right) in
        omega (arith, more)
    value_levels locals (choice value when other) =
        let others : max (levels_of (task_value variables ins outs used locals when)) (levels_of (task_value variables ins outs used locals other)) ≤ max (code_levels_in when) (code_levels_in other) =
        max_more _ _ (code_levels_in when) (code_levels_in other) (value_levels locals when) (value_levels locals other) in
        let more : max (levels_of (task_value variables ins outs used locals value)) (max (levels_of (task_value variables ins outs used locals when)) (levels_of (task_value variables ins outs used locals other)))
        ≤ max (code_levels_in value) (max (code_levels_in when) (code_levels_in other)) =
        max_more _ _ (code_levels_in value) (max (code_levels_in when) (code_levels_in other)) (value_levels locals value) others in
        omega (arith, more)

    subscripts : (locals : Named ℕ) (at : Expressions) → subscript_levels (task_values variables ins outs used locals at) ≤ 1 + code_levels_in_all at
    subscripts locals no_expression = omega arith
    subscripts locals (and_expression first rest) =
        let more : max (levels_of (task_value variables ins outs used locals first)) (greatest_levels (task_values variables ins outs used locals rest)) ≤ max (code_levels_in first) (code_levels_in_all rest) =
        max_more _ _ (code_levels_in first) (code_levels_in_all rest) (value_levels locals first) (values_levels locals rest) in
        omega (arith, more)

    values_levels : (locals : Named ℕ) (at : Expressions) → greatest_levels (task_values variables ins outs used locals at) ≤ code_levels_in_all at
    values_levels locals no_expression = omega arith
    values_levels locals (and_expression first rest) = max_more _ _ (code_levels_in first) (code_levels_in_all rest) (value_levels locals first) (values_levels locals rest)

  mutual
    line_few : (statement : StatementTree) (locals : Named ℕ) (next : ℕ) (rest : ActTrees) → acts_lines (followed_by (act_of variables ins outs used statement locals next) rest) ≤ lines_in statement + acts_lines rest
    line_few (set line name value) locals next rest =
        omega (arith, assigned_line (in_force outs name) (number_or next locals name) (task_value variables ins outs used locals value))
    line_few (set_at line name at value) locals next rest = omega arith
    line_few (tasklet_branch line when body other) locals next rest =
        omega (arith, lines_few body locals next, lines_few other locals (next_behind_all variables ins outs body locals next), other_lines other)
    line_few statement locals next rest = omega arith

    lines_few : (body : Block) (locals : Named ℕ) (next : ℕ) → acts_lines (acts_of variables ins outs used body locals next) ≤ lines_in_all body
    lines_few no_statement locals next = omega arith
    lines_few (and_statement first rest) locals next =
        let others : ActTrees = acts_of variables ins outs used rest (locals_behind variables ins outs first locals next) (next_behind variables ins outs first locals next) in
        omega (arith, line_few first locals next others, lines_few rest (locals_behind variables ins outs first locals next) (next_behind variables ins outs first locals next))

  at_levels : (at : Expressions) (locals : Named ℕ) → EachExpression IsShallowCode at → greatest_levels (task_values variables ins outs used locals at) ≤ 64
  at_levels no_expression locals shallow = omega arith
  at_levels (and_expression first rest) locals shallow = max-le (omega (arith, value_levels locals first, shallow.0)) (at_levels rest locals shallow.1)

  mutual
    line_levels : (statement : StatementTree) (place : Place) (locals : Named ℕ) (next : ℕ) (rest : ActTrees) → EveryAt HasFewLevels place statement → acts_levels rest ≤ 64 →
        acts_levels (followed_by (act_of variables ins outs used statement locals next) rest) ≤ 64
    line_levels (set line name value) place locals next rest given few =
        let shallow : levels_of (task_value variables ins outs used locals value) ≤ 64 = omega (arith, value_levels locals value, given) in
        max-le (assigned_levels (in_force outs name) (number_or next locals name) (task_value variables ins outs used locals value) shallow) few
    line_levels (set_at line name at value) place locals next rest given few =
        let shallow : levels_of (task_value variables ins outs used locals value) ≤ 64 = omega (arith, value_levels locals value, given.1) in
        max-le (max-le (at_levels at locals given.0) shallow) few
    line_levels (tasklet_branch line when body other) place locals next rest given few =
        let shallow : levels_of (task_value variables ins outs used locals when) ≤ 64 = omega (arith, value_levels locals when, given.0) in
        max-le (max-le shallow (max-le (lines_levels body place locals next given.1.0) (lines_levels other (past_all body place) locals (next_behind_all variables ins outs body locals next) given.1.1))) few
    line_levels statement place locals next rest given few = few

    lines_levels : (body : Block) (place : Place) (locals : Named ℕ) (next : ℕ) → EveryFrom HasFewLevels place body → acts_levels (acts_of variables ins outs used body locals next) ≤ 64
    lines_levels no_statement place locals next given = omega arith
    lines_levels (and_statement first rest) place locals next given =
        line_levels first place locals next _ given.0 (lines_levels rest (past first place) (locals_behind variables ins outs first locals next) (next_behind variables ins outs first locals next) given.1)

-- the code of a tasklet with these links, the first so many of which are no lines of it
pub task_brief : (variables : Named ℕ) (ins outs : List Link) (elements : ℕ) (body : Block) (place : Place) → length ins + length outs ≡ elements + connectors_in body →
    elements + connectors_in body ≤ 64 → lines_in_all body ≤ 1024 → EveryFrom HasFewLevels place body → IsBrief (code_with variables ins outs body)
task_brief variables ins outs elements body place counted few lines given =
    let in_numbers : Named ℕ = connectors_from 0 ins in
    let out_numbers : Named ℕ = connectors_from (length ins) outs in
    let used : List ℕ = used_acts_all variables in_numbers out_numbers body [] 0 [] in
    record {
      ports = omega (arith, ports_counted ins, ports_counted outs, counted, few);
      lines = omega (arith, lines_few variables in_numbers out_numbers used body [] 0, lines);
      levels = lines_levels variables in_numbers out_numbers used body place [] 0 given;
    }

pub tasklet_brief : (table : Table) (body : Block) (place : Place) → connectors_in body ≤ 64 → lines_in_all body ≤ 1024 → EveryFrom HasFewLevels place body →
    IsBrief (code_with table.variables (inputs_of table body) (outputs_of table body) body)
tasklet_brief table body place few lines given =
    task_brief table.variables (inputs_of table body) (outputs_of table body) 0 body place (omega (arith, connectors_counted table body)) (omega (arith, few)) lines given

-- with an input that is no line of the block
pub taking_brief : (table : Table) (taken : Link) (body : Block) (place : Place) → 1 + connectors_in body ≤ 64 → lines_in_all body ≤ 1024 → EveryFrom HasFewLevels place body →
    IsBrief (code_with table.variables (taken ∷ inputs_of table body) (outputs_of table body) body)
taking_brief table taken body place few lines given =
    task_brief table.variables (taken ∷ inputs_of table body) (outputs_of table body) 1 body place (omega (arith, connectors_counted table body)) few lines given
