-- The code of element statements and conditions: each element is an input connector, and the value is given to the one output.
use Rattle.std.specs.Prelude.{ℕ, ◌+◌, List, [], ◌∷◌, ◌++◌, length, Option, Some, None, Bool, cond, ◌&&◌, codes, decimal}
use Rattle.sd_lex.specs.PlainTree.{Expression, number, named, element_at, one, two, choice, Expressions}
use Rattle.sd_lex.specs.declared.syntax.operator.TwoSign.TheVariants.{Add, Less}
use Rattle.sd_num.specs.declared.resolution.Resolution.{Resolution}
use Rattle.sd_num.specs.declared.resolution.Resolution.TheVariants.{Sum}
use Rattle.sd_graph.specs.PlainTree as plain
use Rattle.sd_graph.specs.PlainTree.{ValueTree, TaskletTree, GuardTree, KindTree}
use Rattle.sd_graph.specs.declared.link.Link.{Link}
use Rattle.sd_program.specs.Names.{Name, Named, in_force}
use Rattle.sd_task.specs.task.Table.{Table}
use Rattle.sd_task.specs.task.Links.{element_link, port_of, ports_of}
use Rattle.sd_task.specs.task.Operators.{one_sign, two_sign}
use Rattle.sd_task.specs.task.UsedVariables.{with_variable, variable_value}

-- `_in0`, `_in1` and so on
abbrev pub input_name : ℕ → Name
input_name connector = codes "_in" ++ decimal connector

-- how many elements an expression has
abbrev pub elements_in : Expression → ℕ
elements_in (number value) = 0
elements_in (named name) = 0
elements_in (element_at name at) = 1
elements_in (one sign of) = elements_in of
elements_in (two sign left right) = elements_in left + elements_in right
elements_in (choice value when other) = elements_in value + elements_in when + elements_in other

-- after these links, those of the expression's elements from left to right
abbrev pub links_with : Table → List Link → Expression → List Link
links_with table links (number value) = links
links_with table links (named name) = links
links_with table links (element_at name at) = links ++ element_link table (input_name (length links)) name at None ∷ []
links_with table links (one sign of) = links_with table links of
links_with table links (two sign left right) = links_with table (links_with table links left) right
links_with table links (choice value when other) = links_with table (links_with table (links_with table links value) when) other

-- after these variables, those that the expression uses outside of its elements' subscripts
abbrev pub used_with : Named ℕ → List ℕ → Expression → List ℕ
used_with variables used (number value) = used
used_with variables used (named name) = with_variable used (in_force variables name)
used_with variables used (element_at name at) = used
used_with variables used (one sign of) = used_with variables used of
used_with variables used (two sign left right) = used_with variables (used_with variables used left) right
used_with variables used (choice value when other) = used_with variables (used_with variables (used_with variables used value) when) other

-- the code of an expression whose first element is the connector of this number
abbrev pub code_of : Named ℕ → (used : List ℕ) → (connector : ℕ) → Expression → ValueTree
code_of variables used connector (number value) = plain.literal value
code_of variables used connector (named name) = variable_value used (in_force variables name)
code_of variables used connector (element_at name at) = plain.input connector plain.no_value
code_of variables used connector (one sign of) = plain.one (one_sign sign) (code_of variables used connector of)
code_of variables used connector (two sign left right) =
    plain.two (two_sign sign) (code_of variables used connector left) (code_of variables used (connector + elements_in left) right)
code_of variables used connector (choice value when other) =
    plain.choice (code_of variables used connector value) (code_of variables used (connector + elements_in value) when)
    (code_of variables used (connector + elements_in value + elements_in when) other)

-- code that gives a value to `_out`, with the inputs that have these links
abbrev pub given_out : List Link → (used : List ℕ) → ValueTree → TaskletTree
given_out links used value = record {
  ins = ports_of links;
  outs = port_of (codes "_out") 0 ∷ [];
  variables = used;
  locals = 0;
  body = plain.and_act (plain.assign (length links) plain.no_value value) plain.no_act;
}

-- the code that gives an expression's value to `_out`
abbrev pub value_code : Named ℕ → List Link → Expression → TaskletTree
value_code variables links expression =
    let used : List ℕ = used_with variables [] expression in
    given_out links used (code_of variables used 0 expression)

-- a condition on a line
abbrev pub guard_of : Table → (line : ℕ) → Expression → GuardTree
guard_of table line expression =
    let reads : List Link = links_with table [] expression in
    record { line = line; reads = reads; code = value_code table.variables reads expression }

-- the condition of a `for` loop: its variable is below its end
abbrev pub below : Table → (line : ℕ) → (name : Name) → (end : Expression) → GuardTree
below table line name end = guard_of table line (two Less (named name) end)

-- the value of an expression, written to an element
abbrev pub assignment : Table → Name → Expressions → Option Resolution → Expression → KindTree
assignment table name at resolution value =
    let ins : List Link = links_with table [] value in
    plain.task (value_code table.variables ins value) ins (element_link table (codes "_out") name at resolution ∷ [])

-- an element statement: `X[..] += E` resolves the value into the element where it stands in a scope, and else is `X[..] = X[..] + E`
abbrev pub element_task : Table → (in_scope : Bool) → Name → Expressions → (add : Bool) → Expression → KindTree
element_task table in_scope name at add value =
    cond (add && in_scope) (assignment table name at (Some Sum) value)
    (assignment table name at None (cond add (two Add (element_at name at) value) value))
