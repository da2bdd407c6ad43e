-- The code of an element statement or a condition has a connector for each element, and no more levels than the expression.
use Rattle.std.proofs.Common.{◌≡◌, ◌∙◌, ℕ, ◌+◌, ◌≤◌, max, List, [], ◌∷◌, length, Option, Some, None, refl, arith, length-append}
use Rattle.std.proofs.Math.Nat.{le-max_left, le-max_right, max-le}
use Rattle.std.proofs.lemmas.List.{length-map}
use Rattle.sd_lex.specs.PlainTree.{Expression, number, named, element_at, one, two, choice}
use Rattle.sd_graph.specs.PlainTree.{TaskletTree}
use Rattle.sd_graph.specs.declared.link.Link.{Link}
use Rattle.sd_program.specs.IsAffine.{IsAffine}
use Rattle.sd_program.specs.Limits.{elements_in}
use Rattle.sd_program.specs.Names.{Named, in_force}
use Rattle.sd_task.specs.in_force.Subsets.{ranges_among}
use Rattle.sd_read.specs.readable.Levels.{levels_in}
use Rattle.sd_task.specs.task.Table.{Table}
use Rattle.sd_task.specs.task.Links.{element_link, port_of, ports_of}
use Rattle.sd_task.specs.task.ElementCode.{elements_in as elements_of, input_name, links_with, used_with, code_of, value_code}
use Rattle.sd_task.specs.task.UsedVariables.{variable_value}
use Rattle.sd_validity.specs.rules.CodeSize.{levels_of, acts_lines, acts_levels}

-- ---- numbers

-- the greater of two is no greater where neither is
pub max_more : (a b more most : ℕ) → a ≤ more → b ≤ most → max a b ≤ max more most
max_more a b more most first second = max-le (omega (arith, first, le-max_left more most)) (omega (arith, second, le-max_right more most))

-- ---- what holds of small code

pub record IsBrief (code : TaskletTree) : Type 0 where
  pub ports : length code.ins + length code.outs ≤ 64
  pub lines : acts_lines code.body ≤ 1024
  pub levels : acts_levels code.body ≤ 64

-- ---- levels

pub variable_level : (used : List ℕ) (found : Option ℕ) → levels_of (variable_value used found) ≡ 0
variable_level used None = refl
variable_level used (Some variable) = refl

module _ (variables : Named ℕ) (used : List ℕ) where
  code_levels : (connector : ℕ) (expression : Expression) → levels_of (code_of variables used connector expression) ≤ levels_in expression
  code_levels connector (number value) = omega arith
  code_levels connector (named name) = omega (arith, variable_level used (in_force variables name))
  code_levels connector (element_at name at) = omega arith
  code_levels connector (one sign of) = omega (arith, code_levels connector of)
  code_levels connector (two sign left right) =
      let second : ℕ = connector + elements_of left in
      let more : max (levels_of (code_of variables used connector left)) (levels_of (code_of variables used second right)) ≤ max (levels_in left) (levels_in right) =
      max_more _ _ (levels_in left) (levels_in right) (code_levels connector left) (code_levels second right) in
      omega (arith, more)
  code_levels connector (choice value when other) =
      let second : ℕ = connector + elements_of value in
      let third : ℕ = connector + elements_of value + elements_of when in
      let others : max (levels_of (code_of variables used second when)) (levels_of (code_of variables used third other)) ≤ max (levels_in when) (levels_in other) =
      max_more _ _ (levels_in when) (levels_in other) (code_levels second when) (code_levels third other) in
      let more : max (levels_of (code_of variables used connector value)) (max (levels_of (code_of variables used second when)) (levels_of (code_of variables used third other)))
      ≤ max (levels_in value) (max (levels_in when) (levels_in other)) =
      max_more _ _ (levels_in value) (max (levels_in when) (levels_in other)) (code_levels connector value) others in
      omega (arith, more)

-- ---- connectors

pub links_counted : (table : Table) (links : List Link) (expression : Expression) → length (links_with table links expression) ≡ length links + elements_in expression
links_counted table links (number value) = omega arith
links_counted table links (named name) = omega arith
links_counted table links (element_at name at) = omega (arith, length-append links (element_link table (input_name (length links)) name at None ∷ []))
links_counted table links (one sign of) = links_counted table links of
links_counted table links (two sign left right) = omega (arith, links_counted table (links_with table links left) right, links_counted table links left)
links_counted table links (choice value when other) =
    omega (arith, links_counted table (links_with table (links_with table links value) when) other, links_counted table (links_with table links value) when, links_counted table links value)

-- an affine expression reads no element
pub affine_reads : (expression : Expression) → IsAffine expression → elements_in expression ≡ 0
affine_reads (number value) is = refl
affine_reads (named name) is = refl
affine_reads (element_at name at) is = absurd is
affine_reads (one sign of) is = affine_reads of is.1
affine_reads (two sign left right) is = omega (arith, affine_reads left is.1.0, affine_reads right is.1.1)
affine_reads (choice value when other) is = absurd is

-- the code that gives an expression's value to its one output
pub value_brief : (table : Table) (expression : Expression) → elements_in expression + 1 ≤ 64 → levels_in expression ≤ 64 → IsBrief (value_code table.variables (links_with table [] expression) expression)
value_brief table expression few shallow =
    let links : List Link = links_with table [] expression in
    let used : List ℕ = used_with table.variables [] expression in
    let counted : length (ports_of links) ≡ elements_in expression = length-map links (λ link. port_of link.connector (ranges_among link.memlet.subset.dims)) ∙ links_counted table [] expression ∙ omega arith in
    let levels : levels_of (code_of table.variables used 0 expression) ≤ 64 = omega (arith, code_levels table.variables used 0 expression, shallow) in
    record { ports = omega (arith, counted, few); lines = omega arith; levels = max-le (max-le (omega arith) levels) (omega arith) }
