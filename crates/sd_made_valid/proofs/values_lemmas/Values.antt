-- The code of an expression names connectors without dimensions and variables that are used, and so it does with sizes.
use Rattle.std.proofs.Common.{◌≡◌, ℕ, zero, suc, ◌+◌, ◌-◌, ◌<◌, ◌≤◌, nat_lt, ℤ, List, [], ◌∷◌, ◌++◌, map, length, slice_get, codes, Option, Some, None, Bool, true, false, if◌then◌else◌, refl, arith, length-append}
use Rattle.std.specs.List.{AllByRecursion, list_all}
use Rattle.std.proofs.lemmas.Bool.{lt-ltb}
use Rattle.std.proofs.lemmas.List.{length-map}
use Rattle.sd_lex.specs.PlainTree.{Expression, number, named, element_at, one, two, choice, Expressions, no_expression, and_expression}
use Rattle.sd_lex.specs.declared.syntax.operator.TwoSign.TheVariants.{Add}
use Rattle.sd_num.specs.declared.resolution.Resolution.{Resolution}
use Rattle.sd_num.specs.declared.resolution.Resolution.TheVariants.{Sum}
use Rattle.sd_range.specs.declared.range.Range.{Range}
use Rattle.sd_range.specs.declared.subset.Dim.{Dim}
use Rattle.sd_range.specs.declared.subset.Dim.TheVariants.{Index, Span}
use Rattle.sd_graph.specs.PlainTree as plain
use Rattle.sd_graph.specs.PlainTree.{TaskletTree, GuardTree}
use Rattle.sd_graph.specs.declared.link.Link.{Link}
use Rattle.sd_program.specs.Names.{Name, Named, in_force}
use Rattle.sd_program.specs.Affines.{affines_of}
use Rattle.sd_task.specs.in_force.Subsets.{ranges_among}
use Rattle.sd_task.specs.task.Table.{Table}
use Rattle.sd_task.specs.task.Links.{element_link, port_of, ports_of}
use Rattle.sd_task.specs.task.ElementCode.{elements_in, input_name, links_with, code_of, value_code, assignment, element_task, guard_of}
use Rattle.sd_task.specs.task.UsedVariables.{variable_value}
use Rattle.sd_valid.specs.BoundCode.{names_symbol, bound_value, bound_tasklet}
use Rattle.sd_valid.specs.BoundExpression.{bound_link}
use Rattle.sd_valid.specs.BoundTree.{bound_kind, bound_guard}
use Rattle.sd_validity.specs.rules.CodeNames.{has_dims, is_value_known, is_code_known}
use Rattle.sd_validity.specs.rules.Parts.{is_dim_passed, is_range_passed, are_links_passed, is_kind_passed, is_condition_passed}
use Rattle.sd_made.proofs.names_lemmas.UsedPlaces.{IsUsed, AllUsed, all_used, place_found}
use Rattle.sd_made_valid.specs.values.Names.{names_tests}

-- ---- connectors

abbrev IsScalar : Link → Type 0
IsScalar link = ranges_among link.memlet.subset.dims ≡ 0

indices_alone : (variables : Named ℕ) (at : Expressions) → ranges_among (map Index (affines_of variables at)) ≡ 0
indices_alone variables no_expression = refl
indices_alone variables (and_expression first rest) = indices_alone variables rest

one_more : (links : List Link) (link : Link) → AllByRecursion IsScalar links → IsScalar link → AllByRecursion IsScalar (links ++ link ∷ [])
one_more [] link all is = (is, tt)
one_more (first ∷ links) link all is = (all.0, one_more links link all.1 is)

module _ (table : Table) where
  scalars : (links : List Link) (expression : Expression) → AllByRecursion IsScalar links → AllByRecursion IsScalar (links_with table links expression)
  scalars links (number value) all = all
  scalars links (named name) all = all
  scalars links (element_at name at) all = one_more links (element_link table (input_name (length links)) name at None) all (indices_alone table.variables at)
  scalars links (one sign of) all = scalars links of all
  scalars links (two sign left right) all = scalars (links_with table links left) right (scalars links left all)
  scalars links (choice value when other) all =
      scalars (links_with table (links_with table links value) when) other (scalars (links_with table links value) when (scalars links value all))

  counted : (links : List Link) (expression : Expression) → length (links_with table links expression) ≡ length links + elements_in expression
  counted links (number value) = omega arith
  counted links (named name) = omega arith
  counted links (element_at name at) = omega (arith, length-append links (element_link table (input_name (length links)) name at None ∷ []))
  counted links (one sign of) = counted links of
  counted links (two sign left right) = omega (arith, counted (links_with table links left) right, counted links left)
  counted links (choice value when other) =
      omega (arith, counted (links_with table (links_with table links value) when) other, counted (links_with table links value) when, counted links value)

scalar_at : (links : List Link) (connector : ℕ) → AllByRecursion IsScalar links → connector < length links → has_dims (slice_get (ports_of links) connector) 0 ≡ true
scalar_at [] connector all less = absurd (omega (arith, less))
scalar_at (link ∷ links) zero all less = rw (all.0) refl
scalar_at (link ∷ links) (suc connector) all less = scalar_at links connector all.1 (omega (arith, less))

-- ---- expressions

variable_known : (code : TaskletTree) (symbol : Bool) (value : ℤ) (place : ℕ) → nat_lt place (length code.variables) ≡ true →
    is_value_known code [] (if symbol then plain.literal value else plain.variable place) ≡ true
variable_known code true value place there = refl
variable_known code false value place there = there

module _ (sizes : List ℤ) (variables : Named ℕ) (code : TaskletTree) (links : List Link) (made : code.ins ≡ ports_of links) (all : AllByRecursion IsScalar links) where
  named_known : (found : Option ℕ) → IsUsed code.variables found → is_value_known code [] (bound_value sizes code.variables (variable_value code.variables found)) ≡ true
  named_known None used = refl
  named_known (Some variable) used = variable_known code (names_symbol (length sizes) code.variables _) _ _ (lt-ltb _ (length code.variables) (place_found variable code.variables used).0)

  value_known : (connector : ℕ) (expression : Expression) → connector + elements_in expression ≤ length links → AllUsed variables code.variables expression →
      is_value_known code [] (bound_value sizes code.variables (code_of variables code.variables connector expression)) ≡ true
  value_known connector (number value) few used = refl
  value_known connector (named name) few used = named_known (in_force variables name) used
  value_known connector (element_at name at) few used = rw (made, scalar_at links connector all (omega (arith, few))) refl
  value_known connector (one sign of) few used = value_known connector of few used
  value_known connector (two sign left right) few used =
      rw (value_known connector left (omega (arith, few)) used.0) (value_known (connector + elements_in left) right (omega (arith, few)) used.1)
  value_known connector (choice value when other) few used =
      rw (value_known connector value (omega (arith, few)) used.0, value_known (connector + elements_in value) when (omega (arith, few)) used.1)
      (value_known (connector + elements_in value + elements_in when) other (omega (arith, few)) used.2)

-- ---- code

not_below : (count : ℕ) → nat_lt count count ≡ false
not_below count = grind arith

none_left : (count : ℕ) → count - count ≡ 0
none_left count = omega arith

code_known : (sizes : List ℤ) (table : Table) (expression : Expression) → is_code_known (bound_tasklet sizes (value_code table.variables (links_with table [] expression) expression)) ≡ true
code_known sizes table expression =
    let links : List Link = links_with table [] expression in
    let code : TaskletTree = bound_tasklet sizes (value_code table.variables links expression) in
    let ports : length (ports_of links) ≡ length links = length-map links (λ link. port_of link.connector (ranges_among link.memlet.subset.dims)) in
    let value = value_known sizes table.variables code links refl (scalars table [] expression tt) 0 expression (omega (arith, counted table [] expression)) (all_used table.variables expression) in
    rw (ports, not_below (length links), none_left (length links), value) refl

-- ---- nothing is asked of the rest

nothing_asked : {A : Type 0} (members : List A) → list_all (λ (member : A). true) members ≡ true
nothing_asked [] = refl
nothing_asked (member ∷ members) = nothing_asked members

pub range_passed : (range : Range) → is_range_passed names_tests range ≡ true
range_passed range = nothing_asked range.ends

pub dims_passed : (dims : List Dim) → list_all (is_dim_passed names_tests) dims ≡ true
dims_passed [] = refl
dims_passed (Index at ∷ dims) = dims_passed dims
dims_passed (Span range ∷ dims) = rw (range_passed range) (dims_passed dims)

pub links_passed : (links : List Link) → are_links_passed names_tests links ≡ true
links_passed [] = refl
links_passed (link ∷ links) = rw (dims_passed link.memlet.subset.dims) (links_passed links)

-- ---- statements and conditions

assignment_known : (sizes : List ℤ) (table : Table) (name : Name) (at : Expressions) (resolution : Option Resolution) (value : Expression) →
    is_kind_passed names_tests (bound_kind sizes (assignment table name at resolution value)) ≡ true
assignment_known sizes table name at resolution value =
    let outs : List Link = element_link table (codes "_out") name at resolution ∷ [] in
    rw (code_known sizes table value, links_passed (map (bound_link sizes) (links_with table [] value))) (links_passed (map (bound_link sizes) outs))

pub statement_known : (sizes : List ℤ) (table : Table) (in_scope : Bool) (name : Name) (at : Expressions) (add : Bool) (value : Expression) →
    is_kind_passed names_tests (bound_kind sizes (element_task table in_scope name at add value)) ≡ true
statement_known sizes table in_scope name at false value = assignment_known sizes table name at None value
statement_known sizes table true name at true value = assignment_known sizes table name at (Some Sum) value
statement_known sizes table false name at true value = assignment_known sizes table name at None (two Add (element_at name at) value)

pub condition_known : (sizes : List ℤ) (table : Table) (line : ℕ) (when : Expression) → is_condition_passed names_tests (Some (bound_guard sizes (guard_of table line when))) ≡ true
condition_known sizes table line when =
    let guard : GuardTree = guard_of table line when in
    rw (links_passed (map (bound_link sizes) guard.reads)) (code_known sizes table when)
