-- Items with variables renamed.
use Rattle.std.specs.Prelude.{◌≢◌, ℕ, nat_eq, ℤ, List, [], ◌∷◌, map, if◌then◌else◌, ⊤}
use Rattle.std.specs.List.{AllByRecursion}
use Rattle.sd_range.specs.Arithmetic.{plus_term}
use Rattle.sd_range.specs.declared.affine.Affine.{Affine}
use Rattle.sd_range.specs.declared.range.Range.{Range}
use Rattle.sd_range.specs.declared.subset.Dim.{Dim}
use Rattle.sd_range.specs.declared.subset.Dim.TheVariants.{Index, Span}
use Rattle.sd_range.specs.Affine.{variable_value}
use Rattle.sd_range.specs.Variables.{with_variable}
use Rattle.sd_graph.specs.Context.{Context}
use Rattle.sd_graph.specs.declared.link.Link.{Link}
use Rattle.sd_graph.specs.PlainTree.{TaskletTree, KindTree, task, map_scope, consume_scope, nested_graph, reduction, copy, ItemTrees, no_item, and_item}

-- variables, each with its new name; of two for one variable the first counts
abbrev pub Names : Type 0
Names = List (ℕ × ℕ)

-- a variable by its new name; one without a new name stays
abbrev pub variable_renamed : Names → ℕ → ℕ
variable_renamed [] variable = variable
variable_renamed (name ∷ names) variable = if nat_eq variable name.0 then name.1 else variable_renamed names variable

-- terms with their variables renamed, in normal form again
abbrev pub terms_renamed : Names → List (ℕ × ℤ) → List (ℕ × ℤ)
terms_renamed names [] = []
terms_renamed names (term ∷ terms) = plus_term (terms_renamed names terms) (variable_renamed names term.0) term.1

-- an expression with its variables renamed
abbrev pub affine_renamed : Names → Affine → Affine
affine_renamed names a = record { constant = a.constant; terms = terms_renamed names a.terms }

-- a range
abbrev pub range_renamed : Names → Range → Range
range_renamed names range = record { begin = affine_renamed names range.begin; ends = map (affine_renamed names) range.ends; step = range.step }

-- a dimension of a subset
abbrev pub dim_renamed : Names → Dim → Dim
dim_renamed names (Index at) = Index (affine_renamed names at)
dim_renamed names (Span range) = Span (range_renamed names range)

-- a link; its container stays
abbrev pub link_renamed : Names → Link → Link
link_renamed names link = record link { memlet = record link.memlet { subset = record { dims = map (dim_renamed names) link.memlet.subset.dims } } }

-- code; its connectors and locals stay
abbrev pub code_renamed : Names → TaskletTree → TaskletTree
code_renamed names code = record code { variables = map (variable_renamed names) code.variables }

-- the ranges of parameters; the parameters stay
abbrev pub ranges_renamed : Names → List (ℕ × Range) → List (ℕ × Range)
ranges_renamed names params = map (λ param. (param.0, range_renamed names param.1)) params

abbrev mutual
  -- what an item names of the variables about it; a nested graph has variables of its own
  pub kind_renamed : Names → KindTree → KindTree
  kind_renamed names (task code ins outs) = task (code_renamed names code) (map (link_renamed names) ins) (map (link_renamed names) outs)
  kind_renamed names (map_scope sequential params private body) = map_scope sequential (ranges_renamed names params) private (items_renamed names body)
  kind_renamed names (consume_scope stream element private body) = consume_scope stream element private (items_renamed names body)
  kind_renamed names (nested_graph inner links) = nested_graph inner (map (link_renamed names) links)
  kind_renamed names (reduction resolution axis identity from to) = reduction resolution axis identity (link_renamed names from) (link_renamed names to)
  kind_renamed names (copy from to) = copy (link_renamed names from) (link_renamed names to)

  -- each item of a list
  pub items_renamed : Names → ItemTrees → ItemTrees
  items_renamed names no_item = no_item
  items_renamed names (and_item line kind items) = and_item line (kind_renamed names kind) (items_renamed names items)

-- a variable that is no old and no new name
abbrev pub IsNoName : Names → ℕ → Type 0
IsNoName names variable = AllByRecursion (λ name. (variable ≢ name.0) × (variable ≢ name.1)) names

abbrev mutual
  -- no parameter of a map in an item is an old or a new name
  pub KindSpares : Names → KindTree → Type 0
  KindSpares names (task code ins outs) = ⊤
  KindSpares names (map_scope sequential params private body) = AllByRecursion (λ param. IsNoName names param.0) params × ItemsSpare names body
  KindSpares names (consume_scope stream element private body) = ItemsSpare names body
  KindSpares names (nested_graph inner links) = ⊤
  KindSpares names (reduction resolution axis identity from to) = ⊤
  KindSpares names (copy from to) = ⊤

  -- nor in any item of a list
  pub ItemsSpare : Names → ItemTrees → Type 0
  ItemsSpare names no_item = ⊤
  ItemsSpare names (and_item line kind items) = KindSpares names kind × ItemsSpare names items

-- values where each old name has the value of its new one
abbrev pub values_renamed : Names → List ℤ → List ℤ
values_renamed [] values = values
values_renamed (name ∷ names) values = with_variable name.0 (variable_value values name.1) (values_renamed names values)

-- the same context with other values
abbrev pub at_values : Context → List ℤ → Context
at_values context values = record context { values = values }
