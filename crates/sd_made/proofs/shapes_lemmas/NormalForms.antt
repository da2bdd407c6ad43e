-- The expressions that a source is made into are in normal form.
use Rattle.std.proofs.Common.{◌≢◌, ℕ, zero, suc, ℤ, pos, neg_ℤ, List, [], ◌∷◌, ◌++◌, Option, Some, None, Bool, true, false, cond}
use Rattle.std.specs.List.{AllByRecursion}
use Rattle.sd_lex.specs.PlainTree.{Expression, number, named, element_at, one, two, choice, Expressions, no_expression, and_expression, Dimension, index, span, StatementTree, argument_array, local_array, local_stream, map_scope, consume_scope, for_loop, while_loop, branch, Block, no_statement, and_statement}
use Rattle.sd_lex.specs.StatementKind.{has_connector}
use Rattle.sd_lex.specs.declared.syntax.operator.OneSign.{OneSign}
use Rattle.sd_lex.specs.declared.syntax.operator.OneSign.TheVariants.{Neg}
use Rattle.sd_lex.specs.declared.syntax.operator.TwoSign.{TwoSign}
use Rattle.sd_lex.specs.declared.syntax.operator.TwoSign.TheVariants.{Add, Sub, Mul}
use Rattle.sd_range.specs.Arithmetic.{affine_zero, affine_difference, affine_product}
use Rattle.sd_range.specs.declared.affine.Affine.{Affine}
use Rattle.sd_range.specs.declared.subset.Dim.{Dim}
use Rattle.sd_range.specs.declared.subset.Dim.TheVariants.{Index, Span}
use Rattle.sd_range.proofs.Normal.{normal-combined}
use Rattle.sd_graph.specs.ContainerParts.{Containers}
use Rattle.sd_graph.specs.declared.container.Container.{Container}
use Rattle.sd_program.specs.Names.{Name, Named, in_force}
use Rattle.sd_program.specs.Affines.{affine_number, affine_name, product_of, affine_one, affine_two, affine_of, affines_of}
use Rattle.sd_task.specs.in_force.Ranges.{affine_or, range_between, extents_of}
use Rattle.sd_task.specs.in_force.Subsets.{whole, dim_of, dims_of, subset_of}
use Rattle.sd_task.specs.task.Table.{Table, extents_at, container_number}
use Rattle.sd_task.specs.task.Links.{subset_link}
use Rattle.sd_task.specs.containers.Declarations.{with_element, containers_with, containers_with_all}
use Rattle.sd_validity.proofs.bound_places_lemmas.EachPlace.{all_joined}
use Rattle.sd_validity.specs.rules.Parts.{spans_of}
use Rattle.sd_validity.specs.bound_shapes.NormalShapes.{IsNormalAffine, IsNormalRange, HasNormalRanges}

-- ---- expressions

one_is_some : pos 1 ≢ pos 0
one_is_some e = cc

name_normal : (found : Option ℕ) → IsNormalAffine (affine_name found)
name_normal None = tt
name_normal (Some variable) = (one_is_some, tt, tt)

difference_normal : (a b : Affine) → IsNormalAffine a → IsNormalAffine (affine_difference a b)
difference_normal a b normal = normal-combined a.terms (neg_ℤ (pos 1)) b.terms normal

product_normal : (factor : ℤ) (a : Affine) → IsNormalAffine (affine_product factor a)
product_normal factor a = normal-combined [] factor a.terms tt

either_product : (terms : List (ℕ × ℤ)) (left right : Affine) → IsNormalAffine (product_of terms left right)
either_product [] left right = product_normal left.constant right
either_product (term ∷ terms) left right = product_normal right.constant left

one_normal : (sign : OneSign) (of : Affine) → IsNormalAffine (affine_one sign of)
one_normal Neg of = product_normal (neg_ℤ (pos 1)) of
one_normal sign of = tt

two_normal : (sign : TwoSign) (left right : Affine) → IsNormalAffine left → IsNormalAffine (affine_two sign left right)
two_normal Add left right normal = normal-combined left.terms (pos 1) right.terms normal
two_normal Sub left right normal = normal-combined left.terms (neg_ℤ (pos 1)) right.terms normal
two_normal Mul left right normal = either_product left.terms left right
two_normal sign left right normal = tt

module _ (variables : Named ℕ) where
  affine_normal : (expression : Expression) → IsNormalAffine (affine_of variables expression)
  affine_normal (number value) = tt
  affine_normal (named name) = name_normal (in_force variables name)
  affine_normal (element_at name at) = tt
  affine_normal (one sign of) = one_normal sign (affine_of variables of)
  affine_normal (two sign left right) = two_normal sign (affine_of variables left) (affine_of variables right) (affine_normal left)
  affine_normal (choice value when other) = tt

  affines_normal : (expressions : Expressions) → AllByRecursion IsNormalAffine (affines_of variables expressions)
  affines_normal no_expression = tt
  affines_normal (and_expression first rest) = (affine_normal first, affines_normal rest)

  extents_normal : (extents : Expressions) → AllByRecursion IsNormalAffine (extents_of variables extents)
  extents_normal no_expression = (tt, tt)
  extents_normal (and_expression first rest) = affines_normal (and_expression first rest)

  or_normal : (other : Affine) (expression : Option Expression) → IsNormalAffine other → IsNormalAffine (affine_or other variables expression)
  or_normal other None normal = normal
  or_normal other (Some expression) normal = affine_normal expression

-- ---- ranges and subsets

between_normal : (begin end : Affine) (step : Option ℤ) → IsNormalAffine begin → IsNormalAffine end → IsNormalRange (range_between begin end step)
between_normal begin end step first second = (first, (difference_normal end (affine_number (pos 1)) second, tt))

abbrev IsNormalDim : Dim → Type 0
IsNormalDim (Index at) = IsNormalAffine at
IsNormalDim (Span range) = IsNormalRange range

whole_normal : (extents : List Affine) → AllByRecursion IsNormalAffine extents → AllByRecursion IsNormalDim (whole extents)
whole_normal [] normal = tt
whole_normal (extent ∷ extents) normal = (between_normal affine_zero extent None tt normal.0, whole_normal extents normal.1)

module _ (variables : Named ℕ) where
  dim_normal : (dimension : Dimension) (extent : Affine) → IsNormalAffine extent → IsNormalDim (dim_of variables dimension extent)
  dim_normal (index at) extent normal = affine_normal variables at
  dim_normal (span begin end step) extent normal =
      between_normal (affine_or affine_zero variables begin) (affine_or extent variables end) step (or_normal variables affine_zero begin tt) (or_normal variables extent end normal)

  dims_normal : (dimensions : List Dimension) (extents : List Affine) → AllByRecursion IsNormalAffine extents → AllByRecursion IsNormalDim (dims_of variables dimensions extents)
  dims_normal [] extents normal = tt
  dims_normal (dimension ∷ dimensions) [] normal = tt
  dims_normal (dimension ∷ dimensions) (extent ∷ extents) normal = (dim_normal dimension extent normal.0, dims_normal dimensions extents normal.1)

  subset_normal : (dimensions : List Dimension) (extents : List Affine) → AllByRecursion IsNormalAffine extents → AllByRecursion IsNormalDim (subset_of variables dimensions extents)
  subset_normal [] extents normal = whole_normal extents normal
  subset_normal (dimension ∷ dimensions) extents normal = dims_normal (dimension ∷ dimensions) extents normal

spans_normal : (dims : List Dim) → AllByRecursion IsNormalDim dims → AllByRecursion IsNormalRange (spans_of dims)
spans_normal [] normal = tt
spans_normal (Index at ∷ dims) normal = spans_normal dims normal.1
spans_normal (Span range ∷ dims) normal = (normal.0, spans_normal dims normal.1)

-- ---- containers

abbrev pub AreNormal : Containers → Type 0
AreNormal containers = AllByRecursion (λ entry. AllByRecursion IsNormalAffine entry.1.extents) containers

at_normal : (containers : Containers) (place : ℕ) → AreNormal containers → AllByRecursion IsNormalAffine (extents_at containers place)
at_normal [] place normal = tt
at_normal (entry ∷ containers) zero normal = normal.0
at_normal (entry ∷ containers) (suc place) normal = at_normal containers place normal.1

pub link_normal : (table : Table) (connector name : Name) (dimensions : List Dimension) → AreNormal table.all → HasNormalRanges (subset_link table connector name dimensions)
link_normal table connector name dimensions normal =
    let extents : List Affine = extents_at table.all (container_number table name) in
    spans_normal (subset_of table.variables dimensions extents) (subset_normal table.variables dimensions extents (at_normal table.all (container_number table name) normal))

one_more : (containers : Containers) (entry : Name × Container) → AreNormal containers → AllByRecursion IsNormalAffine entry.1.extents → AreNormal (containers ++ entry ∷ [])
one_more containers entry all normal = all_joined (λ entry. AllByRecursion IsNormalAffine entry.1.extents) containers (entry ∷ []) all (normal, tt)

either_normal : (is_task : Bool) (first second : Containers) → AreNormal first → AreNormal second → AreNormal (cond is_task first second)
either_normal true first second is others = is
either_normal false first second is others = others

module _ (symbols : Named ℕ) (declared : List Name) where
  mutual
    statement_normal : (statement : StatementTree) (in_scope : Bool) (before : Containers) → AreNormal before → AreNormal (containers_with symbols declared statement in_scope before)
    statement_normal (argument_array line name bits extents) in_scope before all = one_more before _ all (extents_normal symbols extents)
    statement_normal (local_array line name extents bits) in_scope before all = one_more before _ all (extents_normal symbols extents)
    statement_normal (local_stream line name bits size) in_scope before all = one_more before _ all tt
    statement_normal (map_scope line parameters ranges body) in_scope before all = block_normal body true before all
    statement_normal (consume_scope line stream size name element worker body) in_scope before all =
        let with : Containers = with_element declared before (has_connector body) element in
        let more : AreNormal with = one_more before _ all (tt, tt) in
        either_normal (has_connector body) with (containers_with_all symbols declared body true with) more (block_normal body true with more)
    statement_normal (for_loop line name begin end step body) in_scope before all = block_normal body in_scope before all
    statement_normal (while_loop line when body) in_scope before all = block_normal body in_scope before all
    statement_normal (branch line when body other) in_scope before all =
        block_normal other in_scope (containers_with_all symbols declared body in_scope before) (block_normal body in_scope before all)
    statement_normal statement in_scope before all = all

    pub block_normal : (body : Block) (in_scope : Bool) (before : Containers) → AreNormal before → AreNormal (containers_with_all symbols declared body in_scope before)
    block_normal no_statement in_scope before all = all
    block_normal (and_statement first rest) in_scope before all = block_normal rest in_scope (containers_with symbols declared first in_scope before) (statement_normal first in_scope before all)
