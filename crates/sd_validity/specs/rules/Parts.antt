-- The parts of what stands at a place, and tests of all of them.
use Rattle.std.specs.Prelude.{ℕ, List, [], ◌∷◌, Option, Some, None, Bool, true, false, ◌&&◌}
use Rattle.std.specs.List.{list_all}
use Rattle.sd_range.specs.declared.affine.Affine.{Affine}
use Rattle.sd_range.specs.declared.range.Range.{Range}
use Rattle.sd_range.specs.declared.subset.Dim.{Dim}
use Rattle.sd_range.specs.declared.subset.Dim.TheVariants.{Index, Span}
use Rattle.sd_graph.specs.declared.link.Link.{Link}
use Rattle.sd_graph.specs.PlainTree.{KindTree, task, map_scope, consume_scope, nested_graph, reduction, copy, GuardTree, ExitTree, TaskletTree}
use Rattle.sd_validity.specs.rules.Places.{Thing, whole, leaving, doing}

-- a list without members
abbrev pub is_empty : {A : Type 0} → List A → Bool
is_empty [] = true
is_empty (first ∷ rest) = false

abbrev pub container_of : Link → ℕ
container_of link = link.memlet.container

-- the ranges of a subset
abbrev pub spans_of : List Dim → List Range
spans_of [] = []
spans_of (Index at ∷ dims) = spans_of dims
spans_of (Span range ∷ dims) = range ∷ spans_of dims

abbrev pub link_spans : Link → List Range
link_spans link = spans_of link.memlet.subset.dims

-- tests of links, of the ranges of subsets and of parameters, of affine expressions, and of code
pub record Tests : Type 0 where
  pub link : Link → Bool
  pub range : Range → Bool
  pub expression : Affine → Bool
  pub code : TaskletTree → Bool

-- a range with its begin and its ends
abbrev pub is_range_passed : Tests → Range → Bool
is_range_passed tests range = tests.range range && (tests.expression range.begin && list_all tests.expression range.ends)

abbrev pub is_dim_passed : Tests → Dim → Bool
is_dim_passed tests (Index at) = tests.expression at
is_dim_passed tests (Span range) = is_range_passed tests range

-- a link with its subset
abbrev pub is_link_passed : Tests → Link → Bool
is_link_passed tests link = tests.link link && list_all (is_dim_passed tests) link.memlet.subset.dims

abbrev pub are_links_passed : Tests → List Link → Bool
are_links_passed tests links = list_all (is_link_passed tests) links

-- the parameters of a map
abbrev pub are_params_passed : Tests → List (ℕ × Range) → Bool
are_params_passed tests params = list_all (λ param. is_range_passed tests param.1) params

-- a condition, with what it reads
abbrev pub is_condition_passed : Tests → Option GuardTree → Bool
is_condition_passed tests None = true
is_condition_passed tests (Some guard) = are_links_passed tests guard.reads && tests.code guard.code

-- a transition, with what it gives to variables
abbrev pub is_exit_passed : Tests → ExitTree → Bool
is_exit_passed tests exit = is_condition_passed tests exit.when && list_all (λ assignment. tests.expression assignment.1) exit.set

-- an item itself, without the items of its body and the graph that is nested in it
abbrev pub is_kind_passed : Tests → KindTree → Bool
is_kind_passed tests (task code ins outs) = tests.code code && (are_links_passed tests ins && are_links_passed tests outs)
is_kind_passed tests (map_scope sequential params private body) = are_params_passed tests params
is_kind_passed tests (consume_scope stream element private body) = true
is_kind_passed tests (nested_graph inner links) = are_links_passed tests links
is_kind_passed tests (reduction resolution axis identity from to) = is_link_passed tests from && is_link_passed tests to
is_kind_passed tests (copy from to) = is_link_passed tests from && is_link_passed tests to

-- what stands at a place
abbrev pub is_thing_passed : Tests → Thing → Bool
is_thing_passed tests whole = true
is_thing_passed tests (leaving items exits) = list_all (is_exit_passed tests) exits
is_thing_passed tests (doing kind) = is_kind_passed tests kind
