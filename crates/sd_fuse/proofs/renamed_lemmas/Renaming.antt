-- Work with variables renamed is the work at the values of the old names.
use Rattle.std.specs.List.{AllByRecursion, zip}
use Rattle.std.proofs.Common.{◌≡◌, ◌≢◌, zero, suc, ℕ, ℤ, pos, List, [], ◌∷◌, map, false, refl, sym, ◌∙◌, ap}
use Rattle.sd_range.specs.declared.range.Range.{Range}
use Rattle.sd_range.specs.Affine.{variable_value}
use Rattle.sd_range.specs.Range.{range_values}
use Rattle.sd_range.specs.Points.{tuples, ranges_of}
use Rattle.sd_range.specs.Variables.{with_variable, with_variables}
use Rattle.sd_range.proofs.Variables.{variable_kept}
use Rattle.sd_work.specs.Leaf.{copy_of, reduction_of}
use Rattle.sd_work.specs.Residual.{Items, Points, leaf, list, owning, pool, also, idle}
use Rattle.sd_graph.specs.PlainTree.{KindTree, task, map_scope, consume_scope, nested_graph, reduction, copy, ItemTrees, no_item, and_item}
use Rattle.sd_graph.specs.TreeParts.{containers_of}
use Rattle.sd_graph.specs.Context.{entered, Context, private_memory, frames_at, place_at}
use Rattle.sd_graph.specs.Unfold.{assigned, order_of_points, at_point, point_terms, at_element, element_memory, name_of, run_memory, unfold_kind, unfold_items, unfold_graph}
use Rattle.sd_fuse.specs.renamed.Renamed.{Names, values_renamed, at_values, ranges_renamed, kind_renamed, items_renamed, IsNoName, KindSpares, ItemsSpare}
use Rattle.sd_fuse.proofs.renamed_lemmas.Expressions.{range-renamed}
use Rattle.sd_fuse.proofs.renamed_lemmas.Links.{elements-same, task-same, pairs-same, inside-same}
use Rattle.sd_fuse.proofs.renamed_lemmas.Uses.{before-renamed}

-- ---- setting more variables

set-both : (i j : ℕ) (x y : ℤ) (values : List ℤ) → i ≢ j → with_variable i x (with_variable j y values) ≡ with_variable j y (with_variable i x values)
set-both zero zero x y values n = absurd (n refl)
set-both zero (suc j) x y [] n = refl
set-both zero (suc j) x y (v ∷ values) n = refl
set-both (suc i) zero x y [] n = refl
set-both (suc i) zero x y (v ∷ values) n = refl
set-both (suc i) (suc j) x y [] n = ap (λ vs. pos 0 ∷ vs) (set-both i j x y [] (λ e. n (ap suc e)))
set-both (suc i) (suc j) x y (v ∷ values) n = ap (λ vs. v ∷ vs) (set-both i j x y values (λ e. n (ap suc e)))

-- a variable that is no name may be set before or behind
set-named : (names : Names) (variable : ℕ) (value : ℤ) (values : List ℤ) → IsNoName names variable → values_renamed names (with_variable variable value values) ≡ with_variable variable value (values_renamed names values)
set-named [] variable value values spare = refl
set-named (name ∷ names) variable value values spare =
    (λ i. with_variable name.0 (variable_kept variable name.1 value values spare.0.1 i) (set-named names variable value values spare.1 i))
    ∙ sym (set-both variable name.0 value (variable_value values name.1) (values_renamed names values) spare.0.0)

all-set-named : (names : Names) (params : List (ℕ × Range)) (point : List ℤ) (values : List ℤ) → AllByRecursion (λ param. IsNoName names param.0) params →
    values_renamed names (with_variables (assigned params point) values) ≡ with_variables (assigned params point) (values_renamed names values)
all-set-named names [] point values spare = refl
all-set-named names (param ∷ params) [] values spare = refl
all-set-named names (param ∷ params) (value ∷ point) values spare =
    all-set-named names params point (with_variable param.0 value values) spare.1 ∙ ap (with_variables (assigned params point)) (set-named names param.0 value values spare.0)

same-parameters : (names : Names) (params : List (ℕ × Range)) → map (λ param. param.0) (ranges_renamed names params) ≡ map (λ param. param.0) params
same-parameters names [] = refl
same-parameters names (param ∷ params) = ap (λ rest. param.0 ∷ rest) (same-parameters names params)

pub ranges-renamed : (names : Names) (values : List ℤ) (params : List (ℕ × Range)) → map (range_values values) (ranges_of (ranges_renamed names params)) ≡ map (range_values (values_renamed names values)) (ranges_of params)
ranges-renamed names values [] = refl
ranges-renamed names values (param ∷ params) = λ i. range-renamed names values param.1 i ∷ ranges-renamed names values params i

-- ---- items

-- a point of a map with renamed ranges
point-same : (names : Names) (params : List (ℕ × Range)) (private : List ℕ) (context : Context) (values point : List ℤ) → AllByRecursion (λ param. IsNoName names param.0) params →
    at_values (at_point (at_values context values) (ranges_renamed names params) private point) (values_renamed names (with_variables (assigned (ranges_renamed names params) point) values))
    ≡ at_point (at_values context (values_renamed names values)) params private point
point-same names params private context values point spare =
    (λ i. at_values (at_renamed (zip (same-parameters names params i) point)) (values_renamed names (with_variables (zip (same-parameters names params i) point) values)))
    ∙ (λ i. at_values (at_renamed (assigned params point)) (all-set-named names params point values spare i))
  where
    at_renamed : List (ℕ × ℤ) → Context
    at_renamed assignments = entered (at_values context values) private values (map (λ assignment. (name_of context assignment.0, assignment.1)) assignments)

point-items : (names : Names) (params : List (ℕ × Range)) (private : List ℕ) (body : ItemTrees) (context : Context) (values point : List ℤ) → AllByRecursion (λ param. IsNoName names param.0) params →
    ((inside : Context) → unfold_items (items_renamed names body) (at_values inside (with_variables (assigned (ranges_renamed names params) point) values))
    ≡ unfold_items body (at_values inside (values_renamed names (with_variables (assigned (ranges_renamed names params) point) values)))) →
    unfold_items (items_renamed names body) (at_point (at_values context values) (ranges_renamed names params) private point) ≡ unfold_items body (at_point (at_values context (values_renamed names values)) params private point)
point-items names params private body context values point spare each =
    each (at_point (at_values context values) (ranges_renamed names params) private point) ∙ ap (unfold_items body) (point-same names params private context values point spare)

mutual
  pub kind-renamed : (names : Names) (kind : KindTree) (line : ℕ) (context : Context) (values : List ℤ) → KindSpares names kind →
      unfold_kind (kind_renamed names kind) line (at_values context values) ≡ unfold_kind kind line (at_values context (values_renamed names values))
  kind-renamed names (task code ins outs) line context values spare = ap (leaf (place_at context line)) (task-same names context values code ins outs)
  kind-renamed names (map_scope sequential params private body) line context values spare = λ i.
      list Points (order_of_points sequential)
      (point_terms (λ point. owning (private_memory context.containers private) (list Items (before-renamed names body context.containers i) (point-items names params private body context values point spare.0 (λ inside. items-renamed names body inside (with_variables (assigned (ranges_renamed names params) point) values) spare.1) i)))
      (tuples (ranges-renamed names values params i)))
  kind-renamed names (consume_scope source element private body) line context values spare = λ i.
      pool (context.reach source).level (context.reach source).container
      (λ value. owning (element_memory context element private value) (list Items (before-renamed names body context.containers i) (items-renamed names body (at_element (at_values context values) element private value) values spare i)))
      idle false
  kind-renamed names (nested_graph inner links) line context values spare = ap (λ reach. unfold_graph inner reach (run_memory (containers_of inner)) (frames_at context line)) (inside-same names context values links (containers_of inner))
  kind-renamed names (reduction resolution axis identity from to) line context values spare = λ i.
      leaf (place_at context line) (reduction_of resolution identity (elements-same names context values to i) (pairs-same names context values axis from to i))
  kind-renamed names (copy from to) line context values spare = λ i. leaf (place_at context line) (copy_of (zip (elements-same names context values from i) (elements-same names context values to i)))

  pub items-renamed : (names : Names) (items : ItemTrees) (context : Context) (values : List ℤ) → ItemsSpare names items →
      unfold_items (items_renamed names items) (at_values context values) ≡ unfold_items items (at_values context (values_renamed names values))
  items-renamed names no_item context values spare = refl
  items-renamed names (and_item line kind items) context values spare = λ i. also (kind-renamed names kind line context values spare.0 i) (items-renamed names items context values spare.1 i)
