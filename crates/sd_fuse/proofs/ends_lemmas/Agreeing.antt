-- The values of variables that work does not name make no difference to it.
use Rattle.std.specs.List.{AllByRecursion}
use Rattle.std.proofs.Common.{nat_lt, ◌≡◌, zero, suc, ℕ, ◌-◌, ℤ, ◌+ℤ◌, ◌*ℤ◌, List, [], ◌∷◌, ◌++◌, map, length, Option, None, Ok, if◌then◌else◌, slice_get, refl, ap, subst}
use Rattle.std.specs.List.{flat_map, zip}
use Rattle.std.specs.Bool.{⊤}
use Rattle.sd_num.specs.Wrapped.{wrapped}
use Rattle.sd_range.specs.declared.subset.Dim.{Dim}
use Rattle.sd_range.specs.declared.subset.Dim.TheVariants.{Index, Span}
use Rattle.sd_range.specs.Affine.{variable_value}
use Rattle.sd_range.specs.Points.{product, points, tuples, ranges_of}
use Rattle.sd_range.specs.Subset.{dim_values, inside, whole}
use Rattle.sd_work.specs.Leaf.{write_value, push_to, instance_of, copy_of, reduction_of}
use Rattle.sd_work.specs.Residual.{Items, Points, leaf, list}
use Rattle.sd_subset.specs.boxes.Box.{Parameter}
use Rattle.sd_subset.specs.boxes.InForce.{IsOther}
use Rattle.sd_subset.proofs.boxes_lemmas.Named.{AgreeBut, value-agrees, range-agrees}
use Rattle.sd_graph.specs.declared.link.Link.{Link}
use Rattle.sd_graph.specs.PlainTree.{TaskletTree, KindTree, task, map_scope, consume_scope, nested_graph, reduction, copy, ItemTrees, no_item, and_item}
use Rattle.sd_graph.specs.TreeParts.{containers_of}
use Rattle.sd_graph.specs.ContainerParts.{Containers, container_at, extents_of, is_stream, is_argument}
use Rattle.sd_graph.specs.TaskletMeaning.{Effect, and_then, meaning_of}
use Rattle.sd_graph.specs.Wiring.{before}
use Rattle.sd_graph.specs.Context.{Context, span_counts, index_at, own_reach, raised, reference_at, link_elements, link_element, link_extents, private_memory, frames_at, place_at}
use Rattle.sd_graph.specs.Unfold.{cut, pending_by, task_of, target_place, reduction_pairs, assigned, order_of_points, at_point, point_terms, at_element, element_memory, reach_through, reach_inside, run_memory, unfold_kind, unfold_items, unfold_graph}
use Rattle.sd_exchange.specs.reorder.SafePools.{HasSafePools, HaveSafePools}
use Rattle.sd_exchange.proofs.reorder_lemmas.Nearly.{same-memory}
use Rattle.sd_exchange.proofs.reorder_lemmas.Ends.{EndsAlike, EndAlike, end-none, end-also, ends-list, ends-owning}
use Rattle.sd_exchange.proofs.reorder_lemmas.PoolOrder.{ends-pool}
use Rattle.sd_exchange.proofs.reorder_lemmas.Itself.{ends-leaf, safe-works, ends-itself}
use Rattle.sd_fuse.specs.ends.NamesOthers.{DimNamesOthers, LinkNamesOthers, KindNamesOthers, ItemsNameOthers}
use Rattle.sd_exchange.proofs.ends_lemmas.Nesting.{ranges-agree}
use Rattle.sd_exchange.proofs.ends_lemmas.Shown.{points-alike}
use Rattle.sd_range.specs.Variables.{with_variable, with_variables}
use Rattle.sd_exchange.specs.ends.Points.{revalued, point_of, element_term}

-- ---- subsets

dims-agree : (own : List Parameter) (values others : List ℤ) → AgreeBut own values others → (dims : List Dim) → AllByRecursion (DimNamesOthers own) dims → map (dim_values values) dims ≡ map (dim_values others) dims
dims-agree own values others agree [] named = refl
dims-agree own values others agree (Index at ∷ dims) named = λ i. (value-agrees own values others at agree named.0 i ∷ []) ∷ dims-agree own values others agree dims named.1 i
dims-agree own values others agree (Span r ∷ dims) named = λ i. range-agrees own values others r agree named.0 i ∷ dims-agree own values others agree dims named.1 i

counts-agree : (own : List Parameter) (values others : List ℤ) → AgreeBut own values others → (dims : List Dim) → AllByRecursion (DimNamesOthers own) dims → span_counts dims values ≡ span_counts dims others
counts-agree own values others agree [] named = refl
counts-agree own values others agree (Index at ∷ dims) named = counts-agree own values others agree dims named.1
counts-agree own values others agree (Span r ∷ dims) named = λ i. length (range-agrees own values others r agree named.0 i) ∷ counts-agree own values others agree dims named.1 i

index-agrees : (own : List Parameter) (values others : List ℤ) → AgreeBut own values others → (dims : List Dim) → AllByRecursion (DimNamesOthers own) dims → (at : List ℤ) → index_at dims values at ≡ index_at dims others at
index-agrees own values others agree [] named at = refl
index-agrees own values others agree (Index number ∷ dims) named at = λ i. value-agrees own values others number agree named.0 i ∷ index-agrees own values others agree dims named.1 at i
index-agrees own values others agree (Span r ∷ dims) named [] = λ i. value-agrees own values others r.begin agree named.0.0 i ∷ index-agrees own values others agree dims named.1 [] i
index-agrees own values others agree (Span r ∷ dims) named (number ∷ at) = λ i. (value-agrees own values others r.begin agree named.0.0 i +ℤ (r.step *ℤ number)) ∷ index-agrees own values others agree dims named.1 at i

-- ---- links

link-elements-agree : (own : List Parameter) (context : Context) (others : List ℤ) → AgreeBut own context.values others → (link : Link) → LinkNamesOthers own link → link_elements context link ≡ link_elements (revalued context others) link
link-elements-agree own context others agree link named = λ i. map (reference_at (context.reach link.memlet.container)) (tuples (dims-agree own context.values others agree link.memlet.subset.dims named i))

link-element-agrees : (own : List Parameter) (context : Context) (others : List ℤ) → AgreeBut own context.values others → (link : Link) → LinkNamesOthers own link → (at : List ℤ) → link_element context link at ≡ link_element (revalued context others) link at
link-element-agrees own context others agree link named at = ap (reference_at (context.reach link.memlet.container)) (index-agrees own context.values others agree link.memlet.subset.dims named at)

all-elements-agree : (own : List Parameter) (context : Context) (others : List ℤ) → AgreeBut own context.values others → (links : List Link) → AllByRecursion (LinkNamesOthers own) links → flat_map (link_elements context) links ≡ flat_map (link_elements (revalued context others)) links
all-elements-agree own context others agree [] named = refl
all-elements-agree own context others agree (link ∷ links) named = λ i. link-elements-agree own context others agree link named.0 i ++ all-elements-agree own context others agree links named.1 i

extents-agree : (own : List Parameter) (context : Context) (others : List ℤ) → AgreeBut own context.values others → (links : List Link) → AllByRecursion (LinkNamesOthers own) links → map (link_extents context) links ≡ map (link_extents (revalued context others)) links
extents-agree own context others agree [] named = refl
extents-agree own context others agree (link ∷ links) named = λ i. counts-agree own context.values others agree link.memlet.subset.dims named.0 i ∷ extents-agree own context others agree links named.1 i

sizes-agree : (own : List Parameter) (context : Context) (others : List ℤ) → AgreeBut own context.values others → (links : List Link) → AllByRecursion (LinkNamesOthers own) links →
    map (λ link. product (link_extents context link)) links ≡ map (λ link. product (link_extents (revalued context others) link)) links
sizes-agree own context others agree [] named = refl
sizes-agree own context others agree (link ∷ links) named = λ i. product (counts-agree own context.values others agree link.memlet.subset.dims named.0 i) ∷ sizes-agree own context others agree links named.1 i

both-named : (own : List Parameter) (ins outs : List Link) → AllByRecursion (LinkNamesOthers own) ins → AllByRecursion (LinkNamesOthers own) outs → AllByRecursion (LinkNamesOthers own) (ins ++ outs)
both-named own [] outs h g = g
both-named own (link ∷ ins) outs h g = (h.0, both-named own ins outs h.1 g)

-- ---- tasklets

variables-agree : (own : List Parameter) (values others : List ℤ) → AgreeBut own values others → (variables : List ℕ) → AllByRecursion (IsOther own) variables → map (λ variable. wrapped (variable_value values variable)) variables ≡ map (λ variable. wrapped (variable_value others variable)) variables
variables-agree own values others agree [] named = refl
variables-agree own values others agree (variable ∷ variables) named = λ i. wrapped (agree variable named.0 i) ∷ variables-agree own values others agree variables named.1 i

pending-agrees : (own : List Parameter) (context : Context) (others : List ℤ) → AgreeBut own context.values others → (links : List Link) → AllByRecursion (LinkNamesOthers own) links → (number : ℕ) (effect : Effect) →
    pending_by context (slice_get links number) effect ≡ pending_by (revalued context others) (slice_get links number) effect
pending-agrees own context others agree [] named number effect = refl
pending-agrees own context others agree (link ∷ links) named zero effect =
    ap (λ element. (
    let reach = context.reach link.memlet.container in
    if is_stream (container_at context.containers link.memlet.container).kind then push_to reach.level reach.container effect.value else write_value effect.value element link.memlet.resolution))
    (link-element-agrees own context others agree link named.0 effect.at)
pending-agrees own context others agree (link ∷ links) named (suc number) effect = pending-agrees own context others agree links named.1 number effect

task-agrees : (own : List Parameter) (context : Context) (others : List ℤ) → AgreeBut own context.values others → (code : TaskletTree) (ins outs : List Link) → KindNamesOthers own (task code ins outs) → task_of context code ins outs ≡ task_of (revalued context others) code ins outs
task-agrees own context others agree code ins outs named = λ i.
    instance_of (all-elements-agree own context others agree ins named.1 i)
    (λ read. and_then (meaning_of code (record {
      values = cut (sizes-agree own context others agree ins named.1 i) read;
      extents = extents-agree own context others agree (ins ++ outs) (both-named own ins outs named.1 named.2) i;
      variables = variables-agree own context.values others agree code.variables named.0 i;
    })) (λ effects. Ok (map (λ effect. if nat_lt effect.connector (length ins) then write_value effect.value None None else pending-agrees own context others agree outs named.2 (effect.connector - length ins) effect i) effects)))

-- ---- reductions, copies, nested graphs

pairs-agree : (own : List Parameter) (context : Context) (others : List ℤ) → AgreeBut own context.values others → (axis : Option ℕ) (from to : Link) → LinkNamesOthers own from → LinkNamesOthers own to → reduction_pairs context axis from to ≡ reduction_pairs (revalued context others) axis from to
pairs-agree own context others agree axis from to named named' = λ i.
    map (λ at. (link-element-agrees own context others agree from named at i, link-element-agrees own context others agree to named' (target_place axis at) i)) (whole (counts-agree own context.values others agree from.memlet.subset.dims named i))

through-agrees : (own : List Parameter) (context : Context) (others : List ℤ) → AgreeBut own context.values others → (links : List Link) → AllByRecursion (LinkNamesOthers own) links → (inner : Containers) (number place : ℕ) →
    reach_through context (slice_get links place) inner number ≡ reach_through (revalued context others) (slice_get links place) inner number
through-agrees own context others agree [] named inner number place = refl
through-agrees own context others agree (link ∷ links) named inner number zero = λ i.
    raised (record (context.reach link.memlet.container) { find = λ index. if inside (extents_of (container_at inner number)) index then (context.reach link.memlet.container).find (index-agrees own context.values others agree link.memlet.subset.dims named.0 index i) else None })
through-agrees own context others agree (link ∷ links) named inner number (suc place) = through-agrees own context others agree links named.1 inner number place

inside-agrees : (own : List Parameter) (context : Context) (others : List ℤ) → AgreeBut own context.values others → (links : List Link) → AllByRecursion (LinkNamesOthers own) links → (inner : Containers) → reach_inside context links inner ≡ reach_inside (revalued context others) links inner
inside-agrees own context others agree links named inner = λ i number. if is_argument (container_at inner number).kind then through-agrees own context others agree links named inner number number i else own_reach inner number

-- ---- setting more variables

set-agrees : (own : List Parameter) (variable : ℕ) (value : ℤ) (values others : List ℤ) → AgreeBut own values others → AgreeBut own (with_variable variable value values) (with_variable variable value others)
set-agrees own variable value values others agree asked other = set-one variable asked value values others (agree asked other)
  where
    set-one : (variable asked : ℕ) (value : ℤ) (values others : List ℤ) → variable_value values asked ≡ variable_value others asked → variable_value (with_variable variable value values) asked ≡ variable_value (with_variable variable value others) asked
    set-one zero zero value [] [] e = refl
    set-one zero zero value [] (o ∷ others) e = refl
    set-one zero zero value (v ∷ values) [] e = refl
    set-one zero zero value (v ∷ values) (o ∷ others) e = refl
    set-one zero (suc asked) value [] [] e = refl
    set-one zero (suc asked) value [] (o ∷ others) e = e
    set-one zero (suc asked) value (v ∷ values) [] e = e
    set-one zero (suc asked) value (v ∷ values) (o ∷ others) e = e
    set-one (suc variable) zero value [] [] e = refl
    set-one (suc variable) zero value [] (o ∷ others) e = e
    set-one (suc variable) zero value (v ∷ values) [] e = e
    set-one (suc variable) zero value (v ∷ values) (o ∷ others) e = e
    set-one (suc variable) (suc asked) value [] [] e = refl
    set-one (suc variable) (suc asked) value [] (o ∷ others) e = set-one variable asked value [] others e
    set-one (suc variable) (suc asked) value (v ∷ values) [] e = set-one variable asked value values [] e
    set-one (suc variable) (suc asked) value (v ∷ values) (o ∷ others) e = set-one variable asked value values others e

all-set-agree : (own params : List Parameter) (point values others : List ℤ) → AgreeBut own values others → AgreeBut own (with_variables (assigned params point) values) (with_variables (assigned params point) others)
all-set-agree own [] point values others agree = agree
all-set-agree own (parameter ∷ params) [] values others agree = agree
all-set-agree own (parameter ∷ params) (number ∷ point) values others agree =
    all-set-agree own params point (with_variable parameter.0 number values) (with_variable parameter.0 number others) (set-agrees own parameter.0 number values others agree)

-- ---- items

mutual
  pub kind-agrees : (kind : KindTree) (line : ℕ) (own : List Parameter) (context : Context) (others : List ℤ) → AgreeBut own context.values others → KindNamesOthers own kind → HasSafePools (unfold_kind kind line context) →
      EndsAlike (unfold_kind kind line context) (unfold_kind kind line (revalued context others))
  kind-agrees (task code ins outs) line own context others agree named safe =
      subst (λ work. EndsAlike (unfold_kind (task code ins outs) line context) (leaf (place_at context line) work)) (task-agrees own context others agree code ins outs named) (ends-leaf (place_at context line) (place_at context line) (task_of context code ins outs))
  kind-agrees (map_scope sequential parameters private body) line own context others agree named safe =
      subst (λ all. EndsAlike (unfold_kind (map_scope sequential parameters private body) line context) (list Points (order_of_points sequential) (point_terms (point_of parameters private body (revalued context others)) all)))
      (ap tuples (ranges-agree own parameters context.values others agree named.0))
      (ends-list Points Points (order_of_points sequential) (order_of_points sequential) _ _
      (points-alike (point_of parameters private body context) (point_of parameters private body (revalued context others)) (points (ranges_of parameters) context.values)
      (λ point safe.
      ends-owning (private_memory context.containers private) (private_memory context.containers private) _ _ (same-memory (λ k. ⊤) (private_memory context.containers private))
      (ends-list Items Items (before context.containers body) (before context.containers body) _ _
      (items-agree body own (at_point context parameters private point) (with_variables (assigned parameters point) others) (all-set-agree own parameters point context.values others agree) named.1 safe)))
      safe))
  kind-agrees (consume_scope source element private body) line own context others agree named safe =
      ends-pool (context.reach source).level (context.reach source).container (element_term element private body context) (element_term element private body (revalued context others))
      (safe-works (element_term element private body context) safe.1 (λ value. ends-itself (element_term element private body context value) (safe.2 value)))
      (λ value.
      ends-owning (element_memory context element private value) (element_memory context element private value) _ _ (same-memory (λ k. ⊤) (element_memory context element private value))
      (ends-list Items Items (before context.containers body) (before context.containers body) _ _
      (items-agree body own (at_element context element private value) others agree named (safe.2 value))))
  kind-agrees (nested_graph inner links) line own context others agree named safe =
      subst (λ reach. EndsAlike (unfold_kind (nested_graph inner links) line context) (unfold_graph inner reach (run_memory (containers_of inner)) (frames_at context line))) (inside-agrees own context others agree links named (containers_of inner))
      (ends-itself (unfold_kind (nested_graph inner links) line context) safe)
  kind-agrees (reduction resolution axis identity from to) line own context others agree named safe =
      subst (λ work. EndsAlike (unfold_kind (reduction resolution axis identity from to) line context) (leaf (place_at context line) work))
      (λ i. reduction_of resolution identity (link-elements-agree own context others agree to named.1 i) (pairs-agree own context others agree axis from to named.0 named.1 i))
      (ends-leaf (place_at context line) (place_at context line) (reduction_of resolution identity (link_elements context to) (reduction_pairs context axis from to)))
  kind-agrees (copy from to) line own context others agree named safe =
      subst (λ work. EndsAlike (unfold_kind (copy from to) line context) (leaf (place_at context line) work))
      (λ i. copy_of (zip (link-elements-agree own context others agree from named.0 i) (link-elements-agree own context others agree to named.1 i)))
      (ends-leaf (place_at context line) (place_at context line) (copy_of (zip (link_elements context from) (link_elements context to))))

  pub items-agree : (items : ItemTrees) (own : List Parameter) (context : Context) (others : List ℤ) → AgreeBut own context.values others → ItemsNameOthers own items → HaveSafePools (unfold_items items context) →
      EndAlike (unfold_items items context) (unfold_items items (revalued context others))
  items-agree no_item own context others agree named safe = end-none
  items-agree (and_item line kind items) own context others agree named safe =
      end-also _ _ _ _ (kind-agrees kind line own context others agree named.0 safe.0) (items-agree items own context others agree named.1 safe.1)
