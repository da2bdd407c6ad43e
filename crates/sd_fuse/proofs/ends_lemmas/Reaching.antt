-- How containers are reached that work does not mention makes no difference to it.
use Rattle.std.specs.List.{AllByRecursion}
use Rattle.std.proofs.Common.{nat_lt, None, ◌≡◌, zero, suc, ℕ, ◌-◌, ℤ, List, [], ◌∷◌, ◌++◌, map, length, Option, Ok, false, if◌then◌else◌, slice_get, refl, ap, subst}
use Rattle.std.specs.List.{flat_map, zip}
use Rattle.std.specs.Bool.{⊤}
use Rattle.sd_range.specs.Points.{points, ranges_of}
use Rattle.sd_range.specs.Subset.{elements, whole}
use Rattle.sd_work.specs.Leaf.{write_value, push_to, instance_of, copy_of, reduction_of}
use Rattle.sd_work.specs.Residual.{Items, Points, leaf, pool, idle}
use Rattle.sd_graph.specs.declared.link.Link.{Link}
use Rattle.sd_graph.specs.PlainTree.{TaskletTree, KindTree, task, map_scope, consume_scope, nested_graph, reduction, copy, ItemTrees, no_item, and_item}
use Rattle.sd_graph.specs.TreeParts.{containers_of}
use Rattle.sd_graph.specs.ContainerParts.{Containers, container_at, is_stream, is_argument}
use Rattle.sd_graph.specs.TaskletMeaning.{Effect, and_then}
use Rattle.sd_graph.specs.Wiring.{has_number, before}
use Rattle.sd_graph.specs.Context.{Reach, Context, index_at, own_reach, raised, view, reference_at, link_elements, link_element, link_extents, private_memory, frames_at, place_at}
use Rattle.sd_graph.specs.Unfold.{meaning_at, pending_by, task_of, target_place, reduction_pairs, order_of_points, at_point, at_element, element_memory, reach_through, reach_inside, run_memory, unfold_kind, unfold_items, unfold_graph}
use Rattle.sd_exchange.specs.reorder.SafePools.{HasSafePools, HaveSafePools}
use Rattle.sd_exchange.proofs.reorder_lemmas.Nearly.{same-memory}
use Rattle.sd_exchange.proofs.reorder_lemmas.Ends.{EndsAlike, EndAlike, end-none, end-also, ends-list, ends-owning}
use Rattle.sd_exchange.proofs.reorder_lemmas.PoolOrder.{ends-pool}
use Rattle.sd_exchange.proofs.reorder_lemmas.Itself.{ends-leaf, safe-works, ends-itself}
use Rattle.sd_fuse.specs.ends.Avoids.{LinkAvoids, KindAvoids, ItemsAvoid}
use Rattle.sd_exchange.proofs.ends_lemmas.Shown.{points-alike}
use Rattle.sd_exchange.specs.ends.Points.{rereached, point_of, element_term}

-- all containers but these are reached the same
abbrev pub ReachBut : (own : List ℕ) → (reach other : ℕ → Reach) → Type 0
ReachBut own reach other = (number : ℕ) → has_number own number ≡ false → reach number ≡ other number

inside-but : (own private : List ℕ) (containers : Containers) (reach other : ℕ → Reach) → ReachBut own reach other →
    ReachBut own (λ number. if has_number private number then own_reach containers number else raised (reach number)) (λ number. if has_number private number then own_reach containers number else raised (other number))
inside-but own private containers reach other h number free = ap (λ r. if has_number private number then own_reach containers number else raised r) (h number free)

-- ---- links

reads-same : (own : List ℕ) (context : Context) (other : ℕ → Reach) → ReachBut own context.reach other → (link : Link) → LinkAvoids own link → link_elements context link ≡ link_elements (rereached context other) link
reads-same own context other h link free = ap (λ r. map (reference_at r) (elements link.memlet.subset context.values)) (h link.memlet.container free)

all-reads-same : (own : List ℕ) (context : Context) (other : ℕ → Reach) → ReachBut own context.reach other → (links : List Link) → AllByRecursion (LinkAvoids own) links → flat_map (link_elements context) links ≡ flat_map (link_elements (rereached context other)) links
all-reads-same own context other h [] free = refl
all-reads-same own context other h (link ∷ links) free = λ i. reads-same own context other h link free.0 i ++ all-reads-same own context other h links free.1 i

element-same : (own : List ℕ) (context : Context) (other : ℕ → Reach) → ReachBut own context.reach other → (link : Link) → LinkAvoids own link → (at : List ℤ) → link_element context link at ≡ link_element (rereached context other) link at
element-same own context other h link free at = ap (λ r. reference_at r (index_at link.memlet.subset.dims context.values at)) (h link.memlet.container free)

pending-same : (own : List ℕ) (context : Context) (other : ℕ → Reach) → ReachBut own context.reach other → (links : List Link) → AllByRecursion (LinkAvoids own) links → (number : ℕ) (effect : Effect) →
    pending_by context (slice_get links number) effect ≡ pending_by (rereached context other) (slice_get links number) effect
pending-same own context other h [] free number effect = refl
pending-same own context other h (link ∷ links) free zero effect =
    ap (λ (reach : Reach). if is_stream (container_at context.containers link.memlet.container).kind then push_to reach.level reach.container effect.value
    else write_value effect.value (reference_at reach (index_at link.memlet.subset.dims context.values effect.at)) link.memlet.resolution)
    (h link.memlet.container free.0)
pending-same own context other h (link ∷ links) free (suc number) effect = pending-same own context other h links free.1 number effect

task-same : (own : List ℕ) (context : Context) (other : ℕ → Reach) → ReachBut own context.reach other → (code : TaskletTree) (ins outs : List Link) → AllByRecursion (LinkAvoids own) ins → AllByRecursion (LinkAvoids own) outs → task_of context code ins outs ≡ task_of (rereached context other) code ins outs
task-same own context other h code ins outs free free' = λ i.
    instance_of (all-reads-same own context other h ins free i)
    (λ read. and_then (meaning_at context code ins outs read) (λ effects. Ok (map (λ effect. if nat_lt effect.connector (length ins) then write_value effect.value None None else pending-same own context other h outs free' (effect.connector - length ins) effect i) effects)))

pairs-same : (own : List ℕ) (context : Context) (other : ℕ → Reach) → ReachBut own context.reach other → (axis : Option ℕ) (from to : Link) → LinkAvoids own from → LinkAvoids own to → reduction_pairs context axis from to ≡ reduction_pairs (rereached context other) axis from to
pairs-same own context other h axis from to free free' = λ i.
    map (λ at. (element-same own context other h from free at i, element-same own context other h to free' (target_place axis at) i)) (whole (link_extents context from))

through-same : (own : List ℕ) (context : Context) (other : ℕ → Reach) → ReachBut own context.reach other → (links : List Link) → AllByRecursion (LinkAvoids own) links → (inner : Containers) (number place : ℕ) →
    reach_through context (slice_get links place) inner number ≡ reach_through (rereached context other) (slice_get links place) inner number
through-same own context other h [] free inner number place = refl
through-same own context other h (link ∷ links) free inner number zero = ap (λ r. raised (view (container_at inner number) link.memlet.subset context.values r)) (h link.memlet.container free.0)
through-same own context other h (link ∷ links) free inner number (suc place) = through-same own context other h links free.1 inner number place

nested-same : (own : List ℕ) (context : Context) (other : ℕ → Reach) → ReachBut own context.reach other → (links : List Link) → AllByRecursion (LinkAvoids own) links → (inner : Containers) → reach_inside context links inner ≡ reach_inside (rereached context other) links inner
nested-same own context other h links free inner = λ i number. if is_argument (container_at inner number).kind then through-same own context other h links free inner number number i else own_reach inner number

-- ---- items

mutual
  pub kind-reached : (kind : KindTree) (line : ℕ) (own : List ℕ) (context : Context) (other : ℕ → Reach) → ReachBut own context.reach other → KindAvoids own kind → HasSafePools (unfold_kind kind line context) →
      EndsAlike (unfold_kind kind line context) (unfold_kind kind line (rereached context other))
  kind-reached (task code ins outs) line own context other h free safe =
      subst (λ work. EndsAlike (unfold_kind (task code ins outs) line context) (leaf (place_at context line) work)) (task-same own context other h code ins outs free.0 free.1) (ends-leaf (place_at context line) (place_at context line) (task_of context code ins outs))
  kind-reached (map_scope sequential parameters private body) line own context other h free safe =
      ends-list Points Points (order_of_points sequential) (order_of_points sequential) _ _
      (points-alike (point_of parameters private body context) (point_of parameters private body (rereached context other)) (points (ranges_of parameters) context.values)
      (λ point safe.
      ends-owning (private_memory context.containers private) (private_memory context.containers private) _ _ (same-memory (λ k. ⊤) (private_memory context.containers private))
      (ends-list Items Items (before context.containers body) (before context.containers body) _ _
      (items-reached body own (at_point context parameters private point) (at_point (rereached context other) parameters private point).reach (inside-but own private context.containers context.reach other h) free safe)))
      safe)
  kind-reached (consume_scope source element private body) line own context other h free safe =
      subst (λ (r : Reach). EndsAlike (unfold_kind (consume_scope source element private body) line context) (pool r.level r.container (element_term element private body (rereached context other)) idle false)) (h source free.0)
      (ends-pool (context.reach source).level (context.reach source).container (element_term element private body context) (element_term element private body (rereached context other))
      (safe-works (element_term element private body context) safe.1 (λ value. ends-itself (element_term element private body context value) (safe.2 value)))
      (λ value.
      ends-owning (element_memory context element private value) (element_memory context element private value) _ _ (same-memory (λ k. ⊤) (element_memory context element private value))
      (ends-list Items Items (before context.containers body) (before context.containers body) _ _
      (items-reached body own (at_element context element private value) (at_element (rereached context other) element private value).reach (inside-but own (element ∷ private) context.containers context.reach other h) free.1 (safe.2 value)))))
  kind-reached (nested_graph inner links) line own context other h free safe =
      subst (λ reach. EndsAlike (unfold_kind (nested_graph inner links) line context) (unfold_graph inner reach (run_memory (containers_of inner)) (frames_at context line))) (nested-same own context other h links free (containers_of inner))
      (ends-itself (unfold_kind (nested_graph inner links) line context) safe)
  kind-reached (reduction resolution axis identity from to) line own context other h free safe =
      subst (λ work. EndsAlike (unfold_kind (reduction resolution axis identity from to) line context) (leaf (place_at context line) work))
      (λ i. reduction_of resolution identity (reads-same own context other h to free.1 i) (pairs-same own context other h axis from to free.0 free.1 i))
      (ends-leaf (place_at context line) (place_at context line) (reduction_of resolution identity (link_elements context to) (reduction_pairs context axis from to)))
  kind-reached (copy from to) line own context other h free safe =
      subst (λ work. EndsAlike (unfold_kind (copy from to) line context) (leaf (place_at context line) work))
      (λ i. copy_of (zip (reads-same own context other h from free.0 i) (reads-same own context other h to free.1 i)))
      (ends-leaf (place_at context line) (place_at context line) (copy_of (zip (link_elements context from) (link_elements context to))))

  pub items-reached : (items : ItemTrees) (own : List ℕ) (context : Context) (other : ℕ → Reach) → ReachBut own context.reach other → ItemsAvoid own items → HaveSafePools (unfold_items items context) →
      EndAlike (unfold_items items context) (unfold_items items (rereached context other))
  items-reached no_item own context other h free safe = end-none
  items-reached (and_item line kind items) own context other h free safe =
      end-also _ _ _ _ (kind-reached kind line own context other h free.0 safe.0) (items-reached items own context other h free.1 safe.1)
