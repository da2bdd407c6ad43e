-- What a graph has to do where containers are reached by other numbers is its work by these numbers.
use Rattle.std.proofs.Common.{◌≡◌, ℕ, zero, suc, ℤ, pos, List, [], ◌∷◌, ◌++◌, map, length, replicate, Option, Some, None, Bool, true, false, if◌then◌else◌, slice_get, refl, ◌∙◌, ap}
use Rattle.std.specs.Option.{option_and_then}
use Rattle.sd_range.specs.declared.subset.Subset.{Subset}
use Rattle.sd_range.specs.Points.{points, ranges_of}
use Rattle.sd_range.specs.Subset.{inside}
use Rattle.sd_range.specs.Variables.{with_variables}
use Rattle.sd_work.specs.Memory.{Memory}
use Rattle.sd_work.specs.Exit.{Values}
use Rattle.sd_work.specs.Residual.{Term, leaf, list, Items, Points, owning, nested, pool, also, idle}
use Rattle.sd_pieces.specs.cut.Naming.{Naming, names_at, term_named, parts_named}
use Rattle.sd_graph.specs.PlainTree.{KindTree, task, map_scope, consume_scope, nested_graph, reduction, copy, ItemTrees, no_item, and_item, StateTrees, no_state, and_state, GraphTree, graph}
use Rattle.sd_graph.specs.TreeParts.{containers_of, exits_at}
use Rattle.sd_graph.specs.ContainerParts.{Containers, container_at, name_at, is_argument, extents_of}
use Rattle.sd_graph.specs.Wiring.{before, has_number}
use Rattle.sd_graph.specs.Context.{Reach, Context, own_reach, raised, view, index_at, private_memory, entered, frames_at, place_at, source_name}
use Rattle.sd_graph.specs.Unfold.{point_terms, order_of_points, assigned, name_of, at_point, at_element, element_memory, list_of, at_state, reach_through, reach_inside, run_memory, unfold_kind, unfold_items, unfold_state, unfold_graph}
use Rattle.sd_graph.specs.declared.container.Container.{Container}
use Rattle.sd_graph.specs.declared.link.Link.{Link}
use Rattle.sd_graph.specs.declared.place.Frame.{Frame}
use Rattle.sd_graph.specs.declared.place.Place.{Place}
use Rattle.sd_windows.specs.NamedContext.{reach_named, context_named}
use Rattle.sd_windows.proofs.NamedLeaves.{task-named, copy-named, reduction-named, exits-named}

-- ---- reaching containers

found-so : {A : Type 0} (o : Option A) → o ≡ option_and_then Some o
found-so None = refl
found-so (Some x) = refl

own-named : (w : Naming) (d : ℕ) (containers : Containers) (number : ℕ) → own_reach containers number ≡ reach_named w (suc d) (own_reach containers number)
own-named w d containers number = λ i. record { level = 0; container = number; find = λ index. found-so ((own_reach containers number).find index) i }

entered-named : (w : Naming) (d : ℕ) (x : Context) (own : List ℕ) (values : Values) (shown : List (List ℕ × ℤ)) → entered (context_named w d x) own values shown ≡ context_named w (suc d) (entered x own values shown)
entered-named w d x own values shown = λ i. record x { values = values; reach = λ number. on number (has_number own number) i; shown = x.shown ++ shown }
  where
    on : (number : ℕ) (b : Bool) → (if b then own_reach x.containers number else raised (reach_named w d (x.reach number))) ≡ reach_named w (suc d) (if b then own_reach x.containers number else raised (x.reach number))
    on number true = own-named w d x.containers number
    on number false = refl

view-named : (w : Naming) (d : ℕ) (container : Container) (subset : Subset) (values : Values) (r : Reach) → view container subset values (reach_named w d r) ≡ reach_named w d (view container subset values r)
view-named w d container subset values r = λ i. record r { find = λ index. on index (inside (extents_of container) index) i }
  where
    on : (index : List ℤ) (b : Bool) →
        (if b then option_and_then (names_at w d r.level r.container) (r.find (index_at subset.dims values index)) else None)
        ≡ option_and_then (names_at w d r.level r.container) (if b then r.find (index_at subset.dims values index) else None)
    on index true = refl
    on index false = refl

through-named : (w : Naming) (d : ℕ) (x : Context) (link : Option Link) (inner : Containers) (number : ℕ) → reach_through (context_named w d x) link inner number ≡ reach_named w (suc d) (reach_through x link inner number)
through-named w d x None inner number = own-named w d inner number
through-named w d x (Some link) inner number = ap raised (view-named w d (container_at inner number) link.memlet.subset x.values (x.reach link.memlet.container))

inside-named : (w : Naming) (d : ℕ) (x : Context) (links : List Link) (inner : Containers) → reach_inside (context_named w d x) links inner ≡ (λ number. reach_named w (suc d) (reach_inside x links inner number))
inside-named w d x links inner = λ i. λ number. on number (is_argument (container_at inner number).kind) i
  where
    on : (number : ℕ) (b : Bool) →
        (if b then reach_through (context_named w d x) (slice_get links number) inner number else own_reach inner number)
        ≡ reach_named w (suc d) (if b then reach_through x (slice_get links number) inner number else own_reach inner number)
    on number true = through-named w d x (slice_get links number) inner number
    on number false = own-named w d inner number

-- ---- points

points-named : (w : Naming) (d : ℕ) (f g : List ℤ → Term Place) → ((point : List ℤ) → f point ≡ term_named w d (g point)) → (ps : List (List ℤ)) → point_terms f ps ≡ parts_named w d (point_terms g ps)
points-named w d f g e [] = refl
points-named w d f g e (p ∷ ps) = λ i. also (e p i) (points-named w d f g e ps i)

abbrev body_of : ItemTrees → Context → Term Place
body_of body context = list_of context body (unfold_items body context)

-- ---- trees

body-named : (items : ItemTrees) (w : Naming) (d : ℕ) (x : Context) → unfold_items items (context_named w d x) ≡ parts_named w d (unfold_items items x) → body_of items (context_named w d x) ≡ term_named w d (body_of items x)
body-named items w d x e = ap (list Items (before x.containers items)) e

mutual
  pub kind-named : (kind : KindTree) (w : Naming) (d line : ℕ) (x : Context) → unfold_kind kind line (context_named w d x) ≡ term_named w d (unfold_kind kind line x)
  kind-named (task code ins outs) w d line x = ap (leaf (place_at x line)) (task-named w d x code ins outs)
  kind-named (map_scope sequential params private body) w d line x =
      ap (list Points (order_of_points sequential)) (points-named w d
      (λ point. owning (private_memory x.containers private) (body_of body (at_point (context_named w d x) params private point)))
      (λ point. owning (private_memory x.containers private) (body_of body (at_point x params private point)))
      (λ point. ap (owning (private_memory x.containers private)) (
      ap (body_of body) (entered-named w d x private (with_variables (assigned params point) x.values) (map (λ assignment. (name_of x assignment.0, assignment.1)) (assigned params point)))
      ∙ body-named body w (suc d) (at_point x params private point) (items-named body w (suc d) (at_point x params private point))
      ))
      (points (ranges_of params) x.values))
  kind-named (consume_scope stream element private body) w d line x =
      λ i. pool (x.reach stream).level (x.reach stream).container (λ value. owning (element_memory x element private value) ((
      ap (body_of body) (entered-named w d x (element ∷ private) x.values ((source_name (name_at x.containers element), value) ∷ []))
      ∙ body-named body w (suc d) (at_element x element private value) (items-named body w (suc d) (at_element x element private value))
      ) i)) idle false
  kind-named (nested_graph inner links) w d line x =
      ap (λ reach. unfold_graph inner reach (run_memory (containers_of inner)) (frames_at x line)) (inside-named w d x links (containers_of inner))
      ∙ graph-named inner w d (reach_inside x links (containers_of inner)) (run_memory (containers_of inner)) (frames_at x line)
  kind-named (reduction resolution axis identity from to) w d line x = ap (leaf (place_at x line)) (reduction-named w d resolution identity x axis from to)
  kind-named (copy from to) w d line x = ap (leaf (place_at x line)) (copy-named w d x from to)

  pub items-named : (items : ItemTrees) (w : Naming) (d : ℕ) (x : Context) → unfold_items items (context_named w d x) ≡ parts_named w d (unfold_items items x)
  items-named no_item w d x = refl
  items-named (and_item line kind items) w d x = λ i. also (kind-named kind w d line x i) (items-named items w d x i)

  state-named : (states : StateTrees) (w : Naming) (d state : ℕ) (x : Context) → unfold_state states state (context_named w d x) ≡ term_named w d (unfold_state states state x)
  state-named no_state w d state x = refl
  state-named (and_state items exits states) w d zero x = body-named items w d x (items-named items w d x)
  state-named (and_state items exits states) w d (suc state) x = state-named states w d state x

  graph-named : (tree : GraphTree) (w : Naming) (d : ℕ) (reach : ℕ → Reach) (own : Memory) (around : List Frame) →
      unfold_graph tree (λ number. reach_named w (suc d) (reach number)) own around ≡ term_named w d (unfold_graph tree reach own around)
  graph-named (graph name containers arguments variables symbols states) w d reach own around =
      λ i. nested
      (λ state values. state-named states w (suc d) state (at_state containers variables states reach around state values) i)
      (λ state values. exits-named w (suc d) (at_state containers variables states reach around state values) (exits_at states state) i)
      own 0 (replicate (length variables) (pos 0))
      (state-named states w (suc d) 0 (at_state containers variables states reach around 0 (replicate (length variables) (pos 0))) i)
