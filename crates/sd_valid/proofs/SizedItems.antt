-- The work of single items, conditions and transitions with sizes.
use Rattle.std.proofs.Common.{◌≡◌, ℕ, ◌-◌, nat_lt, ℤ, List, [], ◌∷◌, ◌++◌, map, length, Option, Some, None, option_map, Ok, Bool, if◌then◌else◌, refl, ap, ◌∙◌}
use Rattle.std.specs.Prelude.{slice_get}
use Rattle.std.specs.List.{flat_map, zip}
use Rattle.std.proofs.Math.Path.{fun_ext}
use Rattle.std.proofs.lemmas.List.{length-map}
use Rattle.std.proofs.lemmas.Option.{slice_get-map}
use Rattle.sd_range.specs.Affine.{affine_value}
use Rattle.sd_range.specs.Variables.{with_variables}
use Rattle.sd_range.specs.Points.{product}
use Rattle.sd_range.specs.Subset.{inside, whole}
use Rattle.sd_range.specs.declared.affine.Affine.{Affine}
use Rattle.sd_range.specs.declared.range.Range.{Range}
use Rattle.sd_work.specs.Memory.{Reference}
use Rattle.sd_work.specs.Leaf.{Pending, instance_of}
use Rattle.sd_work.specs.Exit as work
use Rattle.sd_work.specs.Residual.{Term, list, Points, owning}
use Rattle.sd_graph.specs.PlainTree.{TaskletTree, GuardTree, ExitTree}
use Rattle.sd_graph.specs.ContainerParts.{Containers, container_at, is_argument, extents_of}
use Rattle.sd_graph.specs.TaskletMeaning.{Effect, Meaning, and_then, meaning_of}
use Rattle.sd_graph.specs.Context.{Reach, Context, own_reach, raised, reference_at, link_elements, link_element, link_extents, entered, place_at, private_memory}
use Rattle.sd_graph.specs.Unfold.{cut, meaning_at, pending_through, pending_by, pending_of, task_of, does_hold, guard_of, exit_of, target_place, reduction_pairs, name_of, at_point, map_over, point_terms, order_of_points, reach_through, reach_inside}
use Rattle.sd_graph.specs.declared.link.Link.{Link}
use Rattle.sd_graph.specs.declared.place.Place.{Place}
use Rattle.sd_valid.specs.BoundExpression.{bound_link, bound_assignment, bound_param}
use Rattle.sd_valid.specs.BoundCode.{bound_tasklet}
use Rattle.sd_valid.specs.BoundTree.{bound_guard, bound_exit}
use Rattle.sd_valid.specs.SizedValues.{sized, AreElements}
use Rattle.sd_valid.specs.SizedWork.{at_sizes, sized_exit}
use Rattle.sd_valid.proofs.SizedLaws.{bound-value, bound-elements, bound-counts, bound-index}
use Rattle.sd_valid.proofs.BoundMeaning.{made, values_in, meaning-bound}

-- ---- links

pub elements_same : (sizes : List ℤ) (context : Context) (link : Link) → link_elements context (bound_link sizes link) ≡ link_elements (at_sizes sizes context) link
elements_same sizes context link = ap (map (reference_at (context.reach link.memlet.container))) (bound-elements sizes context.values link.memlet.subset)

pub extents_same : (sizes : List ℤ) (context : Context) (link : Link) → link_extents context (bound_link sizes link) ≡ link_extents (at_sizes sizes context) link
extents_same sizes context link = bound-counts sizes context.values link.memlet.subset.dims

pub element_same : (sizes : List ℤ) (context : Context) (link : Link) (at : List ℤ) → link_element context (bound_link sizes link) at ≡ link_element (at_sizes sizes context) link at
element_same sizes context link at = ap (reference_at (context.reach link.memlet.container)) (bound-index sizes context.values link.memlet.subset.dims at)

all_elements_same : (sizes : List ℤ) (context : Context) (links : List Link) → flat_map (link_elements context) (map (bound_link sizes) links) ≡ flat_map (link_elements (at_sizes sizes context)) links
all_elements_same sizes context [] = refl
all_elements_same sizes context (link ∷ links) = rw (elements_same sizes context link, all_elements_same sizes context links) refl

counts_same : (sizes : List ℤ) (context : Context) (links : List Link) →
    map (λ link. product (link_extents context link)) (map (bound_link sizes) links) ≡ map (λ link. product (link_extents (at_sizes sizes context) link)) links
counts_same sizes context [] = refl
counts_same sizes context (link ∷ links) = rw (extents_same sizes context link, counts_same sizes context links) refl

all_extents_same : (sizes : List ℤ) (context : Context) (links : List Link) → map (link_extents context) (map (bound_link sizes) links) ≡ map (link_extents (at_sizes sizes context)) links
all_extents_same sizes context [] = refl
all_extents_same sizes context (link ∷ links) = rw (extents_same sizes context link, all_extents_same sizes context links) refl

both_extents_same : (sizes : List ℤ) (context : Context) (ins outs : List Link) →
    map (link_extents context) (map (bound_link sizes) ins ++ map (bound_link sizes) outs) ≡ map (link_extents (at_sizes sizes context)) (ins ++ outs)
both_extents_same sizes context [] outs = all_extents_same sizes context outs
both_extents_same sizes context (link ∷ ins) outs = rw (extents_same sizes context link, both_extents_same sizes context ins outs) refl

-- ---- tasklets and conditions

meaning_same : (sizes : List ℤ) (context : Context) (code : TaskletTree) (ins outs : List Link) (read : List ℤ) → AreElements sizes →
    meaning_at context (bound_tasklet sizes code) (map (bound_link sizes) ins) (map (bound_link sizes) outs) read ≡ meaning_at (at_sizes sizes context) code ins outs read
meaning_same sizes context code ins outs read fit =
    let own = values_in context.values code.variables in
    let counts = map (λ link. product (link_extents (at_sizes sizes context) link)) ins in
    let extents = map (link_extents (at_sizes sizes context)) (ins ++ outs) in
    ap (λ (lengths : List ℕ). meaning_of (bound_tasklet sizes code) (made (cut lengths read) (map (link_extents context) (map (bound_link sizes) ins ++ map (bound_link sizes) outs)) own)) (counts_same sizes context ins)
    ∙ ap (λ (all : List (List ℕ)). meaning_of (bound_tasklet sizes code) (made (cut counts read) all own)) (both_extents_same sizes context ins outs)
    ∙ meaning-bound sizes context.values code (cut counts read) extents fit

through_link_same : (sizes : List ℤ) (context : Context) (link : Link) (effect : Effect) → pending_through context (bound_link sizes link) effect ≡ pending_through (at_sizes sizes context) link effect
through_link_same sizes context link effect = rw (element_same sizes context link effect.at) refl

by_same : (sizes : List ℤ) (context : Context) (link : Option Link) (effect : Effect) → pending_by context (option_map (bound_link sizes) link) effect ≡ pending_by (at_sizes sizes context) link effect
by_same sizes context None effect = refl
by_same sizes context (Some link) effect = through_link_same sizes context link effect

pending_same : (sizes : List ℤ) (context : Context) (ins outs : List Link) (effect : Effect) →
    pending_of context (map (bound_link sizes) ins) (map (bound_link sizes) outs) effect ≡ pending_of (at_sizes sizes context) ins outs effect
pending_same sizes context ins outs effect =
    ap (λ (count : ℕ). if nat_lt effect.connector count then pending_by context None effect else pending_by context (slice_get (map (bound_link sizes) outs) (effect.connector - count)) effect) (length-map ins (bound_link sizes))
    ∙ ap (λ (pending : Pending). if nat_lt effect.connector (length ins) then pending_by context None effect else pending)
    (ap (λ (link : Option Link). pending_by context link effect) (slice_get-map (bound_link sizes) outs (effect.connector - length ins)) ∙ by_same sizes context (slice_get outs (effect.connector - length ins)) effect)

pub task_same : (sizes : List ℤ) (context : Context) (code : TaskletTree) (ins outs : List Link) → AreElements sizes →
    task_of context (bound_tasklet sizes code) (map (bound_link sizes) ins) (map (bound_link sizes) outs) ≡ task_of (at_sizes sizes context) code ins outs
task_same sizes context code ins outs fit =
    let bound = bound_tasklet sizes code in
    let bound_ins = map (bound_link sizes) ins in
    let bound_outs = map (bound_link sizes) outs in
    ap (λ (reads : List (Option Reference)). instance_of reads (λ read. and_then (meaning_at context bound bound_ins bound_outs read) (λ effects. Ok (map (pending_of context bound_ins bound_outs) effects)))) (all_elements_same sizes context ins)
    ∙ ap (instance_of (flat_map (link_elements (at_sizes sizes context)) ins)) (fun_ext (λ read.
    ap (λ (meaning : Meaning (List Effect)). and_then meaning (λ effects. Ok (map (pending_of context bound_ins bound_outs) effects))) (meaning_same sizes context code ins outs read fit)
    ∙ ap (λ (pending : Effect → Pending). and_then (meaning_at (at_sizes sizes context) code ins outs read) (λ effects. Ok (map pending effects))) (fun_ext (pending_same sizes context ins outs))))

-- a condition of these parts
abbrev pub made_guard : Place → List (Option Reference) → (List ℤ → Meaning Bool) → work.Guard Place
made_guard place reads holds = record { place = place; reads = reads; holds = holds }

guard_work : (sizes : List ℤ) (context : Context) (guard : GuardTree) → AreElements sizes → guard_of context (bound_guard sizes guard) ≡ guard_of (at_sizes sizes context) guard
guard_work sizes context guard fit =
    ap (λ (reads : List (Option Reference)). made_guard (place_at context guard.line) reads (λ read. and_then (meaning_at context (bound_tasklet sizes guard.code) (map (bound_link sizes) guard.reads) [] read) (λ effects. Ok (does_hold effects)))) (all_elements_same sizes context guard.reads)
    ∙ ap (made_guard (place_at context guard.line) (flat_map (link_elements (at_sizes sizes context)) guard.reads)) (fun_ext (λ read.
    ap (λ (meaning : Meaning (List Effect)). and_then meaning (λ effects. Ok (does_hold effects))) (meaning_same sizes context guard.code guard.reads [] read fit)))

when_work : (sizes : List ℤ) (context : Context) (when : Option GuardTree) → AreElements sizes → option_map (guard_of context) (option_map (bound_guard sizes) when) ≡ option_map (guard_of (at_sizes sizes context)) when
when_work sizes context None fit = refl
when_work sizes context (Some guard) fit = ap Some (guard_work sizes context guard fit)

-- a variable with its value
abbrev pub set_at : (values : List ℤ) → ℕ × Affine → ℕ × ℤ
set_at values assignment = (assignment.0, affine_value values assignment.1)

sets_work : (sizes values : List ℤ) (set : List (ℕ × Affine)) → map (set_at values) (map (bound_assignment sizes) set) ≡ map (set_at (sized sizes values)) set
sets_work sizes values [] = refl
sets_work sizes values (assignment ∷ set) = rw (bound-value sizes values assignment.1, sets_work sizes values set) refl

-- a transition of these parts
abbrev pub made_exit : Option (work.Guard Place) → Bool → ℕ → List ℤ → work.Exit Place
made_exit when marked state values = record { when = when; marked = marked; state = state; values = values }

pub exit_work : (sizes : List ℤ) (context : Context) (exit : ExitTree) → AreElements sizes → exit_of context (bound_exit sizes exit) ≡ sized_exit sizes context exit
exit_work sizes context exit fit =
    ap (λ (when : Option (work.Guard Place)). made_exit when exit.back exit.to (with_variables (map (set_at context.values) (map (bound_assignment sizes) exit.set)) context.values)) (when_work sizes context exit.when fit)
    ∙ ap (λ (set : List (ℕ × ℤ)). made_exit (option_map (guard_of (at_sizes sizes context)) exit.when) exit.back exit.to (with_variables set context.values)) (sets_work sizes context.values exit.set)

pub exits_work : (sizes : List ℤ) (context : Context) (exits : List ExitTree) → AreElements sizes → map (exit_of context) (map (bound_exit sizes) exits) ≡ map (sized_exit sizes context) exits
exits_work sizes context [] fit = refl
exits_work sizes context (exit ∷ exits) fit = rw (exit_work sizes context exit fit, exits_work sizes context exits fit) refl

-- ---- reductions, maps, nested graphs

pub pairs_same : (sizes : List ℤ) (context : Context) (axis : Option ℕ) (from to : Link) → reduction_pairs context axis (bound_link sizes from) (bound_link sizes to) ≡ reduction_pairs (at_sizes sizes context) axis from to
pairs_same sizes context axis from to =
    ap (λ (extents : List ℕ). map (λ at. (link_element context (bound_link sizes from) at, link_element context (bound_link sizes to) (target_place axis at))) (whole extents)) (extents_same sizes context from)
    ∙ ap (λ (pair : List ℤ → Option Reference × Option Reference). map pair (whole (link_extents (at_sizes sizes context) from)))
    (fun_ext (λ at. ap (λ (one : Option Reference). (one, link_element context (bound_link sizes to) (target_place axis at))) (element_same sizes context from at)
    ∙ ap (λ (other : Option Reference). (link_element (at_sizes sizes context) from at, other)) (element_same sizes context to (target_place axis at))))

numbers_same : (sizes : List ℤ) (params : List (ℕ × Range)) → map (λ param. param.0) (map (bound_param sizes) params) ≡ map (λ param. param.0) params
numbers_same sizes [] = refl
numbers_same sizes (param ∷ params) = rw (numbers_same sizes params) refl

point_same : (sizes : List ℤ) (context : Context) (params : List (ℕ × Range)) (private : List ℕ) (point : List ℤ) → at_point context (map (bound_param sizes) params) private point ≡ at_point context params private point
point_same sizes context params private point =
    ap (λ (numbers : List ℕ). entered context private (with_variables (zip numbers point) context.values) (map (λ assignment. (name_of context assignment.0, assignment.1)) (zip numbers point))) (numbers_same sizes params)

pub map_same : (sizes : List ℤ) (context : Context) (sequential : Bool) (params : List (ℕ × Range)) (private : List ℕ) (body : Context → Term Place) (points : List (List ℤ)) →
    map_over context sequential (map (bound_param sizes) params) private body points ≡ map_over context sequential params private body points
map_same sizes context sequential params private body points =
    ap (λ (at : List ℤ → Context). over context sequential private body points at) (fun_ext (point_same sizes context params private))
  where
    over : (context : Context) (sequential : Bool) (private : List ℕ) (body : Context → Term Place) (points : List (List ℤ)) → (List ℤ → Context) → Term Place
    over context sequential private body points at = list Points (order_of_points sequential) (point_terms (λ point. owning (private_memory context.containers private) (body (at point))) points)

through_same : (sizes : List ℤ) (context : Context) (link : Option Link) (inner : Containers) (number : ℕ) → reach_through context (option_map (bound_link sizes) link) inner number ≡ reach_through (at_sizes sizes context) link inner number
through_same sizes context None inner number = refl
through_same sizes context (Some link) inner number =
    ap (λ (find : List ℤ → Option ℕ). raised (record (context.reach link.memlet.container) { find = find }))
    (fun_ext (λ index. ap (λ (at : List ℤ). if inside (extents_of (container_at inner number)) index then (context.reach link.memlet.container).find at else None) (bound-index sizes context.values link.memlet.subset.dims index)))

pub reach_same : (sizes : List ℤ) (context : Context) (links : List Link) (inner : Containers) → reach_inside context (map (bound_link sizes) links) inner ≡ reach_inside (at_sizes sizes context) links inner
reach_same sizes context links inner = fun_ext (λ number.
    ap (λ (reach : Reach). if is_argument (container_at inner number).kind then reach else own_reach inner number)
    (ap (λ (link : Option Link). reach_through context link inner number) (slice_get-map (bound_link sizes) links number) ∙ through_same sizes context (slice_get links number) inner number))
