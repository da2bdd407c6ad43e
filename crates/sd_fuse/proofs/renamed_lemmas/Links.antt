-- So have links and tasklets.
use Rattle.std.specs.List.{flat_map}
use Rattle.std.proofs.Common.{◌≡◌, zero, suc, ℕ, ◌-◌, nat_lt, ℤ, List, [], ◌∷◌, ◌++◌, map, length, Option, None, Ok, if◌then◌else◌, slice_get, refl, ◌∙◌, ap}
use Rattle.sd_num.specs.Wrapped.{wrapped}
use Rattle.sd_range.specs.Affine.{variable_value}
use Rattle.sd_range.specs.Points.{product, tuples}
use Rattle.sd_range.specs.Subset.{inside, whole}
use Rattle.sd_work.specs.Leaf.{write_value, push_to, instance_of}
use Rattle.sd_graph.specs.declared.link.Link.{Link}
use Rattle.sd_graph.specs.PlainTree.{TaskletTree}
use Rattle.sd_graph.specs.ContainerParts.{Containers, container_at, extents_of, is_stream, is_argument}
use Rattle.sd_graph.specs.TaskletMeaning.{Effect, and_then, meaning_of}
use Rattle.sd_graph.specs.Context.{Context, own_reach, raised, reference_at, link_elements, link_element, link_extents}
use Rattle.sd_graph.specs.Unfold.{cut, pending_by, task_of, target_place, reduction_pairs, reach_through, reach_inside}
use Rattle.sd_fuse.specs.renamed.Renamed.{Names, values_renamed, at_values, variable_renamed, link_renamed, code_renamed}
use Rattle.sd_fuse.proofs.renamed_lemmas.Expressions.{variable-renamed, dims-renamed, counts-renamed, index-renamed}

pub elements-same : (names : Names) (context : Context) (values : List ℤ) (link : Link) → link_elements (at_values context values) (link_renamed names link) ≡ link_elements (at_values context (values_renamed names values)) link
elements-same names context values link = λ i. map (reference_at (context.reach link.memlet.container)) (tuples (dims-renamed names values link.memlet.subset.dims i))

pub all-elements-same : (names : Names) (context : Context) (values : List ℤ) (links : List Link) → flat_map (link_elements (at_values context values)) (map (link_renamed names) links) ≡ flat_map (link_elements (at_values context (values_renamed names values))) links
all-elements-same names context values [] = refl
all-elements-same names context values (link ∷ links) = λ i. elements-same names context values link i ++ all-elements-same names context values links i

pub element-same : (names : Names) (context : Context) (values : List ℤ) (link : Link) (at : List ℤ) → link_element (at_values context values) (link_renamed names link) at ≡ link_element (at_values context (values_renamed names values)) link at
element-same names context values link at = ap (reference_at (context.reach link.memlet.container)) (index-renamed names values link.memlet.subset.dims at)

extents-same : (names : Names) (context : Context) (values : List ℤ) (links : List Link) → map (link_extents (at_values context values)) (map (link_renamed names) links) ≡ map (link_extents (at_values context (values_renamed names values))) links
extents-same names context values [] = refl
extents-same names context values (link ∷ links) = λ i. counts-renamed names values link.memlet.subset.dims i ∷ extents-same names context values links i

sizes-same : (names : Names) (context : Context) (values : List ℤ) (links : List Link) →
    map (λ link. product (link_extents (at_values context values) link)) (map (link_renamed names) links) ≡ map (λ link. product (link_extents (at_values context (values_renamed names values)) link)) links
sizes-same names context values [] = refl
sizes-same names context values (link ∷ links) = λ i. product (counts-renamed names values link.memlet.subset.dims i) ∷ sizes-same names context values links i

map-both : (names : Names) (ins outs : List Link) → map (link_renamed names) ins ++ map (link_renamed names) outs ≡ map (link_renamed names) (ins ++ outs)
map-both names [] outs = refl
map-both names (link ∷ ins) outs = ap (λ rest. link_renamed names link ∷ rest) (map-both names ins outs)

variables-same : (names : Names) (values : List ℤ) (variables : List ℕ) → map (λ variable. wrapped (variable_value values variable)) (map (variable_renamed names) variables) ≡ map (λ variable. wrapped (variable_value (values_renamed names values) variable)) variables
variables-same names values [] = refl
variables-same names values (variable ∷ variables) = λ i. wrapped (variable-renamed names values variable i) ∷ variables-same names values variables i

as-many : (names : Names) (links : List Link) → length (map (link_renamed names) links) ≡ length links
as-many names [] = refl
as-many names (link ∷ links) = ap suc (as-many names links)

pending-same : (names : Names) (context : Context) (values : List ℤ) (links : List Link) (number : ℕ) (effect : Effect) →
    pending_by (at_values context values) (slice_get (map (link_renamed names) links) number) effect ≡ pending_by (at_values context (values_renamed names values)) (slice_get links number) effect
pending-same names context values [] number effect = refl
pending-same names context values (link ∷ links) zero effect =
    ap (λ element. (
    let reach = context.reach link.memlet.container in
    if is_stream (container_at context.containers link.memlet.container).kind then push_to reach.level reach.container effect.value else write_value effect.value element link.memlet.resolution))
    (element-same names context values link effect.at)
pending-same names context values (link ∷ links) (suc number) effect = pending-same names context values links number effect

pub task-same : (names : Names) (context : Context) (values : List ℤ) (code : TaskletTree) (ins outs : List Link) →
    task_of (at_values context values) (code_renamed names code) (map (link_renamed names) ins) (map (link_renamed names) outs) ≡ task_of (at_values context (values_renamed names values)) code ins outs
task-same names context values code ins outs =
    let here = at_values context values in
    let there = at_values context (values_renamed names values) in
    let both : map (link_extents here) (map (link_renamed names) ins ++ map (link_renamed names) outs) ≡ map (link_extents there) (ins ++ outs) =
    ap (map (link_extents here)) (map-both names ins outs) ∙ extents-same names context values (ins ++ outs) in
    λ i.
    instance_of (all-elements-same names context values ins i)
    (λ read. and_then (meaning_of code (record {
      values = cut (sizes-same names context values ins i) read;
      extents = both i;
      variables = variables-same names values code.variables i;
    })) (λ effects. Ok (map (λ effect. if nat_lt effect.connector (as-many names ins i) then write_value effect.value None None else pending-same names context values outs (effect.connector - as-many names ins i) effect i) effects)))

pub pairs-same : (names : Names) (context : Context) (values : List ℤ) (axis : Option ℕ) (from to : Link) →
    reduction_pairs (at_values context values) axis (link_renamed names from) (link_renamed names to) ≡ reduction_pairs (at_values context (values_renamed names values)) axis from to
pairs-same names context values axis from to = λ i.
    map (λ at. (element-same names context values from at i, element-same names context values to (target_place axis at) i)) (whole (counts-renamed names values from.memlet.subset.dims i))

through-same : (names : Names) (context : Context) (values : List ℤ) (links : List Link) (inner : Containers) (number place : ℕ) →
    reach_through (at_values context values) (slice_get (map (link_renamed names) links) place) inner number ≡ reach_through (at_values context (values_renamed names values)) (slice_get links place) inner number
through-same names context values [] inner number place = refl
through-same names context values (link ∷ links) inner number zero = λ i.
    raised (record (context.reach link.memlet.container) { find = λ index. if inside (extents_of (container_at inner number)) index then (context.reach link.memlet.container).find (index-renamed names values link.memlet.subset.dims index i) else None })
through-same names context values (link ∷ links) inner number (suc place) = through-same names context values links inner number place

pub inside-same : (names : Names) (context : Context) (values : List ℤ) (links : List Link) (inner : Containers) → reach_inside (at_values context values) (map (link_renamed names) links) inner ≡ reach_inside (at_values context (values_renamed names values)) links inner
inside-same names context values links inner = λ i number. if is_argument (container_at inner number).kind then through-same names context values links inner number number i else own_reach inner number
