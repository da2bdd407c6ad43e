-- A small graph with two maps that may be exchanged.
use Rattle.std.specs.List.{AllByRecursion}
use Rattle.std.proofs.Common.{pos, [], ◌∷◌, None, false, codes, arith}
use Rattle.std.proofs.lemmas.Int.{ints}
use Rattle.sd_range.specs.declared.affine.Affine.{Affine}
use Rattle.sd_range.specs.declared.subset.Dim.TheVariants.{Index}
use Rattle.sd_subset.specs.boxes.Box.{Parameter}
use Rattle.sd_subset.specs.boxes.InForce.{AreFresh}
use Rattle.sd_subset.proofs.boxes_lemmas.examples.BoxExamples.{i, own_elements_are_harmless}
use Rattle.sd_graph.specs.ContainerParts.{Containers}
use Rattle.sd_graph.specs.PlainTree.{input, no_value, assign, no_act, and_act, task, ItemTrees, no_item, and_item, no_state, and_state, GraphTree, graph}
use Rattle.sd_graph.specs.declared.container.ContainerKind.TheVariants.{Argument}
use Rattle.sd_graph.proofs.examples.ExampleParts.{constant, affine, link_of, port_of, code_of, container_of}
use Rattle.sd_exchange.specs.maps.AcceptedPools.{GraphHasAcceptedPools}
use Rattle.sd_exchange.specs.maps.Rewritten.{GraphRewritten, in_graph, in_state, at_once}
use Rattle.sd_exchange.specs.maps.Interchange.{nest_of, MayInterchange, Interchanged, interchanged}
use Rattle.sd_race.specs.cover.Fit.{IsNormalDim, IsGraphFit}

-- the parameter 1, with the values of the parameter 0
abbrev j : Parameter
j = (1, (i (pos 1)).1)

abbrev own : Affine
own = affine (pos 0) ((0, pos 1) ∷ [])

-- A[i] to B[i], so that all points of the inner map write one element
abbrev body : ItemTrees
body =
    and_item 4 (task (code_of (port_of (codes "a") 0 ∷ []) (port_of (codes "b") 0 ∷ []) [] 0 (and_act (assign 1 no_value (input 0 no_value)) no_act))
    (link_of (codes "a") 0 (Index own ∷ []) None ∷ []) (link_of (codes "b") 1 (Index own ∷ []) None ∷ [])) no_item

abbrev containers : Containers
containers = (codes "A", container_of (constant (pos 4) ∷ []) Argument) ∷ (codes "B", container_of (constant (pos 4) ∷ []) Argument) ∷ []

-- the map of i round the map of j, or the other way round
abbrev nest_graph : (first second : Parameter) → GraphTree
nest_graph first second = graph (codes "g") containers 2 (codes "i" ∷ codes "j" ∷ []) 0 (and_state (and_item 3 (nest_of false false (first ∷ []) (second ∷ []) [] 4 body) no_item) [] no_state)

outer_fresh : AreFresh [] (i (pos 1) ∷ [])
outer_fresh = record {
  distinct = (tt, tt);
  normal = (record { range = record { ended = omega arith; few_ends = omega arith; rises = omega (arith, ints) }; begin = tt; ends = (tt, tt) }, tt);
  others = tt;
  outer_ranges = tt;
  own_ranges = ((tt, (tt, tt)), tt);
}

inner_fresh : AreFresh (i (pos 1) ∷ []) (j ∷ [])
inner_fresh = record {
  distinct = (tt, tt);
  normal = (record { range = record { ended = omega arith; few_ends = omega arith; rises = omega (arith, ints) }; begin = tt; ends = (tt, tt) }, tt);
  others = (((λ is. cc), tt), tt);
  outer_ranges = ((tt, (tt, tt)), tt);
  own_ranges = ((tt, (tt, tt)), tt);
}

normal : AllByRecursion IsNormalDim (Index own ∷ [])
normal = ((λ is. cc, tt, tt), tt)

-- the two may be exchanged, though the inner map has a race
may_interchange : MayInterchange false false containers [] (i (pos 1) ∷ []) (j ∷ []) [] 4 body
may_interchange = record {
  valid = (outer_fresh, ((inner_fresh, (((normal, tt), (normal, tt)), tt)), tt));
  ranges = ((tt, (tt, tt)), tt);
  path = [];
  nodes = [];
  free = ((λ same conflict. cc), ((λ same conflict. cc), ((λ same conflict. own_elements_are_harmless), tt)));
}

-- so the graph is rewritten, is valid and has no consume scope that is not accepted
rewritten : GraphRewritten Interchanged (nest_graph (i (pos 1)) j) (nest_graph j (i (pos 1)))
rewritten =
    in_graph (codes "g") containers 2 (codes "i" ∷ codes "j" ∷ []) 0 _ _
    (in_state containers _ _ [] no_state (at_once containers [] _ _ (interchanged false false containers [] (i (pos 1) ∷ []) (j ∷ []) [] 3 3 4 4 body no_item may_interchange)))

valid : IsGraphFit (nest_graph (i (pos 1)) j) []
valid = (tt, (((may_interchange.valid, tt), tt), tt))

pools : GraphHasAcceptedPools (nest_graph (i (pos 1)) j)
pools = ((((tt, tt), tt), tt), tt)
