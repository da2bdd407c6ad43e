-- Rule 2: subsets have the dimensions of their containers, connectors those of their subsets, and code names what it has.
use Rattle.std.specs.Prelude.{nat_eq, List, [], ◌∷◌, length, Bool, true, false, ◌&&◌, Option, Some, None}
use Rattle.std.specs.List.{list_all}
use Rattle.sd_range.specs.declared.subset.Dim.{Dim}
use Rattle.sd_range.specs.declared.subset.Dim.TheVariants.{Index, Span}
use Rattle.sd_graph.specs.PlainTree.{task, map_scope, consume_scope, nested_graph, reduction, copy, GuardTree}
use Rattle.sd_graph.specs.TreeParts.{containers_of}
use Rattle.sd_graph.specs.ContainerParts.{Containers, container_at}
use Rattle.sd_graph.specs.declared.link.Link.{Link}
use Rattle.sd_graph.specs.declared.tasklet.Port.{Port}
use Rattle.sd_validity.specs.rules.Places.{Thing, whole, leaving, doing, Place}
use Rattle.sd_validity.specs.rules.Parts.{is_empty, container_of, link_spans, Tests, is_thing_passed}
use Rattle.sd_validity.specs.rules.CodeNames.{is_code_known, is_one_value}

-- an index, or a range with one end
abbrev pub has_one_end : Dim → Bool
has_one_end (Index at) = true
has_one_end (Span range) = nat_eq (length range.ends) 1

-- a link's subset has a dimension for each of its container, and each range of it has one end
abbrev pub is_link_fitting : Containers → Link → Bool
is_link_fitting containers link =
    nat_eq (length link.memlet.subset.dims) (length (container_at containers (container_of link)).extents) && list_all has_one_end link.memlet.subset.dims

-- there is a link for each connector, which has a dimension for each range of its subset
abbrev pub are_ports_linked : List Port → List Link → Bool
are_ports_linked [] [] = true
are_ports_linked [] (link ∷ links) = false
are_ports_linked (port ∷ ports) [] = false
are_ports_linked (port ∷ ports) (link ∷ links) = nat_eq port.dims (length (link_spans link)) && are_ports_linked ports links

-- A condition reads one element by each link; its code gives its one output a value.
abbrev pub is_condition_sound : Option GuardTree → Bool
is_condition_sound None = true
is_condition_sound (Some guard) =
    (are_ports_linked guard.code.ins guard.reads && list_all (λ link. is_empty (link_spans link)) guard.reads) && is_one_value guard.code

-- code has links for its connectors
abbrev pub is_code_linked : Thing → Bool
is_code_linked whole = true
is_code_linked (leaving items exits) = list_all (λ exit. is_condition_sound exit.when) exits
is_code_linked (doing (task code ins outs)) = are_ports_linked code.ins ins && are_ports_linked code.outs outs
is_code_linked (doing (map_scope sequential params private body)) = true
is_code_linked (doing (consume_scope stream element private body)) = true
is_code_linked (doing (nested_graph inner links)) = true
is_code_linked (doing (reduction resolution axis identity from to)) = true
is_code_linked (doing (copy from to)) = true

-- subsets fit their containers, and code names what it has
abbrev pub dimensions_tests : Containers → Tests
dimensions_tests containers = record { link = is_link_fitting containers; range = λ range. true; expression = λ a. true; code = is_code_known }

abbrev pub rule_2 : (before : List Place) → Place → Bool
rule_2 before place = is_thing_passed (dimensions_tests (containers_of place.graph)) place.thing && is_code_linked place.thing
