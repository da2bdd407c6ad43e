-- Rule 4: streams are pushed into by outputs of tasklets alone, and consumed; what is consumed is a stream.
use Rattle.std.specs.Prelude.{ℕ, List, Bool, true, not, ◌&&◌, Option, Some, None}
use Rattle.std.specs.List.{list_all}
use Rattle.sd_graph.specs.PlainTree.{task, map_scope, consume_scope, nested_graph, reduction, copy, GuardTree}
use Rattle.sd_graph.specs.TreeParts.{containers_of}
use Rattle.sd_graph.specs.ContainerParts.{Containers, container_at, is_stream}
use Rattle.sd_graph.specs.declared.link.Link.{Link}
use Rattle.sd_validity.specs.rules.Places.{Thing, whole, leaving, doing, Place}
use Rattle.sd_validity.specs.rules.Parts.{container_of}

abbrev pub is_stream_at : Containers → (number : ℕ) → Bool
is_stream_at containers number = is_stream (container_at containers number).kind

abbrev pub is_of_array : Containers → Link → Bool
is_of_array containers link = not (is_stream_at containers (container_of link))

abbrev pub are_of_arrays : Containers → List Link → Bool
are_of_arrays containers links = list_all (is_of_array containers) links

-- a condition reads arrays
abbrev pub is_condition_of_arrays : Containers → Option GuardTree → Bool
is_condition_of_arrays containers None = true
is_condition_of_arrays containers (Some guard) = are_of_arrays containers guard.reads

abbrev pub are_streams_in_place : Containers → Thing → Bool
are_streams_in_place containers whole = true
are_streams_in_place containers (leaving items exits) = list_all (λ exit. is_condition_of_arrays containers exit.when) exits
are_streams_in_place containers (doing (task code ins outs)) = are_of_arrays containers ins
are_streams_in_place containers (doing (map_scope sequential params private body)) = true
are_streams_in_place containers (doing (consume_scope stream element private body)) = is_stream_at containers stream
are_streams_in_place containers (doing (nested_graph inner links)) = are_of_arrays containers links
are_streams_in_place containers (doing (reduction resolution axis identity from to)) = is_of_array containers from && is_of_array containers to
are_streams_in_place containers (doing (copy from to)) = is_of_array containers from && is_of_array containers to

abbrev pub rule_4 : (before : List Place) → Place → Bool
rule_4 before place = are_streams_in_place (containers_of place.graph) place.thing
