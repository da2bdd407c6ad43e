-- What the rule on limits asks of the states and the nesting of graphs.
use Rattle.std.specs.Prelude.{nat_le, Bool, ◌&&◌}
use Rattle.sd_graph.specs.TreeParts.{states_of_graph, count_states}
use Rattle.sd_validity.specs.rules.Places.{Place}
use Rattle.sd_validity.specs.rules.WithinLimits.{is_within}

-- the graph of a place has 1 to 256 states, and at most 8 graphs about it
abbrev pub is_nested_little : Place → Bool
is_nested_little place = is_within 1 256 (count_states (states_of_graph place.graph)) && nat_le place.depth 8
