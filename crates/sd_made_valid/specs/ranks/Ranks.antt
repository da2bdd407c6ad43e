-- What the rule on limits asks of the ranks of variables.
use Rattle.std.specs.Prelude.{List, Bool, true}
use Rattle.std.specs.List.{list_all}
use Rattle.sd_graph.specs.PlainTree.{KindTree, task, map_scope, consume_scope, nested_graph, reduction, copy}
use Rattle.sd_graph.specs.TreeParts.{states_of_graph}
use Rattle.sd_validity.specs.rules.Places.{Thing, whole, leaving, doing, Place, param_numbers}
use Rattle.sd_validity.specs.rules.Ranks.{begun_at, is_ranked}

-- the parameters of a map have a rank
abbrev pub has_ranked_parameters : (ranks : List Bool) → KindTree → Bool
has_ranked_parameters ranks (task code ins outs) = true
has_ranked_parameters ranks (map_scope sequential params private body) = list_all (is_ranked ranks) (param_numbers params)
has_ranked_parameters ranks (consume_scope stream element private body) = true
has_ranked_parameters ranks (nested_graph inner links) = true
has_ranked_parameters ranks (reduction resolution axis identity from to) = true
has_ranked_parameters ranks (copy from to) = true

-- and so have the variables of the loops that begin at a state
abbrev pub are_variables_ranked : Place → Thing → Bool
are_variables_ranked place whole = true
are_variables_ranked place (leaving items exits) = list_all (is_ranked place.ranks) (begun_at (states_of_graph place.graph) place.state)
are_variables_ranked place (doing kind) = has_ranked_parameters place.ranks kind
