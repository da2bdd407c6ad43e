-- What the rule on limits asks of the number of a map's parameters.
use Rattle.std.specs.Prelude.{length, Bool, true}
use Rattle.sd_graph.specs.PlainTree.{KindTree, task, map_scope, consume_scope, nested_graph, reduction, copy}
use Rattle.sd_validity.specs.rules.Places.{Thing, whole, leaving, doing}
use Rattle.sd_validity.specs.rules.WithinLimits.{is_within}

-- a map has 1 to 8 parameters
abbrev pub has_few_parameters : KindTree → Bool
has_few_parameters (task code ins outs) = true
has_few_parameters (map_scope sequential params private body) = is_within 1 8 (length params)
has_few_parameters (consume_scope stream element private body) = true
has_few_parameters (nested_graph inner links) = true
has_few_parameters (reduction resolution axis identity from to) = true
has_few_parameters (copy from to) = true

abbrev pub are_parameters_few : Thing → Bool
are_parameters_few whole = true
are_parameters_few (leaving items exits) = true
are_parameters_few (doing kind) = has_few_parameters kind
