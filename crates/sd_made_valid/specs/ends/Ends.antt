-- What the rule on limits asks of the ends of loops.
use Rattle.std.specs.Prelude.{Bool, true}
use Rattle.std.specs.List.{list_all}
use Rattle.sd_graph.specs.TreeParts.{states_of_graph}
use Rattle.sd_validity.specs.rules.Places.{Thing, whole, leaving, doing, Place}
use Rattle.sd_validity.specs.rules.Ranks.{begun_at}
use Rattle.sd_validity.specs.rules.WithinLimits.{is_condition_small}

-- where variables are given their begins, those that a condition compares are compared with small ends
abbrev pub are_ends_small : Place → Thing → Bool
are_ends_small place whole = true
are_ends_small place (leaving items exits) = list_all (λ exit. is_condition_small (begun_at (states_of_graph place.graph) place.state) exit.when) exits
are_ends_small place (doing kind) = true
