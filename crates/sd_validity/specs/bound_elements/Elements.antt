-- What the rule on limits asks of the elements of containers.
use Rattle.std.specs.Prelude.{ℕ, List, Bool, true}
use Rattle.sd_graph.specs.PlainTree.{GraphTree}
use Rattle.sd_graph.specs.TreeParts.{containers_of}
use Rattle.sd_valid.specs.Limits.{tally}
use Rattle.sd_validity.specs.rules.Places.{Thing, whole, leaving, doing, Place}
use Rattle.sd_validity.specs.rules.WithinLimits.{is_counted, elements_among}

-- the containers of a graph, behind others of so many elements in all
abbrev pub are_elements_few : GraphTree → (before : ℕ) → Thing → Bool
are_elements_few tree before whole = is_counted (tally before (containers_of tree))
are_elements_few tree before (leaving items exits) = true
are_elements_few tree before (doing kind) = true

-- those of each graph, nested ones counted each time
abbrev pub elements_rule : (before : List Place) → Place → Bool
elements_rule before place = are_elements_few place.graph (elements_among before) place.thing
