-- The code's comparisons, as plain ones.
use Rattle.sd_graph.specs.TreeFold.{value_tree}
use Rattle.sd_validity.specs.rules.Compared as plain
use Rattle.sd_places.specs.declared.ranks.comparison.Comparison.{Comparison}

abbrev pub comparison_of : Comparison → plain.Comparison
comparison_of comparison = record { place = comparison.place; bound = value_tree comparison.bound.now }
