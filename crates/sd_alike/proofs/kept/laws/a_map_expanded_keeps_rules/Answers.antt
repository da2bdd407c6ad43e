use Rattle.sd_alike.specs.alike.Maps.{IsExpandable, expanded}
use Rattle.sd_alike.proofs.kept_lemmas.HeldReplaced.{rule_stays}
use Rattle.sd_alike.proofs.kept_lemmas.LocalRules.{dimensions_asked, streams_asked, nesting_asked, shapes_asked, sizes_asked, dimensions_local, streams_local, nesting_local, shapes_local, sizes_local, dimensions_params, streams_params, nesting_params, shapes_params, sizes_params, expanded_keeps}
use Rattle.sd_alike.proofs.kept_lemmas.NamesKept.{expanded_keeps_names}
use Rattle.sd_alike.proofs.kept.laws.a_map_expanded_keeps_rules.Goals as goal

pub returns-clause-names : goal.returns-clause-names
returns-clause-names c = expanded_keeps_names

pub returns-clause-dimensions : goal.returns-clause-dimensions
returns-clause-dimensions c = rule_stays dimensions_asked dimensions_local IsExpandable expanded (expanded_keeps dimensions_asked dimensions_local dimensions_params)

pub returns-clause-streams : goal.returns-clause-streams
returns-clause-streams c = rule_stays streams_asked streams_local IsExpandable expanded (expanded_keeps streams_asked streams_local streams_params)

pub returns-clause-nesting : goal.returns-clause-nesting
returns-clause-nesting c = rule_stays nesting_asked nesting_local IsExpandable expanded (expanded_keeps nesting_asked nesting_local nesting_params)

pub returns-clause-shapes : goal.returns-clause-shapes
returns-clause-shapes c = rule_stays shapes_asked shapes_local IsExpandable expanded (expanded_keeps shapes_asked shapes_local shapes_params)

pub returns-clause-sizes : goal.returns-clause-sizes
returns-clause-sizes c = rule_stays sizes_asked sizes_local IsExpandable expanded (expanded_keeps sizes_asked sizes_local sizes_params)
