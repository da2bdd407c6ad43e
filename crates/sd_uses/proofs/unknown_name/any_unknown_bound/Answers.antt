use Rattle.std.proofs.Common.{◌∙◌, sym}
use Rattle.sd_lex.specs.TreeFold.{dimensions_of}
use Rattle.sd_names.specs.Expressions.{expressions_of_dimensions}
use Rattle.sd_uses.proofs.UseLemmas.{unknown_bounds}
use Rattle.sd_uses.proofs.unknown_name.any_unknown_bound.Goals as goal

pub returns : goal.returns
returns c = c.any_name_of_dimensions.ensures ∙ sym (unknown_bounds c.args.names.now (expressions_of_dimensions (dimensions_of c.args.ranges.now)))
