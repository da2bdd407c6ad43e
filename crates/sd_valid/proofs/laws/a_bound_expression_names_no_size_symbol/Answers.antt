use Rattle.sd_valid.proofs.SizedLaws.{names-none}
use Rattle.sd_valid.proofs.laws.a_bound_expression_names_no_size_symbol.Goals as goal

pub returns : goal.returns
returns c = names-none
