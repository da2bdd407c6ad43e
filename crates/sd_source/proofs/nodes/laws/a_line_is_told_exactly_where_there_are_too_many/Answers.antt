use Rattle.std.proofs.Common.{sym}
use Rattle.sd_source.proofs.nodes_lemmas.KeptLemmas.{line_tells, states_tell}
use Rattle.sd_source.proofs.nodes.laws.a_line_is_told_exactly_where_there_are_too_many.Goals as goal

pub returns : goal.returns
returns c = record {
  state = λ counts limit nodes. sym (line_tells counts limit nodes);
  graph = λ counts limit states. sym (states_tell counts limit states);
}
