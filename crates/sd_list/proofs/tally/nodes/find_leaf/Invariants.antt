use Rattle.sd_list.proofs.tally_lemmas.Finding.{IsOnWay}
use Rattle.sd_list.proofs.tally.nodes.find_leaf.Given as goal

abbrev pub invariant-loop-level : goal.invariant-loop-level
invariant-loop-level l = IsOnWay l.nodes l.unit l._level l.at l.rest
