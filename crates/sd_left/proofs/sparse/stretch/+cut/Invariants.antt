use Rattle.sd_left.proofs.sparse.stretch.+cut.Given as goal

abbrev pub decreases-cut : goal.decreases-cut
decreases-cut a = a.count
