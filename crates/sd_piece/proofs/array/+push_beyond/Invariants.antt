use Rattle.sd_piece.proofs.array.+push_beyond.Given as goal

abbrev pub decreases-push_beyond : goal.decreases-push_beyond
decreases-push_beyond l = l.dimension
