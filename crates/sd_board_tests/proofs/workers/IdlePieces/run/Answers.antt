use Rattle.std.proofs.Common.{sym, subst}
use Rattle.sd_part.specs.declared.part_end.PartEnd.TheVariants.{Done}
use Rattle.sd_board.specs.Assignment.{IsEndOf}
use Rattle.sd_board_tests.proofs.SmallBoard.{small-end}
use Rattle.sd_board_tests.proofs.workers.IdlePieces.run.Goals as goal

pub returns : goal.returns
returns g c = subst (λ a. IsEndOf a c.args._number c.args.cut (Done 0)) (sym c.self.invariant) (small-end c.args._number c.args.cut c.requires)
