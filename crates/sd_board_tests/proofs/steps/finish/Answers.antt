use Rattle.std.proofs.Common.{sym, subst}
use Rattle.sd_part.specs.declared.part_end.PartEnd.TheVariants.{Done}
use Rattle.sd_board.specs.Assignment.{IsEndOf}
use Rattle.sd_board_tests.proofs.SmallBoard.{small-end}
use Rattle.sd_board_tests.proofs.steps.finish.Goals as goal

pub finish_step-requires-clause-end : goal.finish_step-requires-clause-end
finish_step-requires-clause-end g c =
    subst (λ a. IsEndOf a c.in-Some.job.number c.args.cut (Done 0)) (sym c.requires.assignment) (small-end c.in-Some.job.number c.args.cut c.requires.cut)
