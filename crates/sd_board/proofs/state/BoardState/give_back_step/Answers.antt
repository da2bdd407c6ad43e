use Rattle.sd_board.specs.declared.mark.Mark.TheVariants.{ToBegin}
use Rattle.sd_board.specs.Boards.{Board}
use Rattle.sd_board.proofs.Boards.{for-marked}
use Rattle.sd_board.proofs.state.BoardState.give_back_step.Goals as goal

pub invariant_of-self : goal.invariant_of-self
invariant_of-self g c =
    let b : Board = record { progress = c.self.inside.progress; memory = c.self.inside.memory; turns = c.self.inside.turns; stop = c.self.inside.stop } in
    (c.self.invariant.0, for-marked g.A.Assigned.assignment b c.args.job.number ToBegin c.give_back.new.self c.self.invariant.1 c.give_back.ensures)
