use Rattle.std.proofs.Common.{refl}
use Rattle.sd_board.specs.Boards.{Board}
use Rattle.sd_board.proofs.Boards.{closed-as}
use Rattle.sd_board.proofs.state.BoardState.close.Goals as goal

pub returns-clause-closed : goal.returns-clause-closed
returns-clause-closed g c =
    let b : Board = record { progress = c.self.inside.progress; memory = c.self.inside.memory; turns = c.self.inside.turns; stop = c.self.inside.stop } in
    closed-as g.A.Assigned.assignment b _ refl c.close-history.ensures.history refl refl c.close-history.ensures.whole c.self.invariant.1
