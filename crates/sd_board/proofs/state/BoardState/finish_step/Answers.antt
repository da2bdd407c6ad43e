use Rattle.std.proofs.Common.{◌+◌, rules, ◌∙◌, ap, subst}
use Rattle.sd_board.specs.Assignment.{Assignment, IsEndOf}
use Rattle.sd_board.specs.Boards.{Board, stop_after}
use Rattle.sd_board.proofs.Boards.{for-stopped, for-done, for-moved, turns-fit}
use Rattle.sd_board.proofs.state.BoardState.finish_step.Goals as goal

pub invariant_of-self : goal.invariant_of-self
invariant_of-self g c =
    let a : Assignment = g.A.Assigned.assignment in
    let b : Board = record { progress = c.self.inside.progress; memory = c.self.inside.memory; turns = c.self.inside.turns; stop = c.self.inside.stop } in (
      c.self.invariant.0,
      for-stopped a b c.args.job.number c.args.cut c.in-Stopped.kept c.self.invariant.1 (c.is_in_work.ensures.next c.if-not-is_in_work.false) (c.agrees.ensures.0 c.if-not-agrees.false)
          (subst (IsEndOf a c.args.job.number c.args.cut) c.in-Stopped.is c.requires.end),
    )

pub overflow_add-self : goal.overflow_add-self
overflow_add-self g c =
    let a : Assignment = g.A.Assigned.assignment in
    let b : Board = record { progress = c.self.inside.progress; memory = c.self.inside.memory; turns = c.self.inside.turns; stop = c.self.inside.stop } in
    let h = turns-fit a b c.args.job.number c.args.cut c.in-Done.spent c.self.invariant.1 (c.is_in_work.ensures.next c.if-not-is_in_work.false) (c.agrees.ensures.0 c.if-not-agrees.false)
    (subst (IsEndOf a c.args.job.number c.args.cut) c.in-Done.is c.requires.end) in
    search rules

pub invariant_of-self-in-Done : goal.invariant_of-self-in-Done
invariant_of-self-in-Done g c =
    let a : Assignment = g.A.Assigned.assignment in
    let b : Board = record { progress = c.self.inside.progress; memory = c.self.inside.memory; turns = c.self.inside.turns; stop = c.self.inside.stop } in (
      c.self.invariant.0,
      for-moved a _ c.finish.new.self _ c.commit.new.memory (c.self.inside.turns + c.in-Done.spent) _ c.note_turns.new.stop c.finish.ensures.finished c.in_default.ensures.ok
          (c.note_turns.ensures ∙ ap (λ n. stop_after n (c.self.inside.turns + c.in-Done.spent) c.self.inside.stop) c.self.invariant.0)
          (for-done a b c.args.job.number c.args.cut c.in-Done.spent c.self.invariant.1 (c.is_in_work.ensures.next c.if-not-is_in_work.false) (c.agrees.ensures.0 c.if-not-agrees.false)
          (subst (IsEndOf a c.args.job.number c.args.cut) c.in-Done.is c.requires.end)),
    )
