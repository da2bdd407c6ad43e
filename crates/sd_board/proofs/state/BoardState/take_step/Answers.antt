use Rattle.std.proofs.Common.{◌≡◌, sym, ◌∙◌, ap, subst}
use Rattle.sd_board.specs.declared.job.Step.{Step}
use Rattle.sd_board.specs.Boards.{Board, told_by, with_progress, IsStep, IsOf}
use Rattle.sd_board.proofs.Boards.{step-told, begun-there}
use Rattle.sd_board.proofs.state.BoardState.take_step.Goals as goal
use Rattle.sd_board.proofs.state.BoardState.take_step.Goals.{in-Begin, in-Wait, in-Over}

pub returns-clause-step : goal.returns-clause-step
returns-clause-step g c =
    let b : Board = record { progress = c.self.inside.progress; memory = c.self.inside.memory; turns = c.self.inside.turns; stop = c.self.inside.stop } in
    let base : (step : Step) → told_by step ≡ c.ask.result → IsStep c.args.self.now step (with_progress c.ask.new.self b) =
    λ step e. subst (λ (v : Board). IsStep v step (with_progress c.ask.new.self b)) c.self.view_is (step-told b step c.ask.result c.ask.new.self (sym c.is_some.ensures ∙ c.if-is_some.false) c.ask.ensures e) in
    elim c.match-ask.branch [
      | in-Begin w ↦ base c.match-ask.result (ap told_by w.result-is ∙ sym w.in-Begin.is)
      | in-Wait w ↦ base c.match-ask.result (ap told_by w.result-is ∙ sym w.in-Wait.is)
      | in-Over w ↦ base c.match-ask.result (ap told_by w.result-is ∙ sym w.in-Over.is)
    ]

pub returns-clause-there : goal.returns-clause-there
returns-clause-there g c =
    let b : Board = record { progress = c.self.inside.progress; memory = c.self.inside.memory; turns = c.self.inside.turns; stop = c.self.inside.stop } in
    let of : IsOf g.A.Assigned.assignment c.ask.result = begun-there g.A.Assigned.assignment b c.ask.result c.ask.new.self c.self.invariant.1 c.ask.ensures in
    let base : (step : Step) → told_by step ≡ c.ask.result → IsOf g.A.Assigned.assignment (told_by step) = λ step e. subst (IsOf g.A.Assigned.assignment) (sym e) of in
    elim c.match-ask.branch [
      | in-Begin w ↦ base c.match-ask.result (ap told_by w.result-is ∙ sym w.in-Begin.is)
      | in-Wait w ↦ base c.match-ask.result (ap told_by w.result-is ∙ sym w.in-Wait.is)
      | in-Over w ↦ base c.match-ask.result (ap told_by w.result-is ∙ sym w.in-Over.is)
    ]
