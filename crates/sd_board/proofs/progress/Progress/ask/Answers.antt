use Rattle.std.proofs.Common.{sym, ◌∙◌, subst}
use Rattle.std.specs.Option.{MatchOption}
use Rattle.sd_board.specs.Progress.{Progress, progress_of, NoneMayBegin, IsFirst, IsTold, AreAllFinished}
use Rattle.sd_board.proofs.Marks.{no, kept-begun, told-over, told-wait}
use Rattle.sd_board.proofs.Counts.{counted-begun}
use Rattle.sd_board.proofs.Waiting.{one-works}
use Rattle.sd_board.proofs.progress.Progress.ask.Goals as goal
use Rattle.sd_board.proofs.progress.Progress.ask.Goals.{then-are_finished, else-are_finished}

pub invariant_of-self : goal.invariant_of-self
invariant_of-self g c =
    let p : Progress = progress_of c.self.inside.items.items c.self.inside.order c.self.inside.marks.items c.self.inside.history.items in
    let first : IsFirst p.pieces c.in-Some.number =
    subst (λ (q : Progress). IsFirst q.pieces c.in-Some.number) (sym c.self.view_is) (subst (λ r. MatchOption r (NoneMayBegin c.args.self.now.pieces) (IsFirst c.args.self.now.pieces)) c.in-Some.is c.first_to_begin.ensures) in
    (kept-begun p _ _ c.in-Some.number c.self.invariant.0 first.may, counted-begun p.pieces _ c.in-Some.number first.may c.self.invariant.1)

pub returns-after-are_finished : goal.returns-after-are_finished
returns-after-are_finished g c =
    let p : Progress = progress_of c.self.inside.items.items c.self.inside.order c.self.inside.marks.items c.self.inside.history.items in
    let none : NoneMayBegin p.pieces =
    subst (λ (q : Progress). NoneMayBegin q.pieces) (sym c.self.view_is) (subst (λ r. MatchOption r (NoneMayBegin c.args.self.now.pieces) (IsFirst c.args.self.now.pieces)) c.in-None.is c.first_to_begin.ensures) in
    subst (λ (q : Progress). IsTold q c.if-are_finished.result q) c.self.view_is
    (elim c.if-are_finished.branch [
      | then-are_finished w ↦
          told-over p c.if-are_finished.result w.result-is (subst AreAllFinished c.as_slice.ensures.value (c.are_finished.ensures.0 w.if-are_finished.true))
      | else-are_finished w ↦
          told-wait p c.if-are_finished.result w.result-is none
          (one-works p.pieces c.self.invariant.0.marked none
          (λ all. no (sym w.if-are_finished.false ∙ c.are_finished.ensures.1 (subst AreAllFinished (sym c.as_slice.ensures.value) all))))
    ])
