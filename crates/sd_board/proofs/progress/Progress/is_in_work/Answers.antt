use Rattle.std.proofs.Common.{◌≡◌, Some, slice_get, subst}
use Rattle.sd_board.specs.declared.mark.Mark.TheVariants.{InWork}
use Rattle.sd_board.specs.Progress.{Progress, progress_of, IsNext}
use Rattle.sd_board.proofs.Marks.{next-of}
use Rattle.sd_board.proofs.progress.Progress.is_in_work.Goals as goal

pub returns-clause-next : goal.returns-clause-next
returns-clause-next g c = λ yes.
    subst (λ (p : Progress). IsNext p c.args.number) c.self.view_is
    (next-of (progress_of c.self.inside.items.items c.self.inside.order c.self.inside.marks.items c.self.inside.history.items) _ _ c.args.number c.self.invariant.0
    (subst (λ marks. slice_get marks c.args.number ≡ Some InWork) c.as_slice.ensures.value (c.is_working.ensures.0 yes)))
