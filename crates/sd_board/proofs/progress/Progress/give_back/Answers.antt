use Rattle.std.proofs.Common.{sym, subst}
use Rattle.sd_board.specs.declared.mark.Mark.TheVariants.{InWork}
use Rattle.sd_board.specs.Progress.{Progress, progress_of, Is}
use Rattle.sd_board.proofs.Marks.{kept-given}
use Rattle.sd_board.proofs.Counts.{counted-given}
use Rattle.sd_board.proofs.progress.Progress.give_back.Goals as goal

pub invariant_of-self : goal.invariant_of-self
invariant_of-self g c =
    let p : Progress = progress_of c.self.inside.items.items c.self.inside.order c.self.inside.marks.items c.self.inside.history.items in
    let at : Is p.pieces c.args.number InWork = subst (λ (p : Progress). Is p.pieces c.args.number InWork) (sym c.self.view_is) c.requires in
    (kept-given p _ _ c.args.number c.self.invariant.0 at, counted-given p.pieces _ c.args.number at c.self.invariant.1)
