use Rattle.std.proofs.Common.{sym, subst, length}
use Rattle.sd_part.specs.Hulls.{AreBelow}
use Rattle.sd_part.proofs.Parts.{if-ok}
use Rattle.sd_piece.proofs.Cutting.{below-more, uncut-so}
use Rattle.sd_piece.proofs.cut.cut_for.Goals as goal

pub returns-clause-below : goal.returns-clause-below
returns-clause-below c = if-ok c.cut.result (λ cut same.
    subst (λ list. AreBelow (length list) c.args.boxes.now) (sym same)
    (below-more c.in_ok-least.least (length c.in_ok-windows.windows.items) c.args.boxes.now c.in_ok-windows.ensures.all c.in_ok-least.ensures)) c.cut.ensures.windows

pub returns-clause-refused : goal.returns-clause-refused
returns-clause-refused c = uncut-so c.args.boxes.now c.args.memory.now c.in_ok-windows.windows.items c.cut.result c.in_ok-windows.ensures.windows c.cut.ensures.refused
