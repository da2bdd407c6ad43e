use Rattle.std.proofs.Common.{length, sym, ◌∙◌, ap, subst}
use Rattle.sd_cut.specs.Windowed.{window_at}
use Rattle.sd_cut.specs.Elements.{AreOfWindows, IsEven}
use Rattle.sd_board_tests.proofs.SmallBoard.{all-even, nothing-cut}
use Rattle.sd_board_tests.proofs.steps.cut_nothing.Goals as goal

pub cut-requires : goal.cut-requires
cut-requires c = record { even = λ container. subst (λ windows. IsEven (window_at windows container)) (sym c.new.ensures.items) (all-even container) }

pub returns-in-Ok : goal.returns-in-Ok
returns-in-Ok c =
    nothing-cut c.empty.result c.in-Ok.cut (c.in-Ok.ensures.count ∙ ap length c.new.ensures.items)
    (subst (λ windows. AreOfWindows c.empty.result (window_at windows) c.in-Ok.cut.arrays) c.new.ensures.items c.in-Ok.ensures.arrays)
