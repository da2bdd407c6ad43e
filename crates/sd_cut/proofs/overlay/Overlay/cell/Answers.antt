use Rattle.std.proofs.Common.{rules, ◌∙◌, ap, FitsSigned}
use Rattle.std.specs.Int.{w64}
use Rattle.std.proofs.lemmas.Int.{to_z-of_z}
use Rattle.sd_work.specs.Memory.{look}
use Rattle.sd_mem.specs.mem.Shaped.{alone, element, width_at}
use Rattle.sd_cut.specs.Overlaid.{Overlaid}
use Rattle.sd_cut.specs.Turning.{kept_left}
use Rattle.sd_cut.proofs.Turned.{turned_so}
use Rattle.sd_cut.proofs.overlay.Overlay.cell.Goals as goal

pub returns-in-Some-clause-kept : goal.returns-in-Some-clause-kept
returns-in-Some-clause-kept c =
    let fits : FitsSigned w64 c.cell.result = search rules in
    let so = simp to_z-of_z at c.kept-new.ensures in
    c.put.ensures
    ∙ turned_so kept_left c.args.container c.args.number c.args.self.now c.kept-new.result c.element.result c.in-Some.cut c.width-width.result c.cell.result c.element.ensures c.in-Some.is
    (c.width-width.ensures ∙ ap (λ (cut : Overlaid). width_at cut.left c.args.container) c.self.view_is)
    (c.cell.ensures ∙ ap (λ (cut : Overlaid). look (element c.args.container c.args.number) (alone cut.left)) c.self.view_is) so
