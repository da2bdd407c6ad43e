use Rattle.std.proofs.Common.{◌≡◌, ◌<◌, ◌^◌, sym, ap, subst, ◌∙◌, w64}
use Rattle.std.proofs.lemmas.Int.{to_z-of_z}
use Rattle.sd_work.specs.Memory.{Reference, look}
use Rattle.sd_row.specs.row.Row.{reference_on}
use Rattle.sd_row.specs.view.View.{along, reference_in}
use Rattle.sd_row.proofs.view.window.Window.seen.Goals as goal

pub number_along-element-requires : goal.number_along-element-requires
number_along-element-requires c =
    let first = ap (λ (r : Reference). r.element) c.cell-first.ensures in
    subst (λ n. n < 2 ^ 64) (sym (λ i. along (first i) (c.as_slice.ensures.value i) c.args.at.now)) c.requires

pub returns : goal.returns
returns c =
    let number : c.number_along-element.result ≡ along (reference_on c.args.self.now.first c.args.k).element c.args.self.now.strides.items c.args.at.now =
    c.number_along-element.ensures ∙ (λ i. along (ap (λ (r : Reference). r.element) c.cell-first.ensures i) (c.as_slice.ensures.value i) c.args.at.now) in
    to_z-of_z w64 c.look.result (record { sfits = c.look.type_inv }) ∙ c.look.ensures ∙ (λ i. look (record { level = (c.cell-first.ensures i).level; container = (c.cell-first.ensures i).container; element = number i }) c.args.machine.now.memories)
