use Rattle.std.proofs.Common.{◌≡◌, Some, slice_get, sym, ◌∙◌, ap}
use Rattle.sd_board.specs.declared.mark.Mark.TheVariants.{ToBegin}
use Rattle.sd_board.specs.Progress.{Progress, Is}
use Rattle.sd_board.proofs.Counts.{may-ready, may-begun, may-none}
use Rattle.sd_board.proofs.progress.Progress.may_begin.Goals as goal

pub returns-then-is_to_begin : goal.returns-then-is_to_begin
returns-then-is_to_begin g c =
    let s = c.args.self.now.pieces in
    let number = c.args.number in
    let of : slice_get s.items number ≡ Some c.in-Some.item =
    ap (λ items. slice_get items number) (sym (c.as_slice.ensures.value ∙ ap (λ (p : Progress). p.pieces.items) c.self.view_is)) ∙ sym c.item_of.ensures ∙ c.in-Some.is in
    let at : Is s number ToBegin =
    ap (λ marks. slice_get marks number) (sym (c.as_slice-in-Some.ensures.value ∙ ap (λ (p : Progress). p.pieces.marks) c.self.view_is)) ∙ c.is_to_begin.ensures.0 c.if-is_to_begin.true in
    may-ready s number c.in-Some.item c.is_ready.result of at c.is_ready.ensures

pub returns-else-is_to_begin : goal.returns-else-is_to_begin
returns-else-is_to_begin g c =
    let s = c.args.self.now.pieces in
    let number = c.args.number in
    may-begun s number c.is_to_begin.result c.if-is_to_begin.false
    (λ at. c.is_to_begin.ensures.1 (ap (λ marks. slice_get marks number) (c.as_slice-in-Some.ensures.value ∙ ap (λ (p : Progress). p.pieces.marks) c.self.view_is) ∙ at))

pub returns-in-None : goal.returns-in-None
returns-in-None g c =
    let s = c.args.self.now.pieces in
    let number = c.args.number in
    may-none s number (ap (λ items. slice_get items number) (sym (c.as_slice.ensures.value ∙ ap (λ (p : Progress). p.pieces.items) c.self.view_is)) ∙ sym c.item_of.ensures ∙ c.in-None.is)
