use Rattle.std.proofs.Common.{◌≡◌, ◌<◌, length, arith, sym, ◌∙◌, ap, subst}
use Rattle.std.proofs.lemmas.Option.{slice_get_within}
use Rattle.sd_board.specs.Progress.{Progress}
use Rattle.sd_board.proofs.progress.Progress.first_to_begin.Goals as goal

pub returns : goal.returns
returns g c = λ number may.
    let items = c.self.inside.items.items in
    let end : c.len-number-end.result ≡ length items = c.len-number-end.ensures ∙ c.self.inside.items.ok.0 in
    let within : number < length items =
    subst (λ xs. number < length xs) (sym (ap (λ (p : Progress). p.pieces.items) c.self.view_is)) (slice_get_within c.args.self.now.pieces.items number may.item may.is_of) in
    let over = c.loop-number-test.false in
    c.loop-number.invariant number (grind arith) may
