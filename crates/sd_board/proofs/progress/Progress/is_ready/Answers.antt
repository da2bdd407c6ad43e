use Rattle.std.proofs.Common.{◌≡◌, IsTrue, nat_eq, slice_index_or, sym, ◌∙◌, ap, subst}
use Rattle.std.proofs.lemmas.Bool.{eqb-true, eq-eqb}
use Rattle.sd_board.specs.Progress.{Progress, IsReady, count_left}
use Rattle.sd_board.proofs.Counts.{none-ready, ready-none}
use Rattle.sd_board.proofs.progress.Progress.is_ready.Goals as goal

pub returns : goal.returns
returns g c =
    let items = c.self.inside.items.items in
    let order = c.self.inside.order in
    let marks = c.self.inside.marks.items in
    let item = c.args.item in
    let is : c.left_before.result ≡ count_left order item items marks =
    c.left_before.ensures ∙ ap (λ counts. slice_index_or counts item 0) c.as_slice.ensures.value ∙ c.self.invariant.1 item in
    subst (λ (p : Progress). (IsTrue (nat_eq c.left_before.result 0) → IsReady p.pieces item) × (IsReady p.pieces item → IsTrue (nat_eq c.left_before.result 0))) c.self.view_is (
      λ none. none-ready order item items marks c.self.invariant.0.marked (sym is ∙ eqb-true c.left_before.result 0 none),
      λ ready. eq-eqb c.left_before.result 0 (is ∙ ready-none order item items marks ready),
    )
