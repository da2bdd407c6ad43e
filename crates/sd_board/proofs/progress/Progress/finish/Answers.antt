use Rattle.std.proofs.Common.{◌≡◌, ◌<◌, ℕ, List, Some, length, slice_get, vec_capacity, sym, ◌∙◌, ap, subst}
use Rattle.std.proofs.lemmas.Option.{slice_get_within, slice_get-get_or}
use Rattle.sd_board.specs.declared.mark.Mark.TheVariants.{InWork}
use Rattle.sd_board.specs.Progress.{Progress, progress_of, Is}
use Rattle.sd_board.proofs.Marks.{kept-finished, kept-as, room-left}
use Rattle.sd_board.proofs.Counts.{counted-off}
use Rattle.sd_board.proofs.progress.Progress.finish.Goals as goal

pub push_reserved-requires : goal.push_reserved-requires
push_reserved-requires g c =
    let p : Progress = progress_of c.self.inside.items.items c.self.inside.order c.self.inside.marks.items c.self.inside.history.items in
    let h = room-left p _ _ c.args.number c.self.invariant.0 (subst (λ (p : Progress). Is p.pieces c.args.number InWork) (sym c.self.view_is) c.requires.in_work) in
    subst (λ n. n < vec_capacity c.self.inside.history) (sym c.self.inside.history.ok.0) h

pub invariant_of-self : goal.invariant_of-self
invariant_of-self g c =
    let p : Progress = progress_of c.self.inside.items.items c.self.inside.order c.self.inside.marks.items c.self.inside.history.items in
    let number = c.args.number in
    let at : Is p.pieces number InWork = subst (λ (p : Progress). Is p.pieces number InWork) (sym c.self.view_is) c.requires.in_work in
    let within : number < length p.pieces.items = subst (λ n. number < n) c.self.invariant.0.marked (slice_get_within p.pieces.marks number InWork at) in
    let of : slice_get p.pieces.items number ≡ Some c.index.result.now = slice_get-get_or p.pieces.items number c.index.result.now within ∙ ap Some (sym c.index.ensures) in (
      kept-as _ _ _ _ _ _ _ (sym {A = List ℕ} c.push_reserved.ensures.items) (sym c.push_reserved.ensures.capacity) (sym c.add.ensures.total) (kept-finished p _ _ number c.self.invariant.0 at),
      counted-off p.pieces _ _ number c.index.result.now at of c.self.invariant.1 c.count_off.ensures,
    )
