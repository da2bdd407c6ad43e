use Rattle.std.proofs.Common.{◌≡◌, ◌≤◌, ℕ, List, length, replicate, vec_capacity, ◌∙◌, ap, subst}
use Rattle.sd_board.specs.declared.mark.Mark.{Mark}
use Rattle.sd_board.specs.declared.mark.Mark.TheVariants.{ToBegin}
use Rattle.sd_board.specs.Progress.{standing_of, AreCounted}
use Rattle.sd_board.proofs.Marks.{kept-new}
use Rattle.sd_board.proofs.progress.Progress.opened.Goals as goal

pub invariant_of-result : goal.invariant_of-result
invariant_of-result g c =
    let len : c.len.result ≡ length c.args.items.items = c.len.ensures ∙ c.args.items.ok.0 in
    let room : length c.args.items.items ≤ vec_capacity c.in_ok-history.history =
    subst (λ n. n ≤ vec_capacity c.in_ok-history.history) (c.len-2.ensures ∙ c.args.items.ok.0) c.in_ok-history.ensures.capacity in (
      kept-new c.args.items.items c.args.order _ _ _ _ (c.in_ok-marks.ensures ∙ ap (λ n. replicate n ToBegin) len) c.in_ok-history.ensures.items room c.requires,
      subst (λ (items : List ℕ). AreCounted (standing_of items c.args.order c.in_ok-marks.marks.items) c.in_ok-left.left.items) c.as_slice.ensures.value
          (subst (λ (marks : List Mark). AreCounted (standing_of c.as_slice.result.now c.args.order marks) c.in_ok-left.left.items) c.as_slice-2.ensures.value c.in_ok-left.ensures),
    )
