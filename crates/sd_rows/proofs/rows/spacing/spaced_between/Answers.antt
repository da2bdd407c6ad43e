use Rattle.std.proofs.Common.{rules, ◌≡◌, ◌^◌, pos, ap, sym, ◌∙◌, unsigned_abs, w64, FitsSigned, to_z, of_z}
use Rattle.std.proofs.lemmas.Int.{to_z-of_z}
use Rattle.sd_num.specs.Wrapped.{wrapped}
use Rattle.sd_scope.specs.even.Even.{spaced}
use Rattle.sd_rows.proofs.rows_lemmas.Gaps.{between_below, stays}
use Rattle.sd_rows.proofs.rows.spacing.spaced_between.Goals as goal

pub returns : goal.returns
returns c apart to k element within here =
    let first = c.in_ok-first.first in
    let last = c.in_ok-last.last in
    let step = c.distance-step.result in
    let first_fits : FitsSigned w64 first = search rules in
    let last_fits : FitsSigned w64 last = search rules in
    let first_kept : to_z w64 (of_z w64 first) ≡ first = to_z-of_z w64 first first_fits in
    let first_is = c.in_ok-first.ensures.0 in
    let last_is = c.in_ok-last.ensures.0 in
    let same = c.distance-step.ensures apart (to_z-of_z w64 last last_fits ∙ last_is ∙ to ∙ ap (λ f. spaced f apart c.args.gaps) (sym (first_kept ∙ first_is))) k within in
    let there : pos element ≡ spaced (to_z w64 (of_z w64 first)) step k = here ∙ ap (λ f. spaced f apart k) (sym (first_kept ∙ first_is)) ∙ sym same in
    stays (spaced (to_z w64 (of_z w64 first)) step k) element there (between_below apart c.args.gaps k c.args.first c.args.last element (2 ^ 63) within to here c.in_ok-first.ensures.1 c.in_ok-last.ensures.1)
    ∙ ap (λ s. unsigned_abs (wrapped (spaced (to_z w64 (of_z w64 first)) s k))) (sym (to_z-of_z w64 step (record { sfits = c.distance-step.type_inv })))
