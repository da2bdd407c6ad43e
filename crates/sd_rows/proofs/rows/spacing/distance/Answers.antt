use Rattle.std.proofs.Common.{◌≡◌, sym, ap, ◌∙◌, w64, FitsSigned, to_z, of_z}
use Rattle.std.proofs.lemmas.Int.{to_z-of_z}
use Rattle.sd_scope.specs.even.Even.{spaced}
use Rattle.sd_rows.proofs.rows_lemmas.Gaps.{divided, no_gap, same_distance}
use Rattle.sd_rows.proofs.rows.spacing.distance.Goals as goal

pub returns-then-is_apart : goal.returns-then-is_apart
returns-then-is_apart c apart to k within =
    let first_fits : FitsSigned w64 c.args.first = record { sfits = c.ranges.first.sfits } in
    let last_fits : FitsSigned w64 c.args.last = record { sfits = c.ranges.last.sfits } in
    let by : c.args.last ≡ spaced c.args.first (to_z w64 (of_z w64 c.args.guess)) c.args.gaps =
    sym (to_z-of_z w64 c.args.last last_fits) ∙ c.is_apart.ensures c.if-is_apart.true
    ∙ ap (λ first. spaced first (to_z w64 (of_z w64 c.args.guess)) c.args.gaps) (to_z-of_z w64 c.args.first first_fits) in
    same_distance c.args.first c.args.last (to_z w64 (of_z w64 c.args.guess)) apart c.args.gaps k by to within

pub returns-then-gaps-eq0 : goal.returns-then-gaps-eq0
returns-then-gaps-eq0 c apart to k within = no_gap c.args.first apart c.args.gaps k c.if-gaps-eq0.true within

pub returns : goal.returns
returns c apart to k within =
    divided c.args.first c.args.last apart c.args.gaps k _ c.if-gaps-eq0.false (record { sfits = c.ranges.first.sfits }) (record { sfits = c.ranges.last.sfits }) (record { sfits = c.from.type_inv })
    c.requires.first c.requires.last to c.from.ensures
