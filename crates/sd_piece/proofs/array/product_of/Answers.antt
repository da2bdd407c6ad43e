use Rattle.std.proofs.Common.{◌≡◌, ◌*◌, ◌^◌, ◌≤◌, get_or, sym, subst, arith}
use Rattle.std.specs.Option.{MatchOption}
use Rattle.sd_range.specs.Points.{product}
use Rattle.sd_piece.proofs.Arrays.{too-large}
use Rattle.sd_piece.proofs.array.product_of.Goals as goal

pub returns-in_err-all : goal.returns-in_err-all
returns-in_err-all c =
    let next = c.in_err-all.ensures in
    let over : 2 ^ 64 ≤ c.loop-extent.all * get_or c.args.extents.now c.loop-extent.extent-index 0 = omega (arith, next) in
    let less = c.loop-extent-test.true in
    let large : 2 ^ 64 ≤ product c.args.extents.now = subst (λ whole. 2 ^ 64 ≤ whole) c.loop-extent.invariant.0
    (too-large (2 ^ 64) c.loop-extent.all c.args.extents.now c.loop-extent.extent-index (omega (arith, less)) c.loop-extent.invariant.1 over) in
    subst (λ result. MatchOption result (2 ^ 64 ≤ product c.args.extents.now) (λ all. all ≡ product c.args.extents.now)) (sym c.from_residual.ensures) large
