use Rattle.std.proofs.lemmas.Bool.{true≢false}
use Rattle.std.proofs.Common.{◌≡◌, true, false, sym, ◌≤◌, [], length, ◌++◌, rules, arith, ap, ◌∙◌, FitsSigned}
use Rattle.std.specs.Int.{w128}
use Rattle.std.proofs.lemmas.Int.{to_z-of_z}
use Rattle.sd_range.specs.Arithmetic.{put_before, combined}
use Rattle.sd_range.proofs.Normal.{normal-combined}
use Rattle.sd_range.proofs.Combining.{combined-next, normal-next, short-next}
use Rattle.sd_range.proofs.arithmetic.combined_terms.Goals as goal

pub put-requires : goal.put-requires
put-requires c =
    let left = c.args.left.now in
    let factor = c.args.factor in
    let right = c.args.right.now in
    let factor_fits : FitsSigned w128 factor = c.ranges.factor in
    let coefficient_fits : FitsSigned w128 c.in-Some.next.coefficient = search rules in
    let split = simp to_z-of_z at c.loop-next.invariant.combination in
    let is = simp to_z-of_z at c.in-Some.ensures in
    simp to_z-of_z
    (normal-next c.loop-next.terms c.loop-next.left_rest.now factor c.loop-next.right_rest.now (combined left factor right) c.in-Some.next split c.requires.fits is
    (normal-combined left factor right c.requires.left))

pub loop-next-preserved : goal.loop-next-preserved
loop-next-preserved c =
    let left = c.args.left.now in
    let factor = c.args.factor in
    let right = c.args.right.now in
    let next = c.in-Some.next in
    let factor_fits : FitsSigned w128 factor = c.ranges.factor in
    let coefficient_fits : FitsSigned w128 next.coefficient = search rules in
    let split = simp to_z-of_z at c.loop-next.invariant.combination in
    let is = simp to_z-of_z at c.in-Some.ensures in
    let more = simp to_z-of_z at c.in_ok-put.ensures.ok in
    record {
      combination = simp to_z-of_z (ap (λ terms. terms ++ combined next.left.now factor next.right.now) more
          ∙ combined-next c.loop-next.terms c.loop-next.left_rest.now factor c.loop-next.right_rest.now (combined left factor right) next split c.requires.fits is);
      normal_left = is.normal_left;
      normal_right = is.normal_right;
    }

pub returns-in_err-put-clause-few : goal.returns-in_err-put-clause-few
returns-in_err-put-clause-few c = λ few.
    let left = c.args.left.now in
    let factor = c.args.factor in
    let right = c.args.right.now in
    let next = c.in-Some.next in
    let factor_fits : FitsSigned w128 factor = c.ranges.factor in
    let coefficient_fits : FitsSigned w128 next.coefficient = search rules in
    let split = simp to_z-of_z at c.loop-next.invariant.combination in
    let is = simp to_z-of_z at c.in-Some.ensures in
    let refused = simp to_z-of_z at c.in_err-put.ensures.few in
    let room = short-next c.loop-next.terms c.loop-next.left_rest.now factor c.loop-next.right_rest.now (combined left factor right) next split c.requires.fits is in
    let within : length (c.loop-next.terms ++ put_before next.variable next.coefficient []) ≤ 4 = omega (arith, room, few) in
    let no : false ≡ true = refused within in
    absurd (true≢false (sym no))
