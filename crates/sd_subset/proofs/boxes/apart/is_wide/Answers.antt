use Rattle.std.proofs.Common.{rules, FitsSigned, ◌<ℤ◌, ◌-ℤ◌, sym, subst}
use Rattle.std.specs.Int.{w128}
use Rattle.std.proofs.lemmas.Int.{to_z-of_z}
use Rattle.sd_subset.proofs.boxes.apart.is_wide.Goals as goal

pub returns-then-is_first_within : goal.returns-then-is_first_within
returns-then-is_first_within c =
    let one = c.args.one.now in
    let other = c.args.other.now in
    let one_low : FitsSigned w128 one.low.constant = search rules in
    let one_high : FitsSigned w128 one.high.constant = search rules in
    let other_low : FitsSigned w128 other.low.constant = search rules in
    let other_high : FitsSigned w128 other.high.constant = search rules in
    let moved : FitsSigned w128 c.in_ok-distance.distance = search rules in
    let distance = c.in_ok-distance.ensures in
    let first = simp to_z-of_z at c.in_ok-is_first_within.ensures in
    let second = simp to_z-of_z at c.in_ok-is_other_within.ensures in (
      λ answer. record {
        wide = subst (λ most. (one.high.constant -ℤ other.low.constant) <ℤ most) distance (first.0 c.if-is_first_within.true);
        other_wide = subst (λ most. (other.high.constant -ℤ one.low.constant) <ℤ most) distance (second.0 answer);
      },
      λ wide. second.1 (subst (λ most. (other.high.constant -ℤ one.low.constant) <ℤ most) (sym distance) wide.other_wide),
    )
