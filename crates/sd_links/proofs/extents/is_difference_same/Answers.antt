use Rattle.std.proofs.Common.{◌≡◌, nat_eq, ◌∙◌, ◌-ℤ◌, ◌≤ℤ◌, unsigned_abs, FitsSigned, rules}
use Rattle.std.specs.Int.{w128}
use Rattle.std.proofs.lemmas.Int.{to_z-of_z}
use Rattle.sd_links.proofs.Differences.{above_alike}
use Rattle.sd_links.proofs.extents.is_difference_same.Goals as goal

pub returns-then-less-other : goal.returns-then-less-other
returns-then-less-other c =
    let fits : FitsSigned w128 c.args.a = search rules in
    let other_fits : FitsSigned w128 c.args.other = search rules in
    let less_fits : FitsSigned w128 c.args.less = search rules in
    let b_fits : FitsSigned w128 c.args.b = search rules in
    let one : c.abs_diff-then-less-other.result ≡ unsigned_abs (c.args.a -ℤ c.args.b) = simp to_z-of_z at c.abs_diff-then-less-other.ensures in
    let two : c.abs_diff-then-less-other-2.result ≡ unsigned_abs (c.args.other -ℤ c.args.less) = simp to_z-of_z at c.abs_diff-then-less-other-2.ensures in
    let first : c.args.b ≤ℤ c.args.a = search rules in
    let second : c.args.less ≤ℤ c.args.other = search rules in
    (λ i. nat_eq (one i) (two i)) ∙ above_alike c.args.a c.args.b c.args.other c.args.less first second
