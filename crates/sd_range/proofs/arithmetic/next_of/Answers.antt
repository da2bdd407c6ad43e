use Rattle.std.proofs.Common.{◌≡◌, ◌∷◌, [], rules, arith, ◌+ℤ◌, ◌*ℤ◌, ap, ◌∙◌, sym, FitsSigned}
use Rattle.std.specs.Int.{int_wrap, w128}
use Rattle.std.proofs.lemmas.Int.{to_z-of_z, int_wrap_fits}
use Rattle.std.proofs.lemmas.List.{nil_from_length}
use Rattle.std.proofs.Math.IntN.{+ℤ_idl}
use Rattle.sd_range.specs.Terms.{IsBelow}
use Rattle.sd_range.specs.Arithmetic.{put_before, combined}
use Rattle.sd_range.proofs.Combining.{combined-left_first, combined-right_first, combined-both_first}
use Rattle.sd_range.proofs.arithmetic.next_of.Goals as goal
use Rattle.sd_range.proofs.arithmetic.next_of.Goals.{in_default-split_first-via-in-Some-2+else-other-first-2, in_default-split_first-via-in_default-split_first}

pub returns-in_default : goal.returns-in_default
returns-in_default c =
    let other = c.in_ok-other.other.now in
    let others = c.in_ok-other.others.now in
    let factor = c.args.factor in
    let result_fits : FitsSigned w128 c.with_term.result = search rules in
    let coefficient_fits : FitsSigned w128 other.1 = search rules in
    let factor_fits : FitsSigned w128 factor = c.ranges.factor in
    let right : c.args.right.now ≡ other ∷ others = c.in_ok-other.ensures.cases.0 in
    let left : c.args.left.now ≡ [] = nil_from_length c.args.left.now c.in_default.ensures.cases in
    let kept = simp to_z-of_z at c.with_term.ensures in
    let normal = rw right at c.requires.right in
    record {
      exact = factor *ℤ other.1;
      kept = simp to_z-of_z (kept ∙ ap (int_wrap w128) (+ℤ_idl (factor *ℤ other.1)));
      first = rw right (combined-right_first c.args.left.now factor other others c.requires.left normal (rw left tt));
      normal_left = c.requires.left;
      normal_right = normal.2;
      shorter = rw right (omega arith);
    }

pub returns-in-Some-split_first : goal.returns-in-Some-split_first
returns-in-Some-split_first c =
    let first = c.in-Some.first.now in
    let other = c.in-Some-split_first.other.now in
    let rest = c.in-Some-split_first.rest.now in
    let factor = c.args.factor in
    let result_fits : FitsSigned w128 c.with_term-in-Some-split_first.result = search rules in
    let coefficient_fits : FitsSigned w128 other.1 = search rules in
    let factor_fits : FitsSigned w128 factor = c.ranges.factor in
    let left : c.args.left.now ≡ first ∷ c.in-Some.others.now = c.in-Some.ensures.cases.0 in
    let right : c.args.right.now ≡ other ∷ rest = c.in-Some-split_first.ensures.cases.0 in
    let kept = simp to_z-of_z at c.with_term-in-Some-split_first.ensures in
    let normal = rw right at c.requires.right in
    record {
      exact = factor *ℤ other.1;
      kept = simp to_z-of_z (kept ∙ ap (int_wrap w128) (+ℤ_idl (factor *ℤ other.1)));
      first = rw right (combined-right_first c.args.left.now factor other rest c.requires.left normal (rw left c.if-other-first.true));
      normal_left = c.requires.left;
      normal_right = normal.2;
      shorter = rw right (omega arith);
    }

pub returns-in-Some-2 : goal.returns-in-Some-2
returns-in-Some-2 c =
    let first = c.in-Some.first.now in
    let others = c.in-Some.others.now in
    let other = c.in-Some-split_first.other.now in
    let rest = c.in-Some-split_first.rest.now in
    let factor = c.args.factor in
    let result_fits : FitsSigned w128 c.with_term-in-Some-2.result = search rules in
    let first_fits : FitsSigned w128 first.1 = search rules in
    let other_fits : FitsSigned w128 other.1 = search rules in
    let factor_fits : FitsSigned w128 factor = c.ranges.factor in
    let left : c.args.left.now ≡ first ∷ others = c.in-Some.ensures.cases.0 in
    let right : c.args.right.now ≡ other ∷ rest = c.in-Some-split_first.ensures.cases.0 in
    let kept = simp to_z-of_z at c.with_term-in-Some-2.ensures in
    let normal_left = rw left at c.requires.left in
    let normal_right = rw right at c.requires.right in
    record {
      exact = first.1 +ℤ (factor *ℤ other.1);
      kept = simp to_z-of_z kept;
      first = rw (left, right) (combined-both_first first others factor other rest normal_right c.if-other-first-2.true
          ∙ ap (λ variable. put_before variable (first.1 +ℤ (factor *ℤ other.1)) (combined others factor rest)) c.if-other-first-2.true);
      normal_left = normal_left.2;
      normal_right = normal_right.2;
      shorter = rw (left, right) (omega arith);
    }

-- the right side has no variable so low
below_right : (c : goal.After-result-1) → IsBelow c.in-Some.first.now.0 c.args.right.now
below_right c = elim c.in_default-split_first.branch [
  | in_default-split_first-via-in-Some-2+else-other-first-2 w ↦ rw w.in-Some-split_first.ensures.cases.0 (omega arith)
  | in_default-split_first-via-in_default-split_first w ↦ rw (nil_from_length c.args.right.now w.in_default-split_first.ensures.cases) tt
]

pub returns-in_default-split_first : goal.returns-in_default-split_first
returns-in_default-split_first c =
    let first = c.in-Some.first.now in
    let others = c.in-Some.others.now in
    let first_fits : FitsSigned w128 first.1 = search rules in
    let left : c.args.left.now ≡ first ∷ others = c.in-Some.ensures.cases.0 in
    let normal_left = rw left at c.requires.left in
    record {
      exact = first.1;
      kept = simp to_z-of_z (sym (int_wrap_fits w128 first.1 first_fits));
      first = rw left (combined-left_first first others c.args.factor c.args.right.now normal_left c.requires.right (below_right c));
      normal_left = normal_left.2;
      normal_right = c.requires.right;
      shorter = rw left (omega arith);
    }
