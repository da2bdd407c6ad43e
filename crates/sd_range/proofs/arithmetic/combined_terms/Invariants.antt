use Rattle.std.proofs.Common.{◌≡◌, ◌+◌, ◌++◌, length}
use Rattle.sd_range.specs.Terms.{IsNormal}
use Rattle.sd_range.specs.Arithmetic.{combined}
use Rattle.sd_range.proofs.arithmetic.combined_terms.Given as goal

-- the terms so far stand before the combination of what is left
abbrev pub invariant-loop-next : goal.invariant-loop-next
invariant-loop-next l = record {
  combination : l.terms ++ combined l.left_rest l.factor l.right_rest ≡ combined l.left l.factor l.right;
  normal_left : IsNormal l.left_rest;
  normal_right : IsNormal l.right_rest;
}

-- the terms that are left of both sides
abbrev pub decreases-loop-next : goal.decreases-loop-next
decreases-loop-next l = length l.left_rest + length l.right_rest
