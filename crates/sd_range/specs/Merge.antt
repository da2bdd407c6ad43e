-- The steps of a combination of two lists of terms.
use Rattle.std.specs.Prelude.{◌≡◌, ◌<◌, ◌+◌, ℤ, List, ℕ, length}
use Rattle.std.specs.Int.{int_wrap, w128}
use Rattle.sd_range.specs.Terms.{IsNormal}
use Rattle.sd_range.specs.Arithmetic.{put_before, combined}
use Rattle.sd_range.specs.declared.arithmetic.Next.{Next}

-- it stands before the combination of what is left of both lists; its coefficient is kept modulo 2^128
pub record IsNext (left : List (ℕ × ℤ)) (factor : ℤ) (right : List (ℕ × ℤ)) (next : Next) : Type 0 where
  pub exact : ℤ
  pub kept : next.coefficient ≡ int_wrap w128 exact
  pub first : combined left factor right ≡ put_before next.variable exact (combined next.left.now factor next.right.now)
  pub normal_left : IsNormal next.left.now
  pub normal_right : IsNormal next.right.now
  pub shorter : length next.left.now + length next.right.now < length left + length right
