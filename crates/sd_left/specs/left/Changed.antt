-- A part of a list that was changed, while its counts were not.
use Rattle.std.specs.Prelude.{◌≡◌, ℕ, slice_set}
use Rattle.sd_left.specs.declared.left.left.Left.{Left as LeftNow}
use Rattle.sd_left.specs.declared.left.left.Bodies.{Bodies as BodiesNow}
use Rattle.sd_left.specs.declared.left.left.Body.{Body as BodyNow}
use Rattle.sd_left.specs.declared.left.left.Left.TheViews.{out-Bodies, out-Body}

-- bodies with another one in the place of this number, and the same counts
pub record HasBody (before : BodiesNow) (number : ℕ) (body : BodyNow) (after : BodiesNow) : Type 0 where
  pub bodies : (out-Bodies after).bodies.items ≡ slice_set (out-Bodies before).bodies.items number body
  pub moves : (out-Bodies after).moves ≡ (out-Bodies before).moves
  pub unfinished : (out-Bodies after).unfinished ≡ (out-Bodies before).unfinished
  pub «open» : (out-Bodies after).«open» ≡ (out-Bodies before).«open»

-- a body with another part in the place of this number, and the same order and counts
pub record HasPart (before : BodyNow) (number : ℕ) (part : LeftNow) (after : BodyNow) : Type 0 where
  pub parts : (out-Body after).parts.items ≡ slice_set (out-Body before).parts.items number part
  pub order : (out-Body after).order ≡ (out-Body before).order
  pub moves : (out-Body after).moves ≡ (out-Body before).moves
  pub unfinished : (out-Body after).unfinished ≡ (out-Body before).unfinished
  pub «open» : (out-Body after).«open» ≡ (out-Body before).«open»
