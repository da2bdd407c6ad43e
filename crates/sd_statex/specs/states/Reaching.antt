-- Where work is done, other work is done too, with the same memories and turns; each with its own bound on transitions and takes.
use Rattle.std.specs.Prelude.{◌≡◌, ℕ, zero, suc, Some}
use Rattle.sd_work.specs.Memory.{Memories}
use Rattle.sd_work.specs.Residual.{Term, Terms}
use Rattle.sd_work.specs.BigStep.{Reached, Coming, big_step, big_parts}
use Rattle.sd_alike.specs.alike.SameWork.{done_of}

abbrev pub Reaches : {P Q : Type 0} → Coming P → Coming Q → Type 0
Reaches coming other = (now : Reached) → done_of coming ≡ Some now → done_of other ≡ Some now

-- from all memories and turns
abbrev pub GoesTo : {P Q : Type 0} → (Memories → ℕ → Coming P) → (Memories → ℕ → Coming Q) → Type 0
GoesTo go other = (memories : Memories) (turns : ℕ) → Reaches (go memories turns) (other memories turns)

abbrev pub DoesWith : {P Q : Type 0} → (most : ℕ) → Term P → (more : ℕ) → Term Q → Type 0
DoesWith most term more other = GoesTo (big_step term most) (big_step other more)

abbrev pub DoWith : {P Q : Type 0} → (most : ℕ) → Terms P → (more : ℕ) → Terms Q → Type 0
DoWith most parts more others = GoesTo (big_parts parts most) (big_parts others more)

-- one number is not above another
pub data AtMost : ℕ → ℕ → Type 0 where
  nothing_more : {more : ℕ} → AtMost zero more
  one_more : {most more : ℕ} → AtMost most more → AtMost (suc most) (suc more)

abbrev pub twice : ℕ → ℕ
twice zero = zero
twice (suc most) = suc (suc (twice most))
