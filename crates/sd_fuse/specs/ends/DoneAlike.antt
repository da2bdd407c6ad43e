-- Parts that are done where others are.
use Rattle.std.specs.Prelude.{◌≡◌, ℕ, Some}
use Rattle.sd_work.specs.Memory.{Memories}
use Rattle.sd_work.specs.Residual.{Terms}
use Rattle.sd_work.specs.Step.{Done}
use Rattle.sd_work.specs.BigStep.{Reached, reached, big_parts}
use Rattle.sd_confluence.specs.Alike.{AreStacksAlike}

-- where the first parts are done from left to right, the second are done from alike memories, and end alike with as many turns left
abbrev pub DoneAlike : {P : Type 0} → Terms P → Terms P → Type 0
DoneAlike parts others = (most turns : ℕ) (memories other : Memories) (now : Reached) → AreStacksAlike memories other → big_parts parts most memories turns ≡ Some (Done now) →
    (end : Memories) × (big_parts others most other turns ≡ reached end now.turns) × AreStacksAlike now.memories end
