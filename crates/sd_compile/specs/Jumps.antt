-- Jumps that are written before what they pass is there.
use Rattle.std.specs.Prelude.{ℕ}
use Rattle.sd_tcode.specs.declared.op.op.Op.{Op}
use Rattle.sd_tcode.specs.declared.op.op.Op.TheVariants.{Skip, SkipIfZero, SkipUnlessZero, SkipUnlessLess, SkipUnlessLessEqual, SkipUnlessEqual, SkipUnlessDiffer}

-- a jump that passes so many instructions
abbrev pub with_count : Op → (count : ℕ) → Op
with_count (Skip old) count = Skip count
with_count (SkipIfZero value old) count = SkipIfZero value count
with_count (SkipUnlessZero value old) count = SkipUnlessZero value count
with_count (SkipUnlessLess left right old) count = SkipUnlessLess left right count
with_count (SkipUnlessLessEqual left right old) count = SkipUnlessLessEqual left right count
with_count (SkipUnlessEqual left right old) count = SkipUnlessEqual left right count
with_count (SkipUnlessDiffer left right old) count = SkipUnlessDiffer left right count
with_count op count = op
