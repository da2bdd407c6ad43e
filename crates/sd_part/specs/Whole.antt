-- A memory as a store: nothing of it is cut.
use Rattle.sd_pieces.specs.cut.Merged.{Marking, kept, drained, AreElementsOfWidth}
use Rattle.sd_mem.specs.mem.Shaped.{Shaped, alone}
use Rattle.sd_cut.specs.Fits.{AreValuesOfWidth}

-- each element is kept, and each stream drained
abbrev pub all_kept : Marking
all_kept = record { element = λ container element. kept; stream = λ container. drained }

-- a memory's elements and values are ones of their containers' widths
abbrev pub IsOfWidths : Shaped → Type 0
IsOfWidths memory = AreElementsOfWidth (alone memory) × AreValuesOfWidth (alone memory)
