-- What a read or a write makes of an element that was cut: its mark, and what is left of it.
use Rattle.std.specs.Prelude.{ℕ, ◌==◌, ℤ, Option, Some, None, Bool, true, false}
use Rattle.sd_num.specs.Resolution.{stored, identity_of}
use Rattle.sd_num.specs.declared.width.Width.{Width}
use Rattle.sd_num.specs.declared.resolution.Resolution.{Resolution}
use Rattle.sd_num.specs.declared.resolution.Resolution.TheVariants.{Sum, Product, Min, Max, And, Or, Xor, Last}
use Rattle.sd_cut.specs.declared.elements.CutElement.{CutElement}
use Rattle.sd_cut.specs.declared.elements.ElementMark.{ElementMark}
use Rattle.sd_cut.specs.declared.elements.ElementMark.TheVariants.{Untouched, Kept, Replaced, Gathered}
use Rattle.sd_cut.specs.declared.turning.ElementLeft.{ElementLeft}

-- a number for each resolution
abbrev pub number_of : Resolution → ℕ
number_of Sum = 0
number_of Product = 1
number_of Min = 2
number_of Max = 3
number_of And = 4
number_of Or = 5
number_of Xor = 6
number_of Last = 7

-- two resolutions are one
abbrev pub are_one : (by other : Resolution) → Bool
are_one by other = number_of by == number_of other

-- what work sees of an element: what is left of it, where it was kept or replaced; else what was cut, with what was gathered
abbrev pub sees_by : ElementMark → Width → (opening left : ℤ) → ℤ
sees_by Untouched width opening left = opening
sees_by Kept width opening left = left
sees_by Replaced width opening left = left
sees_by (Gathered by) width opening left = stored width (Some by) opening left

abbrev pub sees : Width → CutElement → (left : ℤ) → ℤ
sees width cut left = sees_by cut.mark width cut.opening left

-- an element that is read, or that work may read or replace, is kept as work sees it
abbrev pub kept_left : Width → CutElement → (left : ℤ) → ElementLeft
kept_left width cut left = record { mark = Kept; value = sees width cut left }

-- one that is replaced was not read, unless it is kept
abbrev pub replaced_mark : ElementMark → ElementMark
replaced_mark Untouched = Replaced
replaced_mark Kept = Kept
replaced_mark Replaced = Replaced
replaced_mark (Gathered by) = Replaced

-- gathered by one resolution it stays so; by two it is kept
abbrev pub gathered_or_kept : (is_one : Bool) → Width → CutElement → (left : ℤ) → ElementLeft
gathered_or_kept true width cut left = record { mark = cut.mark; value = left }
gathered_or_kept false width cut left = kept_left width cut left

-- values are resolved with it by a resolution: what is gathered begins at the identity
abbrev pub gathered_on : ElementMark → Resolution → (identity : ℤ) → Width → CutElement → (left : ℤ) → ElementLeft
gathered_on Untouched by identity width cut left = record { mark = Gathered by; value = identity }
gathered_on Kept by identity width cut left = record { mark = cut.mark; value = left }
gathered_on Replaced by identity width cut left = record { mark = cut.mark; value = left }
gathered_on (Gathered other) by identity width cut left = gathered_or_kept (are_one by other) width cut left

abbrev pub gathered_from : Resolution → (identity : ℤ) → Width → CutElement → (left : ℤ) → ElementLeft
gathered_from by identity width cut left = gathered_on cut.mark by identity width cut left

-- without an identity it is kept
abbrev pub gathered_with : Option ℤ → Resolution → Width → CutElement → (left : ℤ) → ElementLeft
gathered_with None by width cut left = kept_left width cut left
gathered_with (Some identity) by width cut left = gathered_from by identity width cut left

abbrev pub gathered_left : Resolution → Width → CutElement → (left : ℤ) → ElementLeft
gathered_left by width cut left = gathered_with (identity_of by width) by width cut left

-- a value is stored in what is left of it
abbrev pub stored_in : Option Resolution → (value : ℤ) → Width → ElementLeft → ElementLeft
stored_in by value width before = record { mark = before.mark; value = stored width by before.value value }

-- a value is written: without a resolution, or by one without an identity, it replaces the element
abbrev pub written_with : Option ℤ → Resolution → (value : ℤ) → Width → CutElement → (left : ℤ) → ElementLeft
written_with None by value width cut left = stored_in (Some by) value width (record { mark = replaced_mark cut.mark; value = left })
written_with (Some identity) by value width cut left = stored_in (Some by) value width (gathered_from by identity width cut left)

abbrev pub written_left : Option Resolution → (value : ℤ) → Width → CutElement → (left : ℤ) → ElementLeft
written_left None value width cut left = stored_in None value width (record { mark = replaced_mark cut.mark; value = left })
written_left (Some by) value width cut left = written_with (identity_of by width) by value width cut left
