-- Dimensions of a subset and ranges of a map.
use Rattle.std.specs.Prelude.{ℕ, ℤ, List, [], ◌∷◌, map, Option, Some, None, Bool, true, false}
use Rattle.sd_lex.specs.PlainTree.{Expression, Dimension, index, span}
use Rattle.sd_phrase.specs.declared.reading.Reading.{Reading}
use Rattle.sd_phrase.specs.declared.reading.Reading.TheVariants.{NoForm, Form}
use Rattle.sd_phrase.specs.declared.word.Bracket.TheVariants.{Square}
use Rattle.sd_phrase.specs.declared.word.Mark.TheVariants.{Comma, Colon}
use Rattle.sd_phrase.specs.declared.word.Piece.{Piece}
use Rattle.sd_phrase.specs.ExpressionReading.{expression}
use Rattle.sd_phrase.specs.Parts.{parts_of, bracketed, whole, Few, one_part, two_parts, three_parts, few}
use Rattle.sd_phrase.specs.Phrase.{step_of}
use Rattle.sd_phrase.specs.Readings.{reading_map, both, if_some, listed}

-- an affine expression
abbrev pub affine : List ℕ → List Piece → Reading Expression
affine text ts = expression text true 64 ts

-- an expression that is written
abbrev pub wanted : Reading Expression → Reading (Option Expression)
wanted r = reading_map Some r

-- an affine expression, or nothing
abbrev pub optional : List ℕ → List Piece → Reading (Option Expression)
optional text [] = Form None
optional text (t ∷ ts) = wanted (affine text (t ∷ ts))

-- a range from the readings of its ends
abbrev pub spanned : Reading (Option Expression) → Reading (Option Expression) → (step : Option ℤ) → Reading Dimension
spanned begin end step = both (λ b e. span b e step) begin end

-- a range with both ends
abbrev pub range : List ℕ → (begin end : List Piece) → (step : Option ℤ) → Reading Dimension
range text begin end step = spanned (wanted (affine text begin)) (wanted (affine text end)) step

-- a range with a step
abbrev pub stepped : List ℕ → (begin end : List Piece) → (step : Option ℤ) → Reading Dimension
stepped text begin end step = if_some step (λ n. range text begin end (Some n))

-- a dimension of a subset: an index, or a range whose ends may be missing where no step is written
abbrev pub dimension_by : List ℕ → Few → Reading Dimension
dimension_by text (one_part at) = reading_map index (affine text at)
dimension_by text (two_parts begin end) = spanned (optional text begin) (optional text end) None
dimension_by text (three_parts begin end step) = stepped text begin end (step_of step)
dimension_by text others = NoForm

-- a range of a map
abbrev pub range_by : List ℕ → Few → Reading Dimension
range_by text (two_parts begin end) = range text begin end None
range_by text (three_parts begin end step) = stepped text begin end (step_of step)
range_by text others = NoForm

-- a dimension of a subset, or a range of a map, by its parts between colons
abbrev pub slot_by : List ℕ → (in_subset : Bool) → Few → Reading Dimension
slot_by text true parts = dimension_by text parts
slot_by text false parts = range_by text parts

-- a dimension of a subset, or a range of a map
abbrev pub slot : List ℕ → (in_subset : Bool) → List Piece → Reading Dimension
slot text in_subset ts = slot_by text in_subset (few (parts_of Colon ts))

-- dimensions of a subset, or ranges of a map, between commas
abbrev pub slots : List ℕ → (in_subset : Bool) → List Piece → Reading (List Dimension)
slots text in_subset ts = listed (map (slot text in_subset) (parts_of Comma ts))

-- a subset in square brackets with nothing behind it, or none
abbrev pub subset : List ℕ → List Piece → Reading (List Dimension)
subset text [] = Form []
subset text (t ∷ ts) = if_some (whole (bracketed Square (t ∷ ts))) (slots text true)
