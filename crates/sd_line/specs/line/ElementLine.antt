-- A line that begins with an element: `X[e] = E`, `X[e] += E` and the copy `X[d] = Y[d]`.
use Rattle.std.specs.Prelude.{ℕ, List, codes, Option, Some, None, Bool, true, false}
use Rattle.sd_lex.specs.PlainTree.{Expression, Dimension, assign, copy}
use Rattle.sd_lex.specs.TreeFold.{expressions_listed}
use Rattle.sd_phrase.specs.ExpressionReading.{expression, expressions}
use Rattle.sd_phrase.specs.Parts.{at_mark, bracketed, whole}
use Rattle.sd_phrase.specs.Phrase.{next, name_first}
use Rattle.sd_phrase.specs.Readings.{both, if_some}
use Rattle.sd_phrase.specs.SubsetReading.{slots}
use Rattle.sd_phrase.specs.declared.reading.Reading.{Reading}
use Rattle.sd_phrase.specs.declared.reading.Reading.TheVariants.{NoForm}
use Rattle.sd_phrase.specs.declared.word.Bracket.TheVariants.{Square}
use Rattle.sd_phrase.specs.declared.word.Mark.TheVariants.{Colon}
use Rattle.sd_phrase.specs.declared.word.Piece.{Piece}
use Rattle.sd_line.specs.line.Head.{HeadTree, statement_head}
use Rattle.sd_line.specs.declared.line.head.BlockKind.{BlockKind}
use Rattle.sd_line.specs.declared.line.head.BlockKind.TheVariants.{Program}

-- how deep the value of `X[e] += E` may be: outside maps and consume scopes an addition is put round it
abbrev pub levels_of_sum : BlockKind → ℕ
levels_of_sum Program = 63
levels_of_sum other = 64

-- `X[e] = E` or `X[e] += E` of its parts
abbrev pub assigned : (line : ℕ) → (name : List ℕ) → (add : Bool) → List Expression → Expression → HeadTree
assigned line name add at value = statement_head (assign line name (expressions_listed at) add value)

-- `X[e] = E` or `X[e] += E`: what is in the brackets, and the tokens of the value
abbrev pub assign_line : List ℕ → (line : ℕ) → (name : List ℕ) → (add : Bool) → (levels : ℕ) → (inside value : List Piece) → Reading HeadTree
assign_line text line name add levels inside value = both (assigned line name add) (expressions text true 64 inside) (expression text true levels value)

-- `X[d] = Y[d]` of its parts
abbrev pub copied : (line : ℕ) → (to from : List ℕ) → List Dimension → List Dimension → HeadTree
copied line to from to_dimensions from_dimensions = statement_head (copy line to to_dimensions from from_dimensions)

-- `X[d] = Y[d]`: what is in the brackets on the left, and the tokens behind the `=`
abbrev pub copy_line : List ℕ → (line : ℕ) → (to : List ℕ) → (inside ts : List Piece) → Reading HeadTree
copy_line text line to inside ts =
    if_some (name_first text ts) (λ found. if_some (whole (bracketed Square found.1)) (λ inner.
    both (copied line to found.0) (slots text true inside) (slots text true inner)))

-- behind the brackets, where no `=` is: `+=` and a value, or no form
abbrev pub sum_or_none : List ℕ → BlockKind → (line : ℕ) → (name : List ℕ) → (inside : List Piece) → Option (List Piece) → Reading HeadTree
sum_or_none text kind line name inside None = NoForm
sum_or_none text kind line name inside (Some value) = assign_line text line name true (levels_of_sum kind) inside value

-- behind the brackets: `=` and a value, or `+=` and a value
abbrev pub assign_or_sum : List ℕ → BlockKind → (line : ℕ) → (name : List ℕ) → (inside behind : List Piece) → Option (List Piece) → Reading HeadTree
assign_or_sum text kind line name inside behind (Some value) = assign_line text line name false 64 inside value
assign_or_sum text kind line name inside behind None = sum_or_none text kind line name inside (next text (codes "+=") behind)

-- with a colon in its brackets it is a copy
abbrev pub element_by : List ℕ → BlockKind → (line : ℕ) → (name : List ℕ) → (inside behind : List Piece) → Option (List Piece × List Piece) → Reading HeadTree
element_by text kind line name inside behind (Some range) = if_some (next text (codes "=") behind) (copy_line text line name inside)
element_by text kind line name inside behind None = assign_or_sum text kind line name inside behind (next text (codes "=") behind)

-- a line of an element: what is in its brackets, and what is behind them
abbrev pub element_line : List ℕ → BlockKind → (line : ℕ) → (name : List ℕ) → (inside behind : List Piece) → Reading HeadTree
element_line text kind line name inside behind = element_by text kind line name inside behind (at_mark Colon inside)
