-- `dace.reduce(lambda x, y: E, X, Y, axis=n, identity=c)`.
use Rattle.std.specs.Option.{option_and_then, option_map, option_or}
use Rattle.std.specs.Prelude.{ℕ, ℤ, pos, int_le, neg_ℤ, List, [], ◌∷◌, codes, Option, Some, None, if◌then◌else◌}
use Rattle.sd_phrase.specs.LambdaReading.{LambdaNames, lambda_names, lambda_by}
use Rattle.sd_phrase.specs.Parts.{at_mark}
use Rattle.sd_phrase.specs.Phrase.{next, after, name_first, lone_number, number_first}
use Rattle.sd_phrase.specs.Readings.{reading_map, if_some}
use Rattle.sd_phrase.specs.declared.reading.Reading.{Reading}
use Rattle.sd_phrase.specs.declared.word.Mark.TheVariants.{Comma}
use Rattle.sd_phrase.specs.declared.word.Piece.{Piece}
use Rattle.sd_phrase.specs.Memlet.{LambdaTree}
use Rattle.sd_line.specs.line.Head.{HeadTree, reduce_head}
use Rattle.sd_line.specs.declared.line.body.reduction.Options.{Options}

-- the number below zero that a minus makes of a number
abbrev pub opposite : Option ℤ → Option ℤ
opposite None = None
opposite (Some value) = if int_le (pos 0) value then Some (neg_ℤ value) else None

-- `n` or `-n`
abbrev pub minus_number : List ℕ → List Piece → Option ℤ
minus_number text ts = option_or (lone_number ts) (option_and_then (λ rest. opposite (lone_number rest)) (next text (codes "-") ts))

-- the begin of the axis
abbrev pub axis_phrase : List (List ℕ)
axis_phrase = codes "," ∷ codes "axis" ∷ codes "=" ∷ []

-- the begin of the identity
abbrev pub identity_phrase : List (List ℕ)
identity_phrase = codes "," ∷ codes "identity" ∷ codes "=" ∷ []

-- behind the axis, if any: nothing, or an identity
abbrev pub identity_of : List ℕ → (axis : Option ℤ) → List Piece → Option Options
identity_of text axis [] = Some (record { axis = axis; identity = None })
identity_of text axis (t ∷ ts) =
    option_and_then (λ rest. option_map (λ n. record { axis = axis; identity = Some n }) (minus_number text rest)) (after text identity_phrase (t ∷ ts))

-- behind the two containers: an axis where its begin is there
abbrev pub axis_or_none : List ℕ → List Piece → Option (List Piece) → Option Options
axis_or_none text ts (Some rest) = option_and_then (λ found. identity_of text (Some found.0) found.1) (number_first rest)
axis_or_none text ts None = identity_of text None ts

-- what stands behind the two containers: an axis where wanted, then an identity where wanted
abbrev pub options : List ℕ → List Piece → Option Options
options text ts = axis_or_none text ts (after text axis_phrase ts)

-- the two containers, and what stands behind them
pub record Containers : Type 0 where
  pub from : List ℕ
  pub to : List ℕ
  pub options : Options

-- the second container, and what stands behind it
abbrev pub to_of : List ℕ → (from : List ℕ) → List Piece → Option Containers
to_of text from ts = option_and_then (λ found. option_map (λ given. record { from = from; to = found.0; options = given }) (options text found.1)) (name_first text ts)

-- `X, Y` and what stands behind them
abbrev pub containers : List ℕ → List Piece → Option Containers
containers text ts = option_and_then (λ found. option_and_then (to_of text found.0) (next text (codes ",") found.1)) (name_first text ts)

-- a reduction of its parts
abbrev pub reduced : (from to : List ℕ) → Options → Reading LambdaTree → Reading HeadTree
reduced from to given r = reading_map (λ lambda. reduce_head lambda from to given.axis given.identity) r

-- a reduction, where the two names of its lambda are known: its body ends at the first comma outside brackets
abbrev pub reduce_names : List ℕ → LambdaNames → Reading HeadTree
reduce_names text names =
    if_some (at_mark Comma names.rest) (λ cut. if_some (containers text cut.1) (λ given.
    reduced given.from given.to given.options (lambda_by text names.first names.second cut.0)))

-- `dace.reduce(lambda x, y: E, X, Y, axis=n, identity=c)`: what is in the round brackets
abbrev pub reduce_line : List ℕ → List Piece → Reading HeadTree
reduce_line text inside = if_some (option_and_then (lambda_names text) (next text (codes "lambda") inside)) (reduce_names text)
