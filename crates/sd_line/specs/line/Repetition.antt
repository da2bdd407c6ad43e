-- `for k in range(..):` and `for i, j in dace.map[..]:`.
use Rattle.std.specs.Prelude.{ℕ, ℤ, nat_eq, length, List, [], ◌∷◌, ◌++◌, codes, Option, Some, None, true, false, if◌then◌else◌}
use Rattle.sd_lex.specs.PlainTree.{Expression, map_scope, for_loop, no_statement}
use Rattle.sd_phrase.specs.ExpressionReading.{expression}
use Rattle.sd_phrase.specs.Parts.{parts_of, closed, Few, one_part, two_parts, three_parts, few}
use Rattle.sd_phrase.specs.Phrase.{after, step_of, header}
use Rattle.sd_phrase.specs.Readings.{reading_map, both, if_some, if_true}
use Rattle.sd_phrase.specs.SubsetReading.{slots}
use Rattle.sd_phrase.specs.Words.{is_name, is_spelled, spelling}
use Rattle.sd_phrase.specs.declared.reading.Reading.{Reading}
use Rattle.sd_phrase.specs.declared.reading.Reading.TheVariants.{NoForm}
use Rattle.sd_phrase.specs.declared.word.Bracket.TheVariants.{Round, Square}
use Rattle.sd_phrase.specs.declared.word.Mark.TheVariants.{Comma}
use Rattle.sd_phrase.specs.declared.word.Piece.{Piece}
use Rattle.sd_line.specs.line.Head.{HeadTree, statement_head}

-- the names that commas join first, where those before are known, and what is behind them
abbrev pub names_from : List ℕ → (before : List (List ℕ)) → List Piece → Option (List (List ℕ) × List Piece)
names_from text before [] = None
names_from text before (t ∷ []) = if is_name t.word then Some (before ++ spelling text t ∷ [], []) else None
names_from text before (t ∷ u ∷ ts) =
    if is_name t.word then (if is_spelled text u (codes ",") then names_from text (before ++ spelling text t ∷ []) ts else Some (before ++ spelling text t ∷ [], u ∷ ts))
    else None

-- the names between commas that the list begins with, and what is behind them
abbrev pub names_first : List ℕ → List Piece → Option (List (List ℕ) × List Piece)
names_first text ts = names_from text [] ts

-- a loop with its begin
abbrev pub looped : (line : ℕ) → (name : List ℕ) → (step : Option ℤ) → Expression → Expression → HeadTree
looped line name step begin end = statement_head (for_loop line name (Some begin) end step no_statement)

-- a loop from its begin to its end; the end has a level less, for a comparison is put round it
abbrev pub loop_between : List ℕ → (line : ℕ) → (name : List ℕ) → (begin end : List Piece) → (step : Option ℤ) → Reading HeadTree
loop_between text line name begin end step = both (looped line name step) (expression text true 64 begin) (expression text true 63 end)

-- a loop whose begin is left out
abbrev pub looped_to : (line : ℕ) → (name : List ℕ) → Reading Expression → Reading HeadTree
looped_to line name r = reading_map (λ end. statement_head (for_loop line name None end None no_statement)) r

-- `for k in range(b, e, n):`: the parts in the round brackets
abbrev pub loop_line : List ℕ → (line : ℕ) → (name : List ℕ) → Few → Reading HeadTree
loop_line text line name (one_part end) = looped_to line name (expression text true 63 end)
loop_line text line name (two_parts begin end) = loop_between text line name begin end None
loop_line text line name (three_parts begin end step) = if_some (step_of step) (λ n. loop_between text line name begin end (Some n))
loop_line text line name others = NoForm

-- a loop has one name
abbrev pub loop_names : List ℕ → (line : ℕ) → (names : List (List ℕ)) → List Piece → Reading HeadTree
loop_names text line (name ∷ []) inside = loop_line text line name (few (parts_of Comma inside))
loop_names text line names inside = NoForm

-- `for i, j in dace.map[r, r]:`: what is in the square brackets, with as many ranges as names
abbrev pub map_line : List ℕ → (line : ℕ) → (names : List (List ℕ)) → List Piece → Reading HeadTree
map_line text line names inside =
    if_true (nat_eq (length names) (length (parts_of Comma inside))) (reading_map (λ ranges. statement_head (map_scope line names ranges no_statement)) (slots text false inside))

-- what stands between the name of a loop and its bounds
abbrev pub in_range : List (List ℕ)
in_range = codes "in" ∷ codes "range" ∷ codes "(" ∷ []

-- what stands between the names of a map and its ranges
abbrev pub in_map : List (List ℕ)
in_map = codes "in" ∷ codes "dace" ∷ codes "." ∷ codes "map" ∷ codes "[" ∷ []

-- a map, where its begin is there, and else no form
abbrev pub map_or_none : List ℕ → (line : ℕ) → (names : List (List ℕ)) → Option (List Piece) → Reading HeadTree
map_or_none text line names None = NoForm
map_or_none text line names (Some rest) = if_some (header text (closed Square rest)) (map_line text line names)

-- a loop, where its begin is there, and else a map
abbrev pub loop_or_map : List ℕ → (line : ℕ) → (names : List (List ℕ)) → List Piece → Option (List Piece) → Reading HeadTree
loop_or_map text line names ts (Some rest) = if_some (header text (closed Round rest)) (loop_names text line names)
loop_or_map text line names ts None = map_or_none text line names (after text in_map ts)

-- a loop or a map with these names
abbrev pub for_names : List ℕ → (line : ℕ) → (names : List (List ℕ)) → List Piece → Reading HeadTree
for_names text line names ts = loop_or_map text line names ts (after text in_range ts)

-- `for k in range(..):` or `for i, j in dace.map[..]:`, behind the `for`
abbrev pub for_line : List ℕ → (line : ℕ) → List Piece → Reading HeadTree
for_line text line ts = if_some (names_first text ts) (λ found. for_names text line found.0 found.1)
