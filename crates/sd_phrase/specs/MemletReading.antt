-- Memlets: what a connector line moves.
use Rattle.std.specs.Option.{option_map, option_or}
use Rattle.std.specs.Prelude.{ℕ, ℤ, negsuc, List, [], ◌∷◌, codes, Option, Some, None}
use Rattle.sd_lex.specs.PlainTree.{Dimension}
use Rattle.sd_phrase.specs.LambdaReading.{lambda_whole}
use Rattle.sd_phrase.specs.Memlet.{LambdaTree, MemletTree}
use Rattle.sd_phrase.specs.Parts.{bracketed}
use Rattle.sd_phrase.specs.Phrase.{next, name_first, number_first, minus_one}
use Rattle.sd_phrase.specs.Readings.{reading_map, both, if_some}
use Rattle.sd_phrase.specs.SubsetReading.{subset}
use Rattle.sd_phrase.specs.declared.reading.Reading.{Reading}
use Rattle.sd_phrase.specs.declared.reading.Reading.TheVariants.{Form}
use Rattle.sd_phrase.specs.declared.word.Bracket.TheVariants.{Round}
use Rattle.sd_phrase.specs.declared.word.Piece.{Piece}

-- behind the volume of a memlet: nothing, or a comma and a lambda
abbrev pub resolution : List ℕ → List Piece → Reading (Option LambdaTree)
resolution text [] = Form None
resolution text (t ∷ ts) = if_some (next text (codes ",") (t ∷ ts)) (λ rest. reading_map Some (lambda_whole text rest))

-- a memlet of its parts
abbrev pub moved : (name : List ℕ) → (volume : Option ℤ) → Option LambdaTree → List Dimension → MemletTree
moved name volume lambda dimensions = record { name = name; volume = volume; lambda = lambda; dimensions = dimensions }

-- a number or -1 first, and what is behind it
abbrev pub volume_first : List ℕ → List Piece → Option (ℤ × List Piece)
volume_first text ts = option_or (number_first ts) (option_map (λ rest. (negsuc 0, rest)) (minus_one text ts))

-- what is in the round brackets of a memlet, and its subset
abbrev pub sized : List ℕ → (name : List ℕ) → (inside behind : List Piece) → Reading MemletTree
sized text name inside behind = if_some (volume_first text inside) (λ volume. both (moved name (Some volume.0)) (resolution text volume.1) (subset text behind))

-- behind the name: round brackets and a subset, or a subset alone
abbrev pub memlet_rest : List ℕ → (name : List ℕ) → List Piece → Option (List Piece × List Piece) → Reading MemletTree
memlet_rest text name ts (Some cut) = sized text name cut.0 cut.1
memlet_rest text name ts None = both (moved name None) (Form None) (subset text ts)

-- a memlet
abbrev pub memlet : List ℕ → List Piece → Reading MemletTree
memlet text ts = if_some (name_first text ts) (λ found. memlet_rest text found.0 found.1 (bracketed Round found.1))
