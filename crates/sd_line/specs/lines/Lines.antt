-- The logical lines of a source, and whether a block of them is a tasklet.
use Rattle.std.specs.Prelude.{ℕ, ◌+◌, ◌-◌, nat_eq, nat_lt, List, [], ◌∷◌, Bool, true, false, ◌&&◌, ◌||◌, if◌then◌else◌}
use Rattle.sd_line.specs.declared.line.head.BlockKind.{BlockKind}
use Rattle.sd_line.specs.line.Head.{HeadTree, consume_head}
use Rattle.sd_phrase.specs.declared.reading.Reading.{Reading}

-- a logical line: its number, whether it opens a block, how many it closes, whether it begins with a name and `<<` or `>>`, and what it says in each kind of block
pub record Line : Type 0 where
  pub number : ℕ
  pub opens : Bool
  pub closes : ℕ
  pub connects : Bool
  pub head : BlockKind → Reading HeadTree

-- one of the lines, within so many inner blocks of a block, is a connector line of the block itself
abbrev pub connects_from : (inner : ℕ) → List Line → Bool
connects_from inner [] = false
connects_from inner (line ∷ lines) =
    let now = if line.opens then inner + 1 else inner in
    if nat_lt now line.closes then false else (nat_eq now line.closes && line.connects) || connects_from (now - line.closes) lines

-- the lines begin with a block that has a connector line at its own level
abbrev pub has_connector_line : List Line → Bool
has_connector_line [] = false
has_connector_line (line ∷ lines) = line.opens && (line.connects || connects_from 0 lines)

abbrev pub is_consume : HeadTree → Bool
is_consume (consume_head name element worker) = true
is_consume head = false

-- the block behind a consume's `def` is a tasklet where a connector line stands in it
abbrev pub opens_tasklet : HeadTree → (rest : List Line) → Bool
opens_tasklet head rest = is_consume head && has_connector_line rest
