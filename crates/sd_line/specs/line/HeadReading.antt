-- What a line says, by its tokens alone.
use Rattle.std.specs.Prelude.{ℕ, List, if◌then◌else◌}
use Rattle.sd_line.specs.declared.line.head.BlockKind.{BlockKind}
use Rattle.sd_line.specs.declared.line.head.BlockKind.TheVariants.{Top, Program, Scope, Tasklet}
use Rattle.sd_phrase.specs.declared.reading.Reading.{Reading}
use Rattle.sd_phrase.specs.declared.reading.Reading.TheVariants.{NoForm}
use Rattle.sd_phrase.specs.declared.word.Piece.{Piece}
use Rattle.sd_line.specs.line.BodyLine.{body_line}
use Rattle.sd_line.specs.line.Head.{HeadTree}
use Rattle.sd_phrase.specs.Parts.{is_balanced}
use Rattle.sd_line.specs.line.TaskletLine.{tasklet_line}
use Rattle.sd_line.specs.line.TopLine.{top_line}

-- a line as a form of its kind of block
abbrev pub line_by : List ℕ → BlockKind → (line : ℕ) → List Piece → Reading HeadTree
line_by text Top line ts = top_line text line ts
line_by text Program line ts = body_line text Program line ts
line_by text Scope line ts = body_line text Scope line ts
line_by text Tasklet line ts = tasklet_line text line ts

-- what the tokens of a line read as; one with a bracket that is not closed is no form
abbrev pub head_of : List ℕ → BlockKind → (line : ℕ) → List Piece → Reading HeadTree
head_of text kind line ts = if is_balanced ts then line_by text kind line ts else NoForm
