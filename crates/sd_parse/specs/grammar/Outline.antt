-- The lines of a source by their indentation: each with the lines of the block below it.
use Rattle.std.specs.Prelude.{ℕ, ◌+◌, ◌-◌, nat_lt, List, [], ◌∷◌, Bool, false, ◌||◌, if◌then◌else◌}
use Rattle.sd_line.specs.lines.Lines.{Line}

-- lines, each with how deep it stands, those below it, and those behind that
pub data Outline : Type 0 where
  no_line : Outline
  and_line : (depth : ℕ) → Line → (below behind : Outline) → Outline

-- the first lines, as long as they stand deeper
abbrev pub deeper : (depth : ℕ) → Outline → Outline
deeper depth no_line = no_line
deeper depth (and_line at line below behind) = if nat_lt depth at then and_line at line below (deeper depth behind) else no_line

-- the lines behind those
abbrev pub outside : (depth : ℕ) → Outline → Outline
outside depth no_line = no_line
outside depth (and_line at line below behind) = if nat_lt depth at then outside depth behind else and_line at line below behind

-- a line stands one deeper than the line before it where it opens a block, and less deep by the blocks that it closes
abbrev pub depth_of : (before : ℕ) → Line → ℕ
depth_of before line = (if line.opens then before + 1 else before) - line.closes

-- the lines behind one that stands so deep
abbrev pub outline : (before : ℕ) → List Line → Outline
outline before [] = no_line
outline before (line ∷ lines) =
    let depth = depth_of before line in
    and_line depth line (deeper depth (outline depth lines)) (outside depth (outline depth lines))

-- a line of the block itself begins with a name and `<<` or `>>`
abbrev pub connects_among : Outline → Bool
connects_among no_line = false
connects_among (and_line depth line below behind) = line.connects || connects_among behind
