-- Blocks open and close by the indentation of logical lines.
use Rattle.std.specs.Prelude.{ℕ, ◌-◌, nat_eq, nat_lt, List, [], ◌∷◌, length, replicate, Option, Some, None, if◌then◌else◌}
use Rattle.sd_lex.specs.declared.token.TokenKind.{TokenKind}
use Rattle.sd_lex.specs.declared.token.TokenKind.TheVariants.{Indent, Dedent}

-- what opens and closes before a line, and the widths of the blocks that are open on it, the innermost first
pub record Blocks : Type 0 where
  pub marks : List TokenKind
  pub widths : List ℕ

-- the open blocks that are no wider than this
abbrev pub outer : ℕ → List ℕ → List ℕ
outer width [] = []
outer width (inner ∷ widths) = if nat_lt width inner then outer width widths else inner ∷ widths

-- the width of the innermost open block; that of the text is 0
abbrev pub innermost : List ℕ → ℕ
innermost [] = 0
innermost (inner ∷ widths) = inner

-- a line of this width closes the wider blocks, stays in the one of its width, or opens one; None where it closes blocks and none of its width is open
abbrev pub blocks_at : ℕ → List ℕ → Option Blocks
blocks_at width widths =
    let kept = outer width widths in
    if nat_eq (innermost kept) width then Some (record { marks = replicate (length widths - length kept) Dedent; widths = kept })
    else if nat_eq (length kept) (length widths) then Some (record { marks = Indent ∷ []; widths = width ∷ kept })
    else None
