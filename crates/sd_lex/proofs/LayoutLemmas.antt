-- The blocks of a line that begins a logical line.
use Rattle.std.proofs.Common.{◌≡◌, ℕ, zero, suc, ◌≤◌, List, refl, arith, true, false, None}
use Rattle.sd_lex.specs.Blocks.{blocks_at}
use Rattle.sd_lex.specs.Layout.{blocks_of}
use Rattle.sd_lex.specs.Line.{PhysicalLine, spaces_of, has_content, has_tab_in_indentation}

-- with a tab in its indentation it has no blocks
pub blocks-tab : (brackets : ℕ) (widths : List ℕ) (line : PhysicalLine) → brackets ≤ 0 → has_content line.bytes ≡ true → has_tab_in_indentation line.bytes ≡ true → blocks_of brackets widths line ≡ None
blocks-tab zero widths line none content tab = rw (content, tab) refl
blocks-tab (suc brackets) widths line none content tab = absurd (omega arith)

-- and without one its blocks are those of its width
pub blocks-width : (brackets : ℕ) (widths : List ℕ) (line : PhysicalLine) → brackets ≤ 0 → has_content line.bytes ≡ true → has_tab_in_indentation line.bytes ≡ false → blocks_of brackets widths line ≡ blocks_at (spaces_of line.bytes) widths
blocks-width zero widths line none content tab = rw (content, tab) refl
blocks-width (suc brackets) widths line none content tab = absurd (omega arith)
