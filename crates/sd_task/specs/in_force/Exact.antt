-- Affine expressions whose arithmetic fits 128 bits.
use Rattle.std.specs.Prelude.{⊤, ℕ}
use Rattle.sd_lex.specs.PlainTree.{Expression, number, named, element_at, one, two, choice}
use Rattle.sd_range.specs.Arithmetic.{IsRepresentable}
use Rattle.sd_program.specs.Names.{Named}
use Rattle.sd_program.specs.Affines.{affine_of}

-- each partial result is representable, whatever numbers the variables have
abbrev pub IsExact : Expression → Type 0
IsExact (number value) = ⊤
IsExact (named name) = ⊤
IsExact (element_at name at) = ⊤
IsExact (one sign of) = IsExact of × ((variables : Named ℕ) → IsRepresentable (affine_of variables (one sign of)))
IsExact (two sign left right) = IsExact left × (IsExact right × ((variables : Named ℕ) → IsRepresentable (affine_of variables (two sign left right))))
IsExact (choice value when other) = ⊤
