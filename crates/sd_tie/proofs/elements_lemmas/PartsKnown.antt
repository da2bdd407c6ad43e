-- A part that is known is of a name that is known.
use Rattle.std.proofs.Common.{◌≡◌, inl, inr, List, [], ◌∷◌, Some}
use Rattle.sd_lex.specs.PlainTree.{Dimension}
use Rattle.sd_program.specs.Names.{Name, Named, in_force}
use Rattle.sd_program.specs.Place.{Holder}
use Rattle.sd_program.specs.Known.{IsArray, IsPart, IsTarget}

-- the name is known
abbrev pub IsName : Named Holder → Name → Type 0
IsName known name = (holder : Holder) × (in_force known name ≡ Some holder)

pub array_known : (known : Named Holder) (name : Name) → IsArray known name → IsName known name
array_known known name h = (_, h.1)

pub part_known : (known : Named Holder) (name : Name) (dimensions : List Dimension) → IsPart known name dimensions → IsName known name
part_known known name [] h = array_known known name h
part_known known name (first ∷ rest) h = (_, h)

pub target_known : (known : Named Holder) (name : Name) (dimensions : List Dimension) → IsTarget known name dimensions → IsName known name
target_known known name [] (inl h) = array_known known name h
target_known known name [] (inr h) = (_, h)
target_known known name (first ∷ rest) h = (_, h)
