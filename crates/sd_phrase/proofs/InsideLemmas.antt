-- The tokens behind others are inside the text as they are.
use Rattle.std.proofs.Common.{rules, length, ℕ, ◌-◌, List, drop, take}
use Rattle.std.proofs.lemmas.Grind.{common_steps}
use Rattle.sd_phrase.specs.declared.word.Piece.{Piece}
use Rattle.sd_phrase.specs.Spans.{AreInside}

pub inside_rest : (text : List ℕ) (ts : List Piece) (k : ℕ) → AreInside text ts → AreInside text (take (length ts - k) (drop k ts))
inside_rest text ts k h = search (rules, common_steps, h)
