-- Texts in parts, which a byte parts; a text has one part more than it has such bytes.
use Rattle.std.specs.Prelude.{◌≡◌, ⊤, ℕ, ◌<◌, List, [], ◌∷◌, length, Option, Some, None, ◌==◌}
use Rattle.std.specs.List.{slice_split}

abbrev pub parts : (sign : ℕ) → (text : List ℕ) → List (List ℕ)
parts sign text = slice_split (λ byte. byte == sign) text

-- those of what is left of a text; of nothing there are none
abbrev pub parts_left : (sign : ℕ) → (rest : Option (List ℕ)) → List (List ℕ)
parts_left sign None = []
parts_left sign (Some rest) = parts sign rest

-- what is left is shorter than the text
abbrev pub IsShorter : (text : List ℕ) → (rest : Option (List ℕ)) → Type 0
IsShorter text None = ⊤
IsShorter text (Some rest) = length rest < length text

-- the first part of a text, and what is left behind it
pub record IsFirstPart (sign : ℕ) (text part : List ℕ) (rest : Option (List ℕ)) : Type 0 where
  pub parted : parts sign text ≡ part ∷ parts_left sign rest
  pub shorter : IsShorter text rest
