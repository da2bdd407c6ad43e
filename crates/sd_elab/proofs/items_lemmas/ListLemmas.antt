-- Lists of names, and links of calls.
use Rattle.std.proofs.Common.{◌≡◌, ◌∙◌, List, [], ◌∷◌, ◌++◌, length, map, refl, ap, sym, arith}
use Rattle.std.proofs.lemmas.List.{append-nil}

pub map_length : {A B : Type 0} (f : A → B) (members : List A) → length (map f members) ≡ length members
map_length f [] = refl
map_length f (first ∷ members) = omega (arith, map_length f members)

-- what was made is all where nothing is left
pub all_made : {A : Type 0} (made all left : List A) → made ++ left ≡ all → left ≡ [] → made ≡ all
all_made made all left whole none = sym (append-nil made) ∙ ap (λ rest. made ++ rest) (sym none) ∙ whole
