-- A piece of a text is a front of it, and not empty.
use Rattle.std.proofs.Common.{◌≡◌, ℕ, zero, suc, ◌+◌, ◌<◌, ◌≤◌, min, ◌==◌, List, [], ◌∷◌, length, take, ap, sym, ◌∙◌, Option, Some, None, refl, arith, length-take}
use native.Mathlib.Numerals.{unary_clauses}
use Rattle.std.specs.List.{position}
use Rattle.std.specs.Option.{option_map_or}
use Rattle.std.proofs.lemmas.List.Quantifiers.{position-Some}
use Rattle.sd_report.specs.write.Pieces.{piece_length}

-- a place with what stands before it, or all
up_to : (found : Option ℕ) (all most : ℕ) → all ≤ most → ((place : ℕ) → found ≡ Some place → place < all) → option_map_or suc found all ≤ most
up_to None all most within each = within
up_to (Some place) all most within each = let below = each place refl in omega arith

some_of : (found : Option ℕ) (all : ℕ) → 0 < all → 0 < option_map_or suc found all
some_of None all some = some
some_of (Some place) all some = omega arith

pub piece_within : (text : List ℕ) → piece_length text ≤ length text
piece_within text =
    let front = take 4096 text in
    let shorter : length front ≤ length text = let is = length-take 4096 text in omega arith in
    up_to (position (λ byte. byte == 10) front) (length front) (length text) shorter (λ place is. (position-Some (λ byte. byte == 10) front place 0 is).0)

pub piece_some : (text : List ℕ) → 0 < length text → 0 < piece_length text
piece_some text some =
    let front = take 4096 text in
    let some_front : 0 < length front = let is = length-take 4096 text in omega arith in
    some_of (position (λ byte. byte == 10) front) (length front) some_front

-- a front of at most so many items
take_nothing : {X : Type 0} (most : ℕ) → take {A = X} most [] ≡ []
take_nothing zero = refl
take_nothing (suc most) = refl

take_least : {X : Type 0} (xs : List X) (most : ℕ) → take (min (length xs) most) xs ≡ take most xs
take_least [] most = take_nothing (min 0 most) ∙ sym (take_nothing most)
take_least (x ∷ xs) zero = let none : min (length (x ∷ xs)) 0 ≡ 0 = omega arith in ap (λ count. take count (x ∷ xs)) none
take_least (x ∷ xs) (suc most) = simp unary_clauses (ap (λ rest. x ∷ rest) (take_least xs most))

-- the first newline of the first 4,096 bytes, with what stands before it
pub piece_to : (text : List ℕ) (most place : ℕ) → most ≡ min (length text) 4096 → Some place ≡ position (λ byte. byte == 10) (take most text) → place + 1 ≡ piece_length text
piece_to text most place is found =
    let same : take most text ≡ take 4096 text = ap (λ count. take count text) is ∙ take_least text 4096 in
    omega (arith, ap (λ at. option_map_or suc at (length (take 4096 text))) (found ∙ ap (position (λ byte. byte == 10)) same))

pub piece_all : (text : List ℕ) (most : ℕ) → most ≡ min (length text) 4096 → None ≡ position (λ byte. byte == 10) (take most text) → length (take most text) ≡ piece_length text
piece_all text most is found =
    let same : take most text ≡ take 4096 text = ap (λ count. take count text) is ∙ take_least text 4096 in
    ap length same ∙ ap (λ at. option_map_or suc at (length (take 4096 text))) (found ∙ ap (position (λ byte. byte == 10)) same)
