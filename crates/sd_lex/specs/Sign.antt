-- The signs of the language.
use Rattle.std.specs.Prelude.{ℕ, nat_eq, List, [], ◌∷◌, Bool, codes}
use Rattle.std.specs.List.{list_any, starts_with}

abbrev pub signs_of_two : List (List ℕ)
signs_of_two = codes "//" ∷ codes "<=" ∷ codes ">=" ∷ codes "==" ∷ codes "!=" ∷ codes "+=" ∷ codes "<<" ∷ codes ">>" ∷ []

abbrev pub signs_of_one : List ℕ
signs_of_one = codes "+-*%&|^~<>=()[],:.@"

abbrev pub is_sign_of_one : ℕ → Bool
is_sign_of_one byte = list_any (λ sign. nat_eq sign byte) signs_of_one

abbrev pub begins_with_sign_of_two : List ℕ → Bool
begins_with_sign_of_two bytes = list_any (λ sign. starts_with nat_eq bytes sign) signs_of_two

abbrev pub opens : ℕ → Bool
opens byte = list_any (λ sign. nat_eq sign byte) (codes "([")

abbrev pub closes : ℕ → Bool
closes byte = list_any (λ sign. nat_eq sign byte) (codes ")]")
