-- Numbers below another that pass a test.
use Rattle.std.proofs.Common.{◌≡◌, ℕ, suc, ◌+◌, List, [], ◌∷◌, ◌++◌, Bool, cond, length, map, refl, add-one}
use Rattle.std.specs.List.{filter}
use Rattle.std.proofs.lemmas.List.Elements.{filter-append}
use Rattle.std.proofs.lemmas.List.{length-map}
use Rattle.sd_graph.specs.LoopScope.{numbers_below}

-- one number more
pub one_more : (test : ℕ → Bool) (number : ℕ) → filter test (numbers_below (number + 1)) ≡ filter test (numbers_below number) ++ cond (test number) (number ∷ []) []
one_more test number = rw (add-one) (filter-append test (numbers_below number) (number ∷ []))

-- all of a list
pub owned : {A B : Type 0} (f : A → B) (test : ℕ → Bool) (members : List A) → filter test (numbers_below (length members)) ≡ filter test (numbers_below (length (map f members)))
owned f test members = rw (length-map members f) refl
