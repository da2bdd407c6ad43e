-- What holds of the members of four lists together.
use Rattle.std.proofs.Common.{◌≡◌, ℕ, List, ◌++◌, Bool, true, false, ◌&&◌, sym, ◌∙◌}
use Rattle.std.specs.List.{list_all}
use Rattle.std.proofs.lemmas.List.Folds.{list_all-append}

four_lists : (test : ℕ → Bool) (a b c d : List ℕ) →
    list_all test ((a ++ b) ++ (c ++ d)) ≡ ((list_all test a && list_all test b) && (list_all test c && list_all test d))
four_lists test a b c d = list_all-append test (a ++ b) (c ++ d) ∙ (λ i. list_all-append test a b i && list_all-append test c d i)

pub first_fails : (test : ℕ → Bool) (a b c d : List ℕ) → list_all test a ≡ false → false ≡ list_all test ((a ++ b) ++ (c ++ d))
first_fails test a b c d fails = sym (four_lists test a b c d ∙ (λ i. (fails i && list_all test b) && (list_all test c && list_all test d)))

pub second_fails : (test : ℕ → Bool) (a b c d : List ℕ) → list_all test a ≡ true → list_all test b ≡ false → false ≡ list_all test ((a ++ b) ++ (c ++ d))
second_fails test a b c d first fails = sym (four_lists test a b c d ∙ (λ i. (first i && fails i) && (list_all test c && list_all test d)))

pub third_fails : (test : ℕ → Bool) (a b c d : List ℕ) → list_all test a ≡ true → list_all test b ≡ true → list_all test c ≡ false → false ≡ list_all test ((a ++ b) ++ (c ++ d))
third_fails test a b c d first second fails = sym (four_lists test a b c d ∙ (λ i. (first i && second i) && (fails i && list_all test d)))

pub fourth_decides : (test : ℕ → Bool) (a b c d : List ℕ) (is : Bool) → list_all test a ≡ true → list_all test b ≡ true → list_all test c ≡ true → is ≡ list_all test d →
    is ≡ list_all test ((a ++ b) ++ (c ++ d))
fourth_decides test a b c d is first second third last = last ∙ sym (four_lists test a b c d ∙ (λ i. (first i && second i) && (third i && list_all test d)))
