-- Tests of all numbers below one.
use Rattle.std.proofs.Common.{◌≡◌, ℕ, zero, suc, ◌+◌, ◌<◌, ◌∷◌, [], Bool, true, false, ◌&&◌, nat_eq, refl, ap, subst, ◌∙◌, arith, add-one}
use Rattle.std.specs.List.{list_all}
use Rattle.std.proofs.lemmas.List.Folds.{list_all-append}
use Rattle.sd_graph.specs.LoopScope.{numbers_below}

and_no : (a : Bool) → (a && (false && true)) ≡ false
and_no true = refl
and_no false = refl

-- the last number fails, or one before it
last_or_before : (test : ℕ → Bool) (count number : ℕ) → number < suc count → test number ≡ false →
    (number < count → list_all test (numbers_below count) ≡ false) → (last : Bool) → nat_eq number count ≡ last → list_all test (numbers_below (suc count)) ≡ false
last_or_before test count number below is before true last =
    let same : number ≡ count = grind (arith, last) in
    list_all-append test (numbers_below count) (count ∷ [])
    ∙ ap (λ (b : Bool). list_all test (numbers_below count) && (b && true)) (subst (λ (n : ℕ). test n ≡ false) same is)
    ∙ and_no (list_all test (numbers_below count))
last_or_before test count number below is before false last =
    let less : number < count = grind (arith, last, below) in
    list_all-append test (numbers_below count) (count ∷ []) ∙ ap (λ (b : Bool). b && list_all test (count ∷ [])) (before less)

pub fails_below : (test : ℕ → Bool) (count number : ℕ) → number < count → test number ≡ false → list_all test (numbers_below count) ≡ false
fails_below test zero number below is = absurd (omega arith)
fails_below test (suc count) number below is = last_or_before test count number below is (λ less. fails_below test count number less is) (nat_eq number count) refl

pub all_more : (test : ℕ → Bool) (count : ℕ) → list_all test (numbers_below count) ≡ true → test count ≡ true → list_all test (numbers_below (count + 1)) ≡ true
all_more test count all last =
    ap (λ (number : ℕ). list_all test (numbers_below number)) (add-one count)
    ∙ list_all-append test (numbers_below count) (count ∷ []) ∙ (λ i. all i && (last i && true))
