-- The values of a last parameter.
use Rattle.std.proofs.Common.{◌≡◌, ℕ, ◌<◌, ◌^◌, ℤ, List, length, min, Option, Some, None, Result, Ok, Err, IfOk, sym, ap, ◌∙◌, arith}
use Rattle.std.specs.Option.{MatchOption}
use Rattle.std.specs.Bool.{⊤}
use Rattle.sd_range.specs.declared.range.Range.{Range}
use Rattle.sd_range.specs.Affine.{affine_value}
use Rattle.sd_range.specs.Range.{range_values, counted_from, count_between, least_value}
use Rattle.sd_range.proofs.Parts.{length-counted_from}

-- what is there is so where it is otherwise
pub matched : {A : Type 0} (told meant : A → Type 0) (answer : Option A) → ((value : A) → told value → meant value) → MatchOption answer ⊤ told → MatchOption answer ⊤ meant
matched told meant (Some value) follows is = follows value is
matched told meant None follows is = is

few : (length most count : ℕ) → count ≡ min length most → count < 2 ^ 32 → 2 ^ 32 < most → length ≡ count
few length most count is small more = omega (arith, is, small, more)

-- a range takes numbers at equal distances from its begin on
pub counted_so : (values : List ℤ) (range : Range) (first step : ℤ) (count most : ℕ) → first ≡ affine_value values range.begin → step ≡ range.step →
    count ≡ min (length (range_values values range)) most → count < 2 ^ 32 → 2 ^ 32 < most → range_values values range ≡ counted_from first step count
counted_so values range first step count most first_is step_is count_is small more =
    let all : ℕ = count_between (affine_value values range.begin) (least_value values range.ends) range.step in
    let many : length (range_values values range) ≡ all = length-counted_from (affine_value values range.begin) range.step all in
    let same : all ≡ count = sym many ∙ few (length (range_values values range)) most count count_is small more in
    ap (counted_from (affine_value values range.begin) range.step) same
    ∙ ap (λ first. counted_from first range.step count) (sym first_is) ∙ ap (λ step. counted_from first step count) (sym step_is)

-- what is found, of which four things are told
pub row_told : {A E : Type 0} (first second third fourth meant : A → Type 0) (answer : Result (Option A) E) → ((value : A) → first value → second value → third value → fourth value → meant value) →
    IfOk answer (λ found. MatchOption found ⊤ first) → IfOk answer (λ found. MatchOption found ⊤ second) → IfOk answer (λ found. MatchOption found ⊤ third) → IfOk answer (λ found. MatchOption found ⊤ fourth) →
    IfOk answer (λ found. MatchOption found ⊤ meant)
row_told first second third fourth meant (Ok (Some value)) follows a b c d = follows value a b c d
row_told first second third fourth meant (Ok None) follows a b c d = a
row_told first second third fourth meant (Err error) follows a b c d = tt
