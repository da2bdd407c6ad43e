-- Indices whose numbers go at equal distances.
use Rattle.std.proofs.Common.{◌≡◌, ℕ, ℤ, pos, ◌+ℤ◌, ◌*ℤ◌, List, [], ◌∷◌, map, refl, ap, sym, ◌∙◌}
use Rattle.sd_range.specs.declared.affine.Affine.{Affine}
use Rattle.sd_range.specs.declared.subset.Dim.{Dim}
use Rattle.sd_range.specs.declared.subset.Dim.TheVariants.{Index, Span}
use Rattle.sd_range.specs.Affine.{variable_value, terms_value, affine_value}
use Rattle.sd_range.specs.Variables.{with_variable}
use Rattle.sd_range.proofs.Normal.{by_same}
use Rattle.sd_range.proofs.Variables.{variable_set, variable_kept}
use Rattle.sd_graph.specs.Context.{index_at}
use Rattle.sd_scope.specs.even.Even.{spaced}
use Rattle.sd_scope.proofs.even_lemmas.Distances.{spaced_still, spaced_sum, spaced_product}

-- ---- numbers

-- numbers that go at equal distances
abbrev pub IsSpaced : (ℕ → ℤ) → Type 0
IsSpaced numbers = (first : ℤ) × (step : ℤ) × ((k : ℕ) → numbers k ≡ spaced first step k)

-- numbers that stay
pub stays : (number : ℤ) → IsSpaced (λ k. number)
stays number = (number, pos 0, λ k. sym (spaced_still number k))

-- sums of numbers
pub sum_goes : (numbers others : ℕ → ℤ) → IsSpaced numbers → IsSpaced others → IsSpaced (λ k. numbers k +ℤ others k)
sum_goes numbers others (a, s, is) (b, t, are) =
    (a +ℤ b, s +ℤ t, λ k. ap (λ x. x +ℤ others k) (is k) ∙ ap (λ y. spaced a s k +ℤ y) (are k) ∙ spaced_sum a s b t k)

-- products with a factor
pub product_goes : (factor : ℤ) (numbers : ℕ → ℤ) → IsSpaced numbers → IsSpaced (λ k. factor *ℤ numbers k)
product_goes factor numbers (a, s, is) = (factor *ℤ a, factor *ℤ s, λ k. ap (λ x. factor *ℤ x) (is k) ∙ spaced_product factor a s k)

-- ---- values of variables and expressions

-- each variable stays, or goes at equal distances
abbrev pub AreSpaced : (ℕ → List ℤ) → Type 0
AreSpaced values = (variable : ℕ) → IsSpaced (λ k. variable_value (values k) variable)

-- all values stay
pub values_stay : (values : List ℤ) → AreSpaced (λ k. values)
values_stay values = λ variable. stays (variable_value values variable)

-- one variable goes
pub variable_goes : (variable : ℕ) (begin step : ℤ) (values : List ℤ) → AreSpaced (λ k. with_variable variable (spaced begin step k) values)
variable_goes variable begin step values = λ other.
    by_same variable other
    (λ same. (begin, step, λ k. ap (variable_value (with_variable variable (spaced begin step k) values)) (sym same) ∙ variable_set variable (spaced begin step k) values))
    (λ apart. (variable_value values other, pos 0, λ k. variable_kept variable other (spaced begin step k) values apart ∙ sym (spaced_still (variable_value values other) k)))

-- the values of terms
pub terms_go : (values : ℕ → List ℤ) → AreSpaced values → (terms : List (ℕ × ℤ)) → IsSpaced (λ k. terms_value (values k) terms)
terms_go values go [] = stays (pos 0)
terms_go values go (term ∷ terms) =
    sum_goes (λ k. term.1 *ℤ variable_value (values k) term.0) (λ k. terms_value (values k) terms)
    (product_goes term.1 (λ k. variable_value (values k) term.0) (go term.0))
    (terms_go values go terms)

-- the values of an expression
pub expression_goes : (values : ℕ → List ℤ) → AreSpaced values → (a : Affine) → IsSpaced (λ k. affine_value (values k) a)
expression_goes values go a = sum_goes (λ k. a.constant) (λ k. terms_value (values k) a.terms) (stays a.constant) (terms_go values go a.terms)

-- ---- indices

-- the index at a position, where each number has its first value and its step
abbrev pub at_line : (lines : List (ℤ × ℤ)) → (k : ℕ) → List ℤ
at_line lines k = map (λ line. spaced line.0 line.1 k) lines

-- indices whose numbers go at equal distances
abbrev pub AreLines : (ℕ → List ℤ) → Type 0
AreLines index = (lines : List (ℤ × ℤ)) × ((k : ℕ) → index k ≡ at_line lines k)

-- an index that stays
pub index_stays : (index : List ℤ) → AreLines (λ k. index)
index_stays [] = ([], λ k. refl)
index_stays (number ∷ index) =
    let rest = index_stays index in
    ((number, pos 0) ∷ rest.0, λ k. ap (λ numbers. number ∷ numbers) (rest.1 k) ∙ ap (λ first. first ∷ at_line rest.0 k) (sym (spaced_still number k)))

-- one number more
pub index_more : (numbers : ℕ → ℤ) (index : ℕ → List ℤ) → IsSpaced numbers → AreLines index → AreLines (λ k. numbers k ∷ index k)
index_more numbers index (first, step, is) (lines, are) =
    ((first, step) ∷ lines, λ k. ap (λ number. number ∷ index k) (is k) ∙ ap (λ others. spaced first step k ∷ others) (are k))

-- the indices in a subset, at places that go and where variables go
pub subset_goes : (dims : List Dim) (values : ℕ → List ℤ) → AreSpaced values → (lines : List (ℤ × ℤ)) → AreLines (λ k. index_at dims (values k) (at_line lines k))
subset_goes [] values go lines = index_stays []
subset_goes (Index number ∷ dims) values go lines =
    index_more (λ k. affine_value (values k) number) (λ k. index_at dims (values k) (at_line lines k)) (expression_goes values go number) (subset_goes dims values go lines)
subset_goes (Span range ∷ dims) values go [] =
    index_more (λ k. affine_value (values k) range.begin) (λ k. index_at dims (values k) []) (expression_goes values go range.begin) (subset_goes dims values go [])
subset_goes (Span range ∷ dims) values go (line ∷ lines) =
    index_more (λ k. affine_value (values k) range.begin +ℤ (range.step *ℤ spaced line.0 line.1 k)) (λ k. index_at dims (values k) (at_line lines k))
    (sum_goes (λ k. affine_value (values k) range.begin) (λ k. range.step *ℤ spaced line.0 line.1 k) (expression_goes values go range.begin)
    (product_goes range.step (λ k. spaced line.0 line.1 k) (line.0, line.1, λ k. refl)))
    (subset_goes dims values go lines)
