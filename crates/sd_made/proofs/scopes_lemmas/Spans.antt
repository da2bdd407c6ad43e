-- Numbers one after another.
use Rattle.std.proofs.Common.{◌≡◌, ◌∙◌, ℕ, zero, suc, ◌+◌, ◌<◌, ◌≤◌, List, [], ◌∷◌, length, nat_eq, Bool, true, false, refl, ap, sym, arith, add-zero, zero-add}
use Rattle.sd_lex.specs.PlainTree.{Dimension}
use Rattle.sd_program.specs.Names.{Named}
use Rattle.sd_task.specs.in_force.Ranges.{parameters_of}
use Rattle.sd_validity.specs.rules.Places.{param_numbers}
use Rattle.sd_validity.proofs.things_lemmas.Times.{one_if, times}

-- how often a number is among so many from the first one on
abbrev pub span : (number first count : ℕ) → ℕ
span number first zero = 0
span number first (suc count) = one_if (nat_eq number first) + span number (first + 1) count

pub span_joined : (number first count more : ℕ) → span number first (count + more) ≡ span number first count + span number (first + count) more
span_joined number first zero more =
    ap (λ (count : ℕ). span number first count) (zero-add more) ∙ ap (λ (first : ℕ). span number first more) (sym (add-zero first)) ∙ sym (zero-add (span number (first + 0) more))
span_joined number first (suc count) more =
    let longer : suc count + more ≡ suc (count + more) = omega arith in
    let further : first + 1 + count ≡ first + suc count = omega arith in
    let next : span number (first + 1 + count) more ≡ span number (first + suc count) more = ap (λ (first : ℕ). span number first more) further in
    ap (λ (count : ℕ). span number first count) longer ∙ omega (arith, next, span_joined number (first + 1) count more)

one_more : (number first : ℕ) (same : Bool) (others : ℕ) → nat_eq number first ≡ same → (number < first + 1 → others ≡ 0) → others ≤ 1 → one_if same + others ≤ 1
one_more number first true others e none once =
    let here : number ≡ first = grind (arith, e) in
    omega (arith, none (omega (arith, here)))
one_more number first false others e none once = omega (arith, once)

pub span_above : (number first count : ℕ) → number < first → span number first count ≡ 0
span_above number first zero below = refl
span_above number first (suc count) below =
    let other : nat_eq number first ≡ false = grind (arith, below) in
    omega (arith, ap one_if other, span_above number (first + 1) count (omega (arith, below)))

pub span_once : (number first count : ℕ) → span number first count ≤ 1
span_once number first zero = omega arith
span_once number first (suc count) =
    one_more number first (nat_eq number first) (span number (first + 1) count) refl (λ below. span_above number (first + 1) count below) (span_once number (first + 1) count)

-- the parameters of a map
pub params_spanned : (number : ℕ) (variables : Named ℕ) (ranges : List Dimension) (first : ℕ) → times number (param_numbers (parameters_of variables ranges first)) ≡ span number first (length ranges)
params_spanned number variables [] first = refl
params_spanned number variables (range ∷ ranges) first = omega (arith, params_spanned number variables ranges (first + 1))
