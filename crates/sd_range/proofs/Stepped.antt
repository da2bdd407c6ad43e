-- Numbers a step apart, one after another.
use Rattle.std.proofs.Common.{◌≡◌, ◌+◌, ◌-◌, ◌/◌, ◌<◌, ◌≤◌, ℤ, pos, ◌+ℤ◌, ◌-ℤ◌, ◌<ℤ◌, ◌≤ℤ◌, true, false, refl, ap, sym, ◌∙◌, arith, [], ◌∷◌, add-one, int_lt, unsigned_abs, FitsSigned}
use Rattle.std.specs.Int.{w128}
use Rattle.std.proofs.lemmas.Int.{ints, by_lt_z}
use Rattle.std.proofs.Math.Nat.{div-eq_of_lt, div-eq-sub-div}
use Rattle.sd_range.specs.Range.{count_between, counted_from, stepped}

not_below : (a b : ℤ) → b ≤ℤ a → int_lt a b ≡ false
not_below a b h = grind (arith, ints)

below : (a b : ℤ) → a <ℤ b → int_lt a b ≡ true
below a b h = grind (arith, ints)

pub stepped-empty : (begin last step : ℤ) → last <ℤ begin → stepped begin last step ≡ []
stepped-empty begin last step h = rw (below last begin h) refl

pub count-empty : (begin last step : ℤ) → last <ℤ begin → count_between begin last step ≡ 0
count-empty begin last step h = rw (below last begin h) refl

pub count-filled : (begin last step : ℤ) → begin ≤ℤ last → count_between begin last step ≡ unsigned_abs (last -ℤ begin) / unsigned_abs step + 1
count-filled begin last step h = rw (not_below last begin h) refl

-- the numbers after the first are as many as the steps that fit
count-next : (begin last step : ℤ) → pos 0 <ℤ step → begin ≤ℤ last → unsigned_abs (last -ℤ begin) / unsigned_abs step ≡ count_between (begin +ℤ step) last step
count-next begin last step rises filled =
    by_lt_z last (begin +ℤ step)
    (λ over.
    let short : unsigned_abs (last -ℤ begin) < unsigned_abs step = omega (arith, ints) in
    div-eq_of_lt short ∙ sym (count-empty (begin +ℤ step) last step over))
    (λ within.
    let positive : 0 < unsigned_abs step = omega (arith, ints) in
    let fits : unsigned_abs step ≤ unsigned_abs (last -ℤ begin) = omega (arith, ints) in
    let less : unsigned_abs (last -ℤ begin) - unsigned_abs step ≡ unsigned_abs (last -ℤ (begin +ℤ step)) = omega (arith, ints) in
    div-eq-sub-div positive fits
    ∙ ap (λ n. n / unsigned_abs step + 1) less
    ∙ sym (count-filled (begin +ℤ step) last step within))

pub stepped-filled : (begin last step : ℤ) → pos 0 <ℤ step → begin ≤ℤ last → stepped begin last step ≡ begin ∷ stepped (begin +ℤ step) last step
stepped-filled begin last step rises filled =
    ap (counted_from begin step) (count-filled begin last step filled ∙ add-one _)
    ∙ ap (λ count. begin ∷ counted_from (begin +ℤ step) step count) (count-next begin last step rises filled)

-- a number past the widest is past each that fits
pub past_all : (number step last : ℤ) → pos 0 <ℤ step → FitsSigned w128 number → FitsSigned w128 last → (FitsSigned w128 (number +ℤ step) → ⊥) → last <ℤ (number +ℤ step)
past_all number step last rises number_fits last_fits past =
    by_lt_z last (number +ℤ step) (λ over. over)
    (λ within. let fits : FitsSigned w128 (number +ℤ step) = record { sfits = omega (arith, ints) } in absurd (past fits))
