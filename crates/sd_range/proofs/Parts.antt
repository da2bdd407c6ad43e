-- Parts of numbers a step apart.
use Rattle.std.proofs.Common.{◌≡◌, ◌≢◌, length-drop, ℕ, zero, suc, ◌+◌, ◌-◌, ◌*◌, ◌/◌, ◌^◌, ◌<◌, ◌≤◌, ℤ, pos, negsuc, ◌+ℤ◌, ◌-ℤ◌, ◌*ℤ◌, ◌<ℤ◌, ◌≤ℤ◌, ◌∷◌, length, take, drop, refl, ap, sym, ◌∙◌, arith, add-one, unsigned_abs, FitsSigned}
use Rattle.std.specs.Int.{w128, int_wrap, cast_signed}
use Rattle.std.proofs.lemmas.Int.{ints, by_lt_z, int_wrap_fits, int_wrap-add_right, int_wrap-mul_left}
use Rattle.std.proofs.Math.IntN.{suc_ℤ-*ℤ, zero-*ℤ, pos-*ℤ-pos}
use Rattle.std.proofs.lemmas.Nat.{mul-le}
use Rattle.std.proofs.Math.Nat.{div-mul-le_self, mul-div_cancel, mod-eq_of_lt}
use Rattle.sd_range.specs.Range.{count_between, counted_from, stepped}
use Rattle.sd_range.proofs.Stepped.{count-filled, count-empty, stepped-empty, stepped-filled}

-- there are as many numbers as are counted
pub length-counted_from : (begin step : ℤ) (count : ℕ) → length (counted_from begin step count) ≡ count
length-counted_from begin step zero = refl
length-counted_from begin step (suc count) = ap suc (length-counted_from (begin +ℤ step) step count)

-- the first numbers
pub take-counted_from : (begin step : ℤ) (taken count : ℕ) → taken ≤ count → take taken (counted_from begin step count) ≡ counted_from begin step taken
take-counted_from begin step zero count h = refl
take-counted_from begin step (suc taken) zero h = absurd (omega arith)
take-counted_from begin step (suc taken) (suc count) h = ap (λ rest. begin ∷ rest) (take-counted_from (begin +ℤ step) step taken count (omega arith))

-- no step leads nowhere
no_step : (begin step : ℤ) → begin ≡ begin +ℤ (pos 0 *ℤ step)
no_step begin step = let none : pos 0 *ℤ step ≡ pos 0 = zero-*ℤ step in omega (arith, ints, none)

-- one step, and steps more
one_more : (begin step : ℤ) (steps : ℕ) → (begin +ℤ step) +ℤ (pos steps *ℤ step) ≡ begin +ℤ (pos (suc steps) *ℤ step)
one_more begin step steps = let product : pos (suc steps) *ℤ step ≡ (pos steps *ℤ step) +ℤ step = suc_ℤ-*ℤ (pos steps) step in omega (arith, ints, product)

-- a number of steps that fits between two numbers
steps_fit : (gap step steps : ℕ) → steps ≤ gap / step → steps * step ≤ gap
steps_fit gap step steps h =
    let more : steps * step ≤ (gap / step) * step = mul-le steps step (gap / step) step h (omega arith) in
    let less : (gap / step) * step ≤ gap = div-mul-le_self gap step in
    omega (arith, more, less)

-- the number at a place is not above the last
pub at_most_last : (first last step : ℤ) (place : ℕ) → pos 0 <ℤ step → place < length (stepped first last step) → (first ≤ℤ last) × ((first +ℤ (pos place *ℤ step)) ≤ℤ last)
at_most_last first last (negsuc step) place rises within = absurd (omega (arith, ints))
at_most_last first last (pos step) place rises within =
    let counted : place < count_between first last (pos step) = rw (length-counted_from first (pos step) (count_between first last (pos step))) at within in
    by_lt_z last first
    (λ none. let some : place < 0 = rw (count-empty first last (pos step) none) at counted in absurd (omega arith))
    (λ filled.
    let few : place < unsigned_abs (last -ℤ first) / step + 1 = rw (count-filled first last (pos step) filled) at counted in
    let fits : place * step ≤ unsigned_abs (last -ℤ first) = steps_fit (unsigned_abs (last -ℤ first)) step place (omega arith) in
    let product : pos place *ℤ pos step ≡ pos (place * step) = pos-*ℤ-pos place step in
    (filled, rw product (omega (arith, ints))))

-- as many steps more as are counted
count-steps : (begin step : ℤ) (steps : ℕ) → pos 0 <ℤ step → count_between begin (begin +ℤ (pos steps *ℤ step)) step ≡ suc steps
count-steps begin (negsuc step) steps rises = absurd (omega (arith, ints))
count-steps begin (pos step) steps rises =
    let product : pos steps *ℤ pos step ≡ pos (steps * step) = pos-*ℤ-pos steps step in
    let above : begin ≤ℤ (begin +ℤ (pos steps *ℤ pos step)) = rw product (omega (arith, ints)) in
    let gap : unsigned_abs ((begin +ℤ (pos steps *ℤ pos step)) -ℤ begin) ≡ steps * step = rw product (omega (arith, ints)) in
    let positive : 0 < step = omega (arith, ints) in
    count-filled begin (begin +ℤ (pos steps *ℤ pos step)) (pos step) above
    ∙ ap (λ n. n / step + 1) gap
    ∙ ap (λ n. n + 1) (mul-div_cancel steps positive)
    ∙ add-one steps

-- the numbers from a place on
pub stepped-drop : (first last step : ℤ) (place : ℕ) → pos 0 <ℤ step → place < length (stepped first last step) → stepped (first +ℤ (pos place *ℤ step)) last step ≡ drop place (stepped first last step)
stepped-drop first last step zero rises within = ap (λ begin. stepped begin last step) (sym (no_step first step))
stepped-drop first last step (suc place) rises within =
    by_lt_z last first
    (λ none. let some : suc place < 0 = rw (stepped-empty first last step none) at within in absurd (omega arith))
    (λ filled.
    let split : stepped first last step ≡ first ∷ stepped (first +ℤ step) last step = stepped-filled first last step rises filled in
    let some : suc place < suc (length (stepped (first +ℤ step) last step)) = rw split at within in
    ap (λ begin. stepped begin last step) (sym (one_more first step place))
    ∙ stepped-drop (first +ℤ step) last step place rises (omega arith)
    ∙ ap (drop (suc place)) (sym split))

-- the first numbers
pub stepped-take : (first last step : ℤ) (more : ℕ) → pos 0 <ℤ step → more < length (stepped first last step) → stepped first (first +ℤ (pos more *ℤ step)) step ≡ take (suc more) (stepped first last step)
stepped-take first last step more rises within =
    let all = count_between first last step in
    let counted : more < all = rw (length-counted_from first step all) at within in
    ap (counted_from first step) (count-steps first step more rises)
    ∙ sym (take-counted_from first step (suc more) all (omega arith))

-- the number at a place is not below the first
at_least_first : (first step : ℤ) (place : ℕ) → pos 0 <ℤ step → first ≤ℤ (first +ℤ (pos place *ℤ step))
at_least_first first (negsuc step) place rises = absurd (omega (arith, ints))
at_least_first first (pos step) place rises = rw (pos-*ℤ-pos place step) (omega (arith, ints))

-- what lies between two numbers that fit fits
between_fits : (low number high : ℤ) → FitsSigned w128 low → FitsSigned w128 high → low ≤ℤ number → number ≤ℤ high → FitsSigned w128 number
between_fits low (pos n) (pos h) f g p q = record { sfits = omega (arith, ints, g.sfits) }
between_fits low (pos n) (negsuc h) f g p q = absurd (omega (arith, ints))
between_fits (pos l) (negsuc n) high f g p q = absurd (omega (arith, ints))
between_fits (negsuc l) (negsuc n) high f g p q = record { sfits = omega (arith, ints, f.sfits) }

-- bits read as a signed number are the number modulo 2^128
cast-wraps : (n : ℕ) → n < 2 ^ 128 → cast_signed w128 n ≡ int_wrap w128 (pos n)
unfolding int_wrap
cast-wraps n small = ap (cast_signed w128) (sym (mod-eq_of_lt small))

-- a number that is computed modulo 2^128 is exact where its first and last fit
pub exact_number : (first last step cast : ℤ) (place : ℕ) → pos 0 <ℤ step → FitsSigned w128 first → FitsSigned w128 last → place < 2 ^ 128 → place < length (stepped first last step) →
    cast ≡ cast_signed w128 place → (number : ℤ) → number ≡ int_wrap w128 (first +ℤ (cast *ℤ step)) → number ≡ first +ℤ (pos place *ℤ step)
exact_number first last step cast place rises first_fits last_fits small within is number computed =
    let low : first ≤ℤ (first +ℤ (pos place *ℤ step)) = at_least_first first step place rises in
    let high : (first +ℤ (pos place *ℤ step)) ≤ℤ last = (at_most_last first last step place rises within).1 in
    let fits : FitsSigned w128 (first +ℤ (pos place *ℤ step)) = between_fits first (first +ℤ (pos place *ℤ step)) last first_fits last_fits low high in
    computed
    ∙ ap (λ z. int_wrap w128 (first +ℤ (z *ℤ step))) (is ∙ cast-wraps place small)
    ∙ sym (int_wrap-add_right w128 first (int_wrap w128 (pos place) *ℤ step))
    ∙ ap (λ z. int_wrap w128 (first +ℤ z)) (int_wrap-mul_left w128 (pos place) step)
    ∙ int_wrap-add_right w128 first (pos place *ℤ step)
    ∙ int_wrap_fits w128 (first +ℤ (pos place *ℤ step)) fits

-- from a place on there are as many numbers as are left
pub part_within : (first last step begin : ℤ) (from count : ℕ) → pos 0 <ℤ step → from + count ≤ length (stepped first last step) → count ≢ 0 →
    begin ≡ first +ℤ (pos from *ℤ step) → count - 1 < length (stepped begin last step)
part_within first last step begin from count rises within some begins =
    let all = stepped first last step in
    let fits : from + count ≤ length all = within in
    let here : from < length all = omega (arith, some) in
    let rest : stepped begin last step ≡ drop from all = ap (λ b. stepped b last step) begins ∙ stepped-drop first last step from rises here in
    let left : length (stepped begin last step) ≡ length all - from = ap length rest ∙ length-drop from all in
    omega (arith, some, left)

-- so many numbers from a place on
pub part_is : (first last step begin end : ℤ) (from count : ℕ) → pos 0 <ℤ step → from + count ≤ length (stepped first last step) → count ≢ 0 →
    begin ≡ first +ℤ (pos from *ℤ step) → end ≡ begin +ℤ (pos (count - 1) *ℤ step) → stepped begin end step ≡ take count (drop from (stepped first last step))
part_is first last step begin end from count rises within some begins ends =
    let all = stepped first last step in
    let fits : from + count ≤ length all = within in
    let here : from < length all = omega (arith, some) in
    let more : suc (count - 1) ≡ count = omega (arith, some) in
    ap (λ last. stepped begin last step) ends
    ∙ stepped-take begin last step (count - 1) rises (part_within first last step begin from count rises within some begins)
    ∙ ap (λ n. take n (stepped begin last step)) more
    ∙ ap (λ b. take count (stepped b last step)) begins
    ∙ ap (take count) (stepped-drop first last step from rises here)
