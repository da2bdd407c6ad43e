-- How far apart two values of a parameter are, and their multiples.
use Rattle.std.proofs.Common.{◌≡◌, ◌⊎◌, inl, inr, suc, ℕ, ◌<◌, ℤ, pos, negsuc, ◌+ℤ◌, ◌-ℤ◌, ◌*ℤ◌, ◌≤ℤ◌, ◌<ℤ◌, unsigned_abs, ap, sym, ◌∙◌, arith}
use Rattle.std.proofs.lemmas.Int.{ints}
use Rattle.std.proofs.Math.IntN.{*ℤ_comm}
use Rattle.sd_range.proofs.Normal.{by_order}
use Rattle.sd_range.proofs.Products.{*ℤ_distrib_left}
use Rattle.sd_subset.proofs.boxes_lemmas.Signs.{times_rises}

-- two numbers are so far from each other
abbrev pub AreFar : (distance x y : ℤ) → Type 0
AreFar distance x y = (distance ≤ℤ (x -ℤ y)) ⊎ (distance ≤ℤ (y -ℤ x))

-- more steps are a step more
pub more-steps : (k m : ℕ) (step : ℤ) → pos 0 <ℤ step → k < m → ((pos k *ℤ step) +ℤ step) ≤ℤ (pos m *ℤ step)
more-steps k m step rises less =
    let next : step *ℤ (pos k +ℤ pos 1) ≡ (step *ℤ pos k) +ℤ (step *ℤ pos 1) = *ℤ_distrib_left step (pos k) (pos 1) in
    let risen = times_rises step (pos k +ℤ pos 1) (pos m) (omega (arith, ints)) (omega (arith, ints)) in
    omega (arith, ints, next, risen, *ℤ_comm (pos k) step, *ℤ_comm (pos m) step)

-- two values of one range are one, or a step apart
pub values-far : (begin step x y : ℤ) (k m : ℕ) → pos 0 <ℤ step → x ≡ begin +ℤ (pos k *ℤ step) → y ≡ begin +ℤ (pos m *ℤ step) → (x ≡ y) ⊎ AreFar step x y
values-far begin step x y k m rises here there =
    by_order k m
    (λ less. inr (inr (omega (arith, ints, more-steps k m step rises less))))
    (λ same. inl (here ∙ ap (λ n. begin +ℤ (pos n *ℤ step)) same ∙ sym there))
    (λ more. inr (inl (omega (arith, ints, more-steps m k step rises more))))

-- a multiple of numbers that are far is as far as the multiple of the distance
pub multiples-far : (c distance x y : ℤ) → AreFar distance x y → AreFar (pos (unsigned_abs c) *ℤ distance) (c *ℤ x) (c *ℤ y)
multiples-far (pos c) distance x y (inl far) =
    let parts : pos c *ℤ (y +ℤ distance) ≡ (pos c *ℤ y) +ℤ (pos c *ℤ distance) = *ℤ_distrib_left (pos c) y distance in
    inl (omega (arith, ints, parts, times_rises (pos c) (y +ℤ distance) x (omega (arith, ints)) (omega (arith, ints))))
multiples-far (pos c) distance x y (inr far) =
    let parts : pos c *ℤ (x +ℤ distance) ≡ (pos c *ℤ x) +ℤ (pos c *ℤ distance) = *ℤ_distrib_left (pos c) x distance in
    inr (omega (arith, ints, parts, times_rises (pos c) (x +ℤ distance) y (omega (arith, ints)) (omega (arith, ints))))
multiples-far (negsuc c) distance x y (inl far) =
    let parts : pos (suc c) *ℤ (y +ℤ distance) ≡ (pos (suc c) *ℤ y) +ℤ (pos (suc c) *ℤ distance) = *ℤ_distrib_left (pos (suc c)) y distance in
    inr (omega (arith, ints, parts, times_rises (pos (suc c)) (y +ℤ distance) x (omega (arith, ints)) (omega (arith, ints))))
multiples-far (negsuc c) distance x y (inr far) =
    let parts : pos (suc c) *ℤ (x +ℤ distance) ≡ (pos (suc c) *ℤ x) +ℤ (pos (suc c) *ℤ distance) = *ℤ_distrib_left (pos (suc c)) x distance in
    inl (omega (arith, ints, parts, times_rises (pos (suc c)) (x +ℤ distance) y (omega (arith, ints)) (omega (arith, ints))))

-- no number is between both pairs of bounds where they are moved further from each other than they are wide
pub moved-apart : (number low high other_low other_high moved other_moved width : ℤ) →
    AreFar width moved other_moved → (high -ℤ other_low) <ℤ width → (other_high -ℤ low) <ℤ width →
    (low +ℤ moved) ≤ℤ number → number ≤ℤ (high +ℤ moved) → (other_low +ℤ other_moved) ≤ℤ number → number ≤ℤ (other_high +ℤ other_moved) → ⊥
moved-apart number low high other_low other_high moved other_moved width (inl far) wide other_wide a b c d = omega (arith, ints)
moved-apart number low high other_low other_high moved other_moved width (inr far) wide other_wide a b c d = omega (arith, ints)
