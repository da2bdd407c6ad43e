-- The lists of windows and of joined boxes.
use Rattle.std.proofs.Common.{◌≡◌, ℕ, ◌≤◌, nat_eq, List, [], ◌∷◌, length, None, false, if◌then◌else◌, option_map, refl, ap, arith}
use Rattle.std.proofs.lemmas.Bool.{ne_eqb, and_left}
use Rattle.sd_part.specs.declared.boxes.interval.Interval.{Interval}
use Rattle.sd_part.specs.Boxes.{NumberBox}
use Rattle.sd_part.specs.Hulls.{is_of_elements, joined_each, hull_of, window_over, has_elements, window_for, AreBelow}

-- nothing is joined with no dimension
pub joined_none : (ones others : List Interval) → length others ≡ 0 → joined_each ones others ≡ []
joined_none [] others none = refl
joined_none (one ∷ ones) [] none = refl
joined_none (one ∷ ones) (other ∷ others) none = absurd (omega (arith, none))

none_above : (boxes : List NumberBox) (number container : ℕ) → AreBelow number boxes → number ≤ container → has_elements boxes container ≡ false
none_above [] number container below above = refl
none_above (box ∷ boxes) number container below above =
    let less = below.0 in
    let other : nat_eq box.container container ≡ false = ne_eqb box.container container (λ same. absurd (omega (arith, less, above, same))) in
    rw (and_left (nat_eq box.container container) (is_of_elements box.mode) other) (none_above boxes number container below.1 above)

-- a container above those of boxes has no window
pub window_above : (boxes : List NumberBox) (number container : ℕ) → AreBelow number boxes → number ≤ container → window_for boxes container ≡ None
window_above boxes number container below above = ap (λ b. if b then option_map window_over (hull_of container boxes) else None) (none_above boxes number container below above)
