-- Places of one number.
use Rattle.std.proofs.Common.{◌≡◌, ◌≢◌, ℕ, zero, suc, ◌≤◌, pos, List, [], ◌∷◌, map, length, take, slice_index_or, Some, None, nat_lt, if◌then◌else◌, refl, sym, ap, ◌∙◌, arith}
use Rattle.sd_row.specs.instance.Known.{place_below}

-- the first number is the place in one dimension
first_number : (count : ℕ) (at : List ℕ) (none : ℕ) → 1 ≤ length at →
    (if nat_lt (slice_index_or at 0 none) count then Some (slice_index_or at 0 none) else None) ≡ place_below count (map pos (take 1 at))
first_number count [] none some = absurd (omega (arith, some))
first_number count (number ∷ at) none some = refl

pub one_place : (count d : ℕ) (at : List ℕ) (none : ℕ) → d ≡ 1 → 1 ≤ length at →
    (if nat_lt (slice_index_or at 0 none) count then Some (slice_index_or at 0 none) else None) ≡ place_below count (map pos (take d at))
one_place count d at none one some = first_number count at none some ∙ ap (λ n. place_below count (map pos (take n at))) (sym one)

-- in none, or in more than one dimension there is none
pub not_one : (count d : ℕ) (at : List ℕ) → d ≢ 1 → 2 ≤ length at → None ≡ place_below count (map pos (take d at))
not_one count zero at other within = refl
not_one count (suc zero) at other within = absurd (other refl)
not_one count (suc (suc d)) [] other within = absurd (omega (arith, within))
not_one count (suc (suc d)) (number ∷ []) other within = absurd (omega (arith, within))
not_one count (suc (suc d)) (number ∷ next ∷ at) other within = refl
