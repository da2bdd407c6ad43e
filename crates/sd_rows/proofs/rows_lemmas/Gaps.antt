-- Numbers at equal distances between two ends.
use Rattle.std.proofs.Common.{◌≡◌, ℕ, zero, suc, ◌*◌, ◌/◌, ◌≤◌, ◌<◌, ◌^◌, ℤ, pos, negsuc, ◌+ℤ◌, ◌-ℤ◌, ◌*ℤ◌, ◌≤ℤ◌, unsigned_abs, arith, FitsSigned, sym, subst, ◌∙◌, ap, refl, to_z, of_z}
use Rattle.std.specs.Int.{w64, int_wrap}
use Rattle.std.proofs.lemmas.Int.{ints, int_wrap_fits, to_z-of_z, quot_fits}
use Rattle.std.proofs.lemmas.Nat.{mul-le}
use Rattle.std.specs.Int.Signed.{quot_z}
use Rattle.std.proofs.Math.Nat.{mul-div_cancel, mul-div_cancel_left}
use Rattle.std.proofs.Math.IntN.{*ℤ-zero, pos-*ℤ-pos, *ℤ-negsuc, *ℤ_comm, neg_ℤ}
use Rattle.sd_scope.specs.even.Even.{spaced}

-- so many steps upwards, and downwards
up : (m k : ℕ) → pos m *ℤ pos k ≡ pos (k * m)
up m k = *ℤ_comm (pos m) (pos k) ∙ pos-*ℤ-pos k m

down : (m k : ℕ) → negsuc m *ℤ pos k ≡ neg_ℤ (pos (k * suc m))
down m k = *ℤ_comm (negsuc m) (pos k) ∙ *ℤ-negsuc (pos k) m ∙ ap neg_ℤ (pos-*ℤ-pos k (suc m))

refl_le : (m : ℕ) → m ≤ m
refl_le m = omega arith

rises : (first : ℤ) (x y a b e most : ℕ) → x ≤ y → first ≡ pos a → pos b ≡ first +ℤ pos y → pos e ≡ first +ℤ pos x → a < most → b < most → e < most
rises first x y a b e most h from to here low high = omega (arith, ints, h, from, to, here, low, high)

falls : (first : ℤ) (x y a b e most : ℕ) → x ≤ y → first ≡ pos a → pos b ≡ first +ℤ neg_ℤ (pos y) → pos e ≡ first +ℤ neg_ℤ (pos x) → a < most → b < most → e < most
falls first x y a b e most h from to here low high = omega (arith, ints, h, from, to, here, low, high)

-- a number between two is below what both are below
pub between_below : (distance : ℤ) (n k a b e most : ℕ) → k ≤ n → pos b ≡ spaced (pos a) distance n → pos e ≡ spaced (pos a) distance k → a < most → b < most → e < most
between_below (pos m) n k a b e most h to here low high =
    rises (pos a) (k * m) (n * m) a b e most (mul-le k m n m h (refl_le m)) refl (to ∙ ap (λ z. pos a +ℤ z) (up m n)) (here ∙ ap (λ z. pos a +ℤ z) (up m k)) low high
between_below (negsuc m) n k a b e most h to here low high =
    falls (pos a) (k * suc m) (n * suc m) a b e most (mul-le k (suc m) n (suc m) h (refl_le (suc m))) refl (to ∙ ap (λ z. pos a +ℤ z) (down m n)) (here ∙ ap (λ z. pos a +ℤ z) (down m k)) low high

fits : (e : ℕ) → e < 2 ^ 63 → FitsSigned w64 (pos e)
fits e below = record { sfits = grind (arith, ints) }

-- a number that fits is what it wraps to
pub stays : (number : ℤ) (e : ℕ) → pos e ≡ number → e < 2 ^ 63 → e ≡ unsigned_abs (int_wrap w64 number)
stays number e is below =
    subst (λ (z : ℤ). e ≡ unsigned_abs (int_wrap w64 z)) is (ap unsigned_abs (sym (int_wrap_fits w64 (pos e) (fits e below))))

-- without a gap there is one number
pub no_gap : (first apart : ℤ) (gaps k : ℕ) → gaps ≡ 0 → k ≤ gaps → spaced first (pos 0) k ≡ spaced first apart k
no_gap first apart gaps zero none within = ap (λ z. first +ℤ z) (*ℤ-zero (pos 0) ∙ sym (*ℤ-zero apart))
no_gap first apart gaps (suc k) none within = absurd (omega (arith, none, within))

below_zero : (product divisor : ℕ) → 0 < product → quot_z (neg_ℤ (pos product)) (pos divisor) ≡ neg_ℤ (pos (product / divisor))
below_zero zero divisor some = elim some [ ]
below_zero (suc product) divisor some = refl

some_product : (g m : ℕ) → 0 < suc g * suc m
some_product g m = grind arith

quotient : (apart : ℤ) (gaps : ℕ) → 0 < gaps → quot_z (apart *ℤ pos gaps) (pos gaps) ≡ apart
quotient (pos m) gaps some = ap (λ z. quot_z z (pos gaps)) (pos-*ℤ-pos m gaps) ∙ ap pos (mul-div_cancel m some)
quotient (negsuc m) zero some = elim some [ ]
quotient (negsuc m) (suc g) some =
    ap (λ z. quot_z z (pos (suc g))) (down m (suc g)) ∙ below_zero (suc g * suc m) (suc g) (some_product g m) ∙ ap (λ n. neg_ℤ (pos n)) (mul-div_cancel_left (suc m) some)

difference : (first last product : ℤ) → last ≡ first +ℤ product → last -ℤ first ≡ product
difference first last product is = omega (arith, ints, is)

difference_fits : (first last : ℤ) → FitsSigned w64 first → FitsSigned w64 last → pos 0 ≤ℤ first → pos 0 ≤ℤ last → FitsSigned w64 (last -ℤ first)
difference_fits (pos m) (pos n) f l low high = record { sfits = grind (arith, ints) }
difference_fits (pos m) (negsuc n) f l low high = absurd (omega (arith, ints, high))
difference_fits (negsuc m) last f l low high = absurd (omega (arith, ints, low))

some_gap : (gaps : ℕ) → ((gaps ≡ 0) → ⊥) → 0 < gaps
some_gap zero none = absurd (none refl)
some_gap (suc gaps) none = omega arith

-- the distance is the difference of the ends by the number of gaps
pub divided : (first last apart : ℤ) (gaps k : ℕ) (gap : ℤ) → ((gaps ≡ 0) → ⊥) → FitsSigned w64 first → FitsSigned w64 last → FitsSigned w64 gap →
    pos 0 ≤ℤ first → pos 0 ≤ℤ last → last ≡ spaced first apart gaps → gap ≡ pos gaps →
    spaced first (to_z w64 (of_z w64 (quot_z (to_z w64 (of_z w64 (to_z w64 (of_z w64 last) -ℤ to_z w64 (of_z w64 first)))) (to_z w64 (of_z w64 gap))))) k ≡ spaced first apart k
divided first last apart gaps k gap none first_fits last_fits gap_fits low high to gap_is =
    let some : 0 < gaps = some_gap gaps none in
    let between : last -ℤ first ≡ apart *ℤ pos gaps = difference first last (apart *ℤ pos gaps) to in
    let whole : to_z w64 (of_z w64 (to_z w64 (of_z w64 last) -ℤ to_z w64 (of_z w64 first))) ≡ apart *ℤ pos gaps =
    ap (λ l. to_z w64 (of_z w64 (l -ℤ to_z w64 (of_z w64 first)))) (to_z-of_z w64 last last_fits)
    ∙ ap (λ f. to_z w64 (of_z w64 (last -ℤ f))) (to_z-of_z w64 first first_fits)
    ∙ to_z-of_z w64 (last -ℤ first) (difference_fits first last first_fits last_fits low high) ∙ between in
    let by : to_z w64 (of_z w64 gap) ≡ pos gaps = to_z-of_z w64 gap gap_fits ∙ gap_is in
    let is : quot_z (to_z w64 (of_z w64 (to_z w64 (of_z w64 last) -ℤ to_z w64 (of_z w64 first)))) (to_z w64 (of_z w64 gap)) ≡ apart =
    ap (λ a. quot_z a (to_z w64 (of_z w64 gap))) whole ∙ ap (λ g. quot_z (apart *ℤ pos gaps) g) by ∙ quotient apart gaps some in
    let fits_all : FitsSigned w64 (apart *ℤ pos gaps) = subst (λ z. FitsSigned w64 z) between (difference_fits first last first_fits last_fits low high) in
    let fits_one : FitsSigned w64 apart = subst (λ z. FitsSigned w64 z) (quotient apart gaps some) (quot_fits w64 (apart *ℤ pos gaps) (pos gaps) fits_all (omega (arith, ints, some))) in
    ap (λ step. spaced first step k) (ap (λ z. to_z w64 (of_z w64 z)) is ∙ to_z-of_z w64 apart fits_one)

-- two distances between the same numbers are one
pub same_distance : (first last step apart : ℤ) (gaps k : ℕ) → last ≡ spaced first step gaps → last ≡ spaced first apart gaps → k ≤ gaps → spaced first step k ≡ spaced first apart k
same_distance first last step apart zero zero by to within = ap (λ z. first +ℤ z) (*ℤ-zero step ∙ sym (*ℤ-zero apart))
same_distance first last step apart zero (suc k) by to within = absurd (omega (arith, within))
same_distance first last step apart (suc gaps) k by to within =
    let some : 0 < suc gaps = omega arith in
    let whole : step *ℤ pos (suc gaps) ≡ apart *ℤ pos (suc gaps) = sym (difference first last (step *ℤ pos (suc gaps)) by) ∙ difference first last (apart *ℤ pos (suc gaps)) to in
    let same : step ≡ apart = sym (quotient step (suc gaps) some) ∙ ap (λ z. quot_z z (pos (suc gaps))) whole ∙ quotient apart (suc gaps) some in
    ap (λ step. spaced first step k) same
