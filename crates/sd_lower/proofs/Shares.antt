-- Values that are shared out among pieces.
use Rattle.std.proofs.Common.{◌≡◌, ℕ, zero, suc, ◌+◌, ◌-◌, ◌*◌, ◌/◌, ◌≤◌, ◌<◌, min, List, [], ◌∷◌, ◌++◌, map, sum, arith, refl, ap, sym, ◌∙◌, subst}
use Rattle.std.proofs.Math.Nat.{div-mul-le_self, div-zero, zero-div, lt-div-mul-add, div-lt_iff_lt-mul, mul-div_cancel_left}
use Rattle.std.proofs.lemmas.Nat.{le-div}
use Rattle.std.proofs.lemmas.List.Sums.{fold-append}
use Rattle.sd_graph.specs.LoopScope.{numbers_below}
use Rattle.sd_lower.specs.Pieces.{piece_count, before_piece, values_before, values_in, values_in_each}

-- ---- dividing

div-more : (a c w : ℕ) → a ≤ c → a / w ≤ c / w
div-more a c zero le = subst (λ n. n ≤ c / zero) (sym (div-zero a)) (grind arith)
div-more a c (suc w) le =
    let low = div-mul-le_self a (suc w) in
    le-div (a / suc w) c (suc w) (grind arith) (grind arith)

one-more : (x k w n : ℕ) → x * w ≤ k * n → w ≤ n → (x + 1) * w ≤ suc k * n
one-more x k w n low le = grind arith

-- a piece of some values has one
more : (n k w : ℕ) → 0 < w → w ≤ n → before_piece n w k < before_piece n w (suc k)
more n k w some le =
    let enough : before_piece n w k + 1 ≤ before_piece n w (suc k) = le-div (k * n / w + 1) (suc k * n) w some (one-more (k * n / w) k w n (div-mul-le_self (k * n) w) le) in
    grind arith

no-less : (n k w : ℕ) → before_piece n w k ≤ before_piece n w (suc k)
no-less n k w = div-more (k * n) (suc k * n) w (grind arith)

pub next : (n k w : ℕ) → before_piece n w k + (before_piece n w (suc k) - before_piece n w k) ≡ before_piece n w (suc k)
next n k w = let le = no-less n k w in grind arith

times-zero : (n : ℕ) → n * 0 ≡ 0
times-zero n = grind arith

zero-times : (n : ℕ) → 0 * n ≡ 0
zero-times n = grind arith

none-before : (n w : ℕ) → before_piece n w 0 ≡ 0
none-before n w = ap (λ m. m / w) (zero-times n) ∙ zero-div w

-- ---- at least, and at most

both-low : (x k z n w : ℕ) → x * w ≤ k * n → z * w ≤ n → (x + z) * w ≤ suc k * n
both-low x k z n w low lower = grind arith

at-least : (n k w : ℕ) → n / w ≤ before_piece n w (suc k) - before_piece n w k
at-least n k zero = subst (λ m. m ≤ before_piece n zero (suc k) - before_piece n zero k) (sym (div-zero n)) (grind arith)
at-least n k (suc w) =
    let enough = le-div (k * n / suc w + n / suc w) (suc k * n) (suc w) (grind arith) (both-low (k * n / suc w) k (n / suc w) n (suc w) (div-mul-le_self (k * n) (suc w)) (div-mul-le_self n (suc w))) in
    grind arith

both-high : (x k z n w : ℕ) → k * n < x * w + w → n < z * w + w → suc k * n < suc (suc (x + z)) * w
both-high x k z n w high higher = grind arith

at-most : (n k w : ℕ) → before_piece n w (suc k) - before_piece n w k ≤ suc (n / w)
at-most n k zero = subst (λ m. m - before_piece n zero k ≤ suc (n / zero)) (sym (div-zero (suc k * n))) (grind arith)
at-most n k (suc w) =
    let some : 0 < suc w = grind arith in
    let few : before_piece n (suc w) (suc k) < suc (suc (k * n / suc w + n / suc w)) =
    (div-lt_iff_lt-mul some).1 (both-high (k * n / suc w) k (n / suc w) n (suc w) (lt-div-mul-add some) (lt-div-mul-add some)) in
    grind arith

pub evenly : (n k j w : ℕ) → before_piece n w (suc k) - before_piece n w k ≤ suc (before_piece n w (suc j) - before_piece n w j)
evenly n k j w = let most = at-most n k w in let least = at-least n j w in grind arith

-- ---- all

sum-last : (counts : List ℕ) (count : ℕ) → sum (counts ++ count ∷ []) ≡ sum counts + count
sum-last counts count = fold-append ◌+◌ 0 counts (count ∷ [])

map-last : (f : ℕ → ℕ) (numbers : List ℕ) (number : ℕ) → map f (numbers ++ number ∷ []) ≡ map f numbers ++ f number ∷ []
map-last f [] number = refl
map-last f (first ∷ numbers) number = ap (λ all. f first ∷ all) (map-last f numbers number)

in-all : (n w m : ℕ) → sum (map (λ k. before_piece n w (suc k) - before_piece n w k) (numbers_below m)) ≡ before_piece n w m
in-all n w zero = sym (none-before n w)
in-all n w (suc m) =
    ap sum (map-last (λ k. before_piece n w (suc k) - before_piece n w k) (numbers_below m) m)
    ∙ sum-last (map (λ k. before_piece n w (suc k) - before_piece n w k) (numbers_below m)) (before_piece n w (suc m) - before_piece n w m)
    ∙ ap (λ s. s + (before_piece n w (suc m) - before_piece n w m)) (in-all n w m)
    ∙ next n m w

-- ---- of so many workers

some-pieces : (n workers k : ℕ) → k < min n workers → 0 < min n workers
some-pieces n workers k lt = grind arith

pub some-values : (n workers k : ℕ) → k < piece_count n workers → 0 < values_in n workers k
some-values n workers k lt =
    let up = more n k (min n workers) (some-pieces n workers k lt) (grind arith) in
    grind arith

pub first-begin : (n workers : ℕ) → values_before n workers 0 ≡ 0
first-begin n workers = none-before n (min n workers)

pub last-end : (n workers : ℕ) → 0 < workers → values_before n workers (piece_count n workers) ≡ n
last-end zero workers some = ap (λ m. m / min 0 workers) (times-zero (min 0 workers)) ∙ zero-div (min 0 workers)
last-end (suc n) workers some = mul-div_cancel_left (suc n) (grind arith)

pub all-values : (n workers : ℕ) → 0 < workers → sum (values_in_each n workers) ≡ n
all-values n workers some = in-all n (min n workers) (min n workers) ∙ last-end n workers some
