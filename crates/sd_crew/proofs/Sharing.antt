-- How the values of items are shared out among their pieces.
use Rattle.std.proofs.Common.{◌≡◌, ℕ, zero, suc, ◌+◌, ◌≤◌, ◌<◌, min, ℤ, List, [], ◌∷◌, ◌++◌, map, sum, true, false, refl, sym, ◌∙◌, ap, subst, arith}
use Rattle.std.specs.List.{AllByRecursion}
use Rattle.std.proofs.lemmas.List.Sums.{fold-append, sum_by-cons}
use Rattle.sd_graph.specs.LoopScope.{numbers_below}
use Rattle.sd_graph.specs.PlainTree.{KindTree, task, map_scope, consume_scope, nested_graph, reduction, copy}
use Rattle.sd_windows.specs.MapPieces.{kind_piece, kind_pieces, pieces_from}
use Rattle.sd_lower.specs.Pieces.{piece_count, values_before, values_in, values_in_each}
use Rattle.sd_lower.proofs.Shares.{next, some-values, first-begin, last-end}
use Rattle.sd_piece.specs.Piece.{value_count, HasValues}

-- ---- lists by numbers

pub map-last : {A B : Type 0} (f : A → B) (xs : List A) (x : A) → map f (xs ++ x ∷ []) ≡ map f xs ++ f x ∷ []
map-last f [] x = refl
map-last f (first ∷ xs) x = ap (λ all. f first ∷ all) (map-last f xs x)

sum-last : (counts : List ℕ) (count : ℕ) → sum (counts ++ count ∷ []) ≡ sum counts + count
sum-last counts count = fold-append ◌+◌ 0 counts (count ∷ [])

all-last : {A : Type 0} (P : A → Type 0) (xs : List A) (x : A) → AllByRecursion P xs → P x → AllByRecursion P (xs ++ x ∷ [])
all-last P [] x all one = (one, tt)
all-last P (first ∷ xs) x all one = (all.0, all-last P xs x all.1 one)

pub all-below : {A : Type 0} (P : A → Type 0) (f : ℕ → A) (n : ℕ) → ((k : ℕ) → k < n → P (f k)) → AllByRecursion P (map f (numbers_below n))
all-below P f zero each = tt
all-below P f (suc n) each =
    subst (AllByRecursion P) (sym (map-last f (numbers_below n) n)) (all-last P (map f (numbers_below n)) (f n) (all-below P f n (λ k less. each k (omega (arith, less)))) (each n (omega arith)))

-- ---- pieces

zero-plus : (n : ℕ) → 0 + n ≡ n
zero-plus n = omega arith

no-less : (n w k m : ℕ) → values_before n w k ≤ values_before n w (m + k)
no-less n w k zero = subst (λ j. values_before n w k ≤ values_before n w j) (sym (zero-plus k)) (omega arith)
no-less n w k (suc m) =
    let low = no-less n w k m in
    let step : values_before n w (m + k) + values_in n w (m + k) ≡ values_before n w (suc (m + k)) = next n (m + k) (min n w) in
    let same : suc (m + k) ≡ suc m + k = omega arith in
    subst (λ j. values_before n w k ≤ values_before n w j) same (omega (arith, low, step))

within : (n w k : ℕ) → 0 < w → k < piece_count n w → values_before n w k + values_in n w k ≤ n
within n w k some less =
    let more = rest k (piece_count n w) less in
    let low = no-less n w (suc k) more.0 in
    let top : values_before n w (more.0 + suc k) ≡ n = ap (values_before n w) (sym more.1) ∙ last-end n w some in
    let step : values_before n w k + values_in n w k ≡ values_before n w (suc k) = next n k (min n w) in
    omega (arith, low, top, step)
  where
    rest : (k m : ℕ) → k < m → (more : ℕ) × (m ≡ more + suc k)
    rest k zero less = absurd (omega (arith, less))
    rest zero (suc m) less = (m, omega arith)
    rest (suc k) (suc m) less = let r = rest k m (omega (arith, less)) in (r.0, (let e = r.1 in omega (arith, e)))

-- a piece has values, and they are some of the item's
pub has-values : (values : List ℤ) (kind : KindTree) (w k : ℕ) → 0 < w → k < piece_count (value_count values kind) w →
    HasValues values (values_before (value_count values kind) w k) (values_in (value_count values kind) w k) kind
has-values values kind w k some less = (some-values (value_count values kind) w k less, within (value_count values kind) w k some less)

-- ---- the pieces of an item

in-all : (n w m : ℕ) → sum (map (values_in n w) (numbers_below m)) ≡ values_before n w m
in-all n w zero = sym (first-begin n w)
in-all n w (suc m) =
    ap sum (map-last (values_in n w) (numbers_below m) m)
    ∙ sum-last (map (values_in n w) (numbers_below m)) (values_in n w m)
    ∙ ap (λ s. s + values_in n w m) (in-all n w m)
    ∙ next n m (min n w)

from-last : (values : List ℤ) (first : ℕ) (counts : List ℕ) (count : ℕ) (kind : KindTree) → pieces_from values first (counts ++ count ∷ []) kind ≡ pieces_from values first counts kind ++ kind_piece values (first + sum counts) count kind ∷ []
from-last values first [] count kind = ap (λ n. kind_piece values n count kind ∷ []) (let e : first ≡ first + 0 = omega arith in e)
from-last values first (one ∷ counts) count kind =
    ap (λ all. kind_piece values first one kind ∷ all)
    (from-last values (first + one) counts count kind
    ∙ ap (λ n. pieces_from values (first + one) counts kind ++ kind_piece values n count kind ∷ []) (add-up first one (sum counts) (sum (one ∷ counts)) (sum-first one counts)))
  where
    sum-first : (one : ℕ) (counts : List ℕ) → sum (one ∷ counts) ≡ one + sum counts
    sum-first one counts = sum_by-cons (λ n. n) one counts

    add-up : (first one rest all : ℕ) → all ≡ one + rest → (first + one) + rest ≡ first + all
    add-up first one rest all e = omega (arith, e)

pieces-by-numbers : (values : List ℤ) (kind : KindTree) (n w m : ℕ) →
    pieces_from values 0 (map (values_in n w) (numbers_below m)) kind ≡ map (λ k. kind_piece values (values_before n w k) (values_in n w k) kind) (numbers_below m)
pieces-by-numbers values kind n w zero = refl
pieces-by-numbers values kind n w (suc m) =
    ap (λ counts. pieces_from values 0 counts kind) (map-last (values_in n w) (numbers_below m) m)
    ∙ from-last values 0 (map (values_in n w) (numbers_below m)) (values_in n w m) kind
    ∙ (λ i. pieces-by-numbers values kind n w m i ++ kind_piece values ((zero-plus (sum (map (values_in n w) (numbers_below m))) ∙ in-all n w m) i) (values_in n w m) kind ∷ [])
    ∙ sym (map-last (λ k. kind_piece values (values_before n w k) (values_in n w k) kind) (numbers_below m) m)

one-piece : (w : ℕ) → 0 < w → piece_count 1 w ≡ 1
one-piece w some = grind arith

-- an item that is not cut
alone-piece : (values : List ℤ) (kind : KindTree) (w : ℕ) → 0 < w → ((first count : ℕ) → kind_piece values first count kind ≡ kind) →
    kind ∷ [] ≡ map (λ k. kind_piece values (values_before 1 w k) (values_in 1 w k) kind) (numbers_below (piece_count 1 w))
alone-piece values kind w some same =
    ap (λ k. k ∷ []) (sym (same (values_before 1 w 0) (values_in 1 w 0)))
    ∙ ap (λ n. map (λ k. kind_piece values (values_before 1 w k) (values_in 1 w k) kind) (numbers_below n)) (sym (one-piece w some))

pub pieces-are : (values : List ℤ) (kind : KindTree) (w : ℕ) → 0 < w →
    kind_pieces values (values_in_each (value_count values kind) w) kind
    ≡ map (λ k. kind_piece values (values_before (value_count values kind) w k) (values_in (value_count values kind) w k) kind) (numbers_below (piece_count (value_count values kind) w))
pieces-are values (task code ins outs) w some = alone-piece values (task code ins outs) w some (λ first count. refl)
pieces-are values (map_scope true params private body) w some = alone-piece values (map_scope true params private body) w some (λ first count. refl)
pieces-are values (map_scope false params private body) w some =
    pieces-by-numbers values (map_scope false params private body) (value_count values (map_scope false params private body)) w (piece_count (value_count values (map_scope false params private body)) w)
pieces-are values (consume_scope stream element private body) w some = alone-piece values (consume_scope stream element private body) w some (λ first count. refl)
pieces-are values (nested_graph inner links) w some = alone-piece values (nested_graph inner links) w some (λ first count. refl)
pieces-are values (reduction resolution axis identity from to) w some = alone-piece values (reduction resolution axis identity from to) w some (λ first count. refl)
pieces-are values (copy from to) w some = alone-piece values (copy from to) w some (λ first count. refl)
