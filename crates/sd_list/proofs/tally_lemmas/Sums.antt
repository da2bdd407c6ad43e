-- Sums in a tree of sums.
use Rattle.std.proofs.Common.{◌≡◌, ◌⊎◌, inl, inr, ℕ, zero, suc, ◌+◌, ◌<◌, ◌≤◌, List, [], ◌∷◌, length, take, drop, get_or, refl, sym, ap, ◌∙◌, subst, arith}
use Rattle.std.proofs.lemmas.List.{drop_more, length-drop}
use Rattle.std.proofs.lemmas.List.Sums.{sum_by-cons, sum_by-take-drop}
use Rattle.std.specs.List.{sum}
use Rattle.sd_list.specs.tally.Nodes.{node, doubled, IsSummed, counts_of, IsTree}

-- ---- lists

pub sum-cons : (x : ℕ) (xs : List ℕ) → sum (x ∷ xs) ≡ x + sum xs
sum-cons = sum_by-cons (λ x. x)

pub take-more : (nodes : List ℕ) (at count : ℕ) → at < length nodes → sum (take (suc count) (drop at nodes)) ≡ node nodes at + sum (take count (drop (at + 1) nodes))
take-more nodes at count within =
    ap (λ (rest : List ℕ). sum (take (suc count) rest)) (drop_more nodes at 0 within) ∙ sum-cons (get_or nodes at 0) (take count (drop (at + 1) nodes))

pub take-whole : (nodes : List ℕ) (count : ℕ) → length nodes ≤ count → take count nodes ≡ nodes
take-whole [] zero within = refl
take-whole [] (suc count) within = refl
take-whole (first ∷ nodes) zero within = absurd (omega (arith, within))
take-whole (first ∷ nodes) (suc count) within = ap (λ (rest : List ℕ). first ∷ rest) (take-whole nodes count (omega (arith, within)))

-- where all add up to nothing, each is nothing
pub nothing-there : (counts : List ℕ) (at : ℕ) → sum counts ≡ 0 → get_or counts at 0 ≡ 0
nothing-there [] at none = refl
nothing-there (count ∷ counts) zero none =
    let all : sum (count ∷ counts) ≡ count + sum counts = sum-cons count counts in
    let is : count ≡ 0 = omega (arith, none, all) in
    is
nothing-there (count ∷ counts) (suc at) none = nothing-there counts at (omega (arith, none, sum-cons count counts))

-- what is read at a place that is there, whatever would stand for none
pub read-there : (nodes : List ℕ) (at value : ℕ) → at < length nodes → value ≡ get_or nodes at value → value ≡ node nodes at
read-there [] at value there is = absurd (omega (arith, there))
read-there (first ∷ nodes) zero value there is = is
read-there (first ∷ nodes) (suc at) value there is = read-there nodes at value (omega (arith, there)) is

pub less-or-not : (a b : ℕ) → (a < b) ⊎ (b ≤ a)
less-or-not zero zero = inr (omega arith)
less-or-not zero (suc b) = inl (omega arith)
less-or-not (suc a) zero = inr (omega arith)
less-or-not (suc a) (suc b) = elim (less-or-not a b) [
  | inl less ↦ inl (omega (arith, less))
  | inr not ↦ inr (omega (arith, not))
]

-- ---- levels

-- the nodes below so many neighbours add up to them
pub below : (nodes : List ℕ) (width : ℕ) → IsSummed width nodes → length nodes ≡ width + width → (first count : ℕ) → 0 < first → first + count ≤ width
    → sum (take (count + count) (drop (first + first) nodes)) ≡ sum (take count (drop first nodes))
below nodes width summed sized first zero there within = refl
below nodes width summed sized first (suc count) there within =
    let low = first + first in
    let one : sum (take (suc count) (drop first nodes)) ≡ node nodes first + sum (take count (drop (first + 1) nodes)) =
    take-more nodes first count (omega (arith, within, sized)) in
    let left : sum (take (suc (count + suc count)) (drop low nodes)) ≡ node nodes low + sum (take (count + suc count) (drop (low + 1) nodes)) =
    take-more nodes low (count + suc count) (omega (arith, within, sized)) in
    let same : count + suc count ≡ suc (count + count) = omega arith in
    let right : sum (take (suc (count + count)) (drop (low + 1) nodes)) ≡ node nodes (low + 1) + sum (take (count + count) (drop (low + 1 + 1) nodes)) =
    take-more nodes (low + 1) (count + count) (omega (arith, within, sized)) in
    let next : low + 1 + 1 ≡ (first + 1) + (first + 1) = omega arith in
    let rest : sum (take (count + count) (drop ((first + 1) + (first + 1)) nodes)) ≡ sum (take count (drop (first + 1) nodes)) =
    below nodes width summed sized (first + 1) count (omega arith) (omega (arith, within)) in
    let is : node nodes first ≡ node nodes low + node nodes (low + 1) = summed first there (omega (arith, within)) in
    let left' : sum (take (count + suc count) (drop (low + 1) nodes)) ≡ sum (take (suc (count + count)) (drop (low + 1) nodes)) = ap (λ (n : ℕ). sum (take n (drop (low + 1) nodes))) same in
    let right' : sum (take (count + count) (drop (low + 1 + 1) nodes)) ≡ sum (take (count + count) (drop ((first + 1) + (first + 1)) nodes)) = ap (λ (n : ℕ). sum (take (count + count) (drop n nodes))) next in
    let shape : suc count + suc count ≡ suc (count + suc count) = omega arith in
    ap (λ (n : ℕ). sum (take n (drop low nodes))) shape ∙ left ∙ ap (λ (n : ℕ). node nodes low + n) (left' ∙ right ∙ ap (λ (n : ℕ). node nodes (low + 1) + n) (right' ∙ rest))
    ∙ shifted (node nodes low) (node nodes (low + 1)) (sum (take count (drop (first + 1) nodes))) (node nodes first) is ∙ sym one
  where
    shifted : (a b c d : ℕ) → d ≡ a + b → a + (b + c) ≡ d + c
    shifted a b c d is = omega (arith, is)

pub doubled-positive : (depth : ℕ) → 0 < doubled depth
doubled-positive zero = omega arith
doubled-positive (suc depth) = omega (arith, doubled-positive depth)

pub doubled-above : (depth : ℕ) → depth < doubled depth
doubled-above zero = omega arith
doubled-above (suc depth) = omega (arith, doubled-above depth)

-- each level adds up to the first node
level : (nodes : List ℕ) (width : ℕ) → IsSummed width nodes → length nodes ≡ width + width → (depth : ℕ) → doubled depth ≤ width
    → sum (take (doubled depth) (drop (doubled depth) nodes)) ≡ node nodes 1
level nodes width summed sized zero within = take-more nodes 1 0 (omega (arith, within, sized)) ∙ none (node nodes 1)
  where
    none : (n : ℕ) → n + 0 ≡ n
    none n = omega arith
level nodes width summed sized (suc depth) within =
    below nodes width summed sized (doubled depth) (doubled depth) (doubled-positive depth) within
    ∙ level nodes width summed sized depth (omega (arith, within))

pub leaves-add-up : (nodes : List ℕ) (width depth : ℕ) → IsSummed width nodes → length nodes ≡ width + width → width ≡ doubled depth → sum (drop width nodes) ≡ node nodes 1
leaves-add-up nodes width depth summed sized is =
    let all : sum (take width (drop width nodes)) ≡ node nodes 1 =
    subst (λ (w : ℕ). sum (take w (drop w nodes)) ≡ node nodes 1) (sym is) (level nodes width summed sized depth (omega (arith, is))) in
    let there : length (drop width nodes) ≤ width = omega (arith, length-drop width nodes, sized) in
    sym (ap sum (take-whole (drop width nodes) width there)) ∙ all

-- ---- no node is above the first

halved : (at : ℕ) → (half : ℕ) × ((at ≡ half + half) ⊎ (at ≡ half + half + 1))
halved zero = (0, inl refl)
halved (suc zero) = (0, inr refl)
halved (suc (suc at)) = elim (halved at).1 [
  | inl even ↦ (suc (halved at).0, inl (omega (arith, even)))
  | inr odd ↦ (suc (halved at).0, inr (omega (arith, odd)))
]

half-whole : (nodes : List ℕ) (width : ℕ) → IsSummed width nodes → (at half : ℕ) → (at ≡ half + half) ⊎ (at ≡ half + half + 1) → 0 < at → at < width + width
    → (0 < half → half < width → node nodes half ≤ node nodes 1) → node nodes at ≤ node nodes 1
half-whole nodes width summed at zero (inl even) there within above = absurd (omega (arith, even, there))
half-whole nodes width summed at zero (inr odd) there within above =
    let first : node nodes at ≡ node nodes 1 = ap (node nodes) odd in
    omega (arith, first)
half-whole nodes width summed at (suc half) (inl even) there within above =
    let same : node nodes at ≡ node nodes (suc half + suc half) = ap (node nodes) even in
    let under : suc half < width = omega (arith, even, within) in
    omega (arith, same, summed (suc half) (omega arith) under, above (omega arith) under)
half-whole nodes width summed at (suc half) (inr odd) there within above =
    let same : node nodes at ≡ node nodes (suc half + suc half + 1) = ap (node nodes) odd in
    let under : suc half < width = omega (arith, odd, within) in
    omega (arith, same, summed (suc half) (omega arith) under, above (omega arith) under)

pub in-whole : (nodes : List ℕ) (width : ℕ) → IsSummed width nodes → (fuel at : ℕ) → at ≤ fuel → 0 < at → at < width + width → node nodes at ≤ node nodes 1
in-whole nodes width summed zero at bound there within = absurd (omega (arith, bound, there))
in-whole nodes width summed (suc fuel) at bound there within =
    let half = (halved at).0 in
    let side = (halved at).1 in
    half-whole nodes width summed at half side there within
    (λ positive under. in-whole nodes width summed fuel half (less at half fuel side bound positive) positive (omega (arith, under)))
  where
    less : (at half fuel : ℕ) → (at ≡ half + half) ⊎ (at ≡ half + half + 1) → at ≤ suc fuel → 0 < half → half ≤ fuel
    less at half fuel (inl even) bound positive = omega (arith, even, bound, positive)
    less at half fuel (inr odd) bound positive = omega (arith, odd, bound, positive)

-- ---- the whole tree

module _ (nodes : List ℕ) (width depth parts : ℕ) (tree : IsTree nodes width depth parts) where
  leaves-sum : sum (drop width nodes) ≡ node nodes 1
  leaves-sum = leaves-add-up nodes width depth tree.summed tree.sized tree.doubled

  pub counts-sum : sum (counts_of nodes width parts) ≡ node nodes 1
  counts-sum =
      let both : sum (take parts (drop width nodes)) + sum (drop parts (drop width nodes)) ≡ sum (drop width nodes) = sum_by-take-drop (λ x. x) (drop width nodes) parts in
      omega (arith, both, leaves-sum, tree.rest)
