-- A leaf changed, and then the sums above it, one after another.
use Rattle.std.proofs.Common.{◌≡◌, ◌≢◌, ◌⊎◌, inl, inr, ℕ, ◌+◌, ◌/◌, ◌<◌, List, length, slice_set, sym, ap, ◌∙◌, arith}
use Rattle.std.proofs.lemmas.List.{get_or-set_other, get_or-set_same}
use Rattle.std.proofs.lemmas.Bool.Decides.{eqb_tells}
use Rattle.sd_list.specs.tally.Nodes.{node, IsSum, IsSummed}
use Rattle.sd_list.proofs.tally_lemmas.Sums.{in-whole}

pub same-or-other : (at other : ℕ) → (at ≡ other) ⊎ (at ≢ other)
same-or-other at other = elim (eqb_tells at other) [
  | inl same ↦ inl same.1
  | inr apart ↦ inr apart.1
]

-- half of a number, and what is over
pub halves : (at : ℕ) → (at ≡ at / 2 + at / 2) ⊎ (at ≡ at / 2 + at / 2 + 1)
halves at = elim (same-or-other at (at / 2 + at / 2)) [
  | inl same ↦ inl same
  | inr apart ↦ inr (omega (arith, apart))
]

module _ (nodes : List ℕ) (at : ℕ) where
  abbrev pub summed_at : List ℕ
  summed_at = slice_set nodes at (node nodes (at + at) + node nodes (at + at + 1))

  pub sum-here : at < length nodes → node summed_at at ≡ node nodes (at + at) + node nodes (at + at + 1)
  sum-here within = get_or-set_same nodes at (node nodes (at + at) + node nodes (at + at + 1)) 0 within

  pub elsewhere : (other : ℕ) → other ≢ at → node summed_at other ≡ node nodes other
  elsewhere other apart = get_or-set_other nodes at other (node nodes (at + at) + node nodes (at + at + 1)) 0 apart

module _ (nodes : List ℕ) (width at : ℕ) (positive : 0 < at) (within : at < width) (sized : length nodes ≡ width + width) where
  -- each sum but that above the node is right
  pub summed-on : ((other : ℕ) → 0 < other → other < width → other ≢ at → IsSum nodes other)
      → (other : ℕ) → 0 < other → other < width → other ≢ at / 2 → IsSum (summed_at nodes at) other
  summed-on summed other there under apart = elim (same-or-other other at) [
    | inl same ↦ here other same
    | inr away ↦
        elsewhere nodes at other away ∙ summed other there under away
        ∙ both (sym (elsewhere nodes at (other + other) (low other apart))) (sym (elsewhere nodes at (other + other + 1) (high other apart)))
  ]
    where
      both : {a b c d : ℕ} → a ≡ b → c ≡ d → a + c ≡ b + d
      both one two = omega (arith, one, two)

      low : (other : ℕ) → other ≢ at / 2 → other + other ≢ at
      low other apart is = apart (omega (arith, is))

      high : (other : ℕ) → other ≢ at / 2 → other + other + 1 ≢ at
      high other apart is = apart (omega (arith, is))

      here : (other : ℕ) → other ≡ at → IsSum (summed_at nodes at) other
      here other same =
          let left : other + other ≢ at = λ is. omega (arith, is, same, positive) in
          let right : other + other + 1 ≢ at = λ is. omega (arith, is, same, positive) in
          ap (node (summed_at nodes at)) same ∙ sum-here nodes at (omega (arith, within, sized))
          ∙ sym (both (elsewhere nodes at (other + other) left ∙ ap (λ (n : ℕ). node nodes (n + n)) same) (elsewhere nodes at (other + other + 1) right ∙ ap (λ (n : ℕ). node nodes (n + n + 1)) same))

  module _ (start : List ℕ) (old count : ℕ) (whole : IsSummed width start) (above : (other : ℕ) → other < at + at → node nodes other ≡ node start other)
      (below : node nodes (at + at) + node nodes (at + at + 1) + old ≡ node start at + count) where
    new-here : node (summed_at nodes at) at + old ≡ node start at + count
    new-here = omega (arith, sum-here nodes at (omega (arith, within, sized)), below)

    -- the two nodes below the next one on the way
    pub below-on : 0 < at / 2 → node (summed_at nodes at) (at / 2 + at / 2) + node (summed_at nodes at) (at / 2 + at / 2 + 1) + old ≡ node start (at / 2) + count
    below-on more =
        let is : node start (at / 2) ≡ node start (at / 2 + at / 2) + node start (at / 2 + at / 2 + 1) = whole (at / 2) more (omega (arith, within)) in
        elim (halves at) [
          | inl even ↦
              let other : node (summed_at nodes at) (at / 2 + at / 2 + 1) ≡ node start (at / 2 + at / 2 + 1) =
              elsewhere nodes at (at / 2 + at / 2 + 1) (λ (same : at / 2 + at / 2 + 1 ≡ at). omega (arith, same, even)) ∙ above (at / 2 + at / 2 + 1) (omega (arith, even, more)) in
              let this : node (summed_at nodes at) (at / 2 + at / 2) ≡ node (summed_at nodes at) at = ap (node (summed_at nodes at)) (sym even) in
              let was : node start (at / 2 + at / 2) ≡ node start at = ap (node start) (sym even) in
              omega (arith, is, other, this, was, new-here)
          | inr odd ↦
              let other : node (summed_at nodes at) (at / 2 + at / 2) ≡ node start (at / 2 + at / 2) =
              elsewhere nodes at (at / 2 + at / 2) (λ (same : at / 2 + at / 2 ≡ at). omega (arith, same, odd)) ∙ above (at / 2 + at / 2) (omega (arith, odd, more)) in
              let this : node (summed_at nodes at) (at / 2 + at / 2 + 1) ≡ node (summed_at nodes at) at = ap (node (summed_at nodes at)) (sym odd) in
              let was : node start (at / 2 + at / 2 + 1) ≡ node start at = ap (node start) (sym odd) in
              omega (arith, is, other, this, was, new-here)
        ]

    pub above-on : (other : ℕ) → other < at / 2 + at / 2 → node (summed_at nodes at) other ≡ node start other
    above-on other under =
        elsewhere nodes at other (λ (same : other ≡ at). omega (arith, same, under)) ∙ above other (omega (arith, under, positive))

-- the sum that is put into a node is not above that of all
pub sum-fits : (start : List ℕ) (width at old count sum limit : ℕ) → IsSummed width start → 0 < at → at < width → sum + old ≡ node start at + count → node start 1 + count < limit + old → sum < limit
sum-fits start width at old count sum limit whole positive within is fits = omega (arith, is, fits, in-whole start width whole at at (omega arith) positive (omega (arith, within)))
