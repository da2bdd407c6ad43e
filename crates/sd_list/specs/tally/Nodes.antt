-- A tree of sums in one list.
use Rattle.std.specs.Prelude.{◌≡◌, ◌⊎◌, ℕ, zero, suc, ◌+◌, ◌<◌, ◌≤◌, List, length, take, drop, slice_index_or}
use Rattle.std.specs.List.{sum}

abbrev pub node : List ℕ → (at : ℕ) → ℕ
node nodes at = slice_index_or nodes at 0

-- 1, so often doubled
abbrev pub doubled : ℕ → ℕ
doubled zero = 1
doubled (suc depth) = doubled depth + doubled depth

-- a node is the sum of the two below it
abbrev pub IsSum : List ℕ → (at : ℕ) → Type 0
IsSum nodes at = node nodes at ≡ node nodes (at + at) + node nodes (at + at + 1)

-- so is each above the leaves, which stand from a width on
abbrev pub IsSummed : (width : ℕ) → List ℕ → Type 0
IsSummed width nodes = (at : ℕ) → 0 < at → at < width → IsSum nodes at

-- of the units of a node, the one of this number is in one of the two below, where it has this number
abbrev pub IsBelow : List ℕ → (at unit : ℕ) → (next : ℕ × ℕ) → Type 0
IsBelow nodes at unit next =
    ((next.0 ≡ at + at) × (next.1 ≡ unit) × (next.1 < node nodes (at + at)))
    ⊎ ((next.0 ≡ at + at + 1) × (node nodes (at + at) + next.1 ≡ unit) × (next.1 < node nodes (at + at + 1)))

-- the counts of so many parts: the first leaves
abbrev pub counts_of : List ℕ → (width parts : ℕ) → List ℕ
counts_of nodes width parts = take parts (drop width nodes)

-- a tree with room for the parts, whose other leaves are 0
pub record IsTree (nodes : List ℕ) (width depth parts : ℕ) : Type 0 where
  pub sized : length nodes ≡ width + width
  pub wide : 0 < width
  pub doubled : width ≡ doubled depth
  pub room : parts ≤ width
  pub summed : IsSummed width nodes
  pub rest : sum (drop parts (drop width nodes)) ≡ 0
