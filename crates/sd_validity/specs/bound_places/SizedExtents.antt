-- Graphs whose extents name size symbols alone.
use Rattle.std.specs.Prelude.{ℕ, ◌<◌, ◌≤◌, ⊤}
use Rattle.std.specs.List.{AllByRecursion}
use Rattle.sd_range.specs.declared.affine.Affine.{Affine}
use Rattle.sd_graph.specs.PlainTree.{GraphTree}
use Rattle.sd_graph.specs.TreeParts.{containers_of}
use Rattle.sd_validity.specs.rules.GraphParts.{symbols_in}
use Rattle.sd_validity.specs.bound_places.Throughout.{Throughout}

-- an expression names the first so many variables alone
abbrev pub NamesFirst : (count : ℕ) → Affine → Type 0
NamesFirst count a = AllByRecursion (λ term. term.0 < count) a.terms

-- the graph has no more size symbols than so many, and its extents name the first so many variables alone
abbrev pub HasSizedExtents : (count : ℕ) → GraphTree → Type 0
HasSizedExtents count tree = (symbols_in tree ≤ count) × AllByRecursion (λ entry. AllByRecursion (NamesFirst count) entry.1.extents) (containers_of tree)

-- so it is in the graphs nested in it
abbrev pub HasSizedExtentsThroughout : (count : ℕ) → GraphTree → Type 0
HasSizedExtentsThroughout count tree = Throughout (HasSizedExtents count) (λ tree state exit. ⊤) (λ tree state scopes kind. ⊤) tree
