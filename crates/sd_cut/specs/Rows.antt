-- Elements of an array in a window, row by row: those of a row stand one after another.
use Rattle.std.specs.Prelude.{◌≡◌, ℕ, zero, suc, ℤ, pos, List, [], ◌∷◌, ◌++◌, map, Option, Some, IsSome, slice_index_or, ⊤}
use Rattle.std.specs.List.{All}
use Rattle.sd_range.specs.Subset.{elements}
use Rattle.sd_mem.specs.mem.Shaped.{Shaped}
use Rattle.sd_cut.specs.Cells.{subset_within}
use Rattle.sd_cut.specs.Cutting.{element_there}
use Rattle.sd_cut.specs.Elements.{told_at}
use Rattle.sd_cut.specs.declared.refusal.CutError.{CutError}
use Rattle.sd_cut.specs.declared.refusal.CutError.TheVariants.{Outside, Memory}

-- so many elements of an array from a number on, where each stands and its value
abbrev pub row_told : (elements : List ℤ) → (place count : ℕ) → List (Option ℕ × ℤ)
row_told elements place zero = []
row_told elements place (suc count) = (Some place, slice_index_or elements place (pos 0)) ∷ row_told elements (suc place) count

-- the indices of a window, each behind these numbers
abbrev pub indices_behind : (before : List ℤ) → (shift : List ℤ) → (extents : List ℕ) → List (List ℤ)
indices_behind before shift extents = map (λ rest. before ++ rest) (elements (subset_within shift extents) [])

-- the element at each index is there
abbrev pub AreThere : Shaped → (container : ℕ) → List (List ℤ) → Type 0
AreThere memory container indices = All (λ index. IsSome (element_there memory container index)) indices

-- where each stands, and its value
abbrev pub all_told : Shaped → (container : ℕ) → List (List ℤ) → List (Option ℕ × ℤ)
all_told memory container indices = map (told_at memory container) indices

-- a refusal: one is not there, or want of memory
abbrev pub IsMissing : Shaped → (container : ℕ) → List (List ℤ) → CutError → Type 0
IsMissing memory container indices (Outside other) = (other ≡ container) × (AreThere memory container indices → ⊥)
IsMissing memory container indices Memory = ⊤
