-- Containers that are reached through windows.
use Rattle.std.proofs.Common.{◌≡◌, ℕ, zero, suc, ◌+◌, ℤ, pos, ◌+ℤ◌, ◌*ℤ◌, List, [], ◌∷◌, map, Option, Some, None, option_map, slice_index_or, if◌then◌else◌, refl, ◌∙◌, ap, arith}
use Rattle.std.proofs.lemmas.Int.{ints}
use Rattle.sd_range.specs.Affine.{affine_value}
use Rattle.sd_range.specs.Subset.{inside}
use Rattle.sd_graph.specs.RowOrder.{row_number}
use Rattle.sd_graph.specs.ContainerParts.{Containers, container_at, extents_of}
use Rattle.sd_graph.specs.Context.{index_at}
use Rattle.sd_scope.specs.scope.Standing.{opening_reach, reach_by, found_through}
use Rattle.sd_scope.specs.declared.scope.base.Way.{Way}
use Rattle.sd_scope.specs.declared.scope.base.Base.{Base}
use Rattle.sd_windows.specs.MapPieces.{number}
use Rattle.sd_windows.specs.Windows.{moved, place_within, reach_in_window}
use Rattle.sd_cut.specs.declared.window.Window.{Window}
use Rattle.sd_cut.specs.Windowed.{dim_shifted, way_at, ways_from, window_of, reach_in}

begin-value : (s : ℤ) → affine_value [] (number s) ≡ s
begin-value s = omega (arith, ints)

further-value : (s n : ℤ) → affine_value [] (number s) +ℤ (pos 1 *ℤ n) ≡ s +ℤ n
further-value s n = ap (λ z. z +ℤ (pos 1 *ℤ n)) (begin-value s) ∙ omega (arith, ints)

-- the index of a place, through dimensions that begin so
index-moved : (shift index : List ℤ) → index_at (map dim_shifted shift) [] index ≡ moved shift index
index-moved [] index = refl
index-moved (s ∷ shift) [] = λ i. begin-value s i ∷ index-moved shift [] i
index-moved (s ∷ shift) (n ∷ index) = λ i. further-value s n i ∷ index-moved shift index i

through-window : (extents : List ℕ) (w : Window) (index : List ℤ) →
    found_through (record { extents = extents; subset = record { dims = map dim_shifted w.shift }; values = [] } ∷ []) w.extents index ≡ (if inside extents index then place_within (window_of w) index else None)
through-window extents w index =
    ap (λ at. if inside extents index then (if inside w.extents at then Some (row_number w.extents at) else None) else None) (index-moved w.shift index)

way-reach : (containers : Containers) (c : ℕ) (w : Option Window) → reach_by 0 containers c (way_at containers c w) ≡ reach_in_window containers c (option_map window_of w)
way-reach containers c None = refl
way-reach containers c (Some w) = λ i. record { level = 0; container = c; find = λ index. through-window (extents_of (container_at containers c)) w index i }

next-number : (k n : ℕ) → suc k + n ≡ k + suc n
next-number k n = omega arith

ways-at : (containers : Containers) (k : ℕ) (ws : List (Option Window)) (n : ℕ) → slice_index_or (ways_from containers k ws) n None ≡ way_at containers (k + n) (slice_index_or ws n None)
ways-at containers k [] n = refl
ways-at containers k (w ∷ ws) zero = ap (λ c. way_at containers c w) (omega arith)
ways-at containers k (w ∷ ws) (suc n) = ways-at containers (suc k) ws n ∙ ap (λ c. way_at containers c (slice_index_or ws n None)) (next-number k n)

first-number : (n : ℕ) → 0 + n ≡ n
first-number n = omega arith

-- a run whose containers are reached by such ways
pub windowed_reach : (containers : Containers) (ws : List (Option Window)) (base : Base) → base.ways ≡ ways_from containers 0 ws → opening_reach containers base ≡ reach_in containers ws
windowed_reach containers ws base e = λ i. λ c. on c i
  where
    on : (c : ℕ) → reach_by 0 containers c (slice_index_or base.ways c None) ≡ reach_in_window containers c (option_map window_of (slice_index_or ws c None))
    on c =
        ap (λ (ways : List (Option Way)). reach_by 0 containers c (slice_index_or ways c None)) e
        ∙ ap (reach_by 0 containers c) (ways-at containers 0 ws c ∙ ap (λ k. way_at containers k (slice_index_or ws c None)) (first-number c))
        ∙ way-reach containers c (slice_index_or ws c None)
