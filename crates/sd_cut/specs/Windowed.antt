-- How containers are reached through windows, as the code keeps it.
use Rattle.std.specs.Prelude.{ℕ, suc, ℤ, pos, List, [], ◌∷◌, map, Option, Some, None, option_map, slice_index_or}
use Rattle.sd_range.specs.declared.subset.Dim.{Dim}
use Rattle.sd_range.specs.declared.subset.Dim.TheVariants.{Span}
use Rattle.sd_graph.specs.ContainerParts.{Containers, container_at, extents_of}
use Rattle.sd_graph.specs.Context.{Reach}
use Rattle.sd_scope.specs.declared.scope.base.Way.{Way}
use Rattle.sd_pieces.specs.cut.Naming.{Naming}
use Rattle.sd_windows.specs.MapPieces.{number}
use Rattle.sd_windows.specs.Windows as windows
use Rattle.sd_windows.specs.Windows.{numbers_of, HasDimensions, reach_in_window}
use Rattle.sd_cut.specs.declared.window.Window.{Window}

-- a dimension that begins at a number: an index in it is the number more outside
abbrev pub dim_shifted : ℤ → Dim
dim_shifted shift = Span (record { begin = number shift; ends = number shift ∷ []; step = pos 1 })

-- the way to a container through its window
abbrev pub way_through : Containers → (container : ℕ) → Window → Way
way_through containers container window = record {
  station = record { level = 0; container = container };
  views = record { extents = extents_of (container_at containers container); subset = record { dims = map dim_shifted window.shift }; values = [] } ∷ [];
  extents = window.extents;
}

-- the way to a container through its window, if it has one
abbrev pub way_at : Containers → (container : ℕ) → Option Window → Option Way
way_at containers container None = None
way_at containers container (Some window) = Some (way_through containers container window)

-- the ways to the containers of a list of windows, which are numbered from this one on
abbrev pub ways_from : Containers → (container : ℕ) → List (Option Window) → List (Option Way)
ways_from containers container [] = []
ways_from containers container (window ∷ others) = way_at containers container window ∷ ways_from containers (suc container) others

-- a window of the code
abbrev pub window_of : Window → windows.Window
window_of window = record { shift = window.shift; extents = window.extents }

-- that of a container; none behind the end of the list
abbrev pub window_at : List (Option Window) → (container : ℕ) → Option windows.Window
window_at list container = option_map window_of (slice_index_or list container None)

-- how containers are reached through these windows
abbrev pub reach_in : Containers → List (Option Window) → (container : ℕ) → Reach
reach_in containers list container = reach_in_window containers container (window_at list container)

-- the numbers of elements in these windows
abbrev pub numbers_in : Containers → List (Option Window) → Naming
numbers_in containers list = numbers_of containers (window_at list)

-- each window has the dimensions of its container
abbrev pub HaveDimensions : Containers → List (Option Window) → Type 0
HaveDimensions containers list = (container : ℕ) → HasDimensions (extents_of (container_at containers container)) (window_at list container)
