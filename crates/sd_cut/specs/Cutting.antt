-- What is cut of a memory.
use Rattle.std.specs.Prelude.{◌≡◌, ℕ, suc, ◌<◌, ℤ, List, [], ◌∷◌, map, Option, Some, None, option_and_then, option_map, length, slice_get, slice_index_or, IsSome, Bool, true, false, ⊤}
use Rattle.std.specs.List.{All}
use Rattle.sd_range.specs.Points.{product}
use Rattle.sd_range.specs.Subset.{elements}
use Rattle.sd_num.specs.Width.{wrapped_to}
use Rattle.sd_work.specs.Memory.{Contents, array, stream, elements_of, waiting}
use Rattle.sd_graph.specs.Wiring.{has_number}
use Rattle.sd_mem.specs.mem.Shaped.{Shaped, alone, contents_at, shape_at, width_at, place_in, with_one_more, HasStream}
use Rattle.sd_windows.specs.Windows.{Window}
use Rattle.sd_cut.specs.declared.elements.CutElement.{CutElement}
use Rattle.sd_cut.specs.declared.streams.CutStream.{CutStream}
use Rattle.sd_cut.specs.declared.streams.StreamUse.TheVariants.{Unused}
use Rattle.sd_cut.specs.declared.refusal.CutError.{CutError}
use Rattle.sd_cut.specs.declared.refusal.CutError.TheVariants.{Outside, Memory}
use Rattle.sd_cut.specs.Cells.{subset_within}
use Rattle.sd_cut.specs.Windowed.{window_of}
use Rattle.sd_cut.specs.declared.window.Window as kept

-- ---- windows

-- the element at an index of an array, if it is there
abbrev pub element_there : Shaped → (container : ℕ) → (index : List ℤ) → Option ℤ
element_there memory container index = option_and_then (slice_get (elements_of (contents_at memory container))) (place_in (shape_at memory container) index)

-- each element of a window is there
abbrev pub IsWithin : Shaped → (container : ℕ) → Option Window → Type 0
IsWithin memory container None = ⊤
IsWithin memory container (Some window) = All (λ index. IsSome (element_there memory container index)) (elements (subset_within window.shift window.extents) [])

-- a refusal of one window: an element of it is not there, or want of memory
abbrev pub IsRefusalOf : Shaped → (container : ℕ) → Option Window → CutError → Type 0
IsRefusalOf memory container window (Outside other) = (other ≡ container) × (IsWithin memory container window → ⊥)
IsRefusalOf memory container window Memory = ⊤

-- a refusal: the first window of which an element is not there, or want of memory
abbrev pub IsRefusal : Shaped → (windows : ℕ → Option Window) → CutError → Type 0
IsRefusal memory windows (Outside container) =
    (IsWithin memory container (windows container) → ⊥) × ((before : ℕ) → before < container → IsWithin memory before (windows before))
IsRefusal memory windows Memory = ⊤

-- ---- streams

-- a stream that is cut
abbrev pub stream_cut : (values : List ℤ) → CutStream
stream_cut values = record { opening = values; taken = 0; usage = Unused }

-- a container without a window that is wanted as a stream
abbrev pub is_wanted : Option kept.Window → List ℕ → (container : ℕ) → Bool
is_wanted None streams container = has_number streams container
is_wanted (Some window) streams container = false

-- such a container is cut, where it is a stream, with its values
abbrev pub IsCutOf : Shaped → (container : ℕ) → (wanted : Bool) → Option CutStream → Type 0
IsCutOf memory container wanted None = wanted ≡ true → HasStream memory container → ⊥
IsCutOf memory container wanted (Some cut) = (wanted ≡ true) × HasStream memory container × (cut ≡ stream_cut (waiting 0 container (alone memory)))

-- ---- what is left at first

abbrev pub opening_of : CutElement → ℤ
opening_of cut = cut.opening

-- a memory with one container more: the elements in a window, an empty stream, or nothing, each at its width
abbrev pub begun_with : Shaped → (container : ℕ) → Option Window → List CutElement → Option CutStream → Shaped → Shaped
begun_with memory container (Some window) cuts cut left =
    with_one_more window.extents (array (width_at memory container) (map (wrapped_to (width_at memory container)) (map opening_of cuts))) left
begun_with memory container None cuts (Some cut) left = with_one_more [] (stream (width_at memory container) []) left
begun_with memory container None cuts None left = with_one_more (0 ∷ []) (array (width_at memory container) []) left

-- there are as many elements as the window has
abbrev pub IsCounted : Option Window → List CutElement → Type 0
IsCounted None cuts = ⊤
IsCounted (Some window) cuts = length cuts ≡ product window.extents

-- and so for each container from this one on
abbrev pub all_begun : Shaped → (container : ℕ) → List (Option kept.Window) → List (List CutElement) → List (Option CutStream) → Shaped → Shaped
all_begun memory container [] arrays streams left = left
all_begun memory container (window ∷ windows) arrays streams left =
    all_begun memory (suc container) windows arrays streams
    (begun_with memory container (option_map window_of window) (slice_index_or arrays container []) (slice_index_or streams container None) left)

-- what a container of it begins with
abbrev pub begun_contents : Shaped → (container : ℕ) → Option Window → List CutElement → Option CutStream → Contents
begun_contents memory container (Some window) cuts cut = array (width_at memory container) (map (wrapped_to (width_at memory container)) (map opening_of cuts))
begun_contents memory container None cuts (Some cut) = stream (width_at memory container) []
begun_contents memory container None cuts None = array (width_at memory container) []
