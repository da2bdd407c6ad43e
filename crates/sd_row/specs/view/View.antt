-- Inputs that are read where they stand.
use Rattle.std.specs.Prelude.{◌≡◌, ℕ, ◌+◌, ◌*◌, ◌<◌, ◌^◌, ℤ, unsigned_abs, List, [], ◌∷◌, ◌++◌, length, map, Some, true, slice_get}
use Rattle.std.specs.List.{AllByRecursion, AllZip}
use Rattle.sd_num.specs.Wrapped.{wrapped}
use Rattle.sd_range.specs.Affine.{variable_value}
use Rattle.sd_range.specs.Subset.{inside, whole}
use Rattle.sd_work.specs.Memory.{Memories, Reference, look}
use Rattle.sd_graph.specs.PlainTree.{TaskletTree}
use Rattle.sd_graph.specs.Context.{Context, link_element, link_extents}
use Rattle.sd_graph.specs.declared.link.Link.{Link}
use Rattle.sd_tcode.specs.op.Machine.{Held}
use Rattle.sd_tcode.specs.columns.Columns.{value_on}
use Rattle.sd_row.specs.row.Row.{reference_on}
use Rattle.sd_row.specs.instance.Known.{IsTarget}
use Rattle.sd_row.specs.declared.view.window.Window.{Window}
use Rattle.sd_row.specs.declared.view.views.Views.{Views}

-- the number of the element at a place, from that of the first one on: so many elements further for each number of the place
abbrev pub along : (first : ℕ) → (strides : List ℕ) → (at : List ℤ) → ℕ
along first strides [] = first
along first [] (number ∷ at) = first
along first (stride ∷ strides) (number ∷ at) = along (first + stride * unsigned_abs number) strides at

-- the element at a place of a window, at a point of a row
abbrev pub reference_in : (k : ℕ) → Window → (at : List ℤ) → Reference
reference_in k window at = record (reference_on window.first k) { element = along (reference_on window.first k).element window.strides.items at }

-- the values that its elements have, in row order
abbrev pub seen_in : (k : ℕ) → Memories → Window → List ℤ
seen_in k memories window = map (λ at. look (reference_in k window at) memories) (whole window.extents.items)

-- a window as the input of code
abbrev pub held_in : (k : ℕ) → Memories → Window → Held
held_in k memories window = record { extents = window.extents.items; cells = seen_in k memories window }

-- extents as those of an output
abbrev pub held_out : List ℕ → Held
held_out extents = record { extents = extents; cells = [] }

-- the connectors of code with these views at a point of a row
abbrev pub connectors_in : (k : ℕ) → Memories → Views → List Held
connectors_in k memories views = map (held_in k memories) views.inputs.items ++ map (λ extents. held_out extents.items) views.outputs.items

-- the number of each element fits 64 bits
abbrev pub IsInWords : (k : ℕ) → Window → Type 0
IsInWords k window = (at : List ℤ) → inside window.extents.items at ≡ true → along (reference_on window.first k).element window.strides.items at < 2 ^ 64

-- an input of views, of which the elements can be told
abbrev pub IsInput : (k : ℕ) → Views → (connector : ℕ) → Type 0
IsInput k views connector = (connector < length views.inputs.items) × AllByRecursion (IsInWords k) views.inputs.items

-- Here a link leads to this window: the element at each of its places is the one at that place of the link's subset.
pub record IsWindow (k : ℕ) (here : Context) (link : Link) (window : Window) : Type 0 where
  pub extents : window.extents.items ≡ link_extents here link
  pub elements : (at : List ℤ) → inside window.extents.items at ≡ true → link_element here link at ≡ Some (reference_in k window at)

-- the views of a tasklet that stands here, where places of effects are looked up in this context
pub record AreViews (tree : TaskletTree) (ins outs : List Link) (k : ℕ) (here standing : Context) (views : Views) : Type 0 where
  pub inputs : AllZip (IsWindow k here) ins views.inputs.items
  pub outputs : map (link_extents here) outs ≡ map (λ extents. extents.items) views.outputs.items
  pub variables : map (λ variable. wrapped (variable_value here.values variable)) tree.variables ≡ map (λ numbers. value_on numbers k) views.variables.items
  pub targets : AllZip (IsTarget k here standing) outs views.targets.items
