-- Elements of arrays that were cut: which have to be as they were, and what comes of what is left of them.
use Rattle.std.specs.Prelude.{◌≡◌, ℕ, suc, ◌<◌, ℤ, List, [], ◌∷◌, ◌++◌, length, Option, Some, None, option_and_then, slice_get, slice_index_or, map, ⊤}
use Rattle.sd_range.specs.Subset.{elements}
use Rattle.sd_work.specs.Memory.{Reference, look, elements_of}
use Rattle.sd_work.specs.Change.{Change, nothing, write}
use Rattle.sd_pieces.specs.cut.Naming.{Naming}
use Rattle.sd_pieces.specs.cut.Merged.{Mark, untouched, kept, gathered, unused, Marking}
use Rattle.sd_mem.specs.mem.Shaped.{Shaped, alone, changed, contents_at, shape_at, width_at, place_in, element}
use Rattle.sd_windows.specs.Windows.{Window}
use Rattle.sd_cut.specs.declared.elements.CutElement.{CutElement}
use Rattle.sd_cut.specs.declared.elements.ElementMark.{ElementMark}
use Rattle.sd_cut.specs.declared.elements.ElementMark.TheVariants.{Untouched, Kept, Replaced, Gathered}
use Rattle.sd_cut.specs.Cells.{subset_within, value_at}

-- ---- what is cut

-- where an element was found, and its value then
abbrev pub told : CutElement → Option ℕ × ℤ
told cut = (Some cut.place, cut.opening)

-- those of the element at an index of an array
abbrev pub told_at : Shaped → (container : ℕ) → (index : List ℤ) → Option ℕ × ℤ
told_at memory container index = (place_in (shape_at memory container) index, value_at memory container index)

-- nothing has touched an element since
abbrev pub IsUntouched : CutElement → Type 0
IsUntouched cut = cut.mark ≡ Untouched

-- elements that were cut are those of an array in its window, in row order, as they are in a memory; without a window there are none
abbrev pub AreOfWindow : Shaped → (container : ℕ) → Option Window → List CutElement → Type 0
AreOfWindow memory container None cuts = cuts ≡ []
AreOfWindow memory container (Some window) cuts = map told cuts ≡ map (told_at memory container) (elements (subset_within window.shift window.extents) [])

-- so they are for each container
abbrev pub AreOfWindows : Shaped → (windows : ℕ → Option Window) → List (List CutElement) → Type 0
AreOfWindows memory windows arrays = (container : ℕ) → AreOfWindow memory container (windows container) (slice_index_or arrays container [])

-- a window has as many shifts as extents
abbrev pub IsEven : Option Window → Type 0
IsEven None = ⊤
IsEven (Some window) = length window.shift ≡ length window.extents

-- ---- what has to be as it was

-- what is asked where an element is kept
abbrev pub IfKept : ElementMark → Type 0 → Type 0
IfKept Untouched asked = ⊤
IfKept Kept asked = asked
IfKept Replaced asked = ⊤
IfKept (Gathered by) asked = ⊤

-- a kept element is among an array's elements as it was
abbrev pub IsAsCut : (elements : List ℤ) → CutElement → Type 0
IsAsCut elements cut = IfKept cut.mark (slice_get elements cut.place ≡ Some cut.opening)

-- and so is each of these
abbrev pub AreAsCut : (elements : List ℤ) → List CutElement → Type 0
AreAsCut elements [] = ⊤
AreAsCut elements (cut ∷ cuts) = IsAsCut elements cut × AreAsCut elements cuts

-- and each of each array, which are numbered from this one on
abbrev pub AreAllAsCut : Shaped → (container : ℕ) → List (List CutElement) → Type 0
AreAllAsCut memory container [] = ⊤
AreAllAsCut memory container (cuts ∷ arrays) = AreAsCut (elements_of (contents_at memory container)) cuts × AreAllAsCut memory (suc container) arrays

-- ---- what comes of what is left

-- what is left of a kept or replaced element replaces it, of a gathered one is resolved with it
abbrev pub effect_of : ElementMark → Reference → (left : ℤ) → Change
effect_of Untouched to left = nothing
effect_of Kept to left = write to None left
effect_of Replaced to left = write to None left
effect_of (Gathered by) to left = write to (Some by) left

-- the effects of an array's elements, in order; what is left of them is in a memory of the cut, by their numbers from this one on
abbrev pub effects_from : (container number : ℕ) → (left : Shaped) → List CutElement → List Change
effects_from container number left [] = []
effects_from container number left (cut ∷ cuts) =
    effect_of cut.mark (element container cut.place) (look (element container number) (alone left)) ∷ effects_from container (suc number) left cuts

-- and those of each array, which are numbered from this one on
abbrev pub all_effects : (container : ℕ) → (left : Shaped) → List (List CutElement) → List Change
all_effects container left [] = []
all_effects container left (cuts ∷ arrays) = effects_from container 0 left cuts ++ all_effects (suc container) left arrays

-- a memory after changes, the first one first
abbrev pub all_changed : List Change → Shaped → Shaped
all_changed [] memory = memory
all_changed (change ∷ changes) memory = all_changed changes (changed change memory)

-- ---- how they are marked, by their numbers

-- the element of a number in a container
abbrev pub cut_at : List (List CutElement) → (container number : ℕ) → Option CutElement
cut_at arrays container number = slice_get (slice_index_or arrays container []) number

-- an element with another mark
abbrev pub marked : ElementMark → CutElement → CutElement
marked mark cut = record cut { mark = mark }

-- each has this number of its place
abbrev pub AreNumbered : Naming → List (List CutElement) → Type 0
AreNumbered naming arrays = (container number : ℕ) (cut : CutElement) → cut_at arrays container number ≡ Some cut → naming container cut.place ≡ Some number

abbrev pub mark_of : ElementMark → Mark
mark_of Untouched = untouched
mark_of Kept = kept
mark_of Replaced = kept
mark_of (Gathered by) = gathered by

-- the mark of an element that was cut, if it was
abbrev pub mark_if : Option CutElement → Mark
mark_if None = untouched
mark_if (Some cut) = mark_of cut.mark

-- each element by its number; streams are unused
abbrev pub marking_of : Naming → List (List CutElement) → Marking
marking_of naming arrays = record { element = λ container element. mark_if (option_and_then (cut_at arrays container) (naming container element)); stream = λ container. unused }

-- each stands in a container of a memory, and in one of that width by its number in a memory of the cut
abbrev pub AreFound : List (List CutElement) → (left memory : Shaped) → Type 0
AreFound arrays left memory =
    (container number : ℕ) (cut : CutElement) → cut_at arrays container number ≡ Some cut
    → (cut.place < length (elements_of (contents_at memory container))) × (number < length (elements_of (contents_at left container))) × (width_at left container ≡ width_at memory container)
