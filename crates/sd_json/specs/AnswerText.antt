-- The text of arrays.
use Rattle.std.specs.Prelude.{ℕ, ℤ, List, [], ◌∷◌, ◌++◌, codes}
use Rattle.std.specs.List.{flat_map, range_with_len}
use Rattle.std.specs.Fmt.{decimal, signed_decimal}
use Rattle.sd_work.specs.Memory.{elements_of}
use Rattle.sd_graph.specs.PlainTree.{GraphTree}
use Rattle.sd_graph.specs.TreeParts.{containers_of}
use Rattle.sd_graph.specs.InPlace.{arguments_of}
use Rattle.sd_graph.specs.ContainerParts.{name_at, container_at, extents_of}
use Rattle.sd_mem.specs.mem.Shaped.{Shaped, contents_at}

-- the extents, joined by commas
abbrev pub extents_text : List ℕ → List ℕ
extents_text [] = []
extents_text (extent ∷ extents) = decimal extent ++ flat_map (λ other. 44 ∷ decimal other) extents

-- how the line of an array begins, up to its elements: its name, and its extents in brackets
abbrev pub head_of : (name extents : List ℕ) → List ℕ
head_of name extents = name ++ codes "[" ++ extents_text extents ++ codes "] ="

-- each element after a space
abbrev pub elements_text : (elements : List ℤ) → List ℕ
elements_text elements = flat_map (λ element. 32 ∷ signed_decimal element) elements

-- the elements that cells hold, each after a space
abbrev pub cells_text : {Cell : Type 0} → (element : Cell → ℤ) → (cells : List Cell) → List ℕ
cells_text element cells = flat_map (λ cell. 32 ∷ signed_decimal (element cell)) cells

-- the line of an array: its name, its extents in brackets, and each of its elements after a space
abbrev pub line_of : (name extents : List ℕ) → (elements : List ℤ) → List ℕ
line_of name extents elements =
    name ++ codes "[" ++ extents_text extents ++ codes "] =" ++ flat_map (λ element. 32 ∷ signed_decimal element) elements ++ 10 ∷ []

-- how the line of a container begins
abbrev pub container_head : GraphTree → (container : ℕ) → List ℕ
container_head tree container = head_of (name_at (containers_of tree) container) (extents_of (container_at (containers_of tree) container))

-- the line of a container
abbrev pub container_line : GraphTree → Shaped → (container : ℕ) → List ℕ
container_line tree memory container =
    line_of (name_at (containers_of tree) container) (extents_of (container_at (containers_of tree) container)) (elements_of (contents_at memory container))

-- a line for each argument, in the order of the signature
abbrev pub text_of_arrays : GraphTree → Shaped → List ℕ
text_of_arrays tree memory = flat_map (container_line tree memory) (range_with_len 0 (arguments_of tree))
