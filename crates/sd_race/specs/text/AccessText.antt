-- The texts of an access: its mode and container, and what it touches.
use Rattle.std.specs.Prelude.{ℕ, List, [], ◌∷◌, ◌++◌, codes, if◌then◌else◌}
use Rattle.std.specs.List.{flat_map}
use Rattle.sd_subset.specs.boxes.Box.{Box}
use Rattle.sd_subset.specs.declared.boxes.bounds.Bounds.{Bounds}
use Rattle.sd_graph.specs.ContainerParts.{Containers, container_at, is_stream, name_at}
use Rattle.sd_graph.specs.Mode.{Mode, Read, Write, Resolve, Push, Take}
use Rattle.sd_print.specs.graphs.AffineText.{affine_text, end_text}
use Rattle.sd_print.specs.graphs.LinkText.{resolution_word}
use Rattle.sd_prop.specs.propagation.Accesses.{Access}

abbrev pub mode_word : Mode → List ℕ
mode_word Read = codes "read"
mode_word Write = codes "write"
mode_word (Resolve by) = resolution_word by
mode_word Push = codes "push"
mode_word Take = codes "take"

-- a mode and a container, as `read A`
abbrev pub use_text : Containers → Access → List ℕ
use_text containers access = mode_word access.mode ++ (codes " " ++ name_at containers access.container)

module _ (names : List (List ℕ)) (order : List ℕ) where
  -- the bounds of a dimension as a range, whose end is the highest plus one
  abbrev pub bounds_text : Bounds → List ℕ
  bounds_text bounds = affine_text names order bounds.low ++ (codes ":" ++ end_text names order bounds.high)

  -- those of each dimension, joined by commas
  abbrev pub box_text : Box → List ℕ
  box_text [] = []
  box_text (bounds ∷ box) = bounds_text bounds ++ flat_map (λ other. codes ", " ++ bounds_text other) box

module _ (names : List (List ℕ)) (containers : Containers) (order : List ℕ) where
  -- the box of an access in brackets; a stream has none
  abbrev pub touched_text : Access → List ℕ
  touched_text access =
      if is_stream (container_at containers access.container).kind
      then []
      else codes "[" ++ (box_text names order access.box ++ codes "]")
