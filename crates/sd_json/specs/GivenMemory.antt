-- The memory that a bound graph opens with, where the arrays of its arguments are given.
use Rattle.std.specs.Prelude.{◌≡◌, ℕ, ◌-◌, ◌==◌, ◌&&◌, ◌||◌, List, [], ◌∷◌, map, length, Bool, false, Option, Some, None, Result, Ok, Err, nat_eq, slice_get, if◌then◌else◌}
use Rattle.std.specs.Option.{option_map_or}
use Rattle.std.specs.List.{starts_with}
use Rattle.sd_graph.specs.PlainTree.{GraphTree}
use Rattle.sd_graph.specs.TreeParts.{containers_of}
use Rattle.sd_graph.specs.ContainerParts.{Containers, extents_of}
use Rattle.sd_graph.specs.InPlace.{arguments_of, ArgumentsComeFirst}
use Rattle.sd_mem.specs.mem.Shaped.{Shaped}
use Rattle.sd_mem.specs.mem.GraphContents.{opened_with}
use Rattle.sd_json.specs.declared.array.Array.{Array}
use Rattle.sd_json.specs.declared.error.InputError.{InputError}
use Rattle.sd_json.specs.declared.error.InputError.TheVariants.{WrongShape}

-- the last number is 0
abbrev pub ends_in_zero : (shape : List ℕ) → Bool
ends_in_zero shape = option_map_or (λ last. last == 0) (slice_get shape (length shape - 1)) false

-- a shape fits extents: it is a prefix of them that has all of them or ends in 0
abbrev pub fits : (shape extents : List ℕ) → Bool
fits shape extents = starts_with nat_eq extents shape && ((length shape == length extents) || ends_in_zero shape)

-- the name of the first container whose extents the shape of its array does not fit
abbrev pub wrong_shape : Containers → List Array → Option (List ℕ)
wrong_shape [] arrays = None
wrong_shape (container ∷ containers) [] = None
wrong_shape (container ∷ containers) (array ∷ arrays) = if fits array.shape (extents_of container.1) then wrong_shape containers arrays else Some container.0

-- the memory with these arrays as the first containers, or the first of them that has the wrong shape
abbrev pub memory_given : GraphTree → List Array → Result Shaped InputError
memory_given tree arrays =
    option_map_or (λ name. Err (WrongShape name)) (wrong_shape (containers_of tree) arrays) (Ok (opened_with tree (map (λ array. array.elements) arrays)))

-- there is an array for each argument of the graph, and the arguments are its first containers
pub record HasArguments (tree : GraphTree) (arrays : List Array) : Type 0 where
  pub first : ArgumentsComeFirst (arguments_of tree) (containers_of tree)
  pub each : length arrays ≡ arguments_of tree
