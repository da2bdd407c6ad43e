-- Names that are declared later than some containers.
use Rattle.std.specs.Prelude.{◌≡◌, List, ◌++◌, true, false, bytes_eq}
use Rattle.std.specs.List.{AllByRecursion, IsDistinct, list_any}
use Rattle.sd_graph.specs.TreeParts.{has_name}
use Rattle.sd_program.specs.Names.{Name}
use Rattle.sd_task.specs.containers.Declarations.{Containers}

-- names of the program that are all different, of which no container so far has one
pub record AreToCome (declared : List Name) (containers : Containers) (names : List Name) : Type 0 where
  pub different : IsDistinct bytes_eq names
  pub declared_too : AllByRecursion (λ name. list_any (bytes_eq name) declared ≡ true) names
  pub new : AllByRecursion (λ name. has_name containers name ≡ false) names

-- where these names and those that come later are to come, the containers behind are those made, and the later names are still to come
abbrev pub Declares : (declared : List Name) → (before : Containers) → (names : List Name) → (made : Containers) → (after : Containers) → Type 0
Declares declared before names made after = (later : List Name) → AreToCome declared before (names ++ later) → (after ≡ made) × AreToCome declared after later
