-- Different indices of a container are different elements.
use Rattle.std.proofs.Common.{◌≡◌, ℕ, ℤ, List, Bool, true, false, IsTrue, Option, Some, None, if◌then◌else◌, refl, sym, ◌∙◌}
use Rattle.sd_range.specs.Subset.{inside}
use Rattle.sd_graph.specs.RowOrder.{row_number}
use Rattle.sd_graph.specs.ContainerParts.{Containers, container_at, extents_of}
use Rattle.sd_graph.specs.Context.{found, own_reach}
use Rattle.sd_graph.proofs.RowNumbers.{row_number_is_one}
use Rattle.sd_safe.specs.safe.Reached.{FindsOnce}

-- what is found under a test passed it
pub found-where : {A : Type 0} (test : Bool) (answer : Option A) (found : A) → (if test then answer else None) ≡ Some found → IsTrue test × (answer ≡ Some found)
found-where true answer found is = (refl, is)
found-where false answer found is = cc

-- a container's elements are found once
found-once : (containers : Containers) (container : ℕ) (index other : List ℤ) (element : ℕ) →
    found (container_at containers container) index ≡ Some element → found (container_at containers container) other ≡ Some element → index ≡ other
found-once containers container index other element is is' =
    let extents = extents_of (container_at containers container) in
    let here = found-where (inside extents index) (Some (row_number extents index)) element is in
    let there = found-where (inside extents other) (Some (row_number extents other)) element is' in
    row_number_is_one extents index other here.0 there.0 (let first : Some (row_number extents index) ≡ Some (row_number extents other) = here.1 ∙ sym there.1 in cc)

pub finds_once-own : (containers : Containers) (number : ℕ) → FindsOnce (own_reach containers number)
finds_once-own containers number = found-once containers number
