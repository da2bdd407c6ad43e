-- The extents and the elements of a connector in a list of arrays.
use Rattle.std.proofs.Common.{◌≡◌, ℕ, zero, suc, ◌<◌, List, [], ◌∷◌, length, map, get_or, ℤ, Bool, true, false, Ok, Err, if◌then◌else◌, refl, arith}
use Rattle.sd_range.specs.Subset.{inside}
use Rattle.sd_graph.specs.TaskletMeaning.{checked}
use Rattle.sd_work.specs.declared.fault.FaultKind.TheVariants.{Subscript}
use Rattle.sd_tcode.specs.op.Machine.{held, extents_at, cells_at}
use Rattle.sd_tcode.specs.declared.op.array.Array.{Array}

pub extents_got : (arrays : List Array) (i : ℕ) (d : Array) → i < length arrays → (get_or arrays i d).extents.items ≡ extents_at (map held arrays) i
extents_got [] i d h = absurd (omega arith)
extents_got (array ∷ arrays) zero d h = refl
extents_got (array ∷ arrays) (suc i) d h = extents_got arrays i d (omega arith)

pub cells_got : (arrays : List Array) (i : ℕ) (d : Array) → i < length arrays → (get_or arrays i d).cells.items ≡ cells_at (map held arrays) i
cells_got [] i d h = absurd (omega arith)
cells_got (array ∷ arrays) zero d h = refl
cells_got (array ∷ arrays) (suc i) d h = cells_got arrays i d (omega arith)

-- an index that was checked is inside
pub was_inside : (extents : List ℕ) (at : List ℤ) → checked extents at ≡ Ok at → inside extents at ≡ true
was_inside extents at e = by_test (inside extents at) e
  where
    by_test : (b : Bool) → (if b then Ok at else Err Subscript) ≡ Ok at → b ≡ true
    by_test true e = refl
    by_test false e = cc
