-- Memories of graphs, and the sizes of what is held.
use Rattle.std.proofs.Common.{◌≡◌, ℕ, ℤ, ◌<◌, ◌^◌, ◌++◌, List, [], ◌∷◌, length, map, Some, sym, subst, arith}
use Rattle.sd_work.specs.Memory.{Contents, array, stream, elements_of}
use Rattle.sd_mem.specs.mem.Shaped.{place_in, IsWhole}
use Rattle.sd_mem.proofs.mem_lemmas.Places.{place-below}
use Rattle.std.specs.List.{AllByRecursion}
use Rattle.sd_range.specs.Points.{product}
use Rattle.sd_mem.specs.mem.Holding.{shape_held, IsSized}
use Rattle.sd_mem.specs.declared.mem.holding.Holding.{Holding}

-- extents of few elements
abbrev pub AreFew : List (List ℕ) → Type 0
AreFew shapes = AllByRecursion (λ shape. product shape < 2 ^ 64) shapes

few : (holdings : List Holding) → AllByRecursion IsSized holdings → AreFew (map shape_held holdings)
few [] sized = tt
few (holding ∷ holdings) sized = (sized.0, few holdings sized.1)

sized_of : (holdings : List Holding) → AreFew (map shape_held holdings) → AllByRecursion IsSized holdings
sized_of [] sized = tt
sized_of (holding ∷ holdings) sized = (sized.0, sized_of holdings sized.1)

-- where the extents are the same the sizes are
pub sized_as : (holdings others : List Holding) → map shape_held others ≡ map shape_held holdings → AllByRecursion IsSized holdings → AllByRecursion IsSized others
sized_as holdings others same sized = sized_of others (subst AreFew (sym same) (few holdings sized))

-- one more
pub sized_more : (holdings : List Holding) (holding : Holding) → AllByRecursion IsSized holdings → IsSized holding → AllByRecursion IsSized (holdings ++ holding ∷ [])
sized_more [] holding sized last = (last, tt)
sized_more (first ∷ holdings) holding sized last = (sized.0, sized_more holdings holding sized.1 last)

-- the place of an index of an array that is here is below the number of its elements
pub place_is_here : (shape : List ℕ) (contents : Contents) (index : List ℤ) (place : ℕ) → IsWhole shape contents → Some place ≡ place_in shape index → place < length (elements_of contents)
place_is_here shape (array width elements) index place whole is = omega (arith, whole, place-below shape index place is)
place_is_here shape (stream width values) index place whole is = absurd whole
