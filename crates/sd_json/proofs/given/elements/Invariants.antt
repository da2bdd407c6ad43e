use Rattle.std.proofs.Common.{◌≡◌, ◌++◌, map}
use Rattle.std.specs.Vec.Iter.{into_iter_items}
use Rattle.sd_json.proofs.given.elements.Given as goal

-- those moved, and those left
abbrev pub invariant-loop-array : goal.invariant-loop-array
invariant-loop-array l = l.lists.items ++ map (λ array. array.elements) (into_iter_items l.array-iterator) ≡ map (λ array. array.elements) l.fn.arrays
