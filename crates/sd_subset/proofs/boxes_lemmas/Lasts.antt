-- The last end of a range, and parameters replaced from the last one on.
use Rattle.std.proofs.Common.{◌≡◌, suc, ◌-◌, List, [], ◌∷◌, ◌++◌, length, Some, slice_get, arith, refl, ap, ◌∙◌}
use Rattle.sd_range.specs.declared.affine.Affine.{Affine}
use Rattle.sd_subset.specs.boxes.Box.{Parameter, last_of, with_least, with_greatest, least, greatest}

-- the last end is the one at the last place
pub last_of-get : (before : Affine) (ends : List Affine) (end : Affine) → Some end ≡ slice_get ends (length ends - 1) → last_of before ends ≡ end
last_of-get before [] end is = cc
last_of-get before (first ∷ []) end is = cc
last_of-get before (first ∷ next ∷ rest) end is =
    let place : length (first ∷ next ∷ rest) - 1 ≡ suc (length (next ∷ rest) - 1) = omega arith in
    last_of-get first (next ∷ rest) end (is ∙ ap (slice_get (first ∷ next ∷ rest)) place)

-- the innermost parameter is replaced first
pub least-last : (outer : List Parameter) (parameter : Parameter) (a : Affine) → least (outer ++ parameter ∷ []) a ≡ least outer (with_least parameter a)
least-last [] parameter a = refl
least-last (first ∷ outer) parameter a = ap (with_least first) (least-last outer parameter a)

pub greatest-last : (outer : List Parameter) (parameter : Parameter) (a : Affine) → greatest (outer ++ parameter ∷ []) a ≡ greatest outer (with_greatest parameter a)
greatest-last [] parameter a = refl
greatest-last (first ∷ outer) parameter a = ap (with_greatest first) (greatest-last outer parameter a)
