-- What is left in a sequence whose items were lent.
use Rattle.std.proofs.Common.{◌≡◌, ◌++◌, List, length, take, drop, ap, sym, ◌∙◌}
use Rattle.std.proofs.Math.Seq.{take-append_seam}
use Rattle.sd_list.specs.list.Lending.{refilled}

-- where as many items are left as there were, they are the items
pub refilled_is : {T : Type 0} (items left : List T) → length left ≡ length items → refilled items left ≡ left
refilled_is items left as_many =
    ap (λ count. take count (left ++ drop (length left) items)) (sym as_many) ∙ take-append_seam left (drop (length left) items)
