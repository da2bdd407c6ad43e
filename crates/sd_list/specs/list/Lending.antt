-- What a sequence ends as, where its items are lent to be changed.
use Rattle.std.specs.Prelude.{List, ◌++◌, length, take, drop}
use Rattle.std.specs.Borrow.{Lends, Fml, RattleType, MutBor, Array}
use Rattle.sd_list.specs.contracts.list.sequence.Sequence.{the_row}

-- the items that were left, as many as there were
abbrev pub refilled : {T : Type 0} → List T → (left : List T) → List T
refilled items left = take (length items) (left ++ drop (length left) items)

-- once the loan ends, the items of the sequence are those that were left in their places
abbrev pub LendsItems : (T : RattleType) → (sequence : MutBor (List T.Denot)) → (items : MutBor (List T.Denot)) → Fml
LendsItems T sequence items = Lends (the_row T) (Array T 0) sequence items (refilled sequence.now)
