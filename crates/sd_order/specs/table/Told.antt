-- What a table of items tells.
use Rattle.std.specs.Prelude.{ℕ, ◌+◌, ◌*◌, nat_lt, Bool, false, if◌then◌else◌, ◌&&◌, slice_index_or}
use Rattle.sd_order.specs.declared.table.order.Order.{Order}

-- an item is before a later one where the later one's row says so
abbrev pub told : Order → (from to : ℕ) → Bool
told order from to = if nat_lt from to && nat_lt to order.count then slice_index_or order.table.items (to * order.count + from) false else false
