use Rattle.std.proofs.Common.{rules, ◌≡◌, ℕ, ◌<◌, length, Some, None, slice_index_or, refl}
use Rattle.sd_order.proofs.items_lemmas.Putting.{resized, put-there}
use Rattle.sd_order.proofs.items.reached.put.Goals as goal
use Rattle.sd_order.proofs.items.reached.put.Goals.{then-index-len+in_ok-resize, else-index-len}

pub returns : goal.returns
returns c =
    let within : c.args.container < length c.if-index-len.modes.items = search rules in
    let same : (other : ℕ) → slice_index_or c.if-index-len.modes.items other None ≡ slice_index_or c.args.modes.now.items other None =
    λ other. elim c.if-index-len.branch [
      | then-index-len+in_ok-resize w ↦ rw (w.modes-is, w.in_ok-resize.ensures.items) (resized c.args.container c.args.modes.now.len other c.args.modes.now.items (search rules) (search rules))
      | else-index-len w ↦ rw w.modes-is refl
    ] in
    put-there c.args.modes.now.items c.if-index-len.modes.items c.args.container (Some c.args.mode) within same
