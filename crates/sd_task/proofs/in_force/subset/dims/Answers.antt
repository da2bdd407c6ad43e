use Rattle.std.proofs.Common.{inl, inr}
use Rattle.sd_task.proofs.in_force_lemmas.SubsetLemmas.{no_slot_left, no_extent_left, all_made}
use Rattle.sd_task.proofs.in_force.subset.dims.Goals as goal

pub returns : goal.returns
returns c =
    elim c.in-None.ensures.steps [
      | inl slots ↦ all_made _ _ _ c.loop-slot.invariant.made (no_slot_left c.args.variables.now _ _ slots.1.0)
      | inr extents ↦ all_made _ _ _ c.loop-slot.invariant.made (no_extent_left c.args.variables.now _ _ extents.1.0)
    ]
