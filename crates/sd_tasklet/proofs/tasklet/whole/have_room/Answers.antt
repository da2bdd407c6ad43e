use Rattle.std.proofs.Common.{rules, ◌≤◌, [], length, subst}
use Rattle.std.specs.Prelude.{slice_index_or}
use Rattle.sd_range.specs.Points.{product}
use Rattle.sd_tasklet.proofs.tasklet_lemmas.Members.{below_next}
use Rattle.sd_tasklet.proofs.tasklet.whole.have_room.Goals as goal

pub loop-k-preserved : goal.loop-k-preserved
loop-k-preserved c =
    let room : product c.extents_at.result.now ≤ length c.elements_at.result.now = search rules in
    below_next (λ j. product (slice_index_or c.args.all.now j []) ≤ length (slice_index_or c.args.values.now j [])) c.loop-k.k c.loop-k.invariant
    (subst (λ l. product l ≤ length (slice_index_or c.args.values.now c.loop-k.k [])) c.extents_at.ensures (subst (λ l. product c.extents_at.result.now ≤ length l) c.elements_at.ensures room))
