use Rattle.std.proofs.Common.{ap, sym, ◌∙◌}
use Rattle.sd_graph.specs.Unfold.{target_place}
use Rattle.sd_leaves.proofs.leaves_lemmas.Places.{put_without}
use Rattle.sd_leaves.proofs.leaves.reduction.put_target_place.Goals as goal

pub returns : goal.returns
returns c =
    put_without c.args.at.now c.in-Some.axis c.min-before.result c.min-behind.result c.clear.new.self.items c.extend_from_slice.new.self.items c.extend_from_slice-2.new.self.items
    c.clear.ensures.items c.min-before.ensures c.min-behind.ensures c.in_ok-extend_from_slice.ensures.items c.in_ok-extend_from_slice-2.ensures.items
    ∙ sym (ap (λ axis. target_place axis c.args.at.now) c.in-Some.is)
