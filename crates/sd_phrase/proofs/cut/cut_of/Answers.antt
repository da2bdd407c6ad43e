use Rattle.std.proofs.Common.{refl, rules, ◌∙◌}
use Rattle.sd_phrase.proofs.CutLemmas.{depth_step, outside_below, cut_step}
use Rattle.sd_phrase.proofs.cut.cut_of.Goals as goal

pub loop-at-preserved : goal.loop-at-preserved
loop-at-preserved c = record {
  depth_small = search (rules, depth_step);
  inside = rw c.better_outside-best.ensures (outside_below c.loop-at.depth c.loop-at.best c.loop-at.at c.sign_of.result c.loop-at.invariant.inside);
  place = cut_step _ _ _ c.loop-at.best _ _ _ _ _ _ _ c.loop-at-test.true refl c.sign_of.ensures c.better_outside-best.ensures c.depth_after-depth.ensures c.ends-after.ensures ∙ c.loop-at.invariant.place;
}
