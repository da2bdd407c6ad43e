use Rattle.std.proofs.Common.{refl, rules, ◌∙◌, sym}
use Rattle.sd_phrase.proofs.CutLemmas.{depth_step}
use Rattle.sd_phrase.proofs.PartLemmas.{parts_start, parts_pass, mark_pass}
use Rattle.sd_phrase.proofs.parts.mark_of.Goals as goal

pub loop-at-init : goal.loop-at-init
loop-at-init c = record { depth_small = search rules; place = refl; parts = parts_start c.args.mark c.args.tokens.now }

pub loop-at-preserved : goal.loop-at-preserved
loop-at-preserved c = record {
  depth_small = search (rules, depth_step);
  place = c.loop-at.invariant.place ∙ mark_pass _ _ _ _ _ _ _ c.loop-at-test.true refl (sym c.is_mark_outside.ensures ∙ c.if-is_mark_outside.false) c.depth_after-depth.ensures;
  parts = c.loop-at.invariant.parts ∙ parts_pass _ _ _ _ _ _ _ c.loop-at-test.true refl (sym c.is_mark_outside.ensures ∙ c.if-is_mark_outside.false) c.depth_after-depth.ensures;
}
