use Rattle.std.proofs.Common.{get_or}
use Rattle.std.proofs.lemmas.List.{get_or_default}
use Rattle.sd_row.proofs.instance_lemmas.Matched.{found_so}
use Rattle.sd_row.proofs.instance_lemmas.Resting.{zip_next, zip_whole}
use Rattle.sd_rows.specs.consume.Own.{IsSource}
use Rattle.sd_rows.proofs.consume.source.sources_of.Goals as goal

pub loop-track-preserved : goal.loop-track-preserved
loop-track-preserved c =
    zip_next (IsSource c.args.element) c.args.reads.now c.loop-track.sources.items c.push.new.self.items c.loop-track.track-index (get_or c.args.reads.now c.loop-track.track-index _) c.in-Some.source
    c.loop-track-test.true (get_or_default c.args.reads.now c.loop-track.track-index _ _ c.loop-track-test.true) c.loop-track.invariant (found_so _ c.source_of.result c.in-Some.source c.in-Some.is c.source_of.ensures) c.in_ok-push.ensures.items

pub returns : goal.returns
returns c = zip_whole (IsSource c.args.element) c.args.reads.now c.loop-track.sources.items c.loop-track.track-index c.loop-track-test.false c.loop-track.invariant
