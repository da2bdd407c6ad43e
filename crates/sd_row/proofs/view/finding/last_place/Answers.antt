use Rattle.std.proofs.Common.{◌≡◌, ◌+◌, sym, pos, get_or, ◌∙◌, ap, arith, rules, to_z, of_z}
use Rattle.std.specs.Int.{w128}
use Rattle.std.proofs.lemmas.Int.{ints, to_z-of_z}
use Rattle.std.proofs.lemmas.List.{get_or_default}
use Rattle.sd_row.specs.view.Places.{IsLast}
use Rattle.sd_row.proofs.instance_lemmas.Resting.{zip_next, zip_whole}
use Rattle.sd_row.proofs.view_lemmas.Finding.{is_last}
use Rattle.sd_row.proofs.view.finding.last_place.Goals as goal

pub loop-extent-preserved : goal.loop-extent-preserved
loop-extent-preserved c =
    let extents = c.args.extents.now in
    let number = c.loop-extent.extent-index in
    let last = c.in-Some.last in
    let value : to_z w128 (of_z w128 c.from.result) ≡ pos last = to_z-of_z w128 c.from.result (record { sfits = c.from.type_inv }) ∙ c.from.ensures in
    let more : get_or extents number 0 ≡ last + 1 = search rules in
    zip_next IsLast extents c.loop-extent.at.items c.push.new.self.items number (get_or extents number 0) _ c.loop-extent-test.true (get_or_default extents number _ _ c.loop-extent-test.true)
    c.loop-extent.invariant (is_last (get_or extents number 0) last _ (sym more) value) c.in_ok-push.ensures.items

pub returns : goal.returns
returns c = zip_whole IsLast c.args.extents.now c.loop-extent.at.items c.loop-extent.extent-index c.loop-extent-test.false c.loop-extent.invariant
