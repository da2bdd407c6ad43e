use Rattle.std.proofs.Common.{◌≡◌, Some, length, rules, ◌∙◌}
use Rattle.sd_part.specs.Hulls.{window_for}
use Rattle.sd_part.proofs.HullCovers.{window-length}
use Rattle.sd_part.proofs.marks.numbers_among.Goals as goal

pub numbers_within-requires-clause-shift : goal.numbers_within-requires-clause-shift
numbers_within-requires-clause-shift c =
    let for_it : window_for c.args.boxes.now c.args.one.now.container ≡ Some c.in-Some.window = search rules in
    let same : length c.args.one.now.intervals ≡ length c.intervals.result.now = search rules in
    (window-length (length c.args.one.now.intervals) c.args.one.now.container c.args.boxes.now c.in-Some.window c.requires.even for_it).0 ∙ same

pub numbers_within-requires-clause-extents : goal.numbers_within-requires-clause-extents
numbers_within-requires-clause-extents c =
    let for_it : window_for c.args.boxes.now c.args.one.now.container ≡ Some c.in-Some.window = search rules in
    let same : length c.args.one.now.intervals ≡ length c.intervals.result.now = search rules in
    (window-length (length c.args.one.now.intervals) c.args.one.now.container c.args.boxes.now c.in-Some.window c.requires.even for_it).1 ∙ same
