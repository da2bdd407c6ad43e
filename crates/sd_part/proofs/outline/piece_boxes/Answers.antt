use Rattle.std.proofs.Common.{◌≡◌, map, rules, sym, subst}
use Rattle.sd_graph.specs.TreeFold.{named_container}
use Rattle.sd_part.specs.Boxes.{number_box}
use Rattle.sd_part.specs.Hulls.{AreEven}
use Rattle.sd_part.specs.Outline.{piece_accesses}
use Rattle.sd_part.proofs.MarkedBoxes.{boxes-even}
use Rattle.sd_part.proofs.outline.piece_boxes.Goals as goal

pub returns-clause-even : goal.returns-clause-even
returns-clause-even c =
    let accesses = piece_accesses c.args.values.now c.args.first c.args.count c.args.outline.now in
    let containers = map named_container c.args.containers.now.entries in
    let boxes : c.in_ok-boxes.boxes.items ≡ map (number_box containers c.args.values.now) accesses = search rules in
    subst AreEven (sym boxes) (boxes-even containers c.args.values.now accesses)
