use Rattle.std.proofs.Common.{◌≡◌, length, ◌∙◌, arith, rules}
use Rattle.sd_graph.specs.TaskletMeaning.{extents_of_connector}
use Rattle.sd_row.proofs.instance_lemmas.Placed.{not_one, one_place}
use Rattle.sd_row.proofs.instance.performing.place_below.Goals as goal

pub returns-then-dimensions-ne1 : goal.returns-then-dimensions-ne1
returns-then-dimensions-ne1 c inputs dimensions =
    let four : length c.args.effect.now.at ≡ 4 = search rules in
    not_one c.args.count (length (extents_of_connector inputs c.args.effect.now.connector)) c.args.effect.now.at (λ one. omega (arith, c.if-dimensions-ne1.true, dimensions, one)) (omega (arith, four))

pub returns : goal.returns
returns c inputs dimensions =
    let four : length c.args.effect.now.at ≡ 4 = search rules in
    c.number_below.ensures
    ∙ one_place c.args.count (length (extents_of_connector inputs c.args.effect.now.connector)) c.args.effect.now.at _ (omega (arith, c.if-dimensions-ne1.false, dimensions)) (omega (arith, four))
