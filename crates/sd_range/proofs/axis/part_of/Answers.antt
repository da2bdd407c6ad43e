use Rattle.std.proofs.Common.{rules, FitsSigned}
use Rattle.std.specs.Int.{w128}
use Rattle.std.proofs.lemmas.Int.{to_z-of_z}
use Rattle.sd_range.proofs.Parts.{part_within, part_is}
use Rattle.sd_range.proofs.axis.part_of.Goals as goal

pub number_at-requires-2-clause-within : goal.number_at-requires-2-clause-within
number_at-requires-2-clause-within c =
    let axis = c.args.axis.now in
    let last_fits : FitsSigned w128 axis.last = search rules in
    let step_fits : FitsSigned w128 axis.step = search rules in
    let begin_fits : FitsSigned w128 c.number_at.result = search rules in
    simp to_z-of_z
    (part_within axis.first axis.last axis.step c.number_at.result c.args.first c.args.count c.requires.rises c.requires.within c.if-count-eq0.false c.number_at.ensures)

pub returns-clause-values : goal.returns-clause-values
returns-clause-values c =
    let axis = c.args.axis.now in
    let last_fits : FitsSigned w128 axis.last = search rules in
    let step_fits : FitsSigned w128 axis.step = search rules in
    let begin_fits : FitsSigned w128 c.number_at.result = search rules in
    let end_fits : FitsSigned w128 c.number_at-2.result = search rules in
    let ends = simp to_z-of_z at c.number_at-2.ensures in
    simp to_z-of_z
    (part_is axis.first axis.last axis.step c.number_at.result c.number_at-2.result c.args.first c.args.count c.requires.rises c.requires.within c.if-count-eq0.false c.number_at.ensures ends)
