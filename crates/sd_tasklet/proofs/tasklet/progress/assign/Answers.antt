use Rattle.std.proofs.Common.{rules, ◌∙◌, ap, FitsSigned, arith}
use Rattle.std.specs.Int.{w64}
use Rattle.std.proofs.lemmas.Int.{to_z-of_z}
use Rattle.sd_graph.specs.TreeFold.{value_tree, value_trees}
use Rattle.sd_graph.specs.TaskletMeaning as meaning
use Rattle.sd_tasklet.specs.tasklet.Given.{given}
use Rattle.sd_tasklet.specs.tasklet.Kept.{filled}
use Rattle.sd_tasklet.proofs.tasklet_lemmas.Places.{inside_count}
use Rattle.sd_tasklet.proofs.tasklet_lemmas.KeptLemmas.{told_as_meant, behind_filled}
use Rattle.sd_tasklet.proofs.tasklet.progress.assign.Goals as goal

pub filled-requires : goal.filled-requires
filled-requires c =
    let few = c.requires.dimensions c.args.connector in
    let many = inside_count (meaning.extents_of_connector (given c.args.inputs.now) c.args.connector) c.in_ok-place.place c.in_ok-place.ensures.inside in
    rw c.as_slice.ensures (omega (arith, few, many))

pub returns-clause-meaning : goal.returns-clause-meaning
returns-clause-meaning c = λ meant same.
    let fits : FitsSigned w64 c.in_ok-value.value = search rules in
    rw (to_z-of_z w64 c.in_ok-value.value fits)
    (told_as_meant (given c.args.inputs.now) meant c.args.locals.now c.args.connector (value_trees c.args.at.now) (value_tree c.args.value.now) c.in_ok-place.place c.in_ok-value.value c.filled.result
    (c.in_ok-place.ensures.place meant same) c.in_ok-place.ensures.inside (c.in_ok-value.ensures meant same) (c.filled.ensures ∙ ap filled c.as_slice.ensures))

pub returns-clause-filled : goal.returns-clause-filled
returns-clause-filled c =
    rw (c.filled.ensures ∙ ap filled c.as_slice.ensures)
    (behind_filled (meaning.extents_of_connector (given c.args.inputs.now) c.args.connector) c.in_ok-place.place c.in_ok-place.ensures.inside)
