use Rattle.std.proofs.Common.{◌≡◌, true, false, ap, ◌∙◌, rules}
use Rattle.sd_range.specs.Subset.{inside}
use Rattle.sd_graph.specs.TaskletMeaning as meaning
use Rattle.sd_graph.specs.TreeFold.{value_trees}
use Rattle.sd_tasklet.specs.tasklet.Given.{given}
use Rattle.sd_tasklet.proofs.tasklet_lemmas.Told.{connector_told, place_outside, place_inside}
use Rattle.sd_tasklet.proofs.tasklet.value.+values.Goals as goal

pub place_of-returns-then-not-is_inside-clause-place : goal.place_of-returns-then-not-is_inside-clause-place
place_of-returns-then-not-is_inside-clause-place t c = λ meant same.
    let off : c.is_inside.result ≡ false = search rules in
    place_outside meant c.args.connector (meaning.values_of meant c.args.locals.now (value_trees c.args.at.now)) c.in_ok-subscripts.subscripts c.is_inside.result (c.in_ok-subscripts.ensures meant same)
    ((c.is_inside.ensures.meant (meaning.extents_of_connector meant c.args.connector) (connector_told (given c.args.inputs.now) meant same c.args.connector c.extents_of.result.now c.extents_of.ensures))
    ∙ ap (inside (meaning.extents_of_connector meant c.args.connector)) c.as_slice.ensures) off

pub place_of-returns-clause-place : goal.place_of-returns-clause-place
place_of-returns-clause-place t c = λ meant same.
    let on : c.is_inside.result ≡ true = search rules in
    place_inside meant c.args.connector (meaning.values_of meant c.args.locals.now (value_trees c.args.at.now)) c.in_ok-subscripts.subscripts c.is_inside.result (c.in_ok-subscripts.ensures meant same)
    (c.is_inside.ensures.meant (meaning.extents_of_connector meant c.args.connector) (connector_told (given c.args.inputs.now) meant same c.args.connector c.extents_of.result.now c.extents_of.ensures)
    ∙ ap (inside (meaning.extents_of_connector meant c.args.connector)) c.as_slice.ensures) on
