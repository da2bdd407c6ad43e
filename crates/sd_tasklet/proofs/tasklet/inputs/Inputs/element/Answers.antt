use Rattle.std.proofs.Common.{◌≡◌, ◌<◌, ◌^◌, ◌∙◌, ℕ, List, ap, subst, length, [], slice_index_or, rules, arith}
use Rattle.std.proofs.lemmas.Grind.{common_steps}
use Rattle.sd_range.specs.Points.{product}
use Rattle.sd_graph.specs.RowOrder.{row_number}
use Rattle.sd_graph.specs.TaskletMeaning as meaning
use Rattle.sd_graph.proofs.RowNumbers.{row_number_below}
use Rattle.sd_tasklet.specs.tasklet.Given.{given}
use Rattle.sd_tasklet.proofs.tasklet_lemmas.Told.{same_element}
use Rattle.sd_tasklet.proofs.tasklet.inputs.Inputs.element.Goals as goal

below : (c : goal.After-row_number) → c.row_number.result < length c.as_slice-in-Some.result.now
below c =
    let extents = meaning.extents_of_connector (given c.args.self.now) c.args.connector in
    let there : c.args.connector < length c.args.self.now.values = subst (λ l. c.args.connector < length l) c.as_slice.ensures (c.in-Some.ensures.lookup.3.0) in
    let elements : c.in-Some.elements.now ≡ slice_index_or c.args.self.now.values c.args.connector [] = subst (λ l. c.in-Some.elements.now ≡ slice_index_or l c.args.connector []) c.as_slice.ensures (c.in-Some.ensures.lookup.3.1 []) in
    let row : c.row_number.result ≡ row_number extents c.args.at.now = c.row_number.ensures ∙ ap (λ l. row_number l c.args.at.now) c.extents_of.ensures in
    let few = c.requires.whole.elements c.args.connector there in
    let low = row_number_below extents c.args.at.now c.requires.inside in
    let many : length c.as_slice-in-Some.result.now ≡ length (slice_index_or c.args.self.now.values c.args.connector []) = ap length (c.as_slice-in-Some.ensures ∙ elements) in
    omega (arith, row, few, low, many)

pub bounds-as_slice-row_number : goal.bounds-as_slice-row_number
bounds-as_slice-row_number c = below c

pub offset_bounds-as_slice-row_number : goal.offset_bounds-as_slice-row_number
offset_bounds-as_slice-row_number c =
    let low = below c in
    grind (arith, common_steps)

pub returns-in-Some : goal.returns-in-Some
returns-in-Some c = λ meant same.
    let inputs = given c.args.self.now in
    let few_here : product c.extents_of.result.now < 2 ^ 63 = search rules in
    let few : product (meaning.extents_of_connector inputs c.args.connector) < 2 ^ 63 = subst (λ (extents : List ℕ). product extents < 2 ^ 63) c.extents_of.ensures few_here in
    same_element inputs meant same c.args.connector c.args.at.now c.requires.inside few _ (search rules)
