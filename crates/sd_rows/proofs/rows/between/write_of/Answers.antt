use Rattle.std.proofs.Common.{◌≡◌, ◌≤◌, ◌-◌, ℕ, Some, false, length, slice_get, ap, sym, ◌∙◌, rules}
use Rattle.sd_graph.specs.ContainerParts.{container_at, is_stream}
use Rattle.sd_leaves.proofs.leaves_lemmas.Lists.{member_there}
use Rattle.sd_row.proofs.instance_lemmas.Matched.{found_so}
use Rattle.sd_rows.proofs.rows_lemmas.Tracks.{output_through, containers_along}
use Rattle.sd_row.specs.row.Row.{reference_on}
use Rattle.sd_rows.proofs.rows.between.write_of.Goals as goal

pub returns-in-Some-2-clause-at : goal.returns-in-Some-2-clause-at
returns-in-Some-2-clause-at c steps values context way k within value =
    let ins = c.args.task.now.ins.now in
    let outs = c.args.task.now.outs.now in
    let link = c.in-Some-get.link.now in
    let connector = c.args.connector in
    let number : ℕ = connector - length ins in
    let output : length ins ≤ connector = search rules in
    let same : c.in-Some.output ≡ number = search rules in
    let there : slice_get outs number ≡ Some link = ap (slice_get outs) (sym same) ∙ member_there outs c.in-Some.output link c.in-Some-get.ensures.lookup.3.0 (c.in-Some-get.ensures.lookup.3.1 link) in
    let arrays : is_stream (container_at (context k).containers link.memlet.container).kind ≡ false =
    ap (λ containers. is_stream (container_at containers link.memlet.container).kind) (containers_along steps c.args.gaps _ _ values context way k) ∙ sym c.is_stream.ensures ∙ c.if-is_stream.false in
    output_through (context k) ins outs connector link (value connector) (reference_on c.in-Some-2.to k) output there arrays
    (found_so _ c.in_ok-to.field-0 c.in-Some-2.to c.in-Some-2.is c.in_ok-to.ensures steps values context way k within)
