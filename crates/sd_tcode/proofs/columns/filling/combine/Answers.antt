use Rattle.std.proofs.Common.{◌≡◌, pos, length, slice_index_or, slice_set, Ok, ◌∙◌, w64, to_z, of_z, arith, rules}
use Rattle.std.proofs.lemmas.List.{length-set}
use Rattle.sd_graph.specs.TaskletMeaning as meaning
use Rattle.sd_tcode.proofs.columns_lemmas.Sides.{set_more}
use Rattle.sd_tcode.proofs.columns.filling.combine.Goals as goal

pub loop-i-preserved : goal.loop-i-preserved
loop-i-preserved c =
    let column = c.loop-i.column in
    let i = c.loop-i.i in
    let value = to_z w64 (of_z w64 c.in-Ok.value) in
    let many : length (slice_set column i value) ≡ length column = length-set column i value in
    record {
      many = many ∙ c.loop-i.invariant.many;
      values = set_more (λ n v. meaning.two_values c.args.sign (slice_index_or c.args.left.now n (pos 0)) (slice_index_or c.args.right.now n (pos 0)) ≡ Ok v) column i value (omega (arith, c.requires.to, c.loop-i-test.true, c.loop-i.invariant.many)) (search rules) c.loop-i.invariant.values;
    }
