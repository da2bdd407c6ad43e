use Rattle.std.proofs.Common.{◌≡◌, ◌++◌, map, true, ap, sym, ◌∙◌}
use Rattle.sd_num.specs.Wrapped.{wrapped}
use Rattle.sd_range.specs.Affine.{variable_value}
use Rattle.sd_graph.specs.Context.{Context}
use Rattle.sd_graph.specs.Unfold.{pending_of}
use Rattle.sd_tcode.specs.tcode.Outputs.{output_effects}
use Rattle.sd_scope.specs.even.Even.{is_scalar}
use Rattle.sd_row.proofs.row_lemmas.Filled.{all_first}
use Rattle.sd_row.proofs.instance_lemmas.Matched.{found_so}
use Rattle.sd_row.proofs.instance_lemmas.Links.{each_on_track, no_extents_of_all}
use Rattle.sd_rows.proofs.rows.between.row_between.Goals as goal

pub returns-clause-at : goal.returns-clause-at
returns-clause-at c values context way k within =
    let ins = c.args.task.now.ins.now in
    let outs = c.args.task.now.outs.now in
    record {
      reads = each_on_track (context k) k ins c.in-Some.reads.items (all_first (λ link. is_scalar link.memlet.subset.dims ≡ true) ins outs c.requires.scalars)
          (found_so _ _ c.in-Some.reads c.in-Some.is c.in_ok-reads.ensures.tracks c.args.steps.now values context way k within);
      extents = no_extents_of_all (context k) (ins ++ outs) c.requires.scalars;
      variables = ap (map (λ variable. wrapped (variable_value (context k).values variable))) (sym c.as_slice.ensures.value)
          ∙ c.in_ok-variables.ensures.values values context way.along (ap (λ (here : Context). here.values) way.first) k;
      writes = λ value.
          ap (λ order. map (pending_of (context k) ins outs) (output_effects value order)) (found_so _ _ c.in-Some-2.writes c.in-Some-2.is c.in_ok-writes.ensures.order)
          ∙ found_so _ _ c.in-Some-2.writes c.in-Some-2.is c.in_ok-writes.ensures.at c.args.steps.now values context way k within value;
    }
