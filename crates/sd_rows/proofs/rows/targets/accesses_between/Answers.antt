use Rattle.std.proofs.Common.{map, ap, sym, ◌∙◌}
use Rattle.sd_num.specs.Wrapped.{wrapped}
use Rattle.sd_range.specs.Affine.{variable_value}
use Rattle.sd_graph.specs.Context.{Context}
use Rattle.sd_row.proofs.instance_lemmas.Links.{each_on_track}
use Rattle.sd_row.proofs.instance_lemmas.Matched.{found_so}
use Rattle.sd_rows.proofs.rows.targets.accesses_between.Goals as goal

pub returns : goal.returns
returns c values context way k within = record {
  reads = each_on_track (context k) k c.args.task.now.ins.now c.in-Some.reads.items c.requires.scalars
      (found_so _ _ c.in-Some.reads c.in-Some.is c.in_ok-reads.ensures.tracks c.args.steps.now values context way k within);
  variables = ap (map (λ variable. wrapped (variable_value (context k).values variable))) (sym c.as_slice.ensures.value)
      ∙ c.in_ok-variables.ensures.values values context way.along (ap (λ (here : Context). here.values) way.first) k;
  targets = found_so _ _ c.in-Some-2.targets c.in-Some-2.is c.in_ok-targets.ensures c.args.steps.now values context c.requires.still way k within;
}
