use Rattle.std.proofs.Common.{map, ap, sym, ◌∙◌}
use Rattle.sd_num.specs.Wrapped.{wrapped}
use Rattle.sd_range.specs.Affine.{variable_value}
use Rattle.sd_graph.specs.TreeFold.{graph_tree}
use Rattle.sd_scope.specs.scope.Standing.{context_of}
use Rattle.sd_row.proofs.instance_lemmas.Links.{each_on_track}
use Rattle.sd_row.proofs.instance_lemmas.Matched.{found_so}
use Rattle.sd_row.proofs.instance.accesses.Accesses.at.Goals as goal

pub returns : goal.returns
returns c =
    let context = context_of (graph_tree c.args.graph.now) c.args.base.now c.args.scope.now in
    record {
      reads = each_on_track context 0 c.args.ins.now c.in-Some.reads.items c.requires.scalars (found_so _ c.in_ok-reads.field-0 c.in-Some.reads c.in-Some.is c.in_ok-reads.ensures);
      variables = ap (map (λ variable. wrapped (variable_value context.values variable))) (sym c.as_slice.ensures.value) ∙ c.in_ok-variables.ensures;
      targets = c.in_ok-targets.ensures;
    }
