use Rattle.std.proofs.Common.{length, ap, ◌∙◌, arith}
use Rattle.sd_graph.specs.TreeFold.{graph_tree}
use Rattle.sd_scope.specs.scope.Standing.{context_of}
use Rattle.sd_row.proofs.row_lemmas.Filled.{one_longer}
use Rattle.sd_row.proofs.instance_lemmas.Matched.{found_so}
use Rattle.sd_row.proofs.view_lemmas.Finding.{strides_more}
use Rattle.sd_row.proofs.view.finding.strides_at.Goals as goal

pub loop-dim-preserved : goal.loop-dim-preserved
loop-dim-preserved c =
    let here = context_of (graph_tree c.args.graph.now) c.args.base.now c.args.scope.now in
    record {
      many = one_longer c.loop-dim.strides.items c.push.new.self.items c.in-Some.stride c.loop-dim.dim c.in_ok-push.ensures.items c.loop-dim.invariant.many;
      are = strides_more here c.args.link.now c.args.extents.now c.loop-dim.strides.items c.push.new.self.items c.args.first c.loop-dim.dim c.in-Some.stride c.loop-dim.invariant.many c.in_ok-push.ensures.items
          c.loop-dim.invariant.are (found_so _ c.in_ok-stride.field-0 c.in-Some.stride c.in-Some.is c.in_ok-stride.ensures);
    }
