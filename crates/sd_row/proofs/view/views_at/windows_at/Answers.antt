use Rattle.std.proofs.Common.{[], ◌∷◌, sym, subst}
use Rattle.std.specs.List.{AllByRecursion}
use Rattle.sd_graph.specs.TreeFold.{graph_tree}
use Rattle.sd_scope.specs.scope.Standing.{context_of}
use Rattle.sd_row.specs.view.View.{IsWindow, IsInWords}
use Rattle.sd_row.proofs.row_lemmas.Filled.{all_together}
use Rattle.sd_row.proofs.instance_lemmas.Matched.{found_so}
use Rattle.sd_row.proofs.instance_lemmas.Resting.{zip_next, zip_whole}
use Rattle.sd_row.proofs.view.views_at.windows_at.Goals as goal

pub loop-link-preserved : goal.loop-link-preserved
loop-link-preserved c =
    let here = context_of (graph_tree c.args.graph.now) c.args.base.now c.args.scope.now in
    let window = c.in-Some.window in
    record {
      windows = zip_next (IsWindow 0 here) c.args.links.now c.loop-link.windows.items c.push.new.self.items c.loop-link.link-index c.link-item.result window
          c.loop-link-test.true c.link-item.is c.loop-link.invariant.windows (found_so _ c.in_ok-window.field-0 window c.in-Some.is c.in_ok-window.ensures.window) c.in_ok-push.ensures.items;
      words = subst (AllByRecursion (IsInWords 0)) (sym c.in_ok-push.ensures.items)
          (all_together (IsInWords 0) c.loop-link.windows.items (window ∷ []) c.loop-link.invariant.words (found_so _ c.in_ok-window.field-0 window c.in-Some.is c.in_ok-window.ensures.words, tt));
    }

pub returns-clause-windows : goal.returns-clause-windows
returns-clause-windows c =
    zip_whole (IsWindow 0 (context_of (graph_tree c.args.graph.now) c.args.base.now c.args.scope.now)) c.args.links.now c.loop-link.windows.items c.loop-link.link-index c.loop-link-test.false c.loop-link.invariant.windows
