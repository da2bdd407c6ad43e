use Rattle.std.proofs.Common.{sym, ap, ◌∙◌, option_map}
use Rattle.sd_graph.specs.TreeFold.{graph_tree}
use Rattle.sd_mem.specs.machine.Stack.{reference_of}
use Rattle.sd_scope.specs.scope.Standing.{context_of}
use Rattle.sd_row.proofs.view_lemmas.Windows.{leads_to}
use Rattle.sd_row.proofs.view.finding.element_at.Goals as goal

pub returns-in-Some : goal.returns-in-Some
returns-in-Some c =
    leads_to (context_of (graph_tree c.args.graph.now) c.args.base.now c.args.scope.now) c.args.link.now c.args.at.now c.in-Some.cell
    (sym (ap (option_map reference_of) c.in-Some.is) ∙ c.in_ok-cell.ensures)
