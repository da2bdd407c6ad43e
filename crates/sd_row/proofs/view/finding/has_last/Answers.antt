use Rattle.std.proofs.Common.{ap, subst, ◌∙◌, rules}
use Rattle.sd_graph.specs.TreeFold.{graph_tree}
use Rattle.sd_scope.specs.scope.Standing.{context_of}
use Rattle.sd_row.specs.view.Places.{LeadsTo}
use Rattle.sd_row.proofs.instance_lemmas.Matched.{found_so}
use Rattle.sd_row.proofs.view.finding.has_last.Goals as goal

pub returns-in-Some-2 : goal.returns-in-Some-2
returns-in-Some-2 c inside =
    let here = context_of (graph_tree c.args.graph.now) c.args.base.now c.args.scope.now in
    record {
      last = c.in-Some.last.items;
      is_last = found_so _ c.in_ok-last.field-0 c.in-Some.last c.in-Some.is c.in_ok-last.ensures;
      element = c.in-Some-2._element;
      few = search rules;
      leads = subst (λ at. LeadsTo here c.args.link.now at c.in-Some-2._element) c.as_slice.ensures.value (found_so _ c.in_ok-_element.field-0 c.in-Some-2._element c.in-Some-2.is c.in_ok-_element.ensures);
    }
