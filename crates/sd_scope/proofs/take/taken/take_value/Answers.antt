use Rattle.std.proofs.Common.{ℕ, List, ◌∷◌, sym, ap, ◌∙◌, subst, to_z, of_z, w64}
use Rattle.sd_work.specs.Change.{changed_at}
use Rattle.sd_graph.specs.TreeFold.{graph_tree}
use Rattle.sd_graph.specs.TreeParts.{containers_of}
use Rattle.sd_graph.specs.ContainerParts.{Containers, container_at}
use Rattle.sd_graph.specs.Context.{private_memory}
use Rattle.sd_graph.specs.Unfold.{one_element}
use Rattle.sd_graph.proofs.TreeLemmas.{graph_opened}
use Rattle.sd_scope.specs.scope.Standing.{IsInside}
use Rattle.sd_scope.proofs.take.taken.take_value.Goals as goal

pub returns-clause-element : goal.returns-clause-element
returns-clause-element c = λ base. record {
  own = c.in_ok-own.ensures.contents
      ∙ ap (λ (containers : Containers). changed_at c.args.element (λ old. one_element (container_at containers c.args.element).width (to_z w64 (of_z w64 c.in-Some.value))) (private_memory containers (c.args.element ∷ c.args.private.now)))
      (sym (ap containers_of (graph_opened c.args.graph.now)));
  stands = c.in_ok-at_element.ensures.context (graph_tree c.args.graph.now) base c.args.private.now
      (subst (λ (numbers : List ℕ). IsInside numbers c.args.scope.now c.in_ok-inner.inner) (c.as_slice.ensures.value ∙ c.in_ok-numbers.ensures) c.in_ok-inner.ensures);
}
