use Rattle.std.proofs.Common.{◌≡◌, ap, sym, ◌∙◌, subst, length, map, None}
use Rattle.sd_graph.specs.TreeFold.{graph_tree}
use Rattle.sd_graph.specs.TreeParts.{containers_of}
use Rattle.sd_graph.specs.InPlace.{ArgumentsComeFirst}
use Rattle.sd_graph.specs.GraphMemory.{IsMemoryOf, AreArgumentsGiven}
use Rattle.sd_graph.proofs.TreeLemmas.{graph_opened}
use Rattle.sd_graph.proofs.Openings.{opens}
use Rattle.sd_mem.specs.mem.GraphContents.{opened_with}
use Rattle.sd_json.specs.GivenMemory as definition
use Rattle.sd_json.proofs.Prefixes.{arguments_given}
use Rattle.sd_json.proofs.given.Given.into_memory.Goals as goal

pub returns-clause-whole : goal.returns-clause-whole
returns-clause-whole c = λ has.
    let tree = graph_tree c.args.bound.now.graph in
    let arrays = c.self.inside.arrays in
    let same = ap (λ given. given.arrays) c.self.view_is in
    let first : ArgumentsComeFirst (length arrays) (containers_of tree) = subst (λ n. ArgumentsComeFirst n (containers_of tree)) (sym (ap length same ∙ has.each)) has.first in
    let right : definition.wrong_shape (containers_of tree) arrays ≡ None =
    ap (λ containers. definition.wrong_shape containers arrays) (ap containers_of (graph_opened c.args.bound.now.graph)) ∙ ap (definition.wrong_shape _) (sym c.as_slice.ensures) ∙ sym c.in_default.ensures in
    let given : AreArgumentsGiven tree (map (λ a. a.elements) arrays) = arguments_given (containers_of tree) arrays first right c.self.invariant in
    subst (λ memory. IsMemoryOf tree memory.contents) (sym (c.in_ok-opening.ensures ∙ ap (opened_with tree) c.in_ok-elements.ensures)) (opens tree (map (λ a. a.elements) arrays) given)
