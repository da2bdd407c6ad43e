use Rattle.std.proofs.Common.{◌≡◌, map, option_map, sym, ap, ◌∙◌, rules, FitsSigned, to_z, of_z, w64}
use Rattle.std.proofs.lemmas.Int.{to_z-of_z}
use Rattle.sd_work.specs.Leaf.{identities}
use Rattle.sd_graph.specs.TreeFold.{graph_tree}
use Rattle.sd_graph.specs.Context.{link_elements}
use Rattle.sd_mem.specs.machine.Stack.{reference_of}
use Rattle.sd_scope.specs.scope.Standing.{context_of}
use Rattle.sd_leaves.specs.leaves.Cells.{writing}
use Rattle.sd_leaves.proofs.leaves_lemmas.CellLists.{written_to}
use Rattle.sd_leaves.proofs.leaves_lemmas.Lists.{on_ok}
use Rattle.sd_leaves.specs.moves.Left.{all_told}
use Rattle.sd_leaves.proofs.moves.reduction.identity_writes.Goals as goal

pub returns : goal.returns
returns c =
    let elements = link_elements (context_of (graph_tree c.args.graph.now) c.args.base.now c.args.scope.now) c.args.to.now in
    let value = c.in-Some.value in
    let fits : FitsSigned w64 value = search rules in
    let targets = c.as_slice.result.now in
    let same = ap (λ value. map (writing value) targets) (to_z-of_z w64 value fits)
    ∙ written_to value targets elements (ap (map (option_map reference_of)) c.as_slice.ensures.value ∙ c.in_ok-targets.ensures)
    ∙ ap (λ identity. identities identity elements) (sym c.in-Some.is) in
    on_ok (λ todos. all_told todos.items ≡ map (writing (to_z w64 (of_z w64 value))) targets) (λ todos. all_told todos.items ≡ identities c.args.identity elements) c.writes.result
    (λ todos is. is ∙ same) c.writes.ensures
