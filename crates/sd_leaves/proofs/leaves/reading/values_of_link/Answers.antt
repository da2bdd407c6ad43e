use Rattle.std.proofs.Common.{rules, ◌≡◌, ℤ, List, [], ◌∷◌, Option, Some, None, map, option_map, IfOk, true, ap, sym, ◌∙◌, subst, FitsSigned, to_z, of_z, w64}
use Rattle.std.proofs.lemmas.Int.{to_z-of_z}
use Rattle.sd_range.specs.Subset.{elements}
use Rattle.sd_work.specs.Memory.{Reference}
use Rattle.sd_work.specs.Exit.{all_seen}
use Rattle.sd_graph.specs.TreeFold.{graph_tree}
use Rattle.sd_graph.specs.Context.{link_elements, reference_at}
use Rattle.sd_mem.specs.machine.Stack.{reference_of}
use Rattle.sd_scope.specs.scope.Standing.{context_of}
use Rattle.sd_scope.specs.even.Even.{is_scalar}
use Rattle.sd_scope.proofs.even_lemmas.Scalar.{one_element}
use Rattle.sd_leaves.proofs.leaves_lemmas.ReadValues.{with_values, none_seen, index_read, index_outside, index_over}
use Rattle.sd_leaves.proofs.leaves.reading.values_of_link.Goals as goal

pub returns-then-has_one_element : goal.returns-then-has_one_element
returns-then-has_one_element c =
    let context = context_of (graph_tree c.args.graph.now) c.args.base.now c.args.scope.now in
    let link = c.args.link.now in
    let scalar : is_scalar link.memlet.subset.dims ≡ true = search rules in
    let same : option_map reference_of c.in_ok-cell.cell ∷ [] ≡ link_elements context link = ap (λ (found : Option Reference). found ∷ []) c.in_ok-cell.ensures ∙ sym (one_element context link scalar) in
    subst (λ (found : List (Option Reference)). IfOk c.value_of_cell.result (λ values. values ≡ all_seen found c.args.machine.now.memories)) same c.value_of_cell.ensures

pub indices-init : goal.indices-init
indices-init c =
    let context = context_of (graph_tree c.args.graph.now) c.args.base.now c.args.scope.now in
    let find = reference_at (context.reach c.args.link.now.memlet.container) in
    let left = c.in_ok-indices.indices.left in
    let empty : c.new-values.result.items ≡ [] = search rules in
    none_seen find c.args.machine.now.memories (elements c.args.link.now.memlet.subset context.values) left (sym c.in_ok-indices.ensures)
    ∙ ap (λ (values : List ℤ). with_values values (all_seen (map find left) c.args.machine.now.memories)) (sym empty)

pub indices-preserved : goal.indices-preserved
indices-preserved c =
    let context = context_of (graph_tree c.args.graph.now) c.args.base.now c.args.scope.now in
    let find = reference_at (context.reach c.args.link.now.memlet.container) in
    let index = c.next.new.self in
    let fits : FitsSigned w64 c.look.result = search rules in
    let step : c.indices.indices.left ≡ index.at ∷ index.left = search rules in
    let found : find index.at ≡ Some (reference_of c.in-Some.cell) = ap find (sym c.at.ensures) ∙ sym c.in_ok-cell-2.ensures ∙ ap (option_map reference_of) c.in-Some.is in
    c.indices.invariant
    ∙ index_read find c.args.machine.now.memories c.indices.values.items c.indices.indices.left index.left index.at step c.in-Some.cell c.push.new.self.items (to_z w64 (of_z w64 c.look.result))
    found (to_z-of_z w64 c.look.result fits ∙ c.look.ensures) c.in_ok-push-in-Some.ensures.items

pub returns-in-None : goal.returns-in-None
returns-in-None c =
    let context = context_of (graph_tree c.args.graph.now) c.args.base.now c.args.scope.now in
    let find = reference_at (context.reach c.args.link.now.memlet.container) in
    let index = c.next.new.self in
    let step : c.indices.indices.left ≡ index.at ∷ index.left = search rules in
    let outside : find index.at ≡ None = ap find (sym c.at.ensures) ∙ sym c.in_ok-cell-2.ensures ∙ ap (option_map reference_of) c.in-None.is in
    sym (c.indices.invariant ∙ index_outside find c.args.machine.now.memories c.indices.values.items c.indices.indices.left index.left index.at step outside)

pub returns : goal.returns
returns c =
    let context = context_of (graph_tree c.args.graph.now) c.args.base.now c.args.scope.now in
    let find = reference_at (context.reach c.args.link.now.memlet.container) in
    let none : c.indices.indices.left ≡ [] = search rules in
    ap Some c.from.ensures ∙ sym (c.indices.invariant ∙ index_over find c.args.machine.now.memories c.indices.values.items c.indices.indices.left none)
