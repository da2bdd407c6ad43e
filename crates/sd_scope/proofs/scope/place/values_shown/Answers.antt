use Rattle.std.proofs.Common.{◌≡◌, ℕ, List, String, map, length, string_bytes, subst, ap, sym, ◌∙◌}
use Rattle.std.proofs.lemmas.List.{length-map}
use Rattle.std.specs.declared.alloc.Global.{Global}
use Rattle.sd_graph.specs.declared.graph.State.{State}
use Rattle.sd_graph.specs.PlainTree.{GraphTree}
use Rattle.sd_graph.specs.TreeFold.{named_container, state_trees}
use Rattle.sd_graph.specs.LoopScope.{loops_in_force}
use Rattle.sd_graph.specs.declared.graph.ItemKind.TheViews.{out-Sdfg}
use Rattle.sd_graph.proofs.TreeLemmas.{graph_opened}
use Rattle.sd_scope.specs.scope.Standing.{all_shown}
use Rattle.sd_scope.proofs.scope_lemmas.Told.{told_all}
use Rattle.sd_scope.proofs.scope.place.values_shown.Goals as goal

pub returns : goal.returns
returns c =
    let graph = out-Sdfg c.args.graph.now in
    let scope = c.args.scope.now in
    let names = map string_bytes graph.variables.items in
    let states = state_trees graph.states.items in
    let these = c.as_slice-names.result.now in
    let loops : c.in_ok-loops.loops.items ≡ loops_in_force states (length names) scope.state =
    c.in_ok-loops.ensures
    ∙ ap (λ (list : List State). loops_in_force (state_trees list) c.in_ok-count.count scope.state) c.as_slice.ensures.value
    ∙ ap (λ (count : ℕ). loops_in_force states count scope.state) (c.in_ok-count.ensures ∙ ap (λ (list : List (String Global)). length list) c.as_slice-names.ensures.value ∙ sym (length-map graph.variables.items string_bytes))
    in
    subst (λ (tree : GraphTree). c.add_shown.new.values.items ≡ all_shown tree scope) (sym (graph_opened c.args.graph.now))
    (told_all names (map string_bytes these) (map named_container graph.containers.entries) states scope c.as_slice-begun.result.now c.as_slice-2.result.now c.as_slice-shown.result.now
    c.in_ok-values.values.items c.add_shown.new.values.items
    (ap (map string_bytes) c.as_slice-names.ensures.value) c.as_slice-begun.ensures c.as_slice-shown.ensures (c.as_slice-2.ensures.value ∙ loops) c.in_ok-values.ensures c.in_ok-add_shown.ensures)
