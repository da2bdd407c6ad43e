use Rattle.std.proofs.Common.{ℕ, List, ◌++◌, map, string_bytes, ap, ◌∙◌}
use Rattle.sd_graph.specs.TreeFold.{named_container, state_trees}
use Rattle.sd_graph.specs.LoopScope.{loops_in_force}
use Rattle.sd_wire.specs.declared.loops.span.LoopSpan.{LoopSpan}
use Rattle.sd_wire.specs.loops.Spans.{variables_in}
use Rattle.sd_race.specs.text.CheckText.{scope_lines, scope_text, state_of}
use Rattle.sd_race.proofs.text_lemmas.Graphs.{lines_more}
use Rattle.sd_race.proofs.text.whole.push_scopes.Goals as goal

pub loop-scope-preserved : goal.loop-scope-preserved
loop-scope-preserved c =
    let names = map string_bytes c.args.names.now in
    let containers = map named_container c.args.containers.now.entries in
    let trees = state_trees c.args.states.now in
    let scope = c.scope-item.result in
    let state = state_of scope.0 in
    let order = ap (λ (spans : List LoopSpan). variables_in spans state) c.as_slice.ensures.value ∙ c.in_ok-spans.ensures state
    ∙ ap (λ (variables : ℕ). loops_in_force trees variables state) c.in_ok-variables.ensures in
    lines_more (scope_lines names containers trees) c.args.scopes.now c.loop-scope.scope-index scope (string_bytes c.args.text.now) (string_bytes c.loop-scope.text)
    (string_bytes c.push_own.new.text) c.loop-scope-test.true c.scope-item.is c.loop-scope.invariant
    (c.in_ok-push_own.ensures ∙ ap (λ (order : List ℕ). string_bytes c.loop-scope.text ++ scope_text names containers order scope) order)
