use Rattle.std.proofs.Common.{◌<◌, length, arith}
use Rattle.sd_graph.specs.TreeFold.{graph_tree}
use Rattle.sd_graph.specs.Context.{place_at}
use Rattle.sd_scope.specs.scope.Standing.{context_of}
use Rattle.sd_leaves.specs.moves.Left.{doing_left}
use Rattle.sd_leaves.proofs.moves_lemmas.Todos.{next-done, next-fails}
use Rattle.sd_leaves.proofs.moves.doing.Doing.step.Goals as goal

pub returns-then-branch-clause-moved : goal.returns-then-branch-clause-moved
returns-then-branch-clause-moved c =
    let todos = c.args.self.now.todo.items in
    let within : c.args.self.now.done < length todos = omega (arith, c.if-self-len.false, c.len.ensures, c.args.self.now.todo.ok.0) in
    next-done todos c.args.self.now.done c.index.result.now c.args.machine.now c.perform.new.machine c.in_ok-perform.field-0 within c.index.ensures c.in_ok-perform.ensures c.if-branch.true
    (place_at (context_of (graph_tree c.args.graph.now) c.args.base.now c.args.scope.now) c.args.line)

pub returns-clause-moved : goal.returns-clause-moved
returns-clause-moved c =
    let todos = c.args.self.now.todo.items in
    let within : c.args.self.now.done < length todos = omega (arith, c.if-self-len.false, c.len.ensures, c.args.self.now.todo.ok.0) in
    next-fails todos c.args.self.now.done c.index.result.now c.args.machine.now c.perform.new.machine c.in_ok-perform.field-0 within c.index.ensures c.in_ok-perform.ensures c.if-branch.false
    (place_at (context_of (graph_tree c.args.graph.now) c.args.base.now c.args.scope.now) c.args.line) c.in_ok-place.place c.in_ok-place.ensures (doing_left c.args.self.now)
