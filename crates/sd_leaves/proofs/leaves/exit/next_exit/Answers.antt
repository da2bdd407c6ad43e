use Rattle.std.proofs.Common.{ap, sym, ◌∙◌, Ok}
use Rattle.sd_graph.specs.TreeFold.{graph_tree}
use Rattle.sd_scope.specs.scope.Standing.{context_of}
use Rattle.sd_leaves.proofs.leaves_lemmas.Conditions.{next_always, next_fails, next_holds, next_later}
use Rattle.sd_leaves.proofs.leaves.exit.next_exit.Goals as goal

pub loop-number-preserved : goal.loop-number-preserved
loop-number-preserved c =
    next_later (context_of (graph_tree c.args.graph.now) c.args.base.now c.args.scope.now) c.args.exits.now c.args.machine.now.memories c.loop-number.number c.index-exits-number.result
    c.loop-number-test.true c.index-exits-number.is c.loop-number.invariant c.in-Some.guard c.in-Some.is (ap Ok (sym c.in-Ok-false.field-0-test) ∙ sym c.in-Ok-false.is ∙ c.in_ok-decided.ensures)

pub returns-in_default : goal.returns-in_default
returns-in_default c =
    next_always (context_of (graph_tree c.args.graph.now) c.args.base.now c.args.scope.now) c.args.exits.now c.args.machine.now.memories c.loop-number.number c.index-exits-number.result
    c.loop-number-test.true c.index-exits-number.is c.loop-number.invariant c.in_default.is

pub returns-in-Ok-true : goal.returns-in-Ok-true
returns-in-Ok-true c =
    next_holds (context_of (graph_tree c.args.graph.now) c.args.base.now c.args.scope.now) c.args.exits.now c.args.machine.now.memories c.loop-number.number c.index-exits-number.result
    c.loop-number-test.true c.index-exits-number.is c.loop-number.invariant c.in-Some.guard c.in-Some.is (ap Ok (sym c.in-Ok-true.field-0-test) ∙ sym c.in-Ok-true.is ∙ c.in_ok-decided.ensures)

pub returns-in-Err : goal.returns-in-Err
returns-in-Err c =
    next_fails (context_of (graph_tree c.args.graph.now) c.args.base.now c.args.scope.now) c.args.exits.now c.args.machine.now.memories c.loop-number.number c.index-exits-number.result
    c.loop-number-test.true c.index-exits-number.is c.loop-number.invariant c.in-Some.guard c.in-Some.is c.in-Err.kind c.in_ok-place-in-Err.place (sym c.in-Err.is ∙ c.in_ok-decided.ensures) c.in_ok-place-in-Err.ensures
