use Rattle.std.proofs.Common.{◌≡◌, Result, Vec, length, ◌≤◌, sym, ap, ◌∙◌, subst}
use Rattle.std.specs.declared.alloc.Global.{Global}
use Rattle.std.proofs.lemmas.Bool.{ltb-false}
use Rattle.sd_work.specs.Leaf.{Evaluation}
use Rattle.sd_work.specs.LeafMove.{leaf_move}
use Rattle.sd_graph.specs.TreeFold.{graph_tree, tasklet_tree}
use Rattle.sd_graph.specs.Context.{place_at}
use Rattle.sd_mem.specs.declared.machine.end.End.{End}
use Rattle.sd_scope.specs.scope.Standing.{context_of}
use Rattle.sd_leaves.specs.leaves.Done.{evaluation_of}
use Rattle.sd_leaves.specs.declared.moves.todo.Todo.{Todo}
use Rattle.sd_leaves.specs.moves.Left.{reading_left, instance_left}
use Rattle.sd_leaves.specs.moves.Evaluated.{IsEvaluated}
use Rattle.sd_leaves.proofs.moves_lemmas.WholeInstances.{evaluated-moved, on_err}
use Rattle.sd_leaves.proofs.moves.instance.Instance.step.Goals as goal

pub returns-in-Ok-clause-moved : goal.returns-in-Ok-clause-moved
returns-in-Ok-clause-moved c =
    let context = context_of (graph_tree c.args.graph.now) c.args.base.now c.args.scope.now in
    let evaluation = evaluation_of context (tasklet_tree c.args.code.now) c.args.ins.now c.args.outs.now in
    let place = place_at context c.args.line in
    let now = c.args.machine.now in
    let after = c.evaluate.new.machine in
    let reads = c.in-Reading.reading in
    let over : length reads.cells.items ≤ length reads.values.items = ltb-false _ _ (sym c.has_more.ensures ∙ c.if-has_more.false) in
    let told = evaluated-moved evaluation reads c.args.self.now place now after c.as_slice-values.result.now c.in_ok-evaluated.evaluated c.in-Reading.is c.as_slice-values.ensures.value over c.in_ok-evaluated.ensures in
    subst (λ (answer : Result (Vec Todo Global) End). IsEvaluated (leaf_move place (instance_left evaluation c.args.self.now) now.memories) now after answer) c.in-Ok.is told (instance_left evaluation c.args.self.now)

pub returns-in-Err-clause-moved : goal.returns-in-Err-clause-moved
returns-in-Err-clause-moved c =
    let context = context_of (graph_tree c.args.graph.now) c.args.base.now c.args.scope.now in
    let evaluation = evaluation_of context (tasklet_tree c.args.code.now) c.args.ins.now c.args.outs.now in
    let place = place_at context c.args.line in
    let now = c.args.machine.now in
    let after = c.evaluate.new.machine in
    let reads = c.in-Reading.reading in
    let over : length reads.cells.items ≤ length reads.values.items = ltb-false _ _ (sym c.has_more.ensures ∙ c.if-has_more.false) in
    let told = evaluated-moved evaluation reads c.args.self.now place now after c.as_slice-values.result.now c.in_ok-evaluated.evaluated c.in-Reading.is c.as_slice-values.ensures.value over c.in_ok-evaluated.ensures in
    subst (λ (answer : Result (Vec Todo Global) End). IsEvaluated (leaf_move place (instance_left evaluation c.args.self.now) now.memories) now after answer) c.in-Err.is told (instance_left evaluation c.args.self.now)
    (reading_left evaluation reads)

pub returns-then-has_more-clause-refused : goal.returns-then-has_more-clause-refused
returns-then-has_more-clause-refused c =
    let reads = c.in-Reading.reading in
    on_err ((evaluation : Evaluation) → reading_left evaluation c.read.new.self ≡ reading_left evaluation reads) ((evaluation : Evaluation) → reading_left evaluation c.read.new.self ≡ instance_left evaluation c.args.self.now) c.read.result
    (λ same. λ evaluation. same evaluation ∙ ap (instance_left evaluation) (sym c.in-Reading.is)) c.read.ensures.refused
