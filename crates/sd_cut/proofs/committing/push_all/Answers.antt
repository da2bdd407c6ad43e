use Rattle.std.proofs.Common.{arith, ap, sym, ◌∙◌, map}
use Rattle.sd_work.specs.Change.{push}
use Rattle.sd_cut.specs.Elements.{all_changed}
use Rattle.sd_cut.specs.Undo.{all_taken_back}
use Rattle.sd_cut.proofs.Undoing.{pushed_next, undo_all, where_err, where_ok}
use Rattle.sd_cut.proofs.committing.push_all.Goals as goal

pub returns-in-Err-clause-err : goal.returns-in-Err-clause-err
returns-in-Err-clause-err c =
    c.take_all_back.ensures
    ∙ ap (all_taken_back c.loop-number.number c.args.left.now c.args.streams.now) (where_err c.push_first.result c.in-Err.refusal c.in-Err.is c.push_first.ensures.err ∙ c.loop-number.invariant)
    ∙ undo_all c.args.left.now c.args.memory.now c.args.streams.now c.loop-number.number (omega (arith, c.loop-number-test.true))

pub loop-number-preserved : goal.loop-number-preserved
loop-number-preserved c =
    pushed_next c.args.left.now c.args.memory.now c.loop-number.memory c.push_first.new.memory c.args.streams.now c.index-streams-number.result c.loop-number.number c.loop-number-test.true c.index-streams-number.is
    c.loop-number.invariant
    (where_ok c.push_first.result c.in-Ok.field-0 c.in-Ok.is c.push_first.ensures.ok
    ∙ ap (λ values. all_changed (map (push 0 c.loop-number.number) values) c.loop-number.memory) (sym c.count_pushed-count.ensures.pushed))
