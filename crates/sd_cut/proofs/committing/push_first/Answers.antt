use Rattle.std.proofs.Common.{rules, pos, arith, ap, ◌∙◌, FitsSigned, to_z-of_z}
use Rattle.std.specs.Int.{w64}
use Rattle.sd_work.specs.Memory.{waiting}
use Rattle.sd_work.specs.Change.{push}
use Rattle.sd_mem.specs.mem.Shaped.{alone, changed}
use Rattle.sd_cut.specs.Undo.{taken_back}
use Rattle.sd_cut.proofs.Undoing.{push_next, undo_first, where_err, where_ok}
use Rattle.sd_cut.proofs.committing.push_first.Goals as goal

pub returns-in-Err-clause-err : goal.returns-in-Err-clause-err
returns-in-Err-clause-err c =
    c.take_back.ensures
    ∙ ap (taken_back c.args.container c.loop-position.position) (where_err c.push.result c.in-Err.refusal c.in-Err.is c.push.ensures.err ∙ c.loop-position.invariant)
    ∙ undo_first c.args.container c.loop-position.position (waiting 0 c.args.container (alone c.args.left.now)) c.args.memory.now (omega (arith, c.loop-position-test.true, c.requires))

pub loop-position-preserved : goal.loop-position-preserved
loop-position-preserved c =
    let values = waiting 0 c.args.container (alone c.args.left.now) in
    let fits : FitsSigned w64 c.waiting_at.result = search rules in
    let pushed = simp to_z-of_z at c.push.ensures.ok in
    push_next c.args.container c.loop-position.position values (pos 0) c.args.memory.now c.loop-position.memory c.push.new.self (omega (arith, c.loop-position-test.true, c.requires)) c.loop-position.invariant
    (where_ok c.push.result c.in-Ok.field-0 c.in-Ok.is pushed ∙ ap (λ v. changed (push 0 c.args.container v) c.loop-position.memory) c.waiting_at.ensures)
