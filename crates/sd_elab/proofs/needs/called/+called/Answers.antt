use Rattle.std.proofs.Common.{◌∙◌, ◌+◌, ap, drop, map, string_bytes}
use Rattle.std.proofs.lemmas.Result.{on_ok_weaker}
use Rattle.sd_lex.specs.TreeFold.{statement_of, block_of}
use Rattle.sd_elab.proofs.needs_lemmas.CalledLemmas.{branch_told, block_more, noted_more, noted_branch}
use Rattle.sd_elab.proofs.needs.called.+called.Goals as goal

pub note_called-loop-statement-preserved : goal.note_called-loop-statement-preserved
note_called-loop-statement-preserved t c =
    let i = c.loop-statement.statement-index in
    noted_more (map string_bytes c.loop-statement.names.keys) (map string_bytes c.note_called_by.new.names.keys) _ (statement_of c.statement-item.result) _ (block_of (drop (i + 1) c.args.body.now))
    (block_more c.args.body.now i c.statement-item.result c.loop-statement-test.true c.statement-item.is)
    c.in_ok-note_called_by.ensures c.loop-statement.invariant

pub note_called_by-returns-in_ok-note_called-in-If : goal.note_called_by-returns-in_ok-note_called-in-If
note_called_by-returns-in_ok-note_called-in-If t c =
    let is = c.in-If in
    on_ok_weaker c.note_called-in-If.result
    (λ noting.
    noted_branch (map string_bytes c.args.names.now.keys) (map string_bytes c.note_called.new.names.keys) (map string_bytes c.note_called-in-If.new.names.keys)
    (statement_of c.args.statement.now) is.line is.when (block_of is.body.items) (block_of is.other.items) (block_of c.deref.result.now) (block_of c.deref-in-If.result.now)
    (ap statement_of is.is ∙ branch_told is.line is.when is.body is.other)
    (ap block_of c.deref.ensures.value) (ap block_of c.deref-in-If.ensures.value)
    c.in_ok-note_called-in-If.ensures noting)
    c.note_called-in-If.ensures
