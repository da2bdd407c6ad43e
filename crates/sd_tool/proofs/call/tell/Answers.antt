use Rattle.std.proofs.Common.{◌∙◌}
use Rattle.sd_tool.proofs.EndLemmas.{ends_told}
use Rattle.sd_tool.proofs.call.tell.Goals as goal

pub returns-in-Ok-clause-ends : goal.returns-in-Ok-clause-ends
returns-in-Ok-clause-ends g c =
    λ words shelf answers.
    rw (c.status_of.ensures, c.status.ensures)
    (ends_told words shelf _ c.args.ending.now c.as_bytes.result.now c.write_text.result c.in_default.not-Memory answers (c.as_bytes.ensures.value ∙ c.in-Ok.ensures)
    c.write_text.ensures.ok c.write_text.ensures.err c.write_text.ensures.failed)
