use Rattle.sd_tool.proofs.EndLemmas.{ends_written}
use Rattle.sd_tool.proofs.call.perform.Goals as goal

pub returns-in-Ok-clause-ends : goal.returns-in-Ok-clause-ends
returns-in-Ok-clause-ends g c =
    let says = c.in-Ok.ensures.reports in
    rw (c.status_of.ensures, c.status.ensures, says.alike.status)
    (ends_written _ _ _ says.answer _ c.write.result says.is says.alike.text c.write.ensures.ok c.write.ensures.err c.write.ensures.failed)

pub returns-in-Err-clause-ends : goal.returns-in-Err-clause-ends
returns-in-Err-clause-ends g c = c.tell.ensures.ends _ _ c.in-Err.ensures.refuses
