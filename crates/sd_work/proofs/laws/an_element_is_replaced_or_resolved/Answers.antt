use Rattle.sd_work.proofs.Changes.{written-became, written-wide, IsElement-written}
use Rattle.sd_work.proofs.laws.an_element_is_replaced_or_resolved.Goals as goal

pub returns-clause-same : goal.returns-clause-same
returns-clause-same c = written-became

pub returns-clause-wide : goal.returns-clause-wide
returns-clause-wide c = written-wide

pub returns-clause-fits : goal.returns-clause-fits
returns-clause-fits c = IsElement-written
