use Rattle.sd_part.proofs.StreamWidths.{opens-values, work-values}
use Rattle.sd_part.proofs.laws.values_of_streams_are_of_their_widths.Goals as goal

pub returns-clause-opens : goal.returns-clause-opens
returns-clause-opens c = opens-values

pub returns-clause-work : goal.returns-clause-work
returns-clause-work c = λ term most turns memories after left. work-values term most turns memories after left
