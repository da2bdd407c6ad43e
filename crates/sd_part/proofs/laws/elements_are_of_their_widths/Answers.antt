use Rattle.sd_pieces.proofs.cut_lemmas.WidthElements.{work-elements}
use Rattle.sd_part.proofs.Widths.{opens}
use Rattle.sd_part.proofs.laws.elements_are_of_their_widths.Goals as goal

pub returns-clause-opens : goal.returns-clause-opens
returns-clause-opens c = opens

pub returns-clause-work : goal.returns-clause-work
returns-clause-work c = λ term most turns memories after left. work-elements term most memories turns after left
