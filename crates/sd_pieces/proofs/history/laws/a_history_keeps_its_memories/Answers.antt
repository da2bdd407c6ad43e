use Rattle.sd_pieces.proofs.history_lemmas.Kept.{history-shape, history-count, history-elements}
use Rattle.sd_pieces.proofs.history.laws.a_history_keeps_its_memories.Goals as goal

pub returns-clause-shape : goal.returns-clause-shape
returns-clause-shape g c = history-shape

pub returns-clause-count : goal.returns-clause-count
returns-clause-count g c = history-count

pub returns-clause-elements : goal.returns-clause-elements
returns-clause-elements g c = history-elements
