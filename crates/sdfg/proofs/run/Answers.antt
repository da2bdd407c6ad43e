use Rattle.sdfg.proofs.run.Goals as goal

pub returns-in-Ok-clause-words : goal.returns-in-Ok-clause-words
returns-in-Ok-clause-words g c = rw c.in-Ok.is (rw c.from.ensures c.perform.ensures)
