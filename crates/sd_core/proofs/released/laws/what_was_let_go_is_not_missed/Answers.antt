use Rattle.sd_core.proofs.released_lemmas.Moves.{finished-released, moves-released}
use Rattle.sd_core.proofs.released_lemmas.Runs.{formed-released, run-released, trace-released}
use Rattle.sd_core.proofs.released.laws.what_was_let_go_is_not_missed.Goals as goal

pub returns-clause-finished : goal.returns-clause-finished
returns-clause-finished g c = λ old new released. finished-released released

pub returns-clause-moves : goal.returns-clause-moves
returns-clause-moves g c = λ old new memories released. moves-released memories released

pub returns-clause-run : goal.returns-clause-run
returns-clause-run g c = λ looks picks old new released turns. run-released looks picks old new released turns

pub returns-clause-trace : goal.returns-clause-trace
returns-clause-trace g c = λ steps picks old new released turns. trace-released steps picks old new released turns

pub returns-clause-formed : goal.returns-clause-formed
returns-clause-formed g c = λ old new released formed. formed-released old new released formed
