use Rattle.sd_tie.proofs.elements_lemmas.PartsKnown.{IsName, array_known}
use Rattle.sd_tie.proofs.elements_lemmas.PartsTied.{reduction_tied}
use Rattle.sd_tie.proofs.elements.laws.a_reduction_reduces_what_it_says.Goals as goal

pub returns : goal.returns
returns c = λ known table setting context tied are line lambda from to axis identity knows.
    let target : IsName known to = array_known known to knows.1 in
    let source : IsName known from = array_known known from knows.0 in
    reduction_tied known table setting context tied are lambda from source.0 source.1 to target.0 target.1 axis identity line
