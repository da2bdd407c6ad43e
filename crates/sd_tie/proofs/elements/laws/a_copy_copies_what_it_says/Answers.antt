use Rattle.sd_tie.proofs.elements_lemmas.PartsKnown.{IsName, part_known}
use Rattle.sd_tie.proofs.elements_lemmas.PartsTied.{copy_tied}
use Rattle.sd_tie.proofs.elements.laws.a_copy_copies_what_it_says.Goals as goal

pub returns : goal.returns
returns c = λ known table setting context tied are line to to_dimensions from from_dimensions knows affine.
    let target : IsName known to = part_known known to to_dimensions knows.0 in
    let source : IsName known from = part_known known from from_dimensions knows.1 in
    copy_tied known table setting context tied are to target.0 target.1 to_dimensions affine.0 from source.0 source.1 from_dimensions affine.1 line
