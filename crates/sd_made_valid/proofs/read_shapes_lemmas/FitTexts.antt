-- In a program that was read copies, reductions and calls fit.
use Rattle.std.proofs.Common.{◌≡◌, ℕ, List, reverse, Ok, subst}
use Rattle.sd_lex.specs.PlainTree.{ProgramTree}
use Rattle.sd_source.specs.source.SourceReading.{reads}
use Rattle.sd_made_valid.proofs.read_shapes_lemmas.AtTheEnd.{read_so}
use Rattle.sd_made_valid.specs.read_shapes.Fits.{AllFit}
use Rattle.sd_made_valid.proofs.read_shapes_lemmas.FitSoFar.{FitSoFar}
use Rattle.sd_made_valid.proofs.read_shapes_lemmas.FitEnds.{shapes_are_kept}

pub shapes_fit : (text : List ℕ) (program : ProgramTree) → reads text ≡ Ok program → AllFit (reverse program.functions)
shapes_fit text program is =
    let end = read_so FitSoFar shapes_are_kept text program is in
    subst (λ program. AllFit (reverse program.functions)) end.1.1 end.1.0.ended
