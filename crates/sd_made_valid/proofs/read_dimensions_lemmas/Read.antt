-- The tasklets of a program that was read are counted.
use Rattle.std.proofs.Common.{◌≡◌, ℕ, List, Ok, subst}
use Rattle.std.specs.List.{AllByRecursion}
use Rattle.sd_lex.specs.PlainTree.{ProgramTree}
use Rattle.sd_source.specs.source.SourceReading.{reads}
use Rattle.sd_made_valid.proofs.read_shapes_lemmas.AtTheEnd.{read_so}
use Rattle.sd_made_valid.specs.read_dimensions.Counts.{CountsOf}
use Rattle.sd_made_valid.proofs.read_dimensions_lemmas.Stack.{IsGood}
use Rattle.sd_made_valid.proofs.read_dimensions_lemmas.Ends.{counted_are_kept}

pub tasklets_counted : (text : List ℕ) (program : ProgramTree) → reads text ≡ Ok program → AllByRecursion CountsOf program.functions
tasklets_counted text program is =
    let end = read_so IsGood counted_are_kept text program is in
    subst (λ program. AllByRecursion CountsOf program.functions) end.1.1 end.1.0.1
