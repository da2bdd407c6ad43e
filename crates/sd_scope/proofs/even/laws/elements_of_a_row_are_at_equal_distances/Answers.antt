use Rattle.sd_scope.proofs.even_lemmas.Found.{even_found}
use Rattle.sd_scope.proofs.even_lemmas.Reached.{even_through, even_reach}
use Rattle.sd_scope.proofs.even.laws.elements_of_a_row_are_at_equal_distances.Goals as goal

pub returns : goal.returns
returns c = record { own = even_found; through = even_through; reached = even_reach }
