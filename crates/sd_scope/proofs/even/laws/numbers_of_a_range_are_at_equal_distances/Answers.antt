use Rattle.sd_scope.proofs.even_lemmas.Counted.{counted_at, counted_behind}
use Rattle.sd_scope.proofs.even.laws.numbers_of_a_range_are_at_equal_distances.Goals as goal

pub returns : goal.returns
returns c = record { number = counted_at; others = counted_behind }
