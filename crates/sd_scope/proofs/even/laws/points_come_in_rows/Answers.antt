use Rattle.sd_scope.proofs.even_lemmas.LastParameter.{points_in_rows, values_at_last}
use Rattle.sd_scope.proofs.even.laws.points_come_in_rows.Goals as goal

pub returns : goal.returns
returns c = record { rows = points_in_rows; variables = values_at_last }
