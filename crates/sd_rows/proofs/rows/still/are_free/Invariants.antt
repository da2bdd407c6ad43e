use Rattle.std.proofs.Common.{◌≡◌, drop}
use Rattle.std.specs.List.{list_all}
use Rattle.sd_rows.specs.rows.Still.{is_free}
use Rattle.sd_rows.proofs.rows.still.are_free.Given as goal

-- it is what the expressions that are left say
abbrev pub invariant-loop-end : goal.invariant-loop-end
invariant-loop-end l = list_all (is_free l.variable) (drop l.end-index l.ends) ≡ list_all (is_free l.variable) l.ends
