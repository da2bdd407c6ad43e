use Rattle.std.proofs.Common.{◌≡◌, drop}
use Rattle.std.specs.List.{list_all}
use Rattle.sd_validity.specs.rules.Places.{param_numbers}
use Rattle.sd_validity.specs.rules.Ranks as ranks
use Rattle.sd_validate.proofs.limits.totals.are_params_ranked.Given as goal

-- those left have a rank where all have
abbrev pub invariant-loop-variable : goal.invariant-loop-variable
invariant-loop-variable l =
    list_all (ranks.is_ranked l.table) (param_numbers (drop l.variable-index l.params)) ≡ list_all (ranks.is_ranked l.table) (param_numbers l.params)
