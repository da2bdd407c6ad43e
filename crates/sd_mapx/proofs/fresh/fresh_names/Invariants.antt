use Rattle.std.proofs.Common.{◌≡◌, ◌++◌, drop, map, string_bytes}
use Rattle.sd_mapx.proofs.FreshLemmas.{fresh_of}
use Rattle.sd_mapx.proofs.fresh.fresh_names.Given as goal

-- the names so far, with those of the parameters that are left
abbrev pub invariant-loop-variable : goal.invariant-loop-variable
invariant-loop-variable l =
    map string_bytes l.fresh.items ++ fresh_of (map string_bytes l.used.items) (map string_bytes l.variables) (drop l.variable-index l.params)
    ≡ fresh_of (map string_bytes l.initial.used.items) (map string_bytes l.variables) l.params
