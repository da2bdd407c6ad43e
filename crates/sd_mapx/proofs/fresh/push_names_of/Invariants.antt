use Rattle.std.proofs.Common.{◌≡◌, ◌++◌, take, map, string_bytes}
use Rattle.sd_mapx.specs.FreshNames.{name_of}
use Rattle.sd_mapx.proofs.fresh.push_names_of.Given as goal

-- the names so far
abbrev pub invariant-loop-variable : goal.invariant-loop-variable
invariant-loop-variable l =
    map string_bytes l.names.items ≡ map string_bytes l.initial.names.items ++ map (name_of (map string_bytes l.variables)) (take l.variable-index l.numbers)
