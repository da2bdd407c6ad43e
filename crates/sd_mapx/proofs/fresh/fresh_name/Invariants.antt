use Rattle.std.proofs.Common.{◌≡◌, ◌-◌, map, string_bytes}
use Rattle.sd_mapx.specs.FreshNames.{first_unused, fresh_name}
use Rattle.sd_mapx.proofs.fresh.fresh_name.Given as goal

-- the name is one of those that are left to be tried
abbrev pub invariant-loop-number : goal.invariant-loop-number
invariant-loop-number l = first_unused (l.last - l.number) (map string_bytes l.used) l.name l.number ≡ fresh_name (map string_bytes l.used) l.name
