use Rattle.std.proofs.Common.{◌≡◌, drop, map, string_bytes}
use Rattle.sd_mapx.specs.FreshNames.{is_used}
use Rattle.sd_mapx.proofs.fresh.is_used.Given as goal

-- the answer is that of the names that are left
abbrev pub invariant-loop-other : goal.invariant-loop-other
invariant-loop-other l = is_used (map string_bytes l.used) l.name ≡ is_used (map string_bytes (drop l.other-index l.used)) l.name
