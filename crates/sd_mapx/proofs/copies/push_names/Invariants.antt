use Rattle.std.proofs.Common.{◌≡◌, ◌++◌, take, map, string_bytes}
use Rattle.sd_mapx.proofs.copies.push_names.Given as goal

-- the names so far
abbrev pub invariant-loop-name : goal.invariant-loop-name
invariant-loop-name l = map string_bytes l.copy.items ≡ map string_bytes l.initial.copy.items ++ map string_bytes (take l.name-index l.names)
