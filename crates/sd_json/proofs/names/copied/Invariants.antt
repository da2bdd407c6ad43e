use Rattle.std.proofs.Common.{◌≡◌, take, map, string_bytes}
use Rattle.sd_json.proofs.names.copied.Given as goal

-- the names so far
abbrev pub invariant-loop-name : goal.invariant-loop-name
invariant-loop-name l = l.copy.items ≡ map string_bytes (take l.name-index l.names)
