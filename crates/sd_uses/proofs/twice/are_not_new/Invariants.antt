use Rattle.std.proofs.Common.{◌≡◌, drop, map, string_bytes, []}
use Rattle.sd_uses.specs.Twice as twice
use Rattle.sd_uses.proofs.twice.are_not_new.Given as goal

-- the names that are left decide, against those before them
abbrev pub invariant-loop-name : goal.invariant-loop-name
invariant-loop-name l = twice.are_not_new l.names l.earlier (map string_bytes (drop l.name-index l.wanted)) ≡ twice.are_not_new l.names [] (map string_bytes l.wanted)
