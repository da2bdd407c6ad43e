use Rattle.std.proofs.Common.{◌≡◌, [], map, drop, string_bytes}
use Rattle.sd_names.specs.Names.{noted_all}
use Rattle.sd_names.proofs.name_set.NameSet.of.Given as goal

-- the names that are left, with those so far
abbrev pub invariant-loop-name : goal.invariant-loop-name
invariant-loop-name l = noted_all l.names (map string_bytes (drop l.name-index l.all)) ≡ noted_all [] (map string_bytes l.all)
