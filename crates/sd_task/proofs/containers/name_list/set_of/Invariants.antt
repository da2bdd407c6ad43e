use Rattle.std.proofs.Common.{◌≡◌, ◌++◌, drop, map, string_bytes}
use Rattle.sd_task.proofs.containers.name_list.set_of.Given as goal

abbrev pub invariant-loop-name : goal.invariant-loop-name
invariant-loop-name l = map string_bytes l.set.keys ++ map string_bytes (drop l.name-index l.names) ≡ map string_bytes l.names
