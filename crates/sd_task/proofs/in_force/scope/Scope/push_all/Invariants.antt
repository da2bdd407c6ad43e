use Rattle.std.proofs.Common.{◌≡◌, drop, map, string_bytes}
use Rattle.sd_task.specs.in_force.Names.{with_numbered}
use Rattle.sd_task.proofs.in_force.scope.Scope.push_all.Given as goal

abbrev pub invariant-loop-name : goal.invariant-loop-name
invariant-loop-name l = with_numbered (map string_bytes (drop l.name-index l.names)) l.next l.self ≡ with_numbered (map string_bytes l.names) l.first l.initial.self
