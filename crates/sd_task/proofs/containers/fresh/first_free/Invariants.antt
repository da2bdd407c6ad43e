use Rattle.std.proofs.Common.{◌≡◌, ◌-◌, map, length, string_bytes}
use Rattle.sd_graph.specs.TreeFold.{named_container}
use Rattle.sd_task.specs.containers.Declarations.{first_free, names_in_use}
use Rattle.sd_task.proofs.containers.fresh.first_free.Given as goal

abbrev pub invariant-loop-number : goal.invariant-loop-number
invariant-loop-number l =
    let used = names_in_use (map string_bytes l.declared.keys) (map named_container l.containers.entries) in
    first_free (l.last - l.number) l.number used l.name ≡ first_free (length used) 1 used l.name
