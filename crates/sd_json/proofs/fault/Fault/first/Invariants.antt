use Rattle.std.proofs.Common.{◌≡◌, drop}
use Rattle.std.specs.List.{find}
use Rattle.std.specs.BTreeMap.{get_by_text}
use Rattle.sd_json.specs.Entries.{has_fault}
use Rattle.sd_json.proofs.fault.Fault.first.Given as goal

-- none so far
abbrev pub invariant-loop-name : goal.invariant-loop-name
invariant-loop-name l =
    find (λ name. has_fault l.self (get_by_text l.entries name)) l.names ≡ find (λ name. has_fault l.self (get_by_text l.entries name)) (drop l.name-index l.names)
