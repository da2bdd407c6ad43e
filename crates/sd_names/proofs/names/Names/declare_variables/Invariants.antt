use Rattle.std.proofs.Common.{◌≡◌, map, drop, string_bytes}
use Rattle.sd_names.specs.declared.meaning.Meaning.TheVariants.{Variable}
use Rattle.sd_names.specs.Names.{all_meaning}
use Rattle.sd_names.proofs.names.Names.declare_variables.Given as goal

-- the names that are left, from those in force so far
abbrev pub invariant-loop-name : goal.invariant-loop-name
invariant-loop-name l = all_meaning Variable l.self (map string_bytes (drop l.name-index l.parameters)) ≡ all_meaning Variable l.initial.self (map string_bytes l.parameters)
