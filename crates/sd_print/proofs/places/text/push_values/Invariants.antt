use Rattle.std.proofs.Common.{◌≡◌, ◌++◌, take, codes, string_bytes}
use Rattle.std.specs.List.{flat_map}
use Rattle.sd_print.specs.places.FaultText.{value_text}
use Rattle.sd_print.proofs.places.text.push_values.Given as goal

-- the other variables so far, each after a comma
abbrev pub invariant-loop-name : goal.invariant-loop-name
invariant-loop-name l =
    string_bytes l.text ≡ string_bytes l.initial.text ++ flat_map (λ other. codes ", " ++ value_text other.0 other.1) (take l.name-index l.others)
