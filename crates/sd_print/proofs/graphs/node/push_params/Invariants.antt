use Rattle.std.proofs.Common.{◌≡◌, ◌++◌, take, map, codes, string_bytes}
use Rattle.std.specs.List.{flat_map}
use Rattle.sd_print.specs.graphs.NodeText.{param_text}
use Rattle.sd_print.proofs.graphs.node.push_params.Given as goal

-- what is added so far
abbrev pub invariant-loop-other : goal.invariant-loop-other
invariant-loop-other l = string_bytes l.text ≡ string_bytes l.initial.text ++ flat_map (λ other. codes ", " ++ param_text (map string_bytes l.names) l.order other) (take l.other-index l.others)
