use Rattle.std.proofs.Common.{◌≡◌, ◌++◌, length, map, reverse, string_bytes}
use Rattle.sd_lex.specs.TreeFold.{function_of}
use Rattle.sd_elab.specs.needs.Needed.{needed_from}
use Rattle.sd_elab.proofs.needs.above.needed.Given as goal

-- what is found, and what is left to find
abbrev pub invariant-loop-function : goal.invariant-loop-function
invariant-loop-function l =
    map (λ function. function_of function.now) l.needed.items ++ needed_from (map string_bytes l.names.keys) (reverse (map function_of l.left))
    ≡ needed_from (map string_bytes l.initial.names.keys) (reverse (map function_of l.initial.left))

abbrev pub decreases-loop-function : goal.decreases-loop-function
decreases-loop-function l = length l.left
