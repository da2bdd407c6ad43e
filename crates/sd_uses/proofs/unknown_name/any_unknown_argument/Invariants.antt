use Rattle.std.proofs.Common.{◌≡◌, drop, map}
use Rattle.std.specs.List.{list_any}
use Rattle.sd_lex.specs.TreeFold.{call_argument_of}
use Rattle.sd_uses.specs.Uses as uses
use Rattle.sd_uses.specs.UnknownName as unknown
use Rattle.sd_uses.proofs.unknown_name.any_unknown_argument.Given as goal

-- the arguments that are left decide
abbrev pub invariant-loop-name : goal.invariant-loop-name
invariant-loop-name l =
    list_any (unknown.is_unknown_use l.names) (map uses.argument (map call_argument_of (drop l.name-index l.arguments)))
    ≡ list_any (unknown.is_unknown_use l.names) (map uses.argument (map call_argument_of l.arguments))
