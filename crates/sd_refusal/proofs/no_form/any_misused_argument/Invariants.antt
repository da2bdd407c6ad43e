use Rattle.std.proofs.Common.{◌≡◌, drop, map}
use Rattle.std.specs.List.{list_any}
use Rattle.sd_lex.specs.TreeFold.{call_argument_of}
use Rattle.sd_uses.specs.Uses as uses
use Rattle.sd_refusal.specs.NotAForm as no_form
use Rattle.sd_refusal.proofs.no_form.any_misused_argument.Given as goal

-- the arguments that are left decide
abbrev pub invariant-loop-name : goal.invariant-loop-name
invariant-loop-name l =
    list_any (no_form.misuses l.names) (map uses.argument (map call_argument_of (drop l.name-index l.arguments)))
    ≡ list_any (no_form.misuses l.names) (map uses.argument (map call_argument_of l.arguments))
