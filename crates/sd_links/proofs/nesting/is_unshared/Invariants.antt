use Rattle.std.proofs.Common.{◌≡◌, suc, drop}
use Rattle.sd_validity.specs.rules.NestedLinks as nested
use Rattle.sd_links.proofs.nesting.is_unshared.Given as goal

-- those left are unshared where all are
abbrev pub invariant-loop-other : goal.invariant-loop-other
invariant-loop-other l = nested.is_unshared l.written l.first l.link (suc l.number) (drop l.other-index l.rest) ≡ nested.is_unshared l.written l.first l.link (suc l.first) l.rest
