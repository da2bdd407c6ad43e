use Rattle.std.proofs.Common.{◌≡◌, length}
use Rattle.sd_validity.specs.rules.NestedLinks as nested
use Rattle.sd_links.proofs.nesting.are_unshared.Given as goal

-- those left are unshared where all are
abbrev pub invariant-loop-link : goal.invariant-loop-link
invariant-loop-link l = nested.are_unshared l.written l.number l.left ≡ nested.are_unshared l.written 0 l.links

-- the links that are left
abbrev pub decreases-loop-link : goal.decreases-loop-link
decreases-loop-link l = length l.left
