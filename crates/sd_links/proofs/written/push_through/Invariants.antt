use Rattle.std.proofs.Common.{◌≡◌, ◌++◌, drop}
use Rattle.sd_validity.specs.rules.NestedLinks as nested
use Rattle.sd_links.proofs.written.push_through.Given as goal

-- those so far, with those of the links that are left, are all
abbrev pub invariant-loop-number : goal.invariant-loop-number
invariant-loop-number l =
    l.all.items ++ nested.written_through l.written l.number (drop l.number l.links) ≡ l.initial.all.items ++ nested.written_through l.written 0 l.links
