use Rattle.std.proofs.Common.{◌≡◌, ◌++◌, drop, map}
use Rattle.sd_wire.specs.wiring.Mentioned.{by_link, links_by}
use Rattle.sd_wire.proofs.wiring.passing.by_nested.Given as goal

-- those so far, with those that are left
abbrev pub invariant-loop-link : goal.invariant-loop-link
invariant-loop-link l = l.all.items ++ map by_link (links_by l.access l.inner l.number (drop l.link-index l.links)) ≡ map by_link (links_by l.access l.inner 0 l.links)
