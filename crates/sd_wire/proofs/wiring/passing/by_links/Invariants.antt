use Rattle.std.proofs.Common.{◌≡◌, take, map}
use Rattle.sd_wire.specs.wiring.Mentioned.{by_link}
use Rattle.sd_wire.proofs.wiring.passing.by_links.Given as goal

-- those so far
abbrev pub invariant-loop-link : goal.invariant-loop-link
invariant-loop-link l = l.all.items ≡ map by_link (take l.link-index l.links)
