use Rattle.std.proofs.Common.{◌≡◌, ◌++◌, take, map}
use Rattle.sd_validity.specs.rules.Parts.{container_of}
use Rattle.sd_links.proofs.written.push_containers.Given as goal

-- those so far
abbrev pub invariant-loop-link : goal.invariant-loop-link
invariant-loop-link l = l.all.items ≡ l.initial.all.items ++ map container_of (take l.link-index l.links)
