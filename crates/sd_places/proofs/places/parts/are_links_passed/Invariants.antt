use Rattle.std.proofs.Common.{◌≡◌, drop}
use Rattle.sd_validity.specs.rules.Parts as parts
use Rattle.sd_places.proofs.places.parts.are_links_passed.Given as goal

-- those left pass where all do
abbrev pub invariant-loop-link : goal.invariant-loop-link
invariant-loop-link g l = parts.are_links_passed (g.T.Test.tests l.test) (drop l.link-index l.links) ≡ parts.are_links_passed (g.T.Test.tests l.test) l.links
