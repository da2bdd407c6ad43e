use Rattle.std.proofs.Common.{drop}
use Rattle.sd_safe.specs.normal.NormalForm.{AreLinksNormal}
use Rattle.sd_safe.proofs.normal.parts.show_links.Given as goal

-- all are where those left are
abbrev pub invariant-loop-link : goal.invariant-loop-link
invariant-loop-link l = AreLinksNormal (drop l.link-index l.links) → AreLinksNormal l.links
