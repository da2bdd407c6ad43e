use Rattle.std.proofs.Common.{◌≡◌, drop, map}
use Rattle.sd_graph.specs.TreeFold.{named_container}
use Rattle.sd_validity.specs.rules.NestedLinks as nested
use Rattle.sd_links.proofs.nesting.have_shapes.Given as goal

-- those left have their shapes where all have
abbrev pub invariant-loop-number : goal.invariant-loop-number
invariant-loop-number l =
    nested.have_shapes (map named_container l.inner.entries) l.number (drop l.number l.links) ≡ nested.have_shapes (map named_container l.inner.entries) 0 l.links
