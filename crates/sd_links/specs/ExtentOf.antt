-- The code's extents, as plain ones.
use Rattle.sd_validity.specs.rules.Shapes as plain
use Rattle.sd_links.specs.declared.extents.Extent.{Extent}

abbrev pub extent_of : Extent → plain.Extent
extent_of extent = record { last = extent.last.now; begin = extent.begin.now }
