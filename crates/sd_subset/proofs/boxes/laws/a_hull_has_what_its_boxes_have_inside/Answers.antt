use Rattle.sd_range.proofs.SubsetLaws.{inside-each}
use Rattle.sd_subset.proofs.boxes_lemmas.Hulls.{in-hull}
use Rattle.sd_subset.proofs.boxes.laws.a_hull_has_what_its_boxes_have_inside.Goals as goal

pub returns : goal.returns
returns c = λ extents one boxes values index normal member inside within. in-hull extents one boxes values index normal member inside (inside-each extents index within)
