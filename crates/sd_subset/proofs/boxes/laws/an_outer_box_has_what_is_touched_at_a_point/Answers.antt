use Rattle.sd_subset.proofs.boxes_lemmas.AtPoint.{in_force-around, in_force-own}
use Rattle.sd_subset.proofs.boxes_lemmas.Disjoint.{in-outer_box}
use Rattle.sd_subset.proofs.boxes.laws.an_outer_box_has_what_is_touched_at_a_point.Goals as goal

pub returns-clause-around : goal.returns-clause-around
returns-clause-around c = in_force-around

pub returns-clause-own : goal.returns-clause-own
returns-clause-own c = in_force-own

pub returns-clause-outer : goal.returns-clause-outer
returns-clause-outer c = in-outer_box
