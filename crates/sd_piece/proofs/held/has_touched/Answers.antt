use Rattle.std.proofs.Common.{sym, subst, map, refl}
use Rattle.std.specs.List.{Contains}
use Rattle.std.proofs.lemmas.List.{take_all}
use Rattle.sd_graph.specs.TreeFold.{named_container}
use Rattle.sd_piece.specs.Held.{HasTouchedBy}
use Rattle.sd_piece.proofs.Touched.{each-next}
use Rattle.sd_piece.proofs.held.has_touched.Goals as goal

pub loop-one-preserved : goal.loop-one-preserved
loop-one-preserved c =
    each-next (HasTouchedBy (map named_container c.args.containers.now.entries) c.args.memory.now c.args.boxes.now) c.args.boxes.now c.loop-one.one-index c.one-item.result c.loop-one-test.true c.one-item.is c.loop-one.invariant
    (c.in_ok-has_touched_by.ensures.0 c.if-not-branch.false)

pub returns : goal.returns
returns c = (λ yes box member. c.loop-one.invariant box (subst (λ l. Contains l box) (sym (take_all c.loop-one.one-index c.args.boxes.now c.loop-one-test.false)) member), λ touched. refl)
