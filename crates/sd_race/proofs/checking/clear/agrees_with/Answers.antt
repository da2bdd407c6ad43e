use Rattle.std.proofs.Common.{◌≡◌, false, ap, sym, ◌∙◌}
use Rattle.sd_graph.specs.Mode.{do_conflict}
use Rattle.sd_wire.specs.wiring.Mentioned.{mode_of}
use Rattle.sd_race.specs.declared.checking.placed.Placed.{Placed}
use Rattle.sd_race.proofs.checking_lemmas.Clearing.{all-next, all-whole}
use Rattle.sd_race.proofs.checking.clear.agrees_with.Goals as goal

pub loop-one-preserved : goal.loop-one-preserved
loop-one-preserved c =
    all-next (λ (one : Placed). do_conflict (mode_of c.args.mode) one.access.now.mode ≡ false) c.args.items.now c.loop-one.one-index c.one-item.result c.loop-one-test.true c.one-item.is c.loop-one.invariant
    (ap (do_conflict (mode_of c.args.mode)) (sym c.mode.ensures) ∙ sym c.do_conflict.ensures ∙ c.if-do_conflict.false)

pub returns : goal.returns
returns c = λ yes. all-whole (λ (one : Placed). do_conflict (mode_of c.args.mode) one.access.now.mode ≡ false) c.args.items.now c.loop-one.one-index c.loop-one-test.false c.loop-one.invariant
