use Rattle.std.specs.Prelude.{◌<◌, length, Some}
use Rattle.std.proofs.Common.{sym, ap, ◌∙◌, subst, arith}
use Rattle.sd_work.specs.Step.{next_moves}
use Rattle.sd_core.specs.declared.stepped.Stepped.TheVariants as answers
use Rattle.sd_core.specs.Kept.{Kept, machine_of, kept_of}
use Rattle.sd_core.specs.Stepped.{IsStepped}
use Rattle.sd_core.proofs.Stepping.{faults, spends, sound-behind, ends-done, goes-on}
use Rattle.sd_core.proofs.machine.Machine.step.Goals as goal

pub returns-in-Fault-clause-stepped : goal.returns-in-Fault-clause-stepped
returns-in-Fault-clause-stepped c =
    subst (λ (kept : Kept). IsStepped (machine_of kept) c.args.pick (answers.Fault c.in-Fault.place c.in-Fault.kind) (machine_of (record { graph = c.self.inside.graph.now; base = c.self.inside.base; run = c.take.new.self; stack = c.fire_run.new.machine }))) c.self.view_is
    (faults (kept_of c.self.inside) c.in-Some.run' (sym c.take.ensures.value ∙ c.in-Some.is) c.self.invariant c.args.pick c.moves-moves.result
    (subst (λ (kept : Kept). 0 < length (next_moves (machine_of kept))) (sym c.self.view_is) c.requires)
    (c.moves-moves.ensures.moves ∙ ap (λ (kept : Kept). length (next_moves (machine_of kept))) (sym c.self.view_is))
    c.deref.result.now (λ tree reach around memories right counted below. c.deref.ensures.value ∙ c.in_ok-place.ensures tree reach around memories right counted below)
    c.in_ok-fire_run.field-0 c.fire_run.new.machine c.fire_run.new.run c.in_ok-fire_run.ensures
    (record { graph = c.self.inside.graph.now; base = c.self.inside.base; run = c.take.new.self; stack = c.fire_run.new.machine }) c.in-Fault.place c.in-Fault.kind c.in-Fault.is c.take.ensures.after)

pub returns-in-OutOfTurns-clause-stepped : goal.returns-in-OutOfTurns-clause-stepped
returns-in-OutOfTurns-clause-stepped c =
    subst (λ (kept : Kept). IsStepped (machine_of kept) c.args.pick answers.Spent (machine_of (record { graph = c.self.inside.graph.now; base = c.self.inside.base; run = c.take.new.self; stack = c.fire_run.new.machine }))) c.self.view_is
    (spends (kept_of c.self.inside) c.in-Some.run' (sym c.take.ensures.value ∙ c.in-Some.is) c.self.invariant c.args.pick c.moves-moves.result
    (subst (λ (kept : Kept). 0 < length (next_moves (machine_of kept))) (sym c.self.view_is) c.requires)
    (c.moves-moves.ensures.moves ∙ ap (λ (kept : Kept). length (next_moves (machine_of kept))) (sym c.self.view_is))
    c.deref.result.now (λ tree reach around memories right counted below. c.deref.ensures.value ∙ c.in_ok-place.ensures tree reach around memories right counted below)
    c.in_ok-fire_run.field-0 c.fire_run.new.machine c.fire_run.new.run c.in_ok-fire_run.ensures
    (record { graph = c.self.inside.graph.now; base = c.self.inside.base; run = c.take.new.self; stack = c.fire_run.new.machine }) c.in-OutOfTurns.is c.take.ensures.after)

pub invariant_of-self-then-left-eq0 : goal.invariant_of-self-then-left-eq0
invariant_of-self-then-left-eq0 c =
    sound-behind (kept_of c.self.inside) c.in-Some.run' (sym c.take.ensures.value ∙ c.in-Some.is) c.self.invariant c.args.pick c.moves-moves.result
    (subst (λ (kept : Kept). 0 < length (next_moves (machine_of kept))) (sym c.self.view_is) c.requires)
    (c.moves-moves.ensures.moves ∙ ap (λ (kept : Kept). length (next_moves (machine_of kept))) (sym c.self.view_is))
    c.deref.result.now (λ tree reach around memories right counted below. c.deref.ensures.value ∙ c.in_ok-place.ensures tree reach around memories right counted below)
    c.in_ok-fire_run.field-0 c.fire_run.new.machine c.fire_run.new.run c.in_ok-fire_run.ensures
    c.settle_run.new.run c.settle_run.new.machine c.in-Finished.is c.in_ok-settle_run.ensures.settled c.in_ok-settle_run.ensures.counted c.in_ok-settle_run.ensures.right c.settle_run.ensures.stays

pub returns-then-left-eq0-clause-stepped : goal.returns-then-left-eq0-clause-stepped
returns-then-left-eq0-clause-stepped c =
    subst (λ (kept : Kept). IsStepped (machine_of kept) c.args.pick answers.Done (machine_of (record { graph = c.self.inside.graph.now; base = c.self.inside.base; run = Some c.settle_run.new.run; stack = c.settle_run.new.machine }))) c.self.view_is
    (ends-done (kept_of c.self.inside) c.in-Some.run' (sym c.take.ensures.value ∙ c.in-Some.is) c.self.invariant c.args.pick c.moves-moves.result
    (subst (λ (kept : Kept). 0 < length (next_moves (machine_of kept))) (sym c.self.view_is) c.requires)
    (c.moves-moves.ensures.moves ∙ ap (λ (kept : Kept). length (next_moves (machine_of kept))) (sym c.self.view_is))
    c.deref.result.now (λ tree reach around memories right counted below. c.deref.ensures.value ∙ c.in_ok-place.ensures tree reach around memories right counted below)
    c.in_ok-fire_run.field-0 c.fire_run.new.machine c.fire_run.new.run c.in_ok-fire_run.ensures
    c.settle_run.new.run c.settle_run.new.machine c.in-Finished.is c.in_ok-settle_run.ensures.settled c.in_ok-settle_run.ensures.counted c.in_ok-settle_run.ensures.right c.settle_run.ensures.stays
    c.moves_of_run-left.result c.moves_of_run-left.ensures c.if-left-eq0.true)

pub invariant_of-self-2 : goal.invariant_of-self-2
invariant_of-self-2 c =
    sound-behind (kept_of c.self.inside) c.in-Some.run' (sym c.take.ensures.value ∙ c.in-Some.is) c.self.invariant c.args.pick c.moves-moves.result
    (subst (λ (kept : Kept). 0 < length (next_moves (machine_of kept))) (sym c.self.view_is) c.requires)
    (c.moves-moves.ensures.moves ∙ ap (λ (kept : Kept). length (next_moves (machine_of kept))) (sym c.self.view_is))
    c.deref.result.now (λ tree reach around memories right counted below. c.deref.ensures.value ∙ c.in_ok-place.ensures tree reach around memories right counted below)
    c.in_ok-fire_run.field-0 c.fire_run.new.machine c.fire_run.new.run c.in_ok-fire_run.ensures
    c.settle_run.new.run c.settle_run.new.machine c.in-Finished.is c.in_ok-settle_run.ensures.settled c.in_ok-settle_run.ensures.counted c.in_ok-settle_run.ensures.right c.settle_run.ensures.stays

pub returns-clause-stepped : goal.returns-clause-stepped
returns-clause-stepped c =
    subst (λ (kept : Kept). IsStepped (machine_of kept) c.args.pick answers.Moved (machine_of (record { graph = c.self.inside.graph.now; base = c.self.inside.base; run = Some c.settle_run.new.run; stack = c.settle_run.new.machine }))) c.self.view_is
    (goes-on (kept_of c.self.inside) c.in-Some.run' (sym c.take.ensures.value ∙ c.in-Some.is) c.self.invariant c.args.pick c.moves-moves.result
    (subst (λ (kept : Kept). 0 < length (next_moves (machine_of kept))) (sym c.self.view_is) c.requires)
    (c.moves-moves.ensures.moves ∙ ap (λ (kept : Kept). length (next_moves (machine_of kept))) (sym c.self.view_is))
    c.deref.result.now (λ tree reach around memories right counted below. c.deref.ensures.value ∙ c.in_ok-place.ensures tree reach around memories right counted below)
    c.in_ok-fire_run.field-0 c.fire_run.new.machine c.fire_run.new.run c.in_ok-fire_run.ensures
    c.settle_run.new.run c.settle_run.new.machine c.in-Finished.is c.in_ok-settle_run.ensures.settled c.in_ok-settle_run.ensures.counted c.in_ok-settle_run.ensures.right c.settle_run.ensures.stays
    c.moves_of_run-left.result c.moves_of_run-left.ensures (omega (arith, c.if-left-eq0.false)))
