use Rattle.std.specs.Prelude.{Some}
use Rattle.std.proofs.Common.{refl, sym, ◌∙◌, subst}
use Rattle.sd_core.specs.Kept.{Kept, machine_of, kept_of}
use Rattle.sd_core.specs.Released.{IsReleased}
use Rattle.sd_core.proofs.Stepping.{nothing-released, term-released, sound-released}
use Rattle.sd_core.proofs.machine.Machine.release.Goals as goal

pub returns-in_default-clause-released : goal.returns-in_default-clause-released
returns-in_default-clause-released c =
    let new : Kept = record { graph = c.self.inside.graph.now; base = c.self.inside.base; run = c.take.new.self; stack = c.self.inside.stack } in
    subst (λ (kept : Kept). IsReleased (machine_of kept).term (machine_of new).term) c.self.view_is
    (nothing-released (kept_of c.self.inside) new (sym c.take.ensures.value ∙ c.in_default.is) c.take.ensures.after refl)

pub returns-clause-released : goal.returns-clause-released
returns-clause-released c =
    let new : Kept = record { graph = c.self.inside.graph.now; base = c.self.inside.base; run = Some c.release_run.new.run; stack = c.self.inside.stack } in
    subst (λ (kept : Kept). IsReleased (machine_of kept).term (machine_of new).term) c.self.view_is
    (term-released (kept_of c.self.inside) c.in-Some.run' c.release_run.new.run (sym c.take.ensures.value ∙ c.in-Some.is) c.self.invariant c.in_ok-release_run.ensures)

pub invariant_of-self-2 : goal.invariant_of-self-2
invariant_of-self-2 c =
    sound-released (kept_of c.self.inside) c.in-Some.run' c.release_run.new.run (sym c.take.ensures.value ∙ c.in-Some.is) c.self.invariant c.in_ok-release_run.ensures
