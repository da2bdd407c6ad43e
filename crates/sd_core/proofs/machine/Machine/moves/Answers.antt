use Rattle.std.proofs.Common.{length, ap, ◌∙◌, subst}
use Rattle.sd_work.specs.Step.{next_moves}
use Rattle.sd_core.specs.Kept.{Kept, machine_of, kept_of, IsSound}
use Rattle.sd_core.proofs.Stepping.{told-moves, none-left}
use Rattle.sd_core.proofs.machine.Machine.moves.Goals as goal

pub returns-in-Some-clause-moves : goal.returns-in-Some-clause-moves
returns-in-Some-clause-moves c =
    c.moves_of_run.ensures ∙ told-moves (kept_of c.self.inside) c.in-Some.run' c.in-Some.is c.self.invariant ∙ ap (λ (kept : Kept). length (next_moves (machine_of kept))) c.self.view_is

pub returns-in-Some-clause-none : goal.returns-in-Some-clause-none
returns-in-Some-clause-none c =
    none-left (machine_of c.args.self.now) c.moves_of_run.result (subst IsSound c.self.view_is c.self.invariant).formed
    (c.moves_of_run.ensures ∙ told-moves (kept_of c.self.inside) c.in-Some.run' c.in-Some.is c.self.invariant ∙ ap (λ (kept : Kept). length (next_moves (machine_of kept))) c.self.view_is)
