use Rattle.std.specs.Prelude.{Option, Some}
use Rattle.std.proofs.Common.{◌+◌, sym, ap, ◌∙◌, subst, arith}
use Rattle.sd_work.specs.Step.{Outcome, opening, step}
use Rattle.sd_work.specs.Run.{Left}
use Rattle.sd_graph.specs.TreeFold.{graph_tree}
use Rattle.sd_graph.specs.Unfold.{run_of}
use Rattle.sd_graph.specs.declared.place.Place.{Place}
use Rattle.sd_seq.specs.declared.run_end.RunEnd.{RunEnd}
use Rattle.sd_core.specs.Kept.{machine_of}
use Rattle.sd_core.specs.Stepped.{place_by, IsStepEnd}
use Rattle.sd_core.proofs.Reached.{goes-on, reached-over, reached-more, reached-released, reached-stop}
use Rattle.sd_core.proofs.run.run_by.Goals as goal

pub returns-then-moves-eq0 : goal.returns-then-moves-eq0
returns-then-moves-eq0 c =
    let from = opening (run_of (graph_tree c.args.bound.now.graph) c.args.memory.contents) c.args.turns in (
      c.loop-number.number + 1,
      reached-over c.args.picks.now c.loop-number.number from (machine_of c.loop-number.machine) (omega (arith, c.moves.ensures.moves, c.if-moves-eq0.true)) c.loop-number.invariant
          ∙ ap (λ (outcome : Outcome Place Left). Some outcome) (sym c.end_of.ensures),
    )

pub returns-in-Some : goal.returns-in-Some
returns-in-Some c =
    let from = opening (run_of (graph_tree c.args.bound.now.graph) c.args.memory.contents) c.args.turns in
    let now = machine_of c.loop-number.machine in
    let pick = c.pick_at-pick.result in (
      c.loop-number.number + 1,
      reached-stop c.args.picks.now c.loop-number.number from now pick c.pick_at-pick.ensures (omega (arith, c.moves.ensures.moves, c.if-moves-eq0.false)) c.in-Some.end
          (subst (λ (found : Option RunEnd). IsStepEnd (step (place_by pick now) now) (machine_of c.end_by.new.machine) found) c.in-Some.is c.in_ok-end.ensures) c.loop-number.invariant,
    )

pub loop-number-preserved : goal.loop-number-preserved
loop-number-preserved c =
    let from = opening (run_of (graph_tree c.args.bound.now.graph) c.args.memory.contents) c.args.turns in
    let now = machine_of c.loop-number.machine in
    let pick = c.pick_at-pick.result in
    let next = machine_of c.end_by.new.machine in
    reached-released c.args.picks.now (c.loop-number.number + 1) from next (machine_of c.release.new.self) c.in_ok-release.ensures.released c.release.ensures.turns
    (reached-more c.args.picks.now c.loop-number.number from now pick c.pick_at-pick.ensures (omega (arith, c.moves.ensures.moves, c.if-moves-eq0.false)) next
    (goes-on (step (place_by pick now) now) next c.in_ok-end.field-0 c.in_default.not-Some c.in_ok-end.ensures) c.loop-number.invariant)
