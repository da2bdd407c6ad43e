use Rattle.std.specs.Prelude.{Option, Some}
use Rattle.std.proofs.Common.{◌≡◌, ◌<◌, ◌+◌, ℕ, List, length, map, sym, ap, ◌∙◌, subst, arith}
use Rattle.sd_work.specs.Step.{Outcome, opening, next_moves, step}
use Rattle.sd_work.specs.Run.{Left}
use Rattle.sd_graph.specs.TreeFold.{graph_tree}
use Rattle.sd_graph.specs.Unfold.{run_of}
use Rattle.sd_graph.specs.declared.place.Place.{Place}
use Rattle.sd_seq.specs.declared.run_end.RunEnd.{RunEnd}
use Rattle.sd_core.specs.Kept.{machine_of}
use Rattle.sd_core.specs.Stepped.{place_by, IsStepEnd}
use Rattle.sd_core.proofs.Reached.{pair_of, IsTold, written, goes-on, reached-over, told-over, reached-more, told-more, reached-released, told-released, reached-stop, told-stop}
use Rattle.sd_core.proofs.run.run_traced.Goals as goal

pub returns-then-moves-eq0 : goal.returns-then-moves-eq0
returns-then-moves-eq0 c =
    let from = opening (run_of (graph_tree c.args.bound.now.graph) c.args.memory.contents) c.args.turns in
    let now = machine_of c.loop-count.machine in
    let none : length (next_moves now) ≡ 0 = omega (arith, c.moves-moves.ensures.moves, c.if-moves-eq0.true) in
    record {
      looks = c.loop-count.count + 1;
      runs = reached-over c.args.picks.now c.loop-count.count from now none c.loop-count.invariant.reached ∙ ap (λ (outcome : Outcome Place Left). Some outcome) (sym c.end_of-end.ensures);
      traces = told-over c.args.picks.now c.loop-count.count from now (map pair_of c.loop-count.trace.items) none c.loop-count.invariant.told;
    }

pub returns-in-Some : goal.returns-in-Some
returns-in-Some c =
    let from = opening (run_of (graph_tree c.args.bound.now.graph) c.args.memory.contents) c.args.turns in
    let now = machine_of c.loop-count.machine in
    let pick = c.pick_at-pick.result in
    let some : 0 < length (next_moves now) = omega (arith, c.moves-moves.ensures.moves, c.if-moves-eq0.false) in
    let stops = subst (λ (found : Option RunEnd). IsStepEnd (step (place_by pick now) now) (machine_of c.end_by.new.machine) found) c.in-Some.is c.in_ok-found.ensures in
    record {
      looks = c.loop-count.count + 1;
      runs = reached-stop c.args.picks.now c.loop-count.count from now pick c.pick_at-pick.ensures some c.in-Some.end stops c.loop-count.invariant.reached;
      traces =
          told-stop c.args.picks.now c.loop-count.count from now pick c.pick_at-pick.ensures some c.in-Some.end stops (map pair_of c.loop-count.trace.items) c.loop-count.invariant.told
          ∙ sym (written c.loop-count.trace.items c.push.new.self.items pick c.moves-moves.result (length (next_moves now)) c.in_ok-push.ensures.items c.moves-moves.ensures.moves);
    }

pub loop-count-preserved : goal.loop-count-preserved
loop-count-preserved c =
    let from = opening (run_of (graph_tree c.args.bound.now.graph) c.args.memory.contents) c.args.turns in
    let now = machine_of c.loop-count.machine in
    let next = machine_of c.end_by.new.machine in
    let pick = c.pick_at-pick.result in
    let some : 0 < length (next_moves now) = omega (arith, c.moves-moves.ensures.moves, c.if-moves-eq0.false) in
    let made = goes-on (step (place_by pick now) now) next c.in_ok-found.found c.in_default.not-Some c.in_ok-found.ensures in
    let count = c.loop-count.count + 1 in
    let left = machine_of c.release.new.self in
    let released = c.in_ok-release.ensures.released in
    let turns = c.release.ensures.turns in
    record {
      reached = reached-released c.args.picks.now count from next left released turns (reached-more c.args.picks.now c.loop-count.count from now pick c.pick_at-pick.ensures some next made c.loop-count.invariant.reached);
      told =
          subst (λ (trace : List (ℕ × ℕ)). IsTold c.args.picks.now count from left trace)
          (sym (written c.loop-count.trace.items c.push.new.self.items pick c.moves-moves.result (length (next_moves now)) c.in_ok-push.ensures.items c.moves-moves.ensures.moves))
          (told-released c.args.picks.now count from next left released turns _
          (told-more c.args.picks.now c.loop-count.count from now pick c.pick_at-pick.ensures some next made (map pair_of c.loop-count.trace.items) c.loop-count.invariant.told));
    }
