use Rattle.std.proofs.Common.{refl, sym, ap, ◌∙◌, subst}
use Rattle.sd_work.specs.BigStep.{Reached}
use Rattle.sd_mem.specs.machine.Stack.{IsPaid}
use Rattle.sd_mem.specs.mem.Shaped.{Shaped}
use Rattle.sd_graph.specs.TreeFold.{graph_tree}
use Rattle.sd_graph.specs.TreeParts.{containers_of}
use Rattle.sd_scope.specs.scope.Standing.{opening_reach}
use Rattle.sd_left.specs.left.Kept.{body_kept, run_kept}
use Rattle.sd_fire.proofs.advance_lemmas.Runs.{over, over_memory, kept_over, run_rolled, own_of}
use Rattle.sd_fire.proofs.advance_lemmas.GoingOn.{run_with, state_begins}
use Rattle.sd_fire.proofs.advance.going.enter_state.Goals as goal

pub returns-clause-entered : goal.returns-clause-entered
returns-clause-entered c =
    let tree = graph_tree c.args.graph.now in
    let run = c.args.run.now in
    let next = c.in_ok-next.next in
    let own = c.swap.new.x in (
      c.pay.ensures.memories ∙ ap (λ (now : Reached). now.memories) c.begin_state.ensures.stays,
      subst (λ (now : Reached). IsPaid c.args.entry.marked now.turns c.pay.new.self.turns) c.begin_state.ensures.stays (c.if-not-pay.ensures.paid refl),
      state_begins _ c.args.entry.state c.args.entry.values.items tree (opening_reach (containers_of tree) c.args.base.now) c.args.base.now.around (body_kept next) c.empty-none.result.contents (run_kept run).body.own
          (run_rolled (record { state = c.args.entry.state; ended = _; body = over next own })
          ∙ ap (run_with c.args.entry.state) (kept_over next own ∙ ap (over_memory (body_kept next)) (ap (λ (memory : Shaped). memory.contents) c.swap.ensures.x_after ∙ sym (own_of run))))
          c.in_ok-next.ensures.begun,
    )
