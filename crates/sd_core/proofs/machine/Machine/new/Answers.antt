use Rattle.std.proofs.Common.{◌≡◌, [], drop, true, sym, ap, ◌∙◌, subst}
use Rattle.sd_work.specs.Memory.{Memories}
use Rattle.sd_work.specs.BigStep.{Reached}
use Rattle.sd_work.specs.WellFormed.{IsWellFormed}
use Rattle.sd_graph.specs.TreeFold.{graph_tree}
use Rattle.sd_graph.specs.TreeParts.{containers_of}
use Rattle.sd_scope.specs.scope.Standing.{opening_reach}
use Rattle.sd_left.specs.tree.Standing.{run_left}
use Rattle.sd_left.specs.left.Kept.{run_kept}
use Rattle.sd_left.specs.left.Waits.{is_run_counted}
use Rattle.sd_core.proofs.Machines.{opening-formed, opened}
use Rattle.sd_core.proofs.machine.Machine.new.Goals as goal

pub invariant_of-result : goal.invariant_of-result
invariant_of-result c =
    let tree = graph_tree c.args.bound.now.graph in
    let base = c.outermost-base.result in
    let reach = opening_reach (containers_of tree) base in
    let right = c.in_ok-run.ensures.right in
    let nowhere : c.begin_run.new.machine.memories ≡ [] =
    ap (λ (now : Reached). now.memories) c.begin_run.ensures.stays ∙ c.give_back.ensures.memories ∙ ap (λ (m : Memories). drop 1 m) c.in_ok-stack.ensures.memories in
    let turns : c.settle_run.new.machine.turns ≡ c.args.turns =
    ap (λ (now : Reached). now.turns) (c.settle_run.ensures.stays ∙ c.begin_run.ensures.stays) ∙ c.give_back.ensures.turns ∙ c.in_ok-stack.ensures.turns in
    let is = opened tree base c.args.memory.contents (run_left (run_kept c.in_ok-run.run') tree reach base.around) (run_left (run_kept c.settle_run.new.run) tree reach base.around)
    c.begin_run.new.machine.memories c.settle_run.new.machine.turns c.args.turns c.outermost-base.ensures.ways c.outermost-base.ensures.around nowhere
    c.in_ok-run.ensures.begun (c.in_ok-settle_run.ensures.settled tree reach base.around right) turns in
    record {
      run = record {
        right = c.in_ok-settle_run.ensures.right right;
        counted = subst (λ (m : Memories). is_run_counted c.settle_run.new.run m ≡ true) nowhere (c.in_ok-settle_run.ensures.counted right);
        memories = ap (λ (now : Reached). now.memories) c.settle_run.ensures.stays ∙ nowhere;
      };
      formed = subst IsWellFormed (sym is) (opening-formed tree c.args.memory.contents c.args.turns);
    }

pub returns : goal.returns
returns c =
    let tree = graph_tree c.args.bound.now.graph in
    let base = c.outermost-base.result in
    let reach = opening_reach (containers_of tree) base in
    let right = c.in_ok-run.ensures.right in
    let nowhere : c.begin_run.new.machine.memories ≡ [] =
    ap (λ (now : Reached). now.memories) c.begin_run.ensures.stays ∙ c.give_back.ensures.memories ∙ ap (λ (m : Memories). drop 1 m) c.in_ok-stack.ensures.memories in
    let turns : c.settle_run.new.machine.turns ≡ c.args.turns =
    ap (λ (now : Reached). now.turns) (c.settle_run.ensures.stays ∙ c.begin_run.ensures.stays) ∙ c.give_back.ensures.turns ∙ c.in_ok-stack.ensures.turns in
    opened tree base c.args.memory.contents (run_left (run_kept c.in_ok-run.run') tree reach base.around) (run_left (run_kept c.settle_run.new.run) tree reach base.around)
    c.begin_run.new.machine.memories c.settle_run.new.machine.turns c.args.turns c.outermost-base.ensures.ways c.outermost-base.ensures.around nowhere
    c.in_ok-run.ensures.begun (c.in_ok-settle_run.ensures.settled tree reach base.around right) turns
