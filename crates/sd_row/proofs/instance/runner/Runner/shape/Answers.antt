use Rattle.std.proofs.Common.{◌≡◌, ◌+◌, ◌++◌, map, take, length, IsTrue, rules}
use Rattle.sd_graph.specs.PlainTree.{GraphTree}
use Rattle.sd_graph.specs.Context.{link_extents}
use Rattle.sd_tcode.specs.tcode.Held.{given}
use Rattle.sd_scope.specs.scope.Standing.{context_of}
use Rattle.sd_scope.specs.declared.scope.base.Base.{Base}
use Rattle.sd_row.proofs.instance_lemmas.Zeros.{runner_again, runner_all, both_set}
use Rattle.sd_row.proofs.instance_lemmas.Matched.{ok_both}
use Rattle.sd_row.proofs.instance.runner.Runner.shape.Goals as goal

pub returns-then-not-branch-clause-runner : goal.returns-then-not-branch-clause-runner
returns-then-not-branch-clause-runner c tree runner =
    runner_again tree c.args.ins.now c.args.outs.now c.args.self.now.code c.args.self.now.frame c.shape_links.new.frame runner
    c.in_ok-shape_links.ensures.values c.in_ok-shape_links.ensures.variables c.in_ok-shape_links.ensures.count (c.in_ok-shape_links.ensures.ready c.args.self.now.code)

pub returns-clause-extents : goal.returns-clause-extents
returns-clause-extents c tree runner =
    let ins = c.args.ins.now in
    let outs = c.args.outs.now in
    let middle = given c.shape_links.new.frame in
    let inputs : c.in-Ok.inputs ≡ length ins = search rules in
    let done : IsTrue c.in_ok-shape_links.field-0 = search rules in
    let new = given c.shape_links-2.new.frame in
    ok_both (λ done. IsTrue done → (program : GraphTree) (base : Base) → take (c.in-Ok.inputs + length outs) new.extents ≡ take c.in-Ok.inputs middle.extents ++ map (link_extents (context_of program base c.args.scope.now)) outs)
    (length new.extents ≡ length middle.extents) (λ done. IsTrue done → (program : GraphTree) (base : Base) → new.extents ≡ map (link_extents (context_of program base c.args.scope.now)) (ins ++ outs)) c.shape_links-2.result
    (λ last set many yes program base.
    both_set (link_extents (context_of program base c.args.scope.now)) ins outs (given c.args.self.now.frame).extents middle.extents new.extents c.in-Ok.inputs inputs runner.connectors
    (c.in_ok-shape_links.ensures.extents done program base) (set yes program base) c.in_ok-shape_links.ensures.count many)
    c.shape_links-2.ensures.extents c.shape_links-2.ensures.count

pub returns-clause-runner : goal.returns-clause-runner
returns-clause-runner c tree runner =
    runner_all tree c.args.ins.now c.args.outs.now c.args.self.now.code c.shape_links.new.frame c.shape_links-2.new.frame c.shape_links-2.result
    (runner_again tree c.args.ins.now c.args.outs.now c.args.self.now.code c.args.self.now.frame c.shape_links.new.frame runner
    c.in_ok-shape_links.ensures.values c.in_ok-shape_links.ensures.variables c.in_ok-shape_links.ensures.count (c.in_ok-shape_links.ensures.ready c.args.self.now.code))
    c.shape_links-2.ensures.values c.shape_links-2.ensures.variables c.shape_links-2.ensures.count c.shape_links-2.ensures.ready
