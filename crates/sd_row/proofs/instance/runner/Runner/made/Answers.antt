use Rattle.std.proofs.Common.{◌≡◌, replicate, rules, ap, ◌∙◌}
use Rattle.sd_graph.specs.TreeFold.{tasklet_tree}
use Rattle.sd_row.specs.instance.Fit.{AreFor}
use Rattle.sd_row.proofs.instance_lemmas.Zeros.{made}
use Rattle.sd_row.proofs.instance.runner.Runner.made.Goals as goal

pub returns : goal.returns
returns c =
    let tree = tasklet_tree c.args.tasklet.now in
    let links : AreFor tree c.args.ins.now c.args.outs.now = search rules in
    let wide : c.as_slice.result.now ≡ replicate c.in_ok-code.code.layout.inputs 1 = c.as_slice.ensures.value ∙ c.in_ok-widest.ensures ∙ ap (λ n. replicate n 1) c.input_count.ensures.count in
    made tree c.args.ins.now c.args.outs.now c.in_ok-code.code c.in_ok-frame.frame c.as_slice.result.now c.in_ok-code.ensures links
    (c.in_ok-frame.ensures.ready tree c.in_ok-code.ensures) wide c.in_ok-frame.ensures.given
