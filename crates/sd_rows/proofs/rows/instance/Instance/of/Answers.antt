use Rattle.std.proofs.Common.{◌≡◌, IsSome, replicate, rules, ap, ◌∙◌}
use Rattle.sd_rows.specs.rows.Code.{IsFit}
use Rattle.sd_rows.specs.rows.Map.{tree_of}
use Rattle.sd_rows.proofs.rows_lemmas.Fresh.{fresh}
use Rattle.sd_rows.proofs.rows.instance.Instance.of.Goals as goal

pub returns-clause-instance : goal.returns-clause-instance
returns-clause-instance c =
    let task = c.args.task.now in
    let tree = tree_of task in
    let fit : IsFit tree task.ins.now task.outs.now = search rules in
    let plain : IsSome c.in_ok-code.code.plain = search rules in
    let wide : c.as_slice.result.now ≡ replicate c.in_ok-code.code.layout.inputs 1 = c.as_slice.ensures.value ∙ c.in_ok-widest.ensures ∙ ap (λ n. replicate n 1) c.input_count.ensures.count in
    fresh tree task.ins.now task.outs.now c.in_ok-code.code c.in_ok-frame.frame c.as_slice.result.now fit c.in_ok-code.ensures plain
    (c.in_ok-frame.ensures.ready tree c.in_ok-code.ensures) wide c.in_ok-frame.ensures.given
