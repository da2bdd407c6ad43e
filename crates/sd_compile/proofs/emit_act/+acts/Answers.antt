use Rattle.std.proofs.Common.{◌≡◌, ◌∙◌, ◌++◌, ap, subst, length, ◌+◌, List}
use Rattle.std.proofs.lemmas.Result.{on_ok_weaker}
use Rattle.sd_graph.specs.declared.tasklet.Act.{Act}
use Rattle.sd_graph.specs.TreeFold.{value_tree, act_tree, act_trees}
use Rattle.sd_tasklet.proofs.tasklet_lemmas.Acts.{when_tree}
use Rattle.sd_tcode.specs.tcode.Emitted as emitted
use Rattle.sd_tcode.specs.declared.op.op.Op.TheVariants.{Skip}
use Rattle.sd_compile.specs.Jumps.{with_count}
use Rattle.sd_compile.proofs.Joined.{choice_joined, condition_either}
use Rattle.sd_compile.proofs.emit_act.+acts.Goals as goal

pub emit_act-returns-in_ok-emit_acts-in-When-2 : goal.emit_act-returns-in_ok-emit_acts-in-When-2
emit_act-returns-in_ok-emit_acts-in-When-2 t c =
    let layout = c.args.layout in
    let ops = c.args.ops.now.items in
    let when = value_tree c.in-When.when in
    let free = emitted.free_register layout in
    let first = emitted.acts_code c.args.plain layout (act_trees c.in-When.body.items) in
    let second = emitted.acts_code c.args.plain layout (act_trees c.in-When.other.items) in
    let before = emitted.condition_code layout free when (emitted.value_code layout free (free + 1) when) in
    let e0 : c.emit_condition.new.ops.items ≡ ops ++ before =
    subst (λ n. c.emit_condition.new.ops.items ≡ ops ++ emitted.condition_code layout n when (emitted.value_code layout n (n + 1) when)) c.in_ok-free_register-in-When.ensures c.in_ok-jump-in-When.ensures.code in
    let e2 : c.emit_acts.new.ops.items ≡ c.put.new.ops.items ++ first =
    subst (λ (l : List Act). c.emit_acts.new.ops.items ≡ c.put.new.ops.items ++ emitted.acts_code c.args.plain layout (act_trees l)) c.deref-in-When.ensures.value c.in_ok-emit_acts-in-When.ensures in
    let e4 : c.emit_acts-in-When.new.ops.items ≡ c.put-in-When.new.ops.items ++ second =
    subst (λ (l : List Act). c.emit_acts-in-When.new.ops.items ≡ c.put-in-When.new.ops.items ++ emitted.acts_code c.args.plain layout (act_trees l)) c.deref-in-When-2.ensures.value c.in_ok-emit_acts-in-When-2.ensures in
    let m1 : c.len-test.result ≡ length c.emit_condition.new.ops.items = c.len-test.ensures ∙ c.emit_condition.new.ops.ok.0 in
    let m2 : c.len-middle.result ≡ length c.emit_acts.new.ops.items = c.len-middle.ensures ∙ c.emit_acts.new.ops.ok.0 in
    let tree = ap act_tree c.in-When.is ∙ when_tree c.in-When.when c.in-When.body c.in-When.other in
    let jump = c.in_ok-jump-in-When.jump in
    let jump_is : jump ≡ emitted.condition_op layout free when 0 =
    subst (λ n. jump ≡ emitted.condition_op layout n when 0) c.in_ok-free_register-in-When.ensures c.in_ok-jump-in-When.ensures.jump in
    let joins = choice_joined ops before first second c.emit_condition.new.ops.items c.put.new.ops.items c.emit_acts.new.ops.items c.put-in-When.new.ops.items c.emit_acts-in-When.new.ops.items jump (Skip 0)
    (with_count jump) c.len-test.result c.len-middle.result e0 m1 c.in_ok-put-in-When.ensures e2 m2 c.in_ok-put-in-When-2.ensures e4 in
    on_ok_weaker c.join.result (λ e. rw tree (e ∙ joins ∙ ap (λ l. ops ++ (before ++ l)) (condition_either layout free when jump first second jump_is))) c.join.ensures
