use Rattle.std.proofs.Common.{◌≡◌, ◌∙◌, ℕ, ◌++◌, [], ◌∷◌, ap, sym, subst, length, ◌+◌, true, false}
use Rattle.std.proofs.lemmas.Result.{on_ok_weaker}
use Rattle.sd_graph.specs.declared.tasklet.Value.{Value}
use Rattle.sd_graph.specs.TreeFold.{value_tree}
use Rattle.sd_tcode.specs.tcode.Emitted as emitted
use Rattle.sd_tcode.specs.declared.op.op.Op.TheVariants.{Skip, Copy}
use Rattle.sd_compile.specs.Jumps.{with_count}
use Rattle.sd_compile.proofs.Joined.{joined, choice_joined, is_jumped, test_counted, either_counted, condition_either}
use Rattle.sd_compile.proofs.Values.{choice_tree}
use Rattle.sd_compile.proofs.emit.+values.Goals as goal

pub emit_value-returns-in_ok-emit_value-in-Choice-2 : goal.emit_value-returns-in_ok-emit_value-in-Choice-2
emit_value-returns-in_ok-emit_value-in-Choice-2 t c =
    let ops = c.args.ops.now.items in
    let when = value_tree c.in-Choice.when.value in
    let first = emitted.value_code c.args.layout c.args.to c.args.free (value_tree c.in-Choice.value.value) in
    let second = emitted.value_code c.args.layout c.args.to c.args.free (value_tree c.in-Choice.other.value) in
    let before = emitted.condition_code c.args.layout c.args.free when (emitted.value_code c.args.layout c.args.free (c.args.free + 1) when) in
    let e0 : c.emit_condition.new.ops.items ≡ ops ++ before =
    subst (λ (v : Value). c.emit_condition.new.ops.items ≡ ops ++ emitted.condition_code c.args.layout c.args.free (value_tree v) (emitted.value_code c.args.layout c.args.free (c.args.free + 1) (value_tree v))) c.deref-in-Choice.ensures c.in_ok-jump-in-Choice.ensures.code in
    let e2 : c.emit_value.new.ops.items ≡ c.put-in-Choice.new.ops.items ++ first =
    subst (λ (v : Value). c.emit_value.new.ops.items ≡ c.put-in-Choice.new.ops.items ++ emitted.value_code c.args.layout c.args.to c.args.free (value_tree v)) c.deref-in-Choice-2.ensures c.in_ok-emit_value-in-Choice.ensures in
    let e4 : c.emit_value-in-Choice.new.ops.items ≡ c.put-in-Choice-2.new.ops.items ++ second =
    subst (λ (v : Value). c.emit_value-in-Choice.new.ops.items ≡ c.put-in-Choice-2.new.ops.items ++ emitted.value_code c.args.layout c.args.to c.args.free (value_tree v)) c.deref-in-Choice-3.ensures c.in_ok-emit_value-in-Choice-2.ensures in
    let m1 : c.len-test.result ≡ length c.emit_condition.new.ops.items = c.len-test.ensures ∙ c.emit_condition.new.ops.ok.0 in
    let m2 : c.len-middle.result ≡ length c.emit_value.new.ops.items = c.len-middle.ensures ∙ c.emit_value.new.ops.ok.0 in
    let tree = ap value_tree c.in-Choice.is ∙ choice_tree c.in-Choice.value c.in-Choice.when c.in-Choice.other in
    let jump = c.in_ok-jump-in-Choice.jump in
    let jump_is : jump ≡ emitted.condition_op c.args.layout c.args.free when 0 =
    subst (λ (v : Value). jump ≡ emitted.condition_op c.args.layout c.args.free (value_tree v) 0) c.deref-in-Choice.ensures c.in_ok-jump-in-Choice.ensures.jump in
    let joins = choice_joined ops before first second c.emit_condition.new.ops.items c.put-in-Choice.new.ops.items c.emit_value.new.ops.items c.put-in-Choice-2.new.ops.items c.emit_value-in-Choice.new.ops.items jump (Skip 0)
    (with_count jump) c.len-test.result c.len-middle.result e0 m1 c.in_ok-put-in-Choice.ensures e2 m2 c.in_ok-put-in-Choice-2.ensures e4 in
    on_ok_weaker c.join.result (λ e. rw tree (e ∙ joins ∙ ap (λ l. ops ++ (before ++ l)) (condition_either c.args.layout c.args.free when jump first second jump_is))) c.join.ensures

pub emit_second-returns-then-not-is_ready : goal.emit_second-returns-then-not-is_ready
emit_second-returns-then-not-is_ready t c =
    let ops = c.args.ops.now.items in
    let right = value_tree c.args.right.now in
    let first = emitted.value_code c.args.layout c.args.to c.args.free right in
    let m1 : c.len-test.result ≡ length ops = c.len-test.ensures ∙ c.args.ops.now.ok.0 in
    let m2 : c.len-middle.result ≡ length c.emit_value.new.ops.items = c.len-middle.ensures ∙ c.emit_value.new.ops.ok.0 in
    let joins = joined ops first (Copy c.args.to c.args.left ∷ []) c.put.new.ops.items c.emit_value.new.ops.items c.put-then-not-is_ready.new.ops.items c.put-then-not-is_ready-2.new.ops.items c.test_op-jump.result (Skip 0)
    (with_count c.test_op-jump.result) c.len-test.result c.len-middle.result m1 c.in_ok-put.ensures c.in_ok-emit_value.ensures m2 c.in_ok-put-2.ensures c.in_ok-put-3.ensures in
    let lazy : emitted.is_lazy c.args.sign ≡ true = sym c.is_lazy.ensures ∙ c.if-is_lazy.true in
    let open_right : emitted.is_ready right ≡ false = sym c.is_ready.ensures ∙ c.if-not-is_ready.true in
    let test = emitted.test_op (emitted.jumps_where c.args.sign) c.args.left in
    let counted : (count : ℕ) → with_count c.test_op-jump.result count ≡ test count =
    λ count. ap (λ jump. with_count jump count) (c.test_op-jump.ensures ∙ ap (λ b. emitted.test_op b c.args.left 0) c.jumps_where.ensures) ∙ test_counted (emitted.jumps_where c.args.sign) c.args.left count in
    let same = is_jumped c.args.sign c.args.left c.args.to (emitted.operand_register c.args.layout c.args.free right) right first (emitted.value_code c.args.layout c.args.free (c.args.free + 1) right) lazy open_right in
    on_ok_weaker c.join.result (λ e. e ∙ joins ∙ ap (λ l. ops ++ l) (either_counted c.test_op-jump.result test first (Copy c.args.to c.args.left ∷ []) counted) ∙ ap (λ l. ops ++ l) same) c.join.ensures
