use Rattle.std.proofs.Common.{ℤ, refl, sym, ◌∙◌, subst, rules, arith, w64, FitsSigned, to_z, of_z, ◌≡◌}
use Rattle.std.proofs.lemmas.Int.{to_z-of_z}
use Rattle.sd_num.specs.Width.{wrapped_to}
use Rattle.sd_graph.specs.TreeFold.{graph_tree}
use Rattle.sd_graph.specs.Context.{place_at}
use Rattle.sd_tcode.specs.tcode.Held.{given}
use Rattle.sd_mem.specs.machine.ComesTo.{IsEnd}
use Rattle.sd_mem.specs.declared.machine.end.End.TheVariants as ends
use Rattle.sd_scope.specs.scope.Standing.{context_of}
use Rattle.sd_row.specs.row.Point.{below}
use Rattle.sd_row.proofs.row_lemmas.Instances.{over_kept}
use Rattle.sd_rows.specs.consume.Body.{IsBody}
use Rattle.sd_rows.specs.consume.Own.{HasValue}
use Rattle.sd_rows.specs.consume.Pool.{inside, element_width, pool_memory, pool_coming}
use Rattle.sd_rows.proofs.consume_lemmas.Bodies.{body_stays}
use Rattle.sd_rows.proofs.consume_lemmas.Takes.{no_value}
use Rattle.sd_rows.proofs.consume_lemmas.Pools.{value_held, over_taken, pool_ends, value_unpaid, value_done, value_fails}
use Rattle.sd_rows.proofs.consume.taking.take_values.Goals as goal

pub loop-init : goal.loop-init
loop-init c = record {
  left = λ pool held element is width over. record { comes = λ most outcome after. after most; depth = refl; turns = omega arith };
  over = λ pool held element is width over. over;
  code = refl;
  ready = c.requires.ready;
  singles = c.requires.singles;
  extents = refl;
  variables = refl;
}

pub returns-in_default : goal.returns-in_default
returns-in_default c pool held element is width over =
    pool_ends pool held (below c.args.machine.now) c.loop.machine c.take.new.self c.args.from c.take.result is.level is.container (c.loop.invariant.over pool held element is width over) c.take.ensures.memories c.take.ensures.turns c.take.ensures.oldest
    (c.loop.invariant.left pool held element is width over) (no_value c.take.result c.in_default.not-Some)

pub returns-then-not-pay : goal.returns-then-not-pay
returns-then-not-pay c pool held element is width over =
    let none = c.if-not-pay.ensures.none (search rules) in
    value_unpaid pool held (below c.args.machine.now) c.loop.machine c.take.new.self c.args.from c.take.result is.level is.container (c.loop.invariant.over pool held element is width over) c.take.ensures.memories c.take.ensures.turns c.take.ensures.oldest
    (c.loop.invariant.left pool held element is width over) c.in-Some.value c.in-Some.is c.pay.new.self c.pay.ensures.memories none.1 none.2

pub returns-in-Some-fault : goal.returns-in-Some-fault
returns-in-Some-fault c pool held element is width over =
    let held_now = c.loop.invariant.over pool held element is width over in
    let context = context_of (graph_tree c.args.graph.now) c.args.base.now c.args.inner.now in
    let value : ℤ = c.in-Some.value in
    let fits : FitsSigned w64 value = search rules in
    let body : IsBody pool.tree pool.ins c.args.outs.now c.loop.runner.code (given c.loop.runner.frame) context =
    body_stays pool.tree pool.ins c.args.outs.now c.args.runner.now.code c.loop.runner.code (given c.args.runner.now.frame) (given c.loop.runner.frame) context c.loop.invariant.code c.loop.invariant.extents c.loop.invariant.variables is.body in
    let over_paid = over_kept (pool_memory pool held) c.take.new.self c.pay.new.self c.pay.ensures.memories (over_taken pool held (below c.args.machine.now) c.loop.machine c.take.new.self c.args.from c.take.result is.level is.container held_now c.take.ensures.memories c.take.ensures.turns c.take.ensures.oldest
    (c.loop.invariant.left pool held element is width over)) in
    let shown : to_z w64 (of_z w64 c.wrap-shown.result) ≡ wrapped_to (element_width pool) value =
    to_z-of_z w64 c.wrap-shown.result (record { sfits = c.wrap-shown.type_inv }) ∙ c.wrap-shown.ensures ∙ (λ i. wrapped_to (width i) (to_z-of_z w64 value fits i)) in
    let holds = subst (HasValue (pool_memory pool value) element) (sym shown) (value_held pool element value is.same_element is.there) in
    let done = c.in_ok-fault.ensures.done context pool.tree pool.ins element (pool_memory pool value) (pool_memory pool held) body is.known is.outward is.inputs holds over_paid in
    subst (λ (v : ℤ). IsEnd (pool_coming pool (below c.args.machine.now)) (below c.args.machine.now) (ends.Fault (place_at (inside pool v) pool.line) c.in-Some-fault.kind) (below c.run_element.new.machine)) (sym (to_z-of_z w64 value fits))
    (value_fails pool held (below c.args.machine.now) c.loop.machine c.take.new.self c.args.from c.take.result is.level is.container held_now c.take.ensures.memories c.take.ensures.turns c.take.ensures.oldest
    (c.loop.invariant.left pool held element is width over) value c.in-Some.is c.pay.new.self c.run_element.new.machine context c.args.outs.now is.first is.stands is.same_outs c.pay.ensures.memories (c.if-not-pay.ensures.paid (search rules))
    c.in_ok-fault.fault c.in-Some-fault.kind c.in-Some-fault.is done)

pub loop-preserved : goal.loop-preserved
loop-preserved c = record {
  left = λ pool held element is width over.
      let held_now = c.loop.invariant.over pool held element is width over in
      let context = context_of (graph_tree c.args.graph.now) c.args.base.now c.args.inner.now in
      let value : ℤ = c.in-Some.value in
      let fits : FitsSigned w64 value = search rules in
      let body : IsBody pool.tree pool.ins c.args.outs.now c.loop.runner.code (given c.loop.runner.frame) context =
      body_stays pool.tree pool.ins c.args.outs.now c.args.runner.now.code c.loop.runner.code (given c.args.runner.now.frame) (given c.loop.runner.frame) context c.loop.invariant.code c.loop.invariant.extents c.loop.invariant.variables is.body in
      let over_paid = over_kept (pool_memory pool held) c.take.new.self c.pay.new.self c.pay.ensures.memories (over_taken pool held (below c.args.machine.now) c.loop.machine c.take.new.self c.args.from c.take.result is.level is.container held_now c.take.ensures.memories c.take.ensures.turns c.take.ensures.oldest
      (c.loop.invariant.left pool held element is width over)) in
      let shown : to_z w64 (of_z w64 c.wrap-shown.result) ≡ wrapped_to (element_width pool) value =
      to_z-of_z w64 c.wrap-shown.result (record { sfits = c.wrap-shown.type_inv }) ∙ c.wrap-shown.ensures ∙ (λ i. wrapped_to (width i) (to_z-of_z w64 value fits i)) in
      let holds = subst (HasValue (pool_memory pool value) element) (sym shown) (value_held pool element value is.same_element is.there) in
      let done = c.in_ok-fault.ensures.done context pool.tree pool.ins element (pool_memory pool value) (pool_memory pool held) body is.known is.outward is.inputs holds over_paid in
      value_done pool held (below c.args.machine.now) c.loop.machine c.take.new.self c.args.from c.take.result is.level is.container held_now c.take.ensures.memories c.take.ensures.turns c.take.ensures.oldest
      (c.loop.invariant.left pool held element is width over) value c.in-Some.is c.pay.new.self c.run_element.new.machine context c.args.outs.now is.first is.stands is.same_outs c.pay.ensures.memories (c.if-not-pay.ensures.paid (search rules))
      c.in_ok-fault.fault (search rules) done;
  over = λ pool held element is width over.
      let held_now = c.loop.invariant.over pool held element is width over in
      let context = context_of (graph_tree c.args.graph.now) c.args.base.now c.args.inner.now in
      let body : IsBody pool.tree pool.ins c.args.outs.now c.loop.runner.code (given c.loop.runner.frame) context =
      body_stays pool.tree pool.ins c.args.outs.now c.args.runner.now.code c.loop.runner.code (given c.args.runner.now.frame) (given c.loop.runner.frame) context c.loop.invariant.code c.loop.invariant.extents c.loop.invariant.variables is.body in
      let over_paid = over_kept (pool_memory pool held) c.take.new.self c.pay.new.self c.pay.ensures.memories (over_taken pool held (below c.args.machine.now) c.loop.machine c.take.new.self c.args.from c.take.result is.level is.container held_now c.take.ensures.memories c.take.ensures.turns c.take.ensures.oldest
      (c.loop.invariant.left pool held element is width over)) in
      c.in_ok-fault.ensures.own context pool.tree pool.ins (pool_memory pool held) body is.known is.outward (search rules) over_paid;
  code = c.loop.invariant.code;
  ready = c.in_ok-fault.ensures.ready;
  singles = c.in_ok-fault.ensures.singles;
  extents = c.in_ok-fault.ensures.extents ∙ c.loop.invariant.extents;
  variables = c.in_ok-fault.ensures.variables ∙ c.loop.invariant.variables;
}
