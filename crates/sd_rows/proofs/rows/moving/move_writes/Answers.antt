use Rattle.std.proofs.Common.{◌≡◌, ◌+◌, ◌<◌, ◌≤◌, suc, [], ℕ, map, take, length, sym, ap, ◌∙◌, arith}
use Rattle.std.proofs.lemmas.List.{take_more_set, take_all, get_or_default}
use Rattle.std.proofs.lemmas.Simd.{map-map}
use Rattle.sd_work.specs.Leaf.{Pending}
use Rattle.sd_graph.specs.TaskletMeaning.{Effect}
use Rattle.sd_graph.specs.Unfold.{pending_of}
use Rattle.sd_tcode.specs.tcode.Outputs.{output_effects}
use Rattle.sd_row.specs.declared.row.row.Write.{Write}
use Rattle.sd_row.specs.row.Row.{write_on}
use Rattle.sd_row.proofs.row_lemmas.Filled.{made_more}
use Rattle.sd_row.proofs.instance_lemmas.Matched.{found_so}
use Rattle.sd_rows.proofs.rows_lemmas.RowBetween.{one_more_between, whole_between, as_many}
use Rattle.sd_rows.proofs.rows.moving.move_writes.Goals as goal

pub loop-number-preserved : goal.loop-number-preserved
loop-number-preserved c =
    let writes = c.loop-number.writes in
    let number = c.loop-number.number in
    let write = c.in-Some.write in
    let next : number + 1 ≡ suc number = omega arith in
    let below : number < length writes = omega (arith, c.loop-number-test.true, c.loop-number.auto.writes) in
    let below_near : number < length c.args.near.now = omega (arith, c.loop-number-test.true, c.if-writes-near.false) in
    let below_far : number < length c.args.far.now = omega (arith, c.loop-number-test.true, c.if-writes-far.false) in
    record {
      connectors =
          ap (map (λ (write : Write). write.connector)) (take_more_set writes number write below)
          ∙ sym (made_more (λ (write : Write). write.connector) (λ (write : Write). write.connector) c.args.near.now (take number writes) number _ write below_near (get_or_default c.args.near.now number _ _ below_near)
          (sym c.loop-number.invariant.connectors) (sym (found_so _ c.write_at.result write c.in-Some.is c.write_at.ensures.connector)));
      at = λ steps values context ins outs order value along near far k within.
          let effect : ℕ → Effect = λ connector. record { connector = connector; at = []; value = value connector } in
          let pending : ℕ → ℕ → Pending = λ k connector. pending_of (context k) ins outs (effect connector) in
          map-map (pending_of (context k) ins outs) effect (take (number + 1) order)
          ∙ ap (λ count. map (pending k) (take count order)) next
          ∙ one_more_between (pending 0) (pending c.args.gaps) (pending k) (write_on value c.args.row) (write_on value c.args.row) (write_on value k) order c.args.near.now c.args.far.now writes number _ _ write
          (sym (map-map (pending_of (context 0) ins outs) effect order) ∙ near) (sym (map-map (pending_of (context c.args.gaps) ins outs) effect order) ∙ far)
          below_near (get_or_default c.args.near.now number _ _ below_near) (get_or_default c.args.far.now number _ _ below_far)
          (λ connector low high. found_so _ c.write_at.result write c.in-Some.is c.write_at.ensures.at steps values context ins outs connector value along low high k within)
          (sym (map-map (pending_of (context k) ins outs) effect (take number order)) ∙ c.loop-number.invariant.at steps values context ins outs order value along near far k within)
          ∙ ap (map (write_on value k)) (sym (take_more_set writes number write below));
    }

pub returns-clause-writes : goal.returns-clause-writes
returns-clause-writes c done steps values context ins outs order value along near far k within =
    let writes = c.loop-number.writes in
    let effect : ℕ → Effect = λ connector. record { connector = connector; at = []; value = value connector } in
    let pending : ℕ → ℕ → Pending = λ k connector. pending_of (context k) ins outs (effect connector) in
    let begins = sym (map-map (pending_of (context 0) ins outs) effect order) ∙ near in
    let many : length order ≡ length c.args.near.now = as_many (pending 0) (write_on value c.args.row) order c.args.near.now begins in
    let over : length order ≤ c.loop-number.number = omega (arith, many, c.loop-number-test.false, c.if-writes-near.false) in
    let over_writes : length writes ≤ c.loop-number.number = omega (arith, c.loop-number-test.false, c.loop-number.auto.writes) in
    ap (λ order. map (pending_of (context k) ins outs) (output_effects value order)) (sym (take_all c.loop-number.number order over))
    ∙ c.loop-number.invariant.at steps values context ins outs order value along near far k within
    ∙ ap (map (write_on value k)) (take_all c.loop-number.number writes over_writes)

pub returns-clause-connectors : goal.returns-clause-connectors
returns-clause-connectors c done =
    let writes = c.loop-number.writes in
    let over : length writes ≤ c.loop-number.number = omega (arith, c.loop-number-test.false, c.loop-number.auto.writes) in
    let over_near : length c.args.near.now ≤ c.loop-number.number = omega (arith, c.loop-number-test.false, c.if-writes-near.false) in
    whole_between (λ (write : Write). write.connector) (λ (write : Write). write.connector) writes c.args.near.now c.loop-number.number over over_near c.loop-number.invariant.connectors
