use Rattle.std.proofs.Common.{◌≡◌, ◌++◌, ◌∷◌, [], map, get_or, ap, sym, ◌∙◌}
use Rattle.std.proofs.lemmas.List.{get_or_default}
use Rattle.std.proofs.lemmas.Simd.{map-map}
use Rattle.sd_graph.specs.Unfold.{pending_of}
use Rattle.sd_row.specs.declared.row.row.Write.{Write}
use Rattle.sd_row.specs.row.Row.{write_on}
use Rattle.sd_row.proofs.row_lemmas.Filled.{made_more, made_whole, same_list}
use Rattle.sd_row.proofs.instance_lemmas.Matched.{found_so}
use Rattle.sd_rows.proofs.rows.between.writes_of.Goals as goal

pub loop-connector-preserved : goal.loop-connector-preserved
loop-connector-preserved c =
    let order = c.args.order.now in
    let writes = c.loop-connector.writes.items in
    let write = c.in-Some.write in
    let number = c.loop-connector.connector-index in
    let member = get_or order number 0 in
    let items : c.push.new.self.items ≡ writes ++ write ∷ [] = c.in_ok-push.ensures.items in
    let is = get_or_default order number _ _ c.loop-connector-test.true in
    let here = found_so _ c.in_ok-write.field-0 write c.in-Some.is c.in_ok-write.ensures.connector in
    record {
      at = λ steps values context way k within value.
          made_more (λ connector. pending_of (context k) c.args.task.now.ins.now c.args.task.now.outs.now (record { connector = connector; at = []; value = value connector })) (write_on value k) order writes number member write c.loop-connector-test.true is
          (c.loop-connector.invariant.at steps values context way k within value)
          (found_so _ c.in_ok-write.field-0 write c.in-Some.is c.in_ok-write.ensures.at steps values context way k within value)
          ∙ ap (map (write_on value k)) (sym items);
      order = made_more (λ connector. connector) (λ (write : Write). write.connector) order writes number member write c.loop-connector-test.true is c.loop-connector.invariant.order (sym here)
          ∙ ap (map (λ (write : Write). write.connector)) (sym items);
    }

pub returns-clause-at : goal.returns-clause-at
returns-clause-at c steps values context way k within value =
    let order = c.args.order.now in
    map-map (pending_of (context k) c.args.task.now.ins.now c.args.task.now.outs.now) (λ connector. record { connector = connector; at = []; value = value connector }) order
    ∙ made_whole (λ connector. pending_of (context k) c.args.task.now.ins.now c.args.task.now.outs.now (record { connector = connector; at = []; value = value connector })) (write_on value k) order c.loop-connector.writes.items
    c.loop-connector.connector-index c.loop-connector-test.false (c.loop-connector.invariant.at steps values context way k within value)

pub returns-clause-order : goal.returns-clause-order
returns-clause-order c =
    sym (made_whole (λ connector. connector) (λ (write : Write). write.connector) c.args.order.now c.loop-connector.writes.items c.loop-connector.connector-index c.loop-connector-test.false c.loop-connector.invariant.order)
    ∙ same_list c.args.order.now
