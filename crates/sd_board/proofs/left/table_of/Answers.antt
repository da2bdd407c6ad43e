use Rattle.std.proofs.Common.{◌≡◌, ◌<◌, length, min, arith, ◌∙◌, ap, subst}
use Rattle.sd_board.proofs.Counts.{all-rows}
use Rattle.sd_board.proofs.left.table_of.Goals as goal

pub returns : goal.returns
returns c =
    let order = c.args.order.now in
    let last : c.loop-item.item ≡ c.min-rows.result = (let over = c.loop-item-test.false in let end = c.loop-item.auto in grind arith) in
    let rows : c.min-rows.result ≡ min order.count (length order.table.items) = c.min-rows.ensures ∙ ap (λ n. min order.count n) (c.len.ensures ∙ order.table.ok.0) in
    let all : length c.loop-item.left.items ≡ c.loop-item.item = c.loop-item.invariant.rows in
    all-rows order c.args.items.now c.args.marks.now c.loop-item.left.items (all ∙ last ∙ rows)
    (λ item within. c.loop-item.invariant.counted item (subst (λ n. item < n) all within))
