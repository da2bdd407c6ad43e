use Rattle.std.proofs.Common.{rules, ◌≡◌, ◌++◌, ◌∙◌, ap, arith}
use Rattle.sd_piece.specs.Piece.{value_count}
use Rattle.sd_crew.specs.Places.{item_places}
use Rattle.sd_crew.proofs.Items.{kind-at}
use Rattle.sd_crew.proofs.Placed.{places-kept}
use Rattle.sd_crew.proofs.places.places_of.Goals as goal

pub loop-number-preserved : goal.loop-number-preserved
loop-number-preserved c =
    let less = c.loop-number-test.true in
    let found = c.index-items-number.result in
    let same : c.in_ok-item.item ≡ c.loop-number.number = search rules in
    let count = c.in_ok-count.ensures.is ∙ ap (value_count c.args.values.now) (kind-at c.args.items.now c.loop-number.number found c.index-items-number.is) in
    places-kept c.args.state c.args.values.now c.args.workers c.args.items.now c.loop-number.number found c.loop-number.places.items c.push_places.new.places.items _ (omega (arith, less)) c.index-items-number.is
    c.loop-number.invariant
    (c.in_ok-push_places.ensures ∙ (λ i. c.loop-number.places.items ++ item_places c.args.state (same i) (count i) c.args.workers))
