use Rattle.std.proofs.Common.{map, subst, sym, List, ℕ, ◌+◌, arith}
use Rattle.sd_order.specs.table.Told.{told}
use Rattle.sd_left.specs.left.Telling.{flags_told, ready_moves}
use Rattle.sd_left.specs.left.Tells.{tells}
use Rattle.sd_left.proofs.left_lemmas.Readiness.{CountedUpTo, one-more, all-counted, member-there}
use Rattle.sd_left.proofs.left.count.moves_of_parts.Goals as goal

pub loop-number-preserved : goal.loop-number-preserved
loop-number-preserved c =
    let parts = c.args.parts.now in
    let number = c.loop-number.number in
    let before = told c.args.order.now in
    let flags = flags_told (map tells parts) in
    let whole = ready_moves before flags 0 (map tells parts) in
    let there = member-there parts number c.loop-number-test.true in
    subst (λ (done : List ℕ). CountedUpTo tells parts before flags whole (number + 1) done) (sym c.in_ok-push.ensures.items)
    (one-more tells parts before flags whole number c.loop-number.moves.items there.0 c.in_ok-here.here c.loop-number-test.true there.1 (c.in_ok-here.ensures there.0 there.1) c.loop-number.invariant)

pub returns : goal.returns
returns c =
    let parts = c.args.parts.now in
    let before = told c.args.order.now in
    let flags = flags_told (map tells parts) in
    all-counted tells parts before flags (ready_moves before flags 0 (map tells parts)) c.loop-number.number c.loop-number.moves.items (omega (arith, c.loop-number-test.false)) c.loop-number.invariant
