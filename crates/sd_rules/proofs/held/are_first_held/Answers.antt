use Rattle.std.proofs.Common.{map, sym, ◌∙◌}
use Rattle.sd_graph.specs.TreeFold.{named_container}
use Rattle.sd_validity.specs.rules.NamesInForce as names
use Rattle.sd_rules.proofs.Below.{all_more, fails_below}
use Rattle.sd_rules.proofs.held.are_first_held.Goals as goal

pub loop-number-preserved : goal.loop-number-preserved
loop-number-preserved c =
    all_more (names.is_private_held (map named_container c.args.containers.now.entries) c.args.held.now) c.loop-number.number c.loop-number.invariant
    (sym c.is_private_held.ensures ∙ c.if-not-is_private_held.false)

pub returns-then-not-is_private_held : goal.returns-then-not-is_private_held
returns-then-not-is_private_held c =
    sym (fails_below (names.is_private_held (map named_container c.args.containers.now.entries) c.args.held.now) c.args.count c.loop-number.number c.loop-number-test.true
    (sym c.is_private_held.ensures ∙ c.if-not-is_private_held.true))
