use Rattle.std.proofs.Common.{◌≡◌, ◌+◌, ◌++◌, rules, map, string_bytes}
use Rattle.sd_graph.specs.TreeFold.{named_container, state_trees}
use Rattle.sd_lower.specs.Boards.{plain_board, boards_from}
use Rattle.sd_lower.proofs.States.{plain-more, boards-more}
use Rattle.sd_lower.proofs.plan.boards_of.Goals as goal

pub loop-state-preserved : goal.loop-state-preserved
loop-state-preserved c =
    let containers = map named_container c.args.containers.now.entries in
    let variables = map string_bytes c.args.variables.now in
    let all = state_trees c.args.states.now in
    let later : c.in_ok-number.number ≡ c.loop-state.number + 1 = search rules in
    let items : c.append.new.self.items ≡ c.loop-state.boards.items ++ c.in_ok-more.more.items = search rules in
    boards-more containers variables all c.args.workers c.args.states.now c.loop-state.state-index c.loop-state.number c.in_ok-number.number c.state-item.result c.as_slice-items.result.now
    (map plain_board c.loop-state.boards.items) (map plain_board c.in_ok-more.more.items) (map plain_board c.append.new.self.items) (boards_from containers variables all c.args.workers 0 all)
    c.loop-state-test.true c.state-item.is c.as_slice-items.ensures.value later c.loop-state.invariant (c.in_ok-more.ensures all (c.requires.spans c.loop-state.number))
    (plain-more c.loop-state.boards.items c.in_ok-more.more.items c.append.new.self.items items)
