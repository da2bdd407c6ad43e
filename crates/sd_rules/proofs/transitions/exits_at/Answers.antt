use Rattle.std.proofs.Common.{◌<◌, ◌≤◌, List, length, map, ap, sym, ◌∙◌, arith}
use Rattle.sd_graph.specs.TreeFold.{exit_tree}
use Rattle.sd_graph.specs.declared.exit.Exit.{Exit}
use Rattle.sd_graph.specs.declared.graph.State.{State, out-State}
use Rattle.sd_wire.proofs.loops_lemmas.States.{exits_opened}
use Rattle.sd_rules.proofs.States.{exits_beyond}
use Rattle.sd_rules.proofs.transitions.exits_at.Goals as goal

pub returns-then-at-states : goal.returns-then-at-states
returns-then-at-states c =
    let below : c.args.number < length c.args.states.now = omega arith in
    ap (λ (exits : List Exit). map exit_tree exits) c.as_slice.ensures.value
    ∙ ap (λ (state : State). map exit_tree (out-State state).exits.items) (sym c.index-states-at.is)
    ∙ sym (exits_opened c.args.states.now c.args.number c.index-states-at.result below c.index-states-at.is)

pub returns-else-at-states : goal.returns-else-at-states
returns-else-at-states c =
    let beyond : length c.args.states.now ≤ c.args.number = omega arith in
    sym (exits_beyond c.args.states.now c.args.number beyond)
