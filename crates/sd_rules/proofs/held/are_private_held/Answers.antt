use Rattle.std.proofs.Common.{List, map, ap, sym, ◌∙◌}
use Rattle.std.specs.List.{list_all}
use Rattle.std.proofs.lemmas.List.{length-map}
use Rattle.sd_graph.specs.LoopScope.{numbers_below}
use Rattle.sd_graph.specs.TreeFold.{named_container, state_trees}
use Rattle.sd_graph.specs.declared.graph.Sdfg.{out-Sdfg}
use Rattle.sd_graph.specs.declared.graph.State.{State}
use Rattle.sd_validity.specs.rules.NamesInForce as names
use Rattle.sd_rules.proofs.PrivateHeld.{held_opened}
use Rattle.sd_rules.proofs.held.are_private_held.Goals as goal

pub returns : goal.returns
returns c =
    let entries = (out-Sdfg c.args.graph.now).containers.entries in
    let held = c.as_slice.ensures.value ∙ c.in_ok-held.ensures ∙ ap (λ (states : List State). names.held_in_states (state_trees states)) c.deref.ensures.value in
    let count = c.in_ok-count.ensures ∙ sym (length-map entries named_container) in
    c.are_first_held-are.ensures
    ∙ (λ i. list_all (names.is_private_held (map named_container entries) (held i)) (numbers_below (count i)))
    ∙ sym (held_opened c.args.graph.now)
