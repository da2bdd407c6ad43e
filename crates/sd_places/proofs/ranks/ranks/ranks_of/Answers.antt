use Rattle.std.proofs.Common.{◌≡◌, List, length, rules, ap, sym, ◌∙◌}
use Rattle.sd_graph.specs.TreeFold.{state_trees}
use Rattle.sd_graph.specs.declared.graph.Sdfg.{out-Sdfg}
use Rattle.sd_graph.specs.declared.graph.State.{State}
use Rattle.sd_validity.specs.rules.Ranks.{namings, ranked}
use Rattle.sd_places.proofs.ranks_lemmas.Ranked.{ranks_opened}
use Rattle.sd_places.proofs.ranks.ranks.ranks_of.Goals as goal

pub returns : goal.returns
returns c =
    let count : c.len.result ≡ length (out-Sdfg c.args.graph.now).variables.items = search rules in
    let names = c.deref-2.ensures.value ∙ c.in_ok-all.ensures ∙ ap (λ (states : List State). namings (state_trees states)) c.deref.ensures.value in
    c.in_ok-table.ensures ∙ (λ i. ranked (names i) (count i) 7) ∙ sym (ranks_opened c.args.graph.now)
