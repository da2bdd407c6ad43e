use Rattle.std.proofs.Common.{◌≡◌, rules, ap, sym, ◌∙◌}
use Rattle.std.specs.List.{sum}
use Rattle.sd_list.specs.tally.Nodes.{node}
use Rattle.sd_list.proofs.tally_lemmas.Sums.{counts-sum}
use Rattle.sd_list.proofs.tally.tally.Tally.sum.Goals as goal

pub returns : goal.returns
returns c =
    let first : c.whole.result ≡ node c.self.inside.nodes.items 1 = search rules in
    first ∙ sym (counts-sum c.self.inside.nodes.items c.self.inside.width c.self.inside.depth c.self.inside.parts c.self.invariant) ∙ ap sum c.self.view_is
