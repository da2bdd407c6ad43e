use Rattle.std.proofs.Common.{◌≡◌, ◌+◌, ◌<◌, drop, length, slice_set, rules, sym, subst, List, ℕ}
use Rattle.sd_list.specs.tally.Nodes.{IsTree}
use Rattle.sd_list.proofs.tally_lemmas.Finding.{written, more-parts}
use Rattle.sd_list.proofs.tally.tally.Tally.push.Goals as goal

pub invariant_of-self : goal.invariant_of-self
invariant_of-self c =
    let nodes = c.self.inside.nodes.items in
    let width = c.self.inside.width in
    let parts = c.self.inside.parts in
    let sized : length c.put.new.nodes ≡ c.self.inside.nodes.len = search rules in
    let leaves : drop width c.put.new.nodes ≡ slice_set (drop width nodes) parts c.args.count = search rules in
    let room : parts < width = search rules in
    subst (λ (new : List ℕ). IsTree new width c.self.inside.depth (parts + 1)) (sym (written c.put.new.nodes nodes c.self.inside.nodes.len sized))
    (more-parts nodes c.put.new.nodes width c.self.inside.depth parts c.args.count c.self.invariant room c.put.ensures.sized c.put.ensures.summed leaves)
