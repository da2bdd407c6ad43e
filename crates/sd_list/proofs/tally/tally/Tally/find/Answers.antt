use Rattle.std.proofs.Common.{◌≡◌, ◌+◌, ◌<◌, take, drop, rules, ap, sym, ◌∙◌, subst, arith, List, ℕ}
use Rattle.std.specs.List.{sum}
use Rattle.sd_list.specs.tally.Nodes.{node}
use Rattle.sd_list.specs.tally.Found.{IsFound}
use Rattle.sd_list.proofs.tally_lemmas.Sums.{counts-sum}
use Rattle.sd_list.proofs.tally_lemmas.Finding.{part-before, part-inside}
use Rattle.sd_list.proofs.tally.tally.Tally.find.Goals as goal

pub returns-then-unit-whole : goal.returns-then-unit-whole
returns-then-unit-whole c =
    let first : c.whole.result ≡ node c.self.inside.nodes.items 1 = search rules in
    let all : node c.self.inside.nodes.items 1 ≡ sum c.args.self.now =
    sym (counts-sum c.self.inside.nodes.items c.self.inside.width c.self.inside.depth c.self.inside.parts c.self.invariant) ∙ ap sum c.self.view_is in
    omega (arith, first, all, c.if-unit-whole.true)

pub returns : goal.returns
returns c =
    let nodes = c.self.inside.nodes.items in
    let width = c.self.inside.width in
    let found = c.find_leaf.result in
    let before : sum (take found.number (drop width nodes)) + found.rest ≡ c.args.unit = search rules in
    let inside : found.rest < node nodes (width + found.number) = search rules in
    subst (λ (counts : List ℕ). IsFound counts c.args.unit found) c.self.view_is
    (record {
      before = omega (arith, before, part-before nodes width c.self.inside.depth c.self.inside.parts c.self.invariant found.number found.rest inside);
      inside = part-inside nodes width c.self.inside.depth c.self.inside.parts c.self.invariant found.number found.rest inside;
    })
