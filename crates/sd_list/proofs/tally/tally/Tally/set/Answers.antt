use Rattle.std.proofs.Common.{◌≡◌, take, drop, length, slice_set, rules, ap, ◌∙◌, List, ℕ, arith}
use Rattle.std.proofs.Math.Seq.{take-set-lt}
use Rattle.sd_list.proofs.tally_lemmas.Finding.{written}
use Rattle.sd_list.proofs.tally.tally.Tally.set.Goals as goal

pub returns-clause-ok : goal.returns-clause-ok
returns-clause-ok c =
    let nodes = c.self.inside.nodes.items in
    let width = c.self.inside.width in
    let parts = c.self.inside.parts in
    let sized : length c.put.new.nodes ≡ c.self.inside.nodes.len = search rules in
    let leaves : drop width c.put.new.nodes ≡ slice_set (drop width nodes) c.args.number c.args.count = search rules in
    ap (λ (new : List ℕ). take parts (drop width new)) (written c.put.new.nodes nodes c.self.inside.nodes.len sized)
    ∙ ap (take parts) leaves
    ∙ take-set-lt parts (drop width nodes) c.args.number c.args.count (omega (arith, c.if-number-self.false))
    ∙ ap (λ (counts : List ℕ). slice_set counts c.args.number c.args.count) c.self.view_is
