use Rattle.std.proofs.Common.{◌≡◌, ◌-◌, length, ◌∷◌, ap, ◌∙◌, rules}
use Rattle.sd_work.specs.BigStep.{Reached}
use Rattle.sd_mem.proofs.machine_lemmas.Stacks.{lent}
use Rattle.sd_mem.proofs.machine.machine.Machine.lend.Goals as goal

pub returns-clause-memories : goal.returns-clause-memories
returns-clause-memories c =
    let last : c.len-last.result - 1 ≡ length c.self.inside.memories.items = search rules in
    lent c.self.inside.memories.items c.push.new.self.items c.empty.result c.args.own.now c.swap.new.x (c.len-last.result - 1)
    c.in_ok-push.ensures.items last c.swap.ensures.x_after
    ∙ ap (λ (reached : Reached). c.args.own.now.contents ∷ reached.memories) c.self.view_is
