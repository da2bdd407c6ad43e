use Rattle.std.proofs.Common.{◌++◌, drop, sym, ◌∙◌, ap}
use Rattle.std.proofs.lemmas.List.{append-nil}
use Rattle.sd_part.proofs.HullLists.{joined_none}
use Rattle.sd_part.proofs.hulls.joined_each.Goals as goal

pub returns-in-None : goal.returns-in-None
returns-in-None c =
    let all = c.loop-one.all.items in
    c.from.ensures
    ∙ sym (append-nil all)
    ∙ ap (λ l. all ++ l) (sym (joined_none (drop c.loop-one.one-index c.args.ones.now) c.loop-one.left.now c.in-None.ensures.cases))
    ∙ c.loop-one.invariant
