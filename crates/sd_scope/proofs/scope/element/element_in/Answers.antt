use Rattle.std.proofs.Common.{rules, pos, sym, ◌∙◌}
use Rattle.sd_scope.proofs.scope_lemmas.Found.{found_all, not_found, stopped, arrived}
use Rattle.sd_scope.proofs.scope.element.element_in.Goals as goal

pub returns-then-extents-index : goal.returns-then-extents-index
returns-then-extents-index c =
    sym (not_found 0 c.args.extents.now c.args.index.now (search rules)) ∙ found_all c.args.extents.now c.args.index.now

pub returns-in_default : goal.returns-in_default
returns-in_default c =
    let told = rw c.from.ensures at c.in_ok-next.ensures in
    sym (stopped c.loop-i.place c.args.extents.now c.args.index.now c.loop-i.i 0 (pos 0) (search rules) (search rules) (sym c.in_default.is ∙ told))
    ∙ c.loop-i.invariant.left
    ∙ found_all c.args.extents.now c.args.index.now

pub returns : goal.returns
returns c =
    sym (arrived c.loop-i.place c.args.extents.now c.args.index.now c.loop-i.i (search rules) (search rules))
    ∙ c.loop-i.invariant.left
    ∙ found_all c.args.extents.now c.args.index.now
