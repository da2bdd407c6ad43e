use Rattle.std.proofs.Common.{◌≡◌, Some, slice_get, sym, ◌∙◌}
use Rattle.sd_leaves.proofs.leaves_lemmas.Lists.{member_there}
use Rattle.sd_row.specs.declared.instance.target.Target.{Target}
use Rattle.sd_row.proofs.instance.performing.target_of.Goals as goal

same : (a b : Target) → Some a ≡ Some b → a ≡ b
same a b is = cc

pub returns-in-Some : goal.returns-in-Some
returns-in-Some c target there =
    let found = c.in-Some.target.now in
    let is : slice_get c.args.targets.now c.args.number ≡ Some found = member_there c.args.targets.now c.args.number found c.in-Some.ensures.lookup.3.0 (c.in-Some.ensures.lookup.3.1 found) in
    same found target (sym is ∙ there)
