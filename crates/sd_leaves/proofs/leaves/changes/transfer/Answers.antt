use Rattle.std.proofs.Common.{ℤ, [], ◌∷◌, Option, option_map, sym, ◌∙◌, subst, rules, FitsSigned, w64}
use Rattle.std.proofs.lemmas.Int.{to_z-of_z}
use Rattle.sd_work.specs.Leaf.{write_value}
use Rattle.sd_mem.specs.machine.Stack.{reference_of}
use Rattle.sd_mem.specs.declared.machine.address.Address.{Address}
use Rattle.sd_leaves.specs.leaves.Cells.{transferring}
use Rattle.sd_leaves.specs.leaves.Done.{IsDone, performing}
use Rattle.sd_leaves.proofs.leaves_lemmas.Doing.{transfer_goes}
use Rattle.sd_leaves.proofs.leaves.changes.transfer.Goals as goal

pub returns : goal.returns
returns c =
    let now = c.args.machine.now in
    let fits : FitsSigned w64 c.look-value.result = search rules in
    let to = option_map reference_of c.args.to in
    let written = subst (λ (value : ℤ). IsDone (performing (write_value value to c.args.by ∷ [])) now c.write.result c.write.new.machine)
    (to_z-of_z w64 c.look-value.result fits ∙ c.look-value.ensures) c.write.ensures in
    subst (λ (from : Option Address). IsDone (performing (transferring c.args.by (from, c.args.to) ∷ [])) now c.write.result c.write.new.machine) (sym c.in-Some.is)
    (transfer_goes c.args.by now (reference_of c.in-Some.from) to c.write.result c.write.new.machine written)
