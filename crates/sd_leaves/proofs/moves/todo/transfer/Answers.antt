use Rattle.std.proofs.Common.{ℤ, Option, Some, option_map, sym, ◌∙◌, subst, rules, FitsSigned, w64}
use Rattle.std.proofs.lemmas.Int.{to_z-of_z}
use Rattle.sd_work.specs.Memory.{seen}
use Rattle.sd_work.specs.Leaf.{doing}
use Rattle.sd_work.specs.LeafMove.{write_move}
use Rattle.sd_mem.specs.machine.Stack.{reference_of}
use Rattle.sd_mem.specs.declared.machine.address.Address.{Address}
use Rattle.sd_leaves.specs.moves.Moved.{IsMoved, end_if}
use Rattle.sd_leaves.proofs.moves.todo.transfer.Goals as goal

pub returns : goal.returns
returns c = λ place left old.
    let now = c.args.machine.now in
    let fits : FitsSigned w64 c.look-value.result = search rules in
    let to = option_map reference_of c.args.to in
    let written = subst (λ (value : ℤ). IsMoved (write_move place (Some value) to c.args.by left) old now (end_if c.write.result place) c.write.new.machine (doing left))
    (to_z-of_z w64 c.look-value.result fits ∙ c.look-value.ensures) (c.write.ensures place left old) in
    subst (λ (from : Option Address). IsMoved (write_move place (seen (option_map reference_of from) now.memories) to c.args.by left) old now (end_if c.write.result place) c.write.new.machine (doing left))
    (sym c.in-Some.is) written
