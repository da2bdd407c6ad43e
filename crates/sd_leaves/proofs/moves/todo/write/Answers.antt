use Rattle.std.proofs.Common.{◌≡◌, Option, Some, option_map, sym, ap, ◌∙◌, subst, rules, FitsSigned, to_z, of_z, w64}
use Rattle.std.proofs.lemmas.Int.{to_z-of_z}
use Rattle.sd_work.specs.Change.{apply, write}
use Rattle.sd_work.specs.Leaf.{doing}
use Rattle.sd_work.specs.LeafMove.{write_move}
use Rattle.sd_mem.specs.machine.Stack.{reference_of}
use Rattle.sd_mem.specs.declared.machine.address.Address.{Address}
use Rattle.sd_mem.specs.declared.machine.end.End.TheVariants.{Finished}
use Rattle.sd_leaves.specs.moves.Moved.{IsMoved}
use Rattle.sd_leaves.proofs.moves_lemmas.Comings.{written}
use Rattle.sd_leaves.proofs.moves.todo.write.Goals as goal

pub returns : goal.returns
returns c = λ place left old.
    let now = c.args.machine.now in
    let fits : FitsSigned w64 c.args.value = search rules in
    let to = reference_of c.in-Some.to in
    let same : c.write.new.self.memories ≡ apply (write to c.args.by (to_z w64 (of_z w64 c.args.value))) now.memories = c.write.ensures.memories in
    subst (λ (to : Option Address). IsMoved (write_move place (Some c.args.value) (option_map reference_of to) c.args.by left) old now Finished c.write.new.self (doing left)) (sym c.in-Some.is)
    (written place left old now c.args.by c.args.value to c.write.new.self (same ∙ ap (λ value. apply (write to c.args.by value) now.memories) (to_z-of_z w64 c.args.value fits)) c.write.ensures.turns)
