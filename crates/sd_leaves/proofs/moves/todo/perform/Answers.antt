use Rattle.std.proofs.Common.{◌≡◌, ℤ, option_map, sym, ap, ◌∙◌, subst, rules, FitsSigned, to_z, of_z, w64}
use Rattle.std.proofs.lemmas.Int.{to_z-of_z}
use Rattle.sd_work.specs.Change.{apply, push}
use Rattle.sd_work.specs.Leaf.{doing, write_value}
use Rattle.sd_work.specs.LeafMove.{do_move}
use Rattle.sd_mem.specs.machine.Stack.{reference_of}
use Rattle.sd_mem.specs.declared.machine.end.End.TheVariants.{Finished}
use Rattle.sd_leaves.specs.declared.moves.todo.Todo.{Todo}
use Rattle.sd_leaves.specs.moves.Left.{told}
use Rattle.sd_leaves.specs.moves.Moved.{IsMoved, end_if}
use Rattle.sd_leaves.proofs.moves_lemmas.Comings.{pushed}
use Rattle.sd_leaves.proofs.moves.todo.perform.Goals as goal

pub returns-in-Write : goal.returns-in-Write
returns-in-Write c = λ place left old.
    let now = c.args.machine.now in
    let value = c.in-Write.value in
    let fits : FitsSigned w64 value = search rules in
    let done = subst (λ (value : ℤ). IsMoved (do_move place (write_value value (option_map reference_of c.in-Write.to) c.in-Write.by) now.memories left) old now (end_if c.write.result place) c.write.new.machine (doing left))
    (to_z-of_z w64 value fits) (c.write.ensures place left old) in
    subst (λ (todo : Todo). IsMoved (do_move place (told todo) now.memories left) old now (end_if c.write.result place) c.write.new.machine (doing left)) (sym c.in-Write.is) done

pub returns-in-Transfer : goal.returns-in-Transfer
returns-in-Transfer c = λ place left old.
    subst (λ (todo : Todo). IsMoved (do_move place (told todo) c.args.machine.now.memories left) old c.args.machine.now (end_if c.transfer.result place) c.transfer.new.machine (doing left)) (sym c.in-Transfer.is)
    (c.transfer.ensures place left old)

pub returns-in_ok-push-in-Push : goal.returns-in_ok-push-in-Push
returns-in_ok-push-in-Push c = λ place left old.
    let now = c.args.machine.now in
    let station = c.in-Push.station in
    let value = c.in-Push.value in
    let fits : FitsSigned w64 value = search rules in
    let same : c.push.new.self.memories ≡ apply (push station.level station.container (to_z w64 (of_z w64 value))) now.memories = c.in_ok-push-in-Push.ensures.memories in
    subst (λ (todo : Todo). IsMoved (do_move place (told todo) now.memories left) old now Finished c.push.new.self (doing left)) (sym c.in-Push.is)
    (pushed place left old now c.push.new.self station.level station.container value (same ∙ ap (λ value. apply (push station.level station.container value) now.memories) (to_z-of_z w64 value fits)) c.in_ok-push-in-Push.ensures.turns)
