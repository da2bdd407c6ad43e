use Rattle.std.proofs.Common.{◌≡◌, [], ◌∷◌, Option, None, option_map, sym, ap, ◌∙◌, subst, rules, FitsSigned, to_z, of_z, w64}
use Rattle.std.proofs.lemmas.Int.{to_z-of_z}
use Rattle.sd_work.specs.Change.{apply, write}
use Rattle.sd_work.specs.Leaf.{write_value}
use Rattle.sd_mem.specs.machine.Stack.{reference_of}
use Rattle.sd_mem.specs.declared.machine.address.Address.{Address}
use Rattle.sd_leaves.specs.leaves.Done.{IsDone, performing}
use Rattle.sd_leaves.proofs.leaves_lemmas.Doing.{write_goes}
use Rattle.sd_leaves.proofs.leaves.changes.write.Goals as goal

pub returns : goal.returns
returns c =
    let now = c.args.machine.now in
    let fits : FitsSigned w64 c.args.value = search rules in
    let to = reference_of c.in-Some.to in
    let same : c.write.new.self.memories ≡ apply (write to c.args.by (to_z w64 (of_z w64 c.args.value))) now.memories = c.write.ensures.memories in
    subst (λ (to : Option Address). IsDone (performing (write_value c.args.value (option_map reference_of to) c.args.by ∷ [])) now None c.write.new.self) (sym c.in-Some.is)
    (write_goes c.args.by now c.args.value to c.write.new.self (same ∙ ap (λ value. apply (write to c.args.by value) now.memories) (to_z-of_z w64 c.args.value fits)) c.write.ensures.turns)
