use Rattle.std.proofs.Common.{◌≡◌, rules, string_bytes}
use Rattle.sd_program.specs.Names.{in_force}
use Rattle.sd_task.specs.in_force.Stack.{stacked}
use Rattle.sd_task.specs.declared.in_force.scope.Entry.{Entry}
use Rattle.sd_task.proofs.in_force_lemmas.ScopeLemmas.{entry_pushed}
use Rattle.sd_task.proofs.in_force.scope.Scope.push.Goals as goal

pub invariant_of-self-3 : goal.invariant_of-self-3
invariant_of-self-3 c =
    let entry : Entry = record { name = c.args.name; number = c.args.number; hidden = c.find-hidden.result } in
    let same : string_bytes c.in_ok-clone.field-0 ≡ string_bytes c.args.name = search rules in
    let hidden : c.find-hidden.result ≡ in_force (stacked c.self.inside.entries.items) (string_bytes c.args.name) = search rules in
    rw c.in_ok-push.ensures.items
    (rw c.in_ok-reserve.ensures.items
    (entry_pushed c.self.inside.entries.items entry c.in_ok-clone.field-0 c.self.inside.numbers c.insert.new.self same c.self.invariant hidden c.in_ok-insert.ensures.updates))
