use Rattle.sd_task.proofs.in_force_lemmas.ScopeLemmas.{entry_popped}
use Rattle.sd_task.proofs.in_force.scope.Scope.pop.Goals as goal

pub invariant_of-self : goal.invariant_of-self
invariant_of-self c =
    entry_popped _ _ c.in-Some.entry c.self.inside.numbers c.insert-put.new.self c.insert-put.result c.in-Some.ensures.items c.self.invariant c.insert-put.ensures.updates c.insert-put.ensures.absent

pub invariant_of-self-in-Some-2 : goal.invariant_of-self-in-Some-2
invariant_of-self-in-Some-2 c =
    entry_popped _ _ c.in-Some.entry c.self.inside.numbers c.insert-put.new.self c.insert-put.result c.in-Some.ensures.items c.self.invariant c.insert-put.ensures.updates c.insert-put.ensures.absent
