use Rattle.std.proofs.Common.{rules}
use Rattle.sd_scope.proofs.scope_lemmas.Entered.{element_context}
use Rattle.sd_scope.proofs.scope.scope.Scope.at_element.Goals as goal

pub returns-clause-context : goal.returns-clause-context
returns-clause-context c = λ tree base private inside.
    element_context tree base private c.args.outer.now
    (record { state = c.args.self.now.state; begun = c.args.self.now.begun; values = record { values = c.from-2.result }; shown = c.from-3.result; depth = c.args.self.now.depth; privates = c.args.self.now.privates })
    c.args.element c.args.value (search rules) (search rules) (search rules)
