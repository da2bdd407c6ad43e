use Rattle.std.proofs.Common.{rules}
use Rattle.sd_scope.proofs.scope_lemmas.Entered.{point_context}
use Rattle.sd_scope.proofs.scope.scope.Scope.at_point.Goals as goal

pub returns-clause-context : goal.returns-clause-context
returns-clause-context c = λ tree base private inside.
    point_context tree base private c.args.outer.now
    (record { state = c.args.self.now.state; begun = c.args.self.now.begun; values = record { values = c.from.result }; shown = c.from-2.result; depth = c.args.self.now.depth; privates = c.args.self.now.privates })
    c.args.params.now c.args.point.now (search rules) (search rules) (search rules)
