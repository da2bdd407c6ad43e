use Rattle.std.proofs.Common.{ap, sym, ◌∙◌}
use Rattle.std.proofs.lemmas.Result.{IfOk-weaker}
use Rattle.sd_mapx.specs.ScopeTests as definition
use Rattle.sd_mapx.proofs.ScopeLaws.{as_tested}
use Rattle.sd_mapx.proofs.scopes.passes.Goals as goal

pub returns-then-is_asked : goal.returns-then-is_asked
returns-then-is_asked c =
    let scope = c.args.scope.now in
    IfOk-weaker c.is_free_of_races.result _ _ (λ free means. as_tested free scope means ∙ ap (λ asked. definition.passes asked scope) (sym c.if-is_asked.true)) c.is_free_of_races.ensures
