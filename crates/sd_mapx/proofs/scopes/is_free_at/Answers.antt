use Rattle.std.proofs.Common.{◌≡◌, ◌+◌, drop, ◌&&◌, ap, sym, ◌∙◌}
use Rattle.std.specs.Str.{bytes_eq}
use Rattle.sd_mapx.specs.ScopeTests.{is_free_at}
use Rattle.sd_mapx.proofs.ScopeLaws.{at_next}
use Rattle.sd_mapx.proofs.scopes.is_free_at.Goals as goal

pub returns-then-not-branch : goal.returns-then-not-branch
returns-then-not-branch c =
    let left = drop (c.loop-scope.scope-index + 1) c.args.scopes.now in
    let scope = c.scope-item.result in
    let same : bytes_eq c.args.path.now scope.path ≡ c.eq.result = ap (bytes_eq c.args.path.now) (sym c.path.ensures) ∙ sym c.eq.ensures in
    let next = c.loop-scope.invariant ∙ at_next c.args.path.now c.args.scopes.now c.loop-scope.scope-index scope c.loop-scope-test.true c.scope-item.is c.eq.result same in
    sym (next ∙ ap (λ passed. passed && is_free_at c.args.path.now left) (sym c.in_ok-passes.ensures ∙ c.if-not-branch.true))

pub loop-scope-preserved : goal.loop-scope-preserved
loop-scope-preserved c =
    let left = drop (c.loop-scope.scope-index + 1) c.args.scopes.now in
    let scope = c.scope-item.result in
    let same : bytes_eq c.args.path.now scope.path ≡ c.eq.result = ap (bytes_eq c.args.path.now) (sym c.path.ensures) ∙ sym c.eq.ensures in
    let next = c.loop-scope.invariant ∙ at_next c.args.path.now c.args.scopes.now c.loop-scope.scope-index scope c.loop-scope-test.true c.scope-item.is c.eq.result same in
    next ∙ ap (λ passed. passed && is_free_at c.args.path.now left) (sym c.in_ok-passes.ensures ∙ c.if-not-branch.false)
