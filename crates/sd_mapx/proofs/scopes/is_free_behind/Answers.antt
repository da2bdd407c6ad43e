use Rattle.std.proofs.Common.{◌≡◌, ◌+◌, drop, ◌&&◌, ap, sym, ◌∙◌}
use Rattle.std.specs.Str.{bytes_eq}
use Rattle.sd_mapx.specs.ScopeTests.{first_passes, is_free_behind}
use Rattle.sd_mapx.proofs.ScopeLaws.{all_left, behind_next}
use Rattle.sd_mapx.proofs.scopes.is_free_behind.Goals as goal

pub returns-then-not-branch : goal.returns-then-not-branch
returns-then-not-branch c =
    let left = drop (c.loop-i.i + 1) c.args.scopes.now in
    let scope = c.index-scopes-i.result in
    let same : bytes_eq c.args.path.now scope.path ≡ c.eq.result = ap (bytes_eq c.args.path.now) (sym c.path.ensures) ∙ sym c.eq.ensures in
    let next = c.loop-i.invariant ∙ behind_next c.args.path.now c.args.scopes.now c.loop-i.i scope c.loop-i-test.true c.index-scopes-i.is c.eq.result same in
    sym (next ∙ ap (λ passed. passed && is_free_behind c.args.path.now left) (sym (c.in_ok-first_passes.ensures ∙ ap (first_passes c.eq.result) (all_left (c.loop-i.i + 1) c.args.scopes.now)) ∙ c.if-not-branch.true))

pub loop-i-preserved : goal.loop-i-preserved
loop-i-preserved c =
    let left = drop (c.loop-i.i + 1) c.args.scopes.now in
    let scope = c.index-scopes-i.result in
    let same : bytes_eq c.args.path.now scope.path ≡ c.eq.result = ap (bytes_eq c.args.path.now) (sym c.path.ensures) ∙ sym c.eq.ensures in
    let next = c.loop-i.invariant ∙ behind_next c.args.path.now c.args.scopes.now c.loop-i.i scope c.loop-i-test.true c.index-scopes-i.is c.eq.result same in
    next ∙ ap (λ passed. passed && is_free_behind c.args.path.now left) (sym (c.in_ok-first_passes.ensures ∙ ap (first_passes c.eq.result) (all_left (c.loop-i.i + 1) c.args.scopes.now)) ∙ c.if-not-branch.false)
