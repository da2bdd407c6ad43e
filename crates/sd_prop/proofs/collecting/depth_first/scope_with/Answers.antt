use Rattle.std.proofs.Common.{◌≡◌, true, false, ap, sym, ◌∙◌}
use Rattle.std.specs.Str.{bytes_eq}
use Rattle.sd_prop.proofs.collecting_lemmas.Paths.{found_here, found_behind}
use Rattle.sd_prop.proofs.collecting.depth_first.scope_with.Goals as goal

pub returns-then-eq : goal.returns-then-eq
returns-then-eq c =
    let same : bytes_eq c.args.path.now c.scope-item.result.path ≡ true = ap (bytes_eq c.args.path.now) (sym c.path.ensures) ∙ sym c.eq.ensures ∙ c.if-eq.true in
    sym (c.loop-scope.invariant ∙ found_here c.args.path.now c.args.scopes.now c.loop-scope.scope-index c.scope-item.result c.loop-scope-test.true c.scope-item.is same)

pub loop-scope-preserved : goal.loop-scope-preserved
loop-scope-preserved c =
    let other : bytes_eq c.args.path.now c.scope-item.result.path ≡ false = ap (bytes_eq c.args.path.now) (sym c.path.ensures) ∙ sym c.eq.ensures ∙ c.if-eq.false in
    c.loop-scope.invariant ∙ found_behind c.args.path.now c.args.scopes.now c.loop-scope.scope-index c.scope-item.result c.loop-scope-test.true c.scope-item.is other
