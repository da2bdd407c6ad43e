use Rattle.std.proofs.Common.{◌∷◌, List, ℕ, sym, subst}
use Rattle.sd_scope.specs.scope.Standing.{IsInside}
use Rattle.sd_rows.proofs.consume.setup.inner_scope.Goals as goal

pub returns-clause-inside : goal.returns-clause-inside
returns-clause-inside c =
    c.in_ok-at_element.ensures.inside (c.args.element ∷ c.args.private.now)
    (subst (λ (private : List ℕ). IsInside (c.args.element ∷ private) c.args.scope.now c.in_ok-inner.inner) (sym c.requires.none) c.in_ok-inner.ensures)

pub returns-clause-context : goal.returns-clause-context
returns-clause-context c tree base =
    c.in_ok-at_element.ensures.context tree base c.args.private.now
    (subst (λ (private : List ℕ). IsInside (c.args.element ∷ private) c.args.scope.now c.in_ok-inner.inner) (sym c.requires.none) c.in_ok-inner.ensures)
