use Rattle.std.proofs.Common.{◌≡◌, ap, sym, ◌∙◌, rules, to_z, FitsSigned}
use Rattle.std.specs.Int.{w128}
use Rattle.std.proofs.lemmas.Int.{to_z-of_z}
use Rattle.sd_range.specs.declared.affine.Affine.{Affine}
use Rattle.sd_range.proofs.Same.{terms_decide, same_parts}
use Rattle.sd_range.proofs.affine.Affine.same.Goals as goal

pub returns-then-self-other : goal.returns-then-self-other
returns-then-self-other c =
    let self = c.args.self.now in
    let other = c.args.other.now in
    let told = rw (c.as_slice.ensures.terms, c.as_slice-then-self-other.ensures.terms) at c.eq.ensures in
    let decides = terms_decide self.terms other.terms in
    let self_fits : FitsSigned w128 self.constant = search rules in
    let other_fits : FitsSigned w128 other.constant = search rules in
    let constant : self.constant ≡ other.constant =
    sym (to_z-of_z w128 self.constant self_fits) ∙ ap (to_z w128) c.if-self-other.true ∙ to_z-of_z w128 other.constant other_fits in
    (λ answer. same_parts self other constant (decides.0 (sym told ∙ answer)), λ same. told ∙ decides.1 (ap (λ (a : Affine). a.terms) same))
