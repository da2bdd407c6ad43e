use Rattle.std.proofs.Common.{sym, ◌∙◌, subst}
use Rattle.sd_range.specs.Terms.{IsNormal}
use Rattle.sd_range.proofs.Same.{terms_decide}
use Rattle.sd_subset.proofs.boxes_lemmas.Level.{level-test}
use Rattle.sd_subset.proofs.boxes.bounds.have_same_terms.Goals as goal

pub returns-clause-same : goal.returns-clause-same
returns-clause-same c =
    let told = rw (c.as_slice.ensures.terms, c.as_slice-2.ensures.terms) at c.eq.ensures in
    let decides = terms_decide c.args.a.now.terms c.args.b.now.terms in
    (λ answer. decides.0 (sym told ∙ answer), λ same. told ∙ decides.1 same)

pub returns-clause-level : goal.returns-clause-level
returns-clause-level c =
    let a = c.args.a.now in
    let b = c.args.b.now in
    let told = rw (c.as_slice.ensures.terms, c.as_slice-2.ensures.terms) at c.eq.ensures in
    let decides = terms_decide a.terms b.terms in
    level-test c.eq.result a b (subst IsNormal c.as_slice.ensures.terms c.as_slice.ensures.normal) (subst IsNormal c.as_slice-2.ensures.terms c.as_slice-2.ensures.normal)
    (λ answer. decides.0 (sym told ∙ answer)) (λ same. told ∙ decides.1 same)
