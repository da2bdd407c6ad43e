use Rattle.std.proofs.Common.{sym, ◌∙◌}
use Rattle.sd_range.proofs.Same.{terms_decide}
use Rattle.sd_race.proofs.checking.enclosing.have_same_terms.Goals as goal

pub returns : goal.returns
returns c =
    let told = rw (c.as_slice.ensures.terms, c.as_slice-2.ensures.terms) at c.eq.ensures in
    let decides = terms_decide c.args.a.now.terms c.args.b.now.terms in
    (λ answer. decides.0 (sym told ∙ answer), λ same. told ∙ decides.1 same)
