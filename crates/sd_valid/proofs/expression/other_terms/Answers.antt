use Rattle.std.proofs.Common.{ℕ, ℤ, pos, ◌+◌, take, sym, Bool, not, nat_lt}
use Rattle.std.proofs.lemmas.List.Elements.{filter_more}
use Rattle.sd_range.proofs.Normal.{normal-filter, normal-take}
use Rattle.sd_valid.proofs.expression.other_terms.Goals as goal

pub put_other-requires : goal.put_other-requires
put_other-requires c =
    let terms = c.as_slice-term-items.result.now in
    let i = c.loop-term.term-index in
    let is_other : ℕ × ℤ → Bool = λ term. not (nat_lt term.0 c.args.symbols) in
    let so_far = rw (sym c.as_slice-term-items.ensures.terms) at c.loop-term.invariant in
    rw (so_far, sym (filter_more is_other terms i (0, pos 0) c.loop-term-test.true))
    (normal-filter is_other (take (i + 1) terms) (normal-take terms (i + 1) c.as_slice-term-items.ensures.normal))
