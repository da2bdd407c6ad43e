use Rattle.std.proofs.Common.{◌≡◌, true, false, arith, ℕ, ℤ, pos, ◌+◌, take, sym, Bool, not, nat_eq}
use Rattle.std.proofs.lemmas.Bool.{true≢false}
use Rattle.std.proofs.lemmas.List.Elements.{filter_more}
use Rattle.sd_range.proofs.Normal.{normal-filter, normal-take, short-filter}
use Rattle.sd_range.proofs.arithmetic.less_variable.Goals as goal

pub put_other-requires : goal.put_other-requires
put_other-requires c =
    let terms = c.as_slice-term-items.result.now in
    let i = c.loop-term.term-index in
    let is_other : ℕ × ℤ → Bool = λ term. not (nat_eq term.0 c.args.variable) in
    let so_far = rw (sym c.as_slice-term-items.ensures.terms) at c.loop-term.invariant in
    rw (so_far, sym (filter_more is_other terms i (0, pos 0) c.loop-term-test.true))
    (normal-filter is_other (take (i + 1) terms) (normal-take terms (i + 1) c.as_slice-term-items.ensures.normal))

pub returns-in_err-put_other-clause-few : goal.returns-in_err-put_other-clause-few
returns-in_err-put_other-clause-few c = λ few.
    let terms = c.as_slice-term-items.result.now in
    let i = c.loop-term.term-index in
    let is_other : ℕ × ℤ → Bool = λ term. not (nat_eq term.0 c.args.variable) in
    let so_far = rw (sym c.as_slice-term-items.ensures.terms) at c.loop-term.invariant in
    let all = rw (sym c.as_slice-term-items.ensures.terms) at few in
    let no : false ≡ true = c.in_err-put_other.ensures.few
    (rw (so_far, sym (filter_more is_other terms i (0, pos 0) c.loop-term-test.true)) (omega (arith, short-filter is_other terms (i + 1), all))) in
    absurd (true≢false (sym no))
