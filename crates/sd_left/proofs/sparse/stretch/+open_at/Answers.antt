use Rattle.std.proofs.Common.{◌≡◌, true, sym, ap, ◌∙◌, subst}
use Rattle.std.proofs.lemmas.Result.{on_ok_weaker}
use Rattle.sd_left.specs.declared.sparse.stretch.Counts.{Counts}
use Rattle.sd_left.specs.declared.sparse.stretch.Stretch.{Stretch}
use Rattle.sd_left.specs.sparse.Stretch.{counts_of, together, is_summed}
use Rattle.sd_left.proofs.sparse_lemmas.Stretches.{halves, summed-again, on_ok_both}
use Rattle.sd_left.proofs.sparse.stretch.+open_at.Goals as goal

pub returns-then-number-before-clause-summed : goal.returns-then-number-before-clause-summed
returns-then-number-before-clause-summed t c = on_ok_weaker c.open_at.result (λ both told summed.
    let tasks = c.args.tasks.now in
    let first = c.in-Halves.first.value in
    let others = c.in-Halves.others.value in
    let are = halves tasks c.in-Halves.field-1 first others (subst (λ (s : Stretch). is_summed tasks s ≡ true) c.in-Halves.is summed) in
    let is_first : c.deref_mut.result.now ≡ first = c.deref_mut.ensures.value in
    summed-again tasks c.in-Halves.field-1 c.open_at.new.stretch others
    (are.both ∙ ap (λ (counts : Counts). together counts (counts_of tasks others)) (sym (both.0 told ∙ ap (counts_of tasks) is_first)))
    (both.1 told (subst (λ (s : Stretch). is_summed tasks s ≡ true) (sym is_first) are.first_summed)) are.others_summed)
    (on_ok_both _ _ c.open_at.result c.open_at.ensures.counts c.open_at.ensures.summed)

pub returns-else-number-before-clause-summed : goal.returns-else-number-before-clause-summed
returns-else-number-before-clause-summed t c = on_ok_weaker c.open_at-in-Halves.result (λ both told summed.
    let tasks = c.args.tasks.now in
    let first = c.in-Halves.first.value in
    let others = c.in-Halves.others.value in
    let are = halves tasks c.in-Halves.field-1 first others (subst (λ (s : Stretch). is_summed tasks s ≡ true) c.in-Halves.is summed) in
    let is_others : c.deref_mut-in-Halves.result.now ≡ others = c.deref_mut-in-Halves.ensures.value in
    summed-again tasks c.in-Halves.field-1 first c.open_at-in-Halves.new.stretch
    (are.both ∙ ap (together (counts_of tasks first)) (sym (both.0 told ∙ ap (counts_of tasks) is_others)))
    are.first_summed (both.1 told (subst (λ (s : Stretch). is_summed tasks s ≡ true) (sym is_others) are.others_summed)))
    (on_ok_both _ _ c.open_at-in-Halves.result c.open_at-in-Halves.ensures.counts c.open_at-in-Halves.ensures.summed)
