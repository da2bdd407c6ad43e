use Rattle.std.proofs.Common.{◌≡◌, ◌≤◌, ◌<◌, ◌-◌, ◌++◌, List, None, length, get_or, true, sym, ap, ◌∙◌, subst, arith}
use Rattle.std.proofs.lemmas.List.{get_or_append_left, get_or-append_right}
use Rattle.std.specs.declared.option.Option.{Option}
use Rattle.sd_left.specs.declared.sparse.point.Begun.{Begun}
use Rattle.sd_left.specs.declared.sparse.stretch.Stretch.{Stretch}
use Rattle.sd_left.specs.sparse.Stretch.{points_in, counts_of, is_summed}
use Rattle.sd_left.proofs.sparse_lemmas.Stretches.{halves, points-true}
use Rattle.sd_core.specs.release.Finished.{is_over}
use Rattle.sd_core.proofs.release.sparse.+is_over_at.Goals as goal

pub returns-then-number-before : goal.returns-then-number-before
returns-then-number-before t c = λ summed.
    let tasks = c.args.tasks.now in
    let first = c.in-Halves.first.value in
    let others = c.in-Halves.others.value in
    let number = c.args.number in
    let are = halves tasks c.in-Halves.field-1 first others (subst (λ (s : Stretch). is_summed tasks s ≡ true) c.in-Halves.is summed) in
    let size : c.count_points-before.result ≡ length (points_in first) = c.count_points-before.ensures tasks ∙ ap (λ (s : Stretch). (counts_of tasks s).points) c.deref-in-Halves.ensures ∙ points-true tasks first are.first_summed in
    let all : points_in c.args.points.now ≡ points_in first ++ points_in others = ap points_in c.in-Halves.is in
    let less : number < length (points_in first) = omega (arith, size, c.if-number-before.true) in
    let here : c.deref-then-number-before.result.now ≡ first = c.deref-then-number-before.ensures in
    c.is_over_at.ensures (subst (λ (s : Stretch). is_summed tasks s ≡ true) (sym here) are.first_summed) ∙ ap (λ (s : Stretch). is_over (get_or (points_in s) number None)) here
    ∙ ap is_over (sym (get_or_append_left (points_in first) (points_in others) None number less) ∙ sym (ap (λ (ps : List (Option Begun)). get_or ps number None) all))

pub returns-else-number-before : goal.returns-else-number-before
returns-else-number-before t c = λ summed.
    let tasks = c.args.tasks.now in
    let first = c.in-Halves.first.value in
    let others = c.in-Halves.others.value in
    let number = c.args.number in
    let are = halves tasks c.in-Halves.field-1 first others (subst (λ (s : Stretch). is_summed tasks s ≡ true) c.in-Halves.is summed) in
    let size : c.count_points-before.result ≡ length (points_in first) = c.count_points-before.ensures tasks ∙ ap (λ (s : Stretch). (counts_of tasks s).points) c.deref-in-Halves.ensures ∙ points-true tasks first are.first_summed in
    let all : points_in c.args.points.now ≡ points_in first ++ points_in others = ap points_in c.in-Halves.is in
    let most : length (points_in first) ≤ number = omega (arith, size, c.if-number-before.false) in
    let here : c.deref-in-Halves-2.result.now ≡ others = c.deref-in-Halves-2.ensures in
    c.is_over_at-in-Halves.ensures (subst (λ (s : Stretch). is_summed tasks s ≡ true) (sym here) are.others_summed)
    ∙ ap (λ (s : Stretch). is_over (get_or (points_in s) (number - c.count_points-before.result) None)) here
    ∙ ap is_over (sym (get_or-append_right (points_in first) (points_in others) c.count_points-before.result number None (sym size) (omega (arith, size, most))) ∙ sym (ap (λ (ps : List (Option Begun)). get_or ps number None) all))
