use Rattle.std.proofs.Common.{◌≡◌, ◌≤◌, ◌<◌, ◌-◌, ◌++◌, List, None, length, get_or, slice_set, true, sym, ap, ap₂, ◌∙◌, subst, arith}
use Rattle.std.proofs.lemmas.List.{get_or_append_left, get_or-append_right, set-append_left, set-append_right}
use Rattle.std.specs.declared.option.Option.{Option}
use Rattle.sd_left.specs.declared.sparse.point.Begun.{Begun}
use Rattle.sd_left.specs.declared.sparse.stretch.Stretch.{Stretch}
use Rattle.sd_left.specs.sparse.Stretch.{points_in, counts_of, together, is_summed}
use Rattle.sd_left.proofs.sparse_lemmas.Stretches.{halves, points-true, summed-again}
use Rattle.sd_left.proofs.sparse.stretch.+swap.Goals.{then-number-before+in_ok-was-in-Halves, else-number-before+in_ok-was-in-Halves-2}
use Rattle.sd_left.proofs.sparse.stretch.+swap.Goals as goal

pub returns-in_ok-counts-in-Halves-clause-was : goal.returns-in_ok-counts-in-Halves-clause-was
returns-in_ok-counts-in-Halves-clause-was t c = λ summed.
    let tasks = c.args.tasks.now in
    let first = c.in-Halves.first.value in
    let others = c.in-Halves.others.value in
    let number = c.args.number in
    let are = halves tasks c.in-Halves.counts first others (subst (λ (s : Stretch). is_summed tasks s ≡ true) c.in-Halves.is summed) in
    let size : c.count_points-before.result ≡ length (points_in first) = c.count_points-before.ensures tasks ∙ ap (λ (s : Stretch). (counts_of tasks s).points) c.deref.ensures ∙ points-true tasks first are.first_summed in
    let all : points_in c.args.stretch.now ≡ points_in first ++ points_in others = ap points_in c.in-Halves.is in
    elim c.if-number-before.branch [
      | then-number-before+in_ok-was-in-Halves w ↦
          let less : number < length (points_in first) = omega (arith, size, w.if-number-before.true) in
          let is_first : w.deref_mut.result.now ≡ first = w.deref_mut.ensures.value in
          let summed_first : is_summed tasks w.deref_mut.result.now ≡ true = subst (λ (s : Stretch). is_summed tasks s ≡ true) (sym is_first) are.first_summed in
          w.was-is ∙ w.in_ok-was-in-Halves.ensures.was summed_first ∙ ap (λ (s : Stretch). get_or (points_in s) number None) is_first
          ∙ sym (get_or_append_left (points_in first) (points_in others) None number less) ∙ sym (ap (λ (ps : List (Option Begun)). get_or ps number None) all)
      | else-number-before+in_ok-was-in-Halves-2 w ↦
          let most : length (points_in first) ≤ number = omega (arith, size, w.if-number-before.false) in
          let is_others : w.deref_mut-else-number-before.result.now ≡ others = w.deref_mut-else-number-before.ensures.value in
          let summed_others : is_summed tasks w.deref_mut-else-number-before.result.now ≡ true = subst (λ (s : Stretch). is_summed tasks s ≡ true) (sym is_others) are.others_summed in
          w.was-is ∙ w.in_ok-was-in-Halves-2.ensures.was summed_others ∙ ap (λ (s : Stretch). get_or (points_in s) (number - c.count_points-before.result) None) is_others
          ∙ sym (get_or-append_right (points_in first) (points_in others) c.count_points-before.result number None (sym size) (omega (arith, size, most))) ∙ sym (ap (λ (ps : List (Option Begun)). get_or ps number None) all)
    ]

pub returns-in_ok-counts-in-Halves-clause-points : goal.returns-in_ok-counts-in-Halves-clause-points
returns-in_ok-counts-in-Halves-clause-points t c = λ summed.
    let tasks = c.args.tasks.now in
    let first = c.in-Halves.first.value in
    let others = c.in-Halves.others.value in
    let number = c.args.number in
    let are = halves tasks c.in-Halves.counts first others (subst (λ (s : Stretch). is_summed tasks s ≡ true) c.in-Halves.is summed) in
    let size : c.count_points-before.result ≡ length (points_in first) = c.count_points-before.ensures tasks ∙ ap (λ (s : Stretch). (counts_of tasks s).points) c.deref.ensures ∙ points-true tasks first are.first_summed in
    let all : points_in c.args.stretch.now ≡ points_in first ++ points_in others = ap points_in c.in-Halves.is in
    elim c.if-number-before.branch [
      | then-number-before+in_ok-was-in-Halves w ↦
          let less : number < length (points_in first) = omega (arith, size, w.if-number-before.true) in
          let is_first : w.deref_mut.result.now ≡ first = w.deref_mut.ensures.value in
          let summed_first : is_summed tasks w.deref_mut.result.now ≡ true = subst (λ (s : Stretch). is_summed tasks s ≡ true) (sym is_first) are.first_summed in
          let new_first : points_in c.if-number-before.first.value ≡ points_in w.swap.new.stretch = ap (λ (b : _). points_in b.value) w.first-is in
          let new_others : points_in c.if-number-before.others.value ≡ points_in others = ap (λ (b : _). points_in b.value) w.others-is in
          ap₂ (λ (xs ys : List (Option Begun)). xs ++ ys) (new_first ∙ w.in_ok-was-in-Halves.ensures.points summed_first ∙ ap (λ (s : Stretch). slice_set (points_in s) number c.args.point) is_first) new_others
          ∙ sym (set-append_left (points_in first) (points_in others) number c.args.point less) ∙ sym (ap (λ (ps : List (Option Begun)). slice_set ps number c.args.point) all)
      | else-number-before+in_ok-was-in-Halves-2 w ↦
          let most : length (points_in first) ≤ number = omega (arith, size, w.if-number-before.false) in
          let is_others : w.deref_mut-else-number-before.result.now ≡ others = w.deref_mut-else-number-before.ensures.value in
          let summed_others : is_summed tasks w.deref_mut-else-number-before.result.now ≡ true = subst (λ (s : Stretch). is_summed tasks s ≡ true) (sym is_others) are.others_summed in
          let new_first : points_in c.if-number-before.first.value ≡ points_in first = ap (λ (b : _). points_in b.value) w.first-is in
          let new_others : points_in c.if-number-before.others.value ≡ points_in w.swap-else-number-before.new.stretch = ap (λ (b : _). points_in b.value) w.others-is in
          ap₂ (λ (xs ys : List (Option Begun)). xs ++ ys) new_first (new_others ∙ w.in_ok-was-in-Halves-2.ensures.points summed_others ∙ ap (λ (s : Stretch). slice_set (points_in s) (number - c.count_points-before.result) c.args.point) is_others)
          ∙ sym (set-append_right (points_in first) (points_in others) c.count_points-before.result number c.args.point (sym size) (omega (arith, size, most))) ∙ sym (ap (λ (ps : List (Option Begun)). slice_set ps number c.args.point) all)
    ]

pub returns-in_ok-counts-in-Halves-clause-summed : goal.returns-in_ok-counts-in-Halves-clause-summed
returns-in_ok-counts-in-Halves-clause-summed t c = λ summed.
    let tasks = c.args.tasks.now in
    let first = c.in-Halves.first.value in
    let others = c.in-Halves.others.value in
    let number = c.args.number in
    let are = halves tasks c.in-Halves.counts first others (subst (λ (s : Stretch). is_summed tasks s ≡ true) c.in-Halves.is summed) in
    let size : c.count_points-before.result ≡ length (points_in first) = c.count_points-before.ensures tasks ∙ ap (λ (s : Stretch). (counts_of tasks s).points) c.deref.ensures ∙ points-true tasks first are.first_summed in
    let all : points_in c.args.stretch.now ≡ points_in first ++ points_in others = ap points_in c.in-Halves.is in
    let one : c.in_ok-counts_in-in-Halves.field-0 ≡ counts_of tasks c.if-number-before.first.value = c.in_ok-counts_in-in-Halves.ensures ∙ ap (counts_of tasks) c.deref-in-Halves.ensures in
    let two : c.in_ok-counts_in-in-Halves-2.field-0 ≡ counts_of tasks c.if-number-before.others.value = c.in_ok-counts_in-in-Halves-2.ensures ∙ ap (counts_of tasks) c.deref-in-Halves-2.ensures in
    let now : c.in_ok-counts-in-Halves.field-0 ≡ together (counts_of tasks c.if-number-before.first.value) (counts_of tasks c.if-number-before.others.value) = c.in_ok-counts-in-Halves.ensures ∙ ap₂ together one two in
    let again = summed-again tasks c.in_ok-counts-in-Halves.field-0 c.if-number-before.first.value c.if-number-before.others.value now in
    elim c.if-number-before.branch [
      | then-number-before+in_ok-was-in-Halves w ↦
          let less : number < length (points_in first) = omega (arith, size, w.if-number-before.true) in
          let is_first : w.deref_mut.result.now ≡ first = w.deref_mut.ensures.value in
          let summed_first : is_summed tasks w.deref_mut.result.now ≡ true = subst (λ (s : Stretch). is_summed tasks s ≡ true) (sym is_first) are.first_summed in
          let new_first : is_summed tasks c.if-number-before.first.value ≡ is_summed tasks w.swap.new.stretch = ap (λ (b : _). is_summed tasks b.value) w.first-is in
          let new_others : is_summed tasks c.if-number-before.others.value ≡ is_summed tasks others = ap (λ (b : _). is_summed tasks b.value) w.others-is in
          again (new_first ∙ w.in_ok-was-in-Halves.ensures.summed summed_first) (new_others ∙ are.others_summed)
      | else-number-before+in_ok-was-in-Halves-2 w ↦
          let most : length (points_in first) ≤ number = omega (arith, size, w.if-number-before.false) in
          let is_others : w.deref_mut-else-number-before.result.now ≡ others = w.deref_mut-else-number-before.ensures.value in
          let summed_others : is_summed tasks w.deref_mut-else-number-before.result.now ≡ true = subst (λ (s : Stretch). is_summed tasks s ≡ true) (sym is_others) are.others_summed in
          let new_first : is_summed tasks c.if-number-before.first.value ≡ is_summed tasks first = ap (λ (b : _). is_summed tasks b.value) w.first-is in
          let new_others : is_summed tasks c.if-number-before.others.value ≡ is_summed tasks w.swap-else-number-before.new.stretch = ap (λ (b : _). is_summed tasks b.value) w.others-is in
          again (new_first ∙ are.first_summed) (new_others ∙ w.in_ok-was-in-Halves-2.ensures.summed summed_others)
    ]
