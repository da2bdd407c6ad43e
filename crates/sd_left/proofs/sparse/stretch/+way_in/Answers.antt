use Rattle.std.proofs.Common.{◌≡◌, ◌-◌, ◌+◌, ◌++◌, ℕ, List, length, true, sym, ap, ◌∙◌, subst, arith}
use Rattle.std.proofs.lemmas.Result.{IfOk-weaker}
use Rattle.std.specs.List.{sum}
use Rattle.std.specs.declared.option.Option.{Option}
use Rattle.sd_left.specs.declared.sparse.point.Begun.{Begun}
use Rattle.sd_left.specs.declared.sparse.stretch.Counts.{Counts}
use Rattle.sd_left.specs.declared.sparse.stretch.Stretch.{Stretch}
use Rattle.sd_left.specs.sparse.Stretch.{points_in, moves_each, counts_of, is_summed, IsWay}
use Rattle.sd_left.proofs.sparse_lemmas.Stretches.{halves, counts-true, points-true}
use Rattle.sd_left.proofs.sparse_lemmas.Ways.{way-first, way-others}
use Rattle.sd_left.proofs.sparse.stretch.+way_in.Goals as goal

pub returns-in-Each : goal.returns-in-Each
returns-in-Each t c = IfOk-weaker c.way_in_each.result _ _ (λ way is told summed less.
    let tasks = c.args.tasks.now in
    let unit = c.args.unit in
    let same : c.as_slice.result.now ≡ points_in c.args.stretch.now = c.as_slice.ensures.value ∙ sym (ap points_in c.in-Each.is) in
    let counted : (counts_of tasks c.args.stretch.now).moves ≡ sum (moves_each tasks c.as_slice.result.now) =
    ap (λ (s : Stretch). (counts_of tasks s).moves) c.in-Each.is ∙ ap (λ (ps : List (Option Begun)). sum (moves_each tasks ps)) (sym c.as_slice.ensures.value) in
    subst (λ (ps : List (Option Begun)). IsWay tasks ps unit way) same (is (omega (arith, less, counted)))) c.way_in_each.ensures

pub returns-then-unit-before : goal.returns-then-unit-before
returns-then-unit-before t c = IfOk-weaker c.way_in.result _ _ (λ way is told summed less.
    let tasks = c.args.tasks.now in
    let unit = c.args.unit in
    let first = c.in-Halves.first.value in
    let others = c.in-Halves.others.value in
    let are = halves tasks c.in-Halves.field-1 first others (subst (λ (s : Stretch). is_summed tasks s ≡ true) c.in-Halves.is summed) in
    let is_first : c.deref-then-unit-before.result.now ≡ first = c.deref-then-unit-before.ensures in
    let within : c.in_ok-before-in-Halves.before ≡ (counts_of tasks c.deref-then-unit-before.result.now).moves =
    c.in_ok-before-in-Halves.ensures ∙ ap (λ (s : Stretch). (counts_of tasks s).moves) (c.deref.ensures ∙ sym is_first) in
    let found = is told (subst (λ (s : Stretch). is_summed tasks s ≡ true) (sym is_first) are.first_summed) (omega (arith, c.if-unit-before.true, within)) in
    let all : points_in c.args.stretch.now ≡ points_in first ++ points_in others = ap points_in c.in-Halves.is in
    subst (λ (ps : List (Option Begun)). IsWay tasks ps unit way) (sym all)
    (way-first tasks (points_in first) (points_in others) unit way (subst (λ (s : Stretch). IsWay tasks (points_in s) unit way) is_first found))) c.way_in.ensures

pub returns-in_ok-way-in-Halves : goal.returns-in_ok-way-in-Halves
returns-in_ok-way-in-Halves t c = IfOk-weaker c.behind.result _ _ (λ other is told summed less.
    let tasks = c.args.tasks.now in
    let unit = c.args.unit in
    let way = c.in_ok-way-in-Halves.way in
    let first = c.in-Halves.first.value in
    let others = c.in-Halves.others.value in
    let are = halves tasks c.in-Halves.field-1 first others (subst (λ (s : Stretch). is_summed tasks s ≡ true) c.in-Halves.is summed) in
    let moved : c.in_ok-before-in-Halves.before ≡ sum (moves_each tasks (points_in first)) =
    c.in_ok-before-in-Halves.ensures ∙ ap (λ (s : Stretch). (counts_of tasks s).moves) c.deref.ensures ∙ ap (λ (n : Counts). n.moves) (counts-true tasks first told are.first_summed) in
    let is_others : c.deref-in-Halves.result.now ≡ others = c.deref-in-Halves.ensures in
    let all_moves : (counts_of tasks c.args.stretch.now).moves ≡ sum (moves_each tasks (points_in first)) + (counts_of tasks others).moves =
    ap (λ (s : Stretch). (counts_of tasks s).moves) c.in-Halves.is ∙ ap (λ (n : Counts). n.moves) are.both ∙ ap (λ (n : Counts). n.moves + (counts_of tasks others).moves) (counts-true tasks first told are.first_summed) in
    let same_moves : (counts_of tasks c.deref-in-Halves.result.now).moves ≡ (counts_of tasks others).moves = ap (λ (s : Stretch). (counts_of tasks s).moves) is_others in
    let found = c.in_ok-way-in-Halves.ensures told (subst (λ (s : Stretch). is_summed tasks s ≡ true) (sym is_others) are.others_summed) (omega (arith, less, c.if-unit-before.false, moved, all_moves, same_moves)) in
    let size : c.count_points.result ≡ length (points_in first) = c.count_points.ensures tasks ∙ ap (λ (s : Stretch). (counts_of tasks s).points) c.deref-in-Halves-2.ensures ∙ points-true tasks first are.first_summed in
    let all : points_in c.args.stretch.now ≡ points_in first ++ points_in others = ap points_in c.in-Halves.is in
    let place : other.point ≡ way.point + length (points_in first) = is.0 ∙ ap (λ (n : ℕ). way.point + n) size in
    subst (λ (ps : List (Option Begun)). IsWay tasks ps unit other) (sym all)
    (way-others tasks (points_in first) (points_in others) unit other.point other.task way (omega (arith, c.if-unit-before.false, moved))
    (subst (λ (n : ℕ). IsWay tasks (points_in others) n way) (ap (λ (n : ℕ). unit - n) moved) (subst (λ (s : Stretch). IsWay tasks (points_in s) (unit - c.in_ok-before-in-Halves.before) way) is_others found)) place is.1)) c.behind.ensures
