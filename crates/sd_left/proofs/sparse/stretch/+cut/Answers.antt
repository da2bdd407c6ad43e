use Rattle.std.proofs.Common.{◌≡◌, ◌+◌, ◌-◌, ◌/◌, ◌++◌, ℕ, List, None, replicate, ap, ◌∙◌, arith}
use Rattle.std.proofs.lemmas.List.{replicate-append-replicate}
use Rattle.std.proofs.lemmas.Result.{IfOk-weaker}
use Rattle.std.specs.declared.option.Option.{Option}
use Rattle.sd_left.specs.declared.sparse.point.Begun.{Begun}
use Rattle.sd_left.specs.declared.sparse.stretch.Counts.{Counts}
use Rattle.sd_left.specs.sparse.Stretch.{fresh_counts, counted, together}
use Rattle.sd_left.proofs.sparse_lemmas.Counts.{counted-fresh, fresh-both}
use Rattle.sd_left.proofs.sparse.stretch.+cut.Goals as goal

pub returns-then-count-few-clause-counts : goal.returns-then-count-few-clause-counts
returns-then-count-few-clause-counts t c = λ told.
    ap (counted c.args.tasks.now) c.in_ok-fresh_points.ensures ∙ counted-fresh c.args.tasks.now c.args.count told

pub cut-requires : goal.cut-requires
cut-requires t c = (omega (arith, c.if-count-few.false, c.few.ensures), c.if-number-half.true)

pub cut-requires-2 : goal.cut-requires-2
cut-requires-2 t c = (omega (arith, c.if-count-few.false, c.few.ensures), omega (arith, c.if-number-half.false, c.requires.there))

pub returns-then-number-half-clause-points : goal.returns-then-number-half-clause-points
returns-then-number-half-clause-points t c = IfOk-weaker c.joined.result _ _ (λ both is.
    let count = c.args.count in
    let half = count / 2 in
    let all : half + (count - half) ≡ count = omega arith in
    is ∙ ap (λ (points : List (Option Begun)). points ++ replicate (count - half) None) c.in_ok-first.ensures.points
    ∙ replicate-append-replicate half (count - half) None ∙ ap (λ (n : ℕ). replicate n None) all) c.joined.ensures.points

pub returns-then-number-half-clause-counts : goal.returns-then-number-half-clause-counts
returns-then-number-half-clause-counts t c = IfOk-weaker c.joined.result _ _ (λ both is told.
    let count = c.args.count in
    let half = count / 2 in
    let tasks = c.args.tasks.now in
    let all : half + (count - half) ≡ count = omega arith in
    is ∙ ap (λ (counts : Counts). together counts (fresh_counts tasks (count - half))) (c.in_ok-first.ensures.counts told)
    ∙ fresh-both tasks half (count - half) ∙ ap (fresh_counts tasks) all) c.joined.ensures.counts

pub returns-clause-points : goal.returns-clause-points
returns-clause-points t c = IfOk-weaker c.joined-2.result _ _ (λ both is.
    let count = c.args.count in
    let half = count / 2 in
    let all : half + (count - half) ≡ count = omega arith in
    is ∙ ap (λ (points : List (Option Begun)). replicate half None ++ points) c.in_ok-others.ensures.points
    ∙ replicate-append-replicate half (count - half) None ∙ ap (λ (n : ℕ). replicate n None) all) c.joined-2.ensures.points

pub returns-clause-counts : goal.returns-clause-counts
returns-clause-counts t c = IfOk-weaker c.joined-2.result _ _ (λ both is told.
    let count = c.args.count in
    let half = count / 2 in
    let tasks = c.args.tasks.now in
    let all : half + (count - half) ≡ count = omega arith in
    is ∙ ap (λ (counts : Counts). together (fresh_counts tasks half) counts) (c.in_ok-others.ensures.counts told)
    ∙ fresh-both tasks half (count - half) ∙ ap (fresh_counts tasks) all) c.joined-2.ensures.counts
