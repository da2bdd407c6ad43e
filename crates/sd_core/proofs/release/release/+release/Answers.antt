use Rattle.std.proofs.Common.{◌≡◌, true, false, not, refl, sym, ap, ◌∙◌, subst, arith, Box}
use Rattle.std.specs.declared.alloc.Global.{Global}
use Rattle.std.proofs.lemmas.Result.{on_ok_weaker}
use Rattle.sd_left.specs.declared.left.left.Left as shape
use Rattle.sd_left.specs.declared.left.left.Run.{Run as RunNow}
use Rattle.sd_left.specs.declared.left.left.Left.TheViews.{out-Bodies, out-Body}
use Rattle.sd_left.specs.left.Tells.{body_tells, run_tells}
use Rattle.sd_left.proofs.left_lemmas.Sameness.{not-not}
use Rattle.sd_left.proofs.sparse_lemmas.Stretches.{on_ok_both}
use Rattle.sd_fire.proofs.fire_lemmas.Lists.{body_put, part_put}
use Rattle.sd_core.specs.release.Changed.{IsRunReleased}
use Rattle.sd_core.proofs.release_lemmas.Lists.{bodies-stay, bodies-released, items-stay, items-released}
use Rattle.sd_core.proofs.release_lemmas.Levels.{left-stays, map-arm, sparse-arm, pool-arm, nested-released, owner-on, owner-over, run-stays, run-on}
use Rattle.sd_core.proofs.release.release.+release.Goals as goal

-- ---- runs

pub release_run-returns-then-run : goal.release_run-returns-then-run
release_run-returns-then-run t c = λ right. run-stays c.args.run.now right

pub release_run-returns : goal.release_run-returns
release_run-returns t c = on_ok_weaker c.release_items.result (λ releases right. run-on c.args.run.now _ refl refl c.if-run.false releases right) c.release_items.ensures

-- ---- items of a body

pub release_items-returns-in_default : goal.release_items-returns-in_default
release_items-returns-in_default t c = λ right. items-stay c.args.body.now right

pub release_items-returns-then-number-len : goal.release_items-returns-then-number-len
release_items-returns-then-number-len t c = λ right. items-stay c.args.body.now right

pub release_items-returns : goal.release_items-returns
release_items-returns t c = on_ok_weaker c.count_again.result (λ again right.
    let body = c.args.body.now in
    let number = c.in-Some.number.now in
    items-released body c.count_again.new.self _ number c.index_mut.result.now c.release_left.new.left
    (omega (arith, c.if-number-len.false, c.len.ensures, (out-Body body).parts.ok.0)) c.index_mut.ensures.value
    (part_put body number c.release_left.new.left _ refl refl refl refl refl) refl refl
    c.count_again.ensures.at c.count_again.ensures.own c.count_again.ensures.order c.count_again.ensures.parts again right c.in_ok-release_left.ensures) c.count_again.ensures.right

-- ---- an item

pub release_left-returns-in-Instance : goal.release_left-returns-in-Instance
release_left-returns-in-Instance t c = λ right. left-stays c.args.left.now right

pub release_left-returns-in-Doing : goal.release_left-returns-in-Doing
release_left-returns-in-Doing t c = λ right. left-stays c.args.left.now right

pub release_left-returns-in-Points : goal.release_left-returns-in-Points
unfolding shape.out-Left denote.Hole.Carrier.out
release_left-returns-in-Points t c = rw c.in-Points.is (on_ok_weaker c.release_bodies.result (λ releases right.
    map-arm (shape.Points c.in-Points.sequential c.in-Points.points) right c.in-Points.sequential c.in-Points.points _ c.release_bodies.new.bodies refl c.in-Points.points-is releases) c.release_bodies.ensures)

pub release_left-returns-in-Sparse : goal.release_left-returns-in-Sparse
unfolding shape.out-Left denote.Hole.Carrier.out
release_left-returns-in-Sparse t c = rw c.in-Sparse.is (on_ok_weaker c.release_sparse.result (λ releases right.
    sparse-arm (shape.Sparse c.in-Sparse.sequential c.in-Sparse.tasks c.in-Sparse.points) right c.in-Sparse.sequential c.in-Sparse.tasks _ c.in-Sparse.points _ c.release_sparse.new.points refl c.in-Sparse.tasks-is c.in-Sparse.points-is releases) c.release_sparse.ensures)

pub release_left-returns-in-Pool : goal.release_left-returns-in-Pool
unfolding shape.out-Left denote.Hole.Carrier.out
release_left-returns-in-Pool t c = rw c.in-Pool.is (on_ok_weaker c.release_active.result (λ releases right.
    pool-arm (shape.Pool c.in-Pool.stream c.in-Pool.active c.in-Pool.waiting c.in-Pool.closed) right c.in-Pool.stream c.in-Pool.active _ c.release_active.new.active c.in-Pool.waiting c.in-Pool.closed refl c.in-Pool.active-is releases) c.release_active.ensures)

pub release_left-returns-in-Nested : goal.release_left-returns-in-Nested
unfolding shape.out-Left denote.Hole.Carrier.out
release_left-returns-in-Nested t c = rw c.in-Nested.is (on_ok_weaker c.release_run.result (λ releases right.
    nested-released (shape.Nested c.in-Nested.run') right c.in-Nested.run' (record c.in-Nested.run' { value = c.release_run.new.run }) refl
    (subst (λ (run : RunNow). (run_tells run).is_right ≡ true → IsRunReleased run c.release_run.new.run) (c.deref_mut.ensures.value ∙ ap (λ (b : Box RunNow Global). b.value) c.in-Nested.run-is) releases)) c.release_run.ensures)

-- ---- points and elements

pub release_active-returns-in_default : goal.release_active-returns-in_default
release_active-returns-in_default t c = λ right. bodies-stay c.args.active.now right

pub release_active-returns-then-choice-eq0 : goal.release_active-returns-then-choice-eq0
release_active-returns-then-choice-eq0 t c = λ right. bodies-stay c.args.active.now right

pub release_bodies-returns-in_default : goal.release_bodies-returns-in_default
release_bodies-returns-in_default t c = λ right. bodies-stay c.args.bodies.now right

pub release_bodies-returns-then-number-len : goal.release_bodies-returns-then-number-len
release_bodies-returns-then-number-len t c = λ right. bodies-stay c.args.bodies.now right

pub release_bodies-returns : goal.release_bodies-returns
release_bodies-returns t c = on_ok_weaker c.count_again.result (λ again right.
    let bodies = c.args.bodies.now in
    let number = c.in-Some.number.now in
    bodies-released bodies _ c.count_again.new.self number c.index_mut.result.now c.release_owner.new.body
    (omega (arith, c.if-number-len.false, c.len.ensures, (out-Bodies bodies).bodies.ok.0)) c.index_mut.ensures.value
    (body_put bodies number c.release_owner.new.body _ refl refl refl refl) c.count_again.ensures.bodies again right c.in_ok-release_owner.ensures) c.count_again.ensures.right

pub release_owner-returns-then-pools_of_body-eq0 : goal.release_owner-returns-then-pools_of_body-eq0
release_owner-returns-then-pools_of_body-eq0 t c = on_ok_weaker c.let_go.result (λ all right.
    let body = c.args.body.now in
    let over : (body_tells body).is_unfinished ≡ false = sym (not-not (body_tells body).is_unfinished) ∙ ap not (sym c.is_body_finished.ensures ∙ c.if-is_body_finished.true) in
    owner-over body c.let_go.new.body right over (sym c.pools_of_body.ensures ∙ c.if-pools_of_body-eq0.true) all.0.0 all.0.1 all.1)
    (on_ok_both _ _ c.let_go.result (on_ok_both _ _ c.let_go.result c.let_go.ensures.kept c.let_go.ensures.counted) c.let_go.ensures.right)

pub release_owner-returns : goal.release_owner-returns
release_owner-returns t c = on_ok_weaker c.release_items.result (λ releases right. owner-on c.args.body.now c.release_items.new.body (releases right)) c.release_items.ensures
