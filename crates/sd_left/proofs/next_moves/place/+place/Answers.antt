use Rattle.std.proofs.Common.{◌≡◌, ◌≤◌, ◌<◌, ◌++◌, ◌-◌, ◌∷◌, [], ℕ, List, Bool, not, length, get_or, true, false, sym, ap, ◌∙◌, subst, arith}
use Rattle.std.proofs.lemmas.Result.{on_ok_weaker}
use Rattle.sd_work.specs.Residual.{Term}
use Rattle.sd_moves.specs.numbered.Counts.{count_active}
use Rattle.sd_moves.specs.numbered.Places.{place_of, place_in_active}
use Rattle.sd_graph.specs.TreeParts.{states_of_graph, items_at}
use Rattle.sd_graph.specs.declared.place.Place.{Place}
use Rattle.sd_mem.specs.machine.Coming.{state_context}
use Rattle.sd_left.specs.tree.Standing.{first_line, first_kind, behind, body_of, point_inside, element_inside, element_term, value_at, active_left}
use Rattle.sd_left.specs.declared.left.left.Left.{Left as LeftNow}
use Rattle.sd_left.specs.declared.left.left.Body.{Body as BodyNow}
use Rattle.sd_left.specs.declared.left.left.Left.TheViews.{out-Bodies, out-Body, out-Run}
use Rattle.sd_left.specs.left.Kept.{left_of, bodies_kept, body_kept}
use Rattle.sd_left.specs.left.Waits.{is_counted, are_bodies_counted}
use Rattle.sd_left.specs.left.Telling.{Telling, map_tells}
use Rattle.sd_left.specs.left.Tells.{tells, bodies_telling, bodies_tell}
use Rattle.sd_left.specs.sparse.Stretch.{stretch_tells}
use Rattle.sd_work.specs.Memory.{waiting}
use Rattle.sd_left.proofs.left_lemmas.Rolls.{points_is, sparse_is, pool_is}
use Rattle.sd_left.proofs.left_lemmas.WaitRolls.{points_counted, pool_counted}
use Rattle.sd_left.proofs.left_lemmas.TellRolls.{points_tell, sparse_tells, pool_tells}
use Rattle.sd_left.proofs.left_lemmas.Sameness.{not-not}
use Rattle.sd_left.proofs.next_moves_lemmas.Held.{nothing-more}
use Rattle.sd_left.proofs.next_moves_lemmas.Found.{is-here, is-later}
use Rattle.sd_left.proofs.next_moves_lemmas.Ways.{open-held, ended-place, over-place, state-right, busy-place, state-held, state-less}
use Rattle.sd_left.proofs.next_moves_lemmas.Trees.{way-through, part-there, part-right, part-held, part-less, part-place, bodies-sum, busy-counts, one-there, one-right, one-held, one-less, any-point, one-element, not-over-first}
use Rattle.sd_left.proofs.next_moves.place.+place.Goals as goal

pub go_into_bodies-returns-in_default-clause-points : goal.go_into_bodies-returns-in_default-clause-points
go_into_bodies-returns-in_default-clause-points t c = λ sequential kind context memories right held less.
    absurd (not-over-first c.args.bodies.now memories right held sequential c.args.number less c.in_default.ensures)

pub go_into_bodies-returns-in_default-get-clause-points : goal.go_into_bodies-returns-in_default-get-clause-points
go_into_bodies-returns-in_default-get-clause-points t c = λ sequential kind context memories right held less.
    let there = one-there c.args.bodies.now memories right held c.args.number c.in-Some.found c.in-Some.ensures in
    let over = subst (λ (bodies : List BodyNow). length bodies ≤ c.in-Some.found.number) c.deref.ensures.value c.in_default-get.ensures.lookup.3 in
    absurd (omega (arith, there, over))

pub go_into_bodies-returns-in_default-get-clause-elements : goal.go_into_bodies-returns-in_default-get-clause-elements
go_into_bodies-returns-in_default-get-clause-elements t c = λ kind context memories right held less.
    let there = one-there c.args.bodies.now memories right held c.args.number c.in-Some.found c.in-Some.ensures in
    let over = subst (λ (bodies : List BodyNow). length bodies ≤ c.in-Some.found.number) c.deref.ensures.value c.in_default-get.ensures.lookup.3 in
    absurd (omega (arith, there, over))

pub go_into_bodies-returns-clause-points : goal.go_into_bodies-returns-clause-points
go_into_bodies-returns-clause-points t c = on_ok_weaker c.go_into_body.result (λ is sequential kind context memories right held less.
    let bodies = c.args.bodies.now in
    let number = c.args.number in
    let found = c.in-Some.found in
    let body = c.in-Some-get.body.now in
    let member : body ≡ get_or (out-Bodies bodies).bodies.items found.number body =
    subst (λ (all : List BodyNow). body ≡ get_or all found.number body) c.deref.ensures.value (c.in-Some-get.ensures.lookup.3.1 body) in
    way-through _ _ _ _ _ c.in_ok-push.ensures.items
    (is (body_of kind) (point_inside kind context (body_kept body).at) memories
    (one-right bodies memories right held number found c.in-Some.ensures body member)
    (one-held bodies memories right held number found c.in-Some.ensures body member)
    (one-less bodies memories right held number found c.in-Some.ensures body member))
    ∙ ap (λ (way : List ℕ). c.args.place.now.items ++ way) (sym (any-point bodies memories right held number found c.in-Some.ensures body member sequential less kind context))) c.go_into_body.ensures

pub go_into_bodies-returns-clause-elements : goal.go_into_bodies-returns-clause-elements
go_into_bodies-returns-clause-elements t c = on_ok_weaker c.go_into_body.result (λ is kind context memories right held less.
    let bodies = c.args.bodies.now in
    let number = c.args.number in
    let found = c.in-Some.found in
    let body = c.in-Some-get.body.now in
    let member : body ≡ get_or (out-Bodies bodies).bodies.items found.number body =
    subst (λ (all : List BodyNow). body ≡ get_or all found.number body) c.deref.ensures.value (c.in-Some-get.ensures.lookup.3.1 body) in
    way-through _ _ _ _ _ c.in_ok-push.ensures.items
    (is (body_of kind) (element_inside kind context (value_at (body_kept body).at)) memories
    (one-right bodies memories right held number found c.in-Some.ensures body member)
    (one-held bodies memories right held number found c.in-Some.ensures body member)
    (one-less bodies memories right held number found c.in-Some.ensures body member))
    ∙ ap (λ (way : List ℕ). c.args.place.now.items ++ way) (sym (one-element bodies memories right held number found c.in-Some.ensures body member kind context))) c.go_into_body.ensures

pub go_into_body-returns-in_default-get : goal.go_into_body-returns-in_default-get
go_into_body-returns-in_default-get t c = λ items context memories right held less.
    let there = part-there c.args.body.now memories right held c.args.number c.in-Some.found c.in-Some.ensures in
    let over = subst (λ (parts : List LeftNow). length parts ≤ c.in-Some.found.number) c.deref.ensures.value c.in_default-get.ensures.lookup.3 in
    absurd (omega (arith, there, over))

pub go_into_body-returns : goal.go_into_body-returns
go_into_body-returns t c = on_ok_weaker c.go_into_item.result (λ is items context memories right held less.
    let body = c.args.body.now in
    let number = c.args.number in
    let found = c.in-Some.found in
    let part = c.in-Some-get.part.now in
    let member : part ≡ get_or (out-Body body).parts.items found.number part =
    subst (λ (all : List LeftNow). part ≡ get_or all found.number part) c.deref.ensures.value (c.in-Some-get.ensures.lookup.3.1 part) in
    way-through _ _ _ _ _ c.in_ok-push.ensures.items
    (is (first_kind (behind found.number items)) (first_line (behind found.number items)) context ((out-Body body).own.contents ∷ memories)
    (part-right body memories right held number found c.in-Some.ensures part member)
    (part-held body memories right held number found c.in-Some.ensures part member)
    (part-less body memories right held number found c.in-Some.ensures part member))
    ∙ ap (λ (way : List ℕ). c.args.place.now.items ++ way) (sym (part-place body memories right held number found c.in-Some.ensures part member items context))) c.go_into_item.ensures

pub go_into_item-returns-in-Points : goal.go_into_item-returns-in-Points
go_into_item-returns-in-Points t c = on_ok_weaker c.go_into_bodies.result (λ is kind line context memories right held less.
    let sequential = c.in-Points.sequential in
    let points = c.in-Points.points in
    let number = c.args.number in
    let telling : tells c.args.left.now ≡ map_tells sequential (bodies_telling points) = ap tells c.in-Points.is ∙ points_tell sequential points in
    is sequential kind context memories (sym (ap (λ (t : Telling). t.is_right) telling) ∙ right)
    (sym (ap (λ (left : LeftNow). is_counted left memories) c.in-Points.is ∙ points_counted memories sequential points) ∙ held)
    (subst (λ (t : Telling). number < t.moves) telling less)
    ∙ ap (λ (way : List ℕ). c.args.place.now.items ++ way)
    (sym (ap (λ (left : LeftNow). place_of (left_of left kind line context) memories number) c.in-Points.is
    ∙ ap (λ (term : Term Place). place_of term memories number) (points_is kind line context sequential points)))) c.go_into_bodies.ensures.points

pub go_into_item-returns-in-Sparse : goal.go_into_item-returns-in-Sparse
go_into_item-returns-in-Sparse t c = on_ok_weaker c.go_into_sparse.result (λ is kind line context memories right held less.
    let sequential = c.in-Sparse.sequential in
    let tasks = c.in-Sparse.tasks in
    let points = c.in-Sparse.points in
    let number = c.args.number in
    let telling : tells c.args.left.now ≡ stretch_tells sequential tasks points = ap tells c.in-Sparse.is ∙ sparse_tells sequential tasks points in
    is sequential kind context memories (sym (ap (λ (t : Telling). t.is_right) telling) ∙ right) (subst (λ (t : Telling). number < t.moves) telling less)
    ∙ ap (λ (way : List ℕ). c.args.place.now.items ++ way)
    (sym (ap (λ (left : LeftNow). place_of (left_of left kind line context) memories number) c.in-Sparse.is
    ∙ ap (λ (term : Term Place). place_of term memories number) (sparse_is kind line context sequential tasks points)))) c.go_into_sparse.ensures

pub go_into_item-returns-in-Pool : goal.go_into_item-returns-in-Pool
go_into_item-returns-in-Pool t c = on_ok_weaker c.go_into_pool.result (λ is kind line context memories right held less.
    let active = c.in-Pool.active in
    let stream = c.in-Pool.stream in
    let kept = c.in-Pool.waiting in
    let closed = c.in-Pool.closed in
    let number = c.args.number in
    let values = length (waiting stream.level stream.container memories) in
    let telling = ap tells c.in-Pool.is ∙ pool_tells stream active kept closed in
    let counted = sym (ap (λ (left : LeftNow). is_counted left memories) c.in-Pool.is ∙ pool_counted memories stream active kept closed) ∙ held in
    is stream.level stream.container (element_term kind context) closed kind context memories (sym (ap (λ (t : Telling). t.is_right) telling) ∙ right)
    (open-held closed kept values (bodies_tell active).moves number (are_bodies_counted active memories) (subst (λ (t : Telling). number < t.moves) telling less) counted)
    ∙ ap (λ (way : List ℕ). c.args.place.now.items ++ way)
    (sym (ap (λ (left : LeftNow). place_of (left_of left kind line context) memories number) c.in-Pool.is
    ∙ ap (λ (term : Term Place). place_of term memories number) (pool_is kind line context stream active kept closed)))) c.go_into_pool.ensures

pub go_into_pool-returns-then-number-busy : goal.go_into_pool-returns-then-number-busy
go_into_pool-returns-then-number-busy t c = on_ok_weaker c.go_into_bodies.result (λ is level container body closed kind context memories right held.
    let active = c.args.active.now in
    let number = c.args.number in
    let counted = busy-counts active memories right held kind context in
    let all = bodies-sum active memories right held in
    way-through _ _ _ _ _ c.in_ok-push.ensures.items (is kind context memories right held (omega (arith, c.if-number-busy.true, c.sum-busy.ensures, all)))
    ∙ ap (λ (way : List ℕ). c.args.place.now.items ++ way)
    (sym (is-here number (count_active (active_left (bodies_kept active) kind context) memories) (1 ∷ place_in_active 0 (active_left (bodies_kept active) kind context) memories number) (λ position. 0 ∷ position ∷ [])
    (omega (arith, c.if-number-busy.true, c.sum-busy.ensures, counted))))) c.go_into_bodies.ensures.elements

pub go_into_pool-returns : goal.go_into_pool-returns
go_into_pool-returns t c = λ level container body closed kind context memories right held.
    let active = c.args.active.now in
    let number = c.args.number in
    let working = count_active (active_left (bodies_kept active) kind context) memories in
    let counted = busy-counts active memories right held kind context in
    let busy : c.sum-busy.result ≡ working = c.sum-busy.ensures ∙ sym counted in
    way-through _ _ _ _ _ c.in_ok-push-2.ensures.items c.in_ok-push-3.ensures.items
    ∙ ap (λ (all : ℕ). c.args.place.now.items ++ 0 ∷ (number - all) ∷ []) busy
    ∙ ap (λ (way : List ℕ). c.args.place.now.items ++ way)
    (sym (is-later number working (1 ∷ place_in_active 0 (active_left (bodies_kept active) kind context) memories number) (λ position. 0 ∷ position ∷ [])
    (omega (arith, c.if-number-busy.false, busy))))

pub go_into_run-returns-then-run : goal.go_into_run-returns-then-run
go_into_run-returns-then-run t c = λ tree reach around memories right held less.
    nothing-more c.args.place.now.items _ (ended-place c.args.run.now tree reach around memories c.args.number c.if-run.true)

pub go_into_run-returns-then-is_body_finished : goal.go_into_run-returns-then-is_body_finished
go_into_run-returns-then-is_body_finished t c = λ tree reach around memories right held less.
    let run = c.args.run.now in
    nothing-more c.args.place.now.items _ (over-place run tree reach around memories c.args.number right c.if-run.false
    (flipped _ (sym c.is_body_finished.ensures ∙ c.if-is_body_finished.true)))
  where
    flipped : (so : Bool) → not so ≡ true → so ≡ false
    flipped so is = sym (not-not so) ∙ ap not is

pub go_into_run-returns : goal.go_into_run-returns
go_into_run-returns t c = on_ok_weaker c.go_into_body.result (λ is tree reach around memories right held less.
    let run = c.args.run.now in
    let number = c.args.number in
    let body = (out-Run run).body in
    let busy = flipped _ (sym c.is_body_finished.ensures ∙ c.if-is_body_finished.false) in
    is (items_at (states_of_graph tree) (out-Run run).state) (state_context tree reach around (out-Run run).state (body_kept body).at) memories
    (state-right run tree reach around memories number right c.if-run.false)
    (state-held run tree reach around memories number right c.if-run.false busy held)
    (state-less run tree reach around memories number right c.if-run.false busy less)
    ∙ ap (λ (way : List ℕ). c.args.place.now.items ++ way) (sym (busy-place run tree reach around memories number right c.if-run.false busy))) c.go_into_body.ensures
  where
    flipped : (so : Bool) → not so ≡ false → so ≡ true
    flipped so is = sym (not-not so) ∙ ap not is
