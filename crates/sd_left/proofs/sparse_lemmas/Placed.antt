-- The tasklet in which the move of a number is.
use Rattle.std.proofs.Common.{◌≡◌, ℕ, zero, suc, ◌+◌, ◌<◌, List, [], ◌∷◌, map, take, length, get_or, None, Some, Bool, true, false, refl, sym, ap, ap₂, ◌∙◌, subst, arith}
use Rattle.std.specs.List.{sum}
use Rattle.std.specs.declared.option.Option.{Option}
use Rattle.sd_work.specs.Memory.{Memories}
use Rattle.sd_work.specs.Residual.{list, Points}
use Rattle.sd_moves.specs.numbered.Places.{place_of}
use Rattle.sd_graph.specs.PlainTree.{KindTree}
use Rattle.sd_graph.specs.Context.{Context}
use Rattle.sd_graph.specs.Unfold.{order_of_points}
use Rattle.sd_leaves.specs.declared.moves.instance.Instance.{Instance}
use Rattle.sd_left.specs.tree.Standing.{BodyLeft, first_line, first_kind, behind, body_of, point_inside, body_left, points_left}
use Rattle.sd_left.specs.declared.sparse.point.Begun.{Begun}
use Rattle.sd_left.specs.declared.sparse.point.Tasks.{Tasks}
use Rattle.sd_left.specs.declared.sparse.stretch.Counts.{Counts}
use Rattle.sd_left.specs.declared.sparse.stretch.Stretch.{Stretch}
use Rattle.sd_left.specs.declared.sparse.stretch.Way.{Way}
use Rattle.sd_left.specs.left.Telling.{Telling, moves_told, unfinished_told, pools_told, all_right, count_of_first}
use Rattle.sd_left.specs.sparse.Point.{tasks_at, task_tells, tellings_at, ready_at, point_tells}
use Rattle.sd_left.specs.sparse.Stretch.{points_in, moves_each, left_each, counts_of, is_summed, first_in, is_told, stretch_tells, IsWay}
use Rattle.sd_left.specs.sparse.Terms.{task_left, body_at, placed_from, bodies_at}
use Rattle.sd_left.proofs.left_lemmas.Sameness.{both-true, all-are}
use Rattle.sd_left.proofs.left_lemmas.Readiness.{member-there}
use Rattle.sd_left.proofs.next_moves_lemmas.Found.{point-place}
use Rattle.sd_left.proofs.next_moves_lemmas.FoundFirst.{first-place}
use Rattle.sd_left.proofs.next_moves_lemmas.FoundItem.{item-there, item-place}
use Rattle.sd_left.proofs.next_moves_lemmas.Ways.{any-order-place}
use Rattle.sd_left.proofs.left_lemmas.FirstLeft.{first-within}
use Rattle.sd_left.proofs.sparse_lemmas.Stretches.{counts-true}
use Rattle.sd_left.proofs.sparse_lemmas.Ways.{way-there}
use Rattle.sd_left.proofs.sparse_lemmas.Firsts.{first-true}
use Rattle.sd_left.proofs.sparse_lemmas.Shown.{always, always-held, tasks-show, tasks-right, placed_tells, points-show, points-right, placed-tell}

-- each stands in its place
pub placed-at : {A : Type 0} (start : ℕ) (all : List A) (number : ℕ) (one : A) → number < length all → one ≡ get_or all number one → (start + number, one) ≡ get_or (placed_from start all) number (start + number, one)
placed-at start [] number one there is = absurd (omega (arith, there))
placed-at start (first ∷ all) zero one there is =
    let same : start + 0 ≡ start = omega arith in
    ap₂ (λ (n : ℕ) (a : _). (n, a)) same is
placed-at start (first ∷ all) (suc number) one there is =
    let same : start + suc number ≡ suc start + number = omega arith in
    ap (λ (n : ℕ). (n, one)) same ∙ placed-at (suc start) all number one (omega (arith, there)) is
    ∙ ap (λ (n : ℕ). get_or (placed_from (suc start) all) number (n, one)) (sym same)

pub placed-long : {A : Type 0} (start : ℕ) (all : List A) → length (placed_from start all) ≡ length all
placed-long start [] = refl
placed-long start (first ∷ all) = ap suc (placed-long (suc start) all)

module _ (tasks : Tasks) (points : List (Option Begun)) (unit : ℕ) (way : Way) (is : IsWay tasks points unit way) (kind : KindTree) (context : Context) (memories : Memories) where
  abbrev all : List (ℕ × Option Begun)
  all = placed_from 0 points

  abbrev tellings : List Telling
  tellings = map (placed_tells tasks) all

  same : tellings ≡ map (point_tells tasks) points
  same = placed-tell tasks 0 points

  there : way.point < length points
  there = way-there tasks points unit way is

  module _ (point : Option Begun) (member : point ≡ get_or points way.point point) where
    placed-member : (0 + way.point, point) ≡ get_or all way.point (0 + way.point, point)
    placed-member = placed-at 0 points way.point point there member

    abbrev body : BodyLeft
    body = body_at tasks kind context (0 + way.point, point)

    abbrev parts : List (Option Instance)
    parts = tasks_at tasks.count point

    -- inside the point
    inside : place_of (body_left body (body_of kind) (point_inside kind context body.at)) (body.own ∷ memories) is.rest ≡ way.task ∷ []
    inside =
        let unfinished = unfinished_told (tellings_at tasks point) in
        let pools = pools_told (tellings_at tasks point) in
        let ready = ready_at tasks point in
        let right = all-are ready ready unfinished unfinished pools pools (all_right (map task_tells parts)) refl refl refl (tasks-right parts) in
        let held = always-held parts (body.own ∷ memories) in
        let found = is.task point member in
        let within = item-there task_left task_tells always body.order parts ready unfinished pools (tasks-show parts) right (body.own ∷ memories) held is.rest way.task is.after found.inside in
        let one = member-there parts way.task within in
        item-place task_left task_tells always body.order parts ready unfinished pools (tasks-show parts) right (body.own ∷ memories) held is.rest way.task is.after found.inside one.0 one.1 found.before
        (body_of kind) (point_inside kind context body.at)
        ∙ ap (λ (rest : List ℕ). way.task ∷ rest) (no-more one.0)
      where
        no-more : (one : Option Instance) → place_of (task_left one (first_kind (behind way.task (body_of kind))) (first_line (behind way.task (body_of kind))) (point_inside kind context body.at)) (body.own ∷ memories) is.after ≡ []
        no-more None = refl
        no-more (Some instance) = refl

    abbrev moves : List ℕ
    moves = moves_told tellings

    before : sum (take way.point moves) + is.rest ≡ unit
    before = ap (λ (t : List Telling). sum (take way.point (moves_told t)) + is.rest) same ∙ is.before

    within : is.rest < get_or moves way.point 0
    within = subst (λ (t : List Telling). is.rest < get_or (moves_told t) way.point 0) (sym same) is.inside

    -- in whichever order points come
    pub point-reached : (sequential : Bool) → (sequential ≡ true → unit < count_of_first (moves_each tasks points) (left_each tasks points))
        → place_of (list Points (order_of_points sequential) (points_left (bodies_at tasks points kind context) kind context)) memories unit ≡ way.point ∷ way.task ∷ []
    point-reached false less =
        let unfinished = unfinished_told tellings in
        let pools = pools_told tellings in
        let right = all-are moves moves unfinished unfinished pools pools (all_right tellings) refl refl refl (points-right tasks all) in
        any-order-place (points_left (bodies_at tasks points kind context) kind context) memories unit
        ∙ point-place (body_at tasks kind context) (placed_tells tasks) always all moves unfinished pools (points-show tasks kind context all) right memories (always-held all memories) unit way.point is.rest within
        (0 + way.point, point) placed-member before kind context
        ∙ ap (λ (rest : List ℕ). way.point ∷ rest) inside
    point-reached true less =
        let first : unit < count_of_first (moves_told tellings) (unfinished_told tellings) =
        subst (λ (t : List Telling). unit < count_of_first (moves_told t) (unfinished_told t)) (sym same) (less refl) in
        first-place (body_at tasks kind context) (placed_tells tasks) always kind context memories all (points-show tasks kind context all) (points-right tasks all) (always-held all memories) unit way.point is.rest
        (0 + way.point, point) (omega (arith, there, placed-long 0 points)) placed-member before within first
        ∙ ap (λ (rest : List ℕ). way.point ∷ rest) inside

-- the way in a map of tasklets is the place of the move
pub way-place : (sequential : Bool) (tasks : Tasks) (points : Stretch) (unit : ℕ) (way : Way) → (stretch_tells sequential tasks points).is_right ≡ true → unit < (stretch_tells sequential tasks points).moves
    → IsWay tasks (points_in points) unit way → (kind : KindTree) (context : Context) (memories : Memories)
    → place_of (list Points (order_of_points sequential) (points_left (bodies_at tasks (points_in points) kind context) kind context)) memories unit ≡ way.point ∷ way.task ∷ []
way-place sequential tasks points unit way right less is kind context memories =
    let both = both-true (is_told tasks) (is_summed tasks points) right in
    let one = member-there (points_in points) way.point (way-there tasks (points_in points) unit way is) in
    point-reached tasks (points_in points) unit way is kind context memories one.0 one.1 sequential (first sequential less (first-true tasks points both.0 both.1))
  where
    first : (sequential : Bool) → unit < (stretch_tells sequential tasks points).moves → first_in tasks points ≡ count_of_first (moves_each tasks (points_in points)) (left_each tasks (points_in points))
        → sequential ≡ true → unit < count_of_first (moves_each tasks (points_in points)) (left_each tasks (points_in points))
    first true less true_first so = subst (λ (n : ℕ). unit < n) true_first less
    first false less true_first so = absurd (let no : false ≡ true = so in cc)

-- the first point has no more moves than all
pub less-all : (sequential : Bool) (tasks : Tasks) (points : Stretch) (unit : ℕ) → (stretch_tells sequential tasks points).is_right ≡ true → unit < (stretch_tells sequential tasks points).moves → unit < (counts_of tasks points).moves
less-all false tasks points unit right less = less
less-all true tasks points unit right less =
    let both = both-true (is_told tasks) (is_summed tasks points) right in
    let all = points_in points in
    let counts = ap (λ (n : Counts). n.moves) (counts-true tasks points both.0 both.1) in
    omega (arith, less, first-true tasks points both.0 both.1, first-within (moves_each tasks all) (left_each tasks all), counts)
