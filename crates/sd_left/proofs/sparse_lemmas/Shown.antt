-- What a map of tasklets tells of the work that is left of it.
use Rattle.std.proofs.Common.{◌≡◌, ℕ, suc, ◌+◌, nat_lt, List, [], ◌∷◌, map, Some, None, Bool, true, false, not, refl, sym, ap, ◌∙◌}
use Rattle.std.specs.List.{sum}
use Rattle.std.specs.declared.option.Option.{Option}
use Rattle.sd_work.specs.Memory.{Memories}
use Rattle.sd_work.specs.Leaf.{is_done}
use Rattle.sd_work.specs.Residual.{list, Points, flags_of}
use Rattle.sd_moves.specs.numbered.Counts.{count, one_if}
use Rattle.sd_graph.specs.PlainTree.{KindTree, task, map_scope, consume_scope, nested_graph, reduction, copy}
use Rattle.sd_graph.specs.Context.{Context}
use Rattle.sd_graph.specs.Unfold.{order_of_points}
use Rattle.sd_leaves.specs.declared.moves.instance.Instance.{Instance}
use Rattle.sd_left.specs.tree.Standing.{points_left}
use Rattle.sd_left.specs.declared.sparse.point.Begun.{Begun}
use Rattle.sd_left.specs.declared.sparse.point.Tasks.{Tasks}
use Rattle.sd_left.specs.declared.sparse.stretch.Counts.{Counts}
use Rattle.sd_left.specs.declared.sparse.stretch.Stretch.{Stretch}
use Rattle.sd_left.specs.left.Waits.{Told, all_hold}
use Rattle.sd_left.specs.left.Telling.{Telling, moves_told, unfinished_told, pools_told, all_right, count_of_first}
use Rattle.sd_left.specs.sparse.Point.{tasks_at, task_tells, tellings_at, ready_at, point_tells}
use Rattle.sd_left.specs.sparse.Stretch.{points_in, moves_each, left_each, counted as all_counted, counts_of, is_summed, first_in, is_told, stretch_tells}
use Rattle.sd_left.specs.sparse.Terms.{fresh_work, task_left, body_at, placed_from, bodies_at}
use Rattle.sd_left.proofs.tree_lemmas.Points.{any-count}
use Rattle.sd_left.proofs.left_lemmas.Sameness.{both-true, sum-cons, all-are}
use Rattle.sd_left.proofs.left_lemmas.Shows.{ItemShows, BodyShows, BodiesTold, AllItemsShow, AllBodiesShow, bodies-show, body-shows}
use Rattle.sd_left.proofs.left_lemmas.Layers.{instance-shows}
use Rattle.sd_left.proofs.sparse_lemmas.Stretches.{counts-true}
use Rattle.sd_left.proofs.sparse_lemmas.Firsts.{first-true}

-- ---- a tasklet

fresh-undone : (kind : KindTree) (context : Context) → is_done (fresh_work kind context) ≡ false
fresh-undone (task code ins outs) context = refl
fresh-undone (map_scope sequential params private body) context = refl
fresh-undone (consume_scope stream element private body) context = refl
fresh-undone (nested_graph inner links) context = refl
fresh-undone (reduction resolution axis identity from to) context = refl
fresh-undone (copy from to) context = refl

-- nothing is asked of the memories
abbrev pub always : {A : Type 0} → A → Told
always one memories = true

task-shows : (one : Option Instance) → ItemShows (task_left one) (task_tells one) (always one)
task-shows None right = record {
  over = λ kind line context. fresh-undone kind context;
  moves = λ kind line context memories held. ap (λ (done : Bool). one_if (not done)) (fresh-undone kind context);
  free = λ kind line context none. tt;
}
task-shows (Some instance) right = instance-shows instance right

pub tasks-show : (all : List (Option Instance)) → AllItemsShow task_left task_tells always all
tasks-show [] = tt
tasks-show (one ∷ all) = (task-shows one, tasks-show all)

pub tasks-right : (all : List (Option Instance)) → all_right (map task_tells all) ≡ true
tasks-right [] = refl
tasks-right (None ∷ all) = tasks-right all
tasks-right (Some instance ∷ all) = tasks-right all

pub always-held : {A : Type 0} (all : List A) (memories : Memories) → all_hold (map always all) memories ≡ true
always-held [] memories = refl
always-held (one ∷ all) memories = always-held all memories

no-pools : (all : List (Option Instance)) → sum (pools_told (map task_tells all)) ≡ 0
no-pools [] = refl
no-pools (None ∷ all) = sum-cons 0 (pools_told (map task_tells all)) ∙ ap (λ (n : ℕ). 0 + n) (no-pools all)
no-pools (Some instance ∷ all) = sum-cons 0 (pools_told (map task_tells all)) ∙ ap (λ (n : ℕ). 0 + n) (no-pools all)

-- ---- points

module _ (tasks : Tasks) where
  abbrev pub placed_tells : ℕ × Option Begun → Telling
  placed_tells placed = point_tells tasks placed.1

  point-shows : (kind : KindTree) (context : Context) (placed : ℕ × Option Begun) → BodyShows (body_at tasks kind context placed) (placed_tells placed) (always placed)
  point-shows kind context placed right =
      let all = tasks_at tasks.count placed.1 in
      let body = body_at tasks kind context placed in
      let unfinished = unfinished_told (tellings_at tasks placed.1) in
      let pools = pools_told (tellings_at tasks placed.1) in
      let told = body-shows task_left task_tells always body.at body.own body.order all (ready_at tasks placed.1) unfinished pools (tasks-show all)
      (all-are (ready_at tasks placed.1) (ready_at tasks placed.1) unfinished unfinished pools pools (all_right (map task_tells all)) refl refl refl (tasks-right all)) in
      record {
        over = told.over;
        moves = λ items inside memories held. told.moves items inside memories (always-held all (body.own ∷ memories));
        free = λ items inside none. told.free items inside (no-pools all);
      }

  pub points-show : (kind : KindTree) (context : Context) (all : List (ℕ × Option Begun)) → AllBodiesShow (body_at tasks kind context) placed_tells always all
  points-show kind context [] = tt
  points-show kind context (placed ∷ all) = (point-shows kind context placed, points-show kind context all)

  pub points-right : (all : List (ℕ × Option Begun)) → all_right (map placed_tells all) ≡ true
  points-right [] = refl
  points-right (placed ∷ all) = points-right all

  pub placed-tell : (start : ℕ) (points : List (Option Begun)) → map placed_tells (placed_from start points) ≡ map (point_tells tasks) points
  placed-tell start [] = refl
  placed-tell start (point ∷ points) = ap (λ (rest : List Telling). point_tells tasks point ∷ rest) (placed-tell (suc start) points)

  points-free : (all : List (ℕ × Option Begun)) → sum (pools_told (map placed_tells all)) ≡ 0
  points-free [] = refl
  points-free (placed ∷ all) = sum-cons 0 (pools_told (map placed_tells all)) ∙ ap (λ (n : ℕ). 0 + n) (points-free all)

  module _ (points : List (Option Begun)) where
    abbrev placed : List (ℕ × Option Begun)
    placed = placed_from 0 points

    pub they-tell : (kind : KindTree) (context : Context)
        → BodiesTold (bodies_at tasks points kind context)
        (record { together = record { is_unfinished = nat_lt 0 (sum (left_each tasks points)); moves = sum (moves_each tasks points); pools = 0; is_right = true }; first = count_of_first (moves_each tasks points) (left_each tasks points) })
        (always points)
    they-tell kind context =
        let tellings = map placed_tells placed in
        let told = bodies-show (body_at tasks kind context) placed_tells always placed (moves_told tellings) (unfinished_told tellings) (pools_told tellings) (points-show kind context placed)
        (all-are (moves_told tellings) (moves_told tellings) (unfinished_told tellings) (unfinished_told tellings) (pools_told tellings) (pools_told tellings) (all_right tellings) refl refl refl (points-right placed)) in
        let same : tellings ≡ map (point_tells tasks) points = placed-tell 0 points in
        record {
          over = λ k c. told.over k c ∙ ap (λ (all : List Telling). not (nat_lt 0 (sum (unfinished_told all)))) same;
          points = λ k c memories held. told.points k c memories (always-held placed memories) ∙ ap (λ (all : List Telling). sum (moves_told all)) same;
          first = λ k c memories held. told.first k c memories (always-held placed memories) ∙ ap (λ (all : List Telling). count_of_first (moves_told all) (unfinished_told all)) same;
          elements = λ k c memories held. told.elements k c memories (always-held placed memories) ∙ ap (λ (all : List Telling). sum (moves_told all)) same;
          free = λ k c none. told.free k c (points-free placed);
          active = λ k c none. told.active k c (points-free placed);
        }

pub sparse-shows : (sequential : Bool) (tasks : Tasks) (points : Stretch)
    → ItemShows (λ kind line context. list Points (order_of_points sequential) (points_left (bodies_at tasks (points_in points) kind context) kind context)) (stretch_tells sequential tasks points) (λ memories. true)
sparse-shows sequential tasks points right =
    let both = both-true (is_told tasks) (is_summed tasks points) right in
    let counts = counts-true tasks points both.0 both.1 in
    record {
      over = λ kind line context. (they-tell tasks (points_in points) kind context).over kind context ∙ sym (ap (λ (n : Counts). not n.is_unfinished) counts);
      moves = λ kind line context memories held. counted sequential kind context memories counts (first-true tasks points both.0 both.1);
      free = λ kind line context none. (they-tell tasks (points_in points) kind context).free kind context refl;
    }
  where
    counted : (sequential : Bool) (kind : KindTree) (context : Context) (memories : Memories) → counts_of tasks points ≡ all_counted tasks (points_in points)
        → first_in tasks points ≡ count_of_first (moves_each tasks (points_in points)) (left_each tasks (points_in points))
        → count (list Points (order_of_points sequential) (points_left (bodies_at tasks (points_in points) kind context) kind context)) memories ≡ (stretch_tells sequential tasks points).moves
    counted true kind context memories counts first = (they-tell tasks (points_in points) kind context).first kind context memories refl ∙ sym first
    counted false kind context memories counts first =
        let bodies = points_left (bodies_at tasks (points_in points) kind context) kind context in
        any-count bodies (flags_of bodies) [] 0 0 memories ∙ (they-tell tasks (points_in points) kind context).points kind context memories refl ∙ sym (ap (λ (n : Counts). n.moves) counts)
