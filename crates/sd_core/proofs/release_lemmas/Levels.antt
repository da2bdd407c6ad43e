-- Items, owners and runs, one level deeper.
use Rattle.std.proofs.Common.{◌≡◌, ℕ, [], length, nat_eq, Bool, true, false, not, ◌&&◌, ◌||◌, refl, sym, ap, ap₂, ◌∙◌, subst, Box}
use Rattle.std.specs.declared.alloc.Global.{Global}
use Rattle.sd_work.specs.Memory.{Memory, Memories, waiting}
use Rattle.sd_work.specs.Exit.{Values}
use Rattle.sd_work.specs.Residual.{Points, list, pool, owning, nested}
use Rattle.sd_graph.specs.PlainTree.{KindTree, no_item}
use Rattle.sd_graph.specs.Context.{Context}
use Rattle.sd_graph.specs.TreeParts.{states_of_graph, items_at}
use Rattle.sd_graph.specs.Unfold.{order_of_points}
use Rattle.sd_mem.specs.machine.Coming.{state_context, state_term, exits_of}
use Rattle.sd_mem.specs.declared.machine.address.Station.{Station}
use Rattle.sd_left.specs.tree.Standing.{BodyLeft, RunLeft, first_kind, element_term, body_left, points_left, active_left, run_left}
use Rattle.sd_left.specs.declared.left.left.Left as shape
use Rattle.sd_left.specs.declared.left.left.Left.{Left as LeftNow}
use Rattle.sd_left.specs.declared.left.left.Bodies.{Bodies as BodiesNow}
use Rattle.sd_left.specs.declared.left.left.Body.{Body as BodyNow}
use Rattle.sd_left.specs.declared.left.left.Run.{Run as RunNow}
use Rattle.sd_left.specs.declared.left.left.Left.TheOpen.{Run-F}
use Rattle.sd_left.specs.declared.left.left.Left.TheViews.{out-Run, roll-Run, out-roll-Run}
use Rattle.sd_left.specs.declared.sparse.point.Tasks.{Tasks}
use Rattle.sd_left.specs.declared.sparse.stretch.Stretch.{Stretch}
use Rattle.sd_left.specs.sparse.Stretch.{points_in, is_told, is_summed, stretch_tells}
use Rattle.sd_left.specs.sparse.Terms.{bodies_at}
use Rattle.sd_left.specs.left.Kept.{left_of, bodies_kept, body_kept, run_kept}
use Rattle.sd_left.specs.left.Waits.{is_counted, are_bodies_counted, is_body_counted}
use Rattle.sd_left.specs.left.Telling.{Telling}
use Rattle.sd_left.specs.left.Tells.{tells, bodies_tell, body_tells, run_tells}
use Rattle.sd_left.proofs.left_lemmas.Rolls.{points_is, sparse_is, pool_is, nested_is, run_opened}
use Rattle.sd_left.proofs.left_lemmas.WaitRolls.{points_counted, pool_counted, nested_counted, run_counted}
use Rattle.sd_left.proofs.left_lemmas.TellRolls.{points_tell, sparse_tells, pool_tells, nested_tells}
use Rattle.sd_left.proofs.left_lemmas.Sameness.{both-true, both-are}
use Rattle.sd_left.proofs.left_lemmas.Showing.{left-shows, body-shows-all}
use Rattle.sd_left.proofs.pool_free_left_lemmas.Waiting.{left-waits}
use Rattle.sd_fire.proofs.advance_lemmas.Runs.{run_rolled}
use Rattle.sd_fire.proofs.fire_lemmas.Runs.{run_right}
use Rattle.sd_fire.proofs.settle_lemmas.Trees.{nowhere}
use Rattle.sd_core.specs.Released.{IsReleased, same, let_go, in_list, in_owner, in_run, in_pool}
use Rattle.sd_core.specs.release.Changed.{IsLeftReleased, AreBodiesReleased, AreSparseReleased, AreItemsReleased, IsOwnerReleased, IsRunReleased}
use Rattle.sd_core.proofs.release_lemmas.Lists.{work-changed}

abbrev is-right : Telling → Bool
is-right telling = telling.is_right

-- ---- items

pub left-stays : (left : LeftNow) → (tells left).is_right ≡ true → IsLeftReleased left left
left-stays left right = record { released = λ kind line context. same; counted = λ memories held. held; right = right }

held-on : (closed values old new : Bool) → (old ≡ true → new ≡ true) → (closed || (values && old)) ≡ true → (closed || (values && new)) ≡ true
held-on true values old new still held = refl
held-on false values old new still held = let both = both-true values old held in both-are values new both.0 (still both.1)

module _ (left : LeftNow) (right : (tells left).is_right ≡ true) where
  told : (old : LeftNow) (kind : KindTree) (line : ℕ) (context : Context) → left ≡ old → left_of left kind line context ≡ left_of old kind line context
  told old kind line context is = ap (λ (l : LeftNow). left_of l kind line context) is

  right_of : (old : LeftNow) (telling : Telling) → left ≡ old → tells old ≡ telling → telling.is_right ≡ true
  right_of old telling is tells_it = sym (ap (λ (l : LeftNow). (tells l).is_right) is ∙ ap is-right tells_it) ∙ right

  held_by : (old : LeftNow) (memories : Memories) → left ≡ old → is_counted left memories ≡ is_counted old memories
  held_by old memories is = ap (λ (l : LeftNow). is_counted l memories) is

  pub map-released : (sequential : Bool) (old new : BodiesNow) → left ≡ shape.Points sequential old → ((bodies_tell old).is_right ≡ true → AreBodiesReleased old new) → IsLeftReleased left (shape.Points sequential new)
  map-released sequential old new is releases =
      let done = releases (sym (ap (λ (l : LeftNow). (tells l).is_right) is ∙ ap is-right (points_tell sequential old)) ∙ right) in
      record {
        released = λ kind line context.
            work-changed (left_of left kind line context) (list Points (order_of_points sequential) (points_left (bodies_kept old) kind context)) (left_of (shape.Points sequential new) kind line context)
            (list Points (order_of_points sequential) (points_left (bodies_kept new) kind context))
            (told (shape.Points sequential old) kind line context is ∙ points_is kind line context sequential old) (points_is kind line context sequential new) (in_list (done.points kind context));
        counted = λ memories held. points_counted memories sequential new ∙ done.counted memories (sym (held_by (shape.Points sequential old) memories is ∙ points_counted memories sequential old) ∙ held);
        right = ap is-right (points_tell sequential new) ∙ done.right;
      }

  pub sparse-released : (sequential : Bool) (tasks : Tasks) (old new : Stretch) → left ≡ shape.Sparse sequential tasks old → (is_summed tasks old ≡ true → AreSparseReleased tasks old new)
      → IsLeftReleased left (shape.Sparse sequential tasks new)
  sparse-released sequential tasks old new is releases =
      let both = both-true (is_told tasks) (is_summed tasks old) (right_of (shape.Sparse sequential tasks old) (stretch_tells sequential tasks old) is (sparse_tells sequential tasks old)) in
      let done = releases both.1 in
      let right_now : (tells (shape.Sparse sequential tasks new)).is_right ≡ true = ap is-right (sparse_tells sequential tasks new) ∙ both-are (is_told tasks) (is_summed tasks new) both.0 done.summed in
      record {
        released = λ kind line context.
            work-changed (left_of left kind line context) (list Points (order_of_points sequential) (points_left (bodies_at tasks (points_in old) kind context) kind context)) (left_of (shape.Sparse sequential tasks new) kind line context)
            (list Points (order_of_points sequential) (points_left (bodies_at tasks (points_in new) kind context) kind context))
            (told (shape.Sparse sequential tasks old) kind line context is ∙ sparse_is kind line context sequential tasks old) (sparse_is kind line context sequential tasks new) (in_list (done.released kind context));
        counted = λ memories held.
            left-waits (shape.Sparse sequential tasks new) (first_kind no_item) 0 nowhere memories
            ((left-shows (shape.Sparse sequential tasks new) right_now).free (first_kind no_item) 0 nowhere (ap (λ (t : Telling). t.pools) (sparse_tells sequential tasks new)));
        right = right_now;
      }

  pub pool-released : (stream : Station) (old new : BodiesNow) (kept : ℕ) (closed : Bool) → left ≡ shape.Pool stream old kept closed → ((bodies_tell old).is_right ≡ true → AreBodiesReleased old new)
      → IsLeftReleased left (shape.Pool stream new kept closed)
  pool-released stream old new kept closed is releases =
      let done = releases (sym (ap (λ (l : LeftNow). (tells l).is_right) is ∙ ap is-right (pool_tells stream old kept closed)) ∙ right) in
      record {
        released = λ kind line context.
            work-changed (left_of left kind line context) (pool stream.level stream.container (element_term kind context) (active_left (bodies_kept old) kind context) closed) (left_of (shape.Pool stream new kept closed) kind line context)
            (pool stream.level stream.container (element_term kind context) (active_left (bodies_kept new) kind context) closed)
            (told (shape.Pool stream old kept closed) kind line context is ∙ pool_is kind line context stream old kept closed) (pool_is kind line context stream new kept closed) (in_pool (done.active kind context));
        counted = λ memories held.
            let values = nat_eq kept (length (waiting stream.level stream.container memories)) in
            pool_counted memories stream new kept closed
            ∙ held-on closed values (are_bodies_counted old memories) (are_bodies_counted new memories) (done.counted memories) (sym (held_by (shape.Pool stream old kept closed) memories is ∙ pool_counted memories stream old kept closed) ∙ held);
        right = ap is-right (pool_tells stream new kept closed) ∙ done.right;
      }

  pub nested-released : (old new : Box RunNow Global) → left ≡ shape.Nested old → ((run_tells old.value).is_right ≡ true → IsRunReleased old.value new.value) → IsLeftReleased left (shape.Nested new)
  nested-released old new is releases =
      let run = releases (right_of (shape.Nested old) (run_tells old.value) is (nested_tells old)) in
      record {
        released = λ kind line context.
            work-changed (left_of left kind line context) (run_left (run_kept old.value) _ _ _) (left_of (shape.Nested new) kind line context) (run_left (run_kept new.value) _ _ _)
            (told (shape.Nested old) kind line context is ∙ nested_is kind line context old) (nested_is kind line context new) (run.released _ _ _);
        counted = λ memories held. nested_counted memories new ∙ run.counted memories (sym (held_by (shape.Nested old) memories is ∙ nested_counted memories old) ∙ held);
        right = ap is-right (nested_tells new) ∙ run.right;
      }

  -- whatever names the parts have
  pub map-arm : (sequential : Bool) (old points new : BodiesNow) → left ≡ shape.Points sequential old → points ≡ old → ((bodies_tell points).is_right ≡ true → AreBodiesReleased points new) → IsLeftReleased left (shape.Points sequential new)
  map-arm sequential old points new is one releases = map-released sequential old new is (subst (λ (p : BodiesNow). (bodies_tell p).is_right ≡ true → AreBodiesReleased p new) one releases)

  pub sparse-arm : (sequential : Bool) (tasks these : Tasks) (old points new : Stretch) → left ≡ shape.Sparse sequential tasks old → these ≡ tasks → points ≡ old → (is_summed these points ≡ true → AreSparseReleased these points new)
      → IsLeftReleased left (shape.Sparse sequential tasks new)
  sparse-arm sequential tasks these old points new is one two releases =
      sparse-released sequential tasks old new is
      (subst (λ (t : Tasks). is_summed t old ≡ true → AreSparseReleased t old new) one (subst (λ (p : Stretch). is_summed these p ≡ true → AreSparseReleased these p new) two releases))

  pub pool-arm : (stream : Station) (old active new : BodiesNow) (kept : ℕ) (closed : Bool) → left ≡ shape.Pool stream old kept closed → active ≡ old → ((bodies_tell active).is_right ≡ true → AreBodiesReleased active new)
      → IsLeftReleased left (shape.Pool stream new kept closed)
  pool-arm stream old active new kept closed is one releases = pool-released stream old new kept closed is (subst (λ (p : BodiesNow). (bodies_tell p).is_right ≡ true → AreBodiesReleased p new) one releases)

-- ---- owners

-- one of which the items are kept
pub owner-on : (old new : BodyNow) → AreItemsReleased old new → IsOwnerReleased old new
owner-on old new items = record {
  released = λ these context.
      subst (λ (own : Memory). IsReleased (owning (body_kept old).own (body_left (body_kept old) these context)) (owning own (body_left (body_kept new) these context))) (sym items.own) (in_owner (items.released these context));
  at = items.at;
  counted = items.counted;
  right = items.right;
}

-- one that is finished, and lets go of all
pub owner-over : (old new : BodyNow) → (body_tells old).is_right ≡ true → (body_tells old).is_unfinished ≡ false → (body_tells old).pools ≡ 0
    → body_kept new ≡ record { at = (body_kept old).at; own = []; order = (body_kept old).order; parts = [] }
    → ((memories : Memories) → is_body_counted new memories ≡ true) → (body_tells new).is_right ≡ true → IsOwnerReleased old new
owner-over old new right over closed kept counts right_now =
    let shows = body-shows-all old right in
    record {
      released = λ items context.
          subst (λ (body : BodyLeft). IsReleased (owning (body_kept old).own (body_left (body_kept old) items context)) (owning body.own (body_left body items context))) (sym kept)
          (let_go (body_kept old).own [] (shows.over items context ∙ ap not over) (shows.free items context closed));
      at = ap (λ (body : BodyLeft). body.at) kept;
      counted = λ memories held. counts memories;
      right = right_now;
    }

-- ---- runs

pub run-stays : (run : RunNow) → (run_tells run).is_right ≡ true → IsRunReleased run run
run-stays run right = record { released = λ tree reach around. same; counted = λ memories held. held; right = right }

pub run-on : (run : RunNow) (x : Run-F LeftNow BodiesNow BodyNow RunNow) → x.state ≡ (out-Run run).state → x.ended ≡ (out-Run run).ended → (out-Run run).ended ≡ false
    → ((body_tells (out-Run run).body).is_right ≡ true → AreItemsReleased (out-Run run).body x.body) → (run_tells run).is_right ≡ true → IsRunReleased run (roll-Run x)
run-on run x same_state same_end going releases right =
    let items = releases (sym (run_right run) ∙ right) in
    let before = (out-Run run).body in
    let kept : run_kept (roll-Run x) ≡ record { state = (out-Run run).state; ended = false; body = body_kept x.body } =
    run_rolled x ∙ ap₂ (λ (state : ℕ) (ended : Bool). record { state = state; ended = ended; body = body_kept x.body }) same_state (same_end ∙ going) in
    let was : run_kept run ≡ record { state = (out-Run run).state; ended = false; body = body_kept before } =
    run_opened run ∙ ap (λ (ended : Bool). record { state = (out-Run run).state; ended = ended; body = body_kept before }) going in
    record {
      released = λ tree reach around.
          let state = (out-Run run).state in
          let work = λ (body : BodyLeft). body_left body (items_at (states_of_graph tree) state) (state_context tree reach around state body.at) in
          work-changed (run_left (run_kept run) tree reach around)
          (nested (state_term tree reach around) (exits_of tree reach around) (body_kept before).own state (body_kept before).at (body_left (body_kept before) (items_at (states_of_graph tree) state) (state_context tree reach around state (body_kept before).at)))
          (run_left (run_kept (roll-Run x)) tree reach around)
          (nested (state_term tree reach around) (exits_of tree reach around) (body_kept before).own state (body_kept before).at (body_left (body_kept x.body) (items_at (states_of_graph tree) state) (state_context tree reach around state (body_kept before).at)))
          (ap (λ (r : RunLeft). run_left r tree reach around) was)
          (ap (λ (r : RunLeft). run_left r tree reach around) kept
          ∙ ap₂ (λ (own : Memory) (at : Values). nested (state_term tree reach around) (exits_of tree reach around) own state at (body_left (body_kept x.body) (items_at (states_of_graph tree) state) (state_context tree reach around state at))) items.own items.at)
          (in_run (items.released (items_at (states_of_graph tree) state) (state_context tree reach around state (body_kept before).at)));
      counted = λ memories held.
          let inside : is_body_counted before memories ≡ true = sym (run_counted memories run ∙ ap (λ (ended : Bool). ended || is_body_counted before memories) going) ∙ held in
          run_counted memories (roll-Run x) ∙ ap (λ (y : Run-F LeftNow BodiesNow BodyNow RunNow). y.ended || is_body_counted y.body memories) (out-roll-Run x)
          ∙ ap (λ (ended : Bool). ended || is_body_counted x.body memories) (same_end ∙ going) ∙ items.counted memories inside;
      right = run_right (roll-Run x) ∙ ap (λ (y : Run-F LeftNow BodiesNow BodyNow RunNow). (body_tells y.body).is_right) (out-roll-Run x) ∙ items.right;
    }
