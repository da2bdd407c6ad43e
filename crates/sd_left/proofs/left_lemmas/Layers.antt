-- What the layers of a tree tell.
use Rattle.std.proofs.Common.{◌≡◌, ℕ, ◌+◌, nat_eq, List, [], length, Bool, true, false, cond, not, ◌&&◌, ◌||◌, refl, sym, ap, ap₂, ◌∙◌, Ok, arith}
use Rattle.std.proofs.lemmas.Bool.{eqb-true}
use Rattle.sd_work.specs.Memory.{Memories, waiting}
use Rattle.sd_work.specs.Leaf.{Evaluation, is_done}
use Rattle.sd_work.specs.Residual.{leaf, list, pool, Points, finished, flags_of}
use Rattle.sd_moves.specs.numbered.Counts.{count, count_active, one_if}
use Rattle.sd_moves.specs.numbered.OpenPools.{HasNoOpenPool, HaveNoActiveOpenPool}
use Rattle.sd_graph.specs.PlainTree.{KindTree, GraphTree}
use Rattle.sd_graph.specs.TreeParts.{states_of_graph, items_at, containers_of}
use Rattle.sd_graph.specs.Context.{Context, Reach, place_at, frames_at}
use Rattle.sd_graph.specs.Unfold.{order_of_points, reach_inside}
use Rattle.sd_graph.specs.declared.place.Frame.{Frame}
use Rattle.sd_mem.specs.machine.Coming.{state_context}
use Rattle.sd_leaves.specs.moves.Left.{doing_left, instance_left}
use Rattle.sd_leaves.specs.declared.moves.doing.Doing.{Doing}
use Rattle.sd_leaves.specs.declared.moves.instance.Instance as instances
use Rattle.sd_leaves.specs.declared.moves.instance.Instance.TheVariants as variants
use Rattle.sd_left.specs.tree.Standing.{BodyLeft, RunLeft, element_term, points_left, active_left, nested_left, run_left, inner_graph, links_of}
use Rattle.sd_left.proofs.tree_lemmas.Points.{any-count}
use Rattle.sd_left.specs.tree.Evaluated.{evaluation_in}
use Rattle.sd_left.specs.left.Waits.{Told}
use Rattle.sd_left.specs.left.Telling.{Telling, BodiesTelling, leaf_tells, map_tells}
use Rattle.sd_left.proofs.left_lemmas.Sameness.{both-true, not-not}
use Rattle.sd_left.proofs.left_lemmas.Shows.{ItemShows, BodyShows, BodiesShow}

-- ---- leaves

same-end : (instance : instances.Instance) (one other : Evaluation) → is_done (instance_left one instance) ≡ is_done (instance_left other instance)
same-end (variants.Reading reading) one other = refl
same-end (variants.Doing doing) one other = refl

pub instance-shows : (instance : instances.Instance) → ItemShows (λ kind line context. leaf (place_at context line) (instance_left (evaluation_in kind context) instance)) (leaf_tells (is_done (instance_left (λ values. Ok []) instance))) (λ memories. true)
instance-shows instance right = record {
  over = λ kind line context. same-end instance (evaluation_in kind context) (λ values. Ok []) ∙ sym (not-not (is_done (instance_left (λ values. Ok []) instance)));
  moves = λ kind line context memories held. ap (λ (done : Bool). one_if (not done)) (same-end instance (evaluation_in kind context) (λ values. Ok []));
  free = λ kind line context none. tt;
}

pub doing-shows : (doing : Doing) → ItemShows (λ kind line context. leaf (place_at context line) (doing_left doing)) (leaf_tells (is_done (doing_left doing))) (λ memories. true)
doing-shows doing right = record {
  over = λ kind line context. sym (not-not (is_done (doing_left doing)));
  moves = λ kind line context memories held. refl;
  free = λ kind line context none. tt;
}

-- ---- points and elements

module _ (bodies : List BodyLeft) (telling : BodiesTelling) (counted : Told) (shows : BodiesShow bodies telling counted) where
  pub points-show : (sequential : Bool) → ItemShows (λ kind line context. list Points (order_of_points sequential) (points_left bodies kind context)) (map_tells sequential telling) counted
  points-show true right = record {
    over = λ kind line context. (shows right).over kind context;
    moves = λ kind line context memories held. (shows right).first kind context memories held;
    free = λ kind line context none. (shows right).free kind context none;
  }
  points-show false right = record {
    over = λ kind line context. (shows right).over kind context;
    moves = λ kind line context memories held.
        any-count (points_left bodies kind context) (flags_of (points_left bodies kind context)) [] 0 0 memories ∙ (shows right).points kind context memories held;
    free = λ kind line context none. (shows right).free kind context none;
  }

  pub pool-shows : (level container kept : ℕ) (closed : Bool) → ItemShows (λ kind line context. pool level container (element_term kind context) (active_left bodies kind context) closed)
      (record { is_unfinished = not closed; moves = cond closed 0 (telling.together.moves + kept); pools = one_if (not closed) + telling.together.pools; is_right = telling.together.is_right })
      (λ memories. closed || (nat_eq kept (length (waiting level container memories)) && counted memories))
  pool-shows level container kept closed right = record {
    over = λ kind line context. sym (not-not closed);
    moves = λ kind line context memories held. working closed kind context memories held;
    free = λ kind line context none. all-closed closed kind context none;
  }
    where
      working : (closed : Bool) (kind : KindTree) (context : Context) (memories : Memories) → (closed || (nat_eq kept (length (waiting level container memories)) && counted memories)) ≡ true
          → cond closed 0 (count_active (active_left bodies kind context) memories + length (waiting level container memories)) ≡ cond closed 0 (telling.together.moves + kept)
      working true kind context memories held = refl
      working false kind context memories held =
          let each = both-true (nat_eq kept (length (waiting level container memories))) (counted memories) held in
          ap₂ (λ (a b : ℕ). a + b) ((shows right).elements kind context memories each.1) (sym (eqb-true kept (length (waiting level container memories)) each.0))

      all-closed : (closed : Bool) (kind : KindTree) (context : Context) → one_if (not closed) + telling.together.pools ≡ 0 → (closed ≡ true) × HaveNoActiveOpenPool (active_left bodies kind context)
      all-closed true kind context none = (refl, (shows right).active kind context (omega (arith, none)))
      all-closed false kind context none = absurd (omega (arith, none))

-- ---- runs

pub record RunTold (run : RunLeft) (telling : Telling) (counted : Told) : Type 0 where
  pub over : (tree : GraphTree) (reach : ℕ → Reach) (around : List Frame) → finished (run_left run tree reach around) ≡ not telling.is_unfinished
  pub moves : (tree : GraphTree) (reach : ℕ → Reach) (around : List Frame) (memories : Memories) → counted memories ≡ true → count (run_left run tree reach around) memories ≡ telling.moves
  pub free : (tree : GraphTree) (reach : ℕ → Reach) (around : List Frame) → telling.pools ≡ 0 → HasNoOpenPool (run_left run tree reach around)

abbrev pub RunShows : RunLeft → Telling → Told → Type 0
RunShows run telling counted = telling.is_right ≡ true → RunTold run telling counted

pub run-shows : (state : ℕ) (ended : Bool) (body : BodyLeft) (telling : Telling) (counted : Told) → BodyShows body telling counted
    → RunShows (record { state = state; ended = ended; body = body })
    (record { is_unfinished = not ended; moves = cond ended 0 (cond telling.is_unfinished telling.moves 1); pools = cond ended 0 telling.pools; is_right = telling.is_right })
    (λ memories. ended || counted memories)
run-shows state true body telling counted shows right = record {
  over = λ tree reach around. refl;
  moves = λ tree reach around memories held. refl;
  free = λ tree reach around none. tt;
}
run-shows state false body telling counted shows right = record {
  over = λ tree reach around. refl;
  moves = λ tree reach around memories held.
      let items = items_at (states_of_graph tree) state in
      let context = state_context tree reach around state body.at in
      ap₂ (λ (over : Bool) (moves : ℕ). cond over 1 moves) ((shows right).over items context) ((shows right).moves items context memories held)
      ∙ turned telling.is_unfinished telling.moves;
  free = λ tree reach around none. (shows right).free (items_at (states_of_graph tree) state) (state_context tree reach around state body.at) none;
}
  where
    turned : (unfinished : Bool) (moves : ℕ) → cond (not unfinished) 1 moves ≡ cond unfinished moves 1
    turned true moves = refl
    turned false moves = refl

pub nested-shows : (run : RunLeft) (telling : Telling) (counted : Told) → RunShows run telling counted → ItemShows (nested_left run) telling counted
nested-shows run telling counted shows right = record {
  over = λ kind line context. (shows right).over (inner_graph kind) (reach_inside context (links_of kind) (containers_of (inner_graph kind))) (frames_at context line);
  moves = λ kind line context memories held. (shows right).moves (inner_graph kind) (reach_inside context (links_of kind) (containers_of (inner_graph kind))) (frames_at context line) memories held;
  free = λ kind line context none. (shows right).free (inner_graph kind) (reach_inside context (links_of kind) (containers_of (inner_graph kind))) (frames_at context line) none;
}
