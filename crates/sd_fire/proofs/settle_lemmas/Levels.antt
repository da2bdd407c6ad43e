-- What is left of an item, settled one level deeper.
use Rattle.std.proofs.Common.{◌≡◌, ℕ, nat_eq, nat_lt, ℤ, List, [], ◌∷◌, length, map, slice_index_or, Bool, true, false, not, ◌&&◌, ◌||◌, refl, sym, ap, ap₂, ◌∙◌, subst, rules, Box}
use Rattle.std.specs.declared.alloc.Global.{Global}
use Rattle.std.specs.List.{sum}
use Rattle.sd_work.specs.Memory.{Memories, waiting}
use Rattle.sd_work.specs.Residual.{pool, list, Points, none_active}
use Rattle.sd_work.specs.Settle.{settle, settle_active, is_empty, all_true}
use Rattle.sd_moves.specs.numbered.Counts.{one_if}
use Rattle.sd_moves.specs.numbered.OpenPools.{HasNoOpenPool}
use Rattle.sd_graph.specs.PlainTree.{KindTree, no_item}
use Rattle.sd_graph.specs.Context.{Context}
use Rattle.sd_graph.specs.Unfold.{order_of_points}
use Rattle.sd_mem.specs.declared.machine.address.Station.{Station}
use Rattle.sd_leaves.specs.declared.moves.doing.Doing.{Doing}
use Rattle.sd_leaves.specs.declared.moves.instance.Instance.{Instance}
use Rattle.sd_left.specs.tree.Standing.{BodyLeft, first_kind, element_term, active_left}
use Rattle.sd_left.specs.declared.left.left.Left as shape
use Rattle.sd_left.specs.declared.left.left.Left.{Left as LeftNow}
use Rattle.sd_left.specs.declared.left.left.Bodies.{Bodies as BodiesNow}
use Rattle.sd_left.specs.declared.left.left.Run.{Run as RunNow}
use Rattle.sd_left.specs.left.Kept.{left_of, bodies_kept}
use Rattle.sd_left.specs.left.Waits.{are_bodies_counted}
use Rattle.sd_left.specs.left.Telling.{Telling, flags_told, unfinished_told}
use Rattle.sd_left.specs.left.Tells.{tells, bodies_tell, body_tells, run_tells}
use Rattle.sd_left.proofs.left_lemmas.Sameness.{sum-cons, unfinished-more, both-are}
use Rattle.sd_left.proofs.left_lemmas.Rolls.{instance_is, doing_is, points_is, pool_is, nested_is, bodies_opened}
use Rattle.sd_left.proofs.left_lemmas.WaitRolls.{points_counted, pool_counted, nested_counted}
use Rattle.sd_left.proofs.left_lemmas.TellRolls.{points_tell, sparse_tells, pool_tells, nested_tells, bodies_told}
use Rattle.sd_left.proofs.pool_free_left_lemmas.Waiting.{left-waits}
use Rattle.sd_moves.proofs.numbered_lemmas.Open.{settled-open}
use Rattle.sd_left.specs.declared.sparse.point.Tasks.{Tasks}
use Rattle.sd_left.specs.declared.sparse.stretch.Stretch.{Stretch}
use Rattle.sd_left.proofs.left_lemmas.Showing.{left-shows}
use Rattle.sd_fire.specs.settle.Settled.{IsLeftSettled, ArePointsSettled, IsPoolSettled, IsRunSettled}
use Rattle.sd_fire.proofs.settle_lemmas.Trees.{nowhere, none-in-work}
use Rattle.sd_fire.proofs.settle_lemmas.Points.{all_bodies, bodies-were}

abbrev is-right : Telling → Bool
is-right telling = telling.is_right

all-over : (tellings : List Telling) → all_true (flags_told tellings) ≡ not (nat_lt 0 (sum (unfinished_told tellings)))
all-over [] = refl
all-over (telling ∷ tellings) =
    ap (λ (rest : Bool). not telling.is_unfinished && rest) (all-over tellings)
    ∙ unfinished-more telling.is_unfinished (sum (unfinished_told tellings))
    ∙ ap (λ (n : ℕ). not (nat_lt 0 n)) (sym (sum-cons (one_if telling.is_unfinished) (unfinished_told tellings)))

-- no element is in work where the count says so
over-told : (bodies : BodiesNow) (kind : KindTree) (context : Context) → (bodies_tell bodies).is_right ≡ true → not (bodies_tell bodies).is_unfinished ≡ none_active (active_left (bodies_kept bodies) kind context)
over-told bodies kind context right =
    let were_right = bodies-were bodies right in
    ap (λ (t : Telling). not t.is_unfinished) (bodies_told bodies)
    ∙ ap (λ (u : List ℕ). not (nat_lt 0 (sum u))) were_right.unfinished_are
    ∙ sym (all-over (map body_tells (all_bodies bodies)))
    ∙ sym (none-in-work kind context (all_bodies bodies) were_right.parts_are)
    ∙ sym (ap (λ (b : List BodyLeft). none_active (active_left b kind context)) (bodies_opened bodies))

none-waits : (values : List ℤ) → nat_eq (length values) 0 ≡ is_empty values
none-waits [] = refl
none-waits (value ∷ values) = search rules

or-so : (closed so : Bool) → so ≡ true → (closed || so) ≡ true
or-so true so holds = refl
or-so false so holds = holds

same-number : (a b : ℕ) → a ≡ b → nat_eq a b ≡ true
same-number a b same = subst (λ (n : ℕ). nat_eq a n ≡ true) same (self a)
  where
    self : (n : ℕ) → nat_eq n n ≡ true
    self n = search rules

module _ (may_go : Bool) (clear : ℕ) (memories : Memories) (left : LeftNow) (right : (tells left).is_right ≡ true) where
  told : (old : LeftNow) (kind : KindTree) (line : ℕ) (context : Context) → left ≡ old → left_of left kind line context ≡ left_of old kind line context
  told old kind line context is = ap (λ (l : LeftNow). left_of l kind line context) is

  right_of : (old : LeftNow) (telling : Telling) → left ≡ old → tells old ≡ telling → telling.is_right ≡ true
  right_of old telling is tells_it = sym (ap (λ (l : LeftNow). (tells l).is_right) is ∙ ap is-right tells_it) ∙ right

  pub instance_settled : (instance : Instance) → left ≡ shape.Instance instance → IsLeftSettled left left may_go clear memories
  instance_settled instance is = record {
    settled = λ cleared clears kind line context.
        let work = told (shape.Instance instance) kind line context is ∙ instance_is kind line context instance in
        work ∙ ap (settle may_go cleared memories) (sym work);
    counted = left-waits left (first_kind no_item) 0 nowhere memories
        (subst HasNoOpenPool (sym (told (shape.Instance instance) (first_kind no_item) 0 nowhere is ∙ instance_is (first_kind no_item) 0 nowhere instance)) tt);
    right = right;
  }

  pub doing_settled : (doing : Doing) → left ≡ shape.Doing doing → IsLeftSettled left left may_go clear memories
  doing_settled doing is = record {
    settled = λ cleared clears kind line context.
        let work = told (shape.Doing doing) kind line context is ∙ doing_is kind line context doing in
        work ∙ ap (settle may_go cleared memories) (sym work);
    counted = left-waits left (first_kind no_item) 0 nowhere memories
        (subst HasNoOpenPool (sym (told (shape.Doing doing) (first_kind no_item) 0 nowhere is ∙ doing_is (first_kind no_item) 0 nowhere doing)) tt);
    right = right;
  }

  pub sparse_settled : (sequential : Bool) (tasks : Tasks) (points : Stretch) → left ≡ shape.Sparse sequential tasks points → IsLeftSettled left left may_go clear memories
  sparse_settled sequential tasks points is =
      let none : (tells left).pools ≡ 0 = ap (λ (l : LeftNow). (tells l).pools) is ∙ ap (λ (t : Telling). t.pools) (sparse_tells sequential tasks points) in
      let free = (left-shows left right).free in
      record {
        settled = λ cleared clears kind line context. sym (settled-open (left_of left kind line context) may_go cleared memories (free kind line context none));
        counted = left-waits left (first_kind no_item) 0 nowhere memories (free (first_kind no_item) 0 nowhere none);
        right = right;
      }

  pub map_settled : (sequential : Bool) (old new : BodiesNow) → left ≡ shape.Points sequential old → ((bodies_tell old).is_right ≡ true → ArePointsSettled sequential old new may_go clear memories)
      → IsLeftSettled left (shape.Points sequential new) may_go clear memories
  map_settled sequential old new is settles =
      let points = settles (sym (ap (λ (l : LeftNow). (tells l).is_right) is ∙ ap is-right (points_tell sequential old)) ∙ right) in
      record {
        settled = λ cleared clears kind line context.
            points_is kind line context sequential new
            ∙ ap (list Points (order_of_points sequential)) (points.settled cleared clears kind context)
            ∙ ap (settle may_go cleared memories) (sym (told (shape.Points sequential old) kind line context is ∙ points_is kind line context sequential old));
        counted = points_counted memories sequential new ∙ points.counted;
        right = ap is-right (points_tell sequential new) ∙ points.right;
      }

  pub nested_settled : (old new : Box RunNow Global) → left ≡ shape.Nested old → ((run_tells old.value).is_right ≡ true → IsRunSettled old.value new.value may_go clear memories) → IsLeftSettled left (shape.Nested new) may_go clear memories
  nested_settled old new is settles =
      let run = settles (right_of (shape.Nested old) (run_tells old.value) is (nested_tells old)) in
      record {
        settled = λ cleared clears kind line context.
            nested_is kind line context new
            ∙ run.settled cleared clears _ _ _
            ∙ ap (settle may_go cleared memories) (sym (told (shape.Nested old) kind line context is ∙ nested_is kind line context old));
        counted = nested_counted memories new ∙ run.counted;
        right = ap is-right (nested_tells new) ∙ run.right;
      }

  pub pool_settled : (stream : Station) (old new : BodiesNow) (was kept : ℕ) (was_closed closed : Bool) → left ≡ shape.Pool stream old was was_closed
      → ((bodies_tell old).is_right ≡ true → IsPoolSettled stream old was_closed new kept closed may_go clear memories) → IsLeftSettled left (shape.Pool stream new kept closed) may_go clear memories
  pool_settled stream old new was kept was_closed closed is settles =
      let done = settles (sym (ap (λ (l : LeftNow). (tells l).is_right) is ∙ ap is-right (pool_tells stream old was was_closed)) ∙ right) in
      let values = waiting stream.level stream.container memories in
      record {
        settled = λ cleared clears kind line context.
            let active = active_left (bodies_kept new) kind context in
            let inside = settle_active may_go cleared memories (active_left (bodies_kept old) kind context) in
            let over : not (bodies_tell new).is_unfinished ≡ none_active inside =
            over-told new kind context done.elements.right ∙ ap none_active (done.elements.settled cleared clears kind context) in
            let waits : nat_eq kept 0 ≡ is_empty values = ap (λ (n : ℕ). nat_eq n 0) done.kept ∙ none-waits values in
            let end : closed ≡ (was_closed || (may_go && (none_active inside && (is_empty values && slice_index_or cleared stream.level false)))) =
            done.closed
            ∙ ap₂ (λ (a b : Bool). was_closed || (may_go && (a && b))) over
            (ap₂ (λ (a b : Bool). a && b) waits (sym (clears stream.level))) in
            pool_is kind line context stream new kept closed
            ∙ ap₂ (pool stream.level stream.container (element_term kind context)) (done.elements.settled cleared clears kind context) end
            ∙ ap (settle may_go cleared memories) (sym (told (shape.Pool stream old was was_closed) kind line context is ∙ pool_is kind line context stream old was was_closed));
        counted = pool_counted memories stream new kept closed
            ∙ or-so closed (nat_eq kept (length values) && are_bodies_counted new memories)
            (both-are (nat_eq kept (length values)) (are_bodies_counted new memories) (same-number kept (length values) done.kept) done.elements.counted);
        right = ap is-right (pool_tells stream new kept closed) ∙ done.elements.right;
      }

  -- the same, in the words of the code: what it matched is what the item has
  pub pool_arm : (stream at : Station) (old given new : BodiesNow) (was kept : ℕ) (was_closed closed_given closed : Bool) → left ≡ shape.Pool stream old was was_closed → at ≡ stream → given ≡ old → closed_given ≡ was_closed
      → ((bodies_tell given).is_right ≡ true → IsPoolSettled at given closed_given new kept closed may_go clear memories) → IsLeftSettled left (shape.Pool at new kept closed) may_go clear memories
  pool_arm stream at old given new was kept was_closed closed_given closed is same_stream same_old same_closed settles =
      subst (λ (s : Station). IsLeftSettled left (shape.Pool s new kept closed) may_go clear memories) (sym same_stream)
      (pool_settled stream old new was kept was_closed closed is
      (subst (λ (s : Station). (bodies_tell old).is_right ≡ true → IsPoolSettled s old was_closed new kept closed may_go clear memories) same_stream
      (subst (λ (b : BodiesNow). (bodies_tell b).is_right ≡ true → IsPoolSettled at b was_closed new kept closed may_go clear memories) same_old
      (subst (λ (c : Bool). (bodies_tell given).is_right ≡ true → IsPoolSettled at given c new kept closed may_go clear memories) same_closed settles))))
