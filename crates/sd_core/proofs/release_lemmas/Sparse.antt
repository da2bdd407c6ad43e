-- Points of a map of tasklets of which one has let go of what it held.
use Rattle.std.proofs.Common.{◌≡◌, ℕ, zero, suc, ◌+◌, ◌<◌, List, [], ◌∷◌, length, map, get_or, slice_set, Some, None, Ok, true, refl, sym, ap, ◌∙◌, subst, arith}
use Rattle.std.specs.declared.option.Option.{Option}
use Rattle.sd_work.specs.Leaf.{Evaluation, is_done}
use Rattle.sd_work.specs.Residual.{Items, list, owning, all_finished}
use Rattle.sd_order.specs.table.Told.{told}
use Rattle.sd_moves.specs.numbered.OpenPools.{HaveNoOpenPool}
use Rattle.sd_graph.specs.PlainTree.{KindTree, ItemTrees}
use Rattle.sd_graph.specs.Context.{Context}
use Rattle.sd_leaves.specs.moves.Left.{instance_left}
use Rattle.sd_leaves.specs.declared.moves.instance.Instance.{Instance}
use Rattle.sd_leaves.specs.declared.moves.instance.Instance.TheVariants as variants
use Rattle.sd_left.specs.tree.Standing.{first_kind, others, body_of, point_inside, parts_left, point_left, points_left}
use Rattle.sd_left.specs.tree.Evaluated.{evaluation_in}
use Rattle.sd_left.specs.declared.sparse.point.Begun.{Begun}
use Rattle.sd_left.specs.declared.sparse.point.Tasks.{Tasks}
use Rattle.sd_left.specs.declared.sparse.stretch.Stretch.{Stretch}
use Rattle.sd_left.specs.sparse.Stretch.{points_in, is_summed}
use Rattle.sd_left.specs.sparse.Terms.{point_numbers, task_left, own_at, body_at, placed_from, bodies_at}
use Rattle.sd_left.proofs.sparse_lemmas.Placed.{placed-at, placed-long}
use Rattle.sd_core.specs.Released.{IsReleased, let_go}
use Rattle.sd_core.specs.release.Finished.{is_over, are_over}
use Rattle.sd_core.specs.release.Changed.{AreSparseReleased}
use Rattle.sd_core.proofs.release_lemmas.Lists.{points-put, same-parts, parts-changed}
use Rattle.sd_left.proofs.left_lemmas.Sameness.{both-true, both-are}

-- ---- tasklets

same-end : (instance : Instance) (one other : Evaluation) → is_done (instance_left one instance) ≡ is_done (instance_left other instance)
same-end (variants.Reading reading) one other = refl
same-end (variants.Doing doing) one other = refl

tasks-finished : (tasks : List Instance) (items : ItemTrees) (context : Context) → are_over tasks ≡ true → all_finished (parts_left (map task_left (map Some tasks)) items context) ≡ true
tasks-finished [] items context over = refl
tasks-finished (task ∷ tasks) items context over =
    let both = both-true (is_done (instance_left (λ values. Ok []) task)) (are_over tasks) over in
    both-are (is_done (instance_left (evaluation_in (first_kind items) context) task)) (all_finished (parts_left (map task_left (map Some tasks)) (others items) context))
    (same-end task (evaluation_in (first_kind items) context) (λ values. Ok []) ∙ both.0) (tasks-finished tasks (others items) context both.1)

tasks-closed : (tasks : List Instance) (items : ItemTrees) (context : Context) → HaveNoOpenPool (parts_left (map task_left (map Some tasks)) items context)
tasks-closed [] items context = tt
tasks-closed (task ∷ tasks) items context = (tt, tasks-closed tasks (others items) context)

-- ---- points

placed-set : {A : Type 0} (start : ℕ) (all : List A) (number : ℕ) (one : A) → number < length all → placed_from start (slice_set all number one) ≡ slice_set (placed_from start all) number (start + number, one)
placed-set start [] number one there = absurd (omega (arith, there))
placed-set start (first ∷ all) zero one there =
    let same : start ≡ start + 0 = omega arith in
    ap (λ (n : ℕ). (n, one) ∷ placed_from (suc start) all) same
placed-set start (first ∷ all) (suc number) one there =
    let same : suc start + number ≡ start + suc number = omega arith in
    ap (λ (rest : List (ℕ × _)). (start, first) ∷ rest) (placed-set (suc start) all number one (omega (arith, there)) ∙ ap (λ (n : ℕ). slice_set (placed_from (suc start) all) number (n, one)) same)

-- what is over is there
over-there : (all : List (Option Begun)) (number : ℕ) → is_over (get_or all number None) ≡ true → (begun : Begun) × (number < length all) × (Some begun ≡ get_or all number (Some begun)) × (are_over begun.tasks.items ≡ true)
over-there [] number over = cc
over-there (None ∷ all) zero over = cc
over-there (Some begun ∷ all) zero over = (begun, omega arith, refl, over)
over-there (first ∷ all) (suc number) over = let found = over-there all number over in (found.0, (let less = found.1 in omega (arith, less)), found.2, found.3)

-- it keeps no tasklet
empty-now : (tasks : Tasks) (kind : KindTree) (context : Context) (place : ℕ) (begun over : Begun) → over.tasks.items ≡ [] → are_over begun.tasks.items ≡ true
    → IsReleased (point_left (body_at tasks kind context (place, Some begun)) kind context) (point_left (body_at tasks kind context (place, Some over)) kind context)
empty-now tasks kind context place begun over none is =
    let inside = point_inside kind context (point_numbers kind context place) in
    subst (λ (these : List Instance). IsReleased (point_left (body_at tasks kind context (place, Some begun)) kind context) (owning (own_at (Some over) kind context) (list Items (told tasks.order) (parts_left (map task_left (map Some these)) (body_of kind) inside)))) (sym none)
    (let_go (own_at (Some begun) kind context) (own_at (Some over) kind context) (tasks-finished begun.tasks.items (body_of kind) inside is) (tasks-closed begun.tasks.items (body_of kind) inside))

pub sparse-over : (tasks : Tasks) (old new : Stretch) (number : ℕ) (over : Begun) → over.tasks.items ≡ [] → is_over (get_or (points_in old) number None) ≡ true
    → points_in new ≡ slice_set (points_in old) number (Some over) → is_summed tasks new ≡ true → AreSparseReleased tasks old new
sparse-over tasks old new number over none is now summed =
    let all = points_in old in
    let found = over-there all number is in
    let begun = found.0 in
    let there : number < length all = found.1 in
    record {
      released = λ kind context.
          let tell = body_at tasks kind context in
          let placed = placed_from 0 all in
          let long : number < length placed = omega (arith, there, placed-long 0 all) in
          let at_old = tell (0 + number, Some begun) in
          parts-changed (points_left (bodies_at tasks all kind context) kind context) (points_left (map tell placed) kind context) (points_left (bodies_at tasks (points_in new) kind context) kind context)
          (points_left (map tell (slice_set placed number (0 + number, Some over))) kind context) refl
          (ap (λ (ps : List (Option Begun)). points_left (bodies_at tasks ps kind context) kind context) now ∙ ap (λ (ps : List (ℕ × Option Begun)). points_left (map tell ps) kind context) (placed-set 0 all number (Some over) there))
          (points-put kind context tell placed number (0 + number, Some begun) (0 + number, Some over) long (placed-at 0 all number (Some begun) there found.2)
          (empty-now tasks kind context (0 + number) begun over none found.3));
      summed = summed;
    }

pub sparse-stays : (tasks : Tasks) (points : Stretch) → is_summed tasks points ≡ true → AreSparseReleased tasks points points
sparse-stays tasks points summed = record { released = λ kind context. same-parts (points_left (bodies_at tasks (points_in points) kind context) kind context); summed = summed }
