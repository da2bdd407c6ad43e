-- The move at a point of a map of tasklets is one of the map.
use Rattle.std.proofs.Common.{◌≡◌, ℕ, zero, suc, ◌+◌, ◌<◌, ℤ, List, [], ◌∷◌, map, length, get_or, slice_set, Some, Bool, refl, sym, ap, ◌∙◌, subst, arith}
use Rattle.std.specs.declared.option.Option.{Option}
use Rattle.sd_range.specs.declared.range.Range.{Range}
use Rattle.sd_work.specs.Memory.{Memory}
use Rattle.sd_work.specs.Residual.{list, Items, Points}
use Rattle.sd_work.specs.Moves.{Path}
use Rattle.sd_work.specs.BigStep.{Reached}
use Rattle.sd_graph.specs.PlainTree.{KindTree, map_scope, ItemTrees, GraphTree}
use Rattle.sd_graph.specs.TreeParts.{containers_of}
use Rattle.sd_graph.specs.Context.{Context, private_memory}
use Rattle.sd_graph.specs.Unfold.{at_point}
use Rattle.sd_mem.specs.declared.machine.end.End.{End}
use Rattle.sd_left.specs.tree.Standing.{parts_left, points_left}
use Rattle.sd_left.specs.declared.sparse.point.Begun.{Begun}
use Rattle.sd_left.specs.declared.sparse.point.Tasks.{Tasks}
use Rattle.sd_left.specs.fired.Fired.{IsFired, IsEntered, IsLeft}
use Rattle.sd_left.specs.sparse.Point.{tasks_at}
use Rattle.sd_left.specs.sparse.Terms.{task_left, point_numbers, own_at, memory_or, body_at, placed_from, bodies_at}
use Rattle.sd_left.proofs.fired_lemmas.Owners.{inside-point}
use Rattle.sd_left.proofs.fired_lemmas.Kept.{kept-point-fired}
use Rattle.sd_left.proofs.sparse_lemmas.Placed.{placed-at, placed-long}
use Rattle.sd_fire.specs.sparse.Point.{IsPointFired}
use Rattle.sd_fire.proofs.fire_lemmas.Items.{retold}

placed-set : {A : Type 0} (start : ℕ) (all : List A) (number : ℕ) (one : A) → number < length all → placed_from start (slice_set all number one) ≡ slice_set (placed_from start all) number (start + number, one)
placed-set start [] number one there = absurd (omega (arith, there))
placed-set start (first ∷ all) zero one there =
    let same : start ≡ start + 0 = omega arith in
    ap (λ (n : ℕ). (n, one) ∷ placed_from (suc start) all) same
placed-set start (first ∷ all) (suc number) one there =
    let same : suc start + number ≡ start + suc number = omega arith in
    ap (λ (rest : List (ℕ × _)). (start, first) ∷ rest) (placed-set (suc start) all number one (omega (arith, there)) ∙ ap (λ (n : ℕ). slice_set (placed_from (suc start) all) number (n, one)) same)

module _ (tasks : Tasks) (points : List (Option Begun)) (number : ℕ) (was : Option Begun) (begun new : Begun) (there : number < length points) (is : was ≡ get_or points number was)
    (sequential : Bool) (params : List (ℕ × Range)) (private : List ℕ) (items : ItemTrees) (tree : GraphTree) (context inner : Context) (at : List ℤ) (path : Path) (before after : Reached) (end : End) where
  abbrev scope : KindTree
  scope = map_scope sequential params private items

  sparse-point-fired : context.containers ≡ containers_of tree → at ≡ point_numbers scope context number → inner ≡ at_point context params private at
      → own_at (Some begun) scope context ≡ own_at was scope context
      → parts_left (map task_left (map Some begun.tasks.items)) items inner ≡ parts_left (map task_left (tasks_at tasks.count was)) items inner
      → IsPointFired begun private items tree inner path before after new end
      → (order : ℕ → ℕ → Bool) → IsFired (list Points order (points_left (bodies_at tasks points scope context) scope context)) (number ∷ path) before end after (list Points order (points_left (bodies_at tasks (slice_set points number (Some new)) scope context) scope context))
  sparse-point-fired same_containers numbers stands own parts fired order =
      let placed = placed_from 0 points in
      let plain : 0 + number ≡ number = omega arith in
      let old_body = body_at tasks scope context (0 + number, was) in
      let new_body = body_at tasks scope context (0 + number, Some new) in
      let here : inner ≡ at_point context params private (point_numbers scope context (0 + number)) = stands ∙ ap (at_point context params private) (numbers ∙ ap (point_numbers scope context) (sym plain)) in
      let opening : private_memory (containers_of tree) private ≡ private_memory context.containers private = ap (λ all. private_memory all private) (sym same_containers) in
      let body_fired = inside-point old_body new_body scope context path before after end (record {
        inside = fired.inside;
        behind = fired.behind;
        entered = subst (λ (memory : Memory). IsEntered memory before fired.inside) (ap (memory_or begun.own) opening ∙ own) fired.entered;
        fired = retold path fired.inside fired.behind end
            (ap (λ (there : Context). list Items old_body.order (parts_left old_body.parts items there)) (sym here) ∙ ap (list Items old_body.order) (sym parts))
            (ap (λ (there : Context). list Items old_body.order (parts_left new_body.parts items there)) (sym here))
            (fired.fired old_body.order);
        left = subst (λ (memory : Memory). IsLeft fired.behind memory after) (ap (memory_or new.own) opening) fired.left;
        at = refl;
      }) in
      retold (number ∷ path) before after end refl
      (ap (λ (all : List (ℕ × Option Begun)). list Points order (points_left (map (body_at tasks scope context) all) scope context)) (placed-set 0 points number (Some new) there))
      (kept-point-fired (body_at tasks scope context) order placed number (0 + number, was) (0 + number, Some new) scope context path before after end (omega (arith, there, placed-long 0 points))
      (placed-at 0 points number was there is) body_fired)

  -- whatever kind it is told by
  pub sparse-fired : (kind : KindTree) → kind ≡ scope → context.containers ≡ containers_of tree → at ≡ point_numbers kind context number → inner ≡ at_point context params private at
      → own_at (Some begun) kind context ≡ own_at was kind context
      → parts_left (map task_left (map Some begun.tasks.items)) items inner ≡ parts_left (map task_left (tasks_at tasks.count was)) items inner
      → IsPointFired begun private items tree inner path before after new end
      → (order : ℕ → ℕ → Bool) → IsFired (list Points order (points_left (bodies_at tasks points kind context) kind context)) (number ∷ path) before end after (list Points order (points_left (bodies_at tasks (slice_set points number (Some new)) kind context) kind context))
  sparse-fired kind is_kind same_containers numbers stands own parts fired order =
      subst (λ (k : KindTree). IsFired (list Points order (points_left (bodies_at tasks points k context) k context)) (number ∷ path) before end after (list Points order (points_left (bodies_at tasks (slice_set points number (Some new)) k context) k context))) (sym is_kind)
      (sparse-point-fired same_containers (numbers ∙ ap (λ (k : KindTree). point_numbers k context number) is_kind) stands
      (subst (λ (k : KindTree). own_at (Some begun) k context ≡ own_at was k context) is_kind own) parts fired order)

-- what stands there does so whatever stands for none
pub member-default : {A : Type 0} (all : List A) (number : ℕ) (one other : A) → number < length all → one ≡ get_or all number other → one ≡ get_or all number one
member-default [] number one other there is = absurd (omega (arith, there))
member-default (first ∷ all) zero one other there is = is
member-default (first ∷ all) (suc number) one other there is = member-default all number one other (omega (arith, there)) is

pub set-twice : {A : Type 0} (all : List A) (number : ℕ) (one other : A) → slice_set (slice_set all number one) number other ≡ slice_set all number other
set-twice [] number one other = refl
set-twice (first ∷ all) zero one other = refl
set-twice (first ∷ all) (suc number) one other = ap (λ (rest : List _). first ∷ rest) (set-twice all number one other)
