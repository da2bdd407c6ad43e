-- One part of what is left changed.
use Rattle.std.proofs.Common.{◌≡◌, ℕ, zero, suc, ◌<◌, List, [], ◌∷◌, length, slice_set, slice_index_or, refl, sym, ap, arith}
use Rattle.sd_work.specs.Memory.{Memory}
use Rattle.sd_work.specs.Residual.{also, busy}
use Rattle.sd_moves.specs.numbered.PartsChanged.{with_part, active_at, with_active}
use Rattle.sd_graph.specs.PlainTree.{KindTree, ItemTrees}
use Rattle.sd_graph.specs.Context.{Context}
use Rattle.sd_left.specs.tree.Standing.{ItemLeft, BodyLeft, with_inside, first_line, first_kind, others, behind, parts_left, point_left, points_left, value_at, element_left, active_left}

pub part-changed : (parts : List ItemLeft) (number : ℕ) (items : ItemTrees) (context : Context) (new : ItemLeft) → number < length parts
    → with_part (parts_left parts items context) number (new (first_kind (behind number items)) (first_line (behind number items)) context) ≡ parts_left (slice_set parts number new) items context
part-changed [] number items context new within = absurd (omega (arith, within))
part-changed (first ∷ parts) zero items context new within = refl
part-changed (first ∷ parts) (suc number) items context new within =
    ap (also (first (first_kind items) (first_line items) context)) (part-changed parts number (others items) context new (omega (arith, within)))

pub point-changed : (points : List BodyLeft) (number : ℕ) (kind : KindTree) (context : Context) (new : BodyLeft) → number < length points
    → with_part (points_left points kind context) number (point_left new kind context) ≡ points_left (slice_set points number new) kind context
point-changed [] number kind context new within = absurd (omega (arith, within))
point-changed (first ∷ points) zero kind context new within = refl
point-changed (first ∷ points) (suc number) kind context new within =
    ap (also (point_left first kind context)) (point-changed points number kind context new (omega (arith, within)))

-- ---- elements in work

pub element-at : (active : List BodyLeft) (number : ℕ) (element : BodyLeft) (kind : KindTree) (context : Context) → number < length active → element ≡ slice_index_or active number element
    → active_at (active_left active kind context) number ≡ element_left element kind context
element-at [] number element kind context within is = absurd (omega (arith, within))
element-at (first ∷ active) zero element kind context within is = ap (λ (e : BodyLeft). element_left e kind context) (sym is)
element-at (first ∷ active) (suc number) element kind context within is = element-at active number element kind context (omega (arith, within)) is

pub element-changed : (active : List BodyLeft) (number : ℕ) (element : BodyLeft) (kind : KindTree) (context : Context) (inside : Memory × List ItemLeft) → number < length active → element ≡ slice_index_or active number element
    → with_active (active_left active kind context) number (element_left (with_inside element inside) kind context) ≡ active_left (slice_set active number (with_inside element inside)) kind context
element-changed [] number element kind context inside within is = absurd (omega (arith, within))
element-changed (first ∷ active) zero element kind context inside within is =
    ap (λ (e : BodyLeft). busy (value_at e.at) (element_left (with_inside element inside) kind context) (active_left active kind context)) (sym is)
element-changed (first ∷ active) (suc number) element kind context inside within is =
    ap (busy (value_at first.at) (element_left first kind context)) (element-changed active number element kind context inside (omega (arith, within)) is)
