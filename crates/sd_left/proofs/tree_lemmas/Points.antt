-- The next moves of points are those of each.
use Rattle.std.proofs.Common.{◌≡◌, ℕ, suc, ◌+◌, List, [], ◌∷◌, Bool, true, false, cond, refl, sym, ap₂, ◌∙◌}
use Rattle.sd_work.specs.Memory.{Memories}
use Rattle.sd_work.specs.Residual.{Points, Terms, list, none, also, flags_of, ready_from}
use Rattle.sd_moves.specs.numbered.Counts.{count, count_parts}
use Rattle.sd_graph.specs.PlainTree.{KindTree}
use Rattle.sd_graph.specs.Context.{Context}
use Rattle.sd_graph.specs.Unfold.{in_any_order}
use Rattle.sd_graph.specs.declared.place.Place.{Place}
use Rattle.sd_left.specs.tree.Standing.{BodyLeft, point_left, points_left}

pub any-ready : (flags : List Bool) (j k : ℕ) → ready_from in_any_order j flags k ≡ true
any-ready [] j k = refl
any-ready (true ∷ flags) j k = any-ready flags (suc j) k
any-ready (false ∷ flags) j k = any-ready flags (suc j) k

-- where they stand and which are finished is not asked
pub any-count : (parts : Terms Place) (flags flags2 : List Bool) (number other : ℕ) (memories : Memories)
    → count_parts in_any_order flags number parts memories ≡ count_parts in_any_order flags2 other parts memories
any-count none flags flags2 number other memories = refl
any-count (also part parts) flags flags2 number other memories =
    ap₂ (λ (ready : Bool) (rest : ℕ). cond ready (count part memories) 0 + rest)
    (any-ready flags 0 number ∙ sym (any-ready flags2 0 other)) (any-count parts flags flags2 (suc number) (suc other) memories)

pub points-added : (point : BodyLeft) (points : List BodyLeft) (kind : KindTree) (context : Context) (memories : Memories)
    → count (list Points in_any_order (points_left (point ∷ points) kind context)) memories
    ≡ count (point_left point kind context) memories + count (list Points in_any_order (points_left points kind context)) memories
points-added point points kind context memories =
    ap₂ (λ (ready : Bool) (rest : ℕ). cond ready (count (point_left point kind context) memories) 0 + rest)
    (any-ready (flags_of (points_left (point ∷ points) kind context)) 0 0)
    (any-count (points_left points kind context) (flags_of (points_left (point ∷ points) kind context)) (flags_of (points_left points kind context)) 1 0 memories)
