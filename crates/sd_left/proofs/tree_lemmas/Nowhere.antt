-- What is not there has no move.
use Rattle.std.proofs.Common.{◌≡◌, ℕ, zero, suc, ◌≤◌, ℤ, List, [], ◌∷◌, length, Bool, true, refl, ap, arith}
use Rattle.sd_work.specs.Memory.{Memories}
use Rattle.sd_work.specs.Move.{no_move, map_move}
use Rattle.sd_work.specs.Residual.{Items, Points, Term, list, pool, also, busy, Actives}
use Rattle.sd_work.specs.Moves.{Path}
use Rattle.sd_work.specs.Fire.{fire, fire_part, fire_active}
use Rattle.sd_graph.specs.PlainTree.{KindTree, ItemTrees, GraphTree}
use Rattle.sd_graph.specs.Context.{Reach, Context}
use Rattle.sd_graph.specs.declared.place.Frame.{Frame}
use Rattle.sd_graph.specs.declared.place.Place.{Place}
use Rattle.sd_left.specs.tree.Standing.{ItemLeft, BodyLeft, RunLeft, first_line, first_kind, others, parts_left, point_left, points_left, value_at, element_left, active_left, run_going, run_left}

over-parts : (parts : List ItemLeft) (number : ℕ) (items : ItemTrees) (context : Context) (path : Path) (memories : Memories) → length parts ≤ number → fire_part (parts_left parts items context) number path memories ≡ no_move
over-parts [] number items context path memories over = refl
over-parts (first ∷ parts) zero items context path memories over = absurd (omega (arith, over))
over-parts (first ∷ parts) (suc number) items context path memories over =
    ap (map_move (also (first (first_kind items) (first_line items) context))) (over-parts parts number (others items) context path memories (omega (arith, over)))

pub no-item-moves : (order : ℕ → ℕ → Bool) (parts : List ItemLeft) (number : ℕ) (items : ItemTrees) (context : Context) (path : Path) (memories : Memories) → length parts ≤ number
    → fire (list Items order (parts_left parts items context)) (number ∷ path) memories ≡ no_move
no-item-moves order parts number items context path memories over = ap (map_move (list Items order)) (over-parts parts number items context path memories over)

over-points : (points : List BodyLeft) (number : ℕ) (kind : KindTree) (context : Context) (path : Path) (memories : Memories) → length points ≤ number → fire_part (points_left points kind context) number path memories ≡ no_move
over-points [] number kind context path memories over = refl
over-points (first ∷ points) zero kind context path memories over = absurd (omega (arith, over))
over-points (first ∷ points) (suc number) kind context path memories over =
    ap (map_move (also (point_left first kind context))) (over-points points number kind context path memories (omega (arith, over)))

pub no-point-moves : (order : ℕ → ℕ → Bool) (points : List BodyLeft) (number : ℕ) (kind : KindTree) (context : Context) (path : Path) (memories : Memories) → length points ≤ number
    → fire (list Points order (points_left points kind context)) (number ∷ path) memories ≡ no_move
no-point-moves order points number kind context path memories over = ap (map_move (list Points order)) (over-points points number kind context path memories over)

over-active : (active : List BodyLeft) (number : ℕ) (kind : KindTree) (context : Context) (path : Path) (memories : Memories) → length active ≤ number → fire_active (active_left active kind context) number path memories ≡ no_move
over-active [] number kind context path memories over = refl
over-active (first ∷ active) zero kind context path memories over = absurd (omega (arith, over))
over-active (first ∷ active) (suc number) kind context path memories over =
    ap (map_move (busy (value_at first.at) (element_left first kind context))) (over-active active number kind context path memories (omega (arith, over)))

pub no-element-moves : (level container : ℕ) (body : ℤ → Term Place) (closed : Bool) (active : List BodyLeft) (number : ℕ) (kind : KindTree) (context : Context) (path : Path) (memories : Memories) → length active ≤ number
    → fire (pool level container body (active_left active kind context) closed) (1 ∷ number ∷ path) memories ≡ no_move
no-element-moves level container body closed active number kind context path memories over =
    ap (map_move (λ (left : Actives Place). pool level container body left closed)) (over-active active number kind context path memories over)

pub ended-stays : (run : RunLeft) (tree : GraphTree) (reach : ℕ → Reach) (around : List Frame) (path : Path) (memories : Memories) → run.ended ≡ true → fire (run_left run tree reach around) path memories ≡ no_move
ended-stays run tree reach around path memories over = ap (λ (b : Bool). fire (run_going b run tree reach around) path memories) over
