-- Where nothing moves.
use Rattle.std.proofs.Common.{◌≡◌, ℕ, ◌≤◌, ℤ, List, ◌∷◌, length, Bool, true, sym, subst}
use Rattle.sd_work.specs.Move.{Move, no_move}
use Rattle.sd_work.specs.Residual.{Items, Points, Term, list, pool}
use Rattle.sd_work.specs.Moves.{Path}
use Rattle.sd_work.specs.Fire.{fire}
use Rattle.sd_work.specs.BigStep.{Reached}
use Rattle.sd_graph.specs.PlainTree.{KindTree, ItemTrees, GraphTree}
use Rattle.sd_graph.specs.Context.{Reach, Context}
use Rattle.sd_graph.specs.declared.place.Frame.{Frame}
use Rattle.sd_graph.specs.declared.place.Place.{Place}
use Rattle.sd_mem.specs.declared.machine.end.End.TheVariants.{Finished}
use Rattle.sd_leaves.specs.moves.Moved.{IsMoved}
use Rattle.sd_leaves.proofs.moves_lemmas.Comings.{none-moved}
use Rattle.sd_left.specs.tree.Standing.{ItemLeft, BodyLeft, RunLeft, parts_left, points_left, active_left, run_left}
use Rattle.sd_left.proofs.tree_lemmas.Nowhere.{no-item-moves, no-point-moves, no-element-moves, ended-stays}
use Rattle.sd_left.specs.fired.Fired.{IsFired}

pub nothing-fired : (old : Term Place) (path : Path) (now : Reached) → fire old path now.memories ≡ no_move → IsFired old path now Finished now old
nothing-fired old path now none = subst (λ (move : Move Place (Term Place)). IsMoved move old now Finished now old) (sym none) (none-moved old now)

pub no-item-fired : (order : ℕ → ℕ → Bool) (parts : List ItemLeft) (number : ℕ) (items : ItemTrees) (context : Context) (path : Path) (now : Reached)
    → length parts ≤ number → IsFired (list Items order (parts_left parts items context)) (number ∷ path) now Finished now (list Items order (parts_left parts items context))
no-item-fired order parts number items context path now over = nothing-fired (list Items order (parts_left parts items context)) (number ∷ path) now (no-item-moves order parts number items context path now.memories over)

pub no-point-fired : (order : ℕ → ℕ → Bool) (points : List BodyLeft) (number : ℕ) (kind : KindTree) (context : Context) (path : Path) (now : Reached)
    → length points ≤ number → IsFired (list Points order (points_left points kind context)) (number ∷ path) now Finished now (list Points order (points_left points kind context))
no-point-fired order points number kind context path now over = nothing-fired (list Points order (points_left points kind context)) (number ∷ path) now (no-point-moves order points number kind context path now.memories over)

pub no-element-fired : (level container : ℕ) (body : ℤ → Term Place) (closed : Bool) (active : List BodyLeft) (number : ℕ) (kind : KindTree) (context : Context) (path : Path) (now : Reached)
    → length active ≤ number → IsFired (pool level container body (active_left active kind context) closed) (1 ∷ number ∷ path) now Finished now (pool level container body (active_left active kind context) closed)
no-element-fired level container body closed active number kind context path now over =
    nothing-fired (pool level container body (active_left active kind context) closed) (1 ∷ number ∷ path) now (no-element-moves level container body closed active number kind context path now.memories over)

pub ended-fired : (run : RunLeft) (tree : GraphTree) (reach : ℕ → Reach) (around : List Frame) (path : Path) (now : Reached)
    → run.ended ≡ true → IsFired (run_left run tree reach around) path now Finished now (run_left run tree reach around)
ended-fired run tree reach around path now over = nothing-fired (run_left run tree reach around) path now (ended-stays run tree reach around path now.memories over)
