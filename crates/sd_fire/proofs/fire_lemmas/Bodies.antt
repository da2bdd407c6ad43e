-- Where the items of a body stand.
use Rattle.std.proofs.Common.{◌≡◌, ℕ, ℤ, List, Bool, sym, ap, subst}
use Rattle.sd_work.specs.Moves.{Path}
use Rattle.sd_work.specs.BigStep.{Reached}
use Rattle.sd_range.specs.declared.range.Range.{Range}
use Rattle.sd_graph.specs.PlainTree.{KindTree, ItemTrees, map_scope}
use Rattle.sd_graph.specs.Context.{Context}
use Rattle.sd_graph.specs.Unfold.{at_point}
use Rattle.sd_mem.specs.declared.machine.end.End.{End}
use Rattle.sd_left.specs.tree.Standing.{BodyLeft, body_of, point_inside}
use Rattle.sd_left.specs.declared.left.left.Body.{Body as BodyNow}
use Rattle.sd_left.specs.declared.left.left.Left.TheViews.{out-Body}
use Rattle.sd_left.specs.left.Kept.{body_kept}
use Rattle.sd_left.proofs.left_lemmas.Rolls.{body_opened}
use Rattle.sd_fire.specs.advance.Right.{AreItemsFired}

-- items elsewhere, where that is the same
pub items_moved : (body new : BodyNow) (items others : ItemTrees) (context inside : Context) (path : Path) (before after : Reached) (end : End) → items ≡ others → context ≡ inside
    → AreItemsFired body items context path before end after new → AreItemsFired body others inside path before end after new
items_moved body new items others context inside path before after end same stands fired =
    subst (λ (there : Context). AreItemsFired body others there path before end after new) stands (subst (λ (these : ItemTrees). AreItemsFired body these context path before end after new) same fired)

-- where a point of a map stands
pub map_moves : (kind : KindTree) (sequential : Bool) (params : List (ℕ × Range)) (private : List ℕ) (items : ItemTrees) (context : Context) (at : List ℤ) (body new : BodyNow) (path : Path) (before after : Reached) (end : End) → kind ≡ map_scope sequential params private items
    → AreItemsFired body items (at_point context params private at) path before end after new → AreItemsFired body (body_of kind) (point_inside kind context at) path before end after new
map_moves kind sequential params private items context at body new path before after end same fired =
    subst (λ (k : KindTree). AreItemsFired body (body_of k) (point_inside k context at) path before end after new) (sym same) fired

pub numbers_of : (body : BodyNow) → (out-Body body).at.items ≡ (body_kept body).at
numbers_of body = sym (ap (λ (b : BodyLeft). b.at) (body_opened body))
