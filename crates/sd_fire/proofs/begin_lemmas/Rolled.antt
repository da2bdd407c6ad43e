-- Leaves that begin, as the tree keeps them, and the counts of what begins.
use Rattle.std.proofs.Common.{◌≡◌, ℕ, List, Bool, true, false, nat_eq, refl, ap, ap₂, ◌∙◌}
use Rattle.std.proofs.lemmas.Bool.{eqb-false}
use Rattle.sd_range.specs.declared.range.Range.{Range}
use Rattle.sd_range.specs.Points.{points, ranges_of}
use Rattle.sd_work.specs.Memory.{Memories}
use Rattle.sd_work.specs.Leaf.{Leaf}
use Rattle.sd_work.specs.Residual.{leaf, list, pool, Points, idle}
use Rattle.sd_graph.specs.PlainTree.{TaskletTree, KindTree, task, map_scope, consume_scope, ItemTrees}
use Rattle.sd_graph.specs.Context.{Context, place_at}
use Rattle.sd_graph.specs.Unfold.{order_of_points, task_of}
use Rattle.sd_graph.specs.declared.link.Link.{Link}
use Rattle.sd_mem.specs.declared.machine.address.Station.{Station}
use Rattle.sd_leaves.specs.leaves.Done.{evaluation_of}
use Rattle.sd_leaves.specs.moves.Left.{doing_left, instance_left}
use Rattle.sd_leaves.specs.declared.moves.doing.Doing.{Doing}
use Rattle.sd_leaves.specs.declared.moves.instance.Instance.{Instance}
use Rattle.sd_left.specs.tree.Begun.{ArePointsBegun}
use Rattle.sd_left.specs.tree.Standing.{BodyLeft, element_term, points_left}
use Rattle.sd_left.proofs.tree_lemmas.Begins.{points-begin}
use Rattle.sd_left.specs.declared.left.left.Left as shape
use Rattle.sd_left.specs.declared.left.left.Left.{Left as LeftNow}
use Rattle.sd_left.specs.declared.left.left.Left.TheOpen as layer
use Rattle.sd_left.specs.declared.left.left.Left.TheFolds.{fold-roll-Left}
use Rattle.sd_left.specs.left.Kept.{left_of}
use Rattle.sd_left.specs.left.Telling.{Telling}
use Rattle.sd_left.specs.left.Tells.{tells}
use Rattle.sd_left.specs.left.Waits.{Told, waits_step, bodies_waits_step, body_waits_step, run_waits_step, is_counted}
use Rattle.sd_left.proofs.left_lemmas.Rolls.{instance_is, doing_is}
use Rattle.sd_left.proofs.left_lemmas.TellRolls.{instance_tells, doing_tells}
use Rattle.sd_fire.specs.begin.Begun.{IsItemBegun}

module _ (context : Context) (line : ℕ) where
  pub task-begins : (code : TaskletTree) (ins outs : List Link) (instance : Instance) → instance_left (evaluation_of context code ins outs) instance ≡ task_of context code ins outs →
      IsItemBegun (task code ins outs) line context (shape.Instance instance)
  task-begins code ins outs instance begun = instance_is (task code ins outs) line context instance ∙ ap (λ (work : Leaf). leaf (place_at context line) work) begun

  pub doing-begins : (kind : KindTree) (doing : Doing) (work : Leaf) → doing_left doing ≡ work → left_of (shape.Doing doing) kind line context ≡ leaf (place_at context line) work
  doing-begins kind doing work begun = doing_is kind line context doing ∙ ap (λ (work : Leaf). leaf (place_at context line) work) begun

  pub map-begins : (sequential : Bool) (params : List (ℕ × Range)) (private : List ℕ) (items : ItemTrees) (bodies : List BodyLeft) (left : LeftNow) →
      left_of left (map_scope sequential params private items) line context ≡ list Points (order_of_points sequential) (points_left bodies (map_scope sequential params private items) context) →
      ArePointsBegun params private items context (points (ranges_of params) context.values) bodies → IsItemBegun (map_scope sequential params private items) line context left
  map-begins sequential params private items bodies left kept begun =
      kept ∙ ap (list Points (order_of_points sequential)) (points-begin sequential params private items context (points (ranges_of params) context.values) bodies begun)

  pub pool-begins : (stream element : ℕ) (private : List ℕ) (items : ItemTrees) (from : Station) (left : LeftNow) →
      from.level ≡ (context.reach stream).level → from.container ≡ (context.reach stream).container →
      left_of left (consume_scope stream element private items) line context ≡ pool from.level from.container (element_term (consume_scope stream element private items) context) idle false →
      IsItemBegun (consume_scope stream element private items) line context left
  pool-begins stream element private items from left same_level same_container kept =
      kept ∙ ap₂ (λ (level container : ℕ). pool level container (element_term (consume_scope stream element private items) context) idle false) same_level same_container

-- ---- counts

pub instance_counted : (memories : Memories) (instance : Instance) → is_counted (shape.Instance instance) memories ≡ true
unfolding shape.roll-Left denote.Hole.Carrier.roll
instance_counted memories instance = ap (λ (told : Told). told memories) (fold-roll-Left Told Told Told Told waits_step bodies_waits_step body_waits_step run_waits_step (layer.Instance instance))

pub doing_counted : (memories : Memories) (doing : Doing) → is_counted (shape.Doing doing) memories ≡ true
unfolding shape.roll-Left denote.Hole.Carrier.roll
doing_counted memories doing = ap (λ (told : Told). told memories) (fold-roll-Left Told Told Told Told waits_step bodies_waits_step body_waits_step run_waits_step (layer.Doing doing))

pub instance_right : (instance : Instance) → (tells (shape.Instance instance)).is_right ≡ true
instance_right instance = ap (λ (telling : Telling). telling.is_right) (instance_tells instance)

pub doing_right : (doing : Doing) → (tells (shape.Doing doing)).is_right ≡ true
doing_right doing = ap (λ (telling : Telling). telling.is_right) (doing_tells doing)

pub same-number : (number other : ℕ) → number ≡ other → nat_eq number other ≡ true
same-number number other same = go (nat_eq number other) refl where
  go : (is : Bool) → nat_eq number other ≡ is → nat_eq number other ≡ true
  go true is = is
  go false is = absurd (eqb-false number other is same)
