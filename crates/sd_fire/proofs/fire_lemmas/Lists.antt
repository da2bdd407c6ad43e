-- Points, elements and items of which one has moved and was counted again.
use Rattle.std.proofs.Common.{◌≡◌, ℕ, zero, suc, ◌<◌, ◌≤◌, List, [], ◌∷◌, length, map, get_or, slice_set, Bool, true, ◌&&◌, refl, sym, ap, ap₂, ◌∙◌, arith}
use Rattle.sd_work.specs.Residual.{Items, Points, list, pool}
use Rattle.sd_work.specs.Moves.{Path}
use Rattle.sd_work.specs.BigStep.{Reached}
use Rattle.sd_graph.specs.PlainTree.{KindTree}
use Rattle.sd_graph.specs.Context.{Context}
use Rattle.sd_graph.specs.TreeFold.{kind_tree, item_trees}
use Rattle.sd_graph.specs.declared.graph.Item.{Item}
use Rattle.sd_graph.specs.declared.graph.ItemKind.TheViews.{out-Item}
use Rattle.sd_mem.specs.declared.machine.address.Station.{Station}
use Rattle.sd_mem.specs.declared.machine.end.End.{End}
use Rattle.sd_mem.specs.declared.machine.end.End.TheVariants.{Finished}
use Rattle.sd_order.specs.table.Told.{told}
use Rattle.sd_left.specs.tree.Standing.{BodyLeft, body_of, point_inside, element_inside, value_at, element_term, body_left, parts_left, points_left, active_left}
use Rattle.sd_left.specs.declared.left.left.Left.{Left as LeftNow}
use Rattle.sd_left.specs.declared.left.left.Bodies.{Bodies as BodiesNow}
use Rattle.sd_left.specs.declared.left.left.Body.{Body as BodyNow}
use Rattle.sd_left.specs.declared.left.left.Left.TheOpen.{Bodies-F, Body-F}
use Rattle.sd_left.specs.declared.left.left.Left.TheViews.{out-Bodies, out-Body, roll-Bodies, roll-Body, out-roll-Bodies, out-roll-Body}
use Rattle.sd_left.specs.declared.left.left.Run.{Run as RunNow}
use Rattle.sd_left.specs.left.Kept.{left_of, bodies_kept, body_kept}
use Rattle.sd_left.specs.left.Telling.{Telling, all_right, same_counts, moves_told, unfinished_told, pools_told, flags_told, ready_moves}
use Rattle.sd_left.specs.left.Tells.{tells, bodies_tell, body_tells}
use Rattle.sd_left.specs.left.Changed.{HasBody, HasPart}
use Rattle.sd_left.proofs.left_lemmas.Rolls.{bodies_opened, body_opened}
use Rattle.sd_left.proofs.left_lemmas.TellRolls.{bodies_told, body_told}
use Rattle.sd_left.proofs.left_lemmas.Sameness.{both-true}
use Rattle.sd_left.proofs.fired_lemmas.Owners.{inside-point, inside-element}
use Rattle.sd_left.proofs.fired_lemmas.Kept.{kept-point-fired, kept-element-fired, kept-no-item, kept-no-point, kept-no-element}
use Rattle.sd_fire.specs.advance.Right.{IsLeftFired, ArePointsFired, AreElementsFired, ArePartsFired, AreItemsFired}
use Rattle.sd_fire.proofs.fire_lemmas.Items.{retold, parts_fired}

-- ---- parts that are right

member_right : {A : Type 0} (tell : A → Telling) (members : List A) (number : ℕ) (member : A) → number < length members → member ≡ get_or members number member → all_right (map tell members) ≡ true → (tell member).is_right ≡ true
member_right tell [] number member within is right = absurd (omega (arith, within))
member_right tell (first ∷ members) zero member within is right =
    ap (λ one. (tell one).is_right) is ∙ (both-true (tell first).is_right (all_right (map tell members)) right).0
member_right tell (first ∷ members) (suc number) member within is right =
    member_right tell members number member (omega (arith, within)) is (both-true (tell first).is_right (all_right (map tell members)) right).1

-- what is counted last is right where all is
last_right : (first second third rest : Bool) → (first && (second && (third && rest))) ≡ true → rest ≡ true
last_right first second third rest right = (both-true third rest (both-true second (third && rest) (both-true first (second && (third && rest)) right).1).1).1

pub body_of_right : (bodies : BodiesNow) (number : ℕ) (old : BodyNow) → number < length (out-Bodies bodies).bodies.items → old ≡ get_or (out-Bodies bodies).bodies.items number old → (bodies_tell bodies).is_right ≡ true → (body_tells old).is_right ≡ true
body_of_right bodies number old within is right =
    member_right body_tells (out-Bodies bodies).bodies.items number old within is
    (last_right (same_counts (out-Bodies bodies).moves (moves_told (map body_tells (out-Bodies bodies).bodies.items))) (same_counts (out-Bodies bodies).unfinished (unfinished_told (map body_tells (out-Bodies bodies).bodies.items)))
    (same_counts (out-Bodies bodies).«open» (pools_told (map body_tells (out-Bodies bodies).bodies.items))) (all_right (map body_tells (out-Bodies bodies).bodies.items)) (sym (ap (λ (t : Telling). t.is_right) (bodies_told bodies)) ∙ right))

pub part_of_right : (body : BodyNow) (number : ℕ) (old : LeftNow) → number < length (out-Body body).parts.items → old ≡ get_or (out-Body body).parts.items number old → (body_tells body).is_right ≡ true → (tells old).is_right ≡ true
part_of_right body number old within is right =
    member_right tells (out-Body body).parts.items number old within is
    (last_right (same_counts (out-Body body).moves (ready_moves (told (out-Body body).order) (flags_told (map tells (out-Body body).parts.items)) 0 (map tells (out-Body body).parts.items)))
    (same_counts (out-Body body).unfinished (unfinished_told (map tells (out-Body body).parts.items))) (same_counts (out-Body body).«open» (pools_told (map tells (out-Body body).parts.items))) (all_right (map tells (out-Body body).parts.items)) (sym (ap (λ (t : Telling). t.is_right) (body_told body)) ∙ right))

-- ---- parts that are put there, and not counted yet

pub body_put : (bodies : BodiesNow) (number : ℕ) (body : BodyNow) (x : Bodies-F LeftNow BodiesNow BodyNow RunNow) → x.bodies.items ≡ slice_set (out-Bodies bodies).bodies.items number body
    → x.moves ≡ (out-Bodies bodies).moves → x.unfinished ≡ (out-Bodies bodies).unfinished → x.«open» ≡ (out-Bodies bodies).«open» → HasBody bodies number body (roll-Bodies x)
body_put bodies number body x same moves unfinished pools =
    let opened : out-Bodies (roll-Bodies x) ≡ x = out-roll-Bodies x in
    record {
      bodies = ap (λ (y : Bodies-F LeftNow BodiesNow BodyNow RunNow). y.bodies.items) opened ∙ same;
      moves = ap (λ (y : Bodies-F LeftNow BodiesNow BodyNow RunNow). y.moves) opened ∙ moves;
      unfinished = ap (λ (y : Bodies-F LeftNow BodiesNow BodyNow RunNow). y.unfinished) opened ∙ unfinished;
      «open» = ap (λ (y : Bodies-F LeftNow BodiesNow BodyNow RunNow). y.«open») opened ∙ pools;
    }

pub part_put : (body : BodyNow) (number : ℕ) (part : LeftNow) (x : Body-F LeftNow BodiesNow BodyNow RunNow) → x.parts.items ≡ slice_set (out-Body body).parts.items number part → x.order ≡ (out-Body body).order
    → x.moves ≡ (out-Body body).moves → x.unfinished ≡ (out-Body body).unfinished → x.«open» ≡ (out-Body body).«open» → HasPart body number part (roll-Body x)
part_put body number part x same order moves unfinished pools =
    let opened : out-Body (roll-Body x) ≡ x = out-roll-Body x in
    record {
      parts = ap (λ (y : Body-F LeftNow BodiesNow BodyNow RunNow). y.parts.items) opened ∙ same;
      order = ap (λ (y : Body-F LeftNow BodiesNow BodyNow RunNow). y.order) opened ∙ order;
      moves = ap (λ (y : Body-F LeftNow BodiesNow BodyNow RunNow). y.moves) opened ∙ moves;
      unfinished = ap (λ (y : Body-F LeftNow BodiesNow BodyNow RunNow). y.unfinished) opened ∙ unfinished;
      «open» = ap (λ (y : Body-F LeftNow BodiesNow BodyNow RunNow). y.«open») opened ∙ pools;
    }

-- ---- points and elements

module _ (kind : KindTree) (context : Context) (bodies : BodiesNow) (number : ℕ) (path : Path) (now : Reached) (over : length (out-Bodies bodies).bodies.items ≤ number) (right : (bodies_tell bodies).is_right ≡ true) where
  pub no_point : ArePointsFired bodies kind context (number ∷ path) now Finished now bodies
  no_point = record {
    fired = λ order. retold (number ∷ path) now now Finished (same order) (same order) (kept-no-point body_kept order (out-Bodies bodies).bodies.items number kind context path now over);
    right = right;
  }
    where
      same : (order : ℕ → ℕ → Bool) → list Points order (points_left (bodies_kept bodies) kind context) ≡ list Points order (points_left (map body_kept (out-Bodies bodies).bodies.items) kind context)
      same order = ap (λ (b : List BodyLeft). list Points order (points_left b kind context)) (bodies_opened bodies)

  pub no_element : (stream : Station) → AreElementsFired stream bodies kind context (1 ∷ number ∷ path) now Finished now bodies
  no_element stream = record {
    fired = λ closed. retold (1 ∷ number ∷ path) now now Finished (same closed) (same closed)
        (kept-no-element body_kept stream.level stream.container (element_term kind context) closed (out-Bodies bodies).bodies.items number kind context path now over);
    right = right;
  }
    where
      same : (closed : Bool) → pool stream.level stream.container (element_term kind context) (active_left (bodies_kept bodies) kind context) closed ≡ pool stream.level stream.container (element_term kind context) (active_left (map body_kept (out-Bodies bodies).bodies.items) kind context) closed
      same closed = ap (λ (b : List BodyLeft). pool stream.level stream.container (element_term kind context) (active_left b kind context) closed) (bodies_opened bodies)

module _ (kind : KindTree) (context : Context) (path : Path) (before after : Reached) (end : End) (bodies mid counted : BodiesNow) (number : ℕ) (old new : BodyNow)
    (within : number < length (out-Bodies bodies).bodies.items) (is : old ≡ get_or (out-Bodies bodies).bodies.items number old)
    (has : HasBody bodies number new mid) (same : (out-Bodies counted).bodies ≡ (out-Bodies mid).bodies)
    (again : (all : BodiesNow) (body : BodyNow) → HasBody all number body mid → (bodies_tell all).is_right ≡ true → (body_tells body).is_right ≡ true → (bodies_tell counted).is_right ≡ true)
    (right : (bodies_tell bodies).is_right ≡ true) where
  kept_now : bodies_kept counted ≡ map body_kept (slice_set (out-Bodies bodies).bodies.items number new)
  kept_now = bodies_opened counted ∙ ap (λ vec. map body_kept vec.items) same ∙ ap (map body_kept) has.bodies

  pub point_counted : ((body_tells old).is_right ≡ true → AreItemsFired old (body_of kind) (point_inside kind context (body_kept old).at) path before end after new)
      → ArePointsFired bodies kind context (number ∷ path) before end after counted
  point_counted fires =
      let moved = fires (body_of_right bodies number old within is right) in
      record {
        fired = λ order. retold (number ∷ path) before after end
            (ap (λ (b : List BodyLeft). list Points order (points_left b kind context)) (bodies_opened bodies))
            (ap (λ (b : List BodyLeft). list Points order (points_left b kind context)) kept_now)
            (kept-point-fired body_kept order (out-Bodies bodies).bodies.items number old new kind context path before after end within is
            (inside-point (body_kept old) (body_kept new) kind context path before after end moved.fired));
        right = again bodies new has right moved.right;
      }

  pub element_counted : (stream : Station) → ((body_tells old).is_right ≡ true → AreItemsFired old (body_of kind) (element_inside kind context (value_at (body_kept old).at)) path before end after new)
      → AreElementsFired stream bodies kind context (1 ∷ number ∷ path) before end after counted
  element_counted stream fires =
      let moved = fires (body_of_right bodies number old within is right) in
      record {
        fired = λ closed. retold (1 ∷ number ∷ path) before after end
            (ap (λ (b : List BodyLeft). pool stream.level stream.container (element_term kind context) (active_left b kind context) closed) (bodies_opened bodies))
            (ap (λ (b : List BodyLeft). pool stream.level stream.container (element_term kind context) (active_left b kind context) closed) kept_now)
            (kept-element-fired body_kept stream.level stream.container (element_term kind context) closed (out-Bodies bodies).bodies.items number old new kind context path before after end within is moved.fired.at
            (inside-element (body_kept old) (body_kept new) kind context path before after end moved.fired));
        right = again bodies new has right moved.right;
      }

-- ---- items

-- a body's work, by its order and its parts
pub work_of : (body : BodyNow) (items : List Item) (context : Context)
    → body_left (body_kept body) (item_trees items) context ≡ list Items (told (out-Body body).order) (parts_left (map left_of (out-Body body).parts.items) (item_trees items) context)
work_of body items context = ap (λ (b : BodyLeft). body_left b (item_trees items) context) (body_opened body)

pub no_item : (items : List Item) (context : Context) (body : BodyNow) (number : ℕ) (path : Path) (now : Reached) → length (out-Body body).parts.items ≤ number → (body_tells body).is_right ≡ true
    → ArePartsFired body (item_trees items) context (number ∷ path) now Finished now body
no_item items context body number path now over right = record {
  fired = retold (number ∷ path) now now Finished (work_of body items context) (work_of body items context)
      (kept-no-item left_of (told (out-Body body).order) (out-Body body).parts.items number (item_trees items) context path now over);
  at = refl;
  right = right;
}

module _ (items : List Item) (item : Item) (context : Context) (path : Path) (before after : Reached) (end : End) (body counted : BodyNow) (x : Body-F LeftNow BodiesNow BodyNow RunNow) (number : ℕ) (old new : LeftNow)
    (within : number < length (out-Body body).parts.items) (is : old ≡ get_or (out-Body body).parts.items number old)
    (there : number < length items) (is_item : item ≡ get_or items number item)
    (has : HasPart body number new (roll-Body x)) (same_at : x.at ≡ (out-Body body).at)
    (at : (out-Body counted).at ≡ (out-Body (roll-Body x)).at) (order : (out-Body counted).order ≡ (out-Body (roll-Body x)).order) (parts : (out-Body counted).parts ≡ (out-Body (roll-Body x)).parts)
    (again : (all : BodyNow) (part : LeftNow) → HasPart all number part (roll-Body x) → (body_tells all).is_right ≡ true → (tells part).is_right ≡ true → (body_tells counted).is_right ≡ true)
    (right : (body_tells body).is_right ≡ true) where
  pub item_counted : ((tells old).is_right ≡ true → IsLeftFired old (kind_tree (out-Item item).kind) (out-Item item).line context path before end after new)
      → ArePartsFired body (item_trees items) context (number ∷ path) before end after counted
  item_counted fires =
      let moved = fires (part_of_right body number old within is right) in
      record {
        fired = retold (number ∷ path) before after end (work_of body items context)
            (work_of counted items context
            ∙ ap₂ (λ (o : ℕ → ℕ → Bool) (p : List LeftNow). list Items o (parts_left (map left_of p) (item_trees items) context)) (ap told (order ∙ has.order)) (ap (λ vec. vec.items) parts ∙ has.parts))
            (parts_fired left_of (told (out-Body body).order) (out-Body body).parts.items number old new items item context path before after end there is_item within is moved.fired);
        at = ap (λ (b : BodyLeft). b.at) (body_opened counted) ∙ ap (λ vec. vec.items) (at ∙ ap (λ (y : Body-F LeftNow BodiesNow BodyNow RunNow). y.at) (out-roll-Body x) ∙ same_at) ∙ sym (ap (λ (b : BodyLeft). b.at) (body_opened body));
        right = again body new has right moved.right;
      }
