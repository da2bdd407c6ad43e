-- Points, elements and items of which one has let go of what it held.
use Rattle.std.proofs.Common.{◌≡◌, ℕ, zero, suc, ◌<◌, ℤ, List, [], ◌∷◌, length, map, get_or, slice_set, Bool, true, refl, sym, ap, ap₂, ◌∙◌, subst, arith}
use Rattle.sd_work.specs.Memory.{Memory, Memories}
use Rattle.sd_work.specs.Residual.{Items, Term, list, owning, Terms, none, also, Actives, idle, busy}
use Rattle.sd_graph.specs.PlainTree.{KindTree, ItemTrees}
use Rattle.sd_graph.specs.Context.{Context}
use Rattle.sd_order.specs.table.Told.{told}
use Rattle.sd_left.specs.tree.Standing.{ItemLeft, BodyLeft, first_line, first_kind, others, body_of, point_inside, element_inside, value_at, body_left, parts_left, point_left, points_left, element_left, active_left}
use Rattle.sd_left.specs.declared.left.left.Left.{Left as LeftNow}
use Rattle.sd_left.specs.declared.left.left.Bodies.{Bodies as BodiesNow}
use Rattle.sd_left.specs.declared.left.left.Body.{Body as BodyNow}
use Rattle.sd_left.specs.declared.left.left.Left.TheOpen.{Body-F}
use Rattle.sd_left.specs.declared.left.left.Left.TheViews.{out-Bodies, out-Body, roll-Body, out-roll-Body}
use Rattle.sd_left.specs.declared.left.left.Run.{Run as RunNow}
use Rattle.sd_left.specs.left.Kept.{left_of, bodies_kept, body_kept}
use Rattle.sd_left.specs.left.Waits.{Told, all_hold, is_counted, is_body_counted, are_bodies_counted}
use Rattle.sd_left.specs.left.Tells.{tells, bodies_tell, body_tells}
use Rattle.sd_left.specs.left.Changed.{HasBody, HasPart}
use Rattle.sd_left.proofs.left_lemmas.Rolls.{bodies_opened, body_opened}
use Rattle.sd_left.proofs.left_lemmas.WaitRolls.{bodies_counted, body_counted}
use Rattle.sd_left.proofs.left_lemmas.Sameness.{both-true, both-are}
use Rattle.sd_fire.proofs.fire_lemmas.Lists.{body_of_right, part_of_right}
use Rattle.sd_core.specs.Released.{IsReleased, same, in_list, AreReleased, no_part, each_part, AreActiveReleased, no_active, each_active}
use Rattle.sd_core.specs.release.Changed.{IsLeftReleased, AreBodiesReleased, AreItemsReleased, IsOwnerReleased}

-- ---- lists of which one is changed

pub same-parts : {P : Type 0} (parts : Terms P) → AreReleased parts parts
same-parts none = no_part
same-parts (also part parts) = each_part same (same-parts parts)

pub same-active : {P : Type 0} (active : Actives P) → AreActiveReleased active active
same-active idle = no_active
same-active (busy value part active) = each_active same (same-active active)

pub work-changed : {P : Type 0} (old before new after : Term P) → old ≡ before → new ≡ after → IsReleased before after → IsReleased old new
work-changed old before new after was now released = subst (λ (one : Term _). IsReleased one new) (sym was) (subst (λ (one : Term _). IsReleased before one) (sym now) released)

pub parts-changed : {P : Type 0} (old before new after : Terms P) → old ≡ before → new ≡ after → AreReleased before after → AreReleased old new
parts-changed old before new after was now released = subst (λ (one : Terms _). AreReleased one new) (sym was) (subst (λ (one : Terms _). AreReleased before one) (sym now) released)

active-changed : {P : Type 0} (old before new after : Actives P) → old ≡ before → new ≡ after → AreActiveReleased before after → AreActiveReleased old new
active-changed old before new after was now released = subst (λ (one : Actives _). AreActiveReleased one new) (sym was) (subst (λ (one : Actives _). AreActiveReleased before one) (sym now) released)

module _ {A : Type 0} (kind : KindTree) (context : Context) (tell : A → BodyLeft) where
  pub points-put : (bodies : List A) (number : ℕ) (old new : A) → number < length bodies → old ≡ get_or bodies number old
      → IsReleased (point_left (tell old) kind context) (point_left (tell new) kind context)
      → AreReleased (points_left (map tell bodies) kind context) (points_left (map tell (slice_set bodies number new)) kind context)
  points-put [] number old new within is released = absurd (omega (arith, within))
  points-put (first ∷ bodies) zero old new within is released =
      each_part (subst (λ (one : A). IsReleased (point_left (tell one) kind context) (point_left (tell new) kind context)) is released) (same-parts (points_left (map tell bodies) kind context))
  points-put (first ∷ bodies) (suc number) old new within is released = each_part same (points-put bodies number old new (omega (arith, within)) is released)

  pub active-put : (bodies : List A) (number : ℕ) (old new : A) → number < length bodies → old ≡ get_or bodies number old → (tell new).at ≡ (tell old).at
      → IsReleased (element_left (tell old) kind context) (element_left (tell new) kind context)
      → AreActiveReleased (active_left (map tell bodies) kind context) (active_left (map tell (slice_set bodies number new)) kind context)
  active-put [] number old new within is at released = absurd (omega (arith, within))
  active-put (first ∷ bodies) zero old new within is at released =
      let rest = active_left (map tell bodies) kind context in
      let value : value_at (tell first).at ≡ value_at (tell new).at = ap (λ (one : A). value_at (tell one).at) (sym is) ∙ ap value_at (sym at) in
      subst (λ (v : ℤ). AreActiveReleased (busy (value_at (tell first).at) (element_left (tell first) kind context) rest) (busy v (element_left (tell new) kind context) rest)) value
      (each_active (subst (λ (one : A). IsReleased (element_left (tell one) kind context) (element_left (tell new) kind context)) is released) (same-active rest))
  active-put (first ∷ bodies) (suc number) old new within is at released = each_active same (active-put bodies number old new (omega (arith, within)) is at released)

pub parts-put : {A : Type 0} (tell : A → ItemLeft) (parts : List A) (number : ℕ) (old new : A) (items : ItemTrees) (context : Context) → number < length parts → old ≡ get_or parts number old
    → ((kind : KindTree) (line : ℕ) → IsReleased (tell old kind line context) (tell new kind line context))
    → AreReleased (parts_left (map tell parts) items context) (parts_left (map tell (slice_set parts number new)) items context)
parts-put tell [] number old new items context within is released = absurd (omega (arith, within))
parts-put {A} tell (first ∷ parts) zero old new items context within is released =
    each_part (subst (λ (one : A). IsReleased (tell one (first_kind items) (first_line items) context) (tell new (first_kind items) (first_line items) context)) is (released (first_kind items) (first_line items)))
    (same-parts (parts_left (map tell parts) (others items) context))
parts-put tell (first ∷ parts) (suc number) old new items context within is released =
    each_part same (parts-put tell parts number old new (others items) context (omega (arith, within)) is released)

hold-put : {A : Type 0} (holds : A → Told) (memories : Memories) (all : List A) (number : ℕ) (old new : A) → number < length all → old ≡ get_or all number old → (holds old memories ≡ true → holds new memories ≡ true)
    → all_hold (map holds all) memories ≡ true → all_hold (map holds (slice_set all number new)) memories ≡ true
hold-put holds memories [] number old new within is still held = absurd (omega (arith, within))
hold-put holds memories (first ∷ all) zero old new within is still held =
    let both = both-true (holds first memories) (all_hold (map holds all) memories) held in
    both-are (holds new memories) (all_hold (map holds all) memories) (still (ap (λ one. holds one memories) is ∙ both.0)) both.1
hold-put holds memories (first ∷ all) (suc number) old new within is still held =
    let both = both-true (holds first memories) (all_hold (map holds all) memories) held in
    both-are (holds first memories) (all_hold (map holds (slice_set all number new)) memories) both.0 (hold-put holds memories all number old new (omega (arith, within)) is still both.1)

-- ---- points and elements

module _ (old new : BodyNow) (owner : IsOwnerReleased old new) (kind : KindTree) (context : Context) where
  point-released : IsReleased (point_left (body_kept old) kind context) (point_left (body_kept new) kind context)
  point-released =
      subst (λ (at : List ℤ). IsReleased (point_left (body_kept old) kind context) (owning (body_kept new).own (body_left (body_kept new) (body_of kind) (point_inside kind context at)))) (sym owner.at)
      (owner.released (body_of kind) (point_inside kind context (body_kept old).at))

  element-released : IsReleased (element_left (body_kept old) kind context) (element_left (body_kept new) kind context)
  element-released =
      subst (λ (at : List ℤ). IsReleased (element_left (body_kept old) kind context) (owning (body_kept new).own (body_left (body_kept new) (body_of kind) (element_inside kind context (value_at at))))) (sym owner.at)
      (owner.released (body_of kind) (element_inside kind context (value_at (body_kept old).at)))

pub bodies-stay : (bodies : BodiesNow) → (bodies_tell bodies).is_right ≡ true → AreBodiesReleased bodies bodies
bodies-stay bodies right = record {
  points = λ kind context. same-parts (points_left (bodies_kept bodies) kind context);
  active = λ kind context. same-active (active_left (bodies_kept bodies) kind context);
  counted = λ memories held. held;
  right = right;
}

module _ (bodies mid counted : BodiesNow) (number : ℕ) (old new : BodyNow)
    (within : number < length (out-Bodies bodies).bodies.items) (is : old ≡ get_or (out-Bodies bodies).bodies.items number old)
    (has : HasBody bodies number new mid) (kept : (out-Bodies counted).bodies ≡ (out-Bodies mid).bodies)
    (again : (all : BodiesNow) (body : BodyNow) → HasBody all number body mid → (bodies_tell all).is_right ≡ true → (body_tells body).is_right ≡ true → (bodies_tell counted).is_right ≡ true)
    (right : (bodies_tell bodies).is_right ≡ true) where
  now : bodies_kept counted ≡ map body_kept (slice_set (out-Bodies bodies).bodies.items number new)
  now = bodies_opened counted ∙ ap (λ vec. map body_kept vec.items) kept ∙ ap (map body_kept) has.bodies

  held-now : (memories : Memories) → are_bodies_counted counted memories ≡ all_hold (map is_body_counted (slice_set (out-Bodies bodies).bodies.items number new)) memories
  held-now memories = bodies_counted memories counted ∙ ap (λ vec. all_hold (map is_body_counted vec.items) memories) kept ∙ ap (λ (all : List BodyNow). all_hold (map is_body_counted all) memories) has.bodies

  pub bodies-released : ((body_tells old).is_right ≡ true → IsOwnerReleased old new) → AreBodiesReleased bodies counted
  bodies-released releases =
      let owner = releases (body_of_right bodies number old within is right) in
      let all = (out-Bodies bodies).bodies.items in
      record {
        points = λ kind context.
            parts-changed (points_left (bodies_kept bodies) kind context) (points_left (map body_kept all) kind context) (points_left (bodies_kept counted) kind context) (points_left (map body_kept (slice_set all number new)) kind context)
            (ap (λ (b : List BodyLeft). points_left b kind context) (bodies_opened bodies)) (ap (λ (b : List BodyLeft). points_left b kind context) now)
            (points-put kind context body_kept all number old new within is (point-released old new owner kind context));
        active = λ kind context.
            active-changed (active_left (bodies_kept bodies) kind context) (active_left (map body_kept all) kind context) (active_left (bodies_kept counted) kind context) (active_left (map body_kept (slice_set all number new)) kind context)
            (ap (λ (b : List BodyLeft). active_left b kind context) (bodies_opened bodies)) (ap (λ (b : List BodyLeft). active_left b kind context) now)
            (active-put kind context body_kept all number old new within is owner.at (element-released old new owner kind context));
        counted = λ memories held. held-now memories ∙ hold-put is_body_counted memories all number old new within is (owner.counted memories) (sym (bodies_counted memories bodies) ∙ held);
        right = again bodies new has right owner.right;
      }

-- ---- items

pub work_of : (body : BodyNow) (items : ItemTrees) (context : Context) → body_left (body_kept body) items context ≡ list Items (told (out-Body body).order) (parts_left (map left_of (out-Body body).parts.items) items context)
work_of body items context = ap (λ (b : BodyLeft). body_left b items context) (body_opened body)

pub items-stay : (body : BodyNow) → (body_tells body).is_right ≡ true → AreItemsReleased body body
items-stay body right = record { released = λ items context. same; at = refl; own = refl; counted = λ memories held. held; right = right }

module _ (body counted : BodyNow) (x : Body-F LeftNow BodiesNow BodyNow RunNow) (number : ℕ) (old new : LeftNow)
    (within : number < length (out-Body body).parts.items) (is : old ≡ get_or (out-Body body).parts.items number old)
    (has : HasPart body number new (roll-Body x)) (same_at : x.at ≡ (out-Body body).at) (same_own : x.own ≡ (out-Body body).own)
    (at : (out-Body counted).at ≡ (out-Body (roll-Body x)).at) (own : (out-Body counted).own ≡ (out-Body (roll-Body x)).own) (order : (out-Body counted).order ≡ (out-Body (roll-Body x)).order) (parts : (out-Body counted).parts ≡ (out-Body (roll-Body x)).parts)
    (again : (all : BodyNow) (part : LeftNow) → HasPart all number part (roll-Body x) → (body_tells all).is_right ≡ true → (tells part).is_right ≡ true → (body_tells counted).is_right ≡ true)
    (right : (body_tells body).is_right ≡ true) where
  own-stays : (out-Body counted).own ≡ (out-Body body).own
  own-stays = own ∙ ap (λ (y : Body-F LeftNow BodiesNow BodyNow RunNow). y.own) (out-roll-Body x) ∙ same_own

  parts-now : (out-Body counted).parts.items ≡ slice_set (out-Body body).parts.items number new
  parts-now = ap (λ vec. vec.items) parts ∙ has.parts

  pub items-released : ((tells old).is_right ≡ true → IsLeftReleased old new) → AreItemsReleased body counted
  items-released releases =
      let left = releases (part_of_right body number old within is right) in
      let all = (out-Body body).parts.items in
      record {
        released = λ items context.
            work-changed (body_left (body_kept body) items context) (list Items (told (out-Body body).order) (parts_left (map left_of all) items context)) (body_left (body_kept counted) items context)
            (list Items (told (out-Body body).order) (parts_left (map left_of (slice_set all number new)) items context))
            (work_of body items context)
            (work_of counted items context
            ∙ ap₂ (λ (o : ℕ → ℕ → Bool) (p : List LeftNow). list Items o (parts_left (map left_of p) items context)) (ap told (order ∙ has.order)) parts-now)
            (in_list (parts-put left_of all number old new items context within is (λ kind line. left.released kind line context)));
        at = ap (λ (b : BodyLeft). b.at) (body_opened counted) ∙ ap (λ vec. vec.items) (at ∙ ap (λ (y : Body-F LeftNow BodiesNow BodyNow RunNow). y.at) (out-roll-Body x) ∙ same_at) ∙ sym (ap (λ (b : BodyLeft). b.at) (body_opened body));
        own = ap (λ (b : BodyLeft). b.own) (body_opened counted) ∙ ap (λ memory. memory.contents) own-stays ∙ sym (ap (λ (b : BodyLeft). b.own) (body_opened body));
        counted = λ memories held.
            body_counted memories counted ∙ ap₂ (λ (p : List LeftNow) (memory : Memory). all_hold (map is_counted p) (memory ∷ memories)) parts-now (ap (λ memory. memory.contents) own-stays)
            ∙ hold-put is_counted ((out-Body body).own.contents ∷ memories) all number old new within is (left.counted ((out-Body body).own.contents ∷ memories)) (sym (body_counted memories body) ∙ held);
        right = again body new has right left.right;
      }
