-- The part of a tree in which the move of a number is.
use Rattle.std.proofs.Common.{◌≡◌, ℕ, ◌+◌, ◌<◌, ◌≤◌, List, [], ◌∷◌, ◌++◌, append_assoc, map, take, length, get_or, Bool, true, false, sym, ap, ◌∙◌, subst, arith}
use Rattle.std.specs.List.{sum}
use Rattle.sd_list.specs.tally.Found.{IsFound}
use Rattle.sd_list.specs.declared.tally.nodes.Found.{Found}
use Rattle.sd_work.specs.Memory.{Memories}
use Rattle.sd_work.specs.Residual.{Points, list}
use Rattle.sd_moves.specs.numbered.Counts.{count_active}
use Rattle.sd_moves.specs.numbered.Places.{place_of, place_in_active}
use Rattle.sd_graph.specs.PlainTree.{KindTree, ItemTrees}
use Rattle.sd_graph.specs.Context.{Context}
use Rattle.sd_graph.specs.Unfold.{in_any_order, one_after_another, order_of_points}
use Rattle.sd_order.specs.table.Told.{told}
use Rattle.sd_left.specs.tree.Standing.{BodyLeft, first_line, first_kind, behind, body_of, point_inside, element_inside, value_at, body_left, points_left, active_left}
use Rattle.sd_left.specs.declared.left.left.Left.{Left as LeftNow}
use Rattle.sd_left.specs.declared.left.left.Bodies.{Bodies as BodiesNow}
use Rattle.sd_left.specs.declared.left.left.Body.{Body as BodyNow}
use Rattle.sd_left.specs.declared.left.left.Left.TheViews.{out-Bodies, out-Body}
use Rattle.sd_left.specs.left.Kept.{left_of, bodies_kept, body_kept}
use Rattle.sd_left.specs.left.Waits.{is_counted, are_bodies_counted, is_body_counted}
use Rattle.sd_left.specs.left.Telling.{Telling, map_tells, moves_told, unfinished_told, pools_told, all_right, count_of_first}
use Rattle.sd_left.specs.left.Tells.{tells, bodies_telling, bodies_tell, body_tells}
use Rattle.sd_left.proofs.left_lemmas.Sameness.{were}
use Rattle.sd_left.proofs.left_lemmas.FirstLeft.{first-within}
use Rattle.sd_left.proofs.left_lemmas.Rolls.{bodies_opened, body_opened}
use Rattle.sd_left.proofs.left_lemmas.WaitRolls.{bodies_counted, body_counted}
use Rattle.sd_left.proofs.left_lemmas.TellRolls.{bodies_told, first_told, body_told}
use Rattle.sd_left.proofs.left_lemmas.Shows.{AllItemsShow, AllBodiesShow, bodies-show}
use Rattle.sd_left.proofs.left_lemmas.Showing.{left-shows, body-shows-all}
use Rattle.sd_left.proofs.next_moves_lemmas.Found.{body-there, body-right, body-held, body-moves, point-place, element-place}
use Rattle.sd_left.proofs.next_moves_lemmas.FoundFirst.{first-place}
use Rattle.sd_left.proofs.next_moves_lemmas.Ways.{any-order-place}
use Rattle.sd_left.proofs.next_moves_lemmas.FoundItem.{item-there, item-right, item-held, item-moves, item-place}

items-show : (parts : List LeftNow) → AllItemsShow left_of tells is_counted parts
items-show [] = tt
items-show (part ∷ parts) = (left-shows part, items-show parts)

all-show : (bodies : List BodyNow) → AllBodiesShow body_kept body_tells is_body_counted bodies
all-show [] = tt
all-show (body ∷ bodies) = (body-shows-all body, all-show bodies)

-- a number and then a way
pub way-through : (old pushed new way : List ℕ) (number : ℕ) → pushed ≡ old ++ number ∷ [] → new ≡ pushed ++ way → new ≡ old ++ number ∷ way
way-through old pushed new way number one more = more ∙ ap (λ (p : List ℕ). p ++ way) one ∙ append_assoc old (number ∷ []) way

-- ---- items

module _ (body : BodyNow) (memories : Memories) (right : (body_tells body).is_right ≡ true) (held : is_body_counted body memories ≡ true) where
  body-sum : (body_tells body).moves ≡ sum (out-Body body).moves
  body-sum = ap (λ (t : Telling). t.moves) (body_told body)

  pub not-over : (unit : ℕ) → unit < (body_tells body).moves → sum (out-Body body).moves ≤ unit → ⊥
  not-over unit less over = omega (arith, less, over, body-sum)

  module _ (unit : ℕ) (found : Found) (is_found : IsFound (out-Body body).moves unit found) where
    pub part-there : found.number < length (out-Body body).parts.items
    part-there = item-there left_of tells is_counted (told (out-Body body).order) (out-Body body).parts.items (out-Body body).moves (out-Body body).unfinished (out-Body body).«open» (items-show (out-Body body).parts.items)
        (sym (ap (λ (t : Telling). t.is_right) (body_told body)) ∙ right) ((out-Body body).own.contents ∷ memories) (sym (body_counted memories body) ∙ held) unit found.number found.rest is_found.inside

    module _ (part : LeftNow) (is : part ≡ get_or (out-Body body).parts.items found.number part) where
      pub part-right : (tells part).is_right ≡ true
      part-right = item-right left_of tells is_counted (told (out-Body body).order) (out-Body body).parts.items (out-Body body).moves (out-Body body).unfinished (out-Body body).«open» (items-show (out-Body body).parts.items)
          (sym (ap (λ (t : Telling). t.is_right) (body_told body)) ∙ right) ((out-Body body).own.contents ∷ memories) (sym (body_counted memories body) ∙ held) unit found.number found.rest is_found.inside part is

      pub part-held : is_counted part ((out-Body body).own.contents ∷ memories) ≡ true
      part-held = item-held left_of tells is_counted (told (out-Body body).order) (out-Body body).parts.items (out-Body body).moves (out-Body body).unfinished (out-Body body).«open» (items-show (out-Body body).parts.items)
          (sym (ap (λ (t : Telling). t.is_right) (body_told body)) ∙ right) ((out-Body body).own.contents ∷ memories) (sym (body_counted memories body) ∙ held) unit found.number found.rest is_found.inside part is

      pub part-less : found.rest < (tells part).moves
      part-less = item-moves left_of tells is_counted (told (out-Body body).order) (out-Body body).parts.items (out-Body body).moves (out-Body body).unfinished (out-Body body).«open» (items-show (out-Body body).parts.items)
          (sym (ap (λ (t : Telling). t.is_right) (body_told body)) ∙ right) ((out-Body body).own.contents ∷ memories) (sym (body_counted memories body) ∙ held) unit found.number found.rest is_found.inside part is

      pub part-place : (items : ItemTrees) (context : Context) → place_of (body_left (body_kept body) items context) ((body_kept body).own ∷ memories) unit
          ≡ found.number ∷ place_of (left_of part (first_kind (behind found.number items)) (first_line (behind found.number items)) context) ((out-Body body).own.contents ∷ memories) found.rest
      part-place items context =
          ap (λ (left : BodyLeft). place_of (body_left left items context) (left.own ∷ memories) unit) (body_opened body)
          ∙ item-place left_of tells is_counted (told (out-Body body).order) (out-Body body).parts.items (out-Body body).moves (out-Body body).unfinished (out-Body body).«open» (items-show (out-Body body).parts.items)
          (sym (ap (λ (t : Telling). t.is_right) (body_told body)) ∙ right) ((out-Body body).own.contents ∷ memories) (sym (body_counted memories body) ∙ held) unit found.number found.rest is_found.inside part is
          is_found.before items context

-- ---- bodies

module _ (bodies : BodiesNow) (memories : Memories) (right : (bodies_tell bodies).is_right ≡ true) (held : are_bodies_counted bodies memories ≡ true) where
  pub bodies-sum : (bodies_tell bodies).moves ≡ sum (out-Bodies bodies).moves
  bodies-sum = ap (λ (t : Telling). t.moves) (bodies_told bodies)

  pub not-over-all : (unit : ℕ) → unit < (bodies_tell bodies).moves → sum (out-Bodies bodies).moves ≤ unit → ⊥
  not-over-all unit less over = omega (arith, less, over, bodies-sum)

  pub not-over-first : (sequential : Bool) (unit : ℕ) → unit < (map_tells sequential (bodies_telling bodies)).moves → sum (out-Bodies bodies).moves ≤ unit → ⊥
  not-over-first true unit less over = omega (arith, less, over, first_told bodies, first-within (out-Bodies bodies).moves (out-Bodies bodies).unfinished)
  not-over-first false unit less over = not-over-all unit less over

  -- so many moves are those of elements in work
  pub busy-counts : (kind : KindTree) (context : Context) → count_active (active_left (bodies_kept bodies) kind context) memories ≡ sum (out-Bodies bodies).moves
  busy-counts kind context =
      ap (λ (all : List BodyLeft). count_active (active_left all kind context) memories) (bodies_opened bodies)
      ∙ (bodies-show body_kept body_tells is_body_counted (out-Bodies bodies).bodies.items (out-Bodies bodies).moves (out-Bodies bodies).unfinished (out-Bodies bodies).«open» (all-show (out-Bodies bodies).bodies.items)
      (sym (ap (λ (t : Telling). t.is_right) (bodies_told bodies)) ∙ right)).elements kind context memories (sym (bodies_counted memories bodies) ∙ held)

  module _ (unit : ℕ) (found : Found) (is_found : IsFound (out-Bodies bodies).moves unit found) where
    pub one-there : found.number < length (out-Bodies bodies).bodies.items
    one-there = body-there body_kept body_tells is_body_counted (out-Bodies bodies).bodies.items (out-Bodies bodies).moves (out-Bodies bodies).unfinished (out-Bodies bodies).«open» (all-show (out-Bodies bodies).bodies.items)
        (sym (ap (λ (t : Telling). t.is_right) (bodies_told bodies)) ∙ right) memories (sym (bodies_counted memories bodies) ∙ held) unit found.number found.rest is_found.inside

    module _ (body : BodyNow) (is : body ≡ get_or (out-Bodies bodies).bodies.items found.number body) where
      pub one-right : (body_tells body).is_right ≡ true
      one-right = body-right body_kept body_tells is_body_counted (out-Bodies bodies).bodies.items (out-Bodies bodies).moves (out-Bodies bodies).unfinished (out-Bodies bodies).«open» (all-show (out-Bodies bodies).bodies.items)
          (sym (ap (λ (t : Telling). t.is_right) (bodies_told bodies)) ∙ right) memories (sym (bodies_counted memories bodies) ∙ held) unit found.number found.rest is_found.inside body is

      pub one-held : is_body_counted body memories ≡ true
      one-held = body-held body_kept body_tells is_body_counted (out-Bodies bodies).bodies.items (out-Bodies bodies).moves (out-Bodies bodies).unfinished (out-Bodies bodies).«open» (all-show (out-Bodies bodies).bodies.items)
          (sym (ap (λ (t : Telling). t.is_right) (bodies_told bodies)) ∙ right) memories (sym (bodies_counted memories bodies) ∙ held) unit found.number found.rest is_found.inside body is

      pub one-less : found.rest < (body_tells body).moves
      one-less = body-moves body_kept body_tells is_body_counted (out-Bodies bodies).bodies.items (out-Bodies bodies).moves (out-Bodies bodies).unfinished (out-Bodies bodies).«open» (all-show (out-Bodies bodies).bodies.items)
          (sym (ap (λ (t : Telling). t.is_right) (bodies_told bodies)) ∙ right) memories (sym (bodies_counted memories bodies) ∙ held) unit found.number found.rest is_found.inside body is

      one-point : (kind : KindTree) (context : Context) → place_of (list Points in_any_order (points_left (bodies_kept bodies) kind context)) memories unit
          ≡ found.number ∷ place_of (body_left (body_kept body) (body_of kind) (point_inside kind context (body_kept body).at)) ((body_kept body).own ∷ memories) found.rest
      one-point kind context =
          ap (λ (all : List BodyLeft). place_of (list Points in_any_order (points_left all kind context)) memories unit) (bodies_opened bodies)
          ∙ any-order-place (points_left (map body_kept (out-Bodies bodies).bodies.items) kind context) memories unit
          ∙ point-place body_kept body_tells is_body_counted (out-Bodies bodies).bodies.items (out-Bodies bodies).moves (out-Bodies bodies).unfinished (out-Bodies bodies).«open» (all-show (out-Bodies bodies).bodies.items)
          (sym (ap (λ (t : Telling). t.is_right) (bodies_told bodies)) ∙ right) memories (sym (bodies_counted memories bodies) ∙ held) unit found.number found.rest is_found.inside body is is_found.before kind context

      -- where points come one after another
      first-point : unit < (bodies_telling bodies).first → (kind : KindTree) (context : Context) → place_of (list Points one_after_another (points_left (bodies_kept bodies) kind context)) memories unit
          ≡ found.number ∷ place_of (body_left (body_kept body) (body_of kind) (point_inside kind context (body_kept body).at)) ((body_kept body).own ∷ memories) found.rest
      first-point less kind context =
          let all = (out-Bodies bodies).bodies.items in
          let were_right = were (out-Bodies bodies).moves (moves_told (map body_tells all)) (out-Bodies bodies).unfinished (unfinished_told (map body_tells all)) (out-Bodies bodies).«open» (pools_told (map body_tells all)) (all_right (map body_tells all))
          (sym (ap (λ (t : Telling). t.is_right) (bodies_told bodies)) ∙ right) in
          ap (λ (kept : List BodyLeft). place_of (list Points one_after_another (points_left kept kind context)) memories unit) (bodies_opened bodies)
          ∙ first-place body_kept body_tells is_body_counted kind context memories all (all-show all) were_right.parts_are (sym (bodies_counted memories bodies) ∙ held) unit found.number found.rest body one-there is
          (ap (λ (counts : List ℕ). sum (take found.number counts) + found.rest) (sym were_right.moves_are) ∙ is_found.before)
          (subst (λ (counts : List ℕ). found.rest < get_or counts found.number 0) were_right.moves_are is_found.inside)
          (subst (λ (counts : List ℕ). unit < count_of_first (moves_told (map body_tells all)) counts) were_right.unfinished_are
          (subst (λ (counts : List ℕ). unit < count_of_first counts (out-Bodies bodies).unfinished) were_right.moves_are
          (subst (λ (most : ℕ). unit < most) (first_told bodies) less)))

      -- and in whichever order
      pub any-point : (sequential : Bool) → unit < (map_tells sequential (bodies_telling bodies)).moves → (kind : KindTree) (context : Context)
          → place_of (list Points (order_of_points sequential) (points_left (bodies_kept bodies) kind context)) memories unit
          ≡ found.number ∷ place_of (body_left (body_kept body) (body_of kind) (point_inside kind context (body_kept body).at)) ((body_kept body).own ∷ memories) found.rest
      any-point true less kind context = first-point less kind context
      any-point false less kind context = one-point kind context

      pub one-element : (kind : KindTree) (context : Context) → place_in_active 0 (active_left (bodies_kept bodies) kind context) memories unit
          ≡ found.number ∷ place_of (body_left (body_kept body) (body_of kind) (element_inside kind context (value_at (body_kept body).at))) ((body_kept body).own ∷ memories) found.rest
      one-element kind context =
          ap (λ (all : List BodyLeft). place_in_active 0 (active_left all kind context) memories unit) (bodies_opened bodies)
          ∙ element-place body_kept body_tells is_body_counted (out-Bodies bodies).bodies.items (out-Bodies bodies).moves (out-Bodies bodies).unfinished (out-Bodies bodies).«open» (all-show (out-Bodies bodies).bodies.items)
          (sym (ap (λ (t : Telling). t.is_right) (bodies_told bodies)) ∙ right) memories (sym (bodies_counted memories bodies) ∙ held) unit found.number found.rest is_found.inside body is is_found.before kind context
