-- The points of a map, settled so far.
use Rattle.std.proofs.Common.{◌≡◌, ℕ, suc, ◌+◌, ◌≤◌, nat_eq, List, [], length, take, map, slice_set, Bool, true, false, cond, ◌&&◌, refl, sym, ap, ap₂, ◌∙◌, subst, arith}
use Rattle.std.specs.List.{sum}
use Rattle.sd_list.specs.tally.Found.{IsFound}
use Rattle.sd_list.specs.declared.tally.nodes.Found.{Found}
use Rattle.sd_work.specs.Memory.{Memory, Memories}
use Rattle.sd_work.specs.Residual.{Points, owning, is_ready}
use Rattle.sd_work.specs.Settle.{settle, settle_parts, all_true, is_first_left}
use Rattle.sd_graph.specs.PlainTree.{KindTree}
use Rattle.sd_graph.specs.Context.{Context}
use Rattle.sd_graph.specs.Unfold.{order_of_points}
use Rattle.sd_left.specs.tree.Standing.{BodyLeft, body_of, point_inside, body_left, point_left, points_left}
use Rattle.sd_left.specs.declared.left.left.Bodies.{Bodies as BodiesNow}
use Rattle.sd_left.specs.declared.left.left.Body.{Body as BodyNow}
use Rattle.sd_left.specs.declared.left.left.Left.TheViews.{out-Bodies}
use Rattle.sd_left.specs.left.Kept.{body_kept}
use Rattle.sd_left.specs.left.Waits.{is_body_counted}
use Rattle.sd_left.specs.left.Telling.{Telling, flags_told, unfinished_told, moves_told, pools_told, all_right}
use Rattle.sd_left.specs.left.Tells.{bodies_tell, body_tells}
use Rattle.sd_left.proofs.left_lemmas.Sameness.{Were, were}
use Rattle.sd_left.proofs.left_lemmas.Rolls.{bodies_opened}
use Rattle.sd_left.proofs.left_lemmas.WaitRolls.{bodies_counted}
use Rattle.sd_left.proofs.left_lemmas.TellRolls.{bodies_told}
use Rattle.sd_left.proofs.left_lemmas.Readiness.{member-there}
use Rattle.sd_fire.specs.settle.Cleared.{ClearsTo}
use Rattle.sd_fire.specs.settle.Settled.{ArePointsSettled, IsBodySettled, IsOneSettled}
use Rattle.sd_fire.proofs.settle_lemmas.Sums.{found-behind, none-behind, whole}
use Rattle.sd_fire.proofs.settle_lemmas.Cleared.{clear-here, none-clear}
use Rattle.sd_fire.proofs.settle_lemmas.Laid.{laid, flags_at, settled_from, settled-all, passed-over, passed-rest, one-settled}
use Rattle.sd_fire.proofs.settle_lemmas.Held.{as-many, fused, same-size, IsFar, far-begin, far-next, far-end}
use Rattle.sd_fire.proofs.settle_lemmas.Trees.{pools_in_body, bodies-calm, point_place, points-laid, points-counted, point-flags, clear-flags}

-- the counts of bodies that are right
abbrev pub all_bodies : BodiesNow → List BodyNow
all_bodies bodies = (out-Bodies bodies).bodies.items

pub bodies-were : (bodies : BodiesNow) → (bodies_tell bodies).is_right ≡ true
    → Were (out-Bodies bodies).moves (moves_told (map body_tells (all_bodies bodies))) (out-Bodies bodies).unfinished (unfinished_told (map body_tells (all_bodies bodies))) (out-Bodies bodies).«open» (pools_told (map body_tells (all_bodies bodies))) (all_right (map body_tells (all_bodies bodies)))
bodies-were bodies right =
    were (out-Bodies bodies).moves (moves_told (map body_tells (all_bodies bodies))) (out-Bodies bodies).unfinished (unfinished_told (map body_tells (all_bodies bodies))) (out-Bodies bodies).«open» (pools_told (map body_tells (all_bodies bodies))) (all_right (map body_tells (all_bodies bodies)))
    (sym (ap (λ (t : Telling). t.is_right) (bodies_told bodies)) ∙ right)

pub bodies-open : (bodies : BodiesNow) → (bodies_tell bodies).is_right ≡ true → (out-Bodies bodies).«open» ≡ map pools_in_body (all_bodies bodies)
bodies-open bodies right = (bodies-were bodies right).pools_are ∙ fused body_tells (λ (t : Telling). t.pools) (all_bodies bodies)

-- one point
pub point-settled : (old new : BodyNow) (may_go : Bool) (clear : ℕ) (memories : Memories) (cleared : List Bool) (kind : KindTree) (context : Context)
    → IsBodySettled old new may_go clear memories → ClearsTo cleared clear
    → point_left (body_kept new) kind context ≡ settle may_go cleared memories (point_left (body_kept old) kind context)
point-settled old new may_go clear memories cleared kind context is clears =
    ap₂ (λ (own : Memory) (at : List _). owning own (body_left (body_kept new) (body_of kind) (point_inside kind context at))) is.own is.at
    ∙ ap (owning (body_kept old).own) (is.settled cleared clears (body_of kind) (point_inside kind context (body_kept old).at))

-- behind unfinished points no memory is clear
pub clears-behind : (first : Bool) (cleared : List Bool) (clear : ℕ) → ClearsTo cleared clear → ClearsTo (map (λ flag. first && flag) cleared) (cond first clear 0)
clears-behind true cleared clear clears = clear-here cleared clear clears
clears-behind false cleared clear clears = none-clear cleared

-- which of the first parts are finished, by their counts of what is unfinished
abbrev pub counted_flags : (number : ℕ) → (unfinished : List ℕ) → List Bool
counted_flags number unfinished = map (λ count. nat_eq count 0) (take number unfinished)

module _ (sequential may_go : Bool) (clear : ℕ) (memories : Memories) where
  -- the points that are settled after some turns, and those behind them as they were
  pub record PointsSoFar (old now : BodiesNow) (turns unit : ℕ) : Type 0 where
    pub reached : ℕ
    pub far : IsFar is_body_counted pools_in_body memories (all_bodies now) turns unit reached
    pub settled : (cleared : List Bool) → ClearsTo cleared clear → (kind : KindTree) (context : Context)
        → settle_parts may_go cleared memories Points (order_of_points sequential) [] 0 (laid (point_place kind context) 0 (all_bodies old)) ≡ settled_from (point_place kind context) may_go cleared memories Points (order_of_points sequential) [] 0 reached (all_bodies now)
    pub size : length (all_bodies now) ≡ length (all_bodies old)
    pub right : (bodies_tell now).is_right ≡ true

  pub points-begin : (old : BodiesNow) → (bodies_tell old).is_right ≡ true → PointsSoFar old old 0 0
  points-begin old right = record {
    reached = 0;
    far = far-begin is_body_counted pools_in_body memories (all_bodies old);
    settled = λ cleared clears kind context. sym (settled-all (point_place kind context) may_go cleared memories Points (order_of_points sequential) [] 0 (all_bodies old));
    size = refl;
    right = right;
  }

  points-next : (old now new : BodiesNow) (turns unit pools : ℕ) (found : Found) → PointsSoFar old now turns unit → IsFound (out-Bodies now).«open» unit found
      → IsOneSettled now new found.number pools (may_go && is_ready (order_of_points sequential) (counted_flags found.number (out-Bodies now).unfinished) found.number)
      (cond (all_true (counted_flags found.number (out-Bodies now).unfinished)) clear 0) memories
      → PointsSoFar old new (suc turns) (unit + pools)
  points-next old now new turns unit pools found so_far is_found one =
      let bodies = all_bodies now in
      let number = found.number in
      let were_right = bodies-were now so_far.right in
      let units_of : (out-Bodies now).«open» ≡ map pools_in_body bodies = bodies-open now so_far.right in
      let found_at : IsFound (map pools_in_body bodies) unit found = subst (λ (counts : List ℕ). IsFound counts unit found) (bodies-open now so_far.right) is_found in
      let member = member-there bodies number one.there in
      let here = one.settled member.0 member.1 in
      let next = far-next is_body_counted pools_in_body memories bodies turns unit so_far.reached number found.rest one.body (bodies-calm memories bodies were_right.parts_are) so_far.far found_at.before found_at.inside here.counted in
      let behind = found-behind (map pools_in_body bodies) so_far.reached number found.rest (found_at.before ∙ so_far.far.units) found_at.inside in
      let told = counted_flags number (out-Bodies now).unfinished in
      let told_are : told ≡ take number (flags_told (map body_tells bodies)) = ap (counted_flags number) were_right.unfinished_are ∙ clear-flags number (map body_tells bodies) in
      record {
        reached = suc number;
        far = subst (λ (after : List BodyNow). IsFar is_body_counted pools_in_body memories after (suc turns) (unit + pools) (suc number)) (sym one.put)
            (subst (λ (p : ℕ). IsFar is_body_counted pools_in_body memories (slice_set bodies number one.body) (suc turns) (unit + p) (suc number)) (sym one.pools) next);
        settled = λ cleared clears kind context.
            let place = point_place kind context in
            let flags = flags_at place 0 number bodies in
            let same_flags : told ≡ flags = told_are ∙ sym (point-flags kind context 0 number bodies were_right.parts_are) in
            let clears_here : ClearsTo (map (λ flag. is_first_left Points flags && flag) cleared) (cond (all_true told) clear 0) =
            subst (λ (all : List Bool). ClearsTo (map (λ flag. is_first_left Points flags && flag) cleared) (cond (all_true all) clear 0)) (sym same_flags) (clears-behind (all_true flags) cleared clear clears) in
            so_far.settled cleared clears kind context
            ∙ passed-over place may_go cleared memories Points (order_of_points sequential) pools_in_body [] 0 so_far.reached number bodies (points-counted kind context bodies were_right.parts_are) behind.0 behind.1
            ∙ one-settled place may_go cleared memories Points (order_of_points sequential) [] 0 number number flags bodies member.0 one.body one.there member.1 (omega arith) refl
            (point-settled member.0 one.body (may_go && is_ready (order_of_points sequential) told number) (cond (all_true told) clear 0) memories (map (λ flag. is_first_left Points flags && flag) cleared) kind context here clears_here
            ∙ ap (λ (all : List Bool). settle (may_go && is_ready (order_of_points sequential) all number) (map (λ flag. is_first_left Points flags && flag) cleared) memories (place number member.0)) same_flags)
            ∙ ap (settled_from place may_go cleared memories Points (order_of_points sequential) [] 0 (suc number)) (sym one.put);
        size = ap (length {A = BodyNow}) one.put ∙ same-size bodies number one.body ∙ so_far.size;
        right = one.right;
      }

  pub points-turn : (old now new : BodiesNow) (turns turns_now unit unit_now pools outside : ℕ) (ready : Bool) (found : Found) (inside : Memories) → turns_now ≡ suc turns → unit_now ≡ unit + pools → inside ≡ memories
      → ready ≡ (may_go && is_ready (order_of_points sequential) (counted_flags found.number (out-Bodies now).unfinished) found.number)
      → outside ≡ cond (all_true (counted_flags found.number (out-Bodies now).unfinished)) clear 0
      → PointsSoFar old now turns unit → IsFound (out-Bodies now).«open» unit found → IsOneSettled now new found.number pools ready outside inside → PointsSoFar old new turns_now unit_now
  points-turn old now new turns turns_now unit unit_now pools outside ready found inside turn more same goes clears so_far is_found one =
      subst (λ (t : ℕ). PointsSoFar old new t unit_now) (sym turn)
      (subst (λ (u : ℕ). PointsSoFar old new (suc turns) u) (sym more)
      (points-next old now new turns unit pools found so_far is_found
      (subst (λ (go : Bool). IsOneSettled now new found.number pools go (cond (all_true (counted_flags found.number (out-Bodies now).unfinished)) clear 0) memories) goes
      (subst (λ (n : ℕ). IsOneSettled now new found.number pools ready n memories) clears (subst (λ (m : Memories). IsOneSettled now new found.number pools ready outside m) same one)))))

  points-all : (old now : BodiesNow) (turns unit : ℕ) (so_far : PointsSoFar old now turns unit) → sum (take so_far.reached (map pools_in_body (all_bodies now))) ≡ sum (map pools_in_body (all_bodies now))
      → ArePointsSettled sequential old now may_go clear memories
  points-all old now turns unit so_far all =
      let bodies = all_bodies now in
      let were_right = bodies-were now so_far.right in
      record {
        settled = λ cleared clears kind context.
            ap (λ (b : List BodyLeft). points_left b kind context) (bodies_opened now)
            ∙ points-laid kind context 0 bodies
            ∙ sym (passed-rest (point_place kind context) may_go cleared memories Points (order_of_points sequential) pools_in_body [] 0 so_far.reached bodies (points-counted kind context bodies were_right.parts_are) all)
            ∙ sym (so_far.settled cleared clears kind context)
            ∙ ap (settle_parts may_go cleared memories Points (order_of_points sequential) [] 0) (sym (ap (λ (b : List BodyLeft). points_left b kind context) (bodies_opened old) ∙ points-laid kind context 0 (all_bodies old)));
        counted = bodies_counted memories now ∙ far-end is_body_counted pools_in_body memories bodies turns unit so_far.reached (bodies-calm memories bodies were_right.parts_are) so_far.far all;
        right = so_far.right;
      }

  pub points-none : (old now : BodiesNow) (turns unit : ℕ) → PointsSoFar old now turns unit → sum (out-Bodies now).«open» ≤ unit → ArePointsSettled sequential old now may_go clear memories
  points-none old now turns unit so_far most =
      let counts = map pools_in_body (all_bodies now) in
      let units_of : sum (out-Bodies now).«open» ≡ sum counts = ap sum (bodies-open now so_far.right) in
      let units = so_far.far.units in
      points-all old now turns unit so_far (none-behind counts so_far.reached (omega (arith, most, units_of, units)))

  pub points-over : (old now : BodiesNow) (turns unit : ℕ) → PointsSoFar old now turns unit → length (all_bodies old) ≤ turns → ArePointsSettled sequential old now may_go clear memories
  points-over old now turns unit so_far over =
      let far = so_far.far.far in
      let size = so_far.size in
      let counts = as-many pools_in_body (all_bodies now) in
      points-all old now turns unit so_far (whole (map pools_in_body (all_bodies now)) so_far.reached (omega (arith, over, far, size, counts)))
