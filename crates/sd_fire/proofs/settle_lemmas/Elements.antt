-- The elements of a consume scope, settled so far.
use Rattle.std.proofs.Common.{◌≡◌, ℕ, suc, ◌+◌, ◌≤◌, List, length, take, map, slice_set, Bool, true, refl, sym, ap, ap₂, ◌∙◌, subst, arith, ℤ}
use Rattle.std.specs.List.{sum}
use Rattle.sd_list.specs.tally.Found.{IsFound}
use Rattle.sd_list.specs.declared.tally.nodes.Found.{Found}
use Rattle.sd_work.specs.Memory.{Memory, Memories}
use Rattle.sd_work.specs.Residual.{owning}
use Rattle.sd_work.specs.Settle.{settle, settle_active}
use Rattle.sd_graph.specs.PlainTree.{KindTree}
use Rattle.sd_graph.specs.Context.{Context}
use Rattle.sd_left.specs.tree.Standing.{BodyLeft, body_of, element_inside, value_at, body_left, element_left, active_left}
use Rattle.sd_left.specs.declared.left.left.Bodies.{Bodies as BodiesNow}
use Rattle.sd_left.specs.declared.left.left.Body.{Body as BodyNow}
use Rattle.sd_left.specs.declared.left.left.Left.TheViews.{out-Bodies}
use Rattle.sd_left.specs.left.Kept.{body_kept}
use Rattle.sd_left.specs.left.Waits.{is_body_counted}
use Rattle.sd_left.specs.left.Tells.{bodies_tell}
use Rattle.sd_left.proofs.left_lemmas.Rolls.{bodies_opened}
use Rattle.sd_left.proofs.left_lemmas.WaitRolls.{bodies_counted}
use Rattle.sd_left.proofs.left_lemmas.Readiness.{member-there}
use Rattle.sd_fire.specs.settle.Cleared.{ClearsTo}
use Rattle.sd_fire.specs.settle.Settled.{AreElementsSettled, IsBodySettled, IsOneSettled}
use Rattle.sd_fire.proofs.settle_lemmas.Sums.{found-behind, none-behind, whole}
use Rattle.sd_fire.proofs.settle_lemmas.Working.{working, working_from, working-all, active-over, active-rest, one-active}
use Rattle.sd_fire.proofs.settle_lemmas.Held.{as-many, same-size, IsFar, far-begin, far-next, far-end}
use Rattle.sd_fire.proofs.settle_lemmas.Trees.{pools_in_body, bodies-calm, element_place, element_value, elements-laid, elements-counted}
use Rattle.sd_fire.proofs.settle_lemmas.Points.{all_bodies, bodies-were, bodies-open}

-- one element
pub element-settled : (old new : BodyNow) (may_go : Bool) (clear : ℕ) (memories : Memories) (cleared : List Bool) (kind : KindTree) (context : Context)
    → IsBodySettled old new may_go clear memories → ClearsTo cleared clear
    → element_left (body_kept new) kind context ≡ settle may_go cleared memories (element_left (body_kept old) kind context)
element-settled old new may_go clear memories cleared kind context is clears =
    ap₂ (λ (own : Memory) (at : List ℤ). owning own (body_left (body_kept new) (body_of kind) (element_inside kind context (value_at at)))) is.own is.at
    ∙ ap (owning (body_kept old).own) (is.settled cleared clears (body_of kind) (element_inside kind context (value_at (body_kept old).at)))

module _ (may_go : Bool) (clear : ℕ) (memories : Memories) where
  -- the elements that are settled after some turns, and those behind them as they were
  pub record ElementsSoFar (old now : BodiesNow) (turns unit : ℕ) : Type 0 where
    pub reached : ℕ
    pub far : IsFar is_body_counted pools_in_body memories (all_bodies now) turns unit reached
    pub settled : (cleared : List Bool) → ClearsTo cleared clear → (kind : KindTree) (context : Context)
        → settle_active may_go cleared memories (working (element_value kind context) (element_place kind context) (all_bodies old)) ≡ working_from (element_value kind context) (element_place kind context) may_go cleared memories reached (all_bodies now)
    pub size : length (all_bodies now) ≡ length (all_bodies old)
    pub right : (bodies_tell now).is_right ≡ true

  pub elements-begin : (old : BodiesNow) → (bodies_tell old).is_right ≡ true → ElementsSoFar old old 0 0
  elements-begin old right = record {
    reached = 0;
    far = far-begin is_body_counted pools_in_body memories (all_bodies old);
    settled = λ cleared clears kind context. sym (working-all (element_value kind context) (element_place kind context) may_go cleared memories (all_bodies old));
    size = refl;
    right = right;
  }

  elements-next : (old now new : BodiesNow) (turns unit pools : ℕ) (found : Found) → ElementsSoFar old now turns unit → IsFound (out-Bodies now).«open» unit found
      → IsOneSettled now new found.number pools may_go clear memories → ElementsSoFar old new (suc turns) (unit + pools)
  elements-next old now new turns unit pools found so_far is_found one =
      let bodies = all_bodies now in
      let number = found.number in
      let were_right = bodies-were now so_far.right in
      let found_at : IsFound (map pools_in_body bodies) unit found = subst (λ (counts : List ℕ). IsFound counts unit found) (bodies-open now so_far.right) is_found in
      let member = member-there bodies number one.there in
      let here = one.settled member.0 member.1 in
      let next = far-next is_body_counted pools_in_body memories bodies turns unit so_far.reached number found.rest one.body (bodies-calm memories bodies were_right.parts_are) so_far.far found_at.before found_at.inside here.counted in
      let behind = found-behind (map pools_in_body bodies) so_far.reached number found.rest (found_at.before ∙ so_far.far.units) found_at.inside in
      record {
        reached = suc number;
        far = subst (λ (after : List BodyNow). IsFar is_body_counted pools_in_body memories after (suc turns) (unit + pools) (suc number)) (sym one.put)
            (subst (λ (p : ℕ). IsFar is_body_counted pools_in_body memories (slice_set bodies number one.body) (suc turns) (unit + p) (suc number)) (sym one.pools) next);
        settled = λ cleared clears kind context.
            let value = element_value kind context in
            let place = element_place kind context in
            so_far.settled cleared clears kind context
            ∙ active-over value place may_go cleared memories pools_in_body so_far.reached number bodies (elements-counted kind context bodies were_right.parts_are) behind.0 behind.1
            ∙ one-active value place may_go cleared memories number bodies member.0 one.body one.there member.1 (ap value_at here.at)
            (element-settled member.0 one.body may_go clear memories cleared kind context here clears)
            ∙ ap (working_from value place may_go cleared memories (suc number)) (sym one.put);
        size = ap (length {A = BodyNow}) one.put ∙ same-size bodies number one.body ∙ so_far.size;
        right = one.right;
      }

  pub elements-turn : (old now new : BodiesNow) (turns turns_now unit unit_now pools : ℕ) (found : Found) (inside : Memories) → turns_now ≡ suc turns → unit_now ≡ unit + pools → inside ≡ memories
      → ElementsSoFar old now turns unit → IsFound (out-Bodies now).«open» unit found → IsOneSettled now new found.number pools may_go clear inside → ElementsSoFar old new turns_now unit_now
  elements-turn old now new turns turns_now unit unit_now pools found inside turn more same so_far is_found one =
      subst (λ (t : ℕ). ElementsSoFar old new t unit_now) (sym turn)
      (subst (λ (u : ℕ). ElementsSoFar old new (suc turns) u) (sym more)
      (elements-next old now new turns unit pools found so_far is_found (subst (λ (m : Memories). IsOneSettled now new found.number pools may_go clear m) same one)))

  elements-all : (old now : BodiesNow) (turns unit : ℕ) (so_far : ElementsSoFar old now turns unit) → sum (take so_far.reached (map pools_in_body (all_bodies now))) ≡ sum (map pools_in_body (all_bodies now))
      → AreElementsSettled old now may_go clear memories
  elements-all old now turns unit so_far all =
      let bodies = all_bodies now in
      let were_right = bodies-were now so_far.right in
      record {
        settled = λ cleared clears kind context.
            ap (λ (b : List BodyLeft). active_left b kind context) (bodies_opened now)
            ∙ elements-laid kind context bodies
            ∙ sym (active-rest (element_value kind context) (element_place kind context) may_go cleared memories pools_in_body so_far.reached bodies (elements-counted kind context bodies were_right.parts_are) all)
            ∙ sym (so_far.settled cleared clears kind context)
            ∙ ap (settle_active may_go cleared memories) (sym (ap (λ (b : List BodyLeft). active_left b kind context) (bodies_opened old) ∙ elements-laid kind context (all_bodies old)));
        counted = bodies_counted memories now ∙ far-end is_body_counted pools_in_body memories bodies turns unit so_far.reached (bodies-calm memories bodies were_right.parts_are) so_far.far all;
        right = so_far.right;
      }

  pub elements-none : (old now : BodiesNow) (turns unit : ℕ) → ElementsSoFar old now turns unit → sum (out-Bodies now).«open» ≤ unit → AreElementsSettled old now may_go clear memories
  elements-none old now turns unit so_far most =
      let counts = map pools_in_body (all_bodies now) in
      let units_of : sum (out-Bodies now).«open» ≡ sum counts = ap sum (bodies-open now so_far.right) in
      let units = so_far.far.units in
      elements-all old now turns unit so_far (none-behind counts so_far.reached (omega (arith, most, units_of, units)))

  pub elements-over : (old now : BodiesNow) (turns unit : ℕ) → ElementsSoFar old now turns unit → length (all_bodies old) ≤ turns → AreElementsSettled old now may_go clear memories
  elements-over old now turns unit so_far over =
      let far = so_far.far.far in
      let size = so_far.size in
      let counts = as-many pools_in_body (all_bodies now) in
      elements-all old now turns unit so_far (whole (map pools_in_body (all_bodies now)) so_far.reached (omega (arith, over, far, size, counts)))
