-- One body or one item of many, settled and counted again.
use Rattle.std.proofs.Common.{◌≡◌, ℕ, zero, suc, ◌<◌, List, [], ◌∷◌, length, map, get_or, slice_set, Bool, true, refl, ap, ◌∙◌, subst, arith}
use Rattle.sd_work.specs.Memory.{Memories}
use Rattle.sd_left.specs.declared.left.left.Left.{Left as LeftNow}
use Rattle.sd_left.specs.declared.left.left.Bodies.{Bodies as BodiesNow}
use Rattle.sd_left.specs.declared.left.left.Body.{Body as BodyNow}
use Rattle.sd_left.specs.declared.left.left.Left.TheViews.{out-Bodies, out-Body}
use Rattle.sd_left.specs.left.Changed.{HasBody, HasPart}
use Rattle.sd_left.specs.left.Telling.{Telling, all_right}
use Rattle.sd_left.specs.left.Tells.{tells, bodies_tell, body_tells}
use Rattle.sd_left.proofs.left_lemmas.Sameness.{both-true}
use Rattle.sd_left.proofs.left_lemmas.Readiness.{one-member}
use Rattle.sd_fire.specs.settle.Settled.{IsLeftSettled, IsBodySettled, IsOneSettled, IsPartSettled}
use Rattle.sd_fire.proofs.settle_lemmas.Points.{all_bodies, bodies-were}
use Rattle.sd_fire.proofs.settle_lemmas.Items.{all_parts, body-were}

member-right : {A : Type 0} (tell : A → Telling) (parts : List A) (number : ℕ) (part : A) → number < length parts → part ≡ get_or parts number part → all_right (map tell parts) ≡ true → (tell part).is_right ≡ true
member-right tell [] number part within is right = absurd (omega (arith, within))
member-right tell (first ∷ parts) zero part within is right =
    ap (λ p. (tell p).is_right) is ∙ (both-true (tell first).is_right (all_right (map tell parts)) right).0
member-right tell (first ∷ parts) (suc number) part within is right =
    member-right tell parts number part (omega (arith, within)) is (both-true (tell first).is_right (all_right (map tell parts)) right).1

put-here : {A : Type 0} (parts : List A) (number : ℕ) (part other : A) → number < length parts → get_or (slice_set parts number part) number other ≡ part
put-here [] number part other within = absurd (omega (arith, within))
put-here (first ∷ parts) zero part other within = refl
put-here (first ∷ parts) (suc number) part other within = put-here parts number part other (omega (arith, within))

module _ (may_go : Bool) (clear : ℕ) (memories : Memories) where
  pub one-done : (old mid new : BodiesNow) (number count : ℕ) (before body read : BodyNow) → number < length (all_bodies old) → before ≡ get_or (all_bodies old) number before
      → HasBody old number body mid → (out-Bodies new).bodies ≡ (out-Bodies mid).bodies
      → ((all : BodiesNow) (other : BodyNow) → HasBody all number other mid → (bodies_tell all).is_right ≡ true → (body_tells other).is_right ≡ true → (bodies_tell new).is_right ≡ true)
      → read ≡ get_or (all_bodies new) number read → count ≡ (body_tells read).pools → (bodies_tell old).is_right ≡ true
      → ((body_tells before).is_right ≡ true → IsBodySettled before body may_go clear memories)
      → IsOneSettled old new number count may_go clear memories
  one-done old mid new number count before body read within is has same again is_read pools right settles =
      let done = settles (member-right body_tells (all_bodies old) number before within is (bodies-were old right).parts_are) in
      let put : all_bodies new ≡ slice_set (all_bodies old) number body = ap (λ vec. vec.items) same ∙ has.bodies in
      record {
        body = body;
        there = within;
        put = put;
        settled = λ other is_other. subst (λ (b : BodyNow). IsBodySettled b body may_go clear memories) (one-member (all_bodies old) number before other within is is_other) done;
        pools = pools ∙ ap (λ (b : BodyNow). (body_tells b).pools) (is_read ∙ ap (λ (all : List BodyNow). get_or all number read) put ∙ put-here (all_bodies old) number body read within);
        right = again old body has right done.right;
      }

  pub part-done : (old mid new : BodyNow) (number count : ℕ) (before part read : LeftNow) → number < length (all_parts old) → before ≡ get_or (all_parts old) number before
      → HasPart old number part mid → (out-Body new).at ≡ (out-Body old).at → (out-Body new).order ≡ (out-Body old).order → all_parts new ≡ slice_set (all_parts old) number part
      → ((all : BodyNow) (other : LeftNow) → HasPart all number other mid → (body_tells all).is_right ≡ true → (tells other).is_right ≡ true → (body_tells new).is_right ≡ true)
      → read ≡ get_or (all_parts new) number read → count ≡ (tells read).pools → (body_tells old).is_right ≡ true
      → ((tells before).is_right ≡ true → IsLeftSettled before part may_go clear memories)
      → IsPartSettled old new number count may_go clear memories
  part-done old mid new number count before part read within is has at order put again is_read pools right settles =
      let done = settles (member-right tells (all_parts old) number before within is (body-were old right).parts_are) in
      record {
        part = part;
        there = within;
        put = put;
        at = at;
        order = order;
        settled = λ other is_other. subst (λ (l : LeftNow). IsLeftSettled l part may_go clear memories) (one-member (all_parts old) number before other within is is_other) done;
        pools = pools ∙ ap (λ (l : LeftNow). (tells l).pools) (is_read ∙ ap (λ (all : List LeftNow). get_or all number read) put ∙ put-here (all_parts old) number part read within);
        right = again old part has right done.right;
      }
