-- What is touched inside an owner, and what of it is touched outside.
use Rattle.std.proofs.Common.{◌≡◌, inl, inr, suc, ℕ, ℤ, List, Bool, true, false, not, Option, Some, None, option_map, if◌then◌else◌, refl, ap, sym, ◌∙◌, subst, arith}
use Rattle.std.proofs.lemmas.Bool.{cases_Bool}
use Rattle.sd_work.specs.Memory.{Reference}
use Rattle.sd_work.specs.Touch.{Touch, reads, writes, pushes, takes, inner, inner_reference}
use Rattle.sd_subset.specs.boxes.Box.{Parameter, replaced}
use Rattle.sd_subset.specs.boxes.InForce.{AreFresh, IsNormalBox, at_point, IsPoint}
use Rattle.sd_subset.proofs.boxes_lemmas.Disjoint.{in-outer_box}
use Rattle.sd_graph.specs.ContainerParts.{Containers}
use Rattle.sd_graph.specs.Context.{Reach, reference_at, own_reach, raised}
use Rattle.sd_graph.specs.Wiring.{has_number}
use Rattle.sd_prop.specs.propagation.Accesses.{Access, access_replaced, outside_accesses}
use Rattle.sd_race.specs.cover.Touched.{IsAt, IsStream, IsTouchOf, IsCovered}
use Rattle.sd_race.proofs.cover_lemmas.Among.{among-filter}

pub same_some : (a b : Reference) → Some a ≡ Some b → a ≡ b
same_some a b is = cc

-- an element of a reached container
abbrev pub reference_of : Reach → Option ℕ → Option Reference
reference_of reach found = option_map (λ element. record { level = reach.level; container = reach.container; element = element }) found

-- what a reference says of its reach
pub reference-parts : (reach : Reach) (found : Option ℕ) (element : Reference) → reference_of reach found ≡ Some element → (reach.level ≡ element.level) × (reach.container ≡ element.container) × (found ≡ Some element.element)
reference-parts reach None element is = cc
reference-parts reach (Some number) element is =
    let same : record { level = reach.level; container = reach.container; element = number } ≡ element = same_some (record { level = reach.level; container = reach.container; element = number }) element is in
    (ap (λ (r : Reference). r.level) same, ap (λ (r : Reference). r.container) same, ap (λ (r : Reference). Some r.element) same)

-- an element outside of an owner, from what is found inside
reference-raised : (reach : Reach) (found : Option ℕ) (from : Reference) → reference_of (raised reach) found ≡ Some (inner_reference from) → reference_of reach found ≡ Some from
reference-raised reach None from is = cc
reference-raised reach (Some element) from is =
    let same : record { level = suc reach.level; container = reach.container; element = element } ≡ inner_reference from = same_some (record { level = suc reach.level; container = reach.container; element = element }) (inner_reference from) is in
    let above : suc reach.level ≡ suc from.level = ap (λ (r : Reference). r.level) same in
    let level : reach.level ≡ from.level = omega (arith, above) in
    let container : reach.container ≡ from.container = ap (λ (r : Reference). r.container) same in
    let number : element ≡ from.element = ap (λ (r : Reference). r.element) same in
    λ i. Some (record { level = level i; container = container i; element = number i })

-- an element of the innermost memory is none outside
reference-own : (reach : Reach) (found : Option ℕ) (from : Reference) → reach.level ≡ 0 → reference_of reach found ≡ Some (inner_reference from) → ⊥
reference-own reach None from own is = cc
reference-own reach (Some element) from own is =
    let level : reach.level ≡ suc from.level = ap (λ (r : Reference). r.level) (same_some (record { level = reach.level; container = reach.container; element = element }) (inner_reference from) is) in
    absurd (omega (arith, level, own))

at-raised : (values : List ℤ) (inside_reach reach : ℕ → Reach) (access : Access) (from : Reference) → inside_reach access.container ≡ raised (reach access.container) →
    IsAt values inside_reach access (inner_reference from) → IsAt values reach access from
at-raised values inside_reach reach access from is at = record {
  index = at.index;
  is = reference-raised (reach access.container) ((reach access.container).find at.index) from (subst (λ r. reference_at r at.index ≡ Some (inner_reference from)) is at.is);
  inside = at.inside;
}

at-own : (values : List ℤ) (inside_reach : ℕ → Reach) (access : Access) (from : Reference) → (inside_reach access.container).level ≡ 0 → IsAt values inside_reach access (inner_reference from) → ⊥
at-own values inside_reach access from own at = reference-own (inside_reach access.container) ((inside_reach access.container).find at.index) from own at.is

stream-raised : (inside_reach reach : Reach) (level container : ℕ) → inside_reach ≡ raised reach → IsStream inside_reach (suc level) container → IsStream reach level container
stream-raised inside_reach reach level container is at =
    let same : inside_reach.level ≡ suc reach.level = ap (λ (r : Reach). r.level) is in record {
      level_is = omega (arith, same, at.level_is);
      container_is = sym (ap (λ (r : Reach). r.container) is) ∙ at.container_is;
    }

stream-own : (inside_reach : Reach) (level container : ℕ) → inside_reach.level ≡ 0 → IsStream inside_reach (suc level) container → ⊥
stream-own inside_reach level container own at = omega (arith, own, at.level_is)

-- what is touched of a container outside of an owner
pub touch-raised : (values : List ℤ) (inside_reach reach : ℕ → Reach) (access : Access) (touch : Touch) → inside_reach access.container ≡ raised (reach access.container) →
    IsTouchOf values inside_reach access (inner touch) → IsTouchOf values reach access touch
touch-raised values inside_reach reach access (reads from) is (allows, at) = (allows, at-raised values inside_reach reach access from is at)
touch-raised values inside_reach reach access (writes to by) is (allows, at) = (allows, at-raised values inside_reach reach access to is at)
touch-raised values inside_reach reach access (pushes level container) is (mode, at) = (mode, stream-raised (inside_reach access.container) (reach access.container) level container is at)
touch-raised values inside_reach reach access (takes level container) is (mode, box, at) = (mode, box, stream-raised (inside_reach access.container) (reach access.container) level container is at)

-- nothing of an owner's own containers is touched outside
pub touch-own : (values : List ℤ) (inside_reach : ℕ → Reach) (access : Access) (touch : Touch) → (inside_reach access.container).level ≡ 0 → IsTouchOf values inside_reach access (inner touch) → ⊥
touch-own values inside_reach access (reads from) own (allows, at) = at-own values inside_reach access from own at
touch-own values inside_reach access (writes to by) own (allows, at) = at-own values inside_reach access to own at
touch-own values inside_reach access (pushes level container) own (mode, at) = stream-own (inside_reach access.container) level container own at
touch-own values inside_reach access (takes level container) own (mode, box, at) = stream-own (inside_reach access.container) level container own at

pub choice-true : {A : Type 0} (test : Bool) (a b : A) → test ≡ true → (if test then a else b) ≡ a
choice-true test a b is = rw is refl

pub choice-false : {A : Type 0} (test : Bool) (a b : A) → test ≡ false → (if test then a else b) ≡ b
choice-false test a b is = rw is refl

-- how a container is reached inside an owner of these ones
abbrev pub inside_owner : (own : List ℕ) → Containers → (ℕ → Reach) → ℕ → Reach
inside_owner own containers outer number = if has_number own number then own_reach containers number else raised (outer number)

-- what is covered inside an owner is covered outside by the accesses of other containers than its own
pub covered-outside : (own : List ℕ) (containers : Containers) (values : List ℤ) (reach : ℕ → Reach) (accesses : List Access) (touch : Touch) →
    IsCovered values (inside_owner own containers reach) accesses (inner touch) → IsCovered values reach (outside_accesses own accesses) touch
covered-outside own containers values reach accesses touch (access, member, is) =
    let number = access.container in
    elim (cases_Bool (has_number own number)) [
      | inl held ↦
          (let same : inside_owner own containers reach number ≡ own_reach containers number = choice-true (has_number own number) _ _ held in
          absurd (touch-own values (inside_owner own containers reach) access touch (ap (λ (r : Reach). r.level) same) is))
      | inr free ↦
          (let same : inside_owner own containers reach number ≡ raised (reach number) = choice-false (has_number own number) _ _ free in
          (access, among-filter (λ (other : Access). not (has_number own other.container)) accesses access member (ap not free), touch-raised values (inside_owner own containers reach) reach access touch same is))
    ]

-- what an access covers at a point of a map it covers, with the map's parameters replaced, outside of the map
pub touch-outer : (around own : List Parameter) (values point : List ℤ) (reach : ℕ → Reach) (access : Access) (touch : Touch) → AreFresh around own → IsNormalBox access.box → IsPoint own values point →
    IsTouchOf (at_point own point values) reach access touch → IsTouchOf values reach (access_replaced own access) touch
touch-outer around own values point reach access (reads from) fresh normal member (allows, at) =
    (allows, record { index = at.index; is = at.is; inside = in-outer_box around own access.box values point at.index fresh normal member at.inside })
touch-outer around own values point reach access (writes to by) fresh normal member (allows, at) =
    (allows, record { index = at.index; is = at.is; inside = in-outer_box around own access.box values point at.index fresh normal member at.inside })
touch-outer around own values point reach access (pushes level container) fresh normal member (mode, at) = (mode, at)
touch-outer around own values point reach access (takes level container) fresh normal member (mode, box, at) = (mode, ap (replaced own) box, at)
