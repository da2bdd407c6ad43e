-- Joined accesses cover what the accesses cover.
use Rattle.std.specs.List.{AllByRecursion, AllZip, Contains, filter, fold, list_any}
use Rattle.std.proofs.Common.{◌≡◌, inl, inr, ℕ, nat_eq, ℤ, List, [], ◌∷◌, map, Bool, true, false, ◌&&◌, Some, refl, ap, sym, ◌∙◌, subst}
use Rattle.std.proofs.lemmas.Bool.{cases_Bool, eq-eqb, ne_eqb}
use Rattle.std.proofs.lemmas.List.Elements.{Contains-append_left, Contains-append_right}
use Rattle.sd_range.proofs.Normal.{by_same}
use Rattle.sd_range.proofs.Members.{Contains-nil, Contains-first, Contains-later, Contains-cases, Contains-map}
use Rattle.sd_range.proofs.SubsetLaws.{IsWithin, inside-each}
use Rattle.sd_work.specs.Memory.{Reference}
use Rattle.sd_work.specs.Touch.{Touch, reads, writes, pushes, takes}
use Rattle.sd_subset.specs.boxes.InForce.{IsNormalBox}
use Rattle.sd_subset.specs.boxes.Hull.{hull}
use Rattle.sd_subset.proofs.boxes_lemmas.Disjoint.{of_member}
use Rattle.sd_subset.proofs.boxes_lemmas.Hulls.{in-hull}
use Rattle.sd_graph.specs.ContainerParts.{Containers, container_at, extents_of}
use Rattle.sd_graph.specs.Mode.{Mode, Read, Write, Resolve, Push, Take, resolution_number}
use Rattle.sd_graph.specs.Context.{Reach, reference_at}
use Rattle.sd_prop.specs.propagation.Accesses.{Access}
use Rattle.sd_race.specs.cover.Touched.{AllowsRead, AllowsWrite, IsAt, IsStream, IsTouchOf, IsCovered}
use Rattle.sd_prop.specs.propagation.Joined.{is_same_mode, is_like, with_access, first_accesses, boxes_like, joined_access, joined_accesses}
use Rattle.sd_race.specs.cover.Inside.{FindInside, AreTakesOfStreams}
use Rattle.sd_race.proofs.cover_lemmas.UsesOf.{AreNormal}
use Rattle.sd_race.proofs.cover_lemmas.Joined.{same_resolution}
use Rattle.sd_race.proofs.cover_lemmas.Owners.{reference-parts}
use Rattle.sd_race.proofs.cover_lemmas.Among.{among-filter}

nat_eq-same : (a b : ℕ) → nat_eq a b ≡ true → a ≡ b
nat_eq-same a b is = by_same a b (λ same. same) (λ other. (let wrong : false ≡ true = sym (ne_eqb a b other) ∙ is in cc))

mode-same : (mode other : Mode) → is_same_mode mode other ≡ true → mode ≡ other
mode-same Read Read is = refl
mode-same Read Write is = cc
mode-same Read (Resolve b) is = cc
mode-same Read Push is = cc
mode-same Read Take is = cc
mode-same Write Read is = cc
mode-same Write Write is = refl
mode-same Write (Resolve b) is = cc
mode-same Write Push is = cc
mode-same Write Take is = cc
mode-same (Resolve a) Read is = cc
mode-same (Resolve a) Write is = cc
mode-same (Resolve a) (Resolve b) is = ap Resolve (same_resolution a b (nat_eq-same (resolution_number a) (resolution_number b) is))
mode-same (Resolve a) Push is = cc
mode-same (Resolve a) Take is = cc
mode-same Push Read is = cc
mode-same Push Write is = cc
mode-same Push (Resolve b) is = cc
mode-same Push Push is = refl
mode-same Push Take is = cc
mode-same Take Read is = cc
mode-same Take Write is = cc
mode-same Take (Resolve b) is = cc
mode-same Take Push is = cc
mode-same Take Take is = refl

two_tests : (a b : Bool) → (a && b) ≡ true → (a ≡ true) × (b ≡ true)
two_tests true b is = (refl, is)
two_tests false b is = cc

-- two accesses that are like each other are of one container and mode
like-same : (access other : Access) → is_like access other ≡ true → (access.container ≡ other.container) × (access.mode ≡ other.mode)
like-same access other is =
    let tests = two_tests (nat_eq access.container other.container) (is_same_mode access.mode other.mode) is in
    (nat_eq-same access.container other.container tests.0, mode-same access.mode other.mode tests.1)

mode-like : (mode : Mode) → is_same_mode mode mode ≡ true
mode-like Read = refl
mode-like Write = refl
mode-like (Resolve by) = eq-eqb (resolution_number by) (resolution_number by) refl
mode-like Push = refl
mode-like Take = refl

like-itself : (access : Access) → is_like access access ≡ true
like-itself access = rw (eq-eqb access.container access.container refl) (mode-like access.mode)

-- one among accesses is of the container and mode of another
abbrev IsLikeOne : List Access → Access → Type 0
IsLikeOne all access = (first : Access) × Contains all first × (first.container ≡ access.container) × (first.mode ≡ access.mode)

-- a test that some pass has one that passes it
passing-one : (test : Access → Bool) (all : List Access) → list_any test all ≡ true → (one : Access) × Contains all one × (test one ≡ true)
passing-one test [] is = cc
passing-one test (one ∷ all) is = elim (cases_Bool (test one)) [
  | inl passed ↦ (one, Contains-first one all, passed)
  | inr failed ↦
      (let rest : list_any test all ≡ true = sym (rw failed refl) ∙ is in
      let (other, member, passed) = passing-one test all rest in
      (other, Contains-later one all other member, passed))
]

-- one that is like an access stays
with-older : (known : List Access) (next access : Access) → IsLikeOne known access → IsLikeOne (with_access known next) access
with-older known next access (first, member, container, mode) = elim (cases_Bool (list_any (is_like next) known)) [
  | inl there ↦ rw there (first, member, container, mode)
  | inr new ↦ rw new (first, Contains-append_left known (next ∷ []) first member, container, mode)
]

-- and an access has one that is
with-new : (known : List Access) (access : Access) → IsLikeOne (with_access known access) access
with-new known access = elim (cases_Bool (list_any (is_like access) known)) [
  | inl there ↦
      (let (first, member, is) = passing-one (is_like access) known there in
      let same = like-same access first is in rw there (first, member, sym same.0, sym same.1))
  | inr new ↦ rw new (access, Contains-append_right known (access ∷ []) access (Contains-first access []), refl, refl)
]

first-older : (known accesses : List Access) (access : Access) → IsLikeOne known access → IsLikeOne (fold with_access known accesses) access
first-older known [] access is = is
first-older known (next ∷ accesses) access is = first-older (with_access known next) accesses access (with-older known next access is)

first-each : (known accesses : List Access) (access : Access) → Contains accesses access → IsLikeOne (fold with_access known accesses) access
first-each known [] access member = absurd (Contains-nil access member)
first-each known (next ∷ accesses) access member = elim (Contains-cases next accesses access member) [
  | inl is ↦ first-older (with_access known next) accesses access (subst (IsLikeOne (with_access known next)) is (with-new known next))
  | inr later ↦ first-each (with_access known next) accesses access later
]

-- an access's box is one of the boxes of those like the first
box-among : (accesses : List Access) (first access : Access) → Contains accesses access → first.container ≡ access.container → first.mode ≡ access.mode → Contains (boxes_like first accesses) access.box
box-among accesses first access member container mode =
    let like : is_like first access ≡ true = rw (ap (λ n. nat_eq n access.container) container) (rw (eq-eqb access.container access.container refl) (ap (λ m. is_same_mode m access.mode) mode ∙ mode-like access.mode)) in
    Contains-map (λ (other : Access). other.box) (filter (is_like first) accesses) access (among-filter (is_like first) accesses access member like)

normal-boxes : (test : Access → Bool) (accesses : List Access) → AreNormal accesses → AllByRecursion IsNormalBox (map (λ (other : Access). other.box) (filter test accesses))
normal-boxes test [] each = tt
normal-boxes test (access ∷ accesses) each = elim (cases_Bool (test access)) [
  | inl passed ↦ rw passed (each.0, normal-boxes test accesses each.1)
  | inr failed ↦ rw failed (normal-boxes test accesses each.1)
]

at-joined : (containers : Containers) (values : List ℤ) (reach : ℕ → Reach) (accesses : List Access) (access first : Access) (element : Reference) → FindInside containers reach → AreNormal accesses → Contains accesses access →
    first.container ≡ access.container → first.mode ≡ access.mode → IsAt values reach access element → IsAt values reach (joined_access containers accesses first) element
at-joined containers values reach accesses access first element finds normal member container mode at =
    let (_, _, found) = reference-parts (reach access.container) ((reach access.container).find at.index) element at.is in
    let inside' = finds access.container at.index element.element found in record {
      index = at.index;
      is = subst (λ c. reference_at (reach c) at.index ≡ Some element) (sym container) at.is;
      inside = in-hull (extents_of (container_at containers first.container)) access.box (boxes_like first accesses) values at.index (normal-boxes (is_like first) accesses normal)
          (box-among accesses first access member container mode) at.inside
          (subst (λ c. AllZip IsWithin (extents_of (container_at containers c)) at.index) (sym container) (inside-each (extents_of (container_at containers access.container)) at.index inside'));
    }

touch-joined : (containers : Containers) (values : List ℤ) (reach : ℕ → Reach) (accesses : List Access) (access first : Access) (touch : Touch) → FindInside containers reach → AreNormal accesses → Contains accesses access →
    (access.mode ≡ Take → extents_of (container_at containers access.container) ≡ []) → first.container ≡ access.container → first.mode ≡ access.mode →
    IsTouchOf values reach access touch → IsTouchOf values reach (joined_access containers accesses first) touch
touch-joined containers values reach accesses access first (reads from) finds normal member streams container mode (allows, at) =
    (subst AllowsRead (sym mode) allows, at-joined containers values reach accesses access first from finds normal member container mode at)
touch-joined containers values reach accesses access first (writes to by) finds normal member streams container mode (allows, at) =
    (subst (λ m. AllowsWrite m by) (sym mode) allows, at-joined containers values reach accesses access first to finds normal member container mode at)
touch-joined containers values reach accesses access first (pushes level number) finds normal member streams container mode (is, at) =
    (mode ∙ is, subst (λ c. IsStream (reach c) level number) (sym container) at)
touch-joined containers values reach accesses access first (takes level number) finds normal member streams container mode (is, box, at) = (
  mode ∙ is,
  ap (λ extents. hull extents (boxes_like first accesses)) (ap (λ c. extents_of (container_at containers c)) container ∙ streams is),
  subst (λ c. IsStream (reach c) level number) (sym container) at,
)

-- what accesses cover their joined accesses cover
pub covered-joined : (containers : Containers) (values : List ℤ) (reach : ℕ → Reach) (accesses : List Access) (touch : Touch) → FindInside containers reach → AreTakesOfStreams containers accesses → AreNormal accesses → IsCovered values reach accesses touch →
    IsCovered values reach (joined_accesses containers accesses) touch
covered-joined containers values reach accesses touch finds streams normal (access, member, is) =
    let (first, among, container, mode) = first-each [] accesses access member in (
      joined_access containers accesses first,
      Contains-map (joined_access containers accesses) (first_accesses accesses) first among,
      touch-joined containers values reach accesses access first touch finds normal member
          (of_member (λ (a : Access). a.mode ≡ Take → extents_of (container_at containers a.container) ≡ []) accesses access streams member) container mode is,
    )
