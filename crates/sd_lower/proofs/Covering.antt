-- The hull of an item's container has what the boxes of its accesses have inside the container.
use Rattle.std.specs.List.{AllByRecursion, Contains, filter, fold}
use Rattle.std.proofs.Common.{◌≡◌, inl, inr, ℕ, nat_eq, ℤ, List, [], ◌∷◌, map, Bool, true, false, refl, ap, sym, ◌∙◌, subst}
use Rattle.std.proofs.lemmas.Bool.{cases_Bool, eq-eqb, ne_eqb}
use Rattle.std.proofs.lemmas.List.Elements.{Contains-append_left, Contains-append_right}
use Rattle.sd_range.specs.Subset.{inside}
use Rattle.sd_range.proofs.Normal.{by_same}
use Rattle.sd_range.proofs.Members.{Contains-nil, Contains-first, Contains-later, Contains-cases, Contains-map}
use Rattle.sd_range.proofs.SubsetLaws.{inside-each}
use Rattle.sd_subset.specs.boxes.Box.{IsInBox}
use Rattle.sd_subset.specs.boxes.InForce.{IsNormalBox}
use Rattle.sd_subset.proofs.boxes_lemmas.Hulls.{in-hull}
use Rattle.sd_graph.specs.ContainerParts.{Containers, container_at, extents_of}
use Rattle.sd_graph.specs.PlainTree.{KindTree}
use Rattle.sd_graph.specs.Wiring.{has_number}
use Rattle.sd_prop.specs.propagation.Accesses.{Access, kind_accesses}
use Rattle.sd_lower.specs.Kinds.{with_container, containers_in}
use Rattle.sd_lower.specs.Hulls.{boxes_of, hull_of, hulls_of, item_hulls}
use Rattle.sd_lower.specs.declared.hulls.Hull.{Hull}
use Rattle.sd_lower.proofs.AnyNodes.{kind-bare}
use Rattle.sd_lower.proofs.Alone.{hulls-same}

nat_eq-same : (a b : ℕ) → nat_eq a b ≡ true → a ≡ b
nat_eq-same a b is = by_same a b (λ same. same) (λ other. (let wrong : false ≡ true = sym (ne_eqb a b other) ∙ is in cc))

among-filter : {A : Type 0} (test : A → Bool) (all : List A) (a : A) → Contains all a → test a ≡ true → Contains (filter test all) a
among-filter test [] a member passes = absurd (Contains-nil a member)
among-filter test (first ∷ all) a member passes = elim (Contains-cases first all a member) [
  | inl is ↦ rw (ap test is ∙ passes) (subst (Contains (first ∷ filter test all)) is (Contains-first first (filter test all)))
  | inr later ↦ elim (cases_Bool (test first)) [
    | inl passed ↦ rw passed (Contains-later first (filter test all) a (among-filter test all a later passes))
    | inr failed ↦ rw failed (among-filter test all a later passes)
  ]
]

-- ---- containers in the order of first access

has-member : (known : List ℕ) (number : ℕ) → has_number known number ≡ true → Contains known number
has-member [] number is = cc
has-member (one ∷ known) number is = elim (cases_Bool (nat_eq number one)) [
  | inl same ↦ subst (Contains (one ∷ known)) (sym (nat_eq-same number one same)) (Contains-first one known)
  | inr other ↦
      (let rest : has_number known number ≡ true = sym (rw other refl) ∙ is in
      Contains-later one known number (has-member known number rest))
]

with-older : (known : List ℕ) (next : Access) (number : ℕ) → Contains known number → Contains (with_container known next) number
with-older known next number member = elim (cases_Bool (has_number known next.container)) [
  | inl there ↦ rw there member
  | inr new ↦ rw new (Contains-append_left known (next.container ∷ []) number member)
]

with-new : (known : List ℕ) (access : Access) → Contains (with_container known access) access.container
with-new known access = elim (cases_Bool (has_number known access.container)) [
  | inl there ↦ rw there (has-member known access.container there)
  | inr new ↦ rw new (Contains-append_right known (access.container ∷ []) access.container (Contains-first access.container []))
]

known-older : (known : List ℕ) (accesses : List Access) (number : ℕ) → Contains known number → Contains (fold with_container known accesses) number
known-older known [] number member = member
known-older known (next ∷ accesses) number member = known-older (with_container known next) accesses number (with-older known next number member)

known-each : (known : List ℕ) (accesses : List Access) (access : Access) → Contains accesses access → Contains (fold with_container known accesses) access.container
known-each known [] access member = absurd (Contains-nil access member)
known-each known (next ∷ accesses) access member = elim (Contains-cases next accesses access member) [
  | inl is ↦ known-older (with_container known next) accesses access.container (subst (λ (a : Access). Contains (with_container known next) a.container) is (with-new known next))
  | inr later ↦ known-each (with_container known next) accesses access later
]

-- ---- boxes

normal-boxes : (test : Access → Bool) (accesses : List Access) → AllByRecursion (λ (a : Access). IsNormalBox a.box) accesses →
    AllByRecursion IsNormalBox (map (λ (a : Access). a.box) (filter test accesses))
normal-boxes test [] each = tt
normal-boxes test (access ∷ accesses) each = elim (cases_Bool (test access)) [
  | inl passed ↦ rw passed (each.0, normal-boxes test accesses each.1)
  | inr failed ↦ rw failed (normal-boxes test accesses each.1)
]

box-among : (accesses : List Access) (access : Access) → Contains accesses access → Contains (boxes_of accesses access.container) access.box
box-among accesses access member =
    Contains-map (λ (a : Access). a.box) (filter (λ (a : Access). nat_eq a.container access.container) accesses) access
    (among-filter (λ (a : Access). nat_eq a.container access.container) accesses access member (eq-eqb access.container access.container refl))

abbrev HasHull : Containers → (hulls : List Hull) → (values index : List ℤ) → Access → Type 0
HasHull containers hulls values index access = (one : Hull) × Contains hulls one × (one.container ≡ access.container) × IsInBox values one.bounds index

has-hull : (containers : Containers) (accesses : List Access) (access : Access) (values index : List ℤ) → AllByRecursion (λ (a : Access). IsNormalBox a.box) accesses → Contains accesses access →
    IsInBox values access.box index → inside (extents_of (container_at containers access.container)) index ≡ true → HasHull containers (hulls_of containers accesses) values index access
has-hull containers accesses access values index normal member is within = (
  hull_of containers accesses access.container,
  Contains-map (hull_of containers accesses) (containers_in accesses) access.container (known-each [] accesses access member),
  refl,
  in-hull (extents_of (container_at containers access.container)) access.box (boxes_of accesses access.container) values index
      (normal-boxes (λ (a : Access). nat_eq a.container access.container) accesses normal) (box-among accesses access member) is (inside-each (extents_of (container_at containers access.container)) index within),
)

pub item-has-hull : (containers : Containers) (kind : KindTree) (nodes : List ℕ) (access : Access) (values index : List ℤ) → AllByRecursion (λ (a : Access). IsNormalBox a.box) (kind_accesses kind containers nodes) →
    Contains (kind_accesses kind containers nodes) access → IsInBox values access.box index → inside (extents_of (container_at containers access.container)) index ≡ true →
    (one : Hull) × Contains (item_hulls containers kind) one × (one.container ≡ access.container) × IsInBox values one.bounds index
item-has-hull containers kind nodes access values index normal member is within =
    subst (λ (hulls : List Hull). HasHull containers hulls values index access)
    (hulls-same containers (kind_accesses kind containers nodes) (kind_accesses kind containers []) (kind-bare kind containers nodes []))
    (has-hull containers (kind_accesses kind containers nodes) access values index normal member is within)
