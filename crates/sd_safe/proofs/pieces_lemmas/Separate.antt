-- What accesses keep or drain is left alone by touches of separate accesses.
use Rattle.std.specs.List.{Contains}
use Rattle.std.proofs.Common.{◌≡◌, ◌≢◌, ◌⊎◌, inl, inr, ℕ, ℤ, List, [], true, not, Option, Some, refl, ap, sym, ◌∙◌, subst}
use Rattle.std.proofs.lemmas.Bool.{ne_eqb}
use Rattle.sd_num.specs.declared.resolution.Resolution.{Resolution}
use Rattle.sd_range.proofs.Normal.{by_same}
use Rattle.sd_work.specs.Touch.{Touch, writes, pushes, takes}
use Rattle.sd_pieces.specs.cut.Merged.{outermost}
use Rattle.sd_subset.specs.boxes.Box.{IsInBox}
use Rattle.sd_graph.specs.ContainerParts.{Containers, container_at}
use Rattle.sd_graph.specs.Context.{Reach, found, own_reach}
use Rattle.sd_graph.specs.Mode.{Mode, Read, Write, Resolve, Push, Take, resolution_number, do_conflict}
use Rattle.sd_prop.specs.propagation.Accesses.{Access}
use Rattle.sd_race.specs.cover.Touched.{AllowsWrite, IsAt, IsTouchOf}
use Rattle.sd_race.proofs.cover_lemmas.Joined.{same_resolution}
use Rattle.sd_race.proofs.cover_lemmas.Owners.{reference-parts}
use Rattle.sd_safe.specs.pieces.Keeping.{IsInAccess, KeepsElement}
use Rattle.sd_safe.proofs.safe_lemmas.Compatible.{AreSeparate, read-write, conflict-is}
use Rattle.sd_safe.proofs.safe_lemmas.Distinct.{write-second}
use Rattle.sd_safe.proofs.safe_lemmas.Rows.{finds_once-own}

-- a touch is covered by an access that is separate from each of these
pub record IsApart (values : List ℤ) (reach : ℕ → Reach) (accesses : List Access) (touch : Touch) : Type 0 where
  pub access : Access
  pub there : List ℤ
  pub covers : IsTouchOf there reach access touch
  pub separate : (other : Access) → Contains accesses other → AreSeparate values there other access

-- of two different modes one conflicts with each mode that writes elements
one-conflicts : (first second mode : Mode) (by : Option Resolution) → AllowsWrite mode by → first ≢ second → (do_conflict first mode ≡ true) ⊎ (do_conflict second mode ≡ true)
one-conflicts first second Read by allows different = absurd allows
one-conflicts first second Write by allows different = inl (write-second first)
one-conflicts Read second (Resolve r) by allows different = inl refl
one-conflicts Write second (Resolve r) by allows different = inl refl
one-conflicts Push second (Resolve r) by allows different = inl refl
one-conflicts Take second (Resolve r) by allows different = inl refl
one-conflicts (Resolve p) Read (Resolve r) by allows different = inr refl
one-conflicts (Resolve p) Write (Resolve r) by allows different = inr refl
one-conflicts (Resolve p) Push (Resolve r) by allows different = inr refl
one-conflicts (Resolve p) Take (Resolve r) by allows different = inr refl
one-conflicts (Resolve p) (Resolve q) (Resolve r) by allows different =
    by_same (resolution_number p) (resolution_number r)
    (λ same. inr (ap not (ne_eqb (resolution_number q) (resolution_number r) (λ both. different (ap Resolve (same_resolution p q (same ∙ sym both)))))))
    (λ other. inl (ap not (ne_eqb (resolution_number p) (resolution_number r) other)))
one-conflicts first second Push by allows different = absurd allows
one-conflicts first second Take by allows different = absurd allows

-- where an access writes an element of the graph's memory
record Written (containers : Containers) (there : List ℤ) (access : Access) (container element : ℕ) : Type 0 where
  pub same : access.container ≡ container
  pub index : List ℤ
  pub inside : IsInBox there access.box index
  pub is : found (container_at containers container) index ≡ Some element

own_container : (containers : Containers) (reach : ℕ → Reach) (number : ℕ) → reach number ≡ own_reach containers number → (reach number).container ≡ number
own_container containers reach number here = ap (λ (r : Reach). r.container) here

written : (containers : Containers) (reach : ℕ → Reach) (there : List ℤ) (access : Access) (container element : ℕ) → ((number : ℕ) → reach number ≡ own_reach containers number) → IsAt there reach access (outermost container element) → Written containers there access container element
written containers reach there access container element here at =
    let (level, place, is) = reference-parts (reach access.container) ((reach access.container).find at.index) (outermost container element) at.is in
    let same : access.container ≡ container = sym (own_container containers reach access.container (here access.container)) ∙ place in
    record {
      same = same;
      index = at.index;
      inside = at.inside;
      is = ap (λ c. found (container_at containers c) at.index) (sym same) ∙ sym (ap (λ (r : Reach). r.find at.index) (here access.container)) ∙ is;
    }

-- two accesses that have one element in their boxes do not conflict, where they are separate
never-both : (containers : Containers) (values there : List ℤ) (access other : Access) (container element : ℕ) → AreSeparate values there access other → IsInAccess containers values access container element →
    Written containers there other container element → do_conflict access.mode other.mode ≡ true → ⊥
never-both containers values there access other container element separate has at conflict =
    let index : has.index ≡ at.index = finds_once-own containers container has.index at.index element has.is at.is in
    separate.elements at.index (has.same ∙ sym at.same) conflict (subst (IsInBox values access.box) index has.inside) at.inside

-- a kept element is not written
pub kept-unwritten : (containers : Containers) (values : List ℤ) (reach : ℕ → Reach) (accesses : List Access) (container element : ℕ) (by : Option Resolution) → ((number : ℕ) → reach number ≡ own_reach containers number) →
    KeepsElement containers values accesses container element → IsApart values reach accesses (writes (outermost container element) by) → ⊥
kept-unwritten containers values reach accesses container element by here kept away =
    let at = written containers reach away.there away.access container element here away.covers.1 in
    let first = never-both containers values away.there kept.first away.access container element (away.separate kept.first kept.is_first) kept.first_has at in
    let second = never-both containers values away.there kept.second away.access container element (away.separate kept.second kept.is_second) kept.second_has at in
    elim kept.keeps [
      | inl reads ↦ first (read-write kept.first.mode away.access.mode by reads away.covers.0)
      | inr different ↦ elim (one-conflicts kept.first.mode kept.second.mode away.access.mode by away.covers.0 different) [ inl conflict ↦ first conflict | inr conflict ↦ second conflict ]
    ]

-- a drained stream is not pushed into
pub drained-unpushed : (containers : Containers) (values : List ℤ) (reach : ℕ → Reach) (accesses : List Access) (access : Access) (container : ℕ) → ((number : ℕ) → reach number ≡ own_reach containers number) →
    Contains accesses access → access.container ≡ container → access.mode ≡ Take → access.box ≡ [] → IsApart values reach accesses (pushes 0 container) → ⊥
drained-unpushed containers values reach accesses access container here member same mode box away =
    (away.separate access member).streams (same ∙ sym (sym (own_container containers reach away.access.container (here away.access.container)) ∙ away.covers.1.container_is))
    (conflict-is access.mode away.access.mode Take Push mode away.covers.0 refl) (inl box)

-- nor taken from
pub drained-untaken : (containers : Containers) (values : List ℤ) (reach : ℕ → Reach) (accesses : List Access) (access : Access) (container : ℕ) → ((number : ℕ) → reach number ≡ own_reach containers number) →
    Contains accesses access → access.container ≡ container → access.mode ≡ Take → IsApart values reach accesses (takes 0 container) → ⊥
drained-untaken containers values reach accesses access container here member same mode away =
    (away.separate access member).streams (same ∙ sym (sym (own_container containers reach away.access.container (here away.access.container)) ∙ away.covers.2.container_is))
    (conflict-is access.mode away.access.mode Take Take mode away.covers.0 refl) (inr away.covers.1)
