-- Where rule 5 holds of a nested graph, none of its parameters is a stream, and none that is written shares its container.
use Rattle.std.specs.List.{Contains}
use Rattle.std.proofs.Common.{◌≡◌, ◌⊎◌, inl, inr, ℕ, zero, suc, ◌+◌, ◌<◌, nat_eq, List, [], ◌∷◌, length, Bool, true, false, not, ◌||◌, Some, slice_get, ap, sym, ◌∙◌, subst, arith}
use Rattle.std.proofs.lemmas.Bool.{eq-eqb}
use Rattle.std.proofs.lemmas.Option.{same_Some}
use Rattle.sd_range.proofs.Normal.{by_order}
use Rattle.sd_subset.proofs.boxes_lemmas.Disjoint.{of_member}
use Rattle.sd_graph.specs.declared.link.Link.{Link}
use Rattle.sd_graph.specs.ContainerParts.{Containers}
use Rattle.sd_graph.specs.InPlace.{ArgumentsComeFirst}
use Rattle.sd_graph.specs.Mode.{Mode, Read, Write, Resolve, Push, Take, do_conflict}
use Rattle.sd_graph.specs.Wiring.{Use, has_number}
use Rattle.sd_validity.specs.rules.Parts.{container_of}
use Rattle.sd_validity.specs.rules.NestedLinks.{is_unshared, are_unshared}
use Rattle.sd_race.specs.cover.Fit.{IsArrayMode, IsAliasFree, AreArrays}
use Rattle.sd_safe.proofs.fit_lemmas.Members.{both, member-found, or-left, or-right}
use Rattle.sd_safe.proofs.fit_lemmas.Sound.{IsSound, AreSound, argument-at, IsReadOr, array-as}

-- a link that is there has a number below how many there are
below-length : (links : List Link) (number : ℕ) (link : Link) → slice_get links number ≡ Some link → number < length links
below-length [] number link at = cc
below-length (first ∷ links) zero link at = omega arith
below-length (first ∷ links) (suc number) link at = let rest = below-length links number link at in omega (arith, rest)

-- a parameter is read or written
parameter-as : (written : List ℕ) (containers : Containers) (links : List Link) (uses : List Use) (use' : Use) (link : Link) → ArgumentsComeFirst (length links) containers → AreSound written containers uses →
    Contains uses use' → slice_get links use'.container ≡ Some link → IsReadOr (Contains written use'.container) use'.mode
parameter-as written containers links uses use' link first each member at =
    array-as written containers use'.container use'.mode
    (argument-at (length links) containers use'.container first (below-length links use'.container link at)) (of_member (IsSound written containers) uses use' each member)

array-mode : (Written : Type 0) (mode : Mode) → IsReadOr Written mode → IsArrayMode mode
array-mode Written Read is = tt
array-mode Written Write is = tt
array-mode Written (Resolve by) is = tt
array-mode Written Push is = absurd is
array-mode Written Take is = absurd is

pub are_arrays : (written : List ℕ) (containers : Containers) (links : List Link) (uses : List Use) → ArgumentsComeFirst (length links) containers → AreSound written containers uses → AreArrays links uses
are_arrays written containers links uses first each use' link member at =
    array-mode (Contains written use'.container) use'.mode (parameter-as written containers links uses use' link first each member at)

-- of two modes that conflict one writes
conflict-written : (Written Other : Type 0) (mode other : Mode) → do_conflict mode other ≡ true → IsReadOr Written mode → IsReadOr Other other → Written ⊎ Other
conflict-written Written Other Read Read is first second = cc
conflict-written Written Other Read Write is first second = inr second
conflict-written Written Other Read (Resolve by) is first second = inr second
conflict-written Written Other Read Push is first second = absurd second
conflict-written Written Other Read Take is first second = absurd second
conflict-written Written Other Write other is first second = inl first
conflict-written Written Other (Resolve by) other is first second = inl first
conflict-written Written Other Push other is first second = absurd first
conflict-written Written Other Take other is first second = absurd first

-- one of two numbers that are found is among those written
one-found : (written : List ℕ) (first second : ℕ) → Contains written first ⊎ Contains written second → (has_number written first || has_number written second) ≡ true
one-found written first second (inl is) = or-left (has_number written first) (has_number written second) (member-found written first is)
one-found written first second (inr is) = or-right (has_number written first) (has_number written second) (member-found written second is)

-- two links of one container cannot pass where one is written
pair-passes : (same written : Bool) → (not same || not written) ≡ true → same ≡ true → written ≡ true → ⊥
pair-passes true true passes same is = cc
pair-passes true false passes same is = cc
pair-passes false written passes same is = cc

one-unshared : (written : List ℕ) (first : ℕ) (link : Link) (number : ℕ) (links : List Link) (place : ℕ) (second : Link) (at : ℕ) → is_unshared written first link number links ≡ true → slice_get links place ≡ Some second →
    at ≡ number + place → container_of link ≡ container_of second → Contains written first ⊎ Contains written at → ⊥
one-unshared written first link number [] place second at passes is where_at same one = cc
one-unshared written first link number (other ∷ links) zero second at passes is where_at same one =
    let pair = not (nat_eq (container_of link) (container_of other)) || not (has_number written first || has_number written number) in
    let split = both pair (is_unshared written first link (suc number) links) passes in
    let second_is : other ≡ second = same_Some other second is in
    let equal : nat_eq (container_of link) (container_of other) ≡ true = eq-eqb (container_of link) (container_of other) (same ∙ ap container_of (sym second_is)) in
    let here : at ≡ number = omega (arith, where_at) in
    pair-passes (nat_eq (container_of link) (container_of other)) (has_number written first || has_number written number) split.0 equal
    (one-found written first number (subst (λ n. Contains written first ⊎ Contains written n) here one))
one-unshared written first link number (other ∷ links) (suc place) second at passes is where_at same one =
    let pair = not (nat_eq (container_of link) (container_of other)) || not (has_number written first || has_number written number) in
    let split = both pair (is_unshared written first link (suc number) links) passes in
    one-unshared written first link (suc number) links place second at split.1 is (omega (arith, where_at)) same one

pair-unshared : (written : List ℕ) (number : ℕ) (links : List Link) (place later : ℕ) (link second : Link) (at there : ℕ) → are_unshared written number links ≡ true → slice_get links place ≡ Some link → slice_get links later ≡ Some second →
    place < later → at ≡ number + place → there ≡ number + later → container_of link ≡ container_of second → Contains written at ⊎ Contains written there → ⊥
pair-unshared written number [] place later link second at there passes is is' less here there_is same one = cc
pair-unshared written number (first ∷ links) place zero link second at there passes is is' less here there_is same one = absurd (omega arith)
pair-unshared written number (first ∷ links) zero (suc later) link second at there passes is is' less here there_is same one =
    let split = both (is_unshared written number first (suc number) links) (are_unshared written (suc number) links) passes in
    let first_is : first ≡ link = same_Some first link is in
    let begin : at ≡ number = omega (arith, here) in
    one-unshared written number first (suc number) links later second there split.0 is' (omega (arith, there_is)) (ap container_of first_is ∙ same)
    (subst (λ n. Contains written n ⊎ Contains written there) begin one)
pair-unshared written number (first ∷ links) (suc place) (suc later) link second at there passes is is' less here there_is same one =
    let split = both (is_unshared written number first (suc number) links) (are_unshared written (suc number) links) passes in
    pair-unshared written (suc number) links place later link second at there split.1 is is' (omega arith) (omega (arith, here)) (omega (arith, there_is)) same one

turned : {A B : Type 0} → A ⊎ B → B ⊎ A
turned (inl a) = inr a
turned (inr b) = inl b

pub is_alias_free : (written : List ℕ) (containers : Containers) (links : List Link) (uses : List Use) → ArgumentsComeFirst (length links) containers → AreSound written containers uses → are_unshared written 0 links ≡ true →
    IsAliasFree links uses
is_alias_free written containers links uses first each passes use' other link second member member' at at' different same conflict =
    let here = parameter-as written containers links uses use' link first each member at in
    let there = parameter-as written containers links uses other second first each member' at' in
    let one = conflict-written (Contains written use'.container) (Contains written other.container) use'.mode other.mode conflict here there in
    by_order use'.container other.container
    (λ before. pair-unshared written 0 links use'.container other.container link second use'.container other.container passes at at' before (omega arith) (omega arith) same one)
    (λ is. different is)
    (λ after. pair-unshared written 0 links other.container use'.container second link other.container use'.container passes at' at after (omega arith) (omega arith) (sym same) (turned one))
