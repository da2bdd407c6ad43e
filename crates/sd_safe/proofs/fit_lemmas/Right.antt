-- What the rules ask of each place of a graph, without those before it.
use Rattle.std.specs.Bool.{⊤}
use Rattle.std.specs.List.{AllByRecursion, list_all, list_any}
use Rattle.std.proofs.Common.{◌≡◌, ℕ, ◌+◌, ◌^◌, nat_le, nat_lt, pos, int_lt, List, [], ◌∷◌, ◌++◌, length, Bool, true, false, ◌&&◌, ◌||◌, if◌then◌else◌, Err, None, refl}
use Rattle.sd_range.specs.declared.affine.Affine.{Affine}
use Rattle.sd_graph.specs.PlainTree.{GraphTree}
use Rattle.sd_graph.specs.TreeParts.{containers_of, states_of_graph, count_states}
use Rattle.sd_graph.specs.ContainerParts.{Containers}
use Rattle.sd_graph.specs.declared.container.Container.{Container}
use Rattle.sd_valid.specs.Limits.{elements_in, has_negative, is_over, tally}
use Rattle.sd_validity.specs.rules.GraphParts.{symbols_in}
use Rattle.sd_validity.specs.rules.Places.{Thing, whole, leaving, doing, Place, all_places}
use Rattle.sd_validity.specs.rules.Parts.{is_empty, is_thing_passed}
use Rattle.sd_validity.specs.rules.Failing.{Rule, failing}
use Rattle.sd_validity.specs.rules.Dimensions.{dimensions_tests, is_code_linked, rule_2}
use Rattle.sd_validity.specs.rules.NestedLinks.{is_nesting_right, rule_5}
use Rattle.sd_validity.specs.rules.MovedShapes.{are_shapes_right, rule_6}
use Rattle.sd_validity.specs.rules.WithinLimits.{is_within, is_container_small, is_small, is_counted, are_containers_small, is_thing_small, elements_among, nodes_among, limits_tests, rule_7}
use Rattle.sd_validity.specs.rules.SizesGone.{are_extents_constant, sizes_tests, rule_8}
use Rattle.sd_validity.specs.rules.Valid.{IsValid}
use Rattle.sd_subset.proofs.boxes_lemmas.Disjoint.{of_member}
use Rattle.sd_safe.proofs.fit_lemmas.Members.{both, each-member}
use Rattle.sd_safe.proofs.fit_lemmas.Single.{first-holds}
use Rattle.sd_safe.proofs.fit_lemmas.Fresh.{IsFreshPlace, fresh-places}
use Rattle.sd_safe.proofs.fit_lemmas.Shaped.{IsPlainExtent, ArePlainContainers}

-- what a rule gives of each place
each-holds : (rule : Rule) (P : Place → Type 0) → ((before : List Place) (place : Place) → rule before place ≡ true → P place) → (before places : List Place) → failing rule before places ≡ None → AllByRecursion P places
each-holds rule P gives before [] none = tt
each-holds rule P gives before (place ∷ places) none =
    let first = first-holds rule before place places none in
    (gives before place first.0, each-holds rule P gives (before ++ place ∷ []) places first.1)

-- ---- extents

-- no extent is negative
abbrev IsNatural : Affine → Type 0
IsNatural extent = int_lt extent.constant (pos 0) ≡ false

abbrev AreNatural : Containers → Type 0
AreNatural containers = AllByRecursion (λ (entry : List ℕ × Container). AllByRecursion IsNatural entry.1.extents) containers

neither : (a b : Bool) → (a || b) ≡ false → (a ≡ false) × (b ≡ false)
neither true b is = cc
neither false b is = (refl, is)

none-negative : (extents : List Affine) → list_any (λ extent. int_lt extent.constant (pos 0)) extents ≡ false → AllByRecursion IsNatural extents
none-negative [] is = tt
none-negative (extent ∷ extents) is =
    let split = neither (int_lt extent.constant (pos 0)) (list_any (λ (extent : Affine). int_lt extent.constant (pos 0)) extents) is in
    (split.0, none-negative extents split.1)

counted-first : (before : ℕ) (entry : List ℕ × Container) (entries : Containers) (over : Bool) → is_over before entry.1 ≡ over → is_counted (if over then Err entry.0 else tally (before + elements_in entry.1) entries) ≡ true →
    (is_over before entry.1 ≡ false) × (is_counted (tally (before + elements_in entry.1) entries) ≡ true)
counted-first before entry entries true over is = cc
counted-first before entry entries false over is = (over, is)

-- extents that are counted are not negative
counted-natural : (before : ℕ) (containers : Containers) → is_counted (tally before containers) ≡ true → AreNatural containers
counted-natural before [] is = tt
counted-natural before (entry ∷ entries) is =
    let first = counted-first before entry entries (is_over before entry.1) refl is in
    let split = neither (has_negative entry.1) (nat_lt (2 ^ 24) (elements_in entry.1) || nat_lt (2 ^ 26) (before + elements_in entry.1)) first.0 in
    (none-negative entry.1.extents split.0, counted-natural (before + elements_in entry.1) entries first.1)

-- the extents of the containers, where a graph as a whole stands
abbrev HasNaturalExtents : GraphTree → Thing → Type 0
HasNaturalExtents tree whole = AreNatural (containers_of tree)
HasNaturalExtents tree (leaving items exits) = ⊤
HasNaturalExtents tree (doing kind) = ⊤

natural-extents : (elements nodes : ℕ) (place : Place) (thing : Thing) → is_thing_small elements nodes place thing ≡ true → HasNaturalExtents place.graph thing
natural-extents elements nodes place whole is =
    let containers = containers_of place.graph in
    let split = both (is_within 1 256 (count_states (states_of_graph place.graph)) && nat_le place.depth 8) (are_containers_small containers elements) is in
    let few = nat_le (length containers) 256 && list_all (λ (entry : List ℕ × Container). is_container_small entry.1) containers in
    let small = list_all (λ (entry : List ℕ × Container). list_all is_small entry.1.extents) containers in
    let counted = is_counted (tally elements containers) in
    counted-natural elements containers (both small counted (both few (small && counted) split.1).1).1
natural-extents elements nodes place (leaving items exits) is = tt
natural-extents elements nodes place (doing kind) is = tt

empty-list : {A : Type 0} (all : List A) → is_empty all ≡ true → all ≡ []
empty-list [] is = refl
empty-list (first ∷ all) is = cc

plain-extents : (extents : List Affine) → list_all (λ extent. is_empty extent.terms) extents ≡ true → AllByRecursion IsNatural extents → AllByRecursion IsPlainExtent extents
plain-extents [] is natural = tt
plain-extents (extent ∷ extents) is natural =
    let split = both (is_empty extent.terms) (list_all (λ (extent : Affine). is_empty extent.terms) extents) is in
    (record { constant = empty-list extent.terms split.0; natural = natural.0 }, plain-extents extents split.1 natural.1)

plain-containers : (containers : Containers) → list_all (λ entry. list_all (λ extent. is_empty extent.terms) entry.1.extents) containers ≡ true → AreNatural containers → ArePlainContainers containers
plain-containers [] is natural = tt
plain-containers (entry ∷ entries) is natural =
    let split = both (list_all (λ (extent : Affine). is_empty extent.terms) entry.1.extents) (list_all (λ (entry : List ℕ × Container). list_all (λ (extent : Affine). is_empty extent.terms) entry.1.extents) entries) is in
    (plain-extents entry.1.extents split.0 natural.0, plain-containers entries split.1 natural.1)

-- constants that are not negative
abbrev pub HasPlainExtents : GraphTree → Thing → Type 0
HasPlainExtents tree whole = ArePlainContainers (containers_of tree)
HasPlainExtents tree (leaving items exits) = ⊤
HasPlainExtents tree (doing kind) = ⊤

plain-at_thing : (tree : GraphTree) (thing : Thing) → are_extents_constant tree thing ≡ true → HasNaturalExtents tree thing → HasPlainExtents tree thing
plain-at_thing tree whole is natural = plain-containers (containers_of tree) is natural
plain-at_thing tree (leaving items exits) is natural = tt
plain-at_thing tree (doing kind) is natural = tt

-- ---- each place of a valid graph

pub record IsRightPlace (place : Place) : Type 0 where
  pub fresh : IsFreshPlace place
  pub dimensions : is_thing_passed (dimensions_tests (containers_of place.graph)) place.thing ≡ true
  pub nesting : is_nesting_right place.graph place.thing ≡ true
  pub shapes : are_shapes_right place.thing ≡ true
  pub limits : is_thing_passed limits_tests place.thing ≡ true
  pub extents : HasPlainExtents place.graph place.thing
  pub free : is_thing_passed (sizes_tests (symbols_in place.graph)) place.thing ≡ true

-- what limits ask of a place
record IsSmallPlace (place : Place) : Type 0 where
  natural : HasNaturalExtents place.graph place.thing
  passed : is_thing_passed limits_tests place.thing ≡ true

small-place : (before : List Place) (place : Place) → rule_7 before place ≡ true → IsSmallPlace place
small-place before place is =
    let split = both (is_thing_small (elements_among before) (nodes_among before) place place.thing) (is_thing_passed limits_tests place.thing) is in
    record { natural = natural-extents (elements_among before) (nodes_among before) place place.thing split.0; passed = split.1 }

-- and what binding asks
record IsBoundPlace (place : Place) : Type 0 where
  constant : are_extents_constant place.graph place.thing ≡ true
  free : is_thing_passed (sizes_tests (symbols_in place.graph)) place.thing ≡ true

bound-place : (before : List Place) (place : Place) → rule_8 before place ≡ true → IsBoundPlace place
bound-place before place is =
    let split = both (are_extents_constant place.graph place.thing) (is_thing_passed (sizes_tests (symbols_in place.graph)) place.thing) is in
    record { constant = split.0; free = split.1 }

abbrev HasDimensions : Place → Type 0
HasDimensions place = is_thing_passed (dimensions_tests (containers_of place.graph)) place.thing ≡ true

abbrev HasNesting : Place → Type 0
HasNesting place = is_nesting_right place.graph place.thing ≡ true

abbrev HasShapes : Place → Type 0
HasShapes place = are_shapes_right place.thing ≡ true

has_dimensions : (before : List Place) (place : Place) → rule_2 before place ≡ true → HasDimensions place
has_dimensions before place is = (both (is_thing_passed (dimensions_tests (containers_of place.graph)) place.thing) (is_code_linked place.thing) is).0

pub right-places : (tree : GraphTree) → IsValid tree → AllByRecursion IsRightPlace (all_places tree)
right-places tree valid =
    let all = all_places tree in
    let fresh = fresh-places tree valid.names in
    let dimensions = each-holds rule_2 HasDimensions has_dimensions [] all valid.dimensions in
    let nesting = each-holds rule_5 HasNesting (λ before place is. is) [] all valid.nesting in
    let shapes = each-holds rule_6 HasShapes (λ before place is. is) [] all valid.shapes in
    let small = each-holds rule_7 IsSmallPlace small-place [] all valid.limits in
    let bound = each-holds rule_8 IsBoundPlace bound-place [] all valid.sizes in
    each-member IsRightPlace all
    (λ place member.
    let limits = of_member IsSmallPlace all place small member in
    let sizes = of_member IsBoundPlace all place bound member in
    record {
      fresh = of_member IsFreshPlace all place fresh member;
      dimensions = of_member HasDimensions all place dimensions member;
      nesting = of_member HasNesting all place nesting member;
      shapes = of_member HasShapes all place shapes member;
      limits = limits.passed;
      extents = plain-at_thing place.graph place.thing sizes.constant limits.natural;
      free = sizes.free;
    })
