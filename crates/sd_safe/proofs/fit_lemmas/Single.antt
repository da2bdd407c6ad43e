-- Where rule 1 holds, no variable is a parameter twice, nor one that a transition sets.
use Rattle.std.specs.Bool.{⊤}
use Rattle.std.specs.List.{Contains}
use Rattle.std.proofs.Common.{◌≡◌, inl, inr, ℕ, List, [], ◌∷◌, ◌++◌, Bool, true, false, not, ◌&&◌, Some, None, bytes_eq, if◌then◌else◌, refl, ap, sym, ◌∙◌, subst}
use Rattle.std.proofs.lemmas.List.Elements.{Contains-append_left, Contains-append_right}
use Rattle.sd_range.proofs.Members.{Contains-nil, Contains-first, Contains-cases, Contains-flat_map}
use Rattle.sd_race.proofs.cover_lemmas.Among.{among-filter}
use Rattle.sd_graph.specs.TreeParts.{containers_of}
use Rattle.sd_graph.specs.Wiring.{has_number}
use Rattle.sd_validity.specs.rules.Places.{Thing, whole, leaving, doing, Place}
use Rattle.sd_validity.specs.rules.Failing.{Rule, failing}
use Rattle.sd_validity.specs.rules.NamesInForce.{held_at, params_at, set_at, of_graph, numbers_at, are_new, are_apart, are_own_private, are_single, is_each_held, are_symbols_apart, are_names_in_force, rule_1}
use Rattle.sd_safe.proofs.fit_lemmas.Members.{both, passes-at, member-found, not_both, same_bytes}

-- each number is another than those after it
abbrev pub AreOnce : List ℕ → Type 0
AreOnce [] = ⊤
AreOnce (number ∷ numbers) = (Contains numbers number → ⊥) × AreOnce numbers

-- new numbers are none of those known, and each is there once
pub new-other : (known numbers : List ℕ) → are_new known numbers ≡ true → (v : ℕ) → Contains numbers v → Contains known v → ⊥
new-other known [] is v member among = Contains-nil v member
new-other known (number ∷ numbers) is v member among =
    let split = both (not (has_number known number)) (are_new (known ++ number ∷ []) numbers) is in
    elim (Contains-cases number numbers v member) [
      | inl same ↦ not_both (has_number known number) (member-found known number (subst (λ n. Contains known n) (sym same) among)) split.0
      | inr later ↦ new-other (known ++ number ∷ []) numbers split.1 v later (Contains-append_left known (number ∷ []) v among)
    ]

pub new-once : (known numbers : List ℕ) → are_new known numbers ≡ true → AreOnce numbers
new-once known [] is = tt
new-once known (number ∷ numbers) is =
    let split = both (not (has_number known number)) (are_new (known ++ number ∷ []) numbers) is in (
      λ among. new-other (known ++ number ∷ []) numbers split.1 number among (Contains-append_right known (number ∷ []) number (Contains-first number [])),
      new-once (known ++ number ∷ []) numbers split.1,
    )

apart-other : (known numbers : List ℕ) → are_apart known numbers ≡ true → (v : ℕ) → Contains numbers v → Contains known v → ⊥
apart-other known numbers is v member among = not_both (has_number known v) (member-found known v among) (passes-at (λ number. not (has_number known number)) numbers v is member)

-- ---- what rule 1 asks behind other places

-- what stands at a place that is before another one of the same graph
numbers-before : (numbers : Thing → List ℕ) (before : List Place) (place other : Place) (v : ℕ) → Contains before other → other.graph_path ≡ place.graph_path → Contains (numbers other.thing) v →
    Contains (numbers_at numbers (of_graph before place)) v
numbers-before numbers before place other v among same member =
    Contains-flat_map (λ (one : Place). numbers one.thing) (of_graph before place) other v
    (among-filter (λ (one : Place). bytes_eq one.graph_path place.graph_path) before other among (same_bytes other.graph_path place.graph_path same)) member

-- the parts of rule 1 on parameters
record AreParamsSingle (before : List Place) (place : Place) : Type 0 where
  new : are_new (numbers_at params_at (of_graph before place) ++ numbers_at set_at (of_graph before place)) (params_at place.thing) ≡ true
  unset : are_apart (numbers_at params_at (of_graph before place)) (set_at place.thing) ≡ true

params-single : (before : List Place) (place : Place) → rule_1 before place ≡ true → AreParamsSingle before place
params-single before place is =
    let earlier = of_graph before place in
    let thing = place.thing in
    let held = are_new (numbers_at held_at earlier) (held_at thing) in
    let new = are_new (numbers_at params_at earlier ++ numbers_at set_at earlier) (params_at thing) in
    let unset = are_apart (numbers_at params_at earlier) (set_at thing) in
    let split = both (are_names_in_force place && (is_each_held place.graph thing && are_symbols_apart place.graph thing)) (are_own_private (containers_of place.graph) thing && are_single earlier thing) is in
    let single = (both (are_own_private (containers_of place.graph) thing) (are_single earlier thing) split.1).1 in
    let parts = both (held && new) unset single in
    record { new = (both held new parts.0).1; unset = parts.1 }

-- parameters are none of those before
pub params-other : (before : List Place) (place other : Place) → rule_1 before place ≡ true → Contains before other → other.graph_path ≡ place.graph_path →
    (v : ℕ) → Contains (params_at place.thing) v → Contains (params_at other.thing) v → ⊥
params-other before place other is among same v member there =
    let earlier = of_graph before place in
    new-other (numbers_at params_at earlier ++ numbers_at set_at earlier) (params_at place.thing) (params-single before place is).new v member
    (Contains-append_left (numbers_at params_at earlier) (numbers_at set_at earlier) v (numbers-before params_at before place other v among same there))

-- and none of those that are set before
params-unset : (before : List Place) (place other : Place) → rule_1 before place ≡ true → Contains before other → other.graph_path ≡ place.graph_path →
    (v : ℕ) → Contains (params_at place.thing) v → Contains (set_at other.thing) v → ⊥
params-unset before place other is among same v member there =
    let earlier = of_graph before place in
    new-other (numbers_at params_at earlier ++ numbers_at set_at earlier) (params_at place.thing) (params-single before place is).new v member
    (Contains-append_right (numbers_at params_at earlier) (numbers_at set_at earlier) v (numbers-before set_at before place other v among same there))

-- none is set that is a parameter before
set-other : (before : List Place) (place other : Place) → rule_1 before place ≡ true → Contains before other → other.graph_path ≡ place.graph_path →
    (v : ℕ) → Contains (params_at other.thing) v → Contains (set_at place.thing) v → ⊥
set-other before place other is among same v there member =
    apart-other (numbers_at params_at (of_graph before place)) (set_at place.thing) (params-single before place is).unset v member (numbers-before params_at before place other v among same there)

pub params-once : (before : List Place) (place : Place) → rule_1 before place ≡ true → AreOnce (params_at place.thing)
params-once before place is =
    new-once (numbers_at params_at (of_graph before place) ++ numbers_at set_at (of_graph before place)) (params_at place.thing) (params-single before place is).new

-- ---- all places of a list

first-passed : (rule : Rule) (before : List Place) (place : Place) (places : List Place) (passes : Bool) → rule before place ≡ passes →
    (if passes then failing rule (before ++ place ∷ []) places else Some place.path) ≡ None → (rule before place ≡ true) × (failing rule (before ++ place ∷ []) places ≡ None)
first-passed rule before place places true passes none = (passes, none)
first-passed rule before place places false passes none = cc

-- where no place fails, the first passes, and the others do behind it
pub first-holds : (rule : Rule) (before : List Place) (place : Place) (places : List Place) → failing rule before (place ∷ places) ≡ None → (rule before place ≡ true) × (failing rule (before ++ place ∷ []) places ≡ None)
first-holds rule before place places none = first-passed rule before place places (rule before place) refl none

behind : (before : List Place) (place : Place) (places : List Place) → before ++ place ∷ places ≡ (before ++ place ∷ []) ++ places
behind [] place places = refl
behind (first ∷ before) place places = ap (λ (rest : List Place). first ∷ rest) (behind before place places)

nothing-behind : (before : List Place) → before ≡ before ++ []
nothing-behind [] = refl
nothing-behind (first ∷ before) = ap (λ (rest : List Place). first ∷ rest) (nothing-behind before)

pub parts-hold : (rule : Rule) (before first rest : List Place) → failing rule before (first ++ rest) ≡ None → (failing rule before first ≡ None) × (failing rule (before ++ first) rest ≡ None)
parts-hold rule before [] rest none = (refl, subst (λ all. failing rule all rest ≡ None) (nothing-behind before) none)
parts-hold rule before (place ∷ first) rest none =
    let one = first-holds rule before place (first ++ rest) none in
    let others = parts-hold rule (before ++ place ∷ []) first rest one.1 in
    (rw one.0 others.0, subst (λ all. failing rule all rest ≡ None) (sym (behind before place first)) others.1)

-- a parameter of a place before is not set at one of these
later-unset : (before places : List Place) → failing rule_1 before places ≡ None → (map other : Place) → Contains before map → Contains places other → map.graph_path ≡ other.graph_path →
    (v : ℕ) → Contains (params_at map.thing) v → Contains (set_at other.thing) v → ⊥
later-unset before [] none map other among member same v param set = Contains-nil other member
later-unset before (place ∷ places) none map other among member same v param set =
    let one = first-holds rule_1 before place places none in
    elim (Contains-cases place places other member) [
      | inl is ↦ set-other before place map one.0 among (same ∙ ap (λ (p : Place). p.graph_path) (sym is)) v param (subst (λ (p : Place). Contains (set_at p.thing) v) (sym is) set)
      | inr later ↦ later-unset (before ++ place ∷ []) places one.1 map other (Contains-append_left before (place ∷ []) map among) later same v param set
    ]

-- nor is one of these set at a place before
later-new : (before places : List Place) → failing rule_1 before places ≡ None → (map other : Place) → Contains places map → Contains before other → map.graph_path ≡ other.graph_path →
    (v : ℕ) → Contains (params_at map.thing) v → Contains (set_at other.thing) v → ⊥
later-new before [] none map other member among same v param set = Contains-nil map member
later-new before (place ∷ places) none map other member among same v param set =
    let one = first-holds rule_1 before place places none in
    elim (Contains-cases place places map member) [
      | inl is ↦ params-unset before place other one.0 among (sym same ∙ ap (λ (p : Place). p.graph_path) (sym is)) v (subst (λ (p : Place). Contains (params_at p.thing) v) (sym is) param) set
      | inr later ↦ later-new (before ++ place ∷ []) places one.1 map other later (Contains-append_left before (place ∷ []) other among) same v param set
    ]

-- nothing has parameters and sets variables
not_at_one : (thing : Thing) (v : ℕ) → Contains (params_at thing) v → Contains (set_at thing) v → ⊥
not_at_one whole v param set = Contains-nil v param
not_at_one (leaving items exits) v param set = Contains-nil v param
not_at_one (doing kind) v param set = Contains-nil v set

-- no variable is a parameter at one place and set at another of the same graph
pub never_both : (before places : List Place) → failing rule_1 before places ≡ None → (map other : Place) → Contains places map → Contains places other → map.graph_path ≡ other.graph_path →
    (v : ℕ) → Contains (params_at map.thing) v → Contains (set_at other.thing) v → ⊥
never_both before [] none map other member member' same v param set = Contains-nil map member
never_both before (place ∷ places) none map other member member' same v param set =
    let one = first-holds rule_1 before place places none in
    let own = Contains-append_right before (place ∷ []) place (Contains-first place []) in
    elim (Contains-cases place places map member) [
      | inl is ↦ elim (Contains-cases place places other member') [
        | inl is' ↦ not_at_one place.thing v (subst (λ (p : Place). Contains (params_at p.thing) v) (sym is) param) (subst (λ (p : Place). Contains (set_at p.thing) v) (sym is') set)
        | inr later' ↦ later-unset (before ++ place ∷ []) places one.1 map other (subst (λ (p : Place). Contains (before ++ place ∷ []) p) is own) later' same v param set
      ]
      | inr later ↦ elim (Contains-cases place places other member') [
        | inl is' ↦ later-new (before ++ place ∷ []) places one.1 map other later (subst (λ (p : Place). Contains (before ++ place ∷ []) p) is' own) same v param set
        | inr later' ↦ never_both (before ++ place ∷ []) places one.1 map other later later' same v param set
      ]
    ]
