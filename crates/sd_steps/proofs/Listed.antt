-- The matches are the steps that are tried and of which no condition fails.
use Rattle.std.proofs.Common.{◌≡◌, ◌↔◌, inl, inr, ℕ, nat_eq, List, [], ◌∷◌, length, map, Option, Some, None, Bool, true, false, if◌then◌else◌, refl, ap, sym, ◌∙◌, subst, arith}
use Rattle.std.specs.List.{Contains, filter, list_all, AllByRecursion}
use Rattle.std.proofs.lemmas.Bool.{cases_Bool}
use Rattle.std.proofs.lemmas.List.Elements.{All-contains, filter_passes, Contains-append_right}
use Rattle.sd_range.proofs.Members.{Contains-nil, Contains-first, Contains-later, Contains-cases, Contains-map, Contains-from_map, Contains-flat_map, Contains-from_flat_map}
use Rattle.sd_subset.specs.boxes.Box.{Parameter}
use Rattle.sd_graph.specs.PlainTree.{KindTree, task, map_scope, consume_scope, nested_graph, reduction, copy, GraphTree}
use Rattle.sd_prop.specs.propagation.Scopes.{Scope, params_of, all_scopes}
use Rattle.sd_validity.proofs.rules_lemmas.HoldingLemmas.{both}
use Rattle.sd_mapx.specs.Conditions.{item_of, is_found, lowest_failing}
use Rattle.sd_mapx.specs.Found.{Found}
use Rattle.sd_mapx.specs.MapTests.{is_map, is_size, has_sizes}
use Rattle.sd_mapx.specs.MapConditions.{collapse_conditions, expansion_conditions, interchange_conditions, tiling_conditions}
use Rattle.sd_mapx.proofs.ConditionLaws.{first_holds}
use Rattle.sd_chain.specs.declared.step.Step.{Step}
use Rattle.sd_chain.specs.declared.step.Step.TheVariants.{MapCollapse, MapExpansion, MapInterchange, MapTiling}
use Rattle.sd_steps.specs.Chained.{failing}
use Rattle.sd_steps.specs.Matched.{fails_none, may_be_done, tried_sizes, step_at, matches_at, rewrites, matched, IsTried}
use Rattle.sd_steps.specs.declared.matched.Rewrite.{Rewrite}
use Rattle.sd_steps.specs.declared.matched.Rewrite.TheVariants.{Collapse, Expansion, Interchange, Tiling}
use Rattle.sd_steps.proofs.Paths.{params_in, params_found, same_number, found_params, HasScope, map_there}

-- ---- lists

among-filter : {A : Type 0} (test : A → Bool) (all : List A) (a : A) → Contains all a → test a ≡ true → Contains (filter test all) a
among-filter test [] a member passes = absurd (Contains-nil a member)
among-filter test (first ∷ all) a member passes = elim (Contains-cases first all a member) [
  | inl is ↦ rw (ap test is ∙ passes) (subst (Contains (first ∷ filter test all)) is (Contains-first first (filter test all)))
  | inr later ↦ elim (cases_Bool (test first)) [
    | inl passed ↦ rw passed (Contains-later first (filter test all) a (among-filter test all a later passes))
    | inr failed ↦ rw failed (among-filter test all a later passes)
  ]
]

kept-or_not : {A : Type 0} (keeps : Bool) (first : A) (kept all : List A) (a : A) → Contains (if keeps then first ∷ kept else kept) a → (Contains kept a → Contains all a) → Contains (first ∷ all) a
kept-or_not true first kept all a member later = elim (Contains-cases first kept a member) [
  | inl is ↦ subst (Contains (first ∷ all)) is (Contains-first first all)
  | inr among ↦ Contains-later first all a (later among)
]
kept-or_not false first kept all a member later = Contains-later first all a (later member)

from-filter : {A : Type 0} (test : A → Bool) (all : List A) (a : A) → Contains (filter test all) a → Contains all a
from-filter test [] a member = member
from-filter test (first ∷ all) a member = kept-or_not (test first) first (filter test all) all a member (from-filter test all a)

-- ---- each match is tried and may be done

none_fails : (failing : Option ℕ) → fails_none failing ≡ true → failing ≡ None
none_fails None is = refl
none_fails (Some condition) is = cc

one_may : (tree : GraphTree) (rewrite : Rewrite) (scopes : List Scope) (step : Step) → Contains (matches_at tree rewrite scopes) step → may_be_done tree step ≡ true
one_may tree rewrite scopes step member =
    All-contains (λ step. may_be_done tree step ≡ true) (matches_at tree rewrite scopes) step (filter_passes (may_be_done tree) (map (step_at rewrite) scopes)) member

twos : (params : List Parameter) → AllByRecursion (λ (size : ℕ). size ≡ 2) (map (λ param. 2) params)
twos [] = tt
twos (param ∷ params) = (refl, twos params)

is_tried : (rewrite : Rewrite) (scope : Scope) → IsTried (step_at rewrite scope)
is_tried Collapse scope = tt
is_tried Expansion scope = tt
is_tried Interchange scope = tt
is_tried Tiling scope = twos (params_of scope.over)

each_may : (tree : GraphTree) (step : Step) → Contains (matched tree) step → IsTried step × (failing tree step ≡ None)
each_may tree step member =
    let scopes : List Scope = all_scopes tree in
    let (rewrite, among, found) = Contains-from_flat_map (λ rewrite. matches_at tree rewrite scopes) rewrites step member in
    let (scope, there, is) = Contains-from_map (step_at rewrite) scopes step (from-filter (may_be_done tree) (map (step_at rewrite) scopes) step found) in
    (subst IsTried is (is_tried rewrite scope), none_fails (failing tree step) (one_may tree rewrite scopes step found))

-- ---- each step that is tried and may be done is a match

all_hold : (conditions : List (ℕ × Bool)) → lowest_failing conditions ≡ None → AllByRecursion (λ condition. condition.1 ≡ true) conditions
all_hold [] none = tt
all_hold (condition ∷ conditions) none = let first = first_holds condition.0 condition.1 conditions none in (first.0, all_hold conditions first.1)

among_Collapse : Contains rewrites Collapse
among_Collapse = Contains-first Collapse (Expansion ∷ Interchange ∷ Tiling ∷ [])

among_Expansion : Contains rewrites Expansion
among_Expansion = Contains-later Collapse (Expansion ∷ Interchange ∷ Tiling ∷ []) Expansion (Contains-first Expansion (Interchange ∷ Tiling ∷ []))

among_Interchange : Contains rewrites Interchange
among_Interchange = Contains-append_right (Collapse ∷ Expansion ∷ []) (Interchange ∷ Tiling ∷ []) Interchange (Contains-first Interchange (Tiling ∷ []))

among_Tiling : Contains rewrites Tiling
among_Tiling = Contains-append_right (Collapse ∷ Expansion ∷ Interchange ∷ []) (Tiling ∷ []) Tiling (Contains-first Tiling [])

-- the scope of a map that is found, with its parameters
scope_there : (tree : GraphTree) (path : List ℕ) → is_found is_map (item_of tree path) ≡ true →
    (params : List Parameter) × (params_found (item_of tree path) ≡ Some params) × HasScope (all_scopes tree) path params
scope_there tree path is =
    let found = found_params (item_of tree path) is in
    (found.0, found.1, map_there tree path found.0 found.1)

listed : (tree : GraphTree) (rewrite : Rewrite) (scope : Scope) (step : Step) → Contains rewrites rewrite → Contains (all_scopes tree) scope → step_at rewrite scope ≡ step → failing tree step ≡ None → Contains (matched tree) step
listed tree rewrite scope step among there is none =
    let steps : List Step = map (step_at rewrite) (all_scopes tree) in
    Contains-flat_map (λ rewrite. matches_at tree rewrite (all_scopes tree)) rewrites rewrite step among
    (among-filter (may_be_done tree) steps step (subst (Contains steps) is (Contains-map (step_at rewrite) (all_scopes tree) scope there)) (ap fails_none none))

has_length : (sizes : List ℕ) (kind : KindTree) (params : List Parameter) → has_sizes sizes kind ≡ true → params_in kind ≡ Some params → length sizes ≡ length params
has_length sizes (task code ins outs) params has are = cc
has_length sizes (map_scope sequential own private body) params has are =
    let same : own ≡ params = cc in
    same_number (length sizes) (length own) (both (nat_eq (length sizes) (length own)) (list_all is_size sizes) has).0 ∙ ap length same
has_length sizes (consume_scope stream element private body) params has are = cc
has_length sizes (nested_graph inner links) params has are = cc
has_length sizes (reduction resolution axis identity from to) params has are = cc
has_length sizes (copy from to) params has are = cc

found_length : (sizes : List ℕ) (found : Option Found) (params : List Parameter) → is_found (has_sizes sizes) found ≡ true → params_found found ≡ Some params → length sizes ≡ length params
found_length sizes None params has are = cc
found_length sizes (Some found) params has are = has_length sizes found.kind params has are

-- as many sizes of 2
are_twos : (sizes : List ℕ) (params : List Parameter) → AllByRecursion (λ (size : ℕ). size ≡ 2) sizes → length sizes ≡ length params → map (λ param. 2) params ≡ sizes
are_twos [] [] all many = refl
are_twos [] (param ∷ params) all many = cc
are_twos (size ∷ sizes) [] all many = cc
are_twos (size ∷ sizes) (param ∷ params) all many =
    let fewer : length sizes ≡ length params = omega arith in
    ap (λ first. first ∷ map (λ param. 2) params) (sym all.0) ∙ ap (λ others. size ∷ others) (are_twos sizes params all.1 fewer)

each_is : (tree : GraphTree) (step : Step) → IsTried step → failing tree step ≡ None → Contains (matched tree) step
each_is tree (MapCollapse at) tried none =
    let (params, are, (scope, there, path, own)) = scope_there tree at.steps (all_hold (collapse_conditions tree at.steps) none).0 in
    listed tree Collapse scope (MapCollapse at) among_Collapse there (ap (λ path. MapCollapse (record { steps = path })) path) none
each_is tree (MapExpansion at) tried none =
    let (params, are, (scope, there, path, own)) = scope_there tree at.steps (all_hold (expansion_conditions tree at.steps) none).0 in
    listed tree Expansion scope (MapExpansion at) among_Expansion there (ap (λ path. MapExpansion (record { steps = path })) path) none
each_is tree (MapInterchange at) tried none =
    let (params, are, (scope, there, path, own)) = scope_there tree at.steps (all_hold (interchange_conditions tree at.steps) none).0 in
    listed tree Interchange scope (MapInterchange at) among_Interchange there (ap (λ path. MapInterchange (record { steps = path })) path) none
each_is tree (MapTiling at sizes) tried none =
    let all = all_hold (tiling_conditions tree at.steps sizes) none in
    let (params, are, (scope, there, path, own)) = scope_there tree at.steps all.0 in
    let many : length sizes ≡ length params = found_length sizes (item_of tree at.steps) params all.1.0 are in
    let same : tried_sizes scope ≡ sizes = ap (λ params. map (λ param. 2) params) own ∙ are_twos sizes params tried many in
    listed tree Tiling scope (MapTiling at sizes) among_Tiling there (ap (λ path. MapTiling (record { steps = path }) (tried_sizes scope)) path ∙ ap (MapTiling at) same) none

pub matches_are : (tree : GraphTree) (step : Step) → Contains (matched tree) step ↔ (IsTried step × (failing tree step ≡ None))
matches_are tree step = (each_may tree step, λ both. each_is tree step both.0 both.1)
