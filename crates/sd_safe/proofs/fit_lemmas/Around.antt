-- Parameters of a map that are new where it stands are fresh inside those around it.
use Rattle.std.specs.List.{AllByRecursion, Contains, list_all}
use Rattle.std.proofs.Common.{◌≡◌, ◌⊎◌, inl, inr, ℕ, nat_lt, ℤ, List, [], ◌∷◌, ◌++◌, true, not, ◌&&◌, ◌||◌, sym, subst}
use Rattle.std.proofs.lemmas.List.Elements.{Contains-append_left, Contains-append_right}
use Rattle.sd_range.specs.declared.affine.Affine.{Affine}
use Rattle.sd_range.specs.declared.range.Range.{Range}
use Rattle.sd_range.proofs.Members.{Contains-first, Contains-later, Contains-map}
use Rattle.sd_subset.specs.boxes.Box.{Parameter}
use Rattle.sd_subset.specs.boxes.InForce.{IsOther, RangeNamesOthers, IsNormalRange, AreDistinct, AreFresh}
use Rattle.sd_subset.proofs.boxes_lemmas.Named.{AllNamed, RangeNamed, each_weaker}
use Rattle.sd_subset.proofs.boxes_lemmas.Disjoint.{of_member}
use Rattle.sd_graph.specs.Wiring.{has_number}
use Rattle.sd_validity.specs.rules.GraphParts.{symbols_in}
use Rattle.sd_validity.specs.rules.Places.{Place, param_numbers}
use Rattle.sd_validity.specs.rules.Parts.{is_range_passed, are_params_passed}
use Rattle.sd_validity.specs.rules.NamesInForce.{is_there, is_variable_in_force, names_tests}
use Rattle.sd_validity.specs.rules.SizesGone.{is_free, sizes_tests}
use Rattle.sd_safe.proofs.fit_lemmas.Members.{both, passes-at, each-append, each-member, found-member, one_of_two, not_both}
use Rattle.sd_safe.proofs.fit_lemmas.Single.{AreOnce}

-- a parameter of a scope about, or a loop variable in force
abbrev pub IsKnown : (params loops : List ℕ) → ℕ → Type 0
IsKnown params loops v = Contains params v ⊎ Contains loops v

abbrev pub IsParameterKnown : (params loops : List ℕ) → Parameter → Type 0
IsParameterKnown params loops parameter = IsKnown params loops parameter.0 × RangeNamed (IsKnown params loops) parameter.1

abbrev pub AreKnown : (params loops : List ℕ) → List Parameter → Type 0
AreKnown params loops parameters = AllByRecursion (IsParameterKnown params loops) parameters

-- ---- what is named is known

-- one that is in force is a symbol, or known
known-in_force : (place : Place) (v : ℕ) → is_variable_in_force place v ≡ true → not (nat_lt v (symbols_in place.graph)) ≡ true → IsKnown place.scopes.params place.loops v
known-in_force place v is free =
    let symbol = nat_lt v (symbols_in place.graph) in
    let about = has_number place.scopes.params v || has_number place.loops v in
    let split = both (is_there place.graph v) (symbol || about) is in
    elim (one_of_two symbol about split.1) [
      | inl sized ↦ absurd (not_both symbol sized free)
      | inr known ↦ elim (one_of_two (has_number place.scopes.params v) (has_number place.loops v) known) [
        | inl param ↦ inl (found-member place.scopes.params v param)
        | inr loop ↦ inr (found-member place.loops v loop)
      ]
    ]

expression-known : (place : Place) (a : Affine) → (names_tests place).expression a ≡ true → is_free (symbols_in place.graph) a ≡ true → AllNamed (IsKnown place.scopes.params place.loops) a.terms
expression-known place a is free =
    each-member (λ (term : ℕ × ℤ). IsKnown place.scopes.params place.loops term.0) a.terms
    (λ term member. known-in_force place term.0 (passes-at (λ (term : ℕ × ℤ). is_variable_in_force place term.0) a.terms term is member)
    (passes-at (λ (term : ℕ × ℤ). not (nat_lt term.0 (symbols_in place.graph))) a.terms term free member))

range-known : (place : Place) (r : Range) → is_range_passed (names_tests place) r ≡ true → is_range_passed (sizes_tests (symbols_in place.graph)) r ≡ true → RangeNamed (IsKnown place.scopes.params place.loops) r
range-known place r is free =
    let named = (names_tests place).expression in
    let gone = is_free (symbols_in place.graph) in
    let split = both true (named r.begin && list_all named r.ends) is in
    let split' = both true (gone r.begin && list_all gone r.ends) free in
    let names = both (named r.begin) (list_all named r.ends) split.1 in
    let sizes = both (gone r.begin) (list_all gone r.ends) split'.1 in (
      expression-known place r.begin names.0 sizes.0,
      each-member (λ (end : Affine). AllNamed (IsKnown place.scopes.params place.loops) end.terms) r.ends
          (λ end member. expression-known place end (passes-at named r.ends end names.1 member) (passes-at gone r.ends end sizes.1 member)),
    )

pub params-known : (place : Place) (params : List Parameter) → are_params_passed (names_tests place) params ≡ true → are_params_passed (sizes_tests (symbols_in place.graph)) params ≡ true →
    AllByRecursion (λ (parameter : Parameter). RangeNamed (IsKnown place.scopes.params place.loops) parameter.1) params
params-known place params is free =
    each-member (λ (parameter : Parameter). RangeNamed (IsKnown place.scopes.params place.loops) parameter.1) params
    (λ parameter member. range-known place parameter.1 (passes-at (λ (param : Parameter). is_range_passed (names_tests place) param.1) params parameter is member)
    (passes-at (λ (param : Parameter). is_range_passed (sizes_tests (symbols_in place.graph)) param.1) params parameter free member))

-- ---- new parameters

named-weaker : (Is Was : ℕ → Type 0) → ((v : ℕ) → Is v → Was v) → (terms : List (ℕ × ℤ)) → AllNamed Is terms → AllNamed Was terms
named-weaker Is Was weaker terms each = each_weaker (λ term. Is term.0) (λ term. Was term.0) (λ term. weaker term.0) terms each

range-weaker : (Is Was : ℕ → Type 0) → ((v : ℕ) → Is v → Was v) → (r : Range) → RangeNamed Is r → RangeNamed Was r
range-weaker Is Was weaker r each = (
  named-weaker Is Was weaker r.begin.terms each.0,
  each_weaker (λ (end : Affine). AllNamed Is end.terms) (λ (end : Affine). AllNamed Was end.terms) (λ end. named-weaker Is Was weaker end.terms) r.ends each.1,
)

-- a variable that is no parameter of the map is another than each
is-other : (own : List Parameter) (v : ℕ) → (Contains (param_numbers own) v → ⊥) → IsOther own v
is-other [] v absent = tt
is-other (parameter ∷ own) v absent = (
  λ is. absent (subst (λ n. Contains (param_numbers (parameter ∷ own)) n) (sym is) (Contains-first parameter.0 (param_numbers own))),
  is-other own v (λ member. absent (Contains-later parameter.0 (param_numbers own) v member)),
)

are-distinct : (own : List Parameter) → AreOnce (param_numbers own) → AreDistinct own
are-distinct [] once = tt
are-distinct (parameter ∷ own) once = (is-other own parameter.0 once.0, are-distinct own once.1)

-- the parameters are known neither as those of scopes about nor as those of loops
abbrev pub AreUnknown : (params loops own : List ℕ) → Type 0
AreUnknown params loops own = (v : ℕ) → Contains own v → IsKnown params loops v → ⊥

pub are-fresh : (params loops : List ℕ) (around own : List Parameter) → AreOnce (param_numbers own) → AreUnknown params loops (param_numbers own) → AllByRecursion (λ (parameter : Parameter). IsNormalRange parameter.1) own →
    AreKnown params loops around → AllByRecursion (λ (parameter : Parameter). RangeNamed (IsKnown params loops) parameter.1) own → AreFresh around own
are-fresh params loops around own once unknown normal known ranges =
    let other : (v : ℕ) → IsKnown params loops v → IsOther own v = λ v is. is-other own v (λ member. unknown v member is) in
    record {
      distinct = are-distinct own once;
      normal = normal;
      others = each_weaker (IsParameterKnown params loops) (λ (parameter : Parameter). IsOther own parameter.0) (λ parameter is. other parameter.0 is.0) around known;
      outer_ranges = each_weaker (IsParameterKnown params loops) (λ (parameter : Parameter). RangeNamesOthers own parameter.1) (λ parameter is. range-weaker (IsKnown params loops) (IsOther own) other parameter.1 is.1) around known;
      own_ranges = each_weaker (λ (parameter : Parameter). RangeNamed (IsKnown params loops) parameter.1) (λ (parameter : Parameter). RangeNamesOthers own parameter.1)
          (λ parameter is. range-weaker (IsKnown params loops) (IsOther own) other parameter.1 is) own ranges;
    }

-- ---- inside the map

known-more : (params loops own : List ℕ) (v : ℕ) → IsKnown params loops v → IsKnown (own ++ params) loops v
known-more params loops own v (inl is) = inl (Contains-append_right own params v is)
known-more params loops own v (inr is) = inr is

parameter-more : (params loops own : List ℕ) (parameter : Parameter) → IsParameterKnown params loops parameter → IsParameterKnown (own ++ params) loops parameter
parameter-more params loops own parameter is =
    (known-more params loops own parameter.0 is.0, range-weaker (IsKnown params loops) (IsKnown (own ++ params) loops) (known-more params loops own) parameter.1 is.1)

own-known : (params loops : List ℕ) (own : List Parameter) → AllByRecursion (λ (parameter : Parameter). RangeNamed (IsKnown params loops) parameter.1) own → AreKnown (param_numbers own ++ params) loops own
own-known params loops own ranges =
    each-member (IsParameterKnown (param_numbers own ++ params) loops) own
    (λ parameter member. (
      inl (Contains-append_left (param_numbers own) params parameter.0 (Contains-map (λ (param : Parameter). param.0) own parameter member)),
      range-weaker (IsKnown params loops) (IsKnown (param_numbers own ++ params) loops) (known-more params loops (param_numbers own)) parameter.1
          (of_member (λ (parameter : Parameter). RangeNamed (IsKnown params loops) parameter.1) own parameter ranges member),
    ))

pub known-inside : (params loops : List ℕ) (around own : List Parameter) → AreKnown params loops around → AllByRecursion (λ (parameter : Parameter). RangeNamed (IsKnown params loops) parameter.1) own →
    AreKnown (param_numbers own ++ params) loops (around ++ own)
known-inside params loops around own known ranges =
    each-append (IsParameterKnown (param_numbers own ++ params) loops) around own
    (each_weaker (IsParameterKnown params loops) (IsParameterKnown (param_numbers own ++ params) loops) (parameter-more params loops (param_numbers own)) around known)
    (own-known params loops own ranges)
