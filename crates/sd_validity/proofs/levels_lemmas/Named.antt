-- With sizes the namings of ranges and begins name lower variables alone, where they name no others beside the symbols.
use Rattle.std.proofs.Common.{◌≡◌, inl, inr, ℕ, ◌<◌, nat_lt, ℤ, List, [], ◌∷◌, ◌++◌, map, length, Bool, true, false, if◌then◌else◌, refl, arith}
use Rattle.std.specs.List.{AllByRecursion, flat_map}
use Rattle.sd_range.specs.declared.affine.Affine.{Affine}
use Rattle.sd_range.specs.declared.range.Range.{Range}
use Rattle.sd_graph.specs.PlainTree as plain
use Rattle.sd_graph.specs.PlainTree.{ValueTree, ValueTrees, no_value, and_value, ActTree, set_local, assign, branch, ActTrees, no_act, and_act, GuardTree, ExitTree, KindTree, ItemTrees, no_item, and_item, StateTrees, no_state, and_state, GraphTree, graph}
use Rattle.sd_valid.specs.BoundExpression.{terms_left, bound_affine, bound_assignment, bound_param}
use Rattle.sd_valid.specs.BoundTree.{bound_exit, bound_kind, bound_items}
use Rattle.sd_validity.specs.rules.Shapes.{variables_in}
use Rattle.sd_validity.specs.rules.Ranks.{Naming, param_namings, begin_naming, begin_namings, kind_namings, item_namings}
use Rattle.sd_validity.specs.levels.Levels.{IsLower, IsSizeOrLower, IsLowerBesideSizes}

-- ---- lists one after the other

module _ {A : Type 0} (P : A → Type 0) where
  pub joined : (first second : List A) → AllByRecursion P first → AllByRecursion P second → AllByRecursion P (first ++ second)
  joined [] second all others = others
  joined (member ∷ first) second all others = (all.0, joined first second all.1 others)

  pub in_first : (first second : List A) → AllByRecursion P (first ++ second) → AllByRecursion P first
  in_first [] second all = tt
  in_first (member ∷ first) second all = (all.0, in_first first second all.1)

  pub in_second : (first second : List A) → AllByRecursion P (first ++ second) → AllByRecursion P second
  in_second [] second all = all
  in_second (member ∷ first) second all = in_second first second all.1

-- ---- namings

module _ (sizes : List ℤ) (level : ℕ → ℕ) where
  -- before sizes, and with them
  abbrev pub Before : Naming → Type 0
  Before = IsLowerBesideSizes (length sizes) level

  abbrev pub After : Naming → Type 0
  After = IsLower level

  abbrev pub SizeOrLower : (variable other : ℕ) → Type 0
  SizeOrLower variable other = IsSizeOrLower (length sizes) level variable other

  abbrev pub Lower : (variable other : ℕ) → Type 0
  Lower variable other = level other < level variable

  pub no_size : (variable other : ℕ) → nat_lt other (length sizes) ≡ false → SizeOrLower variable other → Lower variable other
  no_size variable other e (inl size) = absurd (grind (arith, e, size))
  no_size variable other e (inr lower) = lower

  terms_lower : (variable : ℕ) (terms : List (ℕ × ℤ)) → AllByRecursion (SizeOrLower variable) (map (λ term. term.0) terms) → AllByRecursion (Lower variable) (map (λ term. term.0) (terms_left (length sizes) terms))
  terms_lower variable [] all = tt
  terms_lower variable (term ∷ terms) all = by_size (nat_lt term.0 (length sizes)) refl (terms_lower variable terms all.1) where
    by_size : (below : Bool) → nat_lt term.0 (length sizes) ≡ below → AllByRecursion (Lower variable) (map (λ term. term.0) (terms_left (length sizes) terms)) →
        AllByRecursion (Lower variable) (map (λ term. term.0) (terms_left (length sizes) (term ∷ terms)))
    by_size true e others = rw e others
    by_size false e others = rw e (no_size variable term.0 e all.0, others)

  affines_lower : (variable : ℕ) (affines : List Affine) → AllByRecursion (SizeOrLower variable) (flat_map variables_in affines) →
      AllByRecursion (Lower variable) (flat_map variables_in (map (bound_affine sizes) affines))
  affines_lower variable [] all = tt
  affines_lower variable (a ∷ affines) all =
      joined (Lower variable) (variables_in (bound_affine sizes a)) (flat_map variables_in (map (bound_affine sizes) affines))
      (terms_lower variable a.terms (in_first (SizeOrLower variable) (variables_in a) (flat_map variables_in affines) all))
      (affines_lower variable affines (in_second (SizeOrLower variable) (variables_in a) (flat_map variables_in affines) all))

  params_lower : (params : List (ℕ × Range)) → AllByRecursion Before (param_namings params) → AllByRecursion After (param_namings (map (bound_param sizes) params))
  params_lower [] all = tt
  params_lower (param ∷ params) all = (affines_lower param.0 (param.1.begin ∷ param.1.ends) all.0, params_lower params all.1)

  mutual
    kind_lower : (kind : KindTree) → AllByRecursion Before (kind_namings kind) → AllByRecursion After (kind_namings (bound_kind sizes kind))
    kind_lower (plain.task code ins outs) all = tt
    kind_lower (plain.map_scope sequential params private body) all =
        joined After (param_namings (map (bound_param sizes) params)) (item_namings (bound_items sizes body))
        (params_lower params (in_first Before (param_namings params) (item_namings body) all)) (items_lower body (in_second Before (param_namings params) (item_namings body) all))
    kind_lower (plain.consume_scope stream element private body) all = items_lower body all
    kind_lower (plain.nested_graph inner links) all = tt
    kind_lower (plain.reduction resolution axis identity from to) all = tt
    kind_lower (plain.copy from to) all = tt

    pub items_lower : (items : ItemTrees) → AllByRecursion Before (item_namings items) → AllByRecursion After (item_namings (bound_items sizes items))
    items_lower no_item all = tt
    items_lower (and_item line kind items) all =
        joined After (kind_namings (bound_kind sizes kind)) (item_namings (bound_items sizes items)) (kind_lower kind (in_first Before (kind_namings kind) (item_namings items) all))
        (items_lower items (in_second Before (kind_namings kind) (item_namings items) all))

  -- ---- begins

  set_lower : (set : List (ℕ × Affine)) → AllByRecursion Before (map begin_naming set) → AllByRecursion After (map begin_naming (map (bound_assignment sizes) set))
  set_lower [] all = tt
  set_lower (assignment ∷ set) all = (terms_lower assignment.0 assignment.1.terms all.0, set_lower set all.1)

  begins_of : (back : Bool) (set : List (ℕ × Affine)) → AllByRecursion Before (if back then [] else map begin_naming set) →
      AllByRecursion After (if back then [] else map begin_naming (map (bound_assignment sizes) set))
  begins_of true set all = tt
  begins_of false set all = set_lower set all

  pub begins_lower : (exits : List ExitTree) → AllByRecursion Before (begin_namings exits) → AllByRecursion After (begin_namings (map (bound_exit sizes) exits))
  begins_lower [] all = tt
  begins_lower (exit ∷ exits) all =
      let here : List Naming = if exit.back then [] else map begin_naming exit.set in
      joined After (if exit.back then [] else map begin_naming (map (bound_assignment sizes) exit.set)) (begin_namings (map (bound_exit sizes) exits))
      (begins_of exit.back exit.set (in_first Before here (begin_namings exits) all)) (begins_lower exits (in_second Before here (begin_namings exits) all))
