-- What names variables in force does so with sizes.
use Rattle.std.proofs.Common.{◌≡◌, ◌⊎◌, inl, inr, ℕ, ◌<◌, nat_lt, ℤ, List, [], ◌∷◌, map, length, Bool, true, false, not, ◌||◌, cond, refl, ap, sym, subst, arith}
use Rattle.std.specs.List.{AllByRecursion, list_all}
use Rattle.sd_range.specs.declared.affine.Affine.{Affine}
use Rattle.sd_range.specs.declared.range.Range.{Range}
use Rattle.sd_range.specs.declared.subset.Dim.{Dim}
use Rattle.sd_range.specs.declared.subset.Dim.TheVariants.{Index, Span}
use Rattle.sd_graph.specs.PlainTree.{GraphTree, graph}
use Rattle.sd_graph.specs.TreeParts.{containers_of}
use Rattle.sd_graph.specs.ContainerParts.{Containers, container_at}
use Rattle.sd_graph.specs.InForce.{is_private, IsInForce}
use Rattle.sd_graph.specs.Wiring.{has_number}
use Rattle.sd_graph.specs.declared.link.Link.{Link}
use Rattle.sd_graph.proofs.Among.{or_first, or_second}
use Rattle.std.proofs.lemmas.List.{length-map}
use Rattle.sd_valid.specs.BoundExpression.{terms_left, bound_affine, bound_range, bound_dim, bound_link, bound_param}
use Rattle.sd_valid.specs.BoundTree.{bound_entry, bound_graph}
use Rattle.sd_valid.proofs.SizedUses.{same_kinds}
use Rattle.sd_validity.specs.rules.GraphParts.{variables_of, symbols_in}
use Rattle.sd_validity.specs.rules.Places.{Place}
use Rattle.sd_validity.specs.rules.Parts.{is_range_passed, is_dim_passed, is_link_passed, are_params_passed}
use Rattle.sd_validity.specs.rules.NamesInForce.{is_container_in_force, is_there, is_variable_in_force, names_tests}
use Rattle.sd_validity.specs.bound_places.BoundPlace.{bound_place}
use Rattle.sd_made.proofs.places_lemmas.Named.{InTerms, InAffine, InRange, InDim}
use Rattle.sd_made.proofs.places_lemmas.Held.{IsVariable}

-- ---- variables

same_variables : (sizes : List ℤ) (tree : GraphTree) → variables_of (bound_graph sizes tree) ≡ variables_of tree
same_variables sizes (graph name containers arguments variables symbols states) = refl

same_symbols : (sizes : List ℤ) (tree : GraphTree) → symbols_in (bound_graph sizes tree) ≡ symbols_in tree
same_symbols sizes (graph name containers arguments variables symbols states) = refl

of_three : (symbol param loop : Bool) → (symbol ≡ true) ⊎ ((param ≡ true) ⊎ (loop ≡ true)) → (symbol || (param || loop)) ≡ true
of_three symbol param loop (inl is) = or_first symbol (param || loop) is
of_three symbol param loop (inr (inl is)) = or_second symbol (param || loop) (or_first param loop is)
of_three symbol param loop (inr (inr is)) = or_second symbol (param || loop) (or_second param loop is)

symbol_or : (variable symbols : ℕ) (param loop : Bool) → (variable < symbols) ⊎ ((param ≡ true) ⊎ (loop ≡ true)) → (nat_lt variable symbols ≡ true) ⊎ ((param ≡ true) ⊎ (loop ≡ true))
symbol_or variable symbols param loop (inl less) = inl (grind (arith, less))
symbol_or variable symbols param loop (inr other) = inr other

module _ (sizes : List ℤ) (place : Place) where
  abbrev pub IsHere : ℕ → Type 0
  IsHere variable = IsVariable place.graph place.scopes.params place.loops variable

  pub there_bound : (variable : ℕ) → variable < length (variables_of place.graph) → is_there (bound_graph sizes place.graph) variable ≡ true
  there_bound variable there =
      let below : variable < length (variables_of (bound_graph sizes place.graph)) = subst (λ names. variable < length names) (sym (same_variables sizes place.graph)) there in
      grind (arith, below)

  pub variable_bound : (variable : ℕ) → IsHere variable → is_variable_in_force (bound_place sizes place) variable ≡ true
  variable_bound variable is =
      rw (there_bound variable is.0)
      (subst (λ symbols. (nat_lt variable symbols || (has_number place.scopes.params variable || has_number place.loops variable)) ≡ true) (sym (same_symbols sizes place.graph))
      (of_three (nat_lt variable (symbols_in place.graph)) (has_number place.scopes.params variable) (has_number place.loops variable)
      (symbol_or variable (symbols_in place.graph) (has_number place.scopes.params variable) (has_number place.loops variable) is.1)))

  pub used_bound : (used : List ℕ) → AllByRecursion IsHere used → list_all (is_variable_in_force (bound_place sizes place)) used ≡ true
  used_bound [] all = refl
  used_bound (variable ∷ used) all = rw (variable_bound variable all.0) (used_bound used all.1)

  -- ---- expressions

  kept_terms : (symbol : Bool) (term : ℕ × ℤ) (rest : List (ℕ × ℤ)) → IsHere term.0 → list_all (λ (term : ℕ × ℤ). is_variable_in_force (bound_place sizes place) term.0) rest ≡ true →
      list_all (λ (term : ℕ × ℤ). is_variable_in_force (bound_place sizes place) term.0) (cond (not symbol) (term ∷ rest) rest) ≡ true
  kept_terms true term rest is all = all
  kept_terms false term rest is all = rw (variable_bound term.0 is) all

  terms_bound : (terms : List (ℕ × ℤ)) → InTerms IsHere terms → list_all (λ (term : ℕ × ℤ). is_variable_in_force (bound_place sizes place) term.0) (terms_left (length sizes) terms) ≡ true
  terms_bound [] all = refl
  terms_bound (term ∷ terms) all = kept_terms (nat_lt term.0 (length sizes)) term (terms_left (length sizes) terms) all.0 (terms_bound terms all.1)

  pub affine_bound : (a : Affine) → InAffine IsHere a → (names_tests (bound_place sizes place)).expression (bound_affine sizes a) ≡ true
  affine_bound a is = terms_bound a.terms is

  ends_bound : (ends : List Affine) → AllByRecursion (InAffine IsHere) ends → list_all (names_tests (bound_place sizes place)).expression (map (bound_affine sizes) ends) ≡ true
  ends_bound [] all = refl
  ends_bound (end ∷ ends) all = rw (affine_bound end all.0) (ends_bound ends all.1)

  range_bound : (range : Range) → InRange IsHere range → is_range_passed (names_tests (bound_place sizes place)) (bound_range sizes range) ≡ true
  range_bound range is = rw (affine_bound range.begin is.0) (ends_bound range.ends is.1)

  dim_bound : (dim : Dim) → InDim IsHere dim → is_dim_passed (names_tests (bound_place sizes place)) (bound_dim sizes dim) ≡ true
  dim_bound (Index at) is = affine_bound at is
  dim_bound (Span range) is = range_bound range is

  dims_bound : (dims : List Dim) → AllByRecursion (InDim IsHere) dims → list_all (is_dim_passed (names_tests (bound_place sizes place))) (map (bound_dim sizes) dims) ≡ true
  dims_bound [] all = refl
  dims_bound (dim ∷ dims) all = rw (dim_bound dim all.0) (dims_bound dims all.1)

  pub params_bound : (params : List (ℕ × Range)) → AllByRecursion (λ param. InRange IsHere param.1) params → are_params_passed (names_tests (bound_place sizes place)) (map (bound_param sizes) params) ≡ true
  params_bound [] all = refl
  params_bound (param ∷ params) all = rw (range_bound param.1 all.0) (params_bound params all.1)

  -- ---- containers

  free_or_own : (private own : Bool) → (private ≡ false) ⊎ (own ≡ true) → (not private || own) ≡ true
  free_or_own private own (inl whole) = or_first (not private) own (ap not whole)
  free_or_own private own (inr inside) = or_second (not private) own inside

  of_containers : (containers : Containers) (number : ℕ) → IsInForce containers place.scopes.private number → is_container_in_force (map (bound_entry sizes) containers) place.scopes.private number ≡ true
  of_containers containers number is =
      let below : number < length (map (bound_entry sizes) containers) = subst (λ count. number < count) (sym (length-map containers (bound_entry sizes))) is.0 in
      let there : nat_lt number (length (map (bound_entry sizes) containers)) ≡ true = grind (arith, below) in
      rw there
      (subst (λ kind. (not (is_private kind) || has_number place.scopes.private number) ≡ true) (sym (same_kinds sizes containers number))
      (free_or_own (is_private (container_at containers number).kind) (has_number place.scopes.private number) is.1))

  pub container_bound : (number : ℕ) → IsInForce (containers_of place.graph) place.scopes.private number → is_container_in_force (containers_of (bound_graph sizes place.graph)) place.scopes.private number ≡ true
  container_bound number is = of_graph place.graph is
    where
      of_graph : (tree : GraphTree) → IsInForce (containers_of tree) place.scopes.private number → is_container_in_force (containers_of (bound_graph sizes tree)) place.scopes.private number ≡ true
      of_graph (graph name containers arguments variables symbols states) is = of_containers containers number is

  pub link_bound : (link : Link) → IsInForce (containers_of place.graph) place.scopes.private link.memlet.container → AllByRecursion (InDim IsHere) link.memlet.subset.dims →
      is_link_passed (names_tests (bound_place sizes place)) (bound_link sizes link) ≡ true
  link_bound link there names = rw (container_bound link.memlet.container there) (dims_bound link.memlet.subset.dims names)
