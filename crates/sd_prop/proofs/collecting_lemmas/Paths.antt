-- The scope with a path, among those that are left.
use Rattle.std.proofs.Common.{◌≡◌, ℕ, nat_eq, ◌+◌, ◌<◌, List, [], ◌∷◌, length, drop, slice_index_or, Some, true, false, ◌&&◌, if◌then◌else◌, refl, ap, ◌∙◌}
use Rattle.std.specs.Str.{bytes_eq}
use Rattle.sd_prop.specs.propagation.Scopes.{Scope, is_same_path, scope_with}
use Rattle.sd_subset.proofs.boxes_lemmas.Walks.{drop-next}

-- two paths are the same where all their numbers are
pub same_numbers : (path other : List ℕ) → is_same_path path other ≡ bytes_eq path other
same_numbers [] [] = refl
same_numbers [] (number ∷ other) = refl
same_numbers (number ∷ path) [] = refl
same_numbers (number ∷ path) (second ∷ other) = ap (λ rest. nat_eq number second && rest) (same_numbers path other)

module _ (path : List ℕ) (scopes : List Scope) (i : ℕ) (scope : Scope) (below : i < length scopes) (is : scope ≡ slice_index_or scopes i scope) where
  -- it is this one
  pub found_here : bytes_eq path scope.path ≡ true → scope_with path (drop i scopes) ≡ Some scope
  found_here same =
      ap (scope_with path) (drop-next scopes i scope below is)
      ∙ ap (λ test. if test then Some scope else scope_with path (drop (i + 1) scopes)) (same_numbers path scope.path ∙ same)

  -- or one behind it
  pub found_behind : bytes_eq path scope.path ≡ false → scope_with path (drop i scopes) ≡ scope_with path (drop (i + 1) scopes)
  found_behind other =
      ap (scope_with path) (drop-next scopes i scope below is)
      ∙ ap (λ test. if test then Some scope else scope_with path (drop (i + 1) scopes)) (same_numbers path scope.path ∙ other)
