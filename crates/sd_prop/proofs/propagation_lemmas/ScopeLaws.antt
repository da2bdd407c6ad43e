-- The scope at a path.
use Rattle.std.specs.List.{Contains}
use Rattle.std.proofs.Common.{◌≡◌, ℕ, nat_eq, List, [], ◌∷◌, Some, Bool, true, false, ◌&&◌, if◌then◌else◌, refl, sym, subst}
use Rattle.std.proofs.lemmas.Bool.{eqb-true}
use Rattle.sd_range.proofs.Members.{Contains-first, Contains-later}
use Rattle.sd_prop.specs.propagation.Scopes.{Scope, is_same_path, scope_with}

both : (a b : Bool) → (a && b) ≡ true → (a ≡ true) × (b ≡ true)
both true b is = (refl, is)
both false b is = cc

same-path : (path other : List ℕ) → is_same_path path other ≡ true → other ≡ path
same-path [] [] is = refl
same-path [] (number ∷ other) is = cc
same-path (number ∷ path) [] is = cc
same-path (number ∷ path) (second ∷ other) is =
    let tests = both (nat_eq number second) (is_same_path path other) is in
    let first : second ≡ number = sym (eqb-true number second tests.0) in
    let rest = same-path path other tests.1 in
    λ i. first i ∷ rest i

same_scope : (a b : Scope) → Some a ≡ Some b → a ≡ b
same_scope a b is = cc

-- one of the scopes, and with this path
pub record IsFound (path : List ℕ) (scopes : List Scope) (scope : Scope) : Type 0 where
  pub has : scope.path ≡ path
  pub member : Contains scopes scope

found-by : (test : Bool) (path : List ℕ) (first scope : Scope) (scopes : List Scope) → is_same_path path first.path ≡ test →
    (scope_with path scopes ≡ Some scope → IsFound path scopes scope) → (if test then Some first else scope_with path scopes) ≡ Some scope → IsFound path (first ∷ scopes) scope
found-by true path first scope scopes same rest is =
    subst (IsFound path (first ∷ scopes)) (same_scope first scope is) (record { has = same-path path first.path same; member = Contains-first first scopes })
found-by false path first scope scopes same rest is =
    let later = rest is in record { has = later.has; member = Contains-later first scopes scope later.member }

pub found : (path : List ℕ) (scopes : List Scope) (scope : Scope) → scope_with path scopes ≡ Some scope → IsFound path scopes scope
found path [] scope is = cc
found path (first ∷ scopes) scope is = found-by (is_same_path path first.path) path first scope scopes refl (found path scopes scope) is
