-- The variables that code uses stand at their places.
use Rattle.std.proofs.Common.{◌≡◌, ◌∙◌, ℕ, suc, ◌+◌, ◌<◌, List, [], ◌∷◌, ◌++◌, length, Option, Some, None, unwrap_or, Bool, true, false, cond, not, ◌||◌, if◌then◌else◌, nat_eq, position, slice_index_or, refl, ap, sym, subst, arith}
use Rattle.std.specs.List.{list_any, prefix_len}
use Rattle.std.specs.Bool.{⊤}
use Rattle.std.proofs.lemmas.Bool.{lt-ltb}
use Rattle.sd_lex.specs.PlainTree.{Expression, number, named, element_at, one, two, choice}
use Rattle.sd_graph.proofs.Among.{nat_eq_same}
use Rattle.sd_program.specs.Names.{Named, in_force}
use Rattle.sd_task.specs.task.UsedVariables.{with_used, with_variable}
use Rattle.sd_task.specs.task.ElementCode.{used_with}

-- the variable is one of these
abbrev pub Has : List ℕ → ℕ → Type 0
Has used variable = list_any (nat_eq variable) used ≡ true

abbrev place_in : ℕ → List ℕ → ℕ
place_in variable used = prefix_len (λ other. not (nat_eq variable other)) used

abbrev IsThere : ℕ → List ℕ → ℕ → Type 0
IsThere variable used place = (place < length used) × (slice_index_or used place 0 ≡ variable)

same_number : (variable other : ℕ) → nat_eq variable other ≡ true → other ≡ variable
same_number variable other e = grind (arith, e)

there : (variable : ℕ) (used : List ℕ) → Has used variable → IsThere variable used (place_in variable used)
there variable [] h = cc
there variable (first ∷ rest) h = go (nat_eq variable first) refl h (there variable rest)
  where
    go : (same : Bool) → nat_eq variable first ≡ same → (same || list_any (nat_eq variable) rest) ≡ true → (Has rest variable → IsThere variable rest (place_in variable rest)) →
        IsThere variable (first ∷ rest) (cond (not same) (1 + place_in variable rest) 0)
    go true e h later = (omega arith, same_number variable first e)
    go false e h later =
        let t = later h in
        let next : 1 + place_in variable rest ≡ suc (place_in variable rest) = omega arith in
        (omega (arith, t.0), ap (λ place. slice_index_or (first ∷ rest) place 0) next ∙ t.1)

-- the place of a variable that is used
pub place_found : (variable : ℕ) (used : List ℕ) → Has used variable →
    (unwrap_or (position (nat_eq variable) used) 0 < length used) × (slice_index_or used (unwrap_or (position (nat_eq variable) used) 0) 0 ≡ variable)
place_found variable used h =
    let t = there variable used h in
    let e : unwrap_or (position (nat_eq variable) used) 0 ≡ place_in variable used = ap (λ below. unwrap_or (cond below (Some (place_in variable used)) None) 0) (lt-ltb (place_in variable used) (length used) t.0) in
    subst (IsThere variable used) (sym e) t

has_append : (used more : List ℕ) (variable : ℕ) → Has used variable → Has (used ++ more) variable
has_append [] more variable h = cc
has_append (first ∷ used) more variable h = go (nat_eq variable first) h (has_append used more variable)
  where
    go : (same : Bool) → (same || list_any (nat_eq variable) used) ≡ true → (Has used variable → Has (used ++ more) variable) → (same || list_any (nat_eq variable) (used ++ more)) ≡ true
    go true h later = refl
    go false h later = later h

has_last : (used : List ℕ) (variable : ℕ) → Has (used ++ variable ∷ []) variable
has_last [] variable = ap (λ same. same || false) (nat_eq_same variable variable refl)
has_last (first ∷ used) variable = go (nat_eq variable first) (has_last used variable)
  where
    go : (same : Bool) → Has (used ++ variable ∷ []) variable → (same || list_any (nat_eq variable) (used ++ variable ∷ [])) ≡ true
    go true later = refl
    go false later = later

kept_with : (used : List ℕ) (variable other : ℕ) → Has used other → Has (with_used used variable) other
kept_with used variable other h = go (list_any (nat_eq variable) used)
  where
    go : (is : Bool) → Has (if is then used else used ++ variable ∷ []) other
    go true = h
    go false = has_append used (variable ∷ []) other h

has_with : (used : List ℕ) (variable : ℕ) → Has (with_used used variable) variable
has_with used variable = go (list_any (nat_eq variable) used) refl
  where
    go : (is : Bool) → list_any (nat_eq variable) used ≡ is → Has (if is then used else used ++ variable ∷ []) variable
    go true e = e
    go false e = has_last used variable

-- a name that is in force has its variable among those used
abbrev pub IsUsed : List ℕ → Option ℕ → Type 0
IsUsed used None = ⊤
IsUsed used (Some variable) = Has used variable

-- one more variable
pub kept_one : (used : List ℕ) (found : Option ℕ) (other : ℕ) → Has used other → Has (with_variable used found) other
kept_one used None other h = h
kept_one used (Some variable) other h = kept_with used variable other h

pub has_one : (used : List ℕ) (found : Option ℕ) → IsUsed (with_variable used found) found
has_one used None = tt
has_one used (Some variable) = has_with used variable

pub used_more : (used all : List ℕ) → ((other : ℕ) → Has used other → Has all other) → (found : Option ℕ) → IsUsed used found → IsUsed all found
used_more used all more None h = tt
used_more used all more (Some variable) h = more variable h

-- ---- expressions

kept_by : (variables : Named ℕ) (used : List ℕ) (expression : Expression) (other : ℕ) → Has used other → Has (used_with variables used expression) other
kept_by variables used (number value) other h = h
kept_by variables used (named name) other h = kept_one used (in_force variables name) other h
kept_by variables used (element_at name at) other h = h
kept_by variables used (one sign of) other h = kept_by variables used of other h
kept_by variables used (two sign left right) other h = kept_by variables (used_with variables used left) right other (kept_by variables used left other h)
kept_by variables used (choice value when last) other h =
    kept_by variables (used_with variables (used_with variables used value) when) last other (kept_by variables (used_with variables used value) when other (kept_by variables used value other h))

-- each variable that an expression names is among those used
abbrev pub AllUsed : Named ℕ → List ℕ → Expression → Type 0
AllUsed variables used (number value) = ⊤
AllUsed variables used (named name) = IsUsed used (in_force variables name)
AllUsed variables used (element_at name at) = ⊤
AllUsed variables used (one sign of) = AllUsed variables used of
AllUsed variables used (two sign left right) = AllUsed variables used left × AllUsed variables used right
AllUsed variables used (choice value when other) = AllUsed variables used value × AllUsed variables used when × AllUsed variables used other

all_used_in : (variables : Named ℕ) (used : List ℕ) (expression : Expression) (all : List ℕ) → ((other : ℕ) → Has (used_with variables used expression) other → Has all other) → AllUsed variables all expression
all_used_in variables used (number value) all more = tt
all_used_in variables used (named name) all more = used_more (with_variable used (in_force variables name)) all more (in_force variables name) (has_one used (in_force variables name))
all_used_in variables used (element_at name at) all more = tt
all_used_in variables used (one sign of) all more = all_used_in variables used of all more
all_used_in variables used (two sign left right) all more = (
  all_used_in variables used left all (λ other h. more other (kept_by variables (used_with variables used left) right other h)),
  all_used_in variables (used_with variables used left) right all more,
)
all_used_in variables used (choice value when last) all more =
    let first : List ℕ = used_with variables used value in
    let second : List ℕ = used_with variables first when in (
      all_used_in variables used value all (λ other h. more other (kept_by variables second last other (kept_by variables first when other h))),
      all_used_in variables first when all (λ other h. more other (kept_by variables second last other h)),
      all_used_in variables second last all more,
    )

pub all_used : (variables : Named ℕ) (expression : Expression) → AllUsed variables (used_with variables [] expression) expression
all_used variables expression = all_used_in variables [] expression (used_with variables [] expression) (λ other h. h)
