-- Variables each of whose namings names lower ones alone have a rank.
use Rattle.std.proofs.Common.{◌≡◌, ◌∙◌, ℕ, zero, suc, ◌<◌, ◌≤◌, nat_eq, List, [], ◌∷◌, ◌++◌, map, length, Bool, true, false, refl, ap, sym, subst, arith, length-append}
use Rattle.std.proofs.lemmas.List.{length-map}
use Rattle.std.specs.List.{AllByRecursion, list_all}
use Rattle.sd_graph.specs.LoopScope.{numbers_below}
use Rattle.sd_graph.specs.PlainTree.{GraphTree}
use Rattle.sd_graph.specs.TreeParts.{states_of_graph}
use Rattle.sd_validity.specs.rules.GraphParts.{variables_of}
use Rattle.sd_validity.specs.rules.Ranks.{Naming, namings, is_ranked, is_naming_ranked, ranked, ranks_of}
use Rattle.sd_validity.specs.levels.Levels.{IsLower}

below_counted : (count : ℕ) → length (numbers_below count) ≡ count
below_counted zero = refl
below_counted (suc count) = omega (arith, length-append (numbers_below count) (count ∷ []), below_counted count)

map_behind : (f : ℕ → Bool) (first : List ℕ) (last : ℕ) → map f (first ++ last ∷ []) ≡ map f first ++ f last ∷ []
map_behind f [] last = refl
map_behind f (number ∷ first) last = ap (λ rest. f number ∷ rest) (map_behind f first last)

abbrev TrueAt : List Bool → ℕ → Type 0
TrueAt table number = is_ranked table number ≡ true

one_behind : (table : List Bool) (last : Bool) (number : ℕ) → TrueAt table number → (number ≡ length table → last ≡ true) → TrueAt (table ++ last ∷ []) number
one_behind [] last zero there is = is refl
one_behind [] last (suc number) there is = refl
one_behind (first ∷ table) last zero there is = there
one_behind (first ∷ table) last (suc number) there is = one_behind table last number there (λ e. is (ap suc e))

true_below : (f : ℕ → Bool) (number count : ℕ) → f number ≡ true → TrueAt (map f (numbers_below count)) number
true_below f number zero is = refl
true_below f number (suc count) is =
    let counted : length (map f (numbers_below count)) ≡ count = length-map (numbers_below count) f ∙ below_counted count in
    subst (λ table. TrueAt table number) (sym (map_behind f (numbers_below count) count))
    (one_behind (map f (numbers_below count)) (f count) number (true_below f number count is) (λ e. subst (λ other. f other ≡ true) (e ∙ counted) is))

module _ (all : List Naming) (count : ℕ) (level : ℕ → ℕ) where
  named_ranked : (table : List Bool) (most : ℕ) → ((number : ℕ) → level number < most → TrueAt table number) → (bound : ℕ) → bound ≤ most → (named : List ℕ) →
      AllByRecursion (λ other. level other < bound) named → list_all (is_ranked table) named ≡ true
  named_ranked table most so bound few [] lower = refl
  named_ranked table most so bound few (other ∷ named) lower = rw (so other (omega (arith, lower.0, few))) (named_ranked table most so bound few named lower.1)

  naming_ranked : (same : Bool) (table : List Bool) (most number : ℕ) → ((number : ℕ) → level number < most → TrueAt table number) → level number ≤ most → (naming : Naming) →
      nat_eq naming.variable number ≡ same → IsLower level naming → is_naming_ranked table number naming ≡ true
  naming_ranked false table most number so few naming e lower = rw e refl
  naming_ranked true table most number so few naming e lower =
      let is : naming.variable ≡ number = grind (arith, e) in
      rw e (named_ranked table most so (level naming.variable) (subst (λ variable. level variable ≤ most) (sym is) few) naming.named lower)

  all_ranked : (table : List Bool) (most number : ℕ) → ((number : ℕ) → level number < most → TrueAt table number) → level number ≤ most → (namings : List Naming) →
      AllByRecursion (IsLower level) namings → list_all (is_naming_ranked table number) namings ≡ true
  all_ranked table most number so few [] lower = refl
  all_ranked table most number so few (naming ∷ namings) lower =
      rw (naming_ranked (nat_eq naming.variable number) table most number so few naming refl lower.0) (all_ranked table most number so few namings lower.1)

  -- a variable has a rank of at most so much, where its level is lower
  pub lower_ranked : AllByRecursion (IsLower level) all → (most number : ℕ) → level number < most → is_ranked (ranked all count most) number ≡ true
  lower_ranked lower zero number few = absurd (omega (arith, few))
  lower_ranked lower (suc most) number few =
      true_below (λ number. list_all (is_naming_ranked (ranked all count most) number) all) number count
      (all_ranked (ranked all count most) most number (lower_ranked lower most) (omega (arith, few)) all lower)

pub graph_ranked : (tree : GraphTree) (level : ℕ → ℕ) → AllByRecursion (IsLower level) (namings (states_of_graph tree)) → (number : ℕ) → level number < 7 → is_ranked (ranks_of tree) number ≡ true
unfolding ranks_of
graph_ranked tree level lower number few = lower_ranked (namings (states_of_graph tree)) (length (variables_of tree)) level lower 7 number few
