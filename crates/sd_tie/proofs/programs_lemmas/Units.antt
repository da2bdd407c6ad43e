-- Extents are 1 whatever the sizes are, by the names of the sizes as by their numbers.
use Rattle.std.proofs.Common.{◌≡◌, ◌≢◌, ◌∙◌, ◌⊎◌, inl, inr, ℕ, zero, suc, ◌+◌, ℤ, pos, neg_ℤ, ◌+ℤ◌, ◌*ℤ◌, List, [], ◌∷◌, Option, Some, None, option_map, unwrap_or, Bool, true, false, cond, ◌&&◌, bytes_eq, refl, ap, sym, subst, arith}
use Rattle.std.specs.Prelude.{⊤}
use Rattle.std.specs.Ordering.{int_eq}
use Rattle.std.specs.List.{AllByRecursion, list_all}
use Rattle.std.proofs.lemmas.Int.{ints}
use Rattle.std.proofs.lemmas.Bool.Decides.{Decides-int_eq}
use Rattle.std.proofs.lemmas.Slice.Eq.{bytes_eq-Decides}
use Rattle.sd_lex.specs.PlainTree.{Expression, number, named, element_at, one, two, choice, Expressions, no_expression, and_expression}
use Rattle.sd_lex.specs.declared.syntax.operator.OneSign.{OneSign}
use Rattle.sd_lex.specs.declared.syntax.operator.OneSign.TheVariants as one_signs
use Rattle.sd_lex.specs.declared.syntax.operator.TwoSign.{TwoSign}
use Rattle.sd_lex.specs.declared.syntax.operator.TwoSign.TheVariants as two_signs
use Rattle.sd_range.specs.Affine.{affine_value, terms_value, variable_value}
use Rattle.sd_range.specs.Terms.{IsNormal, coefficient_of}
use Rattle.sd_range.specs.Variables.{with_variable}
use Rattle.sd_range.specs.declared.affine.Affine.{Affine}
use Rattle.sd_range.proofs.Coefficients.{coefficient_of-first, coefficient_of-rest, coefficient_of-after, same_coefficients}
use Rattle.sd_range.proofs.Normal.{by_same, normal-combined}
use Rattle.sd_range.proofs.Variables.{variable_set, variable_kept}
use Rattle.sd_program.specs.Names.{Name, Named, in_force}
use Rattle.sd_program.specs.Affines.{affine_name, product_of, affine_one, affine_two, affine_of, affines_of}
use Rattle.sd_program.specs.Bounds.{EachExpression}
use Rattle.sd_program.specs.IsAffine.{IsAffine}
use Rattle.sd_task.specs.in_force.Names.{with_numbered}
use Rattle.sd_task.specs.in_force.Ranges.{extents_of}
use Rattle.sd_task.specs.in_force.Subsets.{has_no_term, are_units}
use Rattle.sd_says.specs.Exact.{variable_in, exact_one, exact_two, exact}
use Rattle.sd_says.specs.Setting.{with_each}
use Rattle.sd_says.specs.Declared.{are_ones, is_unit}
use Rattle.sd_tie.specs.items.Standing.{AreBelow}
use Rattle.sd_tie.proofs.elements_lemmas.Affines.{affine_exact}
use Rattle.sd_tie.proofs.elements_lemmas.Lookups.{in_force_made}
use Rattle.sd_tie.proofs.items_lemmas.Points.{below_more}

-- ---- tests

both_true : (first second : Bool) → (first && second) ≡ true → (first ≡ true) × (second ≡ true)
both_true true second h = (refl, h)
both_true false second h = cc

same_test : (first second : Bool) → (first ≡ true → second ≡ true) → (second ≡ true → first ≡ true) → first ≡ second
same_test true second there back = sym (there refl)
same_test false true there back = back refl
same_test false false there back = refl

all_hold : {A : Type 0} (test : A → Bool) (members : List A) → list_all test members ≡ true → AllByRecursion (λ member. test member ≡ true) members
all_hold test [] h = tt
all_hold test (member ∷ members) h = let both = both_true (test member) (list_all test members) h in (both.0, all_hold test members both.1)

holds_all : {A : Type 0} (test : A → Bool) (members : List A) → AllByRecursion (λ member. test member ≡ true) members → list_all test members ≡ true
holds_all test [] all = refl
holds_all test (member ∷ members) all = (λ i. all.0 i && holds_all test members all.1 i)

all_made : {A : Type 0} {P Q : A → Type 0} → ((member : A) → P member → Q member) → (members : List A) → AllByRecursion P members → AllByRecursion Q members
all_made make [] all = tt
all_made make (member ∷ members) all = (make member all.0, all_made make members all.1)

-- ---- affine expressions where one variable is 1 and the others are 0

abbrev alone : ℕ → List ℤ
alone variable = with_variable variable (pos 1) []

nothing : (variable : ℕ) → variable_value [] variable ≡ pos 0
nothing zero = refl
nothing (suc variable) = refl

other_zero : (variable other : ℕ) → variable ≢ other → variable_value (alone variable) other ≡ pos 0
other_zero variable other apart = variable_kept variable other (pos 1) [] apart ∙ nothing other

once : (coefficient : ℤ) → (coefficient *ℤ pos 1) +ℤ pos 0 ≡ coefficient
once coefficient = omega (arith, ints)

never : (coefficient rest : ℤ) → (coefficient *ℤ pos 0) +ℤ rest ≡ rest
never coefficient rest = omega (arith, ints)

no_more : (constant : ℤ) → constant +ℤ pos 0 ≡ constant
no_more constant = omega (arith, ints)

terms_alone : (terms : List (ℕ × ℤ)) (variable : ℕ) → IsNormal terms → terms_value (alone variable) terms ≡ coefficient_of terms variable
terms_alone [] variable normal = refl
terms_alone (term ∷ terms) variable normal =
    by_same term.0 variable
    (λ is.
    ap (λ value. (term.1 *ℤ value) +ℤ terms_value (alone variable) terms) (ap (variable_value (alone variable)) is ∙ variable_set variable (pos 1) [])
    ∙ ap (λ rest. (term.1 *ℤ pos 1) +ℤ rest) (terms_alone terms variable normal.2 ∙ coefficient_of-after term terms variable normal is)
    ∙ once term.1
    ∙ sym (coefficient_of-first term terms variable is))
    (λ apart.
    ap (λ value. (term.1 *ℤ value) +ℤ terms_value (alone variable) terms) (other_zero variable term.0 (λ same. apart (sym same)))
    ∙ ap (λ rest. (term.1 *ℤ pos 0) +ℤ rest) (terms_alone terms variable normal.2)
    ∙ never term.1 (coefficient_of terms variable)
    ∙ sym (coefficient_of-rest term terms variable apart))

terms_none : (terms : List (ℕ × ℤ)) → terms_value [] terms ≡ pos 0
terms_none [] = refl
terms_none (term ∷ terms) =
    ap (λ value. (term.1 *ℤ value) +ℤ terms_value [] terms) (nothing term.0)
    ∙ ap (λ rest. (term.1 *ℤ pos 0) +ℤ rest) (terms_none terms)
    ∙ never term.1 (pos 0)

-- ---- the normal form

name_normal : (found : Option ℕ) → IsNormal (affine_name found).terms
name_normal None = tt
name_normal (Some variable) = ((λ zero. omega (arith, ints, zero)), tt, tt)

one_normal : (sign : OneSign) (a : Affine) → IsNormal (affine_one sign a).terms
one_normal one_signs.Not a = tt
one_normal one_signs.Neg a = normal-combined [] (neg_ℤ (pos 1)) a.terms tt
one_normal one_signs.Inv a = tt

product_normal : (terms : List (ℕ × ℤ)) (a b : Affine) → IsNormal (product_of terms a b).terms
product_normal [] a b = normal-combined [] a.constant b.terms tt
product_normal (term ∷ terms) a b = normal-combined [] b.constant a.terms tt

two_normal : (sign : TwoSign) (a b : Affine) → IsNormal a.terms → IsNormal (affine_two sign a b).terms
two_normal two_signs.Add a b normal = normal-combined a.terms (pos 1) b.terms normal
two_normal two_signs.Sub a b normal = normal-combined a.terms (neg_ℤ (pos 1)) b.terms normal
two_normal two_signs.Mul a b normal = product_normal a.terms a b
two_normal sign a b normal = tt

affine_normal : (variables : Named ℕ) (expression : Expression) → IsNormal (affine_of variables expression).terms
affine_normal variables (number value) = tt
affine_normal variables (named name) = name_normal (in_force variables name)
affine_normal variables (element_at name at) = tt
affine_normal variables (one sign of) = one_normal sign (affine_of variables of)
affine_normal variables (two sign left right) = two_normal sign (affine_of variables left) (affine_of variables right) (affine_normal variables left)
affine_normal variables (choice value when other) = tt

-- a normal expression that is 1 where no variable is, and where each one alone is 1, is the constant 1
constant_one : (a : Affine) → affine_value [] a ≡ pos 1 → a.constant ≡ pos 1
constant_one a h = sym (no_more a.constant) ∙ ap (λ rest. a.constant +ℤ rest) (sym (terms_none a.terms)) ∙ h

no_coefficient : (coefficient : ℤ) → pos 1 +ℤ coefficient ≡ pos 1 → coefficient ≡ pos 0
no_coefficient coefficient h = omega (arith, ints, h)

terms_empty : (a : Affine) → IsNormal a.terms → a.constant ≡ pos 1 → ((variable : ℕ) → affine_value (alone variable) a ≡ pos 1) → a.terms ≡ []
terms_empty a normal constant each = same_coefficients a.terms [] normal tt
    (λ variable. no_coefficient (coefficient_of a.terms variable)
    ((λ i. sym constant i +ℤ sym (terms_alone a.terms variable normal) i) ∙ each variable))

-- ---- names

exact_same : (told other : Named ℤ) → ((name : Name) → variable_in told name ≡ variable_in other name) → (expression : Expression) → exact told expression ≡ exact other expression
exact_same told other same (number value) = refl
exact_same told other same (named name) = same name
exact_same told other same (element_at name at) = refl
exact_same told other same (one sign of) = ap (exact_one sign) (exact_same told other same of)
exact_same told other same (two sign left right) = (λ i. exact_two sign (exact_same told other same left i) (exact_same told other same right i))
exact_same told other same (choice value when other_value) = refl

-- the numbers fall from the newest name on
abbrev Fall : Named ℕ → Type 0
Fall [] = ⊤
Fall (entry ∷ entries) = AreBelow entry.1 entries × Fall entries

numbers_fall : (symbols : List Name) (next : ℕ) (known : Named ℕ) → Fall known → AreBelow next known → Fall (with_numbered symbols next known)
numbers_fall [] next known fall below = fall
numbers_fall (symbol ∷ symbols) next known fall below =
    numbers_fall symbols (next + 1) ((symbol, next) ∷ known) (below, fall) (omega arith, below_more next (next + 1) known (omega arith) below)

still_known : (symbols : List Name) (next : ℕ) (known : Named ℕ) (name : Name) → ((variable : ℕ) × (in_force known name ≡ Some variable)) → (variable : ℕ) × (in_force (with_numbered symbols next known) name ≡ Some variable)
still_known [] next known name h = h
still_known (symbol ∷ symbols) next known name h = still_known symbols (next + 1) ((symbol, next) ∷ known) name (go (bytes_eq name symbol) h)
  where
    go : (same : Bool) → ((variable : ℕ) × (in_force known name ≡ Some variable)) → (variable : ℕ) × (cond same (Some next) (in_force known name) ≡ Some variable)
    go true h = (next, refl)
    go false h = h

all_known : (symbols : List Name) (next : ℕ) (known : Named ℕ) → AllByRecursion (λ name. (variable : ℕ) × (in_force (with_numbered symbols next known) name ≡ Some variable)) symbols
all_known [] next known = tt
all_known (symbol ∷ symbols) next known = (
  still_known symbols (next + 1) ((symbol, next) ∷ known) symbol (next, ap (λ same. cond same (Some next) (in_force known symbol)) ((bytes_eq-Decides symbol symbol).1 refl)),
  all_known symbols (next + 1) ((symbol, next) ∷ known),
)

numbered_all : (P : Name → Type 0) (symbols : List Name) (next : ℕ) (known : Named ℕ) → AllByRecursion P symbols → AllByRecursion (λ entry. P entry.0) known → AllByRecursion (λ entry. P entry.0) (with_numbered symbols next known)
numbered_all P [] next known all before = before
numbered_all P (symbol ∷ symbols) next known all before = numbered_all P symbols (next + 1) ((symbol, next) ∷ known) all.1 (all.0, before)

-- ---- the names of a variable that is 1 alone

-- what names stand for where this variable is 1 and the others are 0
abbrev told_alone : (variable : ℕ) → Named ℕ → Named ℤ
told_alone variable entries = with_each (variable_value (alone variable)) entries

zero_before : (symbol name : Name) (told : Named ℤ) → variable_in told name ≡ pos 0 → variable_in ((symbol, pos 0) ∷ told) name ≡ pos 0
zero_before symbol name told h = go (bytes_eq name symbol)
  where
    go : (same : Bool) → unwrap_or (cond same (Some (pos 0)) (in_force told name)) (pos 0) ≡ pos 0
    go true = refl
    go false = h

one_before : (symbol name : Name) (told : Named ℤ) → variable_in told name ≡ pos 0 → variable_in ((symbol, pos 1) ∷ told) name ≡ variable_in ((symbol, pos 1) ∷ []) name
one_before symbol name told h = go (bytes_eq name symbol)
  where
    go : (same : Bool) → unwrap_or (cond same (Some (pos 1)) (in_force told name)) (pos 0) ≡ unwrap_or (cond same (Some (pos 1)) None) (pos 0)
    go true = refl
    go false = h

all_zero : (variable : ℕ) (entries : Named ℕ) → AreBelow variable entries → (name : Name) → variable_in (told_alone variable entries) name ≡ pos 0
all_zero variable [] below name = refl
all_zero variable (entry ∷ entries) below name =
    ap (λ value. variable_in ((entry.0, value) ∷ told_alone variable entries) name) (other_zero variable entry.1 (λ same. omega (arith, same, below.0)))
    ∙ zero_before entry.0 name (told_alone variable entries) (all_zero variable entries below.1 name)

not_named : (symbol name : Name) → bytes_eq name symbol ≡ false → variable_in ((symbol, pos 1) ∷ []) name ≡ pos 0
not_named symbol name apart = ap (λ same. unwrap_or (cond same (Some (pos 1)) None) (pos 0)) apart

-- a newer name that is 0 hides the same name
hidden : (symbol newer : Name) (told : Named ℤ) → bytes_eq newer symbol ≡ true → ((name : Name) → variable_in told name ≡ variable_in ((symbol, pos 1) ∷ []) name) → (name : Name) → variable_in ((newer, pos 0) ∷ told) name ≡ pos 0
hidden symbol newer told equal same name = go (bytes_eq name newer) refl
  where
    go : (this : Bool) → bytes_eq name newer ≡ this → unwrap_or (cond this (Some (pos 0)) (in_force told name)) (pos 0) ≡ pos 0
    go true e = refl
    go false e = same name ∙ not_named symbol name (ap (bytes_eq name) (sym ((bytes_eq-Decides newer symbol).0 equal)) ∙ e)

-- and no other
shown : (symbol newer : Name) (told : Named ℤ) → bytes_eq newer symbol ≡ false → ((name : Name) → variable_in told name ≡ variable_in ((symbol, pos 1) ∷ []) name) → (name : Name) →
    variable_in ((newer, pos 0) ∷ told) name ≡ variable_in ((symbol, pos 1) ∷ []) name
shown symbol newer told apart same name = go (bytes_eq name newer) refl
  where
    go : (this : Bool) → bytes_eq name newer ≡ this → unwrap_or (cond this (Some (pos 0)) (in_force told name)) (pos 0) ≡ variable_in ((symbol, pos 1) ∷ []) name
    go true e = sym (not_named symbol name (ap (λ (it : Name). bytes_eq it symbol) ((bytes_eq-Decides name newer).0 e) ∙ apart))
    go false e = same name

-- no name stands for the variable, or one does, and it alone stands for 1
abbrev IsOneName : (P : Name → Type 0) → Named ℤ → Type 0
IsOneName P told = ((name : Name) → variable_in told name ≡ pos 0) ⊎ ((symbol : Name) × (P symbol × ((name : Name) → variable_in told name ≡ variable_in ((symbol, pos 1) ∷ []) name)))

one_name : (P : Name → Type 0) (variable : ℕ) (entries : Named ℕ) → Fall entries → AllByRecursion (λ entry. P entry.0) entries → IsOneName P (told_alone variable entries)
one_name P variable [] fall all = inl (λ name. refl)
one_name P variable (entry ∷ entries) fall all =
    by_same variable entry.1
    (λ is. inr (
      entry.0,
      (
        all.0,
        λ name.
            (ap (λ value. variable_in ((entry.0, value) ∷ told_alone variable entries) name) (ap (variable_value (alone variable)) (sym is) ∙ variable_set variable (pos 1) [])
            ∙ one_before entry.0 name (told_alone variable entries) (all_zero variable entries (subst (λ bound. AreBelow bound entries) (sym is) fall.0) name)),
      ),
    ))
    (λ apart. subst (λ value. IsOneName P ((entry.0, value) ∷ told_alone variable entries)) (sym (other_zero variable entry.1 apart)) (before (one_name P variable entries fall.1 all.1)))
  where
    before : IsOneName P (told_alone variable entries) → IsOneName P ((entry.0, pos 0) ∷ told_alone variable entries)
    before (inl none) = inl (λ name. zero_before entry.0 name (told_alone variable entries) (none name))
    before (inr found) = go (bytes_eq entry.0 found.0) refl
      where
        go : (same : Bool) → bytes_eq entry.0 found.0 ≡ same → IsOneName P ((entry.0, pos 0) ∷ told_alone variable entries)
        go true e = inl (hidden found.0 entry.0 (told_alone variable entries) e found.1.1)
        go false e = inr (found.0, (found.1.0, shown found.0 entry.0 (told_alone variable entries) e found.1.1))

-- ---- extents

module _ (symbols : List Name) where
  abbrev numbers : Named ℕ
  numbers = with_numbered symbols 0 []

  fall : Fall numbers
  fall = numbers_fall symbols 0 [] tt tt

  by_names : (values : List ℤ) (told : Named ℤ) → ((name : Name) → variable_in (with_each (variable_value values) numbers) name ≡ variable_in told name) →
      (expression : Expression) → IsAffine expression → affine_value values (affine_of numbers expression) ≡ exact told expression
  by_names values told same expression affine = affine_exact values numbers expression affine ∙ exact_same (with_each (variable_value values) numbers) told same expression

  no_names : (name : Name) → variable_in (with_each (variable_value []) numbers) name ≡ pos 0
  no_names name = ap (λ found. unwrap_or found (pos 0)) (in_force_made (variable_value []) numbers name) ∙ go (in_force numbers name)
    where
      go : (found : Option ℕ) → unwrap_or (option_map (variable_value []) found) (pos 0) ≡ pos 0
      go None = refl
      go (Some variable) = nothing variable

  -- a symbol is the one name of its variable
  of_symbol : (symbol : Name) (variable : ℕ) → in_force numbers symbol ≡ Some variable → (name : Name) → variable_in (told_alone variable numbers) name ≡ variable_in ((symbol, pos 1) ∷ []) name
  of_symbol symbol variable is = go (one_name (λ name. ⊤) variable numbers fall (numbered_all (λ name. ⊤) symbols 0 [] (anything symbols) tt))
    where
      anything : (names : List Name) → AllByRecursion (λ name. ⊤) names
      anything [] = tt
      anything (name ∷ names) = (tt, anything names)

      itself : variable_in (told_alone variable numbers) symbol ≡ pos 1
      itself = ap (λ found. unwrap_or found (pos 0)) (in_force_made (variable_value (alone variable)) numbers symbol ∙ ap (option_map (variable_value (alone variable))) is) ∙ variable_set variable (pos 1) []

      go : IsOneName (λ name. ⊤) (told_alone variable numbers) → (name : Name) → variable_in (told_alone variable numbers) name ≡ variable_in ((symbol, pos 1) ∷ []) name
      go (inl none) = let wrong : pos 0 ≡ pos 1 = sym (none symbol) ∙ itself in absurd (omega (arith, ints, wrong))
      go (inr found) = named_so (bytes_eq symbol found.0) refl
        where
          named_so : (same : Bool) → bytes_eq symbol found.0 ≡ same → (name : Name) → variable_in (told_alone variable numbers) name ≡ variable_in ((symbol, pos 1) ∷ []) name
          named_so true e = λ name. found.1.1 name ∙ ap (λ (it : Name). variable_in ((it, pos 1) ∷ []) name) (sym ((bytes_eq-Decides symbol found.0).0 e))
          named_so false e = let wrong : pos 0 ≡ pos 1 = sym (not_named found.0 symbol e) ∙ sym (found.1.1 symbol) ∙ itself in absurd (omega (arith, ints, wrong))

  -- ---- constants are 1 with all sizes

  constant_so : (values : List ℤ) (a : Affine) → (int_eq a.constant (pos 1) && has_no_term a.terms) ≡ true → affine_value values a ≡ pos 1
  constant_so values a h =
      let both = both_true (int_eq a.constant (pos 1)) (has_no_term a.terms) h in
      (λ i. (Decides-int_eq a.constant (pos 1)).0 both.0 i +ℤ terms_value values (empty a.terms both.1 i))
    where
      empty : (terms : List (ℕ × ℤ)) → has_no_term terms ≡ true → terms ≡ []
      empty [] e = refl
      empty (term ∷ terms) e = cc

  ones_with : (values : List ℤ) (told : Named ℤ) → ((name : Name) → variable_in (with_each (variable_value values) numbers) name ≡ variable_in told name) →
      (extents : Expressions) → EachExpression IsAffine extents → are_units (affines_of numbers extents) ≡ true → are_ones told extents ≡ true
  ones_with values told same no_expression affine h = refl
  ones_with values told same (and_expression first rest) affine h =
      let first_affine : Affine = affine_of numbers first in
      let both = both_true (int_eq first_affine.constant (pos 1) && has_no_term first_affine.terms) (are_units (affines_of numbers rest)) h in
      let value : exact told first ≡ pos 1 = sym (by_names values told same first affine.0) ∙ constant_so values first_affine both.0 in
      (λ i. int_eq (pos 1) (value i) && ones_with values told same rest affine.1 both.1 i)

  units_are : (extents : Expressions) → EachExpression IsAffine extents → are_units (affines_of numbers extents) ≡ true → is_unit symbols extents ≡ true
  units_are extents affine h =
      (λ i. ones_with [] [] no_names extents affine h i
      && holds_all (λ symbol. are_ones ((symbol, pos 1) ∷ []) extents) symbols
      (all_made {P = λ name. (variable : ℕ) × (in_force numbers name ≡ Some variable)} {Q = λ symbol. are_ones ((symbol, pos 1) ∷ []) extents ≡ true}
      (λ symbol known. ones_with (alone known.0) ((symbol, pos 1) ∷ []) (of_symbol symbol known.0 known.1) extents affine h) symbols (all_known symbols 0 [])) i)

  -- ---- what is 1 with these sizes is the constant 1

  one_unit : (expression : Expression) → IsAffine expression → exact [] expression ≡ pos 1 → AllByRecursion (λ symbol. exact ((symbol, pos 1) ∷ []) expression ≡ pos 1) symbols →
      (int_eq (affine_of numbers expression).constant (pos 1) && has_no_term (affine_of numbers expression).terms) ≡ true
  one_unit expression affine none each =
      let a : Affine = affine_of numbers expression in
      let constant : a.constant ≡ pos 1 = constant_one a (by_names [] [] no_names expression affine ∙ none) in
      let empty : a.terms ≡ [] = terms_empty a (affine_normal numbers expression) constant (λ variable.
      go variable (one_name (λ symbol. exact ((symbol, pos 1) ∷ []) expression ≡ pos 1) variable numbers fall
      (numbered_all (λ symbol. exact ((symbol, pos 1) ∷ []) expression ≡ pos 1) symbols 0 [] each tt))) in
      (λ i. int_eq (constant i) (pos 1) && has_no_term (empty i))
    where
      go : (variable : ℕ) → IsOneName (λ symbol. exact ((symbol, pos 1) ∷ []) expression ≡ pos 1) (told_alone variable numbers) → affine_value (alone variable) (affine_of numbers expression) ≡ pos 1
      go variable (inl zeros) = by_names (alone variable) [] zeros expression affine ∙ none
      go variable (inr found) = by_names (alone variable) ((found.0, pos 1) ∷ []) found.1.1 expression affine ∙ found.1.0

  -- the first extent, and the others
  ones_first : (told : Named ℤ) (first : Expression) (rest : Expressions) → are_ones told (and_expression first rest) ≡ true → exact told first ≡ pos 1
  ones_first told first rest h = sym ((Decides-int_eq (pos 1) (exact told first)).0 (both_true (int_eq (pos 1) (exact told first)) (are_ones told rest) h).0)

  ones_rest : (told : Named ℤ) (first : Expression) (rest : Expressions) → are_ones told (and_expression first rest) ≡ true → are_ones told rest ≡ true
  ones_rest told first rest h = (both_true (int_eq (pos 1) (exact told first)) (are_ones told rest) h).1

  units_from : (extents : Expressions) → EachExpression IsAffine extents → are_ones [] extents ≡ true → AllByRecursion (λ symbol. are_ones ((symbol, pos 1) ∷ []) extents ≡ true) symbols → are_units (affines_of numbers extents) ≡ true
  units_from no_expression affine none each = refl
  units_from (and_expression first rest) affine none each =
      (λ i. one_unit first affine.0 (ones_first [] first rest none)
      (all_made {P = λ symbol. are_ones ((symbol, pos 1) ∷ []) (and_expression first rest) ≡ true} {Q = λ symbol. exact ((symbol, pos 1) ∷ []) first ≡ pos 1} (λ symbol. ones_first ((symbol, pos 1) ∷ []) first rest) symbols each) i
      && units_from rest affine.1 (ones_rest [] first rest none)
      (all_made {P = λ symbol. are_ones ((symbol, pos 1) ∷ []) (and_expression first rest) ≡ true} {Q = λ symbol. are_ones ((symbol, pos 1) ∷ []) rest ≡ true} (λ symbol. ones_rest ((symbol, pos 1) ∷ []) first rest) symbols each) i)

  are_constant : (extents : Expressions) → EachExpression IsAffine extents → is_unit symbols extents ≡ true → are_units (affines_of numbers extents) ≡ true
  are_constant extents affine h =
      let both = both_true (are_ones [] extents) (list_all (λ symbol. are_ones ((symbol, pos 1) ∷ []) extents) symbols) h in
      units_from extents affine both.0 (all_hold (λ symbol. are_ones ((symbol, pos 1) ∷ []) extents) symbols both.1)

  all_true : (names : List Name) → true ≡ list_all (λ symbol. are_ones ((symbol, pos 1) ∷ []) no_expression) names
  all_true [] = refl
  all_true (name ∷ names) = all_true names

  -- the extents are written as 1 each where they are so by the numbers of the sizes
  pub units_tied : (extents : Expressions) → EachExpression IsAffine extents → are_units (extents_of numbers extents) ≡ is_unit symbols extents
  units_tied no_expression affine = all_true symbols
  units_tied (and_expression first rest) affine =
      same_test (are_units (affines_of numbers (and_expression first rest))) (is_unit symbols (and_expression first rest)) (units_are (and_expression first rest) affine) (are_constant (and_expression first rest) affine)
