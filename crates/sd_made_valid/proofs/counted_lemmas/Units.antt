-- Extents are 1 in the graph exactly where they are whatever numbers the variables have.
use Rattle.std.proofs.Common.{◌≡◌, ◌∙◌, ◌⊎◌, inl, inr, ℕ, suc, ◌+◌, ℤ, pos, List, [], ◌∷◌, length, Bool, true, false, ◌&&◌, ◌||◌, cond, Option, Some, unwrap_or, bytes_eq, slice_index_or, refl, ap, sym, subst, arith}
use Rattle.std.specs.Ordering.{int_eq}
use Rattle.std.proofs.lemmas.Bool.Decides.{Decides-int_eq}
use Rattle.std.proofs.lemmas.List.{length-map}
use Rattle.std.proofs.lemmas.Slice.Eq.{bytes_eq-Decides}
use Rattle.sd_range.specs.declared.affine.Affine.{Affine}
use Rattle.sd_lex.specs.PlainTree.{Expression, number, named, element_at, one, two, choice, Expressions, no_expression, and_expression}
use Rattle.sd_names.specs.Names.{is_among}
use Rattle.sd_names.specs.Expressions.{expression_list}
use Rattle.sd_program.specs.Names.{Name, Named, in_force}
use Rattle.sd_program.specs.Affines.{affine_number, affine_name, affine_one, affine_two, affine_of, affines_of}
use Rattle.sd_program.specs.IsAffine.{IsAffine}
use Rattle.sd_program.proofs.OtherNumbers.{EachName, affine_by, affine_of-by, with_numbers, told}
use Rattle.sd_task.specs.in_force.Names.{number_or, with_numbered}
use Rattle.sd_task.specs.in_force.Ranges.{extents_of}
use Rattle.sd_task.specs.in_force.Subsets.{has_no_term, are_units, first_element, whole, first_or_whole, ranges_among}
use Rattle.sd_made_valid.specs.read_shapes.Fits.{extents_written, IsOver, AreExtents, values}
use Rattle.sd_made_valid.specs.read_dimensions.Counts.{AreOne, IsWhole}

false_is_not_true : {P : Type 0} → false ≡ true → P
false_is_not_true is = absurd (differ is)
  where
    differ : false ≡ true → ⊥
    differ e = cc

both : (a b : Bool) → a && b ≡ true → (a ≡ true) × (b ≡ true)
both true b is = (refl, is)
both false b is = false_is_not_true is

-- ---- size symbols by their numbers

-- what is numbered before stays so, or is one of the names that follow, at its own number
number_at : (names : List Name) (next : ℕ) (known : Named ℕ) (name : Name) →
    ((k : ℕ) × ((in_force (with_numbered names next known) name ≡ Some (next + k)) × (slice_index_or names k [] ≡ name))) ⊎ ((in_force (with_numbered names next known) name ≡ in_force known name) × (is_among names name ≡ false))
number_at [] next known name = inr (refl, refl)
number_at (first ∷ names) next known name = by_later (number_at names (next + 1) ((first, next) ∷ known) name) where
  here : (same : Bool) → bytes_eq name first ≡ same → in_force (with_numbered names (next + 1) ((first, next) ∷ known)) name ≡ cond same (Some next) (in_force known name) → is_among names name ≡ false →
      ((k : ℕ) × ((in_force (with_numbered names (next + 1) ((first, next) ∷ known)) name ≡ Some (next + k)) × (slice_index_or (first ∷ names) k [] ≡ name)))
      ⊎ ((in_force (with_numbered names (next + 1) ((first, next) ∷ known)) name ≡ in_force known name) × (same || is_among names name ≡ false))
  here true same found none = inl (0, (found ∙ ap Some (plus_zero next), sym ((bytes_eq-Decides name first).0 same)))
    where
      plus_zero : (next : ℕ) → next ≡ next + 0
      plus_zero next = omega arith
  here false same found none = inr (found, none)

  by_later : ((k : ℕ) × ((in_force (with_numbered names (next + 1) ((first, next) ∷ known)) name ≡ Some (next + 1 + k)) × (slice_index_or names k [] ≡ name)))
      ⊎ ((in_force (with_numbered names (next + 1) ((first, next) ∷ known)) name ≡ in_force ((first, next) ∷ known) name) × (is_among names name ≡ false)) →
      ((k : ℕ) × ((in_force (with_numbered names (next + 1) ((first, next) ∷ known)) name ≡ Some (next + k)) × (slice_index_or (first ∷ names) k [] ≡ name)))
      ⊎ ((in_force (with_numbered names (next + 1) ((first, next) ∷ known)) name ≡ in_force known name) × (bytes_eq name first || is_among names name ≡ false))
  by_later (inl (k, (found, at))) = inl (suc k, (found ∙ ap Some (one_on next k), at))
    where
      one_on : (next k : ℕ) → next + 1 + k ≡ next + suc k
      one_on next k = omega arith
  by_later (inr (found, none)) = here (bytes_eq name first) refl found none

-- ---- extents by other numbers of size symbols

module _ (symbols : List Name) where
  abbrev pub known : Named ℕ
  known = with_numbered symbols 0 []

  -- the number of a size symbol, and the symbol of a number
  abbrev number_of : Name → ℕ
  number_of name = number_or 0 known name

  abbrev symbol_of : ℕ → Name
  symbol_of place = slice_index_or symbols place []

  symbol_known : (name : Name) → is_among symbols name ≡ true → (in_force known name ≡ Some (number_of name)) × (symbol_of (number_of name) ≡ name)
  symbol_known name among = by_number (number_at symbols 0 [] name) where
    by_number : ((k : ℕ) × ((in_force known name ≡ Some (0 + k)) × (slice_index_or symbols k [] ≡ name))) ⊎ ((in_force known name ≡ in_force [] name) × (is_among symbols name ≡ false)) →
        (in_force known name ≡ Some (number_of name)) × (symbol_of (number_of name) ≡ name)
    by_number (inl (k, (found, at))) =
        let is : number_of name ≡ k = ap (λ found. unwrap_or found 0) found ∙ zero_plus k in
        (found ∙ ap Some (zero_plus k ∙ sym is), ap symbol_of is ∙ at)
      where
        zero_plus : (k : ℕ) → 0 + k ≡ k
        zero_plus k = omega arith
    by_number (inr (found, none)) = false_is_not_true (sym none ∙ among)

  module _ (variables : Named ℕ) where
    abbrev renumber : ℕ → Option ℕ
    renumber place = in_force variables (symbol_of place)

    each_told : (e : Expression) → IsOver symbols e → EachName (λ name. in_force variables name ≡ renumber (number_of name)) e
    each_told (number value) over = tt
    each_told (named name) over = ap (in_force variables) (sym (symbol_known name over).1)
    each_told (element_at name at) over = tt
    each_told (one sign of) over = each_told of over
    each_told (two sign left right) over = (each_told left over.0, each_told right over.1)
    each_told (choice value when other) over = tt

    own_numbers : (e : Expression) → IsOver symbols e → affine_by (λ name. Some (number_of name)) e ≡ affine_by (in_force known) e
    own_numbers (number value) over = refl
    own_numbers (named name) over = ap affine_name (sym (symbol_known name over).0)
    own_numbers (element_at name at) over = refl
    own_numbers (one sign of) over = ap (affine_one sign) (own_numbers of over)
    own_numbers (two sign left right) over = λ i. affine_two sign (own_numbers left over.0 i) (own_numbers right over.1 i)
    own_numbers (choice value when other) over = refl

    -- one that is 1 by the numbers of the graph is 1 by these
    one_by : (e : Expression) → IsOver symbols e → IsAffine e → affine_of known e ≡ affine_number (pos 1) → affine_of variables e ≡ affine_number (pos 1)
    one_by e over affine is =
        affine_of-by variables e ∙ told renumber number_of (in_force variables) e affine (each_told e over)
        ∙ ap (with_numbers renumber) (own_numbers e over ∙ sym (affine_of-by known e) ∙ is)

  -- ---- each extent is 1

  no_terms : (terms : List (ℕ × ℤ)) → has_no_term terms ≡ true → terms ≡ []
  no_terms [] is = refl
  no_terms (term ∷ terms) is = false_is_not_true is

  unit_is : (a : Affine) → int_eq a.constant (pos 1) && has_no_term a.terms ≡ true → a ≡ affine_number (pos 1)
  unit_is a is =
      let halves = both (int_eq a.constant (pos 1)) (has_no_term a.terms) is in
      λ i. record { constant = (Decides-int_eq a.constant (pos 1)).0 halves.0 i; terms = no_terms a.terms halves.1 i }

  units_one : (extents : List Expression) → AreExtents symbols extents → are_units (values known extents) ≡ true → AreOne extents
  units_one [] are is = tt
  units_one (e ∷ extents) are is =
      let a : Affine = affine_of known e in
      let halves = both (int_eq a.constant (pos 1) && has_no_term a.terms) (are_units (values known extents)) is in
      (λ variables. one_by variables e are.0.1 are.0.0 (unit_is a halves.0), units_one extents are.1 halves.1)

  one_units : (extents : List Expression) → AreOne extents → are_units (values known extents) ≡ true
  one_units [] one' = refl
  one_units (e ∷ extents) one' = subst (λ a. (int_eq a.constant (pos 1) && has_no_term a.terms) && are_units (values known extents) ≡ true) (sym (one'.0 known)) (one_units extents one'.1)

-- ---- connectors of whole containers

-- the ranges of a connector's subset where none is written
abbrev pub whole_ranges : List Affine → ℕ
whole_ranges extents = ranges_among (first_or_whole (are_units extents) extents)

none_ranged : (extents : List Affine) → ranges_among (first_element extents) ≡ 0
none_ranged [] = refl
none_ranged (extent ∷ extents) = none_ranged extents

all_ranged : (extents : List Affine) → ranges_among (whole extents) ≡ length extents
all_ranged [] = refl
all_ranged (extent ∷ extents) = ap suc (all_ranged extents)

ranges_of : (units : Bool) (extents : List Affine) → ranges_among (first_or_whole units extents) ≡ cond units 0 (length extents)
ranges_of true extents = none_ranged extents
ranges_of false extents = all_ranged extents

module _ (symbols : List Name) where
  whole_counted : (extents : List Expression) (count : ℕ) → AreExtents symbols extents → IsWhole extents count → count ≡ whole_ranges (values (known symbols) extents)
  whole_counted extents count are (inl (one', is)) =
      is ∙ sym (ranges_of (are_units (values (known symbols) extents)) (values (known symbols) extents) ∙ ap (λ units. cond units 0 (length (values (known symbols) extents))) (one_units symbols extents one'))
  whole_counted extents count are (inr (other, is)) = by_test (are_units (values (known symbols) extents)) refl where
    by_test : (test : Bool) → are_units (values (known symbols) extents) ≡ test → count ≡ whole_ranges (values (known symbols) extents)
    by_test true units = absurd (other (units_one symbols extents are units))
    by_test false units =
        is ∙ sym (ranges_of (are_units (values (known symbols) extents)) (values (known symbols) extents) ∙ ap (λ units. cond units 0 (length (values (known symbols) extents))) units ∙ length-map extents (affine_of (known symbols)))

  affines_listed : (extents : Expressions) → affines_of (known symbols) extents ≡ values (known symbols) (expression_list extents)
  affines_listed no_expression = refl
  affines_listed (and_expression first rest) = ap (λ others. affine_of (known symbols) first ∷ others) (affines_listed rest)

  extents_listed : (extents : Expressions) → extents_of (known symbols) extents ≡ values (known symbols) (extents_written extents)
  extents_listed no_expression = refl
  extents_listed (and_expression first rest) = affines_listed (and_expression first rest)

  -- an array of the graph has as many ranges as its connector is counted
  pub extents_counted : (extents : Expressions) (count : ℕ) → AreExtents symbols (extents_written extents) → IsWhole (extents_written extents) count → count ≡ whole_ranges (extents_of (known symbols) extents)
  extents_counted extents count are is = whole_counted (extents_written extents) count are is ∙ ap whole_ranges (sym (extents_listed extents))
