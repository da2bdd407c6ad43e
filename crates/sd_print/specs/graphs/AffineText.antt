-- The text of an affine expression.
use Rattle.std.specs.Prelude.{ℕ, nat_eq, ℤ, pos, ◌+ℤ◌, int_lt, unsigned_abs, List, [], ◌∷◌, ◌++◌, length, codes, Bool, true, false, not, ◌&&◌, if◌then◌else◌, slice_index_or}
use Rattle.std.specs.List.{filter, flat_map}
use Rattle.std.specs.Fmt.{decimal}
use Rattle.sd_range.specs.declared.affine.Affine.{Affine}
use Rattle.sd_graph.specs.Wiring.{has_number}

-- the name of a variable; one that is not there has none
abbrev pub variable_name : (names : List (List ℕ)) → (variable : ℕ) → List ℕ
variable_name names variable = slice_index_or names variable []

-- the terms of these variables in their order, and then those of others
abbrev pub outermost_first : (order : List ℕ) → List (ℕ × ℤ) → List (ℕ × ℤ)
outermost_first order terms = flat_map (λ variable. filter (λ term. nat_eq term.0 variable) terms) order ++ filter (λ term. not (has_number order term.0)) terms

-- a minus, or a plus where something stands before it
abbrev pub sign_text : (is_first is_negative : Bool) → List ℕ
sign_text is_first is_negative = if is_negative then codes "-" else if is_first then [] else codes "+"

-- a factor and its sign; nothing for 1
abbrev pub factor_text : (size : ℕ) → List ℕ
factor_text size = if nat_eq size 1 then [] else decimal size ++ codes "*"

-- `v`, `-v` or `c*v`
abbrev pub term_text : (names : List (List ℕ)) → (is_first : Bool) → ℕ × ℤ → List ℕ
term_text names is_first term =
    sign_text is_first (int_lt term.1 (pos 0)) ++ (factor_text (unsigned_abs term.1) ++ variable_name names term.0)

abbrev pub terms_text : (names : List (List ℕ)) → List (ℕ × ℤ) → List ℕ
terms_text names [] = []
terms_text names (term ∷ terms) = term_text names true term ++ flat_map (term_text names false) terms

-- a constant; 0 is left out where something stands before it
abbrev pub constant_text : (is_first is_negative : Bool) → (size : ℕ) → List ℕ
constant_text is_first is_negative size = if not is_first && nat_eq size 0 then [] else sign_text is_first is_negative ++ decimal size

-- terms from the outermost variable, and a constant
abbrev pub sum_text : (names : List (List ℕ)) → (order : List ℕ) → List (ℕ × ℤ) → ℤ → List ℕ
sum_text names order terms constant =
    terms_text names (outermost_first order terms) ++ constant_text (nat_eq (length terms) 0) (int_lt constant (pos 0)) (unsigned_abs constant)

abbrev pub affine_text : (names : List (List ℕ)) → (order : List ℕ) → Affine → List ℕ
affine_text names order a = sum_text names order a.terms a.constant

-- the end of a range, which is printed plus one
abbrev pub end_text : (names : List (List ℕ)) → (order : List ℕ) → Affine → List ℕ
end_text names order end = sum_text names order end.terms (end.constant +ℤ pos 1)
