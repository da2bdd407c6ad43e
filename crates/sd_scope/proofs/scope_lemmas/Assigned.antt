-- Parameters and their values, one after another.
use Rattle.std.proofs.Common.{◌≡◌, ℕ, zero, suc, ◌+◌, ◌<◌, ◌≤◌, min, ℤ, pos, List, [], ◌∷◌, ◌++◌, map, length, replicate, get_or, take, drop, ◌-◌, slice_set, refl, sym, ap, ◌∙◌, arith}
use Rattle.std.proofs.lemmas.List.{append_assoc, drop_more, map_more, take_all}
use Rattle.sd_range.specs.declared.range.Range.{Range}
use Rattle.sd_range.specs.Variables.{with_variable, with_variables}
use Rattle.sd_graph.specs.Unfold.{assigned}
use Rattle.sd_scope.specs.declared.scope.scope.Shown.{Shown}
use Rattle.sd_scope.specs.scope.Standing.{parameter_shown}

-- there is one for each number that both have
pub within_assigned : (params : List (ℕ × Range)) (point : List ℤ) (i : ℕ) → i < length params → i < length point → i < length (assigned params point)
within_assigned [] point i below within = absurd (omega arith)
within_assigned (param ∷ params) [] i below within = absurd (omega arith)
within_assigned (param ∷ params) (number ∷ point) zero below within = omega arith
within_assigned (param ∷ params) (number ∷ point) (suc i) below within = let rest = within_assigned params point i (omega arith) (omega arith) in omega (arith, rest)

-- and for no other
pub no_more_assigned : (params : List (ℕ × Range)) (point : List ℤ) (i : ℕ) → min (length params) (length point) ≤ i → length (assigned params point) ≤ i
no_more_assigned [] point i over = omega arith
no_more_assigned (param ∷ params) [] i over = omega arith
no_more_assigned (param ∷ params) (number ∷ point) zero over = absurd (omega arith)
no_more_assigned (param ∷ params) (number ∷ point) (suc i) over = let rest = no_more_assigned params point i (omega arith) in omega (arith, rest)

-- the assignment of this number
pub assigned_at : (params : List (ℕ × Range)) (point : List ℤ) (i : ℕ) (param : ℕ × Range) (d : ℕ × ℤ) → i < length params → i < length point →
    get_or (assigned params point) i d ≡ ((get_or params i param).0, get_or point i (pos 0))
assigned_at [] point i param d below within = absurd (omega arith)
assigned_at (first ∷ params) [] i param d below within = absurd (omega arith)
assigned_at (first ∷ params) (number ∷ point) zero param d below within = refl
assigned_at (first ∷ params) (number ∷ point) (suc i) param d below within = assigned_at params point i param d (omega arith) (omega arith)

-- a variable without a value is set behind zeros
pub variable_filled : (variable count : ℕ) (value : ℤ) (values : List ℤ) → length values ≤ variable → length values + count ≡ suc variable →
    with_variable variable value values ≡ slice_set (values ++ replicate count (pos 0)) variable value
variable_filled zero zero value [] within fills = absurd (omega arith)
variable_filled zero (suc count) value [] within fills = let none : count ≡ zero = omega arith in rw none
variable_filled (suc variable) zero value [] within fills = absurd (omega arith)
variable_filled (suc variable) (suc count) value [] within fills = ap (λ others. pos 0 ∷ others) (variable_filled variable count value [] (omega arith) (omega arith))
variable_filled zero count value (old ∷ values) within fills = absurd (omega arith)
variable_filled (suc variable) count value (old ∷ values) within fills = ap (λ others. old ∷ others) (variable_filled variable count value values (omega arith) (omega arith))

-- a list that was made long enough
pub variable_resized : (variable size : ℕ) (value : ℤ) (values : List ℤ) → size ≡ length values → size ≤ variable →
    slice_set (take (variable + 1) values ++ replicate (variable + 1 - size) (pos 0)) variable value ≡ with_variable variable value values
variable_resized variable size value values is within =
    rw (take_all (variable + 1) values (omega arith)) (sym (variable_filled variable (variable + 1 - size) value values (omega arith) (omega arith)))

-- one variable more is set
pub variables_next : (assignments : List (ℕ × ℤ)) (i : ℕ) (assignment d : ℕ × ℤ) (old new all : List ℤ) → i < length assignments → get_or assignments i d ≡ assignment →
    new ≡ with_variable assignment.0 assignment.1 old → with_variables (drop i assignments) old ≡ all → with_variables (drop (i + 1) assignments) new ≡ all
variables_next assignments i assignment d old new all below here set left =
    ap (λ values. with_variables (drop (i + 1) assignments) values) set
    ∙ ap (λ (first : ℕ × ℤ). with_variables (first ∷ drop (i + 1) assignments) old) (sym here)
    ∙ ap (λ rest. with_variables rest old) (sym (drop_more assignments i d below))
    ∙ left

-- and shown
pub shown_next : (assignments : List (ℕ × ℤ)) (i : ℕ) (assignment d : ℕ × ℤ) (before old new : List Shown) → i < length assignments → get_or assignments i d ≡ assignment →
    new ≡ old ++ parameter_shown assignment ∷ [] → old ≡ before ++ map parameter_shown (take i assignments) → new ≡ before ++ map parameter_shown (take (i + 1) assignments)
shown_next assignments i assignment d before old new below here more so_far =
    more
    ∙ ap (λ list. list ++ parameter_shown assignment ∷ []) so_far
    ∙ append_assoc before (map parameter_shown (take i assignments)) (parameter_shown assignment ∷ [])
    ∙ ap (λ (last : ℕ × ℤ). before ++ (map parameter_shown (take i assignments) ++ parameter_shown last ∷ [])) (sym here)
    ∙ ap (λ list. before ++ list) (sym (map_more parameter_shown assignments i d below))
