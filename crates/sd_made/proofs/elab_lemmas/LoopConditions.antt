-- The condition of a `for` loop says that its variable is below its end.
use Rattle.std.proofs.Common.{◌≡◌, ◌∙◌, ◌⊎◌, inl, inr, ℕ, ◌+◌, List, [], ◌∷◌, ◌++◌, length, Option, Some, None, unwrap_or, Bool, true, false, cond, not, if◌then◌else◌, nat_eq, nat_lt, slice_get, position, refl, ap, ap₂, sym, subst, bytes_eq, append_assoc, append-nil, arith}
use Rattle.std.proofs.lemmas.Cmp.{nat_list_eq_equiv}
use Rattle.std.proofs.lemmas.Bool.{lt-ltb}
use Rattle.std.specs.List.{list_any, position_or_len, prefix_len}
use Rattle.sd_lex.specs.PlainTree.{Expression, number, named, element_at, one, two, choice}
use Rattle.sd_lex.specs.declared.syntax.operator.OneSign.{OneSign}
use Rattle.sd_lex.specs.declared.syntax.operator.OneSign.TheVariants as one_signs
use Rattle.sd_lex.specs.declared.syntax.operator.TwoSign.{TwoSign}
use Rattle.sd_lex.specs.declared.syntax.operator.TwoSign.TheVariants as two_signs
use Rattle.sd_graph.specs.PlainTree as plain
use Rattle.sd_graph.specs.PlainTree.{ValueTree}
use Rattle.sd_graph.specs.declared.operator.TwoSign.TheVariants as graph_signs
use Rattle.sd_graph.specs.declared.link.Link.{Link}
use Rattle.sd_graph.proofs.Among.{nat_eq_same}
use Rattle.sd_program.specs.Names.{Name, Named, in_force}
use Rattle.sd_program.specs.IsAffine.{HasNoName, IsMinus, MayJoin, IsAffine}
use Rattle.sd_task.specs.task.Table.{Table}
use Rattle.sd_task.specs.task.Operators.{one_sign, two_sign}
use Rattle.sd_task.specs.task.UsedVariables.{with_variable, variable_value}
use Rattle.sd_task.specs.task.ElementCode.{elements_in, links_with, used_with, code_of, below}
use Rattle.sd_made.specs.elab.AffineValue.{HasNumbersOnly, IsNegation, IsAffineJoin, IsAffineValue, IsBelow}

-- an affine expression reads no element
affine_reads : (table : Table) (links : List Link) (expression : Expression) → IsAffine expression → links_with table links expression ≡ links
affine_reads table links (number value) affine = refl
affine_reads table links (named name) affine = refl
affine_reads table links (element_at name at) affine = absurd affine
affine_reads table links (one sign of) affine = affine_reads table links of affine.1
affine_reads table links (two sign left right) affine =
    affine_reads table (links_with table links left) right affine.1.1 ∙ affine_reads table links left affine.1.0
affine_reads table links (choice value when other) affine = absurd affine

-- ---- its code

variable_is_affine : (used : List ℕ) (found : Option ℕ) → IsAffineValue (variable_value used found)
variable_is_affine used None = tt
variable_is_affine used (Some variable) = tt

numbers_only : (variables : Named ℕ) (used : List ℕ) (connector : ℕ) (expression : Expression) → IsAffine expression → HasNoName expression →
    HasNumbersOnly (code_of variables used connector expression)
numbers_only variables used connector (number value) affine none = tt
numbers_only variables used connector (named name) affine none = absurd none
numbers_only variables used connector (element_at name at) affine none = absurd none
numbers_only variables used connector (one sign of) affine none = numbers_only variables used connector of affine.1 none
numbers_only variables used connector (two sign left right) affine none =
    (numbers_only variables used connector left affine.1.0 none.0, numbers_only variables used (connector + elements_in left) right affine.1.1 none.1)
numbers_only variables used connector (choice value when other) affine none = absurd affine

minus_is_negation : (sign : OneSign) → IsMinus sign → IsNegation (one_sign sign)
minus_is_negation one_signs.Not minus = absurd minus
minus_is_negation one_signs.Neg minus = tt
minus_is_negation one_signs.Inv minus = absurd minus

either_side : (left right : Expression) (first second : ValueTree) → (HasNoName left → HasNumbersOnly first) → (HasNoName right → HasNumbersOnly second) → HasNoName left ⊎ HasNoName right →
    HasNumbersOnly first ⊎ HasNumbersOnly second
either_side left right first second one_side other_side (inl none) = inl (one_side none)
either_side left right first second one_side other_side (inr none) = inr (other_side none)

joins_are_affine : (sign : TwoSign) (left right : Expression) (first second : ValueTree) → (HasNoName left → HasNumbersOnly first) → (HasNoName right → HasNumbersOnly second) → MayJoin sign left right →
    IsAffineJoin (two_sign sign) first second
joins_are_affine two_signs.Or left right first second one_side other_side may = absurd may
joins_are_affine two_signs.And left right first second one_side other_side may = absurd may
joins_are_affine two_signs.Less left right first second one_side other_side may = absurd may
joins_are_affine two_signs.LessEqual left right first second one_side other_side may = absurd may
joins_are_affine two_signs.Greater left right first second one_side other_side may = absurd may
joins_are_affine two_signs.GreaterEqual left right first second one_side other_side may = absurd may
joins_are_affine two_signs.Equal left right first second one_side other_side may = absurd may
joins_are_affine two_signs.Differ left right first second one_side other_side may = absurd may
joins_are_affine two_signs.BitOr left right first second one_side other_side may = absurd may
joins_are_affine two_signs.BitXor left right first second one_side other_side may = absurd may
joins_are_affine two_signs.BitAnd left right first second one_side other_side may = absurd may
joins_are_affine two_signs.Add left right first second one_side other_side may = tt
joins_are_affine two_signs.Sub left right first second one_side other_side may = tt
joins_are_affine two_signs.Mul left right first second one_side other_side may = either_side left right first second one_side other_side may
joins_are_affine two_signs.FloorDiv left right first second one_side other_side may = absurd may
joins_are_affine two_signs.Mod left right first second one_side other_side may = absurd may
joins_are_affine two_signs.Min left right first second one_side other_side may = absurd may
joins_are_affine two_signs.Max left right first second one_side other_side may = absurd may

code_is_affine : (variables : Named ℕ) (used : List ℕ) (connector : ℕ) (expression : Expression) → IsAffine expression → IsAffineValue (code_of variables used connector expression)
code_is_affine variables used connector (number value) affine = tt
code_is_affine variables used connector (named name) affine = variable_is_affine used (in_force variables name)
code_is_affine variables used connector (element_at name at) affine = absurd affine
code_is_affine variables used connector (one sign of) affine = (minus_is_negation sign affine.0, code_is_affine variables used connector of affine.1)
code_is_affine variables used connector (two sign left right) affine = (
  joins_are_affine sign left right (code_of variables used connector left) (code_of variables used (connector + elements_in left) right)
      (numbers_only variables used connector left affine.1.0) (numbers_only variables used (connector + elements_in left) right affine.1.1) affine.0,
  (code_is_affine variables used connector left affine.1.0, code_is_affine variables used (connector + elements_in left) right affine.1.1),
)
code_is_affine variables used connector (choice value when other) affine = absurd affine

-- ---- the variables that it uses

-- the one list begins with the other
abbrev Goes : (used more : List ℕ) → Type 0
Goes used all = (rest : List ℕ) × (all ≡ used ++ rest)

same_or_more : (there : Bool) (used : List ℕ) (variable : ℕ) → Goes used (if there then used else used ++ variable ∷ [])
same_or_more true used variable = ([], sym (append-nil used))
same_or_more false used variable = (variable ∷ [], refl)

one_used : (used : List ℕ) (found : Option ℕ) → Goes used (with_variable used found)
one_used used None = ([], sym (append-nil used))
one_used used (Some variable) = same_or_more (list_any (nat_eq variable) used) used variable

further : (used middle all : List ℕ) → Goes used middle → Goes middle all → Goes used all
further used middle all (rest, e) (more, e') = (rest ++ more, e' ∙ ap (λ start. start ++ more) e ∙ append_assoc used rest more)

used_goes : (variables : Named ℕ) (used : List ℕ) (expression : Expression) → Goes used (used_with variables used expression)
used_goes variables used (number value) = ([], sym (append-nil used))
used_goes variables used (named name) = one_used used (in_force variables name)
used_goes variables used (element_at name at) = ([], sym (append-nil used))
used_goes variables used (one sign of) = used_goes variables used of
used_goes variables used (two sign left right) =
    further used (used_with variables used left) (used_with variables (used_with variables used left) right)
    (used_goes variables used left) (used_goes variables (used_with variables used left) right)
used_goes variables used (choice value when other) =
    let first : List ℕ = used_with variables used value in
    let second : List ℕ = used_with variables first when in
    further used first (used_with variables second other) (used_goes variables used value)
    (further first second (used_with variables second other) (used_goes variables first when) (used_goes variables second other))

-- ---- the condition

same_name : (name : Name) → bytes_eq name name ≡ true
same_name name = nat_list_eq_equiv.refl name

pub newest : (name : Name) (variable : ℕ) (names : Named ℕ) → in_force ((name, variable) ∷ names) name ≡ Some variable
newest name variable names = ap (λ same. cond same (Some variable) (in_force names name)) (same_name name)

first_place : (variable : ℕ) (more : List ℕ) → position (nat_eq variable) (variable ∷ more) ≡ Some 0
first_place variable more =
    let found : position_or_len (nat_eq variable) (variable ∷ more) ≡ 0 =
    ap (λ same. cond (not same) (1 + prefix_len (λ other. not (nat_eq variable other)) more) 0) (nat_eq_same variable variable refl) in
    ap (λ place. cond (nat_lt place (length (variable ∷ more))) (Some place) None) found
    ∙ ap (λ below. cond below (Some 0) None) (lt-ltb 0 (length (variable ∷ more)) (omega arith))

-- where the name stands for this variable, the condition that the variable is below
pub condition_below : (table : Table) (line : ℕ) (name : Name) (end : Expression) (variable : ℕ) → IsAffine end → in_force table.variables name ≡ Some variable → IsBelow variable (below table line name end)
condition_below table line name end variable affine found =
    let used : List ℕ = used_with table.variables (with_variable [] (in_force table.variables name)) end in
    let bound : ValueTree = code_of table.variables used 0 end in
    let goes : Goes (variable ∷ []) used =
    subst (λ start. Goes start used) (ap (with_variable []) found) (used_goes table.variables (with_variable [] (in_force table.variables name)) end) in
    let first : variable_value used (in_force table.variables name) ≡ plain.variable 0 =
    ap (variable_value used) found
    ∙ ap (λ all. plain.variable (unwrap_or (position (nat_eq variable) all) 0)) goes.1
    ∙ ap (λ place. plain.variable (unwrap_or place 0)) (first_place variable goes.0) in
    record {
      bound = bound;
      place = 0;
      affine = code_is_affine table.variables used 0 end affine;
      reads = affine_reads table [] end affine;
      code = ap₂ (λ connector value. plain.and_act (plain.assign connector plain.no_value (plain.two graph_signs.Less value bound)) plain.no_act)
          (ap length (affine_reads table [] end affine)) first;
      variable = ap (λ all. slice_get all 0) goes.1;
    }
