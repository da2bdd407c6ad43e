-- What is accepted of a line of a tasklet names connectors with as many subscripts as they have dimensions.
use Rattle.std.proofs.Common.{◌≡◌, ◌∙◌, ℕ, ◌+◌, nat_eq, [], ◌∷◌, ◌++◌, map, Bool, false, not, ◌&&◌, ◌||◌, Option, Some, refl, ap, sym}
use Rattle.std.specs.List.{list_any}
use Rattle.std.proofs.lemmas.Bool.{eqb-true}
use Rattle.sd_lex.specs.PlainTree.{Expression, number, named, element_at, one, two, choice, Expressions, no_expression, and_expression}
use Rattle.sd_names.specs.declared.meaning.Meaning.{Meaning}
use Rattle.sd_names.specs.declared.meaning.Meaning.TheVariants.{Input, Output}
use Rattle.sd_names.specs.Names.{Name, Names, meaning_of, is_stream, is_input, is_output, is_number_in_code, dimensions_by}
use Rattle.sd_names.specs.Expressions.{any_name, any_name_of, count_of, expression_list}
use Rattle.sd_uses.specs.Uses.{code}
use Rattle.sd_uses.specs.UnknownName.{has_unknown_in_code, is_unknown_use}
use Rattle.sd_refusal.specs.NotAForm.{is_misread_in_code, is_misread_alone, is_other_output, misuses}
use Rattle.sd_program.specs.Names.{Named, in_force}
use Rattle.sd_program.specs.Place.{length_of}
use Rattle.sd_read.proofs.readable_lemmas.kept.Affine.{negated}
use Rattle.sd_read.proofs.readable_lemmas.kept.Passing.{neither, true_is_not_false}
use Rattle.sd_made_valid.specs.tasks.Counted.{IsScalar, CountsInputs, CountInputs}
use Rattle.sd_made_valid.proofs.read_dimensions_lemmas.Meanings.{input_by, output_by, AreTied}

same_length : (at : Expressions) → count_of at ≡ length_of at
same_length no_expression = refl
same_length (and_expression first rest) = ap (λ count. count + 1) (same_length rest)

-- a name alone that is unknown in code, and an element that is
abbrev unknown_alone : Names → Name → Bool
unknown_alone names name = not (is_number_in_code (meaning_of names name))

abbrev unknown_element : Names → Name → ℕ → Bool
unknown_element names name count = not (is_input (meaning_of names name))

module _ (names : Names) (ins outs : Named ℕ) (tied : AreTied names.meanings ins outs) where
  scalar_input : (name : Name) → is_misread_alone names name ≡ false → IsScalar ins name
  scalar_input name none count found =
      by_meaning (meaning_of names name) (tied name).0 (neither (is_stream names name) (is_input (meaning_of names name) && not (nat_eq (dimensions_by (meaning_of names name)) 0)) none).1
    where
      by_meaning : (meaning : Option Meaning) → in_force ins name ≡ input_by meaning → is_input meaning && not (nat_eq (dimensions_by meaning) 0) ≡ false → count ≡ 0
      by_meaning (Some (Input dimensions)) is none =
          let same : dimensions ≡ count = cc in
          sym same ∙ eqb-true dimensions 0 (negated (nat_eq dimensions 0) none)
      by_meaning meaning is none = cc

  element_input : (name : Name) (at : Expressions) → not (is_input (meaning_of names name)) ≡ false → is_misread_in_code names name (count_of at) ≡ false → in_force ins name ≡ Some (length_of at)
  element_input name at given none =
      by_meaning (meaning_of names name) (tied name).0 given (neither (is_stream names name) (is_input (meaning_of names name) && not (nat_eq (dimensions_by (meaning_of names name)) (count_of at))) none).1
    where
      by_meaning : (meaning : Option Meaning) → in_force ins name ≡ input_by meaning → not (is_input meaning) ≡ false → is_input meaning && not (nat_eq (dimensions_by meaning) (count_of at)) ≡ false → in_force ins name ≡ Some (length_of at)
      by_meaning (Some (Input dimensions)) is given none = is ∙ ap Some (eqb-true dimensions (count_of at) (negated (nat_eq dimensions (count_of at)) none) ∙ same_length at)
      by_meaning meaning is given none = true_is_not_false given

  pub scalar_output : (name : Name) → is_other_output names name 0 ≡ false → IsScalar outs name
  scalar_output name none count found = by_meaning (meaning_of names name) (tied name).1 none
    where
      by_meaning : (meaning : Option Meaning) → in_force outs name ≡ output_by meaning → is_output meaning && not (nat_eq (dimensions_by meaning) 0) ≡ false → count ≡ 0
      by_meaning (Some (Output dimensions)) is none =
          let same : dimensions ≡ count = cc in
          sym same ∙ eqb-true dimensions 0 (negated (nat_eq dimensions 0) none)
      by_meaning meaning is none = cc

  pub element_output : (name : Name) (at : Expressions) → not (is_output (meaning_of names name)) ≡ false → is_other_output names name (count_of at) ≡ false → in_force outs name ≡ Some (length_of at)
  element_output name at given none = by_meaning (meaning_of names name) (tied name).1 given none
    where
      by_meaning : (meaning : Option Meaning) → in_force outs name ≡ output_by meaning → not (is_output meaning) ≡ false → is_output meaning && not (nat_eq (dimensions_by meaning) (count_of at)) ≡ false → in_force outs name ≡ Some (length_of at)
      by_meaning (Some (Output dimensions)) is given none = is ∙ ap Some (eqb-true dimensions (count_of at) (negated (nat_eq dimensions (count_of at)) none) ∙ same_length at)
      by_meaning meaning is given none = true_is_not_false given

  -- ---- expressions

  abbrev misread : Expression → Bool
  misread e = any_name (is_misread_alone names) (is_misread_in_code names) e

  abbrev misread_of : Expressions → Bool
  misread_of at = any_name_of (is_misread_alone names) (is_misread_in_code names) at

  abbrev unknown_of : Expressions → Bool
  unknown_of at = any_name_of (unknown_alone names) (unknown_element names) at

  mutual
    code_counted : (e : Expression) → has_unknown_in_code names e ≡ false → misread e ≡ false → CountsInputs ins e
    code_counted (number value) known right = tt
    code_counted (named name) known right = scalar_input name right
    code_counted (element_at name at) known right =
        let knowns = neither (not (is_input (meaning_of names name))) (unknown_of at) known in
        let rights = neither (is_misread_in_code names name (count_of at)) (misread_of at) right in
        (element_input name at knowns.0 rights.0, codes_counted at knowns.1 rights.1)
    code_counted (one sign of) known right = code_counted of known right
    code_counted (two sign left right') known right =
        let knowns = neither (has_unknown_in_code names left) (has_unknown_in_code names right') known in
        let rights = neither (misread left) (misread right') right in
        (code_counted left knowns.0 rights.0, code_counted right' knowns.1 rights.1)
    code_counted (choice value when other) known right =
        let knowns = neither (has_unknown_in_code names value || has_unknown_in_code names when) (has_unknown_in_code names other) known in
        let firsts = neither (has_unknown_in_code names value) (has_unknown_in_code names when) knowns.0 in
        let rights = neither (misread value || misread when) (misread other) right in
        let seconds = neither (misread value) (misread when) rights.0 in
        (code_counted value firsts.0 seconds.0, (code_counted when firsts.1 seconds.1, code_counted other knowns.1 rights.1))

    codes_counted : (at : Expressions) → unknown_of at ≡ false → misread_of at ≡ false → CountInputs ins at
    codes_counted no_expression known right = tt
    codes_counted (and_expression first rest) known right =
        let knowns = neither (has_unknown_in_code names first) (unknown_of rest) known in
        let rights = neither (misread first) (misread_of rest) right in
        (code_counted first knowns.0 rights.0, codes_counted rest knowns.1 rights.1)

  -- a list with one use of code
  pub use_counted : (e : Expression) → list_any (is_unknown_use names) (code e ∷ []) ≡ false → list_any (misuses names) (code e ∷ []) ≡ false → CountsInputs ins e
  use_counted e known right = code_counted e (neither (has_unknown_in_code names e) false known).0 (neither (misread e) false right).0

  -- subscripts and a value
  pub uses_counted : (at : Expressions) (e : Expression) → list_any (is_unknown_use names) (map code (expression_list at) ++ code e ∷ []) ≡ false → list_any (misuses names) (map code (expression_list at) ++ code e ∷ []) ≡ false →
      CountInputs ins at × CountsInputs ins e
  uses_counted no_expression e known right = (tt, use_counted e known right)
  uses_counted (and_expression first rest) e known right =
      let knowns = neither (has_unknown_in_code names first) (list_any (is_unknown_use names) (map code (expression_list rest) ++ code e ∷ [])) known in
      let rights = neither (misread first) (list_any (misuses names) (map code (expression_list rest) ++ code e ∷ [])) right in
      let later = uses_counted rest e knowns.1 rights.1 in
      ((code_counted first knowns.0 rights.0, later.0), later.1)
