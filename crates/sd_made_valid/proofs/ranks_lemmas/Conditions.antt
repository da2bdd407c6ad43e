-- The end of a loop names variables of lower levels than the loop's, and conditions name variables of their code.
use Rattle.std.proofs.Common.{◌≡◌, ◌∙◌, ℕ, ◌+◌, List, [], ◌∷◌, nat_eq, position, Option, Some, None, unwrap_or, slice_index_or, Bool, true, false, cond, if◌then◌else◌, refl, ap, sym, subst, bytes_eq}
use Rattle.std.specs.List.{AllByRecursion}
use Rattle.std.proofs.lemmas.Option.{same_Some}
use Rattle.std.proofs.lemmas.Slice.Eq.{bytes_eq-Decides}
use Rattle.sd_lex.specs.PlainTree.{Expression, number, named, element_at, one, two, choice}
use Rattle.sd_lex.specs.declared.syntax.operator.TwoSign.TheVariants.{Less}
use Rattle.sd_graph.specs.PlainTree.{ValueTree}
use Rattle.sd_program.specs.Names.{Name, Named, in_force}
use Rattle.sd_task.specs.task.Table.{Table, with_variables}
use Rattle.sd_task.specs.task.Operators.{two_sign}
use Rattle.sd_task.specs.task.ElementCode.{elements_in, used_with, code_of, guard_of, below}
use Rattle.sd_task.specs.task.UsedVariables.{variable_value}
use Rattle.sd_validity.specs.rules.Compared.{place_of_variable, comparison_at, is_less, comparison}
use Rattle.sd_validity.specs.rules.Ranks.{value_variables, end_naming, condition_naming}
use Rattle.sd_made.proofs.names_lemmas.UsedPlaces.{IsUsed, AllUsed, all_used, place_found}
use Rattle.sd_read.specs.blocks.Blocks.{NamesOthers}
use Rattle.sd_validity.specs.levels.Levels.{IsSizeOrLower, IsPlaced, IsEndPlaced, IsConditionPlaced}
use Rattle.sd_validity.proofs.levels_lemmas.Named.{joined}
use Rattle.sd_made_valid.proofs.ranks_lemmas.Below.{all_so, IsBelow, AreBelow, named_by}
use Rattle.sd_made_valid.proofs.ranks_lemmas.Items.{Lower}

-- ---- variables of the code

module _ (known : Named ℕ) (used : List ℕ) where
  found_placed : (found : Option ℕ) → IsUsed used found → IsPlaced used (variable_value used found)
  found_placed None is = tt
  found_placed (Some variable) is = (place_found variable used is).0

  pub code_placed : (connector : ℕ) (expression : Expression) → AllUsed known used expression → IsPlaced used (code_of known used connector expression)
  code_placed connector (number value) all = tt
  code_placed connector (named name) all = found_placed (in_force known name) all
  code_placed connector (element_at name at) all = tt
  code_placed connector (one sign of) all = code_placed connector of all
  code_placed connector (two sign left right) all = (code_placed connector left all.0, code_placed (connector + elements_in left) right all.1)
  code_placed connector (choice value when other) all = tt

  end_placed : (found : Option ℕ) (bound : ValueTree) → IsPlaced used bound → IsEndPlaced used (comparison_at found bound)
  end_placed None bound is = tt
  end_placed (Some place) bound is = is

  either_placed : (test : Bool) (found : Option ℕ) (bound : ValueTree) → IsPlaced used bound → IsEndPlaced used (if test then comparison_at found bound else None)
  either_placed true found bound is = end_placed found bound is
  either_placed false found bound is = tt

  found_none : (found : Option ℕ) → IsEndPlaced used (comparison (variable_value used found))
  found_none None = tt
  found_none (Some variable) = tt

  comparison_placed : (expression : Expression) → AllUsed known used expression → IsEndPlaced used (comparison (code_of known used 0 expression))
  comparison_placed (number value) all = tt
  comparison_placed (named name) all = found_none (in_force known name)
  comparison_placed (element_at name at) all = tt
  comparison_placed (one sign of) all = tt
  comparison_placed (two sign left right) all =
      either_placed (is_less (two_sign sign)) (place_of_variable (code_of known used 0 left)) (code_of known used (0 + elements_in left) right) (code_placed (0 + elements_in left) right all.1)
  comparison_placed (choice value when other) all = tt

pub guard_placed : (table : Table) (line : ℕ) (when : Expression) → IsConditionPlaced (Some (guard_of table line when))
guard_placed table line when = comparison_placed table.variables (used_with table.variables [] when) when (all_used table.variables when)

-- ---- the end of a loop

module _ (symbols : ℕ) (level : ℕ → ℕ) (depth : ℕ) where
  abbrev AllBelow : List ℕ → Type 0
  AllBelow variables = AllByRecursion (IsBelow symbols level depth) variables

  module _ (known : Named ℕ) (used : List ℕ) (are : AreBelow symbols level depth known) (own : Name) (variable : ℕ) where
    -- the variable of the loop is in force too
    abbrev inside : Named ℕ
    inside = (own, variable) ∷ known

    found_below : (found : Option ℕ) → IsUsed used found → ((other : ℕ) → found ≡ Some other → IsBelow symbols level depth other) → AllBelow (value_variables used (variable_value used found))
    found_below None is below = tt
    found_below (Some other) is below = (subst (IsBelow symbols level depth) (sym (place_found other used is).1) (below other refl), tt)

    other_below : (same : Bool) (name : Name) → same ≡ false → (other : ℕ) → cond same (Some variable) (in_force known name) ≡ Some other → IsBelow symbols level depth other
    other_below true name e other found = cc
    other_below false name e other found = are name other found

    code_below : (connector : ℕ) (expression : Expression) → NamesOthers own expression → AllUsed inside used expression → AllBelow (value_variables used (code_of inside used connector expression))
    code_below connector (number value) others all = tt
    code_below connector (named name) others all = found_below (in_force inside name) all (other_below (bytes_eq name own) name others)
    code_below connector (element_at name at) others all = tt
    code_below connector (one sign of) others all = code_below connector of others all
    code_below connector (two sign left right) others all =
        joined (IsBelow symbols level depth) (value_variables used (code_of inside used connector left)) (value_variables used (code_of inside used (connector + elements_in left) right))
        (code_below connector left others.0 all.0) (code_below (connector + elements_in left) right others.1 all.1)
    code_below connector (choice value when other) others all = tt

    -- what is compared with the end has the level
    end_lower : (found : Option ℕ) → IsUsed used found → ((other : ℕ) → found ≡ Some other → level other ≡ depth) → (bound : ValueTree) → AllBelow (value_variables used bound) →
        AllByRecursion (Lower symbols level) (end_naming used (comparison_at (place_of_variable (variable_value used found)) bound))
    end_lower None is of bound below = tt
    end_lower (Some other) is of bound below =
        let place : ℕ = unwrap_or (position (nat_eq other) used) 0 in
        let e : level (slice_index_or used place 0) ≡ depth = ap level (place_found other used is).1 ∙ of other refl in
        (all_so (IsBelow symbols level depth) (IsSizeOrLower symbols level (slice_index_or used place 0)) (λ named. named_by symbols level depth (slice_index_or used place 0) named e) (value_variables used bound) below, tt)

    own_found : (same : Bool) → same ≡ true → (others : Option ℕ) (other : ℕ) → cond same (Some variable) others ≡ Some other → variable ≡ other
    own_found true e others other found = same_Some variable other found
    own_found false e others other found = cc

    own_level : level variable ≡ depth → (other : ℕ) → in_force inside own ≡ Some other → level other ≡ depth
    own_level e other found = subst (λ other. level other ≡ depth) (own_found (bytes_eq own own) ((bytes_eq-Decides own own).1 refl) (in_force known own) other found) e

  pub below_lower : (table : Table) (line : ℕ) (own : Name) (variable : ℕ) (end : Expression) → AreBelow symbols level depth table.variables → level variable ≡ depth → NamesOthers own end →
      AllByRecursion (Lower symbols level) (condition_naming (Some (below (with_variables (own ∷ []) variable table) line own end)))
  below_lower table line own variable end are is others =
      let known : Named ℕ = table.variables in
      let compares : Expression = two Less (named own) end in
      let used : List ℕ = used_with ((own, variable) ∷ known) [] compares in
      let there : AllUsed ((own, variable) ∷ known) used compares = all_used ((own, variable) ∷ known) compares in
      end_lower known used are own variable (in_force ((own, variable) ∷ known) own) there.0 (own_level known used are own variable is) (code_of ((own, variable) ∷ known) used 0 end)
      (code_below known used are own variable 0 end others there.1)
