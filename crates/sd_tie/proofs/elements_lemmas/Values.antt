-- The value of an expression by its code is its value by the statement.
use Rattle.std.proofs.Common.{◌≡◌, ◌∙◌, ℕ, zero, suc, ◌+◌, ◌<◌, ◌≤◌, ℤ, pos, List, [], ◌∷◌, length, map, take, drop, Option, Some, None, option_map, unwrap_or, Ok, if◌then◌else◌, nat_eq, position, slice_index_or, refl, ap, sym, arith}
use Rattle.std.specs.Int.{int_wrap}
use Rattle.std.proofs.lemmas.List.{get_or-map}
use Rattle.sd_lex.specs.PlainTree.{Expression, number, named, element_at, one, two, choice}
use Rattle.sd_num.specs.Wrapped.{wrapped}
use Rattle.sd_range.specs.Affine.{variable_value}
use Rattle.sd_graph.specs.TaskletMeaning as graph
use Rattle.sd_graph.specs.TaskletMeaning.{Inputs, Meaning, holds, and_then, checked, extents_of_connector, element_of, place_of}
use Rattle.sd_graph.specs.RowOrder.{row_number}
use Rattle.sd_program.specs.Names.{Name, Named, in_force}
use Rattle.sd_task.specs.task.Operators.{one_sign, two_sign}
use Rattle.sd_task.specs.task.UsedVariables as task
use Rattle.sd_task.specs.task.ElementCode.{elements_in, code_of}
use Rattle.sd_says.specs.Exact.{variable_in}
use Rattle.sd_says.specs.Setting.{with_each}
use Rattle.sd_says.specs.Operators.{one_value, two_sides}
use Rattle.sd_says.specs.AsLeaves.{reads_in, value_of}
use Rattle.sd_tie.proofs.elements_lemmas.Lookups.{in_force_made}
use Rattle.sd_made.proofs.names_lemmas.UsedPlaces.{IsUsed, AllUsed, place_found}
use Rattle.sd_tie.proofs.elements_lemmas.LinkReads.{count_same}
use Rattle.sd_tie.proofs.elements_lemmas.Signs.{one_same, sides_same}

pub drop_nothing : {A : Type 0} (count : ℕ) → drop {A = A} count [] ≡ []
drop_nothing zero = refl
drop_nothing (suc count) = refl

pub drop_twice : {A : Type 0} (first next : ℕ) (members : List A) → drop next (drop first members) ≡ drop (first + next) members
drop_twice zero next members = let e : next ≡ 0 + next = omega arith in ap (λ count. drop count members) e
drop_twice {A} (suc first) next [] = drop_nothing next ∙ sym (drop_nothing (suc first + next))
drop_twice (suc first) next (member ∷ members) =
    let e : suc (first + next) ≡ suc first + next = omega arith in
    drop_twice first next members ∙ ap (λ count. drop count (member ∷ members)) e

first_taken : (read : List ℤ) → slice_index_or (take 1 read) 0 (pos 0) ≡ slice_index_or read 0 (pos 0)
first_taken [] = refl
first_taken (first ∷ rest) = refl

-- a part, and then the rest, where both are the same
pub then_same : {A B : Type 0} (first other : Meaning A) (rest more : A → Meaning B) → first ≡ other → ((value : A) → rest value ≡ more value) → and_then first rest ≡ and_then other more
then_same first other rest more e f = (λ i. and_then (e i) (λ value. f value i))

zero_wrapped : pos 0 ≡ wrapped (pos 0)
unfolding int_wrap
zero_wrapped = refl

-- code is given these inputs, whose first ones have one element each; and its variables have their values, as elements
module _ (inputs : Inputs) (values : List ℤ) (variables : Named ℕ) (used : List ℕ) (read : List ℤ) (limit : ℕ)
    (single : (k : ℕ) → k < limit → slice_index_or inputs.values k [] ≡ take 1 (drop k read))
    (scalar : (k : ℕ) → k < limit → extents_of_connector inputs k ≡ [])
    (are : inputs.variables ≡ map (λ variable. wrapped (variable_value values variable)) used) where
  abbrev named_values : Named ℤ
  named_values = with_each (variable_value values) variables

  used_value : (found : Option ℕ) → IsUsed used found → graph.value_of inputs [] (task.variable_value used found) ≡ Ok (wrapped (unwrap_or (option_map (variable_value values) found) (pos 0)))
  used_value None h = ap Ok zero_wrapped
  used_value (Some variable) h =
      let place : ℕ = unwrap_or (position (nat_eq variable) used) 0 in
      let found : (place < length used) × (slice_index_or used place 0 ≡ variable) = place_found variable used h in
      ap Ok (ap (λ all. slice_index_or all place (pos 0)) are
      ∙ get_or-map (λ variable. wrapped (variable_value values variable)) used place 0 (pos 0) found.0
      ∙ ap (λ variable. wrapped (variable_value values variable)) found.1)

  pub named_value : (name : Name) → IsUsed used (in_force variables name) → graph.value_of inputs [] (task.variable_value used (in_force variables name)) ≡ Ok (wrapped (variable_in named_values name))
  named_value name h = used_value (in_force variables name) h ∙ ap (λ found. Ok (wrapped (unwrap_or found (pos 0)))) (sym (in_force_made (variable_value values) variables name))

  -- the one value of a connector
  connector_value : (k : ℕ) → k < limit → and_then (place_of inputs k (Ok [])) (λ at. Ok (element_of inputs k at)) ≡ Ok (slice_index_or (drop k read) 0 (pos 0))
  connector_value k h =
      ap (λ extents. and_then (checked extents []) (λ at. Ok (slice_index_or (slice_index_or inputs.values k []) (row_number extents at) (pos 0)))) (scalar k h)
      ∙ ap (λ all. Ok (slice_index_or all 0 (pos 0))) (single k h)
      ∙ ap Ok (first_taken (drop k read))

  pub value_tied : (expression : Expression) (k : ℕ) → k + reads_in expression ≤ limit → AllUsed variables used expression →
      graph.value_of inputs [] (code_of variables used k expression) ≡ value_of named_values (drop k read) expression
  value_tied (number value) k h u = refl
  value_tied (named name) k h u = named_value name u
  value_tied (element_at name at) k h u = connector_value k (omega (arith, h))
  value_tied (one sign of) k h u =
      then_same _ _ (λ value. Ok (graph.one_value (one_sign sign) value)) (λ value. Ok (one_value sign value)) (value_tied of k h u) (λ value. ap Ok (one_same sign value))
  value_tied (two sign left right) k h u =
      let after : k + elements_in left ≡ k + reads_in left = ap (λ count. k + count) (count_same left) in
      let second : graph.value_of inputs [] (code_of variables used (k + elements_in left) right) ≡ value_of named_values (drop (reads_in left) (drop k read)) right =
      ap (λ count. graph.value_of inputs [] (code_of variables used count right)) after
      ∙ value_tied right (k + reads_in left) (omega (arith, h)) u.1
      ∙ ap (λ more. value_of named_values more right) (sym (drop_twice k (reads_in left) read)) in
      then_same _ _ (λ first. graph.two_sides (two_sign sign) first (graph.value_of inputs [] (code_of variables used (k + elements_in left) right)))
      (λ first. two_sides sign first (value_of named_values (drop (reads_in left) (drop k read)) right)) (value_tied left k (omega (arith, h)) u.0)
      (λ first. sides_same sign first (graph.value_of inputs [] (code_of variables used (k + elements_in left) right)) ∙ ap (two_sides sign first) second)
  value_tied (choice value when other) k h u =
      let after : k + elements_in value ≡ k + reads_in value = ap (λ count. k + count) (count_same value) in
      let after_both : (k + elements_in value) + elements_in when ≡ k + (reads_in value + reads_in when) = omega (arith, count_same value, count_same when) in
      let second : graph.value_of inputs [] (code_of variables used (k + elements_in value) when) ≡ value_of named_values (drop (reads_in value) (drop k read)) when =
      ap (λ count. graph.value_of inputs [] (code_of variables used count when)) after
      ∙ value_tied when (k + reads_in value) (omega (arith, h)) u.1
      ∙ ap (λ more. value_of named_values more when) (sym (drop_twice k (reads_in value) read)) in
      let third : graph.value_of inputs [] (code_of variables used ((k + elements_in value) + elements_in when) other) ≡ value_of named_values (drop (reads_in value + reads_in when) (drop k read)) other =
      ap (λ count. graph.value_of inputs [] (code_of variables used count other)) after_both
      ∙ value_tied other (k + (reads_in value + reads_in when)) (omega (arith, h)) u.2
      ∙ ap (λ more. value_of named_values more other) (sym (drop_twice k (reads_in value + reads_in when) read)) in
      then_same _ _ (λ condition. if holds condition then graph.value_of inputs [] (code_of variables used k value) else graph.value_of inputs [] (code_of variables used ((k + elements_in value) + elements_in when) other))
      (λ condition. if holds condition then value_of named_values (drop k read) value else value_of named_values (drop (reads_in value + reads_in when) (drop k read)) other) second
      (λ condition. (λ i. if holds condition then value_tied value k (omega (arith, h)) u.0 i else third i))
