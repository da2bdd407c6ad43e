-- What code means with its numbers in variables.
use Rattle.std.proofs.Common.{◌≡◌, ℕ, zero, suc, ◌+◌, ◌<◌, ◌≤◌, ℤ, pos, List, [], ◌∷◌, ◌++◌, length, Option, Some, None, option_map, Bool, true, false, nat_lt, if◌then◌else◌, slice_index_or, Ok, Err, refl, ap, sym, ◌∙◌, arith}
use Rattle.std.specs.Prelude.{replicate}
use Rattle.std.specs.List.{position}
use Rattle.std.specs.Ordering.{int_eq}
use Rattle.std.proofs.lemmas.Bool.Decides.{Decides-int_eq}
use Rattle.std.proofs.lemmas.List.{get_or_append_left, get_or-append-add}
use Rattle.std.proofs.lemmas.List.Quantifiers.{position-Some}
use Rattle.sd_graph.specs.PlainTree.{ValueTree, literal, variable, local, input, one, two, choice, ValueTrees, no_value, and_value, ActTree, set_local, assign, branch, ActTrees, no_act, and_act, TaskletTree}
use Rattle.sd_graph.specs.TaskletMeaning.{Inputs, Meaning, Progress, and_then, value_of, values_of, act_of, acts_of, meaning_of}
use Rattle.sd_tasklet.specs.literals.Literals.{number_in, lifted_value, lifted_values, lifted_act, lifted_acts, lifted_tasklet, with_numbers}

and_then_same : {A B : Type 0} (first other : Meaning A) (next later : A → Meaning B) → first ≡ other → ((value : A) → next value ≡ later value) → and_then first next ≡ and_then other later
and_then_same first (Ok value) next later is same = rw is (same value)
and_then_same first (Err fault) next later is same = rw is refl

-- a variable that is not there is 0
past_all : (values : List ℤ) (place : ℕ) → length values ≤ place → slice_index_or values place (pos 0) ≡ pos 0
past_all [] place past = refl
past_all (first ∷ values) zero past = absurd (omega (arith, past))
past_all (first ∷ values) (suc place) past = past_all values place (omega (arith, past))

module _ (numbers : List ℤ) (own : ℕ) (inputs : Inputs) (many : length inputs.variables ≡ own) where
  number_found : (locals : List ℤ) (number : ℤ) (place : Option ℕ) → position (int_eq number) numbers ≡ place →
      value_of (with_numbers numbers inputs) locals (number_in number (option_map (λ place. own + place) place)) ≡ Ok number
  number_found locals number None is = refl
  number_found locals number (Some place) is =
      ap Ok (ap (λ count. slice_index_or (inputs.variables ++ numbers) (count + place) (pos 0)) (sym many)
      ∙ get_or-append-add inputs.variables numbers place (pos 0)
      ∙ sym ((Decides-int_eq number (slice_index_or numbers place (pos 0))).0 ((position-Some (int_eq number) numbers place (pos 0) is).1)))

  variable_kept : (locals : List ℤ) (place : ℕ) (there : Bool) → nat_lt place own ≡ there →
      value_of (with_numbers numbers inputs) locals (if there then variable place else literal (pos 0)) ≡ Ok (slice_index_or inputs.variables place (pos 0))
  variable_kept locals place true is =
      let below : place < length inputs.variables = grind (arith, many, is) in
      ap Ok (get_or_append_left inputs.variables numbers (pos 0) place below)
  variable_kept locals place false is =
      let past : length inputs.variables ≤ place = grind (arith, many, is) in
      ap Ok (sym (past_all inputs.variables place past))

  mutual
    value_lifted : (locals : List ℤ) (tree : ValueTree) → value_of (with_numbers numbers inputs) locals (lifted_value numbers own tree) ≡ value_of inputs locals tree
    value_lifted locals (literal number) = number_found locals number (position (int_eq number) numbers) refl
    value_lifted locals (variable place) = variable_kept locals place (nat_lt place own) refl
    value_lifted locals (local number) = refl
    value_lifted locals (input connector at) = rw (values_lifted locals at) refl
    value_lifted locals (one sign of) = rw (value_lifted locals of) refl
    value_lifted locals (two sign left right) = rw (value_lifted locals left, value_lifted locals right) refl
    value_lifted locals (choice value when other) = rw (value_lifted locals when, value_lifted locals value, value_lifted locals other) refl

    values_lifted : (locals : List ℤ) (trees : ValueTrees) → values_of (with_numbers numbers inputs) locals (lifted_values numbers own trees) ≡ values_of inputs locals trees
    values_lifted locals no_value = refl
    values_lifted locals (and_value first rest) = rw (value_lifted locals first, values_lifted locals rest) refl

  mutual
    act_lifted : (tree : ActTree) (now : Progress) → act_of (with_numbers numbers inputs) (lifted_act numbers own tree) now ≡ act_of inputs tree now
    act_lifted (set_local number value) now = rw (value_lifted now.locals value) refl
    act_lifted (assign connector at value) now = rw (values_lifted now.locals at, value_lifted now.locals value) refl
    act_lifted (branch when body other) now = rw (value_lifted now.locals when, acts_lifted body now, acts_lifted other now) refl

    acts_lifted : (trees : ActTrees) (now : Progress) → acts_of (with_numbers numbers inputs) (lifted_acts numbers own trees) now ≡ acts_of inputs trees now
    acts_lifted no_act now = refl
    acts_lifted (and_act first rest) now =
        and_then_same (act_of (with_numbers numbers inputs) (lifted_act numbers own first) now) (act_of inputs first now)
        (acts_of (with_numbers numbers inputs) (lifted_acts numbers own rest)) (acts_of inputs rest)
        (act_lifted first now) (acts_lifted rest)

-- the meaning of code
pub meaning-lifted : (numbers : List ℤ) (code : TaskletTree) (inputs : Inputs) → length inputs.variables ≡ length code.variables →
    meaning_of (lifted_tasklet numbers code) (with_numbers numbers inputs) ≡ meaning_of code inputs
meaning-lifted numbers code inputs many =
    let begin : Progress = record { locals = replicate code.locals (pos 0); effects = [] } in
    ap (λ (done : Meaning Progress). and_then done (λ now. Ok now.effects)) (acts_lifted numbers (length code.variables) inputs many code.body begin)
