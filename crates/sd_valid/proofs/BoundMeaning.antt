-- What code means with sizes in the place of its size symbols.
use Rattle.std.proofs.Common.{◌≡◌, ℕ, zero, suc, ◌<◌, ◌≤◌, ℤ, pos, List, [], ◌∷◌, map, length, Bool, true, false, ◌&&◌, nat_lt, if◌then◌else◌, slice_index_or, Ok, Err, refl, ap, sym, ◌∙◌, arith}
use Rattle.std.specs.Prelude.{replicate}
use Rattle.sd_num.specs.Wrapped.{wrapped}
use Rattle.sd_range.specs.Affine.{variable_value}
use Rattle.sd_graph.specs.PlainTree.{ValueTree, literal, variable, local, input, one, two, choice, ValueTrees, no_value, and_value, ActTree, set_local, assign, branch, ActTrees, no_act, and_act, TaskletTree}
use Rattle.sd_graph.specs.TaskletMeaning.{Inputs, Meaning, Progress, and_then, value_of, values_of, act_of, acts_of, meaning_of}
use Rattle.sd_valid.specs.BoundCode.{bound_variable, bound_value, bound_values, bound_act, bound_acts, bound_tasklet}
use Rattle.sd_valid.specs.SizedValues.{sized, AreElements}
use Rattle.sd_valid.proofs.SizedLaws.{size_value, other_value}

-- inputs of code
abbrev pub made : List (List ℤ) → List (List ℕ) → List ℤ → Inputs
made values extents variables = record { values = values; extents = extents; variables = variables }

-- variables of bound code have the values of the code's
abbrev pub Agree : (sizes : List ℤ) → (variables : List ℕ) → List (List ℤ) → List (List ℕ) → (own all : List ℤ) → Type 0
Agree sizes variables values extents own all =
    (locals : List ℤ) (place : ℕ) → value_of (made values extents own) locals (bound_variable sizes variables place) ≡ Ok (slice_index_or all place (pos 0))

and_then_same : {A B : Type 0} (first other : Meaning A) (next later : A → Meaning B) → first ≡ other → ((value : A) → next value ≡ later value) → and_then first next ≡ and_then other later
and_then_same first (Ok value) next later is same = rw is (same value)
and_then_same first (Err fault) next later is same = rw is refl

mutual
  pub value-bound : (sizes : List ℤ) (variables : List ℕ) (values : List (List ℤ)) (extents : List (List ℕ)) (own all : List ℤ) → Agree sizes variables values extents own all →
      (locals : List ℤ) (tree : ValueTree) → value_of (made values extents own) locals (bound_value sizes variables tree) ≡ value_of (made values extents all) locals tree
  value-bound sizes variables values extents own all agree locals (literal value) = refl
  value-bound sizes variables values extents own all agree locals (variable place) = agree locals place
  value-bound sizes variables values extents own all agree locals (local number) = refl
  value-bound sizes variables values extents own all agree locals (input connector at) = rw (values-bound sizes variables values extents own all agree locals at) refl
  value-bound sizes variables values extents own all agree locals (one sign of) = rw (value-bound sizes variables values extents own all agree locals of) refl
  value-bound sizes variables values extents own all agree locals (two sign left right) =
      rw (value-bound sizes variables values extents own all agree locals left, value-bound sizes variables values extents own all agree locals right) refl
  value-bound sizes variables values extents own all agree locals (choice value when other) =
      rw (value-bound sizes variables values extents own all agree locals when, value-bound sizes variables values extents own all agree locals value, value-bound sizes variables values extents own all agree locals other) refl

  pub values-bound : (sizes : List ℤ) (variables : List ℕ) (values : List (List ℤ)) (extents : List (List ℕ)) (own all : List ℤ) → Agree sizes variables values extents own all →
      (locals : List ℤ) (trees : ValueTrees) → values_of (made values extents own) locals (bound_values sizes variables trees) ≡ values_of (made values extents all) locals trees
  values-bound sizes variables values extents own all agree locals no_value = refl
  values-bound sizes variables values extents own all agree locals (and_value first rest) =
      rw (value-bound sizes variables values extents own all agree locals first, values-bound sizes variables values extents own all agree locals rest) refl

mutual
  pub act-bound : (sizes : List ℤ) (variables : List ℕ) (values : List (List ℤ)) (extents : List (List ℕ)) (own all : List ℤ) → Agree sizes variables values extents own all →
      (tree : ActTree) (now : Progress) → act_of (made values extents own) (bound_act sizes variables tree) now ≡ act_of (made values extents all) tree now
  act-bound sizes variables values extents own all agree (set_local number value) now = rw (value-bound sizes variables values extents own all agree now.locals value) refl
  act-bound sizes variables values extents own all agree (assign connector at value) now =
      rw (values-bound sizes variables values extents own all agree now.locals at, value-bound sizes variables values extents own all agree now.locals value) refl
  act-bound sizes variables values extents own all agree (branch when body other) now =
      rw (value-bound sizes variables values extents own all agree now.locals when, acts-bound sizes variables values extents own all agree body now, acts-bound sizes variables values extents own all agree other now) refl

  pub acts-bound : (sizes : List ℤ) (variables : List ℕ) (values : List (List ℤ)) (extents : List (List ℕ)) (own all : List ℤ) → Agree sizes variables values extents own all →
      (trees : ActTrees) (now : Progress) → acts_of (made values extents own) (bound_acts sizes variables trees) now ≡ acts_of (made values extents all) trees now
  acts-bound sizes variables values extents own all agree no_act now = refl
  acts-bound sizes variables values extents own all agree (and_act first rest) now =
      and_then_same (act_of (made values extents own) (bound_act sizes variables first) now) (act_of (made values extents all) first now)
      (acts_of (made values extents own) (bound_acts sizes variables rest)) (acts_of (made values extents all) rest)
      (act-bound sizes variables values extents own all agree first now) (acts-bound sizes variables values extents own all agree rest)

-- ---- the values of variables

-- a variable's value among those of all
at_mapped : (f : ℕ → ℤ) (variables : List ℕ) (place : ℕ) → place < length variables → slice_index_or (map f variables) place (pos 0) ≡ f (slice_index_or variables place 0)
at_mapped f [] place below = absurd (omega arith)
at_mapped f (first ∷ variables) zero below = refl
at_mapped f (first ∷ variables) (suc place) below = at_mapped f variables place (omega arith)

past_mapped : (f : ℕ → ℤ) (variables : List ℕ) (place : ℕ) → length variables ≤ place → slice_index_or (map f variables) place (pos 0) ≡ pos 0
past_mapped f [] place past = refl
past_mapped f (first ∷ variables) zero past = absurd (omega arith)
past_mapped f (first ∷ variables) (suc place) past = past_mapped f variables place (omega arith)

-- the values that code has of its variables
abbrev pub values_in : (values : List ℤ) → (variables : List ℕ) → List ℤ
values_in values variables = map (λ variable. wrapped (variable_value values variable)) variables

agree_by : (sizes values : List ℤ) (variables : List ℕ) (inputs : List (List ℤ)) (extents : List (List ℕ)) (locals : List ℤ) (place : ℕ) (inside symbol : Bool) → AreElements sizes →
    nat_lt place (length variables) ≡ inside → nat_lt (slice_index_or variables place 0) (length sizes) ≡ symbol →
    value_of (made inputs extents (values_in values variables)) locals (if inside && symbol then literal (variable_value sizes (slice_index_or variables place 0)) else variable place)
    ≡ Ok (slice_index_or (values_in (sized sizes values) variables) place (pos 0))
agree_by sizes values variables inputs extents locals place false symbol fit test is =
    let past : length variables ≤ place = grind (arith, test) in
    ap Ok (past_mapped (λ variable. wrapped (variable_value values variable)) variables place past ∙ sym (past_mapped (λ variable. wrapped (variable_value (sized sizes values) variable)) variables place past))
agree_by sizes values variables inputs extents locals place true true fit test is =
    let below : place < length variables = grind (arith, test) in
    let known : slice_index_or variables place 0 < length sizes = grind (arith, is) in
    ap Ok (sym (at_mapped (λ variable. wrapped (variable_value (sized sizes values) variable)) variables place below
    ∙ ap wrapped (size_value sizes values (slice_index_or variables place 0) known) ∙ fit (slice_index_or variables place 0)))
agree_by sizes values variables inputs extents locals place true false fit test is =
    let below : place < length variables = grind (arith, test) in
    let past : length sizes ≤ slice_index_or variables place 0 = grind (arith, is) in
    ap Ok (at_mapped (λ variable. wrapped (variable_value values variable)) variables place below
    ∙ ap wrapped (sym (other_value sizes values (slice_index_or variables place 0) past))
    ∙ sym (at_mapped (λ variable. wrapped (variable_value (sized sizes values) variable)) variables place below))

pub agree : (sizes values : List ℤ) (variables : List ℕ) (inputs : List (List ℤ)) (extents : List (List ℕ)) → AreElements sizes →
    Agree sizes variables inputs extents (values_in values variables) (values_in (sized sizes values) variables)
agree sizes values variables inputs extents fit locals place =
    agree_by sizes values variables inputs extents locals place (nat_lt place (length variables)) (nat_lt (slice_index_or variables place 0) (length sizes)) fit refl refl

-- the meaning of code
pub meaning-bound : (sizes values : List ℤ) (code : TaskletTree) (inputs : List (List ℤ)) (extents : List (List ℕ)) → AreElements sizes →
    meaning_of (bound_tasklet sizes code) (made inputs extents (values_in values code.variables)) ≡ meaning_of code (made inputs extents (values_in (sized sizes values) code.variables))
meaning-bound sizes values code inputs extents fit =
    let begin : Progress = record { locals = replicate code.locals (pos 0); effects = [] } in
    ap (λ (done : Meaning Progress). and_then done (λ now. Ok now.effects))
    (acts-bound sizes code.variables inputs extents (values_in values code.variables) (values_in (sized sizes values) code.variables) (agree sizes values code.variables inputs extents fit) code.body begin)
