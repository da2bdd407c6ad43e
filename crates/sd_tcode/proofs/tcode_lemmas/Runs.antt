-- The instructions of an expression give its value.
use Rattle.std.proofs.Common.{◌≡◌, ◌⊎◌, inl, inr, ℕ, suc, ◌+◌, ◌-◌, ◌<◌, ◌≤◌, ℤ, pos, List, [], ◌∷◌, ◌++◌, length, take, drop, Ok, Err, Bool, true, false, not, ◌&&◌, if◌then◌else◌, refl, sym, ap, ◌∙◌, subst, arith, drop-cons}
use Rattle.std.specs.Prelude.{slice_index_or}
use Rattle.std.specs.List.{AllByRecursion}
use Rattle.sd_range.specs.Subset.{inside}
use Rattle.sd_graph.specs.RowOrder.{row_number}
use Rattle.sd_graph.specs.PlainTree.{ValueTree, literal, variable, local, input, one, two, choice, ValueTrees, no_value, and_value, TaskletTree}
use Rattle.sd_graph.specs.TaskletMeaning.{Meaning, Inputs, and_then, holds, checked, element_of, place_of, extents_of_connector, value_of, values_of, one_value, two_values, two_sides}
use Rattle.sd_graph.specs.declared.operator.OneSign.{OneSign}
use Rattle.sd_graph.specs.declared.operator.OneSign.TheVariants as before
use Rattle.sd_graph.specs.declared.operator.TwoSign.{TwoSign}
use Rattle.sd_graph.specs.declared.operator.TwoSign.TheVariants as between
use Rattle.sd_tcode.specs.tcode.Named.{count_of, dimensions_of, NamesOf, AllNamesOf}
use Rattle.sd_tcode.specs.op.Machine.{Held, State, register, index_in, with_register, with_result, combined, extents_at, cells_at, cell_of}
use Rattle.sd_tcode.specs.op.Within.{Room, IsWithin}
use Rattle.sd_tcode.specs.tcode.Emitted.{variable_register, local_register, free_register, one_op, two_op, is_lazy, is_ready, is_comparison, operand_register, unless_ready, unless_op, test_op, either_code, jumps_where, second_code, condition_op, condition_code, input_code, value_code, values_code, layout_of}
use Rattle.sd_tcode.specs.declared.op.op.Op.{Op}
use Rattle.sd_tcode.specs.declared.op.op.Op.TheVariants.{Number, Copy, Element, Skip, SkipIfZero}
use Rattle.sd_tcode.proofs.tcode_lemmas.Flow.{all_front, all_back, Comes, comes_on, comes_not, Jumps, either_first, either_second}
use Rattle.sd_tcode.proofs.tcode_lemmas.States.{Kept, Leaves, written, kept_then, stays, kept_free, kept_twice}
use Rattle.sd_tcode.proofs.tcode_lemmas.Signs.{two_target, one_target, choose, sides_strict, or_decided, or_open, and_decided, and_open, test_jumps, comparison_strict, other_op, compares}

module _ (code : TaskletTree) (inputs : Inputs) (arrays : List Held) (room : Room) where
  -- the arrays hold the extents of the connectors, and the elements of the inputs that have dimensions
  pub record Holds : Type 0 where
    pub extents : (connector : ℕ) → extents_at arrays connector ≡ extents_of_connector inputs connector
    pub dimensions : (connector : ℕ) → length (extents_of_connector inputs connector) ≡ dimensions_of code connector
    pub cells : (connector : ℕ) → connector < length code.ins → 0 < dimensions_of code connector → cells_at arrays connector ≡ slice_index_or inputs.values connector []

  -- the registers hold the scalars, the variables and the locals
  pub record Stands (locals : List ℤ) (state : State) : Type 0 where
    pub scalars : (connector : ℕ) → connector < length code.ins → dimensions_of code connector ≡ 0 → register state connector ≡ element_of inputs connector []
    pub variables : (place : ℕ) → place < length code.variables → register state (variable_register (layout_of code) place) ≡ slice_index_or inputs.variables place (pos 0)
    pub locals_are : (number : ℕ) → number < code.locals → register state (local_register (layout_of code) number) ≡ slice_index_or locals number (pos 0)

  -- what registers below the free ones hold stays where these stay
  pub still_stands : (locals : List ℤ) (free : ℕ) (state after : State) → free_register (layout_of code) ≤ free → Kept free state after → Stands locals state → Stands locals after
  still_stands locals free state after h kept stands = record {
    scalars = λ connector there scalar. kept.rest connector (omega arith) ∙ stands.scalars connector there scalar;
    variables = λ place there. kept.rest (variable_register (layout_of code) place) (omega arith) ∙ stands.variables place there;
    locals_are = λ number there. kept.rest (local_register (layout_of code) number) (omega arith) ∙ stands.locals_are number there;
  }

  -- instructions that leave the value in a register, or come to its fault
  abbrev pub Yields : List Op → State → (free to : ℕ) → Meaning ℤ → Type 0
  Yields ops state free to (Ok value) = (after : State) × Leaves free to value state after × Comes arrays ops state (Ok after)
  Yields ops state free to (Err kind) = Comes arrays ops state (Err kind)

  -- instructions that leave the value somewhere, and all below the free registers as it was
  abbrev pub Reads : List Op → State → (free from : ℕ) → Meaning ℤ → Type 0
  Reads ops state free from (Ok value) = (after : State) × Kept free state after × (register after from ≡ value) × Comes arrays ops state (Ok after)
  Reads ops state free from (Err kind) = Comes arrays ops state (Err kind)

  -- the same of an index
  abbrev pub ReadsAll : List Op → State → (free count : ℕ) → Meaning (List ℤ) → Type 0
  ReadsAll ops state free count (Ok values) = (after : State) × Kept free state after × (index_in after free count ≡ values) × Comes arrays ops state (Ok after)
  ReadsAll ops state free count (Err kind) = Comes arrays ops state (Err kind)

  pub scalar_inside : (extents : List ℕ) → length extents ≡ 0 → inside extents [] ≡ true
  scalar_inside [] h = refl
  scalar_inside (extent ∷ extents) h = absurd (omega (arith, h))

  -- a scalar has one place
  pub scalar_meant : Holds → (connector : ℕ) → dimensions_of code connector ≡ 0 → and_then (place_of inputs connector (Ok [])) (λ at. Ok (element_of inputs connector at)) ≡ Ok (element_of inputs connector [])
  scalar_meant given connector h = rw (scalar_inside (extents_of_connector inputs connector) (given.dimensions connector ∙ h)) refl

  -- an operand: what stands in a register already, or else what was computed
  not_ready : (free : ℕ) (ops : List Op) (state : State) (meant : Meaning ℤ) → Yields ops state (free + 1) free meant → Reads ops state free free meant
  not_ready free ops state (Ok value) y = (y.0, kept_free free value state y.0 y.1, y.1.value_is, y.2)
  not_ready free ops state (Err kind) y = y

  pub operand : Holds → (tree : ValueTree) (locals : List ℤ) (free : ℕ) (state : State) → NamesOf code tree → Stands locals state →
      (ops : List Op) → (is_ready tree ≡ false → Yields ops state (free + 1) free (value_of inputs locals tree)) →
      Reads (unless_ready tree ops) state free (operand_register (layout_of code) free tree) (value_of inputs locals tree)
  operand given (literal value) locals free state names stands ops y = not_ready free ops state (Ok value) (y refl)
  operand given (variable place) locals free state names stands ops y = (state, stays free state, stands.variables place names, refl)
  operand given (local number) locals free state names stands ops y = (state, stays free state, stands.locals_are number names, refl)
  operand given (input connector no_value) locals free state names stands ops y =
      subst (λ m. Reads [] state free connector m) (sym (scalar_meant given connector (sym names.1))) (state, stays free state, stands.scalars connector names.0 (sym names.1), refl)
  operand given (input connector (and_value first rest)) locals free state names stands ops y = not_ready free ops state (value_of inputs locals (input connector (and_value first rest))) (y refl)
  operand given (one sign of) locals free state names stands ops y = not_ready free ops state (value_of inputs locals (one sign of)) (y refl)
  operand given (two sign left right) locals free state names stands ops y = not_ready free ops state (value_of inputs locals (two sign left right)) (y refl)
  operand given (choice value when other) locals free state names stands ops y = not_ready free ops state (value_of inputs locals (choice value when other)) (y refl)

  -- the register of an operand is no free one but the first
  operand_low : (tree : ValueTree) (free : ℕ) → NamesOf code tree → free_register (layout_of code) ≤ free → operand_register (layout_of code) free tree < free + 1
  operand_low (literal value) free names h = omega arith
  operand_low (variable place) free names h = omega arith
  operand_low (local number) free names h = omega arith
  operand_low (input connector no_value) free names h = omega (arith, names.0)
  operand_low (input connector (and_value first rest)) free names h = omega arith
  operand_low (one sign of) free names h = omega arith
  operand_low (two sign left right) free names h = omega arith
  operand_low (choice value when other) free names h = omega arith

  -- ---- one instruction behind others

  -- the last instruction, which writes what it comes to
  last_yields : (op : Op) (state : State) (free to : ℕ) (meant : Meaning ℤ) → to < length state.registers → Comes arrays (op ∷ []) state (and_then meant (λ value. Ok (with_register state to value))) → Yields (op ∷ []) state free to meant
  last_yields op state free to (Ok value) h c = (with_register state to value, written free to value state h, c)
  last_yields op state free to (Err kind) h c = c

  yields_on : (ops more : List Op) (state middle : State) (free to : ℕ) (meant : Meaning ℤ) → Kept free state middle → Comes arrays ops state (Ok middle) → Yields more middle free to meant → Yields (ops ++ more) state free to meant
  yields_on ops more state middle free to (Ok value) k c y = (y.0, kept_then free free to value state middle y.0 (omega arith) k y.1, comes_on arrays ops more state middle (Ok y.0) c y.2)
  yields_on ops more state middle free to (Err kind) k c y = comes_on arrays ops more state middle (Err kind) c y

  yields_less : (ops : List Op) (state : State) (free to : ℕ) (meant : Meaning ℤ) → Yields ops state (free + 1) to meant → Yields ops state free to meant
  yields_less ops state free to (Ok value) y = (y.0, record { many = y.1.many; effects = y.1.effects; value_is = y.1.value_is; rest = λ i low other. y.1.rest i (omega arith) other }, y.2)
  yields_less ops state free to (Err kind) y = y

  copy_comes : (to from : ℕ) (value : ℤ) (state : State) → register state from ≡ value → Comes arrays (Copy to from ∷ []) state (Ok (with_register state to value))
  copy_comes to from value state e = ap (λ v. Ok (with_register state to v, 0)) e

  one_comes : (sign : OneSign) (to from : ℕ) (value : ℤ) (state : State) → register state from ≡ value → Comes arrays (one_op sign to from ∷ []) state (Ok (with_register state to (one_value sign value)))
  one_comes before.Not to from value state e = ap (λ v. Ok (with_register state to (one_value before.Not v), 0)) e
  one_comes before.Neg to from value state e = ap (λ v. Ok (with_register state to (one_value before.Neg v), 0)) e
  one_comes before.Inv to from value state e = ap (λ v. Ok (with_register state to (one_value before.Inv v), 0)) e

  two_plain : (sign : TwoSign) (to left right : ℕ) (state : State) → Comes arrays (two_op sign to left right ∷ []) state (combined state sign to left right)
  two_plain between.Or to left right state = refl
  two_plain between.And to left right state = refl
  two_plain between.Less to left right state = refl
  two_plain between.LessEqual to left right state = refl
  two_plain between.Greater to left right state = refl
  two_plain between.GreaterEqual to left right state = refl
  two_plain between.Equal to left right state = refl
  two_plain between.Differ to left right state = refl
  two_plain between.BitOr to left right state = refl
  two_plain between.BitXor to left right state = refl
  two_plain between.BitAnd to left right state = refl
  two_plain between.Add to left right state = refl
  two_plain between.Sub to left right state = refl
  two_plain between.Mul to left right state = refl
  two_plain between.FloorDiv to left right state = refl
  two_plain between.Mod to left right state = refl
  two_plain between.Min to left right state = refl
  two_plain between.Max to left right state = refl

  two_comes : (sign : TwoSign) (to left right : ℕ) (first second : ℤ) (state : State) → register state left ≡ first → register state right ≡ second →
      Comes arrays (two_op sign to left right ∷ []) state (and_then (two_values sign first second) (λ value. Ok (with_register state to value)))
  two_comes sign to left right first second state e g =
      two_plain sign to left right state ∙ (λ i. and_then (with_result state to (two_values sign (e i) (g i))) (λ state. Ok (state, 0)))

  -- ---- one sign, two signs

  one_yields : (sign : OneSign) (to free from : ℕ) (ops : List Op) (state : State) (meant : Meaning ℤ) → to < length state.registers → Reads ops state free from meant →
      Yields (ops ++ one_op sign to from ∷ []) state free to (and_then meant (λ value. Ok (one_value sign value)))
  one_yields sign to free from ops state (Ok value) h r =
      yields_on ops (one_op sign to from ∷ []) state r.0 free to (Ok (one_value sign value)) r.1 r.3
      (last_yields (one_op sign to from) r.0 free to (Ok (one_value sign value)) (omega (arith, r.1.many)) (one_comes sign to from value r.0 r.2))
  one_yields sign to free from ops state (Err kind) h r = comes_not arrays ops (one_op sign to from ∷ []) state kind r

  two_second : (sign : TwoSign) (to free left right : ℕ) (first : ℤ) (ops : List Op) (state : State) (meant : Meaning ℤ) → to < length state.registers → left < free + 1 → register state left ≡ first →
      Reads ops state (free + 1) right meant → Yields (ops ++ two_op sign to left right ∷ []) state free to (and_then meant (two_values sign first))
  two_second sign to free left right first ops state (Ok second) h low e r =
      let kept : Kept free state r.0 = record { many = r.1.many; effects = r.1.effects; rest = λ i below. r.1.rest i (omega arith) } in
      yields_on ops (two_op sign to left right ∷ []) state r.0 free to (two_values sign first second) kept r.3
      (last_yields (two_op sign to left right) r.0 free to (two_values sign first second) (omega (arith, r.1.many)) (two_comes sign to left right first second r.0 (r.1.rest left low ∙ e) r.2))
  two_second sign to free left right first ops state (Err kind) h low e r = comes_not arrays ops (two_op sign to left right ∷ []) state kind r

  -- ---- choices

  first_yields : (test : ℕ → Op) (first second : List Op) (state : State) (free to : ℕ) (meant : Meaning ℤ) → Jumps arrays (test (length first + 1)) state 0 →
      Yields first state free to meant → Yields (either_code test first second) state free to meant
  first_yields test first second state free to (Ok this) h y = (y.0, y.1, either_first arrays test first second state (Ok y.0) h y.2)
  first_yields test first second state free to (Err kind) h y = either_first arrays test first second state (Err kind) h y

  second_yields : (test : ℕ → Op) (first second : List Op) (state : State) (free to : ℕ) (meant : Meaning ℤ) → Jumps arrays (test (length first + 1)) state (length first + 1) →
      Yields second state free to meant → Yields (either_code test first second) state free to meant
  second_yields test first second state free to (Ok this) h y = (y.0, y.1, either_second arrays test first second state (Ok y.0) h y.2)
  second_yields test first second state free to (Err kind) h y = either_second arrays test first second state (Err kind) h y

  choice_yields : (test : ℕ → Op) (first second : List Op) (state : State) (free to : ℕ) (meant other : Meaning ℤ) (b : Bool) → ((count : ℕ) → Jumps arrays (test count) state (if b then 0 else count)) →
      Yields first state free to meant → Yields second state free to other → Yields (either_code test first second) state free to (choose b meant other)
  choice_yields test first second state free to meant other true h y z = first_yields test first second state free to meant (h (length first + 1)) y
  choice_yields test first second state free to meant other false h y z = second_yields test first second state free to other (h (length first + 1)) z

  copies : (to from free : ℕ) (value : ℤ) (state : State) → to < length state.registers → register state from ≡ value → Yields (Copy to from ∷ []) state free to (Ok value)
  copies to from free value state h e = last_yields (Copy to from) state free to (Ok value) h (copy_comes to from value state e)

  or_yields : (left to free : ℕ) (first : ℤ) (jumped : List Op) (state : State) (meant : Meaning ℤ) (b : Bool) → holds first ≡ b → to < length state.registers → register state left ≡ first →
      Yields jumped state free to meant → Yields (either_code (test_op true left) jumped (Copy to left ∷ [])) state free to (two_sides between.Or first meant)
  or_yields left to free first jumped state meant true h n e y =
      subst (λ m. Yields (either_code (test_op true left) jumped (Copy to left ∷ [])) state free to m) (sym (or_decided first (holds first) meant h))
      (second_yields (test_op true left) jumped (Copy to left ∷ []) state free to (Ok first) (test_jumps arrays true left (length jumped + 1) state true (ap holds e ∙ h)) (copies to left free first state n e))
  or_yields left to free first jumped state meant false h n e y =
      subst (λ m. Yields (either_code (test_op true left) jumped (Copy to left ∷ [])) state free to m) (sym (or_open first (holds first) meant h))
      (first_yields (test_op true left) jumped (Copy to left ∷ []) state free to meant (test_jumps arrays true left (length jumped + 1) state false (ap holds e ∙ h)) y)

  and_yields : (left to free : ℕ) (first : ℤ) (jumped : List Op) (state : State) (meant : Meaning ℤ) (b : Bool) → holds first ≡ b → to < length state.registers → register state left ≡ first →
      Yields jumped state free to meant → Yields (either_code (test_op false left) jumped (Copy to left ∷ [])) state free to (two_sides between.And first meant)
  and_yields left to free first jumped state meant false h n e y =
      subst (λ m. Yields (either_code (test_op false left) jumped (Copy to left ∷ [])) state free to m) (sym (and_decided first (holds first) meant h))
      (second_yields (test_op false left) jumped (Copy to left ∷ []) state free to (Ok first) (test_jumps arrays false left (length jumped + 1) state false (ap holds e ∙ h)) (copies to left free first state n e))
  and_yields left to free first jumped state meant true h n e y =
      subst (λ m. Yields (either_code (test_op false left) jumped (Copy to left ∷ [])) state free to m) (sym (and_open first (holds first) meant h))
      (first_yields (test_op false left) jumped (Copy to left ∷ []) state free to meant (test_jumps arrays false left (length jumped + 1) state true (ap holds e ∙ h)) y)

  lazy_yields : (sign : TwoSign) (left to free : ℕ) (first : ℤ) (jumped : List Op) (state : State) (meant : Meaning ℤ) → is_lazy sign ≡ true → to < length state.registers → register state left ≡ first →
      Yields jumped state free to meant → Yields (either_code (test_op (jumps_where sign) left) jumped (Copy to left ∷ [])) state free to (two_sides sign first meant)
  lazy_yields between.Or left to free first jumped state meant h n e y = or_yields left to free first jumped state meant (holds first) refl n e y
  lazy_yields between.And left to free first jumped state meant h n e y = and_yields left to free first jumped state meant (holds first) refl n e y
  lazy_yields between.Less left to free first jumped state meant h n e y = cc
  lazy_yields between.LessEqual left to free first jumped state meant h n e y = cc
  lazy_yields between.Greater left to free first jumped state meant h n e y = cc
  lazy_yields between.GreaterEqual left to free first jumped state meant h n e y = cc
  lazy_yields between.Equal left to free first jumped state meant h n e y = cc
  lazy_yields between.Differ left to free first jumped state meant h n e y = cc
  lazy_yields between.BitOr left to free first jumped state meant h n e y = cc
  lazy_yields between.BitXor left to free first jumped state meant h n e y = cc
  lazy_yields between.BitAnd left to free first jumped state meant h n e y = cc
  lazy_yields between.Add left to free first jumped state meant h n e y = cc
  lazy_yields between.Sub left to free first jumped state meant h n e y = cc
  lazy_yields between.Mul left to free first jumped state meant h n e y = cc
  lazy_yields between.FloorDiv left to free first jumped state meant h n e y = cc
  lazy_yields between.Mod left to free first jumped state meant h n e y = cc
  lazy_yields between.Min left to free first jumped state meant h n e y = cc
  lazy_yields between.Max left to free first jumped state meant h n e y = cc

  -- ---- expressions

  -- a value of a register behind an index
  pub index_more : (first count : ℕ) (state : State) → first < length state.registers → index_in state first (count + 1) ≡ register state first ∷ index_in state (first + 1) count
  index_more first count state h =
      let long : (first + (count + 1)) - first ≡ suc count = omega arith in
      let short : count ≡ (first + 1 + count) - (first + 1) = omega arith in
      let next : suc first ≡ first + 1 = omega arith in
      (λ i. take (long i) (drop first state.registers))
      ∙ (ap (take (suc count)) (drop-cons state.registers first (pos 0) h)
      ∙ (λ i. register state first ∷ take (short i) (drop (next i) state.registers)))

  -- what an element comes to
  element_meant : Holds → (connector : ℕ) → connector < length code.ins → 0 < dimensions_of code connector → (at : List ℤ) →
      and_then (checked (extents_at arrays connector) at) (λ at. Ok (cell_of arrays connector at)) ≡ and_then (checked (extents_of_connector inputs connector) at) (λ at. Ok (element_of inputs connector at))
  element_meant given connector there some at =
      (λ i. and_then (checked (given.extents connector i) at) (λ at. Ok (slice_index_or (given.cells connector there some i) (row_number (given.extents connector i) at) (pos 0))))

  element_yields : Holds → (connector to free count : ℕ) (ops : List Op) (state : State) (meant : Meaning (List ℤ)) → connector < length code.ins → 0 < dimensions_of code connector → to < length state.registers →
      ReadsAll ops state free count meant → Yields (ops ++ Element count to connector free ∷ []) state free to (and_then (place_of inputs connector meant) (λ at. Ok (element_of inputs connector at)))
  element_yields given connector to free count ops state (Ok values) there some h r =
      let meant = and_then (checked (extents_of_connector inputs connector) values) (λ at. Ok (element_of inputs connector at)) in
      let same : and_then (checked (extents_at arrays connector) (index_in r.0 free count)) (λ at. Ok (cell_of arrays connector at)) ≡ meant =
      ap (λ at. and_then (checked (extents_at arrays connector) at) (λ at. Ok (cell_of arrays connector at))) r.2 ∙ element_meant given connector there some values in
      yields_on ops (Element count to connector free ∷ []) state r.0 free to meant r.1 r.3
      (last_yields (Element count to connector free) r.0 free to meant (omega (arith, r.1.many)) (ap (λ m. and_then {B = State × ℕ} (with_result r.0 to m) (λ state. Ok (state, 0))) same ∙ with_comes r.0 to meant))
    where
      with_comes : (state : State) (to : ℕ) (meant : Meaning ℤ) → and_then {B = State × ℕ} (with_result state to meant) (λ state. Ok (state, 0)) ≡ and_then (and_then meant (λ value. Ok (with_register state to value))) (λ state. Ok (state, 0))
      with_comes state to (Ok value) = refl
      with_comes state to (Err kind) = refl
  element_yields given connector to free count ops state (Err kind) there some h r = comes_not arrays ops (Element count to connector free ∷ []) state kind r

  -- one value more of an index
  values_on : (ops more : List Op) (state : State) (free count : ℕ) (first : Meaning ℤ) (rest : Meaning (List ℤ)) → free < length state.registers → Yields ops state (free + 1) free first →
      ((after : State) → Kept free state after → ReadsAll more after (free + 1) count rest) →
      ReadsAll (ops ++ more) state free (count + 1) (and_then first (λ value. and_then rest (λ values. Ok (value ∷ values))))
  values_on ops more state free count (Ok value) rest h y f =
      let kept = kept_free free value state y.0 y.1 in
      values_behind rest (f y.0 kept)
    where
      values_behind : (rest : Meaning (List ℤ)) → ReadsAll more y.0 (free + 1) count rest → ReadsAll (ops ++ more) state free (count + 1) (and_then rest (λ values. Ok (value ∷ values)))
      values_behind (Ok values) r =
          let kept = kept_free free value state y.0 y.1 in
          let here : register r.0 free ≡ value = r.1.rest free (omega arith) ∙ y.1.value_is in
          (r.0, kept_twice free (free + 1) state y.0 r.0 (omega arith) kept r.1, index_more free count r.0 (omega (arith, r.1.many, kept.many)) ∙ (λ i. here i ∷ r.2 i), comes_on arrays ops more state y.0 (Ok r.0) y.2 r.3)
      values_behind (Err kind) r = comes_on arrays ops more state y.0 (Err kind) y.2 r
  values_on ops more state free count (Err kind) rest h y f = comes_not arrays ops more state kind y

  pub unless_open : (tree : ValueTree) (ops : List Op) → is_ready tree ≡ false → AllByRecursion (IsWithin room) (unless_ready tree ops) → AllByRecursion (IsWithin room) ops
  unless_open tree ops h all = subst (λ (b : Bool). AllByRecursion (IsWithin room) (if b then [] else ops)) h all

  -- a value that is ready has no fault
  ready_value : Holds → (tree : ValueTree) (locals : List ℤ) → NamesOf code tree → is_ready tree ≡ true → (value : ℤ) × (value_of inputs locals tree ≡ Ok value)
  ready_value given (literal value) locals names h = (value, refl)
  ready_value given (variable place) locals names h = (slice_index_or inputs.variables place (pos 0), refl)
  ready_value given (local number) locals names h = (slice_index_or locals number (pos 0), refl)
  ready_value given (input connector no_value) locals names h = (element_of inputs connector [], scalar_meant given connector (sym names.1))
  ready_value given (input connector (and_value first rest)) locals names h = cc
  ready_value given (one sign of) locals names h = cc
  ready_value given (two sign left right) locals names h = cc
  ready_value given (choice value when other) locals names h = cc

  -- no sign is lazy here, or the second value is there
  not_lazy : Holds → (sign : TwoSign) (tree : ValueTree) (locals : List ℤ) → NamesOf code tree → (lazy ready : Bool) → is_lazy sign ≡ lazy → is_ready tree ≡ ready → (lazy && not ready) ≡ false →
      (is_lazy sign ≡ false) ⊎ ((value : ℤ) × (value_of inputs locals tree ≡ Ok value))
  not_lazy given sign tree locals names false ready h r e = inl h
  not_lazy given sign tree locals names true true h r e = inr (ready_value given tree locals names r)
  not_lazy given sign tree locals names true false h r e = cc

  is_both : (lazy ready : Bool) → (lazy && not ready) ≡ true → (lazy ≡ true) × (ready ≡ false)
  is_both true false e = (refl, refl)
  is_both true true e = cc
  is_both false ready e = cc

  abbrev pub AllIn : List Op → Type 0
  AllIn ops = AllByRecursion (IsWithin room) ops

  -- the second side of a sign, where the first value stands in a register
  second_yields_it : Holds → (sign : TwoSign) (right : ValueTree) (locals : List ℤ) (to free left : ℕ) (first : ℤ) (state : State) → NamesOf code right → Stands locals state →
      length state.registers ≡ room.registers → left < free + 1 → register state left ≡ first → (jumped straight : List Op) →
      (AllIn jumped → Yields jumped state free to (value_of inputs locals right)) →
      (AllIn straight → Yields straight state (free + 1 + 1) (free + 1) (value_of inputs locals right)) →
      (b : Bool) → (is_lazy sign && not (is_ready right)) ≡ b →
      AllIn (if b then either_code (test_op (jumps_where sign) left) jumped (Copy to left ∷ []) else unless_ready right straight ++ two_op sign to left (operand_register (layout_of code) (free + 1) right) ∷ []) →
      Yields (if b then either_code (test_op (jumps_where sign) left) jumped (Copy to left ∷ []) else unless_ready right straight ++ two_op sign to left (operand_register (layout_of code) (free + 1) right) ∷ []) state free to (two_sides sign first (value_of inputs locals right))
  second_yields_it given sign right locals to free left first state names stands n low e jumped straight yj ys true b all =
      let parts = is_both (is_lazy sign) (is_ready right) b in
      let fits = (all_back (IsWithin room) jumped (Skip 1 ∷ Copy to left ∷ []) all.1).1.0.0.1 in
      lazy_yields sign left to free first jumped state (value_of inputs locals right) parts.0 (omega (arith, fits)) e (yj (all_front (IsWithin room) jumped (Skip 1 ∷ Copy to left ∷ []) all.1))
  second_yields_it given sign right locals to free left first state names stands n low e jumped straight yj ys false b all =
      let last = two_op sign to left (operand_register (layout_of code) (free + 1) right) in
      let fits = two_target room sign to left (operand_register (layout_of code) (free + 1) right) (all_back (IsWithin room) (unless_ready right straight) (last ∷ []) all).0 in
      subst (λ m. Yields (unless_ready right straight ++ last ∷ []) state free to m)
      (sym (sides_strict sign first (value_of inputs locals right) (not_lazy given sign right locals names (is_lazy sign) (is_ready right) refl refl b)))
      (two_second sign to free left (operand_register (layout_of code) (free + 1) right) first (unless_ready right straight) state (value_of inputs locals right) (omega (arith, fits)) low e
      (operand given right locals (free + 1) state names stands straight (λ r. ys (unless_open right straight r (all_front (IsWithin room) (unless_ready right straight) (last ∷ []) all)))))

  pub index_none : (first : ℕ) (state : State) → index_in state first 0 ≡ []
  index_none first state = let none : (first + 0) - first ≡ 0 = omega arith in ap (λ n. take n (drop first state.registers)) none

  -- behind an operand
  behind_operand : (ops more : List Op) (state : State) (free from to : ℕ) (meant : Meaning ℤ) (rest : ℤ → Meaning ℤ) → Reads ops state free from meant →
      ((value : ℤ) (after : State) → Kept free state after → register after from ≡ value → Yields more after free to (rest value)) → Yields (ops ++ more) state free to (and_then meant rest)
  behind_operand ops more state free from to (Ok value) rest r f = yields_on ops more state r.0 free to (rest value) r.1 r.3 (f value r.0 r.1 r.2)
  behind_operand ops more state free from to (Err kind) rest r f = comes_not arrays ops more state kind r

  -- ---- conditions

  -- instructions behind which a jump is taken unless the value holds, or that come to its fault
  abbrev pub Decides : List Op → State → (free : ℕ) → (test : ℕ → Op) → Meaning ℤ → Type 0
  Decides ops state free test (Ok value) = (after : State) × Kept free state after × ((count : ℕ) → Jumps arrays (test count) after (if holds value then 0 else count)) × Comes arrays ops state (Ok after)
  Decides ops state free test (Err kind) = Comes arrays ops state (Err kind)

  -- by a register that holds the value
  by_value : (ops : List Op) (state : State) (free from : ℕ) (meant : Meaning ℤ) → Reads ops state free from meant → Decides ops state free (SkipIfZero from) meant
  by_value ops state free from (Ok value) r = (r.0, r.1, λ count. (refl, ap (λ v. if holds v then 0 else count) r.2), r.3)
  by_value ops state free from (Err kind) r = r

  -- by a comparison of two registers
  by_comparison : (sign : TwoSign) (free left right : ℕ) (first : ℤ) (ops : List Op) (state : State) (meant : Meaning ℤ) → is_comparison sign ≡ true → left < free + 1 → register state left ≡ first →
      Reads ops state (free + 1) right meant → Decides ops state free (unless_op sign left right free) (and_then meant (two_values sign first))
  by_comparison sign free left right first ops state (Ok second) h low e r =
      let is = compares arrays sign left right free r.0 h in
      let kept : Kept free state r.0 = record { many = r.1.many; effects = r.1.effects; rest = λ i below. r.1.rest i (omega arith) } in
      let same : two_values sign (register r.0 left) (register r.0 right) ≡ two_values sign first second = (λ i. two_values sign ((r.1.rest left low ∙ e) i) (r.2 i)) in
      subst (λ m. Decides ops state free (unless_op sign left right free) m) (sym is.1 ∙ same) (r.0, kept, is.2, r.3)
  by_comparison sign free left right first ops state (Err kind) h low e r = r

  decides_on : (ops more : List Op) (state middle : State) (free : ℕ) (test : ℕ → Op) (meant : Meaning ℤ) → Kept free state middle → Comes arrays ops state (Ok middle) → Decides more middle free test meant → Decides (ops ++ more) state free test meant
  decides_on ops more state middle free test (Ok value) k c d = (d.0, kept_twice free free state middle d.0 (omega arith) k d.1, d.2, comes_on arrays ops more state middle (Ok d.0) c d.3)
  decides_on ops more state middle free test (Err kind) k c d = comes_on arrays ops more state middle (Err kind) c d

  decides_behind : (ops more : List Op) (state : State) (free from : ℕ) (test : ℕ → Op) (meant : Meaning ℤ) (rest : ℤ → Meaning ℤ) → Reads ops state free from meant →
      ((value : ℤ) (after : State) → Kept free state after → register after from ≡ value → Decides more after free test (rest value)) → Decides (ops ++ more) state free test (and_then meant rest)
  decides_behind ops more state free from test (Ok value) rest r f = decides_on ops more state r.0 free test (rest value) r.1 r.3 (f value r.0 r.1 r.2)
  decides_behind ops more state free from test (Err kind) rest r f = comes_not arrays ops more state kind r

  value_decides : Holds → (when : ValueTree) (locals : List ℤ) (free : ℕ) (state : State) → NamesOf code when → Stands locals state → (straight : List Op) →
      (AllIn straight → Yields straight state (free + 1) free (value_of inputs locals when)) → AllIn (unless_ready when straight) →
      Decides (unless_ready when straight) state free (SkipIfZero (operand_register (layout_of code) free when)) (value_of inputs locals when)
  value_decides given when locals free state names stands straight y all =
      by_value (unless_ready when straight) state free (operand_register (layout_of code) free when) (value_of inputs locals when)
      (operand given when locals free state names stands straight (λ r. y (unless_open when straight r all)))

  -- both sides of a comparison, or the value of another sign
  two_decides : Holds → (sign : TwoSign) (left right : ValueTree) (locals : List ℤ) (free : ℕ) (state : State) → NamesOf code (two sign left right) → free_register (layout_of code) ≤ free → Stands locals state →
      (first second straight : List Op) → (AllIn first → Yields first state (free + 1) free (value_of inputs locals left)) →
      ((after : State) → Kept free state after → AllIn second → Yields second after (free + 1 + 1) (free + 1) (value_of inputs locals right)) →
      (AllIn straight → Yields straight state (free + 1) free (value_of inputs locals (two sign left right))) →
      (b : Bool) → is_comparison sign ≡ b → AllIn (if b then unless_ready left first ++ unless_ready right second else straight) →
      Decides (if b then unless_ready left first ++ unless_ready right second else straight) state free
      (unless_op sign (operand_register (layout_of code) free left) (operand_register (layout_of code) (free + 1) right) free) (value_of inputs locals (two sign left right))
  two_decides given sign left right locals free state names h stands first second straight yl yr ys true b all =
      let front = unless_ready left first in
      let behind = unless_ready right second in
      let from = operand_register (layout_of code) free left in
      let other = operand_register (layout_of code) (free + 1) right in
      decides_behind front behind state free from (unless_op sign from other free) (value_of inputs locals left) (λ value. two_sides sign value (value_of inputs locals right))
      (operand given left locals free state names.0 stands first (λ r. yl (unless_open left first r (all_front (IsWithin room) front behind all))))
      (λ value after kept here.
      subst (λ m. Decides behind after free (unless_op sign from other free) m) (sym (sides_strict sign value (value_of inputs locals right) (inl (comparison_strict sign b))))
      (by_comparison sign free from other value behind after (value_of inputs locals right) b (operand_low left free names.0 h) here
      (operand given right locals (free + 1) after names.1 (still_stands locals free state after h kept stands) second
      (λ r. yr after kept (unless_open right second r (all_back (IsWithin room) front behind all))))))
  two_decides given sign left right locals free state names h stands first second straight yl yr ys false b all =
      let from = operand_register (layout_of code) free left in
      let other = operand_register (layout_of code) (free + 1) right in
      subst (λ (test : ℕ → Op). Decides straight state free test (value_of inputs locals (two sign left right))) (sym (other_op sign from other free b))
      (value_decides given (two sign left right) locals free state names stands straight ys all)

  -- behind a condition
  behind_condition : (ops more : List Op) (state : State) (free to : ℕ) (test : ℕ → Op) (meant : Meaning ℤ) (rest : ℤ → Meaning ℤ) → Decides ops state free test meant →
      ((value : ℤ) (after : State) → Kept free state after → ((count : ℕ) → Jumps arrays (test count) after (if holds value then 0 else count)) → Yields more after free to (rest value)) → Yields (ops ++ more) state free to (and_then meant rest)
  behind_condition ops more state free to test (Ok value) rest d f = yields_on ops more state d.0 free to (rest value) d.1 d.3 (f value d.0 d.1 d.2)
  behind_condition ops more state free to test (Err kind) rest d f = comes_not arrays ops more state kind d

  -- a scalar, or an element
  input_yields : Holds → (connector : ℕ) → (at : ValueTrees) (locals : List ℤ) (to free : ℕ) (state : State) → NamesOf code (input connector at) → length state.registers ≡ room.registers → Stands locals state →
      AllIn (input_code to connector free at (values_code (layout_of code) free at)) →
      (free + count_of at ≤ room.registers → AllIn (values_code (layout_of code) free at) → ReadsAll (values_code (layout_of code) free at) state free (count_of at) (values_of inputs locals at)) →
      Yields (input_code to connector free at (values_code (layout_of code) free at)) state free to (value_of inputs locals (input connector at))
  input_yields given connector no_value locals to free state names n stands all f =
      subst (λ m. Yields (Copy to connector ∷ []) state free to m) (sym (scalar_meant given connector (sym names.1)))
      (copies to connector free (element_of inputs connector []) state (omega (arith, all.0.0.1)) (stands.scalars connector names.0 (sym names.1)))
  input_yields given connector (and_value first rest) locals to free state names n stands all f =
      let at = and_value first rest in
      let subscripts = values_code (layout_of code) free at in
      let last = Element (count_of at) to connector free ∷ [] in
      let fits = (all_back (IsWithin room) subscripts last all).0 in
      element_yields given connector to free (count_of at) subscripts state (values_of inputs locals at) names.0 (omega (arith, names.1)) (omega (arith, fits.0.1))
      (f (omega (arith, fits.2.0)) (all_front (IsWithin room) subscripts last all))

  mutual
    pub value_runs : Holds → (tree : ValueTree) (locals : List ℤ) (to free : ℕ) (state : State) → NamesOf code tree → free_register (layout_of code) ≤ free → to < free →
        AllIn (value_code (layout_of code) to free tree) → length state.registers ≡ room.registers → Stands locals state → Yields (value_code (layout_of code) to free tree) state free to (value_of inputs locals tree)
    value_runs given (literal value) locals to free state names h low all n stands =
        last_yields (Number to value) state free to (Ok value) (omega (arith, all.0.1)) refl
    value_runs given (variable place) locals to free state names h low all n stands =
        copies to (variable_register (layout_of code) place) free (slice_index_or inputs.variables place (pos 0)) state (omega (arith, all.0.0.1)) (stands.variables place names)
    value_runs given (local number) locals to free state names h low all n stands =
        copies to (local_register (layout_of code) number) free (slice_index_or locals number (pos 0)) state (omega (arith, all.0.0.1)) (stands.locals_are number names)
    value_runs given (input connector at) locals to free state names h low all n stands =
        input_yields given connector at locals to free state names n stands all (λ few all. values_run given at locals free state names.2 h few all n stands)
    value_runs given (one sign of) locals to free state names h low all n stands =
        let ops = value_code (layout_of code) free (free + 1) of in
        let front = unless_ready of ops in
        let last = one_op sign to (operand_register (layout_of code) free of) ∷ [] in
        let fits = one_target room sign to (operand_register (layout_of code) free of) (all_back (IsWithin room) front last all).0 in
        one_yields sign to free (operand_register (layout_of code) free of) front state (value_of inputs locals of) (omega (arith, fits))
        (operand given of locals free state names stands ops
        (λ r. value_runs given of locals free (free + 1) state names (omega arith) (omega arith) (unless_open of ops r (all_front (IsWithin room) front last all)) n stands))
    value_runs given (two sign left right) locals to free state names h low all n stands =
        let layout = layout_of code in
        let ops = value_code layout free (free + 1) left in
        let front = unless_ready left ops in
        let jumped = value_code layout to (free + 1) right in
        let straight = value_code layout (free + 1) (free + 1 + 1) right in
        let behind = second_code sign (operand_register layout free left) to (operand_register layout (free + 1) right) right jumped straight in
        let inside_behind = all_back (IsWithin room) front behind all in
        behind_operand front behind state free (operand_register layout free left) to (value_of inputs locals left) (λ value. two_sides sign value (value_of inputs locals right))
        (operand given left locals free state names.0 stands ops
        (λ r. value_runs given left locals free (free + 1) state names.0 (omega arith) (omega arith) (unless_open left ops r (all_front (IsWithin room) front behind all)) n stands))
        (λ value after kept here.
        let stands = still_stands locals free state after h kept stands in
        let many : length after.registers ≡ room.registers = kept.many ∙ n in
        second_yields_it given sign right locals to free (operand_register layout free left) value after names.1 stands many
        (operand_low left free names.0 h) here jumped straight
        (λ all. yields_less jumped after free to (value_of inputs locals right) (value_runs given right locals to (free + 1) after names.1 (omega arith) (omega arith) all many stands))
        (λ all. value_runs given right locals (free + 1) (free + 1 + 1) after names.1 (omega arith) (omega arith) all many stands)
        (is_lazy sign && not (is_ready right)) refl inside_behind)
    value_runs given (choice value when other) locals to free state names h low all n stands =
        let layout = layout_of code in
        let straight = value_code layout free (free + 1) when in
        let front = condition_code layout free when straight in
        let test = condition_op layout free when in
        let first = value_code layout to free value in
        let second = value_code layout to free other in
        let behind = either_code test first second in
        let inside_behind = (all_back (IsWithin room) front behind all).1 in
        behind_condition front behind state free to test (value_of inputs locals when) (λ condition. choose (holds condition) (value_of inputs locals value) (value_of inputs locals other))
        (condition_runs given when locals free state names.1 h straight
        (λ all. value_runs given when locals free (free + 1) state names.1 (omega arith) (omega arith) all n stands) (all_front (IsWithin room) front behind all) n stands)
        (λ condition after kept jumps.
        let stands = still_stands locals free state after h kept stands in
        let many : length after.registers ≡ room.registers = kept.many ∙ n in
        choice_yields test first second after free to (value_of inputs locals value) (value_of inputs locals other) (holds condition) jumps
        (value_runs given value locals to free after names.0 h low (all_front (IsWithin room) first (Skip (length second) ∷ second) inside_behind) many stands)
        (value_runs given other locals to free after names.2 h low (all_back (IsWithin room) first (Skip (length second) ∷ second) inside_behind).1 many stands))

    -- a condition and its jump
    pub condition_runs : Holds → (when : ValueTree) (locals : List ℤ) (free : ℕ) (state : State) → NamesOf code when → free_register (layout_of code) ≤ free → (straight : List Op) →
        (AllIn straight → Yields straight state (free + 1) free (value_of inputs locals when)) → AllIn (condition_code (layout_of code) free when straight) → length state.registers ≡ room.registers → Stands locals state →
        Decides (condition_code (layout_of code) free when straight) state free (condition_op (layout_of code) free when) (value_of inputs locals when)
    condition_runs given (literal value) locals free state names h straight y all n stands = value_decides given (literal value) locals free state names stands straight y all
    condition_runs given (variable place) locals free state names h straight y all n stands = value_decides given (variable place) locals free state names stands straight y all
    condition_runs given (local number) locals free state names h straight y all n stands = value_decides given (local number) locals free state names stands straight y all
    condition_runs given (input connector at) locals free state names h straight y all n stands = value_decides given (input connector at) locals free state names stands straight y all
    condition_runs given (one sign of) locals free state names h straight y all n stands = value_decides given (one sign of) locals free state names stands straight y all
    condition_runs given (two sign left right) locals free state names h straight y all n stands =
        let layout = layout_of code in
        two_decides given sign left right locals free state names h stands (value_code layout free (free + 1) left) (value_code layout (free + 1) (free + 1 + 1) right) straight
        (λ all. value_runs given left locals free (free + 1) state names.0 (omega arith) (omega arith) all n stands)
        (λ after kept all. value_runs given right locals (free + 1) (free + 1 + 1) after names.1 (omega arith) (omega arith) all (kept.many ∙ n) (still_stands locals free state after h kept stands))
        y (is_comparison sign) refl all
    condition_runs given (choice value when other) locals free state names h straight y all n stands = value_decides given (choice value when other) locals free state names stands straight y all

    pub values_run : Holds → (trees : ValueTrees) (locals : List ℤ) (free : ℕ) (state : State) → AllNamesOf code trees → free_register (layout_of code) ≤ free → free + count_of trees ≤ room.registers →
        AllIn (values_code (layout_of code) free trees) → length state.registers ≡ room.registers → Stands locals state → ReadsAll (values_code (layout_of code) free trees) state free (count_of trees) (values_of inputs locals trees)
    values_run given no_value locals free state names h few all n stands = (state, stays free state, index_none free state, refl)
    values_run given (and_value first rest) locals free state names h few all n stands =
        let ops = value_code (layout_of code) free (free + 1) first in
        let more = values_code (layout_of code) (free + 1) rest in
        values_on ops more state free (count_of rest) (value_of inputs locals first) (values_of inputs locals rest) (omega arith)
        (value_runs given first locals free (free + 1) state names.0 (omega arith) (omega arith) (all_front (IsWithin room) ops more all) n stands)
        (λ after kept. values_run given rest locals (free + 1) after names.1 (omega arith) (omega arith) (all_back (IsWithin room) ops more all) (kept.many ∙ n) (still_stands locals free state after h kept stands))
