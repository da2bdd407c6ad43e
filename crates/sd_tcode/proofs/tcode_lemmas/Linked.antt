-- What a frame holds is what its code is given.
use Rattle.std.proofs.Common.{◌≡◌, ℕ, zero, suc, ◌+◌, ◌<◌, ℤ, pos, List, [], ◌∷◌, length, map, take, Result, Ok, Err, Some, None, true, false, ◌==◌, if◌then◌else◌, refl, sym, ap, ◌∙◌, subst, arith}
use Rattle.std.specs.Prelude.{slice_index_or}
use Rattle.std.specs.List.{AllByRecursion}
use Rattle.std.proofs.lemmas.Bool.Decides.{nat_tests}
use Rattle.std.proofs.lemmas.List.{length-map, length-take-le, get_or-take, get_or-drop}
use Rattle.sd_range.specs.Points.{product}
use Rattle.sd_graph.specs.RowOrder.{row_number}
use Rattle.sd_graph.specs.PlainTree.{TaskletTree}
use Rattle.sd_graph.specs.TaskletMeaning as meaning
use Rattle.sd_graph.specs.TaskletMeaning.{Meaning, Inputs, and_then, element_of, meaning_of}
use Rattle.sd_work.specs.declared.fault.FaultKind.{FaultKind}
use Rattle.sd_tasklet.specs.tasklet.Given.{IsWhole}
use Rattle.sd_tasklet.specs.tasklet.Kept.{told}
use Rattle.sd_tcode.specs.tcode.Named.{dimensions_of}
use Rattle.sd_tcode.specs.op.Machine.{Held, State, register, extents_at, cells_at, after_all, state_only, answered}
use Rattle.sd_tcode.specs.op.Within.{IsWithin}
use Rattle.sd_tcode.specs.op.Memory.{HasCells}
use Rattle.sd_tcode.specs.tcode.Emitted.{layout_of, tasklet_code, output_register}
use Rattle.sd_tcode.specs.tcode.Outputs.{output_effects}
use Rattle.sd_tcode.specs.tcode.Compiled.{Compiled, IsSafe, IsCodeOf, is_plain, room_of}
use Rattle.sd_tcode.specs.tcode.Held.{elements_in, given_by}
use Rattle.sd_tcode.proofs.tcode_lemmas.Runs.{Holds}
use Rattle.sd_tcode.proofs.tcode_lemmas.Plains.{plain_set}
use Rattle.sd_tcode.proofs.tcode_lemmas.Whole.{IsGiven, is_meant, tasklet_runs, plain_runs}

pub extents_same : (arrays : List Held) (connector : ℕ) → extents_at arrays connector ≡ slice_index_or (map (λ array. array.extents) arrays) connector []
extents_same [] connector = refl
extents_same (array ∷ arrays) zero = refl
extents_same (array ∷ arrays) (suc connector) = extents_same arrays connector

pub dims_same : (arrays : List Held) (connector : ℕ) → length (extents_at arrays connector) ≡ slice_index_or (map (λ array. length array.extents) arrays) connector 0
dims_same [] connector = refl
dims_same (array ∷ arrays) zero = refl
dims_same (array ∷ arrays) (suc connector) = dims_same arrays connector

pub elements_same : (arrays : List Held) (scalars : List ℤ) (connector : ℕ) → connector < length scalars → connector < length arrays →
    slice_index_or (elements_in arrays scalars) connector [] ≡ (if length (extents_at arrays connector) == 0 then slice_index_or scalars connector (pos 0) ∷ [] else cells_at arrays connector)
elements_same [] scalars connector h g = absurd (omega arith)
elements_same (array ∷ arrays) [] connector h g = absurd (omega arith)
elements_same (array ∷ arrays) (value ∷ scalars) zero h g = refl
elements_same (array ∷ arrays) (value ∷ scalars) (suc connector) h g = elements_same arrays scalars connector (omega arith) (omega arith)

pub elements_there : (arrays : List Held) (scalars : List ℤ) (connector : ℕ) → connector < length scalars → connector < length arrays → connector < length (elements_in arrays scalars)
elements_there [] scalars connector h g = absurd (omega arith)
elements_there (array ∷ arrays) [] connector h g = absurd (omega arith)
elements_there (array ∷ arrays) (value ∷ scalars) zero h g = omega arith
elements_there (array ∷ arrays) (value ∷ scalars) (suc connector) h g = omega (arith, elements_there arrays scalars connector (omega arith) (omega arith))

some_or_none : (n : ℕ) → 0 < n → (n == 0) ≡ false
some_or_none n h = grind (arith, nat_tests)

none_empty : (l : List ℕ) → length l ≡ 0 → l ≡ []
none_empty [] h = refl
none_empty (first ∷ rest) h = absurd (omega (arith, h))

-- registers and arrays that fit some code
pub record Fits (code : Compiled) (registers : List ℤ) (arrays : List Held) : Type 0 where
  pub registers_many : length registers ≡ code.registers
  pub arrays_dims : map (λ array. length array.extents) arrays ≡ code.dims

abbrev pub given_to : Compiled → List ℤ → List Held → Inputs
given_to code registers arrays = given_by code.layout.inputs (take (code.layout.inputs + code.layout.variables) registers) arrays

pub arrays_many : (code : Compiled) (registers : List ℤ) (arrays : List Held) → IsSafe code → Fits code registers arrays → length arrays ≡ code.layout.connectors
arrays_many code registers arrays safe fits = sym (length-map arrays (λ array. length array.extents)) ∙ (ap length fits.arrays_dims ∙ safe.dims)

module _ (code : Compiled) (registers : List ℤ) (arrays : List Held) (safe : IsSafe code) (fits : Fits code registers arrays) where
  abbrev scalars : List ℤ
  scalars = take code.layout.inputs (take (code.layout.inputs + code.layout.variables) registers)

  there : (connector : ℕ) → connector < code.layout.inputs → (connector < length scalars) × (connector < length arrays)
  there connector h =
      let many = arrays_many code registers arrays safe fits in
      let low = safe.inputs in
      let more = safe.registers in
      let fixed : length (take (code.layout.inputs + code.layout.variables) registers) ≡ code.layout.inputs + code.layout.variables = length-take-le (code.layout.inputs + code.layout.variables) registers (omega (arith, low, more, fits.registers_many)) in
      let front : length scalars ≡ code.layout.inputs = length-take-le code.layout.inputs (take (code.layout.inputs + code.layout.variables) registers) (omega (arith, fixed)) in
      (omega (arith, front), omega (arith, many, low))

  scalar_same : (connector : ℕ) → connector < code.layout.inputs → slice_index_or scalars connector (pos 0) ≡ slice_index_or registers connector (pos 0)
  scalar_same connector h =
      get_or-take code.layout.inputs (take (code.layout.inputs + code.layout.variables) registers) connector (pos 0) h
      ∙ get_or-take (code.layout.inputs + code.layout.variables) registers connector (pos 0) (omega arith)

  pub has_cells : IsWhole (given_to code registers arrays) → HasCells code.layout.inputs arrays
  has_cells whole connector h some =
      let here = there connector h in
      let cells : slice_index_or (elements_in arrays scalars) connector [] ≡ cells_at arrays connector =
      elements_same arrays scalars connector here.0 here.1 ∙ ap (λ b. if b then slice_index_or scalars connector (pos 0) ∷ [] else cells_at arrays connector) (some_or_none (length (extents_at arrays connector)) some) in
      let few = whole.elements connector (elements_there arrays scalars connector here.0 here.1) in
      omega (arith, few, ap length cells, ap product (extents_same arrays connector))

  module _ (tree : TaskletTree) (is_code : IsCodeOf tree code) where
    inputs_same : code.layout.inputs ≡ length tree.ins
    inputs_same = ap (λ l. l.inputs) is_code.layout

    variables_same : code.layout.variables ≡ length tree.variables
    variables_same = ap (λ l. l.variables) is_code.layout

    dimensions_same : (connector : ℕ) → length (extents_at arrays connector) ≡ dimensions_of tree connector
    dimensions_same connector = dims_same arrays connector ∙ (ap (λ l. slice_index_or l connector 0) fits.arrays_dims ∙ ap (λ l. slice_index_or l connector 0) is_code.dims)

    pub holds_given : Holds tree (given_to code registers arrays) arrays (room_of code)
    holds_given = record {
      extents = extents_same arrays;
      dimensions = λ connector. ap length (sym (extents_same arrays connector)) ∙ dimensions_same connector;
      cells = λ connector low some.
          let here = there connector (omega (arith, inputs_same)) in
          sym (elements_same arrays scalars connector here.0 here.1
          ∙ ap (λ b. if b then slice_index_or scalars connector (pos 0) ∷ [] else cells_at arrays connector) (some_or_none (length (extents_at arrays connector)) (omega (arith, dimensions_same connector))));
    }

    scalar_element : (connector : ℕ) → connector < length tree.ins → dimensions_of tree connector ≡ 0 → slice_index_or registers connector (pos 0) ≡ element_of (given_to code registers arrays) connector []
    scalar_element connector low none =
        let here = there connector (omega (arith, inputs_same)) in
        let empty : extents_at arrays connector ≡ [] = none_empty (extents_at arrays connector) (dimensions_same connector ∙ none) in
        let elements : slice_index_or (elements_in arrays scalars) connector [] ≡ slice_index_or registers connector (pos 0) ∷ [] =
        elements_same arrays scalars connector here.0 here.1 ∙ (ap (λ l. if length l == 0 then slice_index_or scalars connector (pos 0) ∷ [] else cells_at arrays connector) empty ∙ ap (λ v. v ∷ []) (scalar_same connector (omega (arith, inputs_same)))) in
        (λ i. slice_index_or (sym elements i) (row_number ((sym empty ∙ extents_same arrays connector) i) []) (pos 0))

    pub is_given : (state : State) → state.registers ≡ registers → state.effects ≡ [] → IsGiven tree (given_to code registers arrays) arrays (room_of code) state
    is_given state same none = record {
      many = ap length same ∙ fits.registers_many;
      effects = none;
      scalars = λ connector low scalar. ap (λ l. slice_index_or l connector (pos 0)) same ∙ scalar_element connector low scalar;
      variables = λ place low.
          ap (λ l. slice_index_or l (length tree.ins + place) (pos 0)) same
          ∙ sym (get_or-drop code.layout.inputs (take (code.layout.inputs + code.layout.variables) registers) place (pos 0)
          ∙ (get_or-take (code.layout.inputs + code.layout.variables) registers (code.layout.inputs + place) (pos 0) (omega (arith, variables_same))
          ∙ ap (λ n. slice_index_or registers (n + place) (pos 0)) inputs_same));
    }

-- an end with its state alone
ends_so : {A : Type 0} (told_by : State → List meaning.Effect) (end : Meaning (State × ℕ)) (result : Result A FaultKind) (state : State) → state_only end ≡ answered result state → and_then end (λ here. Ok (told_by here.0)) ≡ answered result (told_by state)
ends_so told_by (Ok here) (Ok done) state e = let same : here.0 ≡ state = cc in ap (λ s. Ok (told_by s)) same
ends_so told_by (Ok here) (Err kind) state e = cc
ends_so told_by (Err kind) (Ok done) state e = cc
ends_so told_by (Err kind) (Err other) state e = let same : kind ≡ other = cc in ap Err same

pub run_means : (tree : TaskletTree) (code : Compiled) (registers : List ℤ) (arrays : List Held) → IsSafe code → Fits code registers arrays → IsCodeOf tree code → code.plain ≡ None →
    (result : Result (Unit {0}) FaultKind) (after : State) → state_only (after_all arrays 0 code.ops (record { registers = registers; effects = [] })) ≡ answered result after →
    meaning_of tree (given_to code registers arrays) ≡ answered result (map (told (given_to code registers arrays)) after.effects)
run_means tree code registers arrays safe fits is_code none result after e =
    let inputs = given_to code registers arrays in
    let state : State = record { registers = registers; effects = [] } in
    let told_by : State → List meaning.Effect = λ s. map (told inputs) s.effects in
    let plain_is : is_plain code.plain ≡ false = ap is_plain none in
    let ops : code.ops ≡ tasklet_code false tree = is_code.ops ∙ ap (λ b. tasklet_code b tree) plain_is in
    let all = subst (λ l. AllByRecursion (IsWithin (room_of code)) l) ops safe.within in
    let gives = tasklet_runs tree inputs arrays (room_of code) (holds_given code registers arrays safe fits tree is_code) is_code.named all state (is_given code registers arrays safe fits tree is_code state refl refl) in
    is_meant tree inputs arrays (room_of code) told_by (tasklet_code false tree) state (meaning_of tree inputs) gives (after_all arrays 0 code.ops state) (ap (λ l. after_all arrays 0 l state) (sym ops))
    ∙ ends_so told_by (after_all arrays 0 code.ops state) result after e

pub plain_means : (tree : TaskletTree) (code : Compiled) (registers : List ℤ) (arrays : List Held) → IsSafe code → Fits code registers arrays → IsCodeOf tree code → (order : List ℕ) → code.plain ≡ Some order →
    (result : Result (Unit {0}) FaultKind) (after : State) → state_only (after_all arrays 0 code.ops (record { registers = registers; effects = [] })) ≡ answered result after →
    meaning_of tree (given_to code registers arrays) ≡ answered result (output_effects (λ connector. register after (code.layout.variables + connector)) order)
plain_means tree code registers arrays safe fits is_code order some result after e =
    let inputs = given_to code registers arrays in
    let state : State = record { registers = registers; effects = [] } in
    let told_by : State → List meaning.Effect = λ s. output_effects (λ connector. register s (output_register (layout_of tree) connector)) order in
    let plain_is : is_plain code.plain ≡ true = ap is_plain some in
    let ops : code.ops ≡ tasklet_code true tree = is_code.ops ∙ ap (λ b. tasklet_code b tree) plain_is in
    let all = subst (λ l. AllByRecursion (IsWithin (room_of code)) l) ops safe.within in
    let gives = plain_runs tree inputs arrays (room_of code) (holds_given code registers arrays safe fits tree is_code) is_code.named order (plain_set tree order (sym is_code.plain ∙ some)) all state (is_given code registers arrays safe fits tree is_code state refl refl) in
    is_meant tree inputs arrays (room_of code) told_by (tasklet_code true tree) state (meaning_of tree inputs) gives (after_all arrays 0 code.ops state) (ap (λ l. after_all arrays 0 l state) (sym ops))
    ∙ (ends_so told_by (after_all arrays 0 code.ops state) result after e
    ∙ ap (λ n. answered result (output_effects (λ connector. register after (n + connector)) order)) (sym (ap (λ l. l.variables) is_code.layout)))
