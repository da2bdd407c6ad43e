-- An instance whose code writes one value at one place.
use Rattle.std.proofs.Common.{◌≡◌, ℕ, zero, suc, ◌+◌, ◌-◌, ◌<◌, ◌≤◌, ℤ, pos, List, [], ◌∷◌, ◌++◌, map, length, take, replicate, Some, None, Ok, true, nat_lt, ◌==◌, if◌then◌else◌, slice_get, slice_set, refl, sym, ap, ◌∙◌, subst, arith}
use Rattle.std.specs.List.{AllByRecursion, AllZip}
use Rattle.std.proofs.Math.Seq.{take-append_seam}
use Rattle.std.proofs.lemmas.Bool.Decides.{nat_tests}
use Rattle.std.proofs.lemmas.List.{length-map, length-append, length-replicate}
use Rattle.sd_work.specs.Memory.{Memory}
use Rattle.sd_work.specs.Change.{write, apply}
use Rattle.sd_work.specs.Leaf.{Pending, write_value}
use Rattle.sd_work.specs.BigStep.{Reached}
use Rattle.sd_graph.specs.PlainTree.{TaskletTree}
use Rattle.sd_graph.specs.TaskletMeaning.{Inputs, extents_of_connector, meaning_of}
use Rattle.sd_graph.specs.Context.{Context, link_elements, link_extents}
use Rattle.sd_graph.specs.declared.link.Link.{Link}
use Rattle.sd_tasklet.specs.tasklet.Kept.{told}
use Rattle.sd_tasklet.specs.declared.tasklet.effect.Effect.{Effect}
use Rattle.sd_tcode.proofs.tcode_lemmas.Frames.{dims_held}
use Rattle.sd_tcode.specs.op.Machine.{held, Held, State, after_all, state_only}
use Rattle.sd_tcode.specs.op.Within.{IsWithin}
use Rattle.sd_tcode.specs.declared.op.op.Op.{Op}
use Rattle.sd_tcode.specs.tcode.Compiled.{Compiled, room_of}
use Rattle.sd_tcode.specs.tcode.Held.{IsReady, given, elements_in}
use Rattle.sd_tcode.specs.declared.tcode.frame.Frame.{Frame}
use Rattle.sd_tcode.proofs.tcode_lemmas.Linked.{Fits, given_to, run_means, extents_same}
use Rattle.sd_leaves.specs.leaves.Done.{IsDone, performing, instance_work}
use Rattle.sd_leaves.specs.leaves.Given.{pending_told}
use Rattle.sd_leaves.proofs.leaves_lemmas.Doing.{write_goes}
use Rattle.sd_leaves.proofs.leaves_lemmas.EffectSteps.{through_link}
use Rattle.sd_scope.specs.even.Even.{is_scalar}
use Rattle.sd_tcode.specs.declared.columns.spacing.Spaced.{Spaced}
use Rattle.sd_tcode.specs.columns.Columns.{value_on}
use Rattle.sd_row.specs.row.Row.{reference_on}
use Rattle.sd_row.specs.row.Point.{seen_on, IsOver}
use Rattle.sd_row.proofs.row_lemmas.Registers.{variables_given}
use Rattle.sd_row.specs.declared.instance.accesses.Accesses.{Accesses}
use Rattle.sd_row.specs.declared.instance.target.Target.TheVariants.{Among}
use Rattle.sd_row.specs.declared.instance.scatter.Scatter.{Scatter}
use Rattle.sd_row.specs.instance.Known.{place_below, pending_among, IsTarget, AreKnown, AreTargets, AreOutward, IsSetUp}
use Rattle.sd_row.specs.instance.Scatter.{operand_on, ops_of, IsScatter}
use Rattle.sd_row.proofs.instance_lemmas.Given.{targets_are, code_goes, own_stays}
use Rattle.sd_row.proofs.instance_lemmas.Links.{no_extents_of_all}
use Rattle.sd_row.proofs.instance_lemmas.Operands.{fixed_on, fixed_count, keeps_one}
use Rattle.sd_row.proofs.instance_lemmas.Targets.{extents_there}

-- ---- what is given

-- scalars are given by their registers, whatever stands behind them
elements_front : (arrays : List Held) (links : List Link) (rest : List (List ℕ)) (scalars : List ℤ) → map (λ array. array.extents) arrays ≡ map (λ link. []) links ++ rest → length scalars ≡ length links →
    elements_in arrays scalars ≡ map (λ value. value ∷ []) scalars
elements_front [] links rest [] same many = refl
elements_front [] [] rest (value ∷ scalars) same many = absurd (omega (arith, many))
elements_front [] (link ∷ links) rest (value ∷ scalars) same many = cc
elements_front (array ∷ arrays) links rest [] same many = refl
elements_front (array ∷ arrays) [] rest (value ∷ scalars) same many = absurd (omega (arith, many))
elements_front (array ∷ arrays) (link ∷ links) rest (value ∷ scalars) same many =
    let here : array.extents ≡ [] = cc in
    let others : map (λ array. array.extents) arrays ≡ map (λ link. []) links ++ rest = cc in
    ap (λ (extents : List ℕ). (if length extents == 0 then value ∷ [] else array.cells) ∷ elements_in arrays scalars) here
    ∙ ap (λ rest. (value ∷ []) ∷ rest) (elements_front arrays links rest scalars others (omega (arith, many)))

each_alone : {A : Type 0} (made : A → ℤ) (members : List A) → map (λ value. value ∷ []) (map made members) ≡ map (λ member. made member ∷ []) members
each_alone made [] = refl
each_alone made (member ∷ members) = ap (λ rest. (made member ∷ []) ∷ rest) (each_alone made members)

map_both : {A B : Type 0} (made : A → B) (first second : List A) → map made (first ++ second) ≡ map made first ++ map made second
map_both made [] second = refl
map_both made (member ∷ first) second = ap (λ rest. made member ∷ rest) (map_both made first second)

-- ---- lists side by side

-- what stands beside a member
zip_back : {A B : Type 0} (Is : A → B → Type 0) (members : List A) (others : List B) (number : ℕ) (other : B) → AllZip Is members others → slice_get others number ≡ Some other →
    (member : A) × (slice_get members number ≡ Some member) × Is member other
zip_back Is members [] number other all there = cc
zip_back Is [] (second ∷ others) number other all there = absurd all
zip_back Is (first ∷ members) (second ∷ others) zero other all there = (first, refl, subst (λ o. Is first o) (same second other there) all.0)
  where
    same : {B : Type 0} (a b : B) → Some a ≡ Some b → a ≡ b
    same a b is = cc
zip_back Is (first ∷ members) (second ∷ others) (suc number) other all there = zip_back Is members others number other all.1 there

placed_below : (count place : ℕ) → place < count → place_below count (pos place ∷ []) ≡ Some place
placed_below count place within =
    let below : nat_lt place count ≡ true = grind (arith, nat_tests) in
    ap (λ test. if test then Some place else None) below

-- ---- one point

module _ (code : Compiled) (accesses : Accesses) (scatter : Scatter) (is : IsScatter code accesses scatter) (frame : Frame) (ready : IsReady code frame) (k : ℕ) (now after : Reached) (place : ℕ)
    (below : place < scatter.count) (placed : operand_on k now.memories scatter.index ≡ pos place)
    (written : after.memories ≡ apply (write (reference_on scatter.to place) scatter.by (operand_on k now.memories scatter.value)) now.memories) (kept_turns : after.turns ≡ now.turns)
    (tree : TaskletTree) (ins outs : List Link) (context standing : Context) (scalars : AllByRecursion (λ link. is_scalar link.memlet.subset.dims ≡ true) ins)
    (set : IsSetUp tree ins outs code (given frame) context) (known : AreKnown tree ins outs k context standing accesses) where
  abbrev arrays : List Held
  arrays = map held frame.arrays.items

  abbrev fixed : List ℤ
  fixed = fixed_on accesses k now.memories

  abbrev front : ℕ
  front = code.layout.inputs + code.layout.variables

  -- registers as they are when the code begins
  abbrev registers : List ℤ
  registers = fixed ++ replicate (code.registers - front) (pos 0)

  abbrev inputs : Inputs
  inputs = given_to code registers arrays

  fixed_many : length fixed ≡ front
  fixed_many =
      let reads = length-map accesses.reads.items (seen_on k now.memories) in
      let variables = length-map accesses.variables.items (λ (numbers : Spaced). value_on numbers k) in
      length-append (map (seen_on k now.memories) accesses.reads.items) (map (λ (numbers : Spaced). value_on numbers k) accesses.variables.items) ∙ omega (arith, reads, variables, is.inputs, is.variables)

  registers_many : length registers ≡ code.registers
  registers_many =
      let rest = length-replicate (code.registers - front) (pos 0) in
      let low = is.safe.inputs in
      let room = is.safe.registers in
      length-append fixed (replicate (code.registers - front) (pos 0)) ∙ omega (arith, fixed_many, rest, low, room)

  registers_fixed : take front registers ≡ fixed
  registers_fixed = ap (λ count. take count registers) (sym fixed_many) ∙ take-append_seam fixed (replicate (code.registers - front) (pos 0))

  ins_many : length ins ≡ length accesses.reads.items
  ins_many = sym (length-map ins (link_elements context)) ∙ ap length known.reads ∙ length-map accesses.reads.items (λ track. Some (reference_on track k) ∷ [])

  -- the inputs are scalars
  extents_all : map (λ array. array.extents) arrays ≡ map (λ link. []) ins ++ map (link_extents context) outs
  extents_all = set.extents ∙ map_both (link_extents context) ins outs ∙ ap (λ front. front ++ map (link_extents context) outs) (no_extents_of_all context ins scalars)

  scalars_first : take code.layout.inputs (take front registers) ≡ map (seen_on k now.memories) accesses.reads.items
  scalars_first =
      ap (take code.layout.inputs) registers_fixed
      ∙ ap (λ count. take count fixed) (is.inputs ∙ sym (length-map accesses.reads.items (seen_on k now.memories)))
      ∙ take-append_seam (map (seen_on k now.memories) accesses.reads.items) (map (λ (numbers : Spaced). value_on numbers k) accesses.variables.items)

  values_are : inputs.values ≡ map (λ track. seen_on k now.memories track ∷ []) accesses.reads.items
  values_are =
      ap (elements_in arrays) scalars_first
      ∙ elements_front arrays ins (map (link_extents context) outs) (map (seen_on k now.memories) accesses.reads.items) extents_all (length-map accesses.reads.items (seen_on k now.memories) ∙ sym ins_many)
      ∙ each_alone (seen_on k now.memories) accesses.reads.items

  variables_are : inputs.variables ≡ map (λ numbers. value_on numbers k) accesses.variables.items
  variables_are = variables_given (seen_on k now.memories) accesses.reads.items (λ numbers. value_on numbers k) accesses.variables.items code.layout.inputs code.layout.connectors (take front registers) arrays is.inputs registers_fixed

  -- ---- its output

  are : AreTargets (length accesses.reads.items) ins outs inputs accesses.targets.items k context standing
  are = targets_are (given frame) inputs accesses k now values_are variables_are refl tree ins outs code context standing set known (length accesses.reads.items) accesses.targets.items refl refl

  beside : (link : Link) × (slice_get outs (is.parts.connector - length accesses.reads.items) ≡ Some link) × IsTarget k context standing link (Among scatter.by scatter.to scatter.count)
  beside = zip_back (IsTarget k context standing) outs accesses.targets.items (is.parts.connector - length accesses.reads.items) (Among scatter.by scatter.to scatter.count) known.targets is.target

  abbrev link : Link
  link = beside.0

  there : slice_get outs (is.parts.connector - length ins) ≡ Some link
  there = ap (λ count. slice_get outs (is.parts.connector - count)) ins_many ∙ beside.1

  output : length ins ≤ is.parts.connector
  output = omega (arith, ins_many, is.output)

  one_extent : extents_of_connector inputs is.parts.connector ≡ scatter.count ∷ []
  one_extent = extents_there (length accesses.reads.items) ins outs inputs accesses.targets.items k context standing are is.parts.connector link output there ∙ beside.2.places

  -- ---- its effect

  abbrev effect : Effect
  effect = record { connector = is.parts.connector; at = place ∷ 0 ∷ 0 ∷ 0 ∷ []; value = operand_on k now.memories scatter.value }

  abbrev last : State
  last = record {
    registers = slice_set (slice_set registers is.parts.at (operand_on k now.memories scatter.index)) is.parts.to (operand_on k now.memories scatter.value);
    effects = effect ∷ [];
  }

  came : state_only (after_all arrays 0 code.ops (record { registers = registers; effects = [] })) ≡ Ok last
  came =
      let within : AllByRecursion (IsWithin (room_of code)) (ops_of is.parts) = subst (AllByRecursion (IsWithin (room_of code))) is.ops is.safe.within in
      let room : code.layout.inputs + code.layout.variables ≡ fixed_count accesses = omega (arith, is.inputs, is.variables) in
      ap (λ (ops : List Op). state_only (after_all arrays 0 ops (record { registers = registers; effects = [] }))) is.ops
      ∙ keeps_one accesses k now.memories (room_of code) is.parts scatter.index scatter.value room is.index is.value within.0 within.1.1.0 is.differ arrays scatter.count place
      (extents_same arrays is.parts.connector ∙ one_extent) below placed (record { registers = registers; effects = [] }) registers_many
      (ap (λ count. take count registers) (sym room) ∙ registers_fixed)

  goes : meaning_of tree inputs ≡ Ok (map (told inputs) (effect ∷ []))
  goes =
      let fits : Fits code registers arrays = record { registers_many = registers_many; arrays_dims = (dims_held frame.arrays.items ∙ ready.fits.arrays) } in
      run_means tree code registers arrays is.safe fits set.code is.plain (Ok tt) last came

  one_place : (told inputs effect).at ≡ pos place ∷ []
  one_place = ap (λ (extents : List ℕ). map pos (take (length extents) effect.at)) one_extent

  written_so : pending_told context inputs ins outs effect ≡ write_value (operand_on k now.memories scatter.value) (Some (reference_on scatter.to place)) scatter.by
  written_so =
      sym (through_link context inputs ins outs effect link output there)
      ∙ beside.2.effects (told inputs effect)
      ∙ ap (λ at. pending_among scatter.by scatter.to standing link (told inputs effect) (place_below scatter.count at)) one_place
      ∙ ap (pending_among scatter.by scatter.to standing link (told inputs effect)) (placed_below scatter.count place below)

  done_one : IsDone (performing (map (pending_told context inputs ins outs) (effect ∷ []))) now None after
  done_one =
      subst (λ (todo : Pending). IsDone (performing (todo ∷ [])) now None after) (sym written_so)
      (write_goes scatter.by now (operand_on k now.memories scatter.value) (reference_on scatter.to place) after written kept_turns)

  -- the instance is done
  pub scattered : IsDone (instance_work context tree ins outs) now None after
  scattered = code_goes (given frame) inputs accesses k now values_are variables_are refl tree ins outs code context standing set known (effect ∷ []) None after goes done_one

  -- the innermost memory stays
  pub scattered_over : (own : Memory) → AreOutward context outs → IsOver own now → IsOver own after
  scattered_over own outward over = own_stays (given frame) inputs accesses k now values_are variables_are refl tree ins outs code context standing set known (effect ∷ []) None after goes done_one own outward refl over
