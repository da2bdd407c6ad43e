-- What a run leaves in a frame.
use Rattle.std.proofs.Common.{◌≡◌, ℕ, ◌+◌, ◌<◌, ◌≤◌, pos, List, [], ◌∷◌, length, map, take, Result, Ok, Err, Option, Some, None, refl, sym, ap, ◌∙◌, arith}
use Rattle.std.specs.Prelude.{slice_index_or}
use Rattle.std.specs.List.{AllByRecursion}
use Rattle.sd_graph.specs.PlainTree.{TaskletTree}
use Rattle.sd_graph.specs.TaskletMeaning.{Inputs, extents_of_connector, meaning_of}
use Rattle.sd_work.specs.declared.fault.FaultKind.{FaultKind}
use Rattle.sd_tasklet.specs.tasklet.Kept.{told}
use Rattle.sd_tcode.specs.tcode.Named.{dimensions_of}
use Rattle.sd_tcode.specs.op.Machine.{held, State, after_all, state_only, answered}
use Rattle.sd_tcode.specs.declared.op.array.Array.{Array}
use Rattle.sd_tcode.specs.tcode.Outputs.{output_effects}
use Rattle.sd_tcode.specs.tcode.Compiled.{Compiled, IsSafe, IsCodeOf}
use Rattle.sd_tcode.specs.tcode.Held.{given, effects_of, output_of, kept_output, given_by, IsFrameOf}
use Rattle.sd_tcode.specs.declared.tcode.frame.Frame.{Frame}
use Rattle.sd_tcode.proofs.tcode_lemmas.Plains.{plain_set, outputs_scalar}
use Rattle.sd_tcode.proofs.tcode_lemmas.Linked.{Fits, given_to, holds_given, run_means, plain_means}

pub dims_held : (arrays : List Array) → map (λ connector. length connector.extents) (map held arrays) ≡ map (λ array. length array.extents.items) arrays
dims_held [] = refl
dims_held (array ∷ arrays) = ap (λ dims. length array.extents.items ∷ dims) (dims_held arrays)

pub frame_fits : (code : Compiled) (frame : Frame) → IsFrameOf code frame → Fits code frame.registers.items (map held frame.arrays.items)
frame_fits code frame is = record { registers_many = is.registers; arrays_dims = dims_held frame.arrays.items ∙ is.arrays }

pub frame_given : (code : Compiled) (frame : Frame) → IsFrameOf code frame → given frame ≡ given_to code frame.registers.items (map held frame.arrays.items)
frame_given code frame is = (λ i. given_by (is.inputs i) (take (is.inputs i + is.variables i) frame.registers.items) (map held frame.arrays.items))

-- what a run of all instructions came to
abbrev pub Came : Compiled → (old new : Frame) → Result (Unit {0}) FaultKind → Type 0
Came code old new result =
    state_only (after_all (map held old.arrays.items) 0 code.ops (record { registers = old.registers.items; effects = [] })) ≡ answered result (record { registers = new.registers.items; effects = new.log.0 })

pub code_means : (tree : TaskletTree) (code : Compiled) (old new : Frame) → IsSafe code → IsFrameOf code old → IsCodeOf tree code → code.plain ≡ None → given new ≡ given old → (result : Result (Unit {0}) FaultKind) → Came code old new result →
    meaning_of tree (given old) ≡ answered result (effects_of new)
code_means tree code old new safe is is_code none same result came =
    let state : State = record { registers = new.registers.items; effects = new.log.0 } in
    let back : given_to code old.registers.items (map held old.arrays.items) ≡ given new = sym (frame_given code old is) ∙ sym same in
    ap (meaning_of tree) (frame_given code old is)
    ∙ (run_means tree code old.registers.items (map held old.arrays.items) safe (frame_fits code old is) is_code none result state came
    ∙ ap (λ inputs. answered result (map (told inputs) new.log.0)) back)

pub outputs_mean : (tree : TaskletTree) (code : Compiled) (old new : Frame) → IsSafe code → IsFrameOf code old → IsFrameOf code new → IsCodeOf tree code → (order : List ℕ) → code.plain ≡ Some order → (result : Result (Unit {0}) FaultKind) → Came code old new result →
    meaning_of tree (given old) ≡ answered result (output_effects (output_of new) order)
outputs_mean tree code old new safe is is_new is_code order some result came =
    let state : State = record { registers = new.registers.items; effects = new.log.0 } in
    ap (meaning_of tree) (frame_given code old is)
    ∙ (plain_means tree code old.registers.items (map held old.arrays.items) safe (frame_fits code old is) is_code order some result state came
    ∙ ap (λ n. answered result (output_effects (λ connector. slice_index_or new.registers.items (n + connector) (pos 0)) order)) (sym is_new.variables))

pub fault_means : (tree : TaskletTree) (code : Compiled) (old new : Frame) → IsSafe code → IsFrameOf code old → IsFrameOf code new → IsCodeOf tree code → given new ≡ given old → (kind : FaultKind) → Came code old new (Err kind) →
    meaning_of tree (given old) ≡ Err kind
fault_means tree code old new safe is is_new is_code same kind came = by_plain code.plain refl
  where
    by_plain : (plain : Option (List ℕ)) → code.plain ≡ plain → meaning_of tree (given old) ≡ Err kind
    by_plain None e = code_means tree code old new safe is is_code e same (Err kind) came
    by_plain (Some order) e = outputs_mean tree code old new safe is is_new is_code order e (Err kind) came

-- an output of plain code is told as an effect of a scalar
pub outputs_told : (inputs : Inputs) (frame : Frame) (order : List ℕ) → AllByRecursion (λ connector. length (extents_of_connector inputs connector) ≡ 0) order →
    map (told inputs) (map (kept_output frame.variables frame.registers.items) order) ≡ output_effects (output_of frame) order
outputs_told inputs frame [] all = refl
outputs_told inputs frame (connector ∷ order) all =
    let none : length (extents_of_connector inputs connector) ≡ 0 = all.0 in
    (λ i. record { connector = connector; at = map pos (take (none i) (0 ∷ 0 ∷ 0 ∷ 0 ∷ [])); value = output_of frame connector } ∷ outputs_told inputs frame order all.1 i)

pub scalars_told : (tree : TaskletTree) (inputs : Inputs) (order : List ℕ) → ((connector : ℕ) → length (extents_of_connector inputs connector) ≡ dimensions_of tree connector) →
    AllByRecursion (λ connector. (connector < length tree.ins + length tree.outs) × (dimensions_of tree connector ≡ 0)) order → AllByRecursion (λ connector. length (extents_of_connector inputs connector) ≡ 0) order
scalars_told tree inputs [] same all = tt
scalars_told tree inputs (connector ∷ order) same all = (same connector ∙ all.0.1, scalars_told tree inputs order same all.1)

pub kept_mean : (tree : TaskletTree) (code : Compiled) (old new last : Frame) → IsSafe code → IsFrameOf code old → IsFrameOf code new → IsCodeOf tree code → (order : List ℕ) → code.plain ≡ Some order → Came code old new (Ok tt) → given last ≡ given old →
    last.log.0 ≡ map (kept_output new.variables new.registers.items) order → meaning_of tree (given old) ≡ Ok (effects_of last)
kept_mean tree code old new last safe is is_new is_code order some came same kept =
    let dimensions : (connector : ℕ) → length (extents_of_connector (given_to code old.registers.items (map held old.arrays.items)) connector) ≡ dimensions_of tree connector =
    (holds_given code old.registers.items (map held old.arrays.items) safe (frame_fits code old is) tree is_code).dimensions in
    let here : (connector : ℕ) → length (extents_of_connector (given last) connector) ≡ dimensions_of tree connector =
    λ connector. ap (λ inputs. length (extents_of_connector inputs connector)) (same ∙ frame_given code old is) ∙ dimensions connector in
    let set = plain_set tree order (sym is_code.plain ∙ some) in
    outputs_mean tree code old new safe is is_new is_code order some (Ok tt) came
    ∙ ap Ok (sym (ap (map (told (given last))) kept ∙ outputs_told (given last) new order (scalars_told tree (given last) order here (outputs_scalar tree order is_code.named.names set))))

-- each output has a register
pub outputs_there : (order : List ℕ) (variables connectors registers : ℕ) → variables + connectors ≤ registers → AllByRecursion (λ connector. connector < connectors) order → AllByRecursion (λ connector. variables + connector < registers) order
outputs_there [] variables connectors registers h all = tt
outputs_there (connector ∷ order) variables connectors registers h all = (omega (arith, all.0), outputs_there order variables connectors registers h all.1)
