-- What a run comes to on connectors that stand elsewhere.
use Rattle.std.proofs.Common.{◌≡◌, ℕ, ◌+◌, ℤ, pos, List, [], ◌∷◌, length, map, take, drop, Result, Ok, Err, Option, Some, None, Bool, true, false, ◌==◌, if◌then◌else◌, refl, sym, ap, ◌∙◌}
use Rattle.std.specs.Prelude.{slice_index_or}
use Rattle.sd_graph.specs.PlainTree.{TaskletTree}
use Rattle.sd_graph.specs.TaskletMeaning.{Inputs, extents_of_connector, meaning_of}
use Rattle.sd_work.specs.declared.fault.FaultKind.{FaultKind}
use Rattle.sd_tasklet.specs.tasklet.Kept.{told}
use Rattle.sd_tcode.specs.tcode.Named.{dimensions_of}
use Rattle.sd_tcode.specs.op.Machine.{Held, held, after_all, state_only, answered}
use Rattle.sd_tcode.specs.tcode.Outputs.{output_effects}
use Rattle.sd_tcode.specs.tcode.Compiled.{Compiled, IsSafe, IsCodeOf}
use Rattle.sd_tcode.specs.tcode.Held.{elements_in, values_with, given_with, HaveDims, given, output_of, kept_output, IsFrameOf}
use Rattle.sd_tcode.specs.declared.tcode.frame.Frame.{Frame}
use Rattle.sd_tcode.proofs.tcode_lemmas.Plains.{plain_set, outputs_scalar}
use Rattle.sd_tcode.proofs.tcode_lemmas.Linked.{Fits, given_to, holds_given, run_means, plain_means}
use Rattle.sd_tcode.proofs.tcode_lemmas.Frames.{dims_held, frame_given, outputs_told, scalars_told}

-- a scalar is as it was
same_test : {A : Type 0} (test : Bool) (value inside outside : A) → (if test then (if test then value else inside) else outside) ≡ (if test then value else outside)
same_test true value inside outside = refl
same_test false value inside outside = refl

-- connectors of the same dimensions take the scalars from the same registers
pub with_same : (arrays connectors : List Held) (scalars : List ℤ) → map (λ array. length array.extents) arrays ≡ map (λ connector. length connector.extents) connectors →
    values_with connectors (elements_in arrays scalars) ≡ elements_in connectors scalars
with_same [] [] scalars same = refl
with_same [] (connector ∷ connectors) scalars same = cc
with_same (array ∷ arrays) [] scalars same = cc
with_same (array ∷ arrays) (connector ∷ connectors) [] same = refl
with_same (array ∷ arrays) (connector ∷ connectors) (value ∷ scalars) same =
    let here : length array.extents ≡ length connector.extents = cc in
    let others : map (λ array. length array.extents) arrays ≡ map (λ connector. length connector.extents) connectors = cc in
    ap (λ many. (if length connector.extents == 0 then (if many == 0 then value ∷ [] else array.cells) else connector.cells) ∷ values_with connectors (elements_in arrays scalars)) here
    ∙ (λ i. same_test (length connector.extents == 0) (value ∷ []) array.cells connector.cells i ∷ with_same arrays connectors scalars others i)

module _ (tree : TaskletTree) (code : Compiled) (old new : Frame) (connectors : List Held) (safe : IsSafe code) (is : IsFrameOf code old) (dims : HaveDims code connectors) (is_code : IsCodeOf tree code) where
  fits : Fits code old.registers.items connectors
  fits = record { registers_many = is.registers; arrays_dims = dims }

  -- what is given with the connectors is what the registers and the connectors give
  same_scalars : given_with connectors (given_to code old.registers.items (map held old.arrays.items)) ≡ given_to code old.registers.items connectors
  same_scalars = λ i. record {
    values = with_same (map held old.arrays.items) connectors (take code.layout.inputs (take (code.layout.inputs + code.layout.variables) old.registers.items)) (dims_held old.arrays.items ∙ is.arrays ∙ sym dims) i;
    extents = map (λ connector. connector.extents) connectors;
    variables = drop code.layout.inputs (take (code.layout.inputs + code.layout.variables) old.registers.items);
  }

  with_is : given_with connectors (given old) ≡ given_to code old.registers.items connectors
  with_is = ap (given_with connectors) (frame_given code old is) ∙ same_scalars

  -- what a run of all instructions came to
  abbrev Came : Result (Unit {0}) FaultKind → Type 0
  Came result =
      state_only (after_all connectors 0 code.ops (record { registers = old.registers.items; effects = [] })) ≡ answered result (record { registers = new.registers.items; effects = new.log.0 })

  -- code that keeps a list of effects
  pub list_means : code.plain ≡ None → given new ≡ given old → (result : Result (Unit {0}) FaultKind) → Came result →
      meaning_of tree (given_with connectors (given old)) ≡ answered result (map (told (given_with connectors (given new))) new.log.0)
  list_means none same result came =
      let back : given_to code old.registers.items connectors ≡ given_with connectors (given new) = sym with_is ∙ ap (given_with connectors) (sym same) in
      ap (meaning_of tree) with_is
      ∙ (run_means tree code old.registers.items connectors safe fits is_code none result (record { registers = new.registers.items; effects = new.log.0 }) came
      ∙ ap (λ inputs. answered result (map (told inputs) new.log.0)) back)

  module _ (is_new : IsFrameOf code new) where
    -- plain code
    pub order_means : (order : List ℕ) → code.plain ≡ Some order → (result : Result (Unit {0}) FaultKind) → Came result →
        meaning_of tree (given_with connectors (given old)) ≡ answered result (output_effects (output_of new) order)
    order_means order some result came =
        ap (meaning_of tree) with_is
        ∙ (plain_means tree code old.registers.items connectors safe fits is_code order some result (record { registers = new.registers.items; effects = new.log.0 }) came
        ∙ ap (λ n. answered result (output_effects (λ connector. slice_index_or new.registers.items (n + connector) (pos 0)) order)) (sym is_new.variables))

    pub fault_from : given new ≡ given old → (kind : FaultKind) → Came (Err kind) → meaning_of tree (given_with connectors (given old)) ≡ Err kind
    fault_from same kind came = by_plain code.plain refl
      where
        by_plain : (plain : Option (List ℕ)) → code.plain ≡ plain → meaning_of tree (given_with connectors (given old)) ≡ Err kind
        by_plain None e = list_means e same (Err kind) came
        by_plain (Some order) e = order_means order e (Err kind) came

    pub kept_from : (last : Frame) (order : List ℕ) → code.plain ≡ Some order → Came (Ok tt) → given last ≡ given old →
        last.log.0 ≡ map (kept_output new.variables new.registers.items) order → meaning_of tree (given_with connectors (given old)) ≡ Ok (map (told (given_with connectors (given last))) last.log.0)
    kept_from last order some came same kept =
        let with_last : given_with connectors (given last) ≡ given_to code old.registers.items connectors = ap (given_with connectors) same ∙ with_is in
        let here : (connector : ℕ) → length (extents_of_connector (given_with connectors (given last)) connector) ≡ dimensions_of tree connector =
        λ connector. ap (λ inputs. length (extents_of_connector inputs connector)) with_last ∙ (holds_given code old.registers.items connectors safe fits tree is_code).dimensions connector in
        let set = plain_set tree order (sym is_code.plain ∙ some) in
        order_means order some (Ok tt) came
        ∙ ap Ok (sym (ap (map (told (given_with connectors (given last)))) kept
        ∙ outputs_told (given_with connectors (given last)) new order (scalars_told tree (given_with connectors (given last)) order here (outputs_scalar tree order is_code.named.names set))))
