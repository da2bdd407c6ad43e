-- What code comes to on what it sees through views.
use Rattle.std.proofs.Common.{◌≡◌, ℕ, ◌<◌, ◌≤◌, ◌^◌, List, [], ◌∷◌, ◌++◌, map, length, Option, Some, None, Ok, Err, sym, ap, ◌∙◌, subst, arith}
use Rattle.std.specs.List.{AllByRecursion, AllZip}
use Rattle.std.proofs.lemmas.List.{length-map, map-append}
use Rattle.std.proofs.lemmas.Simd.{map-map}
use Rattle.sd_num.specs.Wrapped.{wrapped}
use Rattle.sd_range.specs.Affine.{variable_value}
use Rattle.sd_work.specs.declared.fault.FaultKind.{FaultKind}
use Rattle.sd_work.specs.Memory.{Memory}
use Rattle.sd_work.specs.Leaf.{Pending}
use Rattle.sd_work.specs.BigStep.{Reached}
use Rattle.sd_graph.specs.PlainTree.{TaskletTree}
use Rattle.sd_graph.specs.TaskletMeaning.{Inputs, meaning_of}
use Rattle.sd_graph.specs.Context.{Context, link_extents}
use Rattle.sd_graph.specs.Unfold.{pending_of}
use Rattle.sd_graph.specs.declared.link.Link.{Link}
use Rattle.sd_tasklet.specs.tasklet.Kept.{told}
use Rattle.sd_tasklet.specs.declared.tasklet.effect.Effect.{Effect as KeptEffect}
use Rattle.sd_tcode.specs.op.Machine.{Held}
use Rattle.sd_tcode.specs.tcode.Compiled.{Compiled}
use Rattle.sd_tcode.specs.tcode.Held.{IsReady, given as given_by_frame, given_with, values_with}
use Rattle.sd_tcode.specs.declared.tcode.frame.Frame.{Frame}
use Rattle.sd_tcode.specs.columns.Columns.{value_on}
use Rattle.sd_leaves.specs.leaves.Done.{IsDone, performing, instance_work}
use Rattle.sd_leaves.specs.leaves.Given.{given_at, pending_told}
use Rattle.sd_leaves.proofs.leaves_lemmas.Instances.{evaluation_fails, evaluation_goes}
use Rattle.sd_row.specs.row.Point.{seen_on, IsOver}
use Rattle.sd_row.specs.declared.instance.target.Target.{Target}
use Rattle.sd_row.specs.declared.view.views.Views.{Views}
use Rattle.sd_row.specs.instance.Fit.{IsCodeFor}
use Rattle.sd_row.specs.instance.Known.{IsTarget, AreTargets, HasRoom, AreOutward}
use Rattle.sd_row.specs.view.View.{seen_in, held_in, held_out, connectors_in, AreViews}
use Rattle.sd_row.proofs.instance_lemmas.Given.{all_single, told_all}
use Rattle.sd_row.proofs.instance_lemmas.Outward.{outward_all, stays_over}
use Rattle.sd_row.proofs.view_lemmas.Seen.{windows_seen, windows_extents, windows_many, values_seen}

module _ (given : Inputs) (views : Views) (k : ℕ) (now : Reached)
    (values : given.values ≡ map (λ window. seen_on k now.memories window.first ∷ []) views.inputs.items) (variables : given.variables ≡ map (λ numbers. value_on numbers k) views.variables.items) where
  -- there is room for the next point
  pub room_again : (old after : Inputs) → after ≡ given → HasRoom (length views.inputs.items) (length views.variables.items) old → HasRoom (length views.inputs.items) (length views.variables.items) after
  room_again old after same room = subst (λ (inputs : Inputs). HasRoom (length views.inputs.items) (length views.variables.items) inputs) (sym same) (record {
    singles = subst (AllByRecursion (λ values. length values ≡ 1)) (sym values) (all_single (λ window. seen_on k now.memories window.first) views.inputs.items);
    reads = ap length values ∙ length-map views.inputs.items (λ window. seen_on k now.memories window.first ∷ []);
    variables = ap length variables ∙ length-map views.variables.items (λ numbers. value_on numbers k);
    few_reads = room.few_reads;
    few_variables = room.few_variables;
  })

  -- what the code is given beside the connectors that it sees
  abbrev pub seen : Inputs
  seen = given_with (connectors_in k now.memories views) given

  module _ (tree : TaskletTree) (ins outs : List Link) (context standing : Context) (are : AreViews tree ins outs k context standing views) where
    extents_are : map (λ connector. connector.extents) (connectors_in k now.memories views) ≡ map (link_extents context) (ins ++ outs)
    extents_are =
        map-append (λ (connector : Held). connector.extents) (map (held_in k now.memories) views.inputs.items) (map (λ extents. held_out extents.items) views.outputs.items)
        ∙ (λ i. windows_extents k context now.memories ins views.inputs.items are.inputs i
        ++ (map-map (λ (connector : Held). connector.extents) (λ extents. held_out extents.items) views.outputs.items ∙ sym are.outputs) i)
        ∙ sym (map-append (link_extents context) ins outs)

    pub targets_are : (count : ℕ) (all : List Target) → count ≡ length views.inputs.items → all ≡ views.targets.items → AreTargets count ins outs seen all k context standing
    targets_are count all many same = record {
      inputs = windows_many k context ins views.inputs.items are.inputs ∙ sym many;
      extents = extents_are;
      targets = subst (λ (all : List Target). AllZip (IsTarget k context standing) outs all) (sym same) are.targets;
    }

    given_here : given_at context tree ins outs (map (seen_in k now.memories) views.inputs.items) ≡ seen
    given_here = λ i. record {
      values = sym (ap (values_with (connectors_in k now.memories views)) values ∙ values_seen k now.memories views.inputs.items (map (λ extents. held_out extents.items) views.outputs.items)) i;
      extents = sym extents_are i;
      variables = (are.variables ∙ sym variables) i;
    }

    -- the code comes to a fault
    pub code_fails : (kind : FaultKind) → meaning_of tree seen ≡ Err kind → IsDone (instance_work context tree ins outs) now (Some kind) now
    code_fails kind fails =
        evaluation_fails context tree ins outs now (map (seen_in k now.memories) views.inputs.items) (windows_seen k context now.memories ins views.inputs.items are.inputs) kind
        (ap (meaning_of tree) given_here ∙ fails)

    module _ (effects : List KeptEffect) (fault : Option FaultKind) (after : Reached) (goes : meaning_of tree seen ≡ Ok (map (told seen) effects))
        (done : IsDone (performing (map (pending_told context seen ins outs) effects)) now fault after) where
      -- its effects are performed
      effects_done : IsDone (performing (map (pending_of context ins outs) (map (told seen) effects))) now fault after
      effects_done = subst (λ (todo : List Pending). IsDone (performing todo) now fault after) (sym (told_all context seen ins outs effects)) done

      pub code_goes : IsDone (instance_work context tree ins outs) now fault after
      code_goes =
          evaluation_goes context tree ins outs now (map (seen_in k now.memories) views.inputs.items) (windows_seen k context now.memories ins views.inputs.items are.inputs)
          (map (told seen) effects) fault after (ap (meaning_of tree) given_here ∙ goes) effects_done

      -- the innermost memory stays
      pub own_stays : (own : Memory) → AreOutward context outs → fault ≡ None → IsOver own now → IsOver own after
      own_stays own outward none over =
          stays_over own (map (pending_of context ins outs) (map (told seen) effects)) now after (outward_all context ins outs (map (told seen) effects) outward)
          (subst (λ (fault : Option FaultKind). IsDone (performing (map (pending_of context ins outs) (map (told seen) effects))) now fault after) none effects_done) over

-- code and a frame for a tasklet with these views
module _ (tree : TaskletTree) (ins outs : List Link) (k : ℕ) (context standing : Context) (views : Views) (are : AreViews tree ins outs k context standing views) where
  variables_many : length tree.variables ≡ length views.variables.items
  variables_many =
      sym (length-map tree.variables (λ variable. wrapped (variable_value context.values variable))) ∙ ap length are.variables ∙ length-map views.variables.items (λ numbers. value_on numbers k)

  -- there is room for as many as are read
  pub room_viewed : (given : Inputs) → HasRoom (length ins) (length tree.variables) given → HasRoom (length views.inputs.items) (length views.variables.items) given
  room_viewed given room =
      let reads = windows_many k context ins views.inputs.items are.inputs in
      record {
        singles = room.singles;
        reads = room.reads ∙ reads;
        variables = room.variables ∙ variables_many;
        few_reads = subst (λ n. n < 2 ^ 32) reads room.few_reads;
        few_variables = subst (λ n. n < 2 ^ 32) variables_many room.few_variables;
      }

  -- each input of the code has a window
  pub inputs_viewed : (compiled : Compiled) (frame : Frame) → IsCodeFor tree ins outs compiled frame → compiled.layout.inputs ≤ length views.inputs.items
  inputs_viewed compiled frame is =
      let inputs : compiled.layout.inputs ≡ length tree.ins = ap (λ layout. layout.inputs) is.code.layout in
      omega (arith, inputs, is.inputs, windows_many k context ins views.inputs.items are.inputs)

  -- the frame is as fit as before
  pub code_again : (compiled : Compiled) (frame new : Frame) → IsCodeFor tree ins outs compiled frame → IsReady compiled new → HasRoom (length views.inputs.items) (length views.variables.items) (given_by_frame new) →
      (given_by_frame new).extents ≡ (given_by_frame frame).extents → IsCodeFor tree ins outs compiled new
  code_again compiled frame new is ready room extents = record {
    inputs = is.inputs;
    code = is.code;
    ready = ready;
    room = record {
      singles = room.singles;
      reads = room.reads ∙ sym (windows_many k context ins views.inputs.items are.inputs);
      variables = room.variables ∙ sym variables_many;
      few_reads = is.room.few_reads;
      few_variables = is.room.few_variables;
    };
    connectors = ap length extents ∙ is.connectors;
  }
