-- What code is given, and what it comes to.
use Rattle.std.proofs.Common.{◌≡◌, ℕ, ◌<◌, ◌^◌, ℤ, List, [], ◌∷◌, map, length, Option, Some, None, Ok, Err, refl, sym, ap, ◌∙◌, subst}
use Rattle.std.specs.List.{AllByRecursion, AllZip}
use Rattle.std.proofs.lemmas.List.{length-map}
use Rattle.sd_num.specs.Wrapped.{wrapped}
use Rattle.sd_range.specs.Affine.{variable_value}
use Rattle.sd_work.specs.declared.fault.FaultKind.{FaultKind}
use Rattle.sd_work.specs.Memory.{Memory}
use Rattle.sd_work.specs.Leaf.{Pending}
use Rattle.sd_work.specs.BigStep.{Reached}
use Rattle.sd_graph.specs.PlainTree.{TaskletTree}
use Rattle.sd_graph.specs.TaskletMeaning.{Inputs, meaning_of}
use Rattle.sd_graph.specs.Context.{Context, link_elements}
use Rattle.sd_graph.specs.Unfold.{pending_of}
use Rattle.sd_graph.specs.declared.link.Link.{Link}
use Rattle.sd_tasklet.specs.tasklet.Kept.{told}
use Rattle.sd_tasklet.specs.declared.tasklet.effect.Effect.{Effect as KeptEffect}
use Rattle.sd_tcode.specs.tcode.Compiled.{Compiled}
use Rattle.sd_leaves.specs.leaves.Done.{IsDone, performing, instance_work}
use Rattle.sd_leaves.specs.leaves.Given.{given_at, pending_told}
use Rattle.sd_leaves.proofs.leaves_lemmas.Instances.{evaluation_fails, evaluation_goes}
use Rattle.sd_tcode.specs.columns.Columns.{value_on}
use Rattle.sd_row.specs.row.Row.{reference_on}
use Rattle.sd_row.specs.row.Point.{seen_on, IsOver}
use Rattle.sd_row.proofs.row_lemmas.Instances.{tracks_seen}
use Rattle.sd_row.specs.declared.instance.accesses.Accesses.{Accesses}
use Rattle.sd_row.specs.declared.instance.target.Target.{Target}
use Rattle.sd_row.specs.instance.Known.{IsTarget, IsSetUp, AreKnown, AreTargets, HasRoom, AreOutward}
use Rattle.sd_row.proofs.instance_lemmas.Outward.{outward_all, stays_over}

-- what effects have to do is what is told of them
pub told_all : (context : Context) (given : Inputs) (ins outs : List Link) (effects : List KeptEffect) →
    map (pending_of context ins outs) (map (told given) effects) ≡ map (pending_told context given ins outs) effects
told_all context given ins outs [] = refl
told_all context given ins outs (effect ∷ effects) = ap (λ rest. pending_told context given ins outs effect ∷ rest) (told_all context given ins outs effects)

pub all_single : {A : Type 0} (made : A → ℤ) (members : List A) → AllByRecursion (λ values. length values ≡ 1) (map (λ member. made member ∷ []) members)
all_single made [] = tt
all_single made (member ∷ members) = (refl, all_single made members)

module _ (old given : Inputs) (accesses : Accesses) (k : ℕ) (now : Reached)
    (values : given.values ≡ map (λ track. seen_on k now.memories track ∷ []) accesses.reads.items) (variables : given.variables ≡ map (λ numbers. value_on numbers k) accesses.variables.items)
    (extents : given.extents ≡ old.extents) where
  -- there is room for the next point
  pub room_again : (after : Inputs) → after ≡ given → HasRoom (length accesses.reads.items) (length accesses.variables.items) old → HasRoom (length accesses.reads.items) (length accesses.variables.items) after
  room_again after same room = subst (λ (inputs : Inputs). HasRoom (length accesses.reads.items) (length accesses.variables.items) inputs) (sym same) (record {
    singles = subst (AllByRecursion (λ values. length values ≡ 1)) (sym values) (all_single (seen_on k now.memories) accesses.reads.items);
    reads = ap length values ∙ length-map accesses.reads.items (λ track. seen_on k now.memories track ∷ []);
    variables = ap length variables ∙ length-map accesses.variables.items (λ numbers. value_on numbers k);
    few_reads = room.few_reads;
    few_variables = room.few_variables;
  })

  module _ (tree : TaskletTree) (ins outs : List Link) (code : Compiled) (context standing : Context) (set : IsSetUp tree ins outs code old context) (known : AreKnown tree ins outs k context standing accesses) where
    -- as many inputs as are read
    pub targets_are : (count : ℕ) (all : List Target) → count ≡ length accesses.reads.items → all ≡ accesses.targets.items → AreTargets count ins outs given all k context standing
    targets_are count all many same = record {
      inputs = sym (length-map ins (link_elements context)) ∙ ap length known.reads ∙ length-map accesses.reads.items (λ track. Some (reference_on track k) ∷ []) ∙ sym many;
      extents = extents ∙ set.extents;
      targets = subst (λ (all : List Target). AllZip (IsTarget k context standing) outs all) (sym same) known.targets;
    }

    given_here : given_at context tree ins outs (map (λ track. seen_on k now.memories track ∷ []) accesses.reads.items) ≡ given
    given_here = λ i. record {
      values = sym values i;
      extents = (sym set.extents ∙ sym extents) i;
      variables = (known.variables ∙ sym variables) i;
    }

    -- the code comes to a fault
    pub code_fails : (kind : FaultKind) → meaning_of tree given ≡ Err kind → IsDone (instance_work context tree ins outs) now (Some kind) now
    code_fails kind fails =
        evaluation_fails context tree ins outs now (map (λ track. seen_on k now.memories track ∷ []) accesses.reads.items) (tracks_seen context now.memories k ins accesses.reads.items known.reads) kind
        (ap (meaning_of tree) given_here ∙ fails)

    module _ (effects : List KeptEffect) (fault : Option FaultKind) (after : Reached) (goes : meaning_of tree given ≡ Ok (map (told given) effects))
        (done : IsDone (performing (map (pending_told context given ins outs) effects)) now fault after) where
      -- its effects are performed
      effects_done : IsDone (performing (map (pending_of context ins outs) (map (told given) effects))) now fault after
      effects_done = subst (λ (todo : List Pending). IsDone (performing todo) now fault after) (sym (told_all context given ins outs effects)) done

      pub code_goes : IsDone (instance_work context tree ins outs) now fault after
      code_goes =
          evaluation_goes context tree ins outs now (map (λ track. seen_on k now.memories track ∷ []) accesses.reads.items) (tracks_seen context now.memories k ins accesses.reads.items known.reads)
          (map (told given) effects) fault after (ap (meaning_of tree) given_here ∙ goes) effects_done

      -- the innermost memory stays
      pub own_stays : (own : Memory) → AreOutward context outs → fault ≡ None → IsOver own now → IsOver own after
      own_stays own outward none over =
          stays_over own (map (pending_of context ins outs) (map (told given) effects)) now after (outward_all context ins outs (map (told given) effects) outward)
          (subst (λ (fault : Option FaultKind). IsDone (performing (map (pending_of context ins outs) (map (told given) effects))) now fault after) none effects_done) over

-- there is room for as many as are read
pub room_known : (tree : TaskletTree) (ins outs : List Link) (k : ℕ) (context standing : Context) (accesses : Accesses) (given : Inputs) → AreKnown tree ins outs k context standing accesses → HasRoom (length ins) (length tree.variables) given →
    HasRoom (length accesses.reads.items) (length accesses.variables.items) given
room_known tree ins outs k context standing accesses given known room =
    let reads : length ins ≡ length accesses.reads.items = sym (length-map ins (link_elements context)) ∙ ap length known.reads ∙ length-map accesses.reads.items (λ track. Some (reference_on track k) ∷ []) in
    let variables : length tree.variables ≡ length accesses.variables.items = sym (length-map tree.variables (λ variable. wrapped (variable_value context.values variable))) ∙ ap length known.variables ∙ length-map accesses.variables.items (λ numbers. value_on numbers k) in
    record {
      singles = room.singles;
      reads = room.reads ∙ reads;
      variables = room.variables ∙ variables;
      few_reads = subst (λ n. n < 2 ^ 32) reads room.few_reads;
      few_variables = subst (λ n. n < 2 ^ 32) variables room.few_variables;
    }
