-- What the code of a body is given for an element, and what it comes to.
use Rattle.std.proofs.Common.{◌≡◌, ℕ, ℤ, List, [], ◌∷◌, map, length, Option, Some, None, Ok, Err, sym, ap, ◌∙◌, subst}
use Rattle.std.specs.List.{AllByRecursion, AllZip}
use Rattle.std.proofs.lemmas.List.{length-map}
use Rattle.sd_work.specs.declared.fault.FaultKind.{FaultKind}
use Rattle.sd_work.specs.Memory.{Memory}
use Rattle.sd_work.specs.Leaf.{Pending}
use Rattle.sd_work.specs.BigStep.{Reached}
use Rattle.sd_graph.specs.PlainTree.{TaskletTree}
use Rattle.sd_graph.specs.TaskletMeaning.{Inputs, meaning_of}
use Rattle.sd_graph.specs.Context.{Context, link_elements}
use Rattle.sd_graph.specs.Unfold.{pending_of}
use Rattle.sd_graph.specs.declared.link.Link.{Link}
use Rattle.sd_tasklet.specs.tasklet.Kept.{told}
use Rattle.sd_tasklet.specs.declared.tasklet.effect.Effect.{Effect as KeptEffect}
use Rattle.sd_tcode.specs.tcode.Compiled.{Compiled}
use Rattle.sd_leaves.specs.leaves.Done.{IsDone, performing, instance_work}
use Rattle.sd_leaves.specs.leaves.Given.{given_at, pending_told}
use Rattle.sd_leaves.proofs.leaves_lemmas.Instances.{evaluation_fails, evaluation_goes}
use Rattle.sd_row.specs.row.Row.{reference_on}
use Rattle.sd_row.specs.row.Point.{seen_on, IsOver}
use Rattle.sd_row.proofs.row_lemmas.Instances.{tracks_seen}
use Rattle.sd_row.specs.declared.instance.accesses.Accesses.{Accesses}
use Rattle.sd_row.specs.declared.instance.target.Target.{Target}
use Rattle.sd_row.specs.instance.Known.{IsTarget, AreKnown, AreTargets, AreOutward}
use Rattle.sd_row.proofs.instance_lemmas.Given.{told_all, all_single}
use Rattle.sd_row.proofs.instance_lemmas.Outward.{outward_all, stays_over}
use Rattle.sd_rows.specs.consume.Body.{IsBody, HasSingles}
use Rattle.sd_rows.specs.consume.Own.{with_own}
use Rattle.sd_rows.proofs.consume_lemmas.Exchanged.{done_over}

-- there is an element for each input of the next one
pub singles_again : {A : Type 0} (made : A → ℤ) (members : List A) (old given after : Inputs) → given.values ≡ map (λ member. made member ∷ []) members → after ≡ given → HasSingles (length members) old →
    HasSingles (length members) after
singles_again made members old given after values same singles = subst (HasSingles (length members)) (sym same) (record {
  singles = subst (AllByRecursion (λ values. length values ≡ 1)) (sym values) (all_single made members);
  reads = ap length values ∙ length-map members (λ member. made member ∷ []);
  few = singles.few;
})

module _ (old given : Inputs) (accesses : Accesses) (extents : given.extents ≡ old.extents)
    (tree : TaskletTree) (ins outs : List Link) (code : Compiled) (here standing : Context) (body : IsBody tree ins outs code old here) (known : AreKnown tree ins outs 0 here standing accesses) where
  -- as many inputs as are read
  pub targets_are : (count : ℕ) (all : List Target) → count ≡ length accesses.reads.items → all ≡ accesses.targets.items → AreTargets count ins outs given all 0 here standing
  targets_are count all many same = record {
    inputs = sym (length-map ins (link_elements here)) ∙ ap length known.reads ∙ length-map accesses.reads.items (λ track. Some (reference_on track 0) ∷ []) ∙ sym many;
    extents = extents ∙ body.extents;
    targets = subst (λ (all : List Target). AllZip (IsTarget 0 here standing) outs all) (sym same) known.targets;
  }

  -- effects that are performed over the memory of another element
  module _ (effects : List KeptEffect) (fault : Option FaultKind) (before after : Reached) (done : IsDone (performing (map (pending_told here given ins outs) effects)) before fault after) (outward : AreOutward here outs) (other : Memory) (over : IsOver other before) where
    effects_done : IsDone (performing (map (pending_of here ins outs) (map (told given) effects))) before fault after
    effects_done = subst (λ (todo : List Pending). IsDone (performing todo) before fault after) (sym (told_all here given ins outs effects)) done

    -- the innermost memory stays
    pub own_stays : fault ≡ None → IsOver other after
    own_stays none =
        stays_over other (map (pending_of here ins outs) (map (told given) effects)) before after (outward_all here ins outs (map (told given) effects) outward)
        (subst (λ (fault : Option FaultKind). IsDone (performing (map (pending_of here ins outs) (map (told given) effects))) before fault after) none effects_done) over

    pub effects_over : (own : Memory) → IsDone (performing (map (pending_of here ins outs) (map (told given) effects))) (with_own own before) fault (with_own own after)
    effects_over own = done_over own other (map (pending_of here ins outs) (map (told given) effects)) before after fault (outward_all here ins outs (map (told given) effects) outward) over effects_done

  module _ (variables : given.variables ≡ old.variables) (now : Reached) (values : given.values ≡ map (λ track. seen_on 0 now.memories track ∷ []) accesses.reads.items) where
    abbrev read : List (List ℤ)
    read = map (λ track. seen_on 0 now.memories track ∷ []) accesses.reads.items

    means_here : meaning_of body.compiled_tree given ≡ meaning_of tree (given_at here tree ins outs read)
    means_here =
        let same : given ≡ record old { values = read } = (λ i. record { values = values i; extents = extents i; variables = variables i }) in
        ap (meaning_of body.compiled_tree) same ∙ body.means read

    -- the code comes to a fault
    pub element_fails : (kind : FaultKind) → meaning_of body.compiled_tree given ≡ Err kind → IsDone (instance_work here tree ins outs) now (Some kind) now
    element_fails kind fails = evaluation_fails here tree ins outs now read (tracks_seen here now.memories 0 ins accesses.reads.items known.reads) kind (sym means_here ∙ fails)

    -- its effects are performed
    pub element_goes : (effects : List KeptEffect) (fault : Option FaultKind) (after : Reached) → meaning_of body.compiled_tree given ≡ Ok (map (told given) effects) →
        IsDone (performing (map (pending_of here ins outs) (map (told given) effects))) now fault after → IsDone (instance_work here tree ins outs) now fault after
    element_goes effects fault after goes done =
        evaluation_goes here tree ins outs now read (tracks_seen here now.memories 0 ins accesses.reads.items known.reads) (map (told given) effects) fault after (sym means_here ∙ goes) done
