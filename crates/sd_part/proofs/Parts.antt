-- How a part ends that ran on what a store lent.
use Rattle.std.proofs.Common.{◌≡◌, ℕ, List, [], ◌∷◌, length, Option, Some, None, Result, Ok, Err, IfOk, map, refl, sym, ◌∙◌, ap, subst}
use Rattle.sd_work.specs.Memory.{Memory, Memories}
use Rattle.sd_work.specs.Change.{innermost}
use Rattle.sd_work.specs.Exit.{Values}
use Rattle.sd_work.specs.Step.{Outcome, Done, Faulted, Spent}
use Rattle.sd_work.specs.Residual.{Term}
use Rattle.sd_work.specs.BigStep.{Coming, Reached, big_step, reached}
use Rattle.sd_pieces.specs.cut.Merged.{Marking, MergesTo, IsMerged, AreElementsOfWidth}
use Rattle.sd_pieces.proofs.course_lemmas.Shapes.{work-shape}
use Rattle.sd_pieces.proofs.cut_lemmas.WidthElements.{work-elements}
use Rattle.sd_pieces.proofs.cut_lemmas.OneMerged.{one-merged}
use Rattle.sd_graph.specs.PlainTree.{KindTree, GraphTree}
use Rattle.sd_graph.specs.TreeParts.{containers_of}
use Rattle.sd_graph.specs.Context.{own_reach}
use Rattle.sd_graph.specs.ContainerParts.{Containers}
use Rattle.sd_prop.specs.propagation.Accesses.{kind_accesses}
use Rattle.sd_race.specs.cover.Fit.{IsFit}
use Rattle.sd_graph.specs.declared.place.Place.{Place}
use Rattle.sd_mem.specs.machine.ComesTo.{ComesTo, outcome_of, IsEnd}
use Rattle.sd_mem.specs.mem.Shaped.{Shaped, alone}
use Rattle.sd_mem.specs.declared.machine.end.End.{End}
use Rattle.sd_mem.specs.declared.machine.end.End.TheVariants.{Finished, Fault, OutOfTurns}
use Rattle.sd_cut.specs.declared.window.Window.{Window}
use Rattle.sd_cut.specs.Windowed.{numbers_in, reach_in}
use Rattle.sd_cut.proofs.OverWindows.{over-windows}
use Rattle.sd_part.specs.Boxes.{NumberBox, number_box}
use Rattle.sd_part.specs.Part.{part_term}
use Rattle.sd_part.specs.Store.{AreMarkedFor, IsLentFor, IsMergedBack}
use Rattle.sd_cut.specs.Fits.{AreValuesOfWidth}
use Rattle.sd_part.proofs.StreamWidths.{work-values}

-- memories with so many turns
abbrev pub with_turns : Memories → ℕ → Reached
with_turns memories turns = record { memories = memories; turns = turns }

-- a run that is done is so in its code
done-here : (left : Reached) (end : End) (after : Reached) → Done left ≡ outcome_of end after → (end ≡ Finished) × (left ≡ after)
done-here left Finished after is = (refl, ap done-with is)
  where
    done-with : Outcome Place Reached → Reached
    done-with (Done now) = now
    done-with (Faulted fault) = left
    done-with Spent = left
done-here left (Fault place kind) after is = cc
done-here left OutOfTurns after is = cc

-- a memory that was alone is alone again
alone-again : (memories : Memories) (left : Shaped) → length memories ≡ 1 → left.contents ≡ innermost memories → memories ≡ alone left
alone-again [] left one same = cc
alone-again (memory ∷ []) left one same = ap (λ (m : Memory). m ∷ []) (sym same)
alone-again (memory ∷ next ∷ memories) left one same = cc

-- what a part that ran on what was lent comes to from the memory that the store stood for
pub part-comes : (containers : Containers) (windows : List (Option Window)) (marking : Marking) (term : Term Place) (lent left now after : Shaped) (most turns : ℕ) (coming : Coming Place) (end : End) (machine : Reached) →
    AreElementsOfWidth (alone now) → AreElementsOfWidth (alone lent) → AreValuesOfWidth (alone lent) → length machine.memories ≡ 1 → left.contents ≡ innermost machine.memories →
    IsMergedBack containers windows marking lent left now after →
    (on_cut : Coming Place) → on_cut ≡ big_step term most (alone lent) turns → ComesTo on_cut (outcome_of end machine) → MergesTo (numbers_in containers windows) marking (alone now) on_cut coming →
    ComesTo coming (outcome_of end (with_turns (alone after) machine.turns))
part-comes containers windows marking term lent left now after most turns coming end machine widths lent_widths lent_values one same merged None is comes merges =
    subst (λ (x : Coming Place). ComesTo x (outcome_of end (with_turns (alone after) machine.turns))) (sym merges) tt
part-comes containers windows marking term lent left now after most turns coming end machine widths lent_widths lent_values one same merged (Some (Done reached_there)) is comes merges =
    let here : (end ≡ Finished) × (reached_there ≡ machine) = done-here reached_there end machine comes in
    let memories : reached_there.memories ≡ alone left = ap (λ (r : Reached). r.memories) here.1 ∙ alone-again machine.memories left one same in
    let work : big_step term most (alone lent) turns ≡ reached (alone left) reached_there.turns = sym is ∙ ap (λ (m : Memories). reached m reached_there.turns) memories in
    let back : IsMerged (numbers_in containers windows) marking (alone left) (alone now) (alone after) =
    merged (work-shape term most (alone lent) turns (alone left) reached_there.turns work) (work-elements term most (alone lent) turns (alone left) reached_there.turns work lent_widths)
    (work-values term most turns (alone lent) (alone left) reached_there.turns work lent_values) in
    let behind : IsMerged (numbers_in containers windows) marking (alone left) (alone now) merges.0 = subst (λ (m : Memories). IsMerged (numbers_in containers windows) marking m (alone now) merges.0) memories merges.2 in
    let one_stack : merges.0 ≡ alone after = one-merged (numbers_in containers windows) marking (alone left) (alone now) merges.0 (alone after) widths behind back in
    subst (λ (x : Coming Place). ComesTo x (outcome_of end (with_turns (alone after) machine.turns)))
    (sym (merges.1 ∙ ap (λ (m : Memories). reached m reached_there.turns) one_stack))
    (ap (λ (r : Reached). Done (with_turns (alone after) r.turns)) here.1 ∙ sym (ap (λ (e : End). outcome_of e (with_turns (alone after) machine.turns)) here.0))
part-comes containers windows marking term lent left now after most turns coming end machine widths lent_widths lent_values one same merged (Some (Faulted fault)) is comes merges =
    subst (λ (x : Coming Place). ComesTo x (outcome_of end (with_turns (alone after) machine.turns))) (sym merges) (not-done-fault fault end machine (with_turns (alone after) machine.turns) comes)
  where
    not-done-fault : (fault : _) (end : End) (machine other : Reached) → Faulted fault ≡ outcome_of end machine → Faulted fault ≡ outcome_of end other
    not-done-fault fault Finished machine other is = cc
    not-done-fault fault (Fault place kind) machine other is = is
    not-done-fault fault OutOfTurns machine other is = cc
part-comes containers windows marking term lent left now after most turns coming end machine widths lent_widths lent_values one same merged (Some Spent) is comes merges =
    subst (λ (x : Coming Place). ComesTo x (outcome_of end (with_turns (alone after) machine.turns))) (sym merges) (not-done-spent end machine (with_turns (alone after) machine.turns) comes)
  where
    not-done-spent : (end : End) (machine other : Reached) → Spent ≡ outcome_of end machine → Spent ≡ outcome_of end other
    not-done-spent Finished machine other is = cc
    not-done-spent (Fault place kind) machine other is = cc
    not-done-spent OutOfTurns machine other is = is

-- what a part of a state comes to that ran so
pub part-ends-on : (tree : GraphTree) (state : ℕ) (values : Values) (kind : KindTree) (line : ℕ) (nodes : List ℕ) (boxes : List NumberBox) (windows : List (Option Window)) (marking : Marking)
    (lent left now after : Shaped) (turns : ℕ) (before machine : Reached) (end : End) → IsFit kind [] →
    boxes ≡ map (number_box (containers_of tree) values) (kind_accesses kind (containers_of tree) nodes) → AreMarkedFor boxes (containers_of tree) windows marking →
    IsLentFor (containers_of tree) windows marking lent now → IsMergedBack (containers_of tree) windows marking lent left now after →
    before.memories ≡ lent.contents ∷ [] → before.turns ≡ turns →
    IsEnd (λ most. big_step (part_term tree (reach_in (containers_of tree) windows) state values kind line) most before.memories before.turns) before end machine →
    left.contents ≡ innermost machine.memories → (most : ℕ) →
    ComesTo (big_step (part_term tree (own_reach (containers_of tree)) state values kind line) most (alone now) turns) (outcome_of end (with_turns (alone after) machine.turns))
part-ends-on tree state values kind line nodes boxes windows marking lent left now after turns before machine end fit are marks lends merged memories same_turns ends same most =
    let term = part_term tree (reach_in (containers_of tree) windows) state values kind line in
    let coming = big_step (part_term tree (own_reach (containers_of tree)) state values kind line) most (alone now) turns in
    let comes : ComesTo (big_step term most (alone lent) turns) (outcome_of end machine) =
    subst (λ (x : Coming Place). ComesTo x (outcome_of end machine)) (λ i. big_step term most (memories i) (same_turns i)) (ends.comes most) in
    part-comes (containers_of tree) windows marking term lent left now after most turns coming end machine lends.widths lends.lent_widths lends.lent_values (ends.depth ∙ ap length memories) same merged
    (big_step term most (alone lent) turns) refl comes
    (over-windows tree state values kind line nodes windows marking lends.memories (alone lent) (alone now) most turns fit
    (marks.dimensions values (kind_accesses kind (containers_of tree) nodes) are) (marks.marked values (kind_accesses kind (containers_of tree) nodes) are) lends.prepared lends.named)

-- what follows where a result is so
pub if-ok : {A E : Type 0} {P Q : A → Type 0} (result : Result A E) → ((value : A) → P value → Q value) → IfOk result P → IfOk result Q
if-ok (Ok value) follows is = follows value is
if-ok (Err error) follows is = is
