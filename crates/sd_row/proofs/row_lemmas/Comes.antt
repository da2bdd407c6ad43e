-- What the rest of work comes to, the whole comes to.
use Rattle.std.proofs.Common.{◌≡◌, ℕ, ◌∷◌, Some, None, refl, sym, subst, ap, ◌∙◌, arith, length, ◌≤◌, drop, ◌+◌, ◌-◌}
use Rattle.std.specs.Bool.{⊤}
use Rattle.std.proofs.lemmas.List.{length-drop}
use Rattle.sd_work.specs.Memory.{Memory, Memories}
use Rattle.sd_work.specs.Residual.{Term, Terms, also}
use Rattle.sd_work.specs.Step.{Outcome, Done, Faulted, Spent}
use Rattle.sd_work.specs.BigStep.{Reached, Coming, and_then, leaving, big_step, big_parts}
use Rattle.sd_graph.specs.declared.place.Place.{Place}
use Rattle.sd_mem.specs.machine.ComesTo.{ComesTo, outcome_of, IsEnd}
use Rattle.sd_mem.specs.declared.machine.end.End.{End}
use Rattle.sd_mem.specs.declared.machine.end.End.TheVariants.{Finished, Fault, OutOfTurns}

-- work of which this is left now: whatever that comes to, with whatever bound beside on the transitions of a run or the takes of a pool, the whole does
pub record IsLeft (whole : (most : ℕ) → Coming Place) (before : Reached) (left : (most beside : ℕ) → Coming Place) (after : Reached) : Type 0 where
  pub comes : (most : ℕ) (outcome : Outcome Place Reached) → ((beside : ℕ) → ComesTo (left most beside) outcome) → ComesTo (whole most) outcome
  pub depth : length after.memories ≡ length before.memories
  pub turns : after.turns ≤ before.turns

-- ---- one after another

-- an outcome of work
abbrev done : Reached → Outcome Place Reached
done now = Done now

same_done : (came now : Reached) → done came ≡ done now → came ≡ now
same_done came now is = cc

-- first work that is done, and then the rest
pub comes-then : (coming : Coming Place) (now : Reached) (rest : Memories → ℕ → Coming Place) (outcome : Outcome Place Reached) →
    ComesTo coming (Done now) → ComesTo (rest now.memories now.turns) outcome → ComesTo (and_then coming rest) outcome
comes-then None now rest outcome is after = tt
comes-then (Some (Done came)) now rest outcome is after = subst (λ (n : Reached). ComesTo (rest n.memories n.turns) outcome) (sym (same_done came now is)) after
comes-then (Some (Faulted fault)) now rest outcome is after = cc
comes-then (Some Spent) now rest outcome is after = cc

-- an outcome that stops
abbrev pub IsStop : Outcome Place Reached → Type 0
IsStop (Done now) = ⊥
IsStop (Faulted fault) = ⊤
IsStop Spent = ⊤

-- first work that stops
pub comes-stop : (coming : Coming Place) (rest : Memories → ℕ → Coming Place) (outcome : Outcome Place Reached) → IsStop outcome →
    ComesTo coming outcome → ComesTo (and_then coming rest) outcome
comes-stop None rest outcome stop is = tt
comes-stop (Some (Done came)) rest (Done now) stop is = elim stop [ ]
comes-stop (Some (Done came)) rest (Faulted fault) stop is = cc
comes-stop (Some (Done came)) rest Spent stop is = cc
comes-stop (Some (Faulted fault)) rest outcome stop is = is
comes-stop (Some Spent) rest outcome stop is = is

-- an end that is none of a part that is done
pub stops : (end : End) (now : Reached) → ((end ≡ Finished) → ⊥) → IsStop (outcome_of end now)
stops Finished now not_done = absurd (not_done refl)
stops (Fault place kind) now not_done = tt
stops OutOfTurns now not_done = tt

-- an end that is this one
pub as_finished : (coming : ℕ → Coming Place) (before after : Reached) (end : End) → end ≡ Finished → IsEnd coming before end after → IsEnd coming before Finished after
as_finished coming before after end is ends = subst (λ (e : End). IsEnd coming before e after) is ends

-- ---- parts one after another

-- the first part is done
pub left_more : (whole : ℕ → Coming Place) (before middle now : Reached) (term : Term Place) (rest : Terms Place) →
    IsLeft whole before (λ most beside. big_parts (also term rest) most middle.memories middle.turns) middle →
    IsEnd (λ most. big_step term most middle.memories middle.turns) middle Finished now →
    IsLeft whole before (λ most beside. big_parts rest most now.memories now.turns) now
left_more whole before middle now term rest left end = record {
  comes = λ most outcome after. left.comes most outcome (λ beside. comes-then (big_step term most middle.memories middle.turns) now (big_parts rest most) outcome (end.comes most) (after beside));
  depth = end.depth ∙ left.depth;
  turns = omega (arith, end.turns, left.turns);
}

-- the first part stops the whole
pub left_stop : (whole : ℕ → Coming Place) (before middle now : Reached) (term : Term Place) (rest : Terms Place) (end : End) →
    IsLeft whole before (λ most beside. big_parts (also term rest) most middle.memories middle.turns) middle →
    IsEnd (λ most. big_step term most middle.memories middle.turns) middle end now → ((end ≡ Finished) → ⊥) →
    IsEnd whole before end now
left_stop whole before middle now term rest end left ends stop = record {
  comes = λ most. left.comes most (outcome_of end now) (λ beside. comes-stop (big_step term most middle.memories middle.turns) (big_parts rest most) (outcome_of end now) (stops end now stop) (ends.comes most));
  depth = ends.depth ∙ left.depth;
  turns = omega (arith, ends.turns, left.turns);
}

-- ---- inside an owner

-- what owns a memory drops it behind its work
abbrev behind : Reached → Reached
behind now = record { memories = drop 1 now.memories; turns = now.turns }

comes-leaving : (coming : Coming Place) (end : End) (now : Reached) → ComesTo coming (outcome_of end now) → ComesTo (leaving coming) (outcome_of end (behind now))
comes-leaving coming Finished now is = comes-then coming now _ (Done (behind now)) is refl
comes-leaving coming (Fault place kind) now is = comes-stop coming _ (outcome_of (Fault place kind) now) tt is
comes-leaving coming OutOfTurns now is = comes-stop coming _ Spent tt is

-- work inside the memory that it owns
pub owned_ends : (coming : Reached → (most : ℕ) → Coming Place) (own : Memory) (middle entered after now : Reached) (end : End) →
    entered.memories ≡ own ∷ middle.memories → entered.turns ≡ middle.turns →
    IsEnd (coming entered) entered end after →
    now.memories ≡ drop 1 after.memories → now.turns ≡ after.turns →
    IsEnd (λ most. leaving (coming (record { memories = own ∷ middle.memories; turns = middle.turns }) most)) middle end now
owned_ends coming own middle entered after now end same_memories same_turns ends dropped kept =
    let deeper : length entered.memories ≡ length middle.memories + 1 = ap length same_memories ∙ omega arith in
    let memory : entered ≡ record { memories = own ∷ middle.memories; turns = middle.turns } =
    (λ i. record { memories = same_memories i; turns = same_turns i }) in
    let back : behind after ≡ now = (λ i. record { memories = sym dropped i; turns = sym kept i }) in
    let inside : (most : ℕ) → ComesTo (coming (record { memories = own ∷ middle.memories; turns = middle.turns }) most) (outcome_of end after) =
    (λ most. subst (λ (now : Reached). ComesTo (coming now most) (outcome_of end after)) memory (ends.comes most)) in
    let shorter : length now.memories ≡ length after.memories - 1 = ap length dropped ∙ length-drop 1 after.memories in
    record {
      comes = λ most. subst (λ (now : Reached). ComesTo (leaving (coming (record { memories = own ∷ middle.memories; turns = middle.turns }) most)) (outcome_of end now)) back (comes-leaving _ end after (inside most));
      depth = omega (arith, shorter, deeper, ends.depth);
      turns = omega (arith, kept, same_turns, ends.turns);
    }
