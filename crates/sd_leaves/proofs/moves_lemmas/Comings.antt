-- What moves come to.
use Rattle.std.proofs.Common.{◌≡◌, ℕ, zero, ℤ, List, length, Bool, true, false, Option, Some, None, refl, sym, ap, ◌∙◌, subst}
use Rattle.sd_num.specs.declared.resolution.Resolution.{Resolution}
use Rattle.sd_work.specs.declared.fault.FaultKind.{FaultKind}
use Rattle.sd_work.specs.declared.fault.FaultKind.TheVariants.{Subscript}
use Rattle.sd_work.specs.Memory.{Memories, Reference}
use Rattle.sd_work.specs.Change.{Change, write, push, apply}
use Rattle.sd_work.specs.Move.{Move, fails, goes, no_move, fault_at}
use Rattle.sd_work.specs.Leaf.{Pending, push_to, Leaf, doing}
use Rattle.sd_work.specs.LeafMove.{do_move, write_move}
use Rattle.sd_work.specs.Step.{Outcome, Done, Faulted, Spent}
use Rattle.sd_work.specs.BigStep.{Reached}
use Rattle.sd_moves.specs.numbered.Gone.{Gone, gone}
use Rattle.sd_graph.specs.declared.place.Place.{Place}
use Rattle.sd_mem.specs.machine.Stack.{IsPaid}
use Rattle.sd_mem.specs.declared.machine.end.End.TheVariants.{Finished, Fault, OutOfTurns}
use Rattle.sd_leaves.proofs.leaves_lemmas.Depths.{same_depth}
use Rattle.sd_leaves.specs.moves.Moved.{IsMoved}

-- ---- moves that go or fail, and want a turn or none

abbrev done_with : {A : Type 0} → (left : A) → (turns : ℕ) → Memories → Outcome Place (Gone A)
done_with left turns memories = Done (record { memories = memories; left = left; turns = turns })

goes_to : {A : Type 0} (turn : Bool) (change : Change) (old left : A) (memories : Memories) (before after : ℕ) → IsPaid turn before after
    → gone {P = Place} (goes turn change left) old memories before ≡ done_with left after (apply change memories)
goes_to true change old left memories before after paid = ap (gone (goes true change left) old memories) paid
goes_to false change old left memories before after paid = ap (gone (goes false change left) old memories) paid

pub goes-moved : {A : Type 0} (turn : Bool) (change : Change) (old left : A) (before after : Reached) → after.memories ≡ apply change before.memories → IsPaid turn before.turns after.turns
    → IsMoved (goes turn change left) old before Finished after left
goes-moved turn change old left before after memories paid = record {
  comes = goes_to turn change old left before.memories before.turns after.turns paid ∙ ap (done_with left after.turns) (sym memories);
  depth = ap length memories ∙ same_depth change before.memories;
}

fails_to : {A : Type 0} (turn : Bool) (place : Place) (kind : FaultKind) (old : A) (memories : Memories) (before after : ℕ) → IsPaid turn before after
    → gone (fails turn (fault_at place kind)) old memories before ≡ Faulted (fault_at place kind)
fails_to true place kind old memories before after paid = ap (gone (fails true (fault_at place kind)) old memories) paid
fails_to false place kind old memories before after paid = refl

pub fails-moved : {A : Type 0} (turn : Bool) (place : Place) (kind : FaultKind) (old left : A) (before after : Reached) → after.memories ≡ before.memories → IsPaid turn before.turns after.turns
    → IsMoved (fails turn (fault_at place kind)) old before (Fault place kind) after left
fails-moved turn place kind old left before after memories paid = record {
  comes = fails_to turn place kind old before.memories before.turns after.turns paid;
  depth = ap length memories;
}

-- a move that wants a turn, where none is left
abbrev pub Wants : {A : Type 0} → Bool → Move Place A → Type 0
Wants turn (fails wanted fault) = wanted ≡ turn
Wants turn (goes wanted change left) = wanted ≡ turn
Wants turn no_move = ⊥

spent_by : {A : Type 0} (move : Move Place A) (old : A) (memories : Memories) → Wants true move → gone move old memories 0 ≡ Spent
spent_by (fails wanted fault) old memories wants = ap (λ turn. gone (fails turn fault) old memories 0) wants
spent_by (goes wanted change left) old memories wants = ap (λ turn. gone (goes turn change left) old memories 0) wants
spent_by no_move old memories wants = absurd wants

pub spent-moved : {A : Type 0} (turn : Bool) (move : Move Place A) (old left : A) (before after : Reached) → Wants turn move → turn ≡ true → before.turns ≡ zero → after.memories ≡ before.memories
    → IsMoved move old before OutOfTurns after left
spent-moved turn move old left before after wants wanted none memories = record {
  comes = ap (gone move old before.memories) none ∙ spent_by move old before.memories (subst (λ turn. Wants turn move) wanted wants);
  depth = ap length memories;
}

-- ---- one thing that is done

module _ (place : Place) (left : List Pending) (old : Leaf) (now : Reached) (by : Option Resolution) where
  pub nowhere : (value : Option ℤ) → IsMoved (write_move place value None by left) old now (Fault place Subscript) now (doing left)
  nowhere None = record { comes = refl; depth = refl }
  nowhere (Some value) = record { comes = refl; depth = refl }

  pub unseen : (to : Option Reference) → IsMoved (write_move place None to by left) old now (Fault place Subscript) now (doing left)
  unseen to = record { comes = refl; depth = refl }

  pub written : (value : ℤ) (to : Reference) (after : Reached) → after.memories ≡ apply (write to by value) now.memories → after.turns ≡ now.turns
      → IsMoved (write_move place (Some value) (Some to) by left) old now Finished after (doing left)
  written value to after memories turns = goes-moved false (write to by value) old (doing left) now after memories (sym turns)

pub pushed : (place : Place) (left : List Pending) (old : Leaf) (now after : Reached) (level container : ℕ) (value : ℤ) → after.memories ≡ apply (push level container value) now.memories → after.turns ≡ now.turns
    → IsMoved (do_move place (push_to level container value) now.memories left) old now Finished after (doing left)
pushed place left old now after level container value memories turns = goes-moved false (push level container value) old (doing left) now after memories (sym turns)

-- nothing is left to do
pub none-moved : {A : Type 0} (old : A) (now : Reached) → IsMoved no_move old now Finished now old
none-moved old now = record { comes = refl; depth = refl }
