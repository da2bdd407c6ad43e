-- What a move of a part comes to, as one of the whole.
use Rattle.std.proofs.Common.{◌≡◌, ℕ, suc, List, [], ◌∷◌, length, drop, refl, sym, ap, ap₂, ◌∙◌, arith}
use Rattle.sd_work.specs.Memory.{Memory, Memories}
use Rattle.sd_work.specs.Change.{innermost}
use Rattle.sd_work.specs.Leaf.{Leaf}
use Rattle.sd_work.specs.LeafMove.{leaf_move}
use Rattle.sd_work.specs.Move.{Move, map_move}
use Rattle.sd_work.specs.Residual.{Term, leaf}
use Rattle.sd_work.specs.Moves.{Path}
use Rattle.sd_work.specs.Fire.{owned}
use Rattle.sd_work.specs.BigStep.{Reached}
use Rattle.sd_moves.specs.numbered.Gone.{gone, map_outcome, within, inside}
use Rattle.sd_moves.proofs.numbered_lemmas.Comes.{gone-mapped, gone-owned}
use Rattle.sd_graph.specs.declared.place.Place.{Place}
use Rattle.sd_mem.specs.declared.machine.end.End.{End}
use Rattle.sd_mem.specs.declared.machine.end.End.TheVariants.{Finished, Fault, OutOfTurns}
use Rattle.sd_leaves.specs.moves.Moved.{IsMoved, outcome_with}
use Rattle.sd_left.specs.fired.Fired.{IsFired, IsEntered, IsLeft}

pub outcome-within : {A B : Type 0} (whole : A → B) (end : End) (after : Reached) (left : A) → map_outcome (within whole) (outcome_with end after left) ≡ outcome_with end after (whole left)
outcome-within whole Finished after left = refl
outcome-within whole (Fault place kind) after left = refl
outcome-within whole OutOfTurns after left = refl

-- equal ends, with equal memories, turns and rests
outcome-same : {A : Type 0} (end : End) (now then : Reached) (left right : A) → now.memories ≡ then.memories → now.turns ≡ then.turns → left ≡ right → outcome_with end now left ≡ outcome_with end then right
outcome-same end now then left right memories turns same = λ i. outcome_with end (record { memories = memories i; turns = turns i }) (same i)

abbrev outside : Reached → Reached
outside now = record { memories = drop 1 now.memories; turns = now.turns }

outcome-inside : (whole : Memory → Term Place → Term Place) (end : End) (behind : Reached) (left : Term Place)
    → map_outcome (inside whole) (outcome_with end behind left) ≡ outcome_with end (outside behind) (whole (innermost behind.memories) left)
outcome-inside whole Finished behind left = refl
outcome-inside whole (Fault place kind) behind left = refl
outcome-inside whole OutOfTurns behind left = refl

-- ---- a part of a whole

pub mapped-moved : {A B : Type 0} (whole : A → B) (move : Move Place A) (old : A) (before after : Reached) (end : End) (left : A) → IsMoved move old before end after left
    → IsMoved (map_move whole move) (whole old) before end after (whole left)
mapped-moved whole move old before after end left moved = record {
  comes = gone-mapped whole move old before.memories before.turns
      ∙ ap (map_outcome (within whole)) moved.comes
      ∙ outcome-within whole end after left;
  depth = moved.depth;
}

pub leaf-fired : (place : Place) (old new : Leaf) (path : Path) (before after : Reached) (end : End) → IsMoved (leaf_move place old before.memories) old before end after new
    → IsFired (leaf place old) path before end after (leaf place new)
leaf-fired place old new path before after end moved = mapped-moved (leaf place) (leaf_move place old before.memories) old before after end new moved

-- ---- a part inside an owner

one-less : {A : Type 0} (members : List A) (count : ℕ) → length members ≡ suc count → length (drop 1 members) ≡ count
one-less [] count many = absurd (omega (arith, many))
one-less (member ∷ members) count many = omega (arith, many)

pub owned-moved : (whole : Memory → Term Place → Term Place) (own new : Memory) (move : Memories → Move Place (Term Place)) (old left : Term Place) (before inner behind after : Reached) (end : End)
    → IsEntered own before inner → IsLeft behind new after → IsMoved (move inner.memories) old inner end behind left
    → IsMoved (owned whole own (move (own ∷ before.memories))) (whole own old) before end after (whole new left)
owned-moved whole own new move old left before inner behind after end entered left_it moved = record {
  comes = gone-owned whole own (move (own ∷ before.memories)) old before.memories before.turns
      ∙ ap₂ (λ (memories : Memories) (turns : ℕ). map_outcome (inside whole) (gone (move memories) old memories turns)) (sym entered.memories) (sym entered.turns)
      ∙ ap (map_outcome (inside whole)) moved.comes
      ∙ outcome-inside whole end behind left
      ∙ outcome-same end (outside behind) after (whole (innermost behind.memories) left) (whole new left) (sym left_it.memories) (sym left_it.turns) (ap (λ (memory : Memory). whole memory left) (sym left_it.own));
  depth = ap length left_it.memories ∙ one-less behind.memories (length before.memories) (moved.depth ∙ ap length entered.memories);
}
