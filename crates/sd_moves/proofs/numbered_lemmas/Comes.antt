-- What a move of a part comes to in the whole.
use Rattle.std.proofs.Common.{◌≡◌, ℕ, zero, suc, [], ◌∷◌, true, false, refl, sym, ap}
use Rattle.sd_work.specs.Memory.{Memory, Memories}
use Rattle.sd_work.specs.Move.{Move, fails, goes, no_move, map_move}
use Rattle.sd_work.specs.Residual.{Term}
use Rattle.sd_work.specs.Moves.{Path}
use Rattle.sd_work.specs.Fire.{fire, owned}
use Rattle.sd_work.specs.Settle.{settled}
use Rattle.sd_work.specs.Step.{Machine, Outcome, Done, moved, step}
use Rattle.sd_work.proofs.Changes.{apply-own}
use Rattle.sd_moves.specs.numbered.Gone.{Gone, gone, map_outcome, within, inside, settled_machine}

-- ---- a part of a list or a pool

pub gone-mapped : {P A B : Type 0} (whole : A → B) (move : Move P A) (old : A) (memories : Memories) (turns : ℕ)
    → gone (map_move whole move) (whole old) memories turns ≡ map_outcome (within whole) (gone move old memories turns)
gone-mapped whole (fails false fault) old memories turns = refl
gone-mapped whole (fails true fault) old memories zero = refl
gone-mapped whole (fails true fault) old memories (suc turns) = refl
gone-mapped whole (goes false change left) old memories turns = refl
gone-mapped whole (goes true change left) old memories zero = refl
gone-mapped whole (goes true change left) old memories (suc turns) = refl
gone-mapped whole no_move old memories turns = refl

-- ---- a part inside an owner

abbrev with_memories : {P : Type 0} → (Memory → Term P → Term P) → Term P → (turns : ℕ) → Memories → Outcome P (Gone (Term P))
with_memories whole left turns memories = Done (inside whole (record { memories = memories; left = left; turns = turns }))

pub gone-owned : {P : Type 0} (whole : Memory → Term P → Term P) (own : Memory) (move : Move P (Term P)) (old : Term P) (memories : Memories) (turns : ℕ)
    → gone (owned whole own move) (whole own old) memories turns ≡ map_outcome (inside whole) (gone move old (own ∷ memories) turns)
gone-owned whole own (fails false fault) old memories turns = refl
gone-owned whole own (fails true fault) old memories zero = refl
gone-owned whole own (fails true fault) old memories (suc turns) = refl
gone-owned whole own (goes false change left) old memories turns = ap (with_memories whole left turns) (sym (apply-own change own memories))
gone-owned whole own (goes true change left) old memories zero = refl
gone-owned whole own (goes true change left) old memories (suc turns) = ap (with_memories whole left turns) (sym (apply-own change own memories))
gone-owned whole own no_move old memories turns = refl

-- ---- a whole machine

abbrev done_with : {P : Type 0} → (turns : ℕ) → Term P → Outcome P (Machine P)
done_with turns term = Done (record { term = term; turns = turns })

moved-gone : {P : Type 0} (term : Term P) (turns : ℕ) (move : Move P (Term P)) → settled term ≡ term
    → moved (record { term = term; turns = turns }) move ≡ map_outcome settled_machine (gone move term [] turns)
moved-gone term turns (fails false fault) h = refl
moved-gone term zero (fails true fault) h = refl
moved-gone term (suc turns) (fails true fault) h = refl
moved-gone term turns (goes false change left) h = refl
moved-gone term zero (goes true change left) h = refl
moved-gone term (suc turns) (goes true change left) h = refl
moved-gone term turns no_move h = ap (done_with turns) (sym h)

pub step-gone : {P : Type 0} (machine : Machine P) (path : Path) → settled machine.term ≡ machine.term
    → step path machine ≡ map_outcome settled_machine (gone (fire machine.term path []) machine.term [] machine.turns)
step-gone machine path h = moved-gone machine.term machine.turns (fire machine.term path []) h
