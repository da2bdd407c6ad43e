-- What leftmost moves lead to, with settling between them.
use Rattle.std.proofs.Common.{◌≡◌, ℕ, zero, suc, ◌≤◌, List, [], ◌∷◌, Some, None, Bool, true, false}
use Rattle.std.specs.Bool.{⊤}
use Rattle.sd_work.specs.Memory.{Memories}
use Rattle.sd_work.specs.Change.{Change, nothing, write, push, take, apply}
use Rattle.sd_work.specs.Move.{Move, fails, goes, no_move}
use Rattle.sd_work.specs.Residual.{Term, finished}
use Rattle.sd_work.specs.Moves.{Path, moves}
use Rattle.sd_work.specs.Fire.{fire}
use Rattle.sd_work.specs.Settle.{settle}
use Rattle.sd_work.specs.Step.{Outcome, Done, Faulted, Spent}
use Rattle.sd_work.specs.BigStep.{Coming, Reached}

-- the turns before and after a move
abbrev pub Pays : (turn : Bool) → (before after : ℕ) → Type 0
Pays false before after = before ≡ after
Pays true before after = before ≡ suc after

-- a flag for each memory: nothing earlier is unfinished
abbrev pub clear : Memories → List Bool
clear [] = []
clear (memory ∷ memories) = true ∷ clear memories

-- a term with nothing unfinished before it, settled
abbrev pub front : {P : Type 0} → Memories → Term P → Term P
front s t = settle true (clear s) s t

-- the streams into which work may push
abbrev pub Feeds : Type 1
Feeds = (level container : ℕ) → Type 0

-- a change pushes into none but these streams
abbrev pub Within : Feeds → Change → Type 0
Within W nothing = ⊤
Within W (write to by value) = ⊤
Within W (push level container value) = W level container
Within W (take level container position) = ⊤

-- k leftmost moves lead from one term, memories and turns to others, and push into none but these streams. Each move is made of the
-- settled term, and what it leaves is what is left of the unsettled one, once both are settled
abbrev pub Leads : {P : Type 0} → Feeds → ℕ → Term P → Memories → ℕ → Term P → Memories → ℕ → Type 0
Leads W zero t s n t' s' n' = (front s t ≡ front s t') × (s ≡ s') × (n ≡ n')
Leads {P} W (suc k) t s n t' s' n' =
    (p : Path) × (ps : List Path) × (b : Bool) × (u : Change) × (y : Term P) × (x : Term P) × (m : ℕ)
    × (moves (front s t) s ≡ p ∷ ps) × (fire (front s t) p s ≡ goes b u y) × (front (apply u s) y ≡ front (apply u s) x) × Within W u
    × Pays b n m × Leads W k x (apply u s) m t' s' n'

-- the move does not go on, and why
abbrev pub FailsBy : {P A : Type 0} → Move P A → ℕ → Outcome P Reached → Type 0
FailsBy (fails false fault) n o = o ≡ Faulted fault
FailsBy (fails true fault) zero o = o ≡ Spent
FailsBy (fails true fault) (suc n) o = o ≡ Faulted fault
FailsBy (goes true u x) zero o = o ≡ Spent
FailsBy (goes true u x) (suc n) o = ⊥
FailsBy (goes false u x) n o = ⊥
FailsBy no_move n o = ⊥

abbrev pub FailsNow : {P : Type 0} → Term P → Memories → ℕ → Outcome P Reached → Type 0
FailsNow t s n o = (p : Path) × (ps : List Path) × (moves (front s t) s ≡ p ∷ ps) × FailsBy (fire (front s t) p s) n o

abbrev pub Stops : {P : Type 0} → Feeds → Term P → Memories → ℕ → Outcome P Reached → Type 0
Stops {P} W t s n o = (k : ℕ) × (t' : Term P) × (s' : Memories) × (n' : ℕ) × Leads W k t s n t' s' n' × FailsNow t' s' n' o

-- at least so many leftmost moves are made
abbrev pub Makes : {P : Type 0} → Feeds → (least : ℕ) → Term P → Memories → ℕ → Type 0
Makes {P} W least t s n = (k : ℕ) × (t' : Term P) × (s' : Memories) × (n' : ℕ) × (least ≤ k) × Leads W k t s n t' s' n'

-- the leftmost moves agree with what was done all at once, where that came to an end; else there are at least so many of them
abbrev pub Agrees : {P : Type 0} → Feeds → (least : ℕ) → Term P → Memories → ℕ → Coming P → Type 0
Agrees {P} W least t s n (Some (Done now)) = (k : ℕ) × (t' : Term P) × Leads W k t s n t' now.memories now.turns × (finished t' ≡ true)
Agrees W least t s n (Some (Faulted fault)) = Stops W t s n (Faulted fault)
Agrees W least t s n (Some Spent) = Stops W t s n Spent
Agrees W least t s n None = Makes W least t s n
