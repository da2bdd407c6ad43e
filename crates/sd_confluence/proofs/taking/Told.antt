-- What a run tells, choice by choice.
use Rattle.std.proofs.Common.{◌≡◌, ℕ, zero, suc, List, [], ◌∷◌, ◌++◌, drop, flat_map, refl, ◌∙◌, ap}
use Rattle.sd_work.specs.Residual.{Term, leaf, list, owning, nested, ended, pool}
use Rattle.sd_work.specs.Moves.{Path}
use Rattle.sd_work.specs.Fire.{fire}
use Rattle.sd_work.specs.Step.{Machine, Done, next_moves, step}
use Rattle.sd_work.specs.Run.{chosen, choices_on, choices_by, choices}
use Rattle.sd_confluence.specs.Event.{Event, event_of_move}

-- the event of the move at a place in the memory of an owner
abbrev pub event_inside : {P : Type 0} → Term P → Path → List Event
event_inside (owning own part) path = event_of_move own (fire part path (own ∷ []))
event_inside (leaf place work) path = []
event_inside (list kind before parts) path = []
event_inside (nested body exits own state values part) path = []
event_inside (ended own) path = []
event_inside (pool level container body active closed) path = []

-- what the first so many steps of a run by picks tell, where each move tells this
abbrev pub told : {P : Type 0} → (Term P → Path → List Event) → ℕ → (picks : List ℕ) → Machine P → List Event
told tells steps picks machine = flat_map (λ choice. tells choice.machine.term choice.place) (choices steps picks machine)

-- where no move is next nothing is told
pub told-none : {P : Type 0} (tells : Term P → Path → List Event) (k : ℕ) (picks : List ℕ) (m : Machine P) → next_moves m ≡ [] → told tells k picks m ≡ []
told-none tells zero picks m e = refl
told-none tells (suc k) picks m e = ap (λ l. flat_map (λ choice. tells choice.machine.term choice.place) (choices_by l picks m (choices k (drop 1 picks)))) e

-- else the picked move tells, and then the rest of the run
pub told-next : {P : Type 0} (tells : Term P → Path → List Event) (k : ℕ) (picks : List ℕ) (m x : Machine P) (p : Path) (ps : List Path) → next_moves m ≡ p ∷ ps → step (chosen picks p ps) m ≡ Done x →
    told tells (suc k) picks m ≡ tells m.term (chosen picks p ps) ++ told tells k (drop 1 picks) x
told-next tells k picks m x p ps e d =
    ap (λ l. flat_map (λ choice. tells choice.machine.term choice.place) (choices_by l picks m (choices k (drop 1 picks)))) e
    ∙ ap (λ o. tells m.term (chosen picks p ps) ++ flat_map (λ choice. tells choice.machine.term choice.place) (choices_on o (choices k (drop 1 picks)))) d
