-- When two terms do the same, but for the fault in which they fail.
use Rattle.std.specs.Prelude.{◌≡◌, ℕ, ◌<◌, List, [], ◌∷◌, map, Option, Some, None, option_map, ⊤}
use Rattle.sd_range.specs.Affine.{variable_value}
use Rattle.sd_work.specs.Memory.{Memories}
use Rattle.sd_work.specs.Exit.{Values, Guard, Exit}
use Rattle.sd_work.specs.Residual.{Term, Terms}
use Rattle.sd_work.specs.Step.{Done, Faulted, Spent}
use Rattle.sd_work.specs.BigStep.{Reached, Coming, big_step, big_parts}
use Rattle.sd_alike.specs.alike.Lift.{Lift, memories_in, access_in}

-- the memories and turns where the work is done; nothing where it fails, wants a turn, or is not allowed to go on
abbrev pub done_of : {P : Type 0} → Coming P → Option Reached
done_of (Some (Done now)) = Some now
done_of (Some (Faulted fault)) = None
done_of (Some Spent) = None
done_of None = None

abbrev pub reached_in : Lift → Reached → Reached
reached_in lift now = record { memories = memories_in lift now.memories; turns = now.turns }

-- one comes to an end where the other does, and to the same one, but for the memory that is added
abbrev pub EndsSame : {P Q : Type 0} → Lift → Coming P → Coming Q → Type 0
EndsSame lift coming other = done_of other ≡ option_map (reached_in lift) (done_of coming)

-- from all memories and turns
abbrev pub GoesSame : {P Q : Type 0} → Lift → (Memories → ℕ → Coming P) → (Memories → ℕ → Coming Q) → Type 0
GoesSame lift go other = (memories : Memories) (turns : ℕ) → EndsSame lift (go memories turns) (other (memories_in lift memories) turns)

-- two terms do the same; where one is done, the other is, with the same memories and turns
abbrev pub DoesSame : {P Q : Type 0} → (most : ℕ) → Lift → Term P → Term Q → Type 0
DoesSame most lift term other = GoesSame lift (big_step term most) (big_step other most)

abbrev pub DoSame : {P Q : Type 0} → (most : ℕ) → Lift → Terms P → Terms Q → Type 0
DoSame most lift parts others = GoesSame lift (big_parts parts most) (big_parts others most)

-- the first so many variables have the same values
abbrev pub AgreeBelow : (count : ℕ) → Values → Values → Type 0
AgreeBelow count values other = (variable : ℕ) → variable < count → variable_value other variable ≡ variable_value values variable

-- conditions are of the same elements, and hold of the same values
abbrev pub AreGuardsSame : {P Q : Type 0} → Lift → Option (Guard P) → Option (Guard Q) → Type 0
AreGuardsSame lift None None = ⊤
AreGuardsSame lift None (Some other) = ⊥
AreGuardsSame lift (Some guard) None = ⊥
AreGuardsSame lift (Some guard) (Some other) = (other.reads ≡ map (access_in lift) guard.reads) × (other.holds ≡ guard.holds)

-- transitions have the same conditions, want the same turns, lead to the same state and set these variables to the same values
pub record IsExitSame {P Q : Type 0} (lift : Lift) (count : ℕ) (exit : Exit P) (other : Exit Q) : Type 0 where
  pub when : AreGuardsSame lift exit.when other.when
  pub marked : other.marked ≡ exit.marked
  pub state : other.state ≡ exit.state
  pub values : AgreeBelow count exit.values other.values

abbrev pub AreExitsSame : {P Q : Type 0} → Lift → (count : ℕ) → List (Exit P) → List (Exit Q) → Type 0
AreExitsSame lift count [] [] = ⊤
AreExitsSame lift count [] (other ∷ others) = ⊥
AreExitsSame lift count (exit ∷ exits) [] = ⊥
AreExitsSame lift count (exit ∷ exits) (other ∷ others) = IsExitSame lift count exit other × AreExitsSame lift count exits others
