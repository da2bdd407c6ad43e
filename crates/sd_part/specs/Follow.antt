-- Where a run of a graph goes on whose state is done, by the choice of the exit.
use Rattle.std.specs.Prelude.{ℕ, suc, Some, None, Ok, Err, Bool, true, false}
use Rattle.sd_work.specs.Exit.{Values}
use Rattle.sd_work.specs.Step.{spend}
use Rattle.sd_leaves.specs.transition.Onward.{Choice}
use Rattle.sd_part.specs.declared.kept.Kept.TheVariants.{Fault, Turns}
use Rattle.sd_part.specs.declared.transition.Followed.{Followed}
use Rattle.sd_part.specs.declared.transition.Followed.TheVariants.{To, End, Stopped}

-- the turns that a way out wants
abbrev pub turns_of : (marked : Bool) → ℕ
turns_of true = 1
turns_of false = 0

-- through a way out to a state, where a turn is left if one is wanted; else one turn more was wanted than there were
abbrev pub through : (marked : Bool) → (state turns : ℕ) → Followed
through marked state turns = spend (Stopped (Turns (suc turns))) marked turns (λ left. To state (turns_of marked))

-- the values of the variables then, which are new behind the way out
abbrev pub values_through : (marked : Bool) → (new : Values) → (turns : ℕ) → (old : Values) → Values
values_through marked new turns old = spend old marked turns (λ left. new)

-- where a run goes on by the choice of the exit
abbrev pub following : Choice → (turns : ℕ) → Followed
following (Err fault) turns = Stopped (Fault fault.place fault.kind)
following (Ok None) turns = End
following (Ok (Some exit)) turns = through exit.marked exit.state turns

-- the values of the variables then
abbrev pub values_following : Choice → (turns : ℕ) → (old : Values) → Values
values_following (Err fault) turns old = old
values_following (Ok None) turns old = old
values_following (Ok (Some exit)) turns old = values_through exit.marked exit.values turns old
