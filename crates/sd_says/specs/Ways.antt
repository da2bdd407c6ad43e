-- Points one after another, streams, branches and loops.
use Rattle.std.specs.Prelude.{ℕ, zero, suc, ℤ, ◌+ℤ◌, List, [], ◌∷◌, drop, None, if◌then◌else◌}
use Rattle.sd_lex.specs.PlainTree.{Expression}
use Rattle.sd_work.specs.Memory.{waiting}
use Rattle.sd_work.specs.Change.{with_values, with_contents}
use Rattle.sd_work.specs.BigStep.{reached}
use Rattle.sd_graph.specs.TaskletMeaning.{holds}
use Rattle.sd_says.specs.Setting.{Setting, place_at}
use Rattle.sd_says.specs.Work.{Doing, followed_by, at_place, spending_one}
use Rattle.sd_says.specs.Elements.{value_read}

-- what is done for each point in turn
abbrev pub one_by_one : (List ℤ → Doing) → List (List ℤ) → Doing
one_by_one work [] = reached
one_by_one work (point ∷ points) = followed_by (work point) (one_by_one work points)

-- what is done for the oldest of these values, if there is one
abbrev pub for_oldest : List ℤ → (ℤ → Doing) → Doing
for_oldest [] work = reached
for_oldest (value ∷ values) work = work value

module _ (level container : ℕ) (work : ℤ → Doing) where
  -- what is done for each value of a stream, the oldest first, until it is empty, with at most so many takes
  abbrev pub takes : (most : ℕ) → Doing
  takes zero memories turns = None
  takes (suc most) memories turns =
      for_oldest (waiting level container memories)
      (λ value memories. followed_by (work value) (takes most) (with_contents level container (with_values (λ width. drop 1)) memories)) memories turns

-- the one where the condition on a line holds, and else the other; or the condition's fault
abbrev pub if_holds : Setting → (line : ℕ) → (when : Expression) → (this other : Doing) → Doing
if_holds setting line when this other memories turns =
    at_place (place_at setting line) (value_read setting memories when) (λ value. (if holds value then this else other) memories turns)

-- where a loop stands in the round of a value; its line and condition; its block
module _ (at : ℤ → Setting) (line : ℕ) (when : Expression) (block : Setting → Doing) (step : ℤ) where
  -- the block as long as the condition holds, with a turn after each round, and then a step on; with at most so many tests
  abbrev pub rounds : (most : ℕ) → (value : ℤ) → Doing
  rounds zero value memories turns = None
  rounds (suc most) value memories turns =
      if_holds (at value) line when
      (followed_by (block (at value)) (λ memories turns. spending_one turns (rounds most (value +ℤ step) memories))) reached memories turns
