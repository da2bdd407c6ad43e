-- Memories that differ in the order of streams alone.
use Rattle.std.specs.Prelude.{◌≡◌, ℕ, suc, ℤ, List, [], ◌∷◌, cond, ⊤}
use Rattle.std.specs.Ordering.{int_eq}
use Rattle.sd_work.specs.Memory.{Contents, array, stream, Memory, Memories}
use Rattle.sd_work.specs.Run.{Left}

-- how often a value stands in a list
abbrev pub how_often : List ℤ → (value : ℤ) → ℕ
how_often [] value = 0
how_often (first ∷ values) value = cond (int_eq first value) (suc (how_often values value)) (how_often values value)

-- each value stands in both lists equally often
abbrev pub HoldAlike : List ℤ → List ℤ → Type 0
HoldAlike values others = (value : ℤ) → how_often values value ≡ how_often others value

-- of one width, and equal arrays, or streams that hold each value equally often
abbrev pub AreContentsAlike : Contents → Contents → Type 0
AreContentsAlike (array width elements) (array other others) = (width ≡ other) × (elements ≡ others)
AreContentsAlike (stream width values) (stream other others) = (width ≡ other) × HoldAlike values others
AreContentsAlike (array width elements) (stream other others) = ⊥
AreContentsAlike (stream width values) (array other others) = ⊥

-- two memories with the same containers, each with contents alike
abbrev pub AreAlike : Memory → Memory → Type 0
AreAlike [] [] = ⊤
AreAlike [] (contents ∷ other) = ⊥
AreAlike (contents ∷ memory) [] = ⊥
AreAlike (contents ∷ memory) (others ∷ other) = AreContentsAlike contents others × AreAlike memory other

-- two runs leave the same: memories alike, and as many turns
pub record LeaveAlike (left other : Left) : Type 0 where
  pub memory : AreAlike left.memory other.memory
  pub turns : left.turns ≡ other.turns

-- two stacks of memories, each alike
abbrev pub AreStacksAlike : Memories → Memories → Type 0
AreStacksAlike [] [] = ⊤
AreStacksAlike [] (memory ∷ other) = ⊥
AreStacksAlike (memory ∷ memories) [] = ⊥
AreStacksAlike (memory ∷ memories) (other ∷ others) = AreAlike memory other × AreStacksAlike memories others
