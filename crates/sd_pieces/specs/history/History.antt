-- Pieces of a state's items that were done one whole piece after another.
use Rattle.std.specs.Prelude.{◌≡◌, ℕ, ◌+◌, ◌==◌, List, [], ◌∷◌, ◌++◌, Some, Bool, true, false, ◌||◌, slice_get}
use Rattle.sd_work.specs.Memory.{Memories}
use Rattle.sd_work.specs.BigStep.{reached, big_step}
use Rattle.sd_pieces.specs.history.Pieces.{Piece, Work}

-- a number stands in a list
abbrev pub is_in_history : ℕ → List ℕ → Bool
is_in_history number [] = false
is_in_history number (other ∷ others) = (other == number) || is_in_history number others

-- a piece may follow on a history: it is not in it, and all pieces of the items before its item are
pub record MayFollow {P : Type 0} (work : Work P) (history : List ℕ) (number : ℕ) (piece : Piece P) : Type 0 where
  pub is_piece : slice_get work.pieces number ≡ Some piece
  pub is_new : is_in_history number history ≡ false
  pub is_ready : (other : ℕ) (earlier : Piece P) → slice_get work.pieces other ≡ Some earlier → work.before earlier.item piece.item ≡ true → is_in_history other history ≡ true

-- The memories after such pieces and their turns: those of the pieces' work from left to right, one whole piece after another, each
-- without a fault and with just the turns that it wants. Each run of a graph makes at most so many transitions, and each pool so many takes.
pub data History {P : Type 0} (work : Work P) (most : ℕ) (opening : Memories) : (history : List ℕ) → Memories → (turns : ℕ) → Type 0 where
  nothing_done : History work most opening [] opening 0
  and_piece : {history : List ℕ} {memories : Memories} {turns : ℕ} → (number : ℕ) (piece : Piece P) (spent : ℕ) (after : Memories)
      → History work most opening history memories turns → MayFollow work history number piece
      → big_step piece.term most memories spent ≡ reached after 0
      → History work most opening (history ++ number ∷ []) after (turns + spent)

-- a history that has all pieces
abbrev pub HasAll : {P : Type 0} → Work P → List ℕ → Type 0
HasAll {P} work history = (number : ℕ) (piece : Piece P) → slice_get work.pieces number ≡ Some piece → is_in_history number history ≡ true
