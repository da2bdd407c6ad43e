-- What counts of parts tell.
use Rattle.std.specs.Prelude.{ℕ, suc, nat_eq, nat_lt, List, [], ◌∷◌, map, Bool, true, false, cond, not, ◌&&◌}
use Rattle.std.specs.List.{sum}
use Rattle.sd_work.specs.Residual.{is_ready}
use Rattle.sd_moves.specs.numbered.Counts.{one_if}

-- whether something is left, how many moves come next, how many open consume scopes are in it, and whether each count in it is right
pub record Telling : Type 0 where
  pub is_unfinished : Bool
  pub moves : ℕ
  pub pools : ℕ
  pub is_right : Bool

-- what points or elements tell together, and how many moves of the first of them come next of which something is left
pub record BodiesTelling : Type 0 where
  pub together : Telling
  pub first : ℕ

abbrev pub moves_told : List Telling → List ℕ
moves_told parts = map (λ part. part.moves) parts

abbrev pub unfinished_told : List Telling → List ℕ
unfinished_told parts = map (λ part. one_if part.is_unfinished) parts

abbrev pub pools_told : List Telling → List ℕ
pools_told parts = map (λ part. part.pools) parts

abbrev pub flags_told : List Telling → List Bool
flags_told parts = map (λ part. not part.is_unfinished) parts

-- the moves of each part that may go on, and none of another, from the part of this number on
abbrev pub ready_moves : (before : ℕ → ℕ → Bool) → (flags : List Bool) → (number : ℕ) → List Telling → List ℕ
ready_moves before flags number [] = []
ready_moves before flags number (part ∷ parts) = cond (is_ready before flags number) part.moves 0 ∷ ready_moves before flags (suc number) parts

abbrev pub all_right : List Telling → Bool
all_right [] = true
all_right (part ∷ parts) = part.is_right && all_right parts

abbrev pub same_counts : List ℕ → List ℕ → Bool
same_counts [] [] = true
same_counts [] (other ∷ others) = false
same_counts (count ∷ counts) [] = false
same_counts (count ∷ counts) (other ∷ others) = nat_eq count other && same_counts counts others

-- parts with these counts of moves, of what is unfinished and of open consume scopes, where they should be these
abbrev pub counts_tell : (moves unfinished pools : List ℕ) → (moves_wanted unfinished_wanted pools_wanted : List ℕ) → (parts_right : Bool) → Telling
counts_tell moves unfinished pools moves_wanted unfinished_wanted pools_wanted parts_right = record {
  is_unfinished = nat_lt 0 (sum unfinished);
  moves = sum moves;
  pools = sum pools;
  is_right = same_counts moves moves_wanted && (same_counts unfinished unfinished_wanted && (same_counts pools pools_wanted && parts_right));
}

-- of parts with these counts of moves and of what is unfinished, how many moves of the first come next of which something is left; 0 where nothing is left
abbrev pub count_of_first : (moves unfinished : List ℕ) → ℕ
count_of_first [] unfinished = 0
count_of_first (count ∷ moves) [] = 0
count_of_first (count ∷ moves) (left ∷ unfinished) = cond (nat_eq left 0) (count_of_first moves unfinished) count

-- the points of a map: of those that come one after another, only the first moves of which something is left
abbrev pub map_tells : (sequential : Bool) → BodiesTelling → Telling
map_tells sequential points = record {
  is_unfinished = points.together.is_unfinished;
  moves = cond sequential points.first points.together.moves;
  pools = points.together.pools;
  is_right = points.together.is_right;
}

-- a leaf has one move until it is done
abbrev pub leaf_tells : (done : Bool) → Telling
leaf_tells done = record { is_unfinished = not done; moves = one_if (not done); pools = 0; is_right = true }
