-- Items of a state cut into pieces, and the graph whose items are the pieces.
use Rattle.std.specs.Prelude.{◌≡◌, ℕ, suc, List, [], ◌∷◌, ◌++◌, Option, Some, None, Bool, false, slice_get}
use Rattle.sd_work.specs.Memory.{Memory}
use Rattle.sd_work.specs.Residual.{Items, Points, Term, begun, list, Terms, none, also}

-- a piece: the number of its item, and its work, which is that of the item, or of some of its points that stand beside each other
pub record Piece (P : Type 0) : Type 0 where
  pub item : ℕ
  pub term : Term P

-- the pieces of the items, in order, and which items are before which
pub record Work (P : Type 0) : Type 0 where
  pub pieces : List (Piece P)
  pub before : ℕ → ℕ → Bool

-- ---- parts one after another

-- parts, and then others
abbrev pub and_parts : {P : Type 0} → Terms P → Terms P → Terms P
and_parts none others = others
and_parts (also part parts) others = also part (and_parts parts others)

-- runs of parts, one after another
abbrev pub all_parts : {P : Type 0} → List (Terms P) → Terms P
all_parts [] = none
all_parts (parts ∷ others) = and_parts parts (all_parts others)

-- ---- cutting

-- a piece for each run of points of one map
abbrev pub map_pieces : {P : Type 0} → (item : ℕ) → (ℕ → ℕ → Bool) → List (Terms P) → List (Piece P)
map_pieces item before [] = []
map_pieces item before (points ∷ others) = record { item = item; term = list Points before points } ∷ map_pieces item before others

-- pieces of items, which are numbered from this one on, in order: an item is one piece, or a map whose points are in any order has a piece for each of some runs of points that make up its points
pub data IsCut {P : Type 0} : (item : ℕ) → Terms P → List (Piece P) → Type 0 where
  no_items : {item : ℕ} → IsCut item none []
  as_it_is : {item : ℕ} {items : Terms P} {pieces : List (Piece P)} → (term : Term P) → IsCut (suc item) items pieces
      → IsCut item (also term items) (record { item = item; term = term } ∷ pieces)
  in_pieces : {item : ℕ} {items : Terms P} {pieces : List (Piece P)} → (before : ℕ → ℕ → Bool) (runs : List (Terms P))
      → ((from to : ℕ) → before from to ≡ false) → IsCut (suc item) items pieces
      → IsCut item (also (list Points before (all_parts runs)) items) (map_pieces item before runs ++ pieces)

-- ---- graphs

-- a graph of one state with these items, over this memory
abbrev pub graph_of_items : {P : Type 0} → (ℕ → ℕ → Bool) → Terms P → Memory → Term P
graph_of_items before items own = begun (λ state values. list Items before items) (λ state values. []) own []

-- the work of pieces, one after another
abbrev pub terms_of : {P : Type 0} → List (Piece P) → Terms P
terms_of [] = none
terms_of (piece ∷ pieces) = also piece.term (terms_of pieces)

-- the item of one piece is before that of another, where both are there
abbrev pub before_if : {P : Type 0} → (ℕ → ℕ → Bool) → Option (Piece P) → Option (Piece P) → Bool
before_if before None other = false
before_if before (Some piece) None = false
before_if before (Some piece) (Some other) = before piece.item other.item

-- the order of the pieces by their numbers is that of their items
abbrev pub piece_before : {P : Type 0} → Work P → ℕ → ℕ → Bool
piece_before work number other = before_if work.before (slice_get work.pieces number) (slice_get work.pieces other)

-- a graph of one state, which has these pieces for its items, over this memory
abbrev pub graph_of_pieces : {P : Type 0} → Work P → Memory → Term P
graph_of_pieces work own = graph_of_items (piece_before work) (terms_of work.pieces) own
