-- How far the pieces of a board's work are.
use Rattle.std.specs.Prelude.{◌≡◌, ℕ, ◌+◌, ◌<◌, ◌≤◌, List, [], ◌∷◌, ◌++◌, length, Some, true, slice_get, slice_set, slice_index_or, replicate, false, if◌then◌else◌}
use Rattle.sd_pieces.specs.history.History.{is_in_history}
use Rattle.sd_order.specs.table.Told.{told}
use Rattle.sd_order.specs.declared.table.order.Order.{Order}
use Rattle.sd_board.specs.declared.mark.Mark.{Mark}
use Rattle.sd_board.specs.declared.mark.Mark.TheVariants.{ToBegin, InWork, Finished}
use Rattle.sd_board.specs.declared.progress.Asked.{Asked}
use Rattle.sd_board.specs.declared.progress.Asked.TheVariants.{Begin, Wait, Over}

-- the item of each piece, the order of the items, and how far each piece is
pub record Standing : Type 0 where
  pub items : List ℕ
  pub order : Order
  pub marks : List Mark

-- a piece is so far
abbrev pub Is : Standing → (number : ℕ) → Mark → Type 0
Is s number mark = slice_get s.marks number ≡ Some mark

-- each piece of the items before this one is finished
abbrev pub IsReady : Standing → (item : ℕ) → Type 0
IsReady s item = (number earlier : ℕ) → slice_get s.items number ≡ Some earlier → told s.order earlier item ≡ true → Is s number Finished

-- a piece may begin: it is to begin, and each piece of the items before its item is finished
pub record MayBegin (s : Standing) (number : ℕ) : Type 0 where
  pub item : ℕ
  pub is_of : slice_get s.items number ≡ Some item
  pub to_begin : Is s number ToBegin
  pub is_ready : IsReady s item

-- none may
abbrev pub NoneMayBegin : Standing → Type 0
NoneMayBegin s = (number : ℕ) → MayBegin s number → ⊥

-- it is the first one that may
pub record IsFirst (s : Standing) (number : ℕ) : Type 0 where
  pub may : MayBegin s number
  pub first : (earlier : ℕ) → earlier < number → MayBegin s earlier → ⊥

-- all are finished
abbrev pub AreAllFinished : List Mark → Type 0
AreAllFinished marks = (number : ℕ) → number < length marks → slice_get marks number ≡ Some Finished

-- with this mark for a piece
abbrev pub marked : (number : ℕ) → Mark → Standing → Standing
marked number mark s = record { items = s.items; order = s.order; marks = slice_set s.marks number mark }

-- how far the pieces are, and those that are finished in the order in which they were
pub record Progress : Type 0 where
  pub pieces : Standing
  pub history : List ℕ

-- as the code keeps it
abbrev pub standing_of : List ℕ → Order → List Mark → Standing
standing_of items order marks = record { items = items; order = order; marks = marks }

abbrev pub progress_of : List ℕ → Order → List Mark → (history : List ℕ) → Progress
progress_of items order marks history = record { pieces = standing_of items order marks; history = history }

-- nothing is begun
abbrev pub not_begun : (items : List ℕ) → Order → Progress
not_begun items order = progress_of items order (replicate (length items) ToBegin) []

-- a piece has another mark
abbrev pub turned : (number : ℕ) → Mark → Progress → Progress
turned number mark p = record { pieces = marked number mark p.pieces; history = p.history }

-- a piece is finished, and enters the history
abbrev pub with_finished : (number : ℕ) → Progress → Progress
with_finished number p = record { pieces = marked number Finished p.pieces; history = p.history ++ number ∷ [] }

-- what one who asks for work is told, and what comes of it: the first piece that may begin is in work then; or none may, and one is in work; or all are finished
abbrev pub IsTold : Progress → Asked → Progress → Type 0
IsTold p (Begin number) after = IsFirst p.pieces number × (after ≡ turned number InWork p)
IsTold p Wait after = NoneMayBegin p.pieces × ((number : ℕ) × Is p.pieces number InWork) × (after ≡ p)
IsTold p Over after = AreAllFinished p.pieces.marks × (after ≡ p)

-- as many as are marked as finished
abbrev pub one_if_finished : Mark → ℕ
one_if_finished ToBegin = 0
one_if_finished InWork = 0
one_if_finished Finished = 1

abbrev pub count_finished : List Mark → ℕ
count_finished [] = 0
count_finished (mark ∷ marks) = one_if_finished mark + count_finished marks

-- one piece that is not finished
abbrev pub one_if_left : Mark → ℕ
one_if_left ToBegin = 1
one_if_left InWork = 1
one_if_left Finished = 0

-- how many pieces of the items before this one are not finished
abbrev pub count_left : Order → (item : ℕ) → (items : List ℕ) → List Mark → ℕ
count_left order item [] marks = 0
count_left order item (earlier ∷ items) [] = 0
count_left order item (earlier ∷ items) (mark ∷ marks) = (if told order earlier item then one_if_left mark else 0) + count_left order item items marks

-- a table has as many for each item
abbrev pub AreCounted : Standing → (counts : List ℕ) → Type 0
AreCounted s counts = (item : ℕ) → slice_index_or counts item 0 ≡ count_left s.order item s.items s.marks

-- What holds of all progress, where the history has so much room and the ledger's book this total: each piece has a mark, those that are
-- finished are those of the history, and a piece that is in work was ready.
pub record IsKept (p : Progress) (room total : ℕ) : Type 0 where
  pub marked : length p.pieces.marks ≡ length p.pieces.items
  pub entered : (number : ℕ) → Is p.pieces number Finished → is_in_history number p.history ≡ true
  pub finished : (number : ℕ) → is_in_history number p.history ≡ true → Is p.pieces number Finished
  pub ready : (number item : ℕ) → Is p.pieces number InWork → slice_get p.pieces.items number ≡ Some item → IsReady p.pieces item
  pub counted : count_finished p.pieces.marks ≡ length p.history
  pub booked : total ≡ length p.history
  pub has_room : length p.pieces.items ≤ room

-- a piece may follow on the history: it is not in it, and each piece of the items before its item is; and no history is longer than there are pieces
pub record IsNext (p : Progress) (number : ℕ) : Type 0 where
  pub is_new : is_in_history number p.history ≡ false
  pub is_ready : (item other earlier : ℕ) → slice_get p.pieces.items number ≡ Some item → slice_get p.pieces.items other ≡ Some earlier → told p.pieces.order earlier item ≡ true → is_in_history other p.history ≡ true
  pub is_there : (item : ℕ) × (slice_get p.pieces.items number ≡ Some item)
  pub few : length p.history < length p.pieces.items

-- the history has each piece
abbrev pub HasEach : Progress → Type 0
HasEach p = (number : ℕ) → number < length p.pieces.items → is_in_history number p.history ≡ true
