-- The boards of states, one state after another.
use Rattle.std.proofs.Common.{◌≡◌, ℕ, suc, ◌+◌, ◌<◌, true, false, List, [], ◌∷◌, ◌++◌, length, map, drop, slice_index_or, arith, refl, ap, sym, ◌∙◌, add-one, drop-cons}
use Rattle.std.specs.Prelude.{◌==◌}
use Rattle.sd_graph.specs.ContainerParts.{Containers}
use Rattle.sd_graph.specs.PlainTree.{StateTrees, and_state}
use Rattle.sd_graph.specs.TreeFold.{item_trees, state_tree, state_trees, PlainState}
use Rattle.sd_graph.specs.declared.graph.Item.{Item}
use Rattle.sd_graph.specs.declared.graph.State.{State, out-State}
use Rattle.sd_graph.proofs.TreeLemmas.{state_opened}
use Rattle.sd_lower.specs.declared.board.BoardWork.{BoardWork}
use Rattle.sd_lower.specs.Boards.{Board, plain_board, board_of, boards_at, boards_from}

assoc : {A : Type 0} (xs ys zs : List A) → (xs ++ ys) ++ zs ≡ xs ++ (ys ++ zs)
assoc [] ys zs = refl
assoc (x ∷ xs) ys zs = ap (λ rest. x ∷ rest) (assoc xs ys zs)

plain-append : (xs ys : List BoardWork) → map plain_board (xs ++ ys) ≡ map plain_board xs ++ map plain_board ys
plain-append [] ys = refl
plain-append (x ∷ xs) ys = ap (λ rest. plain_board x ∷ rest) (plain-append xs ys)

pub plain-more : (before more after : List BoardWork) → after ≡ before ++ more → map plain_board after ≡ map plain_board before ++ map plain_board more
plain-more before more after is = ap (map plain_board) is ∙ plain-append before more

one-more : (n : ℕ) → n + 1 ≡ suc n
one-more n = grind arith

module _ (containers : Containers) (variables : List (List ℕ)) (all : StateTrees) (workers : ℕ) where
  pub no-board : (state : ℕ) (items : List Item) → length items ≡ 0 → boards_at containers variables all workers state (item_trees items) ≡ []
  no-board state [] none = refl
  no-board state (item ∷ items) none = cc

  pub one-board : (state : ℕ) (items : List Item) → (length items == 0) ≡ false →
      boards_at containers variables all workers state (item_trees items) ≡ board_of containers variables all workers state (item_trees items) ∷ []
  one-board state [] some = let wrong : true ≡ false = some in cc
  one-board state (item ∷ items) some = refl

  boards-behind : (states : List State) (i number : ℕ) (state : State) → i < length states → state ≡ slice_index_or states i state →
      boards_from containers variables all workers number (state_trees (drop i states))
      ≡ boards_at containers variables all workers number (item_trees (out-State state).items.items) ++ boards_from containers variables all workers (suc number) (state_trees (drop (i + 1) states))
  boards-behind states i number state below is =
      rw (add-one, drop-cons states i state below)
      (ap (λ (one : State). boards_from containers variables all workers number (and_state (state_tree one).0 (state_tree one).1 (state_trees (drop (suc i) states)))) (sym is)
      ∙ ap (λ (one : PlainState). boards_at containers variables all workers number one.0 ++ boards_from containers variables all workers (suc number) (state_trees (drop (suc i) states))) (state_opened state))

  pub boards-more : (states : List State) (i number later : ℕ) (state : State) (items : List Item) (before more after whole : List Board) →
      i < length states → state ≡ slice_index_or states i state → items ≡ (out-State state).items.items → later ≡ number + 1 →
      before ++ boards_from containers variables all workers number (state_trees (drop i states)) ≡ whole →
      more ≡ boards_at containers variables all workers number (item_trees items) → after ≡ before ++ more →
      after ++ boards_from containers variables all workers later (state_trees (drop (i + 1) states)) ≡ whole
  boards-more states i number later state items before more after whole below is items_is later_is so_far more_is after_is =
      let rest = boards_from containers variables all workers (suc number) (state_trees (drop (i + 1) states)) in
      let next : later ≡ suc number = later_is ∙ one-more number in
      (λ j. after_is j ++ boards_from containers variables all workers (next j) (state_trees (drop (i + 1) states)))
      ∙ ap (λ (boards : List Board). (before ++ boards) ++ rest) more_is
      ∙ assoc before (boards_at containers variables all workers number (item_trees items)) rest
      ∙ ap (λ (some : List Item). before ++ (boards_at containers variables all workers number (item_trees some) ++ rest)) items_is
      ∙ ap (λ (boards : List Board). before ++ boards) (sym (boards-behind states i number state below is))
      ∙ so_far
