-- Items and states one after another, with one of them replaced.
use Rattle.std.proofs.Common.{◌≡◌, ℕ, zero, suc, ◌+◌, ◌<◌, ◌≤◌, nat_eq, List, [], ◌∷◌, ◌++◌, drop, length, slice_index_or, Bool, true, false, if◌then◌else◌, refl, sym, ◌∙◌, ap, arith, add-one}
use Rattle.std.proofs.Math.Seq.{drop-nil}
use Rattle.sd_graph.specs.PlainTree.{KindTree, ItemTrees, no_item, and_item, StateTrees, no_state, and_state, ExitTree}
use Rattle.sd_graph.specs.TreeFold.{PlainState, item_tree, item_trees, state_tree, state_trees}
use Rattle.sd_graph.specs.declared.graph.Item.{Item}
use Rattle.sd_graph.specs.declared.graph.State.{State}
use Rattle.sd_alike.specs.alike.Places.{Replacing, items_then, kind_with, items_with, states_with}
use Rattle.sd_mapx.specs.Rebuilt.{item_with, item_at, items_from, state_at, states_from, states_then}

pub then_nothing : (items : ItemTrees) → items_then items no_item ≡ items
then_nothing no_item = refl
then_nothing (and_item line kind items) = ap (and_item line kind) (then_nothing items)

pub then_then : (first second third : ItemTrees) → items_then (items_then first second) third ≡ items_then first (items_then second third)
then_then no_item second third = refl
then_then (and_item line kind first) second third = ap (and_item line kind) (then_then first second third)

pub states_then_nothing : (states : StateTrees) → states_then states no_state ≡ states
states_then_nothing no_state = refl
states_then_nothing (and_state items exits states) = ap (and_state items exits) (states_then_nothing states)

pub states_then_then : (first second third : StateTrees) → states_then (states_then first second) third ≡ states_then first (states_then second third)
states_then_then no_state second third = refl
states_then_then (and_state items exits first) second third = ap (and_state items exits) (states_then_then first second third)

-- one more
pub item_pushed : (items : List Item) (item : Item) → item_trees (items ++ item ∷ []) ≡ items_then (item_trees items) (and_item (item_tree item).0 (item_tree item).1 no_item)
item_pushed [] item = refl
item_pushed (first ∷ items) item = ap (and_item (item_tree first).0 (item_tree first).1) (item_pushed items item)

pub state_pushed : (states : List State) (state : State) → state_trees (states ++ state ∷ []) ≡ states_then (state_trees states) (and_state (state_tree state).0 (state_tree state).1 no_state)
state_pushed [] state = refl
state_pushed (first ∷ states) state = ap (and_state (state_tree first).0 (state_tree first).1) (state_pushed states state)

pub next_of : {A : Type 0} (members : List A) (number : ℕ) (member : A) → number < length members → member ≡ slice_index_or members number member → drop number members ≡ member ∷ drop (suc number) members
next_of [] number member within is = absurd (omega (arith, within))
next_of (first ∷ members) zero member within is = ap (λ first. first ∷ members) (sym is)
next_of (first ∷ members) (suc number) member within is = next_of members number member (omega (arith, within)) is

module _ (replacing : Replacing) (names : List (List ℕ)) (variables : ℕ) where
  -- ---- one step

  pub item_next : (number : ℕ) (rest : List ℕ) (at next index : ℕ) (items : List Item) (item : Item) (new after all : ItemTrees) → index < length items → item ≡ slice_index_or items index item → next ≡ at + 1 →
      after ≡ items_then new (item_at replacing names variables (nat_eq at number) (item_tree item).0 (item_tree item).1 rest) →
      items_then new (items_from replacing names variables number rest at (item_trees (drop index items))) ≡ all →
      items_then after (items_from replacing names variables number rest next (item_trees (drop (index + 1) items))) ≡ all
  item_next number rest at next index items item new after all within is more put known =
      ap (λ after. items_then after (items_from replacing names variables number rest next (item_trees (drop (index + 1) items)))) put
      ∙ ap (λ next. items_then (items_then new (item_at replacing names variables (nat_eq at number) (item_tree item).0 (item_tree item).1 rest)) (items_from replacing names variables number rest next (item_trees (drop (index + 1) items)))) (more ∙ add-one at)
      ∙ ap (λ index. items_then (items_then new (item_at replacing names variables (nat_eq at number) (item_tree item).0 (item_tree item).1 rest)) (items_from replacing names variables number rest (suc at) (item_trees (drop index items)))) (add-one index)
      ∙ then_then new (item_at replacing names variables (nat_eq at number) (item_tree item).0 (item_tree item).1 rest) (items_from replacing names variables number rest (suc at) (item_trees (drop (suc index) items)))
      ∙ ap (λ left. items_then new (items_from replacing names variables number rest at (item_trees left))) (sym (next_of items index item within is))
      ∙ known

  pub state_next : (place : List ℕ) (at next index : ℕ) (states : List State) (state : State) (new after all : StateTrees) → index < length states → state ≡ slice_index_or states index state → next ≡ at + 1 →
      after ≡ states_then new (and_state (state_at replacing names variables at (state_tree state) place).0 (state_at replacing names variables at (state_tree state) place).1 no_state) →
      states_then new (states_from replacing names variables place at (state_trees (drop index states))) ≡ all →
      states_then after (states_from replacing names variables place next (state_trees (drop (index + 1) states))) ≡ all
  state_next place at next index states state new after all within is more put known =
      ap (λ after. states_then after (states_from replacing names variables place next (state_trees (drop (index + 1) states)))) put
      ∙ ap (λ next. states_then (states_then new (and_state (state_at replacing names variables at (state_tree state) place).0 (state_at replacing names variables at (state_tree state) place).1 no_state)) (states_from replacing names variables place next (state_trees (drop (index + 1) states)))) (more ∙ add-one at)
      ∙ ap (λ index. states_then (states_then new (and_state (state_at replacing names variables at (state_tree state) place).0 (state_at replacing names variables at (state_tree state) place).1 no_state)) (states_from replacing names variables place (suc at) (state_trees (drop index states)))) (add-one index)
      ∙ states_then_then new (and_state (state_at replacing names variables at (state_tree state) place).0 (state_at replacing names variables at (state_tree state) place).1 no_state) (states_from replacing names variables place (suc at) (state_trees (drop (suc index) states)))
      ∙ ap (λ left. states_then new (states_from replacing names variables place at (state_trees left))) (sym (next_of states index state within is))
      ∙ known

  -- ---- by numbers

  past_it : (number more : ℕ) → nat_eq (suc (number + more)) number ≡ false
  past_it number more = grind arith

  one_past : (number more : ℕ) → suc (suc (number + more)) ≡ suc (number + suc more)
  one_past number more = grind arith

  same_number : (number : ℕ) → nat_eq number number ≡ true
  same_number number = grind arith

  before_it : (at less : ℕ) → nat_eq at (at + suc less) ≡ false
  before_it at less = grind arith

  nothing_added : (number : ℕ) → number + 0 ≡ number
  nothing_added number = grind arith

  nothing_before : (number : ℕ) → 0 + number ≡ number
  nothing_before number = grind arith

  one_nearer : (at less : ℕ) → at + suc less ≡ suc at + less
  one_nearer at less = grind arith

  no_more : (number : ℕ) → suc number ≡ suc (number + 0)
  no_more number = grind arith

  -- those behind the one that is replaced stay
  items_stay : (number : ℕ) (rest : List ℕ) (more : ℕ) (items : ItemTrees) → items_from replacing names variables number rest (suc (number + more)) items ≡ items
  items_stay number rest more no_item = refl
  items_stay number rest more (and_item line kind items) =
      ap (λ meant. items_then (item_at replacing names variables meant line kind rest) (items_from replacing names variables number rest (suc (suc (number + more))) items)) (past_it number more)
      ∙ ap (and_item line kind) (ap (λ at. items_from replacing names variables number rest at items) (one_past number more) ∙ items_stay number rest (suc more) items)

  -- the one of this number is replaced
  at_it : (at : ℕ) (rest : List ℕ) (line : ℕ) (kind : KindTree) (items : ItemTrees) → items_from replacing names variables (at + 0) rest at (and_item line kind items) ≡ items_then (item_with replacing names variables line kind rest) items
  at_it at rest line kind items =
      ap (λ number. items_from replacing names variables number rest at (and_item line kind items)) (nothing_added at)
      ∙ ap (λ meant. items_then (item_at replacing names variables meant line kind rest) (items_from replacing names variables at rest (suc at) items)) (same_number at)
      ∙ ap (items_then (item_with replacing names variables line kind rest)) (ap (λ from. items_from replacing names variables at rest from items) (no_more at) ∙ items_stay at rest 0 items)

  -- from the items of a number on, the one that is so many further is replaced
  items_are : (at less : ℕ) (rest : List ℕ) (items : ItemTrees) → items_from replacing names variables (at + less) rest at items ≡ items_with replacing names variables items (less ∷ rest)
  items_are at less rest no_item = refl
  items_are at zero [] (and_item line kind items) = at_it at [] line kind items
  items_are at zero (next ∷ rest) (and_item line kind items) = at_it at (next ∷ rest) line kind items
  items_are at (suc less) rest (and_item line kind items) =
      ap (λ meant. items_then (item_at replacing names variables meant line kind rest) (items_from replacing names variables (at + suc less) rest (suc at) items)) (before_it at less)
      ∙ ap (and_item line kind) (ap (λ number. items_from replacing names variables number rest (suc at) items) (one_nearer at less) ∙ items_are (suc at) less rest items)

  pub items_from_first : (number : ℕ) (rest : List ℕ) (items : ItemTrees) → items_from replacing names variables number rest 0 items ≡ items_with replacing names variables items (number ∷ rest)
  items_from_first number rest items = ap (λ from. items_from replacing names variables from rest 0 items) (sym (nothing_before number)) ∙ items_are 0 number rest items

  -- ---- states

  abbrev state_by : (meant : Bool) → ItemTrees → List ExitTree → (rest : List ℕ) → PlainState
  state_by meant items exits rest = if meant then (items_with replacing names variables items rest, exits) else (items, exits)

  states_stay : (number : ℕ) (rest : List ℕ) (more : ℕ) (states : StateTrees) → states_from replacing names variables (number ∷ rest) (suc (number + more)) states ≡ states
  states_stay number rest more no_state = refl
  states_stay number rest more (and_state items exits states) =
      ap (λ (meant : Bool). and_state (state_by meant items exits rest).0 (state_by meant items exits rest).1 (states_from replacing names variables (number ∷ rest) (suc (suc (number + more))) states)) (past_it number more)
      ∙ ap (and_state items exits) (ap (λ at. states_from replacing names variables (number ∷ rest) at states) (one_past number more) ∙ states_stay number rest (suc more) states)

  states_are : (at less : ℕ) (rest : List ℕ) (states : StateTrees) → states_from replacing names variables ((at + less) ∷ rest) at states ≡ states_with replacing names variables states (less ∷ rest)
  states_are at less rest no_state = refl
  states_are at zero rest (and_state items exits states) =
      ap (λ number. states_from replacing names variables (number ∷ rest) at (and_state items exits states)) (nothing_added at)
      ∙ ap (λ (meant : Bool). and_state (state_by meant items exits rest).0 (state_by meant items exits rest).1 (states_from replacing names variables (at ∷ rest) (suc at) states)) (same_number at)
      ∙ ap (and_state (items_with replacing names variables items rest) exits) (ap (λ from. states_from replacing names variables (at ∷ rest) from states) (no_more at) ∙ states_stay at rest 0 states)
  states_are at (suc less) rest (and_state items exits states) =
      ap (λ (meant : Bool). and_state (state_by meant items exits rest).0 (state_by meant items exits rest).1 (states_from replacing names variables ((at + suc less) ∷ rest) (suc at) states)) (before_it at less)
      ∙ ap (and_state items exits) (ap (λ number. states_from replacing names variables (number ∷ rest) (suc at) states) (one_nearer at less) ∙ states_are (suc at) less rest states)

  unchanged : (at : ℕ) (states : StateTrees) → states_from replacing names variables [] at states ≡ states
  unchanged at no_state = refl
  unchanged at (and_state items exits states) = ap (and_state items exits) (unchanged (suc at) states)

  without_path : (states : StateTrees) → states_with replacing names variables states [] ≡ states
  without_path no_state = refl
  without_path (and_state items exits states) = refl

  pub states_from_first : (place : List ℕ) (states : StateTrees) → states_from replacing names variables place 0 states ≡ states_with replacing names variables states place
  states_from_first [] states = unchanged 0 states ∙ sym (without_path states)
  states_from_first (number ∷ rest) states = ap (λ from. states_from replacing names variables (from ∷ rest) 0 states) (sym (nothing_before number)) ∙ states_are 0 number rest states

  pub items_without : (items : ItemTrees) → items_with replacing names variables items [] ≡ items
  items_without no_item = refl
  items_without (and_item line kind items) = refl

-- ---- ends and tests

pub no_member : {A : Type 0} (members : List A) → length members ≡ 0 → members ≡ []
no_member [] none = refl
no_member (member ∷ members) none = absurd (omega (arith, none))

pub left_after : {A : Type 0} (members : List A) (index : ℕ) → length members ≤ index → drop index members ≡ []
left_after [] index past = drop-nil index
left_after (first ∷ members) zero past = absurd (omega (arith, past))
left_after (first ∷ members) (suc index) past = left_after members index (omega (arith, past))

pub with_rest : (replacing : Replacing) (names : List (List ℕ)) (variables line : ℕ) (kind : KindTree) (rest : List ℕ) (first : ℕ) (others : List ℕ) → rest ≡ first ∷ others →
    item_with replacing names variables line kind rest ≡ and_item line (kind_with replacing names variables kind rest) no_item
with_rest replacing names variables line kind rest first others is =
    ap (item_with replacing names variables line kind) is ∙ sym (ap (λ rest. and_item line (kind_with replacing names variables kind rest) no_item) is)
