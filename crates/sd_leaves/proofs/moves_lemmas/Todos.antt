-- Things to do, one after another.
use Rattle.std.proofs.Common.{◌≡◌, ℕ, ◌+◌, ◌<◌, ◌≤◌, leb, List, [], ◌∷◌, ◌++◌, length, map, drop, get_or, Bool, true, false, refl, sym, ap, ◌∙◌, subst, append_assoc, append-nil, drop_of_length-le, drop-cons, arith, pos}
use Rattle.std.proofs.lemmas.Bool.{leb-true, leb-false}
use Rattle.std.specs.List.{flat_map}
use Rattle.std.proofs.lemmas.List.{map-append}
use Rattle.sd_work.specs.Leaf.{Pending, Leaf, doing, is_done}
use Rattle.sd_work.specs.LeafMove.{do_move, leaf_move}
use Rattle.sd_work.specs.Move.{Move}
use Rattle.sd_work.specs.BigStep.{Reached}
use Rattle.sd_work.specs.declared.fault.FaultKind.{FaultKind}
use Rattle.sd_work.specs.declared.fault.FaultKind.TheVariants.{Subscript}
use Rattle.sd_graph.specs.declared.place.Place.{Place}
use Rattle.sd_mem.specs.declared.machine.end.End.TheVariants.{Finished, Fault}
use Rattle.sd_leaves.proofs.leaves_lemmas.Lists.{from_here}
use Rattle.sd_leaves.specs.moves.Moved.{IsMoved, end_if}
use Rattle.sd_leaves.proofs.moves_lemmas.Comings.{none-moved}
use Rattle.sd_leaves.specs.declared.moves.todo.Todo.{Todo}
use Rattle.sd_leaves.specs.declared.moves.todo.Todo.TheVariants.{Push}
use Rattle.sd_leaves.specs.moves.Left.{told, all_told}

module _ {A : Type 0} (thing : A → Pending) (all : List Pending) (todos : List Todo) where
  -- one more, and the others behind it
  pub one_more : (todo : Todo) (left rest : List A) (member : A) → left ≡ member ∷ rest → told todo ≡ thing member
      → all ≡ all_told todos ++ map thing left → all ≡ all_told (todos ++ todo ∷ []) ++ map thing rest
  one_more todo left rest member here same so_far =
      so_far ∙ ap (λ left. all_told todos ++ map thing left) here
      ∙ ap (λ first. all_told todos ++ first ∷ map thing rest) (sym same)
      ∙ sym (append_assoc (all_told todos) (told todo ∷ []) (map thing rest))
      ∙ ap (λ first. first ++ map thing rest) (sym (map-append told todos (todo ∷ [])))

  -- none is left
  pub no_more : (left : List A) → left ≡ [] → all ≡ all_told todos ++ map thing left → all_told todos ≡ all
  no_more left over so_far = sym (so_far ∙ ap (λ left. all_told todos ++ map thing left) over ∙ append-nil (all_told todos))

-- elements of one link more
pub cells-more : {A B C : Type 0} (f : B → C) (elements : A → List C) (left rest : List A) (first : A) (cells more : List B) (all : List C) → left ≡ first ∷ rest → map f more ≡ elements first
    → all ≡ map f cells ++ flat_map elements left → all ≡ map f (cells ++ more) ++ flat_map elements rest
cells-more f elements left rest first cells more all here same so_far =
    so_far ∙ ap (λ left. map f cells ++ flat_map elements left) here
    ∙ ap (λ part. map f cells ++ (part ++ flat_map elements rest)) (sym same)
    ∙ sym (append_assoc (map f cells) (map f more) (flat_map elements rest))
    ∙ ap (λ part. part ++ flat_map elements rest) (sym (map-append f cells more))

pub cells-over : {A B C : Type 0} (f : B → C) (elements : A → List C) (left : List A) (cells : List B) (all : List C) → left ≡ [] → all ≡ map f cells ++ flat_map elements left → map f cells ≡ all
cells-over f elements left cells all over so_far = sym (so_far ∙ ap (λ left. map f cells ++ flat_map elements left) over ∙ append-nil (map f cells))

-- ---- one of a list is done

a_todo : Todo
a_todo = Push (record { level = 0; container = 0 }) (pos 0)

done_by : (todos : List Todo) (done many : ℕ) (test : Bool) → many ≡ length todos → leb many done ≡ test → test ≡ is_done (doing (all_told (drop done todos)))
done_by todos done many true is h =
    let over : length todos ≤ done = omega (arith, is, leb-true many done h) in
    ap (λ (left : List Todo). is_done (doing (all_told left))) (sym (drop_of_length-le todos over))
done_by todos done many false is h =
    let within : done < length todos = omega (arith, is, leb-false many done h) in
    ap (λ (left : List Todo). is_done (doing (all_told left))) (sym (drop-cons todos done a_todo within))

pub done-is : (todos : List Todo) (done many : ℕ) → many ≡ length todos → leb many done ≡ is_done (doing (all_told (drop done todos)))
done-is todos done many is = done_by todos done many (leb many done) is refl

-- nothing is left
pub nothing-moved : (todos : List Todo) (done : ℕ) (place : Place) (now : Reached) → length todos ≤ done
    → IsMoved (leaf_move place (doing (all_told (drop done todos))) now.memories) (doing (all_told (drop done todos))) now Finished now (doing (all_told (drop done todos)))
nothing-moved todos done place now over =
    subst (λ (left : List Todo). IsMoved (leaf_move place (doing (all_told left)) now.memories) (doing (all_told left)) now Finished now (doing (all_told left)))
    (sym (drop_of_length-le todos over)) (none-moved (doing []) now)

-- the next thing to do
pub next-moved : (todos : List Todo) (done : ℕ) (todo : Todo) (now after : Reached) (inside : Bool) → done < length todos → todo ≡ get_or todos done todo
    → ((place : Place) (left : List Pending) (old : Leaf) → IsMoved (do_move place (told todo) now.memories left) old now (end_if inside place) after (doing left))
    → (place : Place) → IsMoved (leaf_move place (doing (all_told (drop done todos))) now.memories) (doing (all_told (drop done todos))) now (end_if inside place) after (doing (all_told (drop (done + 1) todos)))
next-moved todos done todo now after inside within is moves place =
    subst (λ (left : List Todo). IsMoved (leaf_move place (doing (all_told left)) now.memories) (doing (all_told (drop done todos))) now (end_if inside place) after (doing (all_told (drop (done + 1) todos))))
    (sym (from_here todos done todo within is)) (moves place (all_told (drop (done + 1) todos)) (doing (all_told (drop done todos))))

-- a fault leaves whatever there is
pub fault-any : {A : Type 0} (move : Move Place A) (old left other : A) (before after : Reached) (place : Place) (kind : FaultKind) → IsMoved move old before (Fault place kind) after left → IsMoved move old before (Fault place kind) after other
fault-any move old left other before after place kind moved = record { comes = moved.comes; depth = moved.depth }

module _ (todos : List Todo) (done : ℕ) (todo : Todo) (now after : Reached) (inside : Bool) (within : done < length todos) (is : todo ≡ get_or todos done todo)
    (moves : (place : Place) (left : List Pending) (old : Leaf) → IsMoved (do_move place (told todo) now.memories left) old now (end_if inside place) after (doing left)) where
  -- it is done
  pub next-done : inside ≡ true → (place : Place)
      → IsMoved (leaf_move place (doing (all_told (drop done todos))) now.memories) (doing (all_told (drop done todos))) now Finished after (doing (all_told (drop (done + 1) todos)))
  next-done stands place =
      subst (λ (inside : Bool). IsMoved (leaf_move place (doing (all_told (drop done todos))) now.memories) (doing (all_told (drop done todos))) now (end_if inside place) after (doing (all_told (drop (done + 1) todos))))
      stands (next-moved todos done todo now after inside within is moves place)

  -- an element is not inside
  pub next-fails : inside ≡ false → (place told_place : Place) → told_place ≡ place → (other : Leaf)
      → IsMoved (leaf_move place (doing (all_told (drop done todos))) now.memories) (doing (all_told (drop done todos))) now (Fault told_place Subscript) after other
  next-fails down place told_place same other =
      let move = leaf_move place (doing (all_told (drop done todos))) now.memories in
      let old = doing (all_told (drop done todos)) in
      let behind = doing (all_told (drop (done + 1) todos)) in
      subst (λ (told_place : Place). IsMoved move old now (Fault told_place Subscript) after other) (sym same)
      (fault-any move old behind other now after place Subscript
      (subst (λ (inside : Bool). IsMoved move old now (end_if inside place) after behind) down (next-moved todos done todo now after inside within is moves place)))
