-- A leaf does the same in a lifted stack.
use Rattle.std.proofs.Common.{◌≡◌, ℕ, zero, suc, ℤ, List, [], ◌∷◌, ◌++◌, map, drop, Option, Some, None, option_map, Result, Ok, Err, Bool, true, false, not, refl, sym, ◌∙◌, ap, subst}
use Rattle.sd_num.specs.declared.resolution.Resolution.{Resolution}
use Rattle.sd_work.specs.declared.fault.FaultKind.{FaultKind}
use Rattle.sd_work.specs.Memory.{Memories, Reference, seen}
use Rattle.sd_work.specs.Change.{Change, write, push, apply}
use Rattle.sd_work.specs.Leaf.{Pending, write_value, transfer, push_to, Evaluation, Leaf, reading, doing}
use Rattle.sd_work.specs.LeafMove.{write_move}
use Rattle.sd_work.specs.Step.{Done, Faulted, Spent}
use Rattle.sd_work.specs.BigStep.{Reached, Coming, reached, and_then, spending, after_move, after_read, big_doing, big_evaluated, big_reading, big_leaf, leaving}
use Rattle.sd_alike.specs.alike.Lift.{Lift, inside, memories_in, access_in, change_in, pending_in, evaluated_in, leaf_in}
use Rattle.sd_alike.specs.alike.SameWork.{done_of, reached_in, EndsSame, GoesSame}
use Rattle.sd_alike.proofs.alike_lemmas.LiftLaws.{seen_in, apply_in, left_in}

-- where work is done and then the rest is
abbrev pub then_done : {P : Type 0} → Option Reached → (Memories → ℕ → Coming P) → Option Reached
then_done None rest = None
then_done (Some now) rest = done_of (rest now.memories now.turns)

pub done_then : {P : Type 0} (coming : Coming P) (rest : Memories → ℕ → Coming P) → done_of (and_then coming rest) ≡ then_done (done_of coming) rest
done_then (Some (Done now)) rest = refl
done_then (Some (Faulted fault)) rest = refl
done_then (Some Spent) rest = refl
done_then None rest = refl

same_then : {P Q : Type 0} (lift first : Lift) (done : Option Reached) (rest : Memories → ℕ → Coming P) (others : Memories → ℕ → Coming Q) →
    ((memories : Memories) (turns : ℕ) → EndsSame lift (rest memories turns) (others (memories_in first memories) turns)) →
    then_done (option_map (reached_in first) done) others ≡ option_map (reached_in lift) (then_done done rest)
same_then lift first None rest others h = refl
same_then lift first (Some now) rest others h = h now.memories now.turns

-- work and then the rest, where both are the same; the rest may be lifted in another way
pub ends_then_from : {P Q : Type 0} (lift first : Lift) (coming : Coming P) (other : Coming Q) (rest : Memories → ℕ → Coming P) (others : Memories → ℕ → Coming Q) →
    EndsSame first coming other → ((memories : Memories) (turns : ℕ) → EndsSame lift (rest memories turns) (others (memories_in first memories) turns)) →
    EndsSame lift (and_then coming rest) (and_then other others)
ends_then_from lift first coming other rest others same h =
    done_then other others ∙ ap (λ done. then_done done others) same ∙ same_then lift first (done_of coming) rest others h ∙ ap (option_map (reached_in lift)) (sym (done_then coming rest))

pub ends_then : {P Q : Type 0} (lift : Lift) (coming : Coming P) (other : Coming Q) (rest : Memories → ℕ → Coming P) (others : Memories → ℕ → Coming Q) →
    EndsSame lift coming other → GoesSame lift rest others → EndsSame lift (and_then coming rest) (and_then other others)
ends_then lift coming other rest others same h = ends_then_from lift lift coming other rest others same h

-- work inside an owner
pub leaving_same : {P Q : Type 0} (lift : Lift) (coming : Coming P) (other : Coming Q) → EndsSame (inside lift) coming other → EndsSame lift (leaving coming) (leaving other)
leaving_same lift coming other same =
    ends_then_from lift (inside lift) coming other (λ memories turns. reached (drop 1 memories) turns) (λ memories turns. reached (drop 1 memories) turns) same
    (λ memories turns. ap (λ memories. Some (record { memories = memories; turns = turns })) (left_in lift memories))

pub spending_same : {P Q : Type 0} (lift : Lift) (turn : Bool) (turns : ℕ) (rest : ℕ → Coming P) (others : ℕ → Coming Q) →
    ((turns : ℕ) → EndsSame lift (rest turns) (others turns)) → EndsSame lift (spending turn turns rest) (spending turn turns others)
spending_same lift true zero rest others h = refl
spending_same lift true (suc turns) rest others h = h turns
spending_same lift false turns rest others h = h turns

pub after_change : {P Q : Type 0} (lift : Lift) (go : Memories → ℕ → Coming P) (other : Memories → ℕ → Coming Q) → GoesSame lift go other →
    (change : Change) (memories : Memories) (turns : ℕ) → EndsSame lift (go (apply change memories) turns) (other (apply (change_in lift change) (memories_in lift memories)) turns)
after_change lift go other same change memories turns =
    subst (λ changed. EndsSame lift (go (apply change memories) turns) (other changed turns)) (sym (apply_in lift change memories)) (same (apply change memories) turns)

write_same : {P Q : Type 0} (lift : Lift) (place : P) (place' : Q) (value : Option ℤ) (to : Option Reference) (by : Option Resolution) (left left' : List Pending)
    (go : Memories → ℕ → Coming P) (other : Memories → ℕ → Coming Q) → GoesSame lift go other → (memories : Memories) (turns : ℕ) →
    EndsSame lift (after_move (write_move place value to by left) memories turns go) (after_move (write_move place' value (access_in lift to) by left') (memories_in lift memories) turns other)
write_same lift place place' None to by left left' go other same memories turns = refl
write_same lift place place' (Some value) None by left left' go other same memories turns = refl
write_same lift place place' (Some value) (Some to) by left left' go other same memories turns = after_change lift go other same (write to by value) memories turns

pub doing_same : {P Q : Type 0} (lift : Lift) (place : P) (place' : Q) (left : List Pending) → GoesSame lift (big_doing place left) (big_doing place' (map (pending_in lift) left))
doing_same lift place place' [] memories turns = refl
doing_same lift place place' (write_value value to by ∷ left) memories turns =
    write_same lift place place' (Some value) to by left (map (pending_in lift) left) (big_doing place left) (big_doing place' (map (pending_in lift) left)) (doing_same lift place place' left) memories turns
doing_same lift place place' (transfer from to by ∷ left) memories turns =
    subst (λ value. EndsSame lift (big_doing place (transfer from to by ∷ left) memories turns)
    (after_move (write_move place' value (access_in lift to) by (map (pending_in lift) left)) (memories_in lift memories) turns (big_doing place' (map (pending_in lift) left))))
    (sym (seen_in lift from memories))
    (write_same lift place place' (seen from memories) to by left (map (pending_in lift) left) (big_doing place left) (big_doing place' (map (pending_in lift) left)) (doing_same lift place place' left) memories turns)
doing_same lift place place' (push_to level container value ∷ left) memories turns =
    after_change lift (big_doing place left) (big_doing place' (map (pending_in lift) left)) (doing_same lift place place' left) (push level container value) memories turns

evaluated_same : {P Q : Type 0} (lift : Lift) (place : P) (place' : Q) (turn : Bool) (evaluated : Result (List Pending) FaultKind) →
    GoesSame lift (big_evaluated place turn evaluated) (big_evaluated place' turn (evaluated_in lift evaluated))
evaluated_same lift place place' turn (Err kind) memories turns = spending_same lift turn turns _ _ (λ turns. refl)
evaluated_same lift place place' turn (Ok effects) memories turns = spending_same lift turn turns _ _ (λ turns. doing_same lift place place' effects memories turns)

read_same : {P Q : Type 0} (lift : Lift) (place : P) (place' : Q) (turn : Bool) (value : Option ℤ) (turns : ℕ) (rest : ℤ → ℕ → Coming P) (others : ℤ → ℕ → Coming Q) →
    ((value : ℤ) (turns : ℕ) → EndsSame lift (rest value turns) (others value turns)) → EndsSame lift (after_read place turn value turns rest) (after_read place' turn value turns others)
read_same lift place place' turn None turns rest others h = spending_same lift turn turns _ _ (λ turns. refl)
read_same lift place place' turn (Some value) turns rest others h = spending_same lift turn turns _ _ (h value)

reading_same : {P Q : Type 0} (lift : Lift) (place : P) (place' : Q) (turn : Bool) (left : List (Option Reference)) (values : List ℤ) (evaluation : Evaluation) →
    GoesSame lift (big_reading place turn left values evaluation) (big_reading place' turn (map (access_in lift) left) values (λ read. evaluated_in lift (evaluation read)))
reading_same lift place place' turn [] values evaluation memories turns = evaluated_same lift place place' turn (evaluation values) memories turns
reading_same lift place place' turn (next ∷ left) values evaluation memories turns =
    subst (λ value. EndsSame lift (big_reading place turn (next ∷ left) values evaluation memories turns)
    (after_read place' turn value turns (λ value. big_reading place' false (map (access_in lift) left) (values ++ value ∷ []) (λ read. evaluated_in lift (evaluation read)) (memories_in lift memories))))
    (sym (seen_in lift next memories))
    (read_same lift place place' turn (seen next memories) turns _ _ (λ value turns. reading_same lift place place' false left (values ++ value ∷ []) evaluation memories turns))

pub leaf_same : {P Q : Type 0} (lift : Lift) (place : P) (place' : Q) (work : Leaf) → GoesSame lift (big_leaf place work) (big_leaf place' (leaf_in lift work))
leaf_same lift place place' (reading begun left values evaluation) memories turns = reading_same lift place place' (not begun) left values evaluation memories turns
leaf_same lift place place' (doing left) memories turns = doing_same lift place place' left memories turns
