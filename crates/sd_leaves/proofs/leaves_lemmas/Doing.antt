-- Things that are done one after another.
use Rattle.std.proofs.Common.{◌≡◌, ◌≤◌, ◌<◌, ◌+◌, ℕ, ℤ, List, [], ◌∷◌, ◌++◌, map, drop, get_or, length, Option, Some, None, refl, sym, ap, ◌∙◌, subst, arith}
use Rattle.std.proofs.Math.ListN.{drop_of_length-le}
use Rattle.sd_num.specs.declared.resolution.Resolution.{Resolution}
use Rattle.sd_work.specs.declared.fault.FaultKind.{FaultKind}
use Rattle.sd_work.specs.declared.fault.FaultKind.TheVariants.{Subscript}
use Rattle.sd_work.specs.Memory.{Memories, Reference, look}
use Rattle.sd_work.specs.Change.{write, push, apply}
use Rattle.sd_work.specs.Leaf.{Pending, write_value, transfer, push_to}
use Rattle.sd_work.specs.Step.{Done, Faulted, Spent}
use Rattle.sd_work.specs.BigStep.{Reached, Coming, and_then, reached, big_doing}
use Rattle.sd_graph.specs.declared.place.Place.{Place}
use Rattle.sd_leaves.specs.leaves.Done.{IsDone, performing}
use Rattle.sd_leaves.proofs.leaves_lemmas.Depths.{same_depth}
use Rattle.sd_leaves.proofs.leaves_lemmas.Lists.{from_here}

-- of things to do these are left now: what they come to, all of them come to
pub record IsLeft (all : List Pending) (before : Reached) (left : List Pending) (now : Reached) : Type 0 where
  pub comes : (place : Place) → big_doing place all before.memories before.turns ≡ big_doing place left now.memories now.turns
  pub depth : length now.memories ≡ length before.memories
  pub turns : now.turns ≤ before.turns

-- ---- one thing

came_to : (memories : Memories) (turns : ℕ) (after : Reached) → after.memories ≡ memories → after.turns ≡ turns → reached {P = Place} memories turns ≡ Some (Done after)
came_to memories turns after same kept = ap (λ memories. reached memories turns) (sym same) ∙ ap (λ turns. reached after.memories turns) (sym kept)

module _ (by : Option Resolution) (now : Reached) where
  pub write_outside : (value : ℤ) → IsDone (performing (write_value value None by ∷ [])) now (Some Subscript) now
  write_outside value = record { comes = λ place. refl; depth = refl; turns = omega arith }

  pub write_goes : (value : ℤ) (to : Reference) (after : Reached) → after.memories ≡ apply (write to by value) now.memories → after.turns ≡ now.turns →
      IsDone (performing (write_value value (Some to) by ∷ [])) now None after
  write_goes value to after same kept = record {
    comes = λ place. came_to (apply (write to by value) now.memories) now.turns after same kept;
    depth = ap length same ∙ same_depth (write to by value) now.memories;
    turns = omega arith;
  }

  pub transfer_outside : (to : Option Reference) → IsDone (performing (transfer None to by ∷ [])) now (Some Subscript) now
  transfer_outside to = record { comes = λ place. refl; depth = refl; turns = omega arith }

  pub transfer_goes : (from : Reference) (to : Option Reference) (fault : Option FaultKind) (after : Reached) →
      IsDone (performing (write_value (look from now.memories) to by ∷ [])) now fault after → IsDone (performing (transfer (Some from) to by ∷ [])) now fault after
  transfer_goes from to fault after done = record { comes = done.comes; depth = done.depth; turns = done.turns }

pub push_goes : (level container : ℕ) (value : ℤ) (now after : Reached) → after.memories ≡ apply (push level container value) now.memories → after.turns ≡ now.turns →
    IsDone (performing (push_to level container value ∷ [])) now None after
push_goes level container value now after same kept = record {
  comes = λ place. came_to (apply (push level container value) now.memories) now.turns after same kept;
  depth = ap length same ∙ same_depth (push level container value) now.memories;
  turns = omega arith;
}

-- nothing is to do
pub nothing_to_do : (now : Reached) → IsDone (performing []) now None now
nothing_to_do now = record { comes = λ place. refl; depth = refl; turns = omega arith }

-- ---- one after another

-- the first thing, and then the others
first_then : (place : Place) (first : Pending) (left : List Pending) (memories : Memories) (turns : ℕ) →
    big_doing place (first ∷ left) memories turns ≡ and_then (big_doing place (first ∷ []) memories turns) (big_doing place left)
first_then place (write_value value None by) left memories turns = refl
first_then place (write_value value (Some to) by) left memories turns = refl
first_then place (transfer None to by) left memories turns = refl
first_then place (transfer (Some from) None by) left memories turns = refl
first_then place (transfer (Some from) (Some to) by) left memories turns = refl
first_then place (push_to level container value) left memories turns = refl

module _ (all : List Pending) (before middle : Reached) where
  -- nothing was done yet
  pub none_done : IsLeft all before all before
  none_done = record { comes = λ place. refl; depth = refl; turns = omega arith }

  -- the first thing that was left is done
  pub one_done : (first : Pending) (left : List Pending) (now : Reached) → IsLeft all before (first ∷ left) middle →
      IsDone (performing (first ∷ [])) middle None now → IsLeft all before left now
  one_done first left now rest done = record {
    comes = λ place. rest.comes place ∙ first_then place first left middle.memories middle.turns ∙ ap (λ coming. and_then coming (big_doing place left)) (done.comes place);
    depth = done.depth ∙ rest.depth;
    turns = omega arith;
  }

  -- the first thing that was left comes to a fault
  pub one_fails : (first : Pending) (left : List Pending) (kind : FaultKind) (now : Reached) → IsLeft all before (first ∷ left) middle →
      IsDone (performing (first ∷ [])) middle (Some kind) now → IsDone (performing all) before (Some kind) now
  one_fails first left kind now rest done = record {
    comes = λ place. rest.comes place ∙ first_then place first left middle.memories middle.turns ∙ ap (λ coming. and_then coming (big_doing place left)) (done.comes place);
    depth = done.depth ∙ rest.depth;
    turns = omega arith;
  }

  -- nothing is left
  pub all_done : IsLeft all before [] middle → IsDone (performing all) before None middle
  all_done rest = record { comes = λ place. rest.comes place; depth = rest.depth; turns = rest.turns }

-- one thing for each of these, where the first comes to this fault or to none
module _ {A : Type 0} (thing : A → Pending) (all : List Pending) (before middle now : Reached) (left rest : List A) (member : A) (is : left ≡ member ∷ rest)
    (not_done : IsLeft all before (map thing left) middle) (fault : Option FaultKind) (first : IsDone (performing (thing member ∷ [])) middle fault now) where
  left_here : IsLeft all before (thing member ∷ map thing rest) middle
  left_here = subst (λ (left : List A). IsLeft all before (map thing left) middle) is not_done

  pub next_done : fault ≡ None → IsLeft all before (map thing rest) now
  next_done none = one_done all before middle (thing member) (map thing rest) now left_here (subst (λ (fault : Option FaultKind). IsDone (performing (thing member ∷ [])) middle fault now) none first)

  pub next_fails : (kind : FaultKind) → fault ≡ Some kind → IsDone (performing all) before (Some kind) now
  next_fails kind fails = one_fails all before middle (thing member) (map thing rest) kind now left_here (subst (λ (fault : Option FaultKind). IsDone (performing (thing member ∷ [])) middle fault now) fails first)

-- none of these is left
pub none_left : {A : Type 0} (thing : A → Pending) (all : List Pending) (before middle : Reached) (left : List A) → left ≡ [] →
    IsLeft all before (map thing left) middle → IsDone (performing all) before None middle
none_left {A = A} thing all before middle left is not_done = all_done all before middle (subst (λ (left : List A). IsLeft all before (map thing left) middle) is not_done)

-- the same from a member of a list on
module _ {A : Type 0} (thing : A → Pending) (members : List A) (before middle : Reached) where
  module _ (now : Reached) (number : ℕ) (member : A) (within : number < length members) (is : member ≡ get_or members number member)
      (left : IsLeft (map thing members) before (map thing (drop number members)) middle) (fault : Option FaultKind) (first : IsDone (performing (thing member ∷ [])) middle fault now) where
    pub member_done : fault ≡ None → IsLeft (map thing members) before (map thing (drop (number + 1) members)) now
    member_done none = next_done thing (map thing members) before middle now (drop number members) (drop (number + 1) members) member (from_here members number member within is) left fault first none

    pub member_fails : (kind : FaultKind) → fault ≡ Some kind → IsDone (performing (map thing members)) before (Some kind) now
    member_fails kind fails = next_fails thing (map thing members) before middle now (drop number members) (drop (number + 1) members) member (from_here members number member within is) left fault first kind fails

  pub members_done : (number : ℕ) → length members ≤ number → IsLeft (map thing members) before (map thing (drop number members)) middle →
      IsDone (performing (map thing members)) before None middle
  members_done number over left = none_left thing (map thing members) before middle (drop number members) (drop_of_length-le members over) left

-- what comes behind work, in another grouping
grouped : {P : Type 0} (coming : Coming P) (first left : Memories → (turns : ℕ) → Coming P) →
    and_then (and_then coming first) left ≡ and_then coming (λ memories turns. and_then (first memories turns) left)
grouped (Some (Done now)) first left = refl
grouped (Some (Faulted fault)) first left = refl
grouped (Some Spent) first left = refl
grouped None first left = refl

same_behind : {P : Type 0} (coming : Coming P) (rest other : Memories → (turns : ℕ) → Coming P) →
    ((memories : Memories) (turns : ℕ) → rest memories turns ≡ other memories turns) → and_then coming rest ≡ and_then coming other
same_behind (Some (Done now)) rest other same = same now.memories now.turns
same_behind (Some (Faulted fault)) rest other same = refl
same_behind (Some Spent) rest other same = refl
same_behind None rest other same = refl

-- these things, and then the others
appended : (place : Place) (first left : List Pending) (memories : Memories) (turns : ℕ) →
    big_doing place (first ++ left) memories turns ≡ and_then (big_doing place first memories turns) (big_doing place left)
appended place [] left memories turns = refl
appended place (next ∷ first) left memories turns =
    let begun : Coming Place = big_doing place (next ∷ []) memories turns in
    first_then place next (first ++ left) memories turns
    ∙ same_behind begun (big_doing place (first ++ left)) (λ memories turns. and_then (big_doing place first memories turns) (big_doing place left)) (appended place first left)
    ∙ sym (grouped begun (big_doing place first) (big_doing place left))
    ∙ ap (λ coming. and_then coming (big_doing place left)) (sym (first_then place next first memories turns))

module _ (first left : List Pending) (before middle : Reached) where
  -- the first things are done, and then the others come to this
  pub both_done : (fault : Option FaultKind) (now : Reached) → IsDone (performing first) before None middle → IsDone (performing left) middle fault now →
      IsDone (performing (first ++ left)) before fault now
  both_done fault now done rest = record {
    comes = λ place. appended place first left before.memories before.turns ∙ ap (λ coming. and_then coming (big_doing place left)) (done.comes place) ∙ rest.comes place;
    depth = rest.depth ∙ done.depth;
    turns = omega arith;
  }

  -- the first things come to a fault, so all do
  pub first_fails : (kind : FaultKind) → IsDone (performing first) before (Some kind) middle → IsDone (performing (first ++ left)) before (Some kind) middle
  first_fails kind failed = record {
    comes = λ place. appended place first left before.memories before.turns ∙ ap (λ coming. and_then coming (big_doing place left)) (failed.comes place);
    depth = failed.depth;
    turns = failed.turns;
  }
