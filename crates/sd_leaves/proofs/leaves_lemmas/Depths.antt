-- A change leaves as many memories as there were.
use Rattle.std.proofs.Common.{◌≡◌, ℕ, zero, suc, List, [], ◌∷◌, length, refl, ap}
use Rattle.sd_work.specs.Memory.{Memories}
use Rattle.sd_work.specs.Change.{Change, nothing, write, push, take, apply, changed_at}

changed_length : {A : Type 0} (number : ℕ) (change : A → A) (members : List A) → length (changed_at number change members) ≡ length members
changed_length zero change [] = refl
changed_length (suc number) change [] = refl
changed_length zero change (member ∷ members) = refl
changed_length (suc number) change (member ∷ members) = ap suc (changed_length number change members)

pub same_depth : (change : Change) (memories : Memories) → length (apply change memories) ≡ length memories
same_depth nothing memories = refl
same_depth (write to by value) memories = changed_length to.level _ memories
same_depth (push level container value) memories = changed_length level _ memories
same_depth (take level container position) memories = changed_length level _ memories
