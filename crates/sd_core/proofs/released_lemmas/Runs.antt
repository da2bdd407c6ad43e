-- A run does not look at what was let go.
use Rattle.std.proofs.Common.{◌≡◌, ℕ, zero, suc, ◌<◌, List, [], ◌∷◌, length, drop, map, Option, Some, Bool, true, false, slice_index_or, refl, sym, ap, ap₂, ◌∙◌, subst, arith}
use Rattle.std.proofs.lemmas.Nat.{mod_below}
use Rattle.sd_work.specs.Memory.{Memory}
use Rattle.sd_work.specs.Move.{Move, fails, goes, no_move}
use Rattle.sd_work.specs.Residual.{Term}
use Rattle.sd_work.specs.Moves.{Path}
use Rattle.sd_work.specs.Fire.{fire}
use Rattle.sd_work.specs.Settle.{settled}
use Rattle.sd_work.specs.Step.{Machine, Outcome, Done, Faulted, Spent, next_moves, spend, moved, step}
use Rattle.sd_work.specs.Run.{Left, memory_of, next_pick, chosen_number, chosen, go_on, run_by, run, Choice, choices_on, choices_by, choices, traced}
use Rattle.sd_work.specs.WellFormed.{IsWellFormed}
use Rattle.sd_moves.specs.numbered.Counts.{count}
use Rattle.sd_moves.specs.numbered.Places.{place_of}
use Rattle.sd_moves.proofs.numbered_lemmas.Counted.{counted}
use Rattle.sd_moves.proofs.numbered_lemmas.Placed.{placed}
use Rattle.sd_core.specs.Released.{IsReleased}
use Rattle.sd_core.proofs.released_lemmas.Moves.{moves-released, memory-released}
use Rattle.sd_core.proofs.released_lemmas.Fires.{LeavesSo, fires-released}
use Rattle.sd_core.proofs.released_lemmas.Settles.{settles-released, ordered-released, memories-released, stays-settled}

pub formed-released : {P : Type 0} (old new : Machine P) → IsReleased old.term new.term → IsWellFormed old → IsWellFormed new
formed-released old new released formed = record {
  settles = stays-settled true [] [] released formed.settles;
  ordered = ordered-released released formed.ordered;
  memories = memories-released 0 released formed.memories;
}

-- ---- a step

abbrev EndsSo : {P : Type 0} → (old new : Outcome P (Machine P)) → Type 0
EndsSo {P} (Done old) new = (left : Machine P) × (new ≡ Done left) × IsReleased old.term left.term × (left.turns ≡ old.turns)
EndsSo (Faulted fault) new = new ≡ Faulted fault
EndsSo Spent new = new ≡ Spent

spent-so : {P : Type 0} (turn : Bool) (turns : ℕ) (old new : ℕ → Outcome P (Machine P)) → ((left : ℕ) → EndsSo (old left) (new left)) → EndsSo (spend Spent turn turns old) (spend Spent turn turns new)
spent-so true zero old new so = refl
spent-so true (suc turns) old new so = so turns
spent-so false turns old new so = so turns

moved-so : {P : Type 0} (old new : Machine P) (before after : Move P (Term P)) → IsReleased old.term new.term → new.turns ≡ old.turns → LeavesSo IsReleased before after → EndsSo (moved old before) (moved new after)
moved-so {P} old new (fails turn fault) after released turns so =
    subst (λ (move : Move P (Term P)). EndsSo (moved old (fails turn fault)) (moved new move)) (sym so)
    (subst (λ (n : ℕ). EndsSo (spend Spent turn old.turns (λ left. Faulted fault)) (spend Spent turn n (λ left. Faulted fault))) (sym turns)
    (spent-so turn old.turns (λ left. Faulted fault) (λ left. Faulted fault) (λ left. refl)))
moved-so {P} old new (goes turn change left) after released turns so =
    subst (λ (move : Move P (Term P)). EndsSo (moved old (goes turn change left)) (moved new move)) (sym so.1)
    (subst (λ (n : ℕ). EndsSo (spend Spent turn old.turns (λ count. Done (record { term = settled left; turns = count }))) (spend Spent turn n (λ count. Done (record { term = settled so.0; turns = count })))) (sym turns)
    (spent-so turn old.turns (λ count. Done (record { term = settled left; turns = count })) (λ count. Done (record { term = settled so.0; turns = count }))
    (λ count. (record { term = settled so.0; turns = count }, refl, settles-released true [] [] so.2, refl))))
moved-so {P} old new no_move after released turns so =
    subst (λ (move : Move P (Term P)). EndsSo (Done old) (moved new move)) (sym so) (new, refl, released, turns)

abbrev done_with : (P : Type 0) → Memory → (turns : ℕ) → Option (Outcome P Left)
done_with P memory turns = Some (Done (record { memory = memory; turns = turns }))

module _ {P : Type 0} (old new : Machine P) (released : IsReleased old.term new.term) (turns : new.turns ≡ old.turns) where
  step-so : (number : ℕ) → number < length (next_moves old) → (default : Path) → EndsSo (step (slice_index_or (next_moves old) number default) old) (step (slice_index_or (next_moves old) number default) new)
  step-so number below default =
      let counts : number < count old.term [] = subst (λ (n : ℕ). number < n) (counted old.term []) below in
      let place : place_of old.term [] number ≡ slice_index_or (next_moves old) number default = sym (placed old.term [] number default counts) in
      moved-so old new (fire old.term (slice_index_or (next_moves old) number default) []) (fire new.term (slice_index_or (next_moves old) number default) []) released turns
      (subst (λ (path : Path). LeavesSo IsReleased (fire old.term path []) (fire new.term path [])) place (fires-released [] number released counts))

  chosen-so : (picks : List ℕ) (first : Path) (others : List Path) → first ∷ others ≡ next_moves old → EndsSo (step (chosen picks first others) old) (step (chosen picks first others) new)
  chosen-so picks first others is =
      let below : chosen_number picks (first ∷ others) < length (first ∷ others) = mod_below (next_pick picks) (length (first ∷ others)) (omega arith) in
      subst (λ (all : List Path). EndsSo (step (slice_index_or all (chosen_number picks (first ∷ others)) first) old) (step (slice_index_or all (chosen_number picks (first ∷ others)) first) new)) (sym is)
      (step-so (chosen_number picks (first ∷ others)) (subst (λ (all : List Path). chosen_number picks (first ∷ others) < length all) is below) first)

  over-so : done_with P (memory_of new.term) new.turns ≡ done_with P (memory_of old.term) old.turns
  over-so = ap₂ (done_with P) (memory-released released) turns

-- ---- runs

go-so : {P : Type 0} (old new : Outcome P (Machine P)) (rest : Machine P → Option (Outcome P Left)) → EndsSo old new
    → ((before after : Machine P) → IsReleased before.term after.term → after.turns ≡ before.turns → rest after ≡ rest before) → go_on new rest ≡ go_on old rest
go-so (Done old) new rest so later = ap (λ outcome. go_on outcome rest) so.1 ∙ later old so.0 so.2 so.3
go-so (Faulted fault) new rest so later = ap (λ outcome. go_on outcome rest) so
go-so Spent new rest so later = ap (λ outcome. go_on outcome rest) so

by-so : {P : Type 0} (old new : Machine P) (released : IsReleased old.term new.term) (turns : new.turns ≡ old.turns) (all : List Path) (picks : List ℕ) (rest : Machine P → Option (Outcome P Left)) → all ≡ next_moves old
    → ((before after : Machine P) → IsReleased before.term after.term → after.turns ≡ before.turns → rest after ≡ rest before) → run_by all picks new rest ≡ run_by all picks old rest
by-so old new released turns [] picks rest is later = over-so old new released turns
by-so old new released turns (first ∷ others) picks rest is later =
    go-so (step (chosen picks first others) old) (step (chosen picks first others) new) rest (chosen-so old new released turns picks first others is) later

pub run-released : {P : Type 0} (looks : ℕ) (picks : List ℕ) (old new : Machine P) → IsReleased old.term new.term → new.turns ≡ old.turns → run looks picks new ≡ run looks picks old
run-released zero picks old new released turns = refl
run-released {P} (suc looks) picks old new released turns =
    ap (λ (all : List Path). run_by all picks new (run looks (drop 1 picks))) (moves-released [] released)
    ∙ by-so old new released turns (next_moves old) picks (run looks (drop 1 picks)) refl (λ before after still same. run-released looks (drop 1 picks) before after still same)

-- ---- traces

abbrev told : {P : Type 0} → Choice P → ℕ × ℕ
told choice = (choice.number, length (next_moves choice.machine))

on-so : {P : Type 0} (old new : Outcome P (Machine P)) (rest : Machine P → List (Choice P)) → EndsSo old new
    → ((before after : Machine P) → IsReleased before.term after.term → after.turns ≡ before.turns → map told (rest after) ≡ map told (rest before)) → map told (choices_on new rest) ≡ map told (choices_on old rest)
on-so (Done old) new rest so later = ap (λ outcome. map told (choices_on outcome rest)) so.1 ∙ later old so.0 so.2 so.3
on-so (Faulted fault) new rest so later = ap (λ outcome. map told (choices_on outcome rest)) so
on-so Spent new rest so later = ap (λ outcome. map told (choices_on outcome rest)) so

traced-so : {P : Type 0} (old new : Machine P) (released : IsReleased old.term new.term) (turns : new.turns ≡ old.turns) (all : List Path) (picks : List ℕ) (rest : Machine P → List (Choice P)) → all ≡ next_moves old
    → ((before after : Machine P) → IsReleased before.term after.term → after.turns ≡ before.turns → map told (rest after) ≡ map told (rest before))
    → map told (choices_by all picks new rest) ≡ map told (choices_by all picks old rest)
traced-so old new released turns [] picks rest is later = refl
traced-so {P} old new released turns (first ∷ others) picks rest is later =
    ap₂ (λ (n : ℕ) (behind : List (ℕ × ℕ)). (chosen_number picks (first ∷ others), n) ∷ behind) (ap length (moves-released [] released))
    (on-so (step (chosen picks first others) old) (step (chosen picks first others) new) rest (chosen-so old new released turns picks first others is) later)

pub trace-released : {P : Type 0} (steps : ℕ) (picks : List ℕ) (old new : Machine P) → IsReleased old.term new.term → new.turns ≡ old.turns → traced steps picks new ≡ traced steps picks old
trace-released zero picks old new released turns = refl
trace-released {P} (suc steps) picks old new released turns =
    ap (λ (all : List Path). map told (choices_by all picks new (choices steps (drop 1 picks)))) (moves-released [] released)
    ∙ traced-so old new released turns (next_moves old) picks (choices steps (drop 1 picks)) refl (λ before after still same. trace-released steps (drop 1 picks) before after still same)
