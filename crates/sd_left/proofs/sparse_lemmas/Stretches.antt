-- Stretches whose counts are right.
use Rattle.std.proofs.Common.{◌≡◌, ℕ, ◌+◌, length, None, Ok, Err, OnOk, Bool, true, ◌&&◌, refl, sym, ap, ap₂, ◌∙◌}
use Rattle.std.proofs.lemmas.List.{length-append, length-replicate}
use Rattle.std.specs.declared.result.Result.{Result}
use Rattle.sd_left.specs.declared.sparse.point.Tasks.{Tasks}
use Rattle.sd_left.specs.declared.sparse.stretch.Counts.{Counts}
use Rattle.sd_left.specs.declared.sparse.stretch.Stretch.{Stretch}
use Rattle.sd_left.specs.declared.sparse.stretch.Stretch.TheVariants.{Fresh, Each, Halves'}
use Rattle.sd_left.specs.sparse.Stretch.{points_in, counted, counts_of, together, are_same, is_summed, is_told}
use Rattle.sd_left.proofs.left_lemmas.Sameness.{both-true}
use Rattle.sd_left.proofs.sparse_lemmas.Counts.{same-self, same-counts, counted-both, counted-fresh}

-- what is kept of halves, and that of each is right
pub record AreHalves (tasks : Tasks) (counts : Counts) (first others : Stretch) : Type 0 where
  pub both : counts ≡ together (counts_of tasks first) (counts_of tasks others)
  pub first_summed : is_summed tasks first ≡ true
  pub others_summed : is_summed tasks others ≡ true

pub halves : (tasks : Tasks) (counts : Counts) (first others : Stretch)
    → (are_same counts (together (counts_of tasks first) (counts_of tasks others)) && (is_summed tasks first && is_summed tasks others)) ≡ true → AreHalves tasks counts first others
halves tasks counts first others summed =
    let one = both-true (are_same counts (together (counts_of tasks first) (counts_of tasks others))) (is_summed tasks first && is_summed tasks others) summed in
    let two = both-true (is_summed tasks first) (is_summed tasks others) one.1 in
    record { both = same-counts counts (together (counts_of tasks first) (counts_of tasks others)) one.0; first_summed = two.0; others_summed = two.1 }

-- what a stretch tells is what is counted of its points
pub counts-true : (tasks : Tasks) (stretch : Stretch) → is_told tasks ≡ true → is_summed tasks stretch ≡ true → counts_of tasks stretch ≡ counted tasks (points_in stretch)
counts-true tasks (Fresh count) told summed = sym (counted-fresh tasks count told)
counts-true tasks (Each points) told summed = refl
counts-true tasks (Halves' p first counts q others) told summed =
    let are = halves tasks counts first others summed in
    are.both
    ∙ ap₂ together (counts-true tasks first told are.first_summed) (counts-true tasks others told are.others_summed)
    ∙ counted-both tasks (points_in first) (points_in others)

-- how many they are
pub points-true : (tasks : Tasks) (stretch : Stretch) → is_summed tasks stretch ≡ true → (counts_of tasks stretch).points ≡ length (points_in stretch)
points-true tasks (Fresh count) summed = sym (length-replicate count None)
points-true tasks (Each points) summed = refl
points-true tasks (Halves' p first counts q others) summed =
    let are = halves tasks counts first others summed in
    ap (λ (c : Counts). c.points) are.both
    ∙ ap₂ (λ (a b : ℕ). a + b) (points-true tasks first are.first_summed) (points-true tasks others are.others_summed)
    ∙ sym (length-append (points_in first) (points_in others))

-- halves whose counts are what both tell
pub summed-again : (tasks : Tasks) (counts : Counts) (first others : Stretch) → counts ≡ together (counts_of tasks first) (counts_of tasks others)
    → is_summed tasks first ≡ true → is_summed tasks others ≡ true
    → (are_same counts (together (counts_of tasks first) (counts_of tasks others)) && (is_summed tasks first && is_summed tasks others)) ≡ true
summed-again tasks counts first others both one two =
    ap₂ (λ (a b : Bool). a && b)
    (ap (λ (c : Counts). are_same c (together (counts_of tasks first) (counts_of tasks others))) both ∙ same-self (together (counts_of tasks first) (counts_of tasks others)))
    (ap₂ (λ (a b : Bool). a && b) one two)

pub on_ok_both : {T E : Type 0} (P Q : Type 0) (r : Result T E) → OnOk r P → OnOk r Q → OnOk r (P × Q)
on_ok_both P Q (Ok value) one other = (one, other)
on_ok_both P Q (Err error) one other = tt
