-- Modes conflict in either order.
use Rattle.std.proofs.Common.{◌≡◌, ℕ, nat_eq, not, Bool, true, false, refl, ap, sym}
use Rattle.std.proofs.lemmas.Bool.{eq-eqb, eqb-true}
use Rattle.sd_graph.specs.Mode.{Mode, Read, Write, Resolve, Push, Take, do_conflict, resolution_number}

same_bool : (m n : ℕ) (here there : Bool) → nat_eq m n ≡ here → nat_eq n m ≡ there → here ≡ there
same_bool m n true true is is' = refl
same_bool m n false false is is' = refl
same_bool m n true false is is' = let back = eq-eqb n m (sym (eqb-true m n is)) in cc
same_bool m n false true is is' = let back = eq-eqb m n (sym (eqb-true n m is')) in cc

nat_eq-turned : (m n : ℕ) → nat_eq m n ≡ nat_eq n m
nat_eq-turned m n = same_bool m n (nat_eq m n) (nat_eq n m) refl refl

pub do_conflict-turned : (mode other : Mode) → do_conflict other mode ≡ do_conflict mode other
do_conflict-turned Read Read = refl
do_conflict-turned Read Write = refl
do_conflict-turned Read (Resolve other) = refl
do_conflict-turned Read Push = refl
do_conflict-turned Read Take = refl
do_conflict-turned Write Read = refl
do_conflict-turned Write Write = refl
do_conflict-turned Write (Resolve other) = refl
do_conflict-turned Write Push = refl
do_conflict-turned Write Take = refl
do_conflict-turned (Resolve by) Read = refl
do_conflict-turned (Resolve by) Write = refl
do_conflict-turned (Resolve by) (Resolve other) = ap not (nat_eq-turned (resolution_number other) (resolution_number by))
do_conflict-turned (Resolve by) Push = refl
do_conflict-turned (Resolve by) Take = refl
do_conflict-turned Push Read = refl
do_conflict-turned Push Write = refl
do_conflict-turned Push (Resolve other) = refl
do_conflict-turned Push Push = refl
do_conflict-turned Push Take = refl
do_conflict-turned Take Read = refl
do_conflict-turned Take Write = refl
do_conflict-turned Take (Resolve other) = refl
do_conflict-turned Take Push = refl
do_conflict-turned Take Take = refl
