-- Lists of places: what holds of each of them, and the one that a pick chooses.
use Rattle.std.proofs.Common.{◌≡◌, ℕ, zero, suc, List, [], ◌∷◌, ◌++◌, Bool, true, false, cond, refl, slice_index_or}
use Rattle.std.specs.Bool.{⊤}
use Rattle.sd_work.specs.Moves.{Path, moves_in}

-- what holds of each path of a list
abbrev pub AllOf : (Path → Type 0) → List Path → Type 0
AllOf T [] = ⊤
AllOf T (p ∷ ps) = T p × AllOf T ps

-- and what follows from it
pub all_more : (T U : Path → Type 0) → ((p : Path) → T p → U p) → (ps : List Path) → AllOf T ps → AllOf U ps
all_more T U h [] a = tt
all_more T U h (p ∷ ps) a = (h p a.0, all_more T U h ps a.1)

-- of two lists, one after the other
pub all_append : (T : Path → Type 0) (ps qs : List Path) → AllOf T ps → AllOf T qs → AllOf T (ps ++ qs)
all_append T [] qs a b = b
all_append T (p ∷ ps) qs a b = (a.0, all_append T ps qs a.1 b)

-- of places in a part
pub all_in : (T : Path → Type 0) (k : ℕ) (ps : List Path) → AllOf (λ p. T (k ∷ p)) ps → AllOf T (moves_in k ps)
all_in T k [] a = tt
all_in T k (p ∷ ps) a = (a.0, all_in T k ps a.1)

-- of a list that is there only where a flag stands
pub all_if : (T : Path → Type 0) (b : Bool) (ps : List Path) → (b ≡ true → AllOf T ps) → AllOf T (cond b ps [])
all_if T true ps a = a refl
all_if T false ps a = tt

-- or only where it is down
pub all_unless : (T : Path → Type 0) (b : Bool) (ps : List Path) → AllOf T ps → AllOf T (cond b [] ps)
all_unless T true ps a = tt
all_unless T false ps a = a

-- of the path at any place of the list
pub all_at : (T : Path → Type 0) (d : Path) (k : ℕ) (ps : List Path) → T d → AllOf T ps → T (slice_index_or ps k d)
all_at T d k [] h a = h
all_at T d zero (p ∷ ps) h a = a.0
all_at T d (suc k) (p ∷ ps) h a = all_at T d k ps h a.1
