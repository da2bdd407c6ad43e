-- Uses in another order.
use Rattle.std.specs.List.{filter, fold}
use Rattle.std.proofs.Common.{◌≡◌, inl, inr, suc, ℕ, List, [], ◌∷◌, ◌++◌, Bool, true, false, not, Some, nat_eq, if◌then◌else◌, refl, sym, ◌∙◌, ap}
use Rattle.std.proofs.lemmas.Bool.{cases_Bool, eqb-true}
use Rattle.sd_graph.specs.declared.link.Link.{Link}
use Rattle.sd_graph.specs.Mode.{Mode, Read, Write, Resolve, Push, Take, resolution_number, do_conflict, common_mode, joined_mode}
use Rattle.sd_graph.specs.Wiring.{Use, has_number, outside, modes_on, link_uses, nested_uses}
use Rattle.sd_race.proofs.cover_lemmas.Joined.{same_resolution}
use Rattle.sd_race.proofs.race_lemmas.Modes.{do_conflict-turned}
use Rattle.sd_exchange.proofs.tiles_lemmas.Shuffling.{shuffled-map, shuffled-filter}
use Rattle.sd_exchange.specs.tiles.Shuffled.{Shuffled, as_it_is, behind, exchanged, and_then}

-- ---- modes of several uses in one

not-false : (b : Bool) → not b ≡ false → b ≡ true
not-false true h = refl
not-false false h = cc

-- two modes that do not conflict are one
same-mode : (mode other : Mode) → do_conflict mode other ≡ false → mode ≡ other
same-mode Read Read h = refl
same-mode Read Write h = cc
same-mode Read (Resolve by) h = cc
same-mode Read Push h = cc
same-mode Read Take h = cc
same-mode Write Read h = cc
same-mode Write Write h = cc
same-mode Write (Resolve by) h = cc
same-mode Write Push h = cc
same-mode Write Take h = cc
same-mode (Resolve by) Read h = cc
same-mode (Resolve by) Write h = cc
same-mode (Resolve by) (Resolve other) h = ap Resolve (same_resolution by other (eqb-true (resolution_number by) (resolution_number other) (not-false (nat_eq (resolution_number by) (resolution_number other)) h)))
same-mode (Resolve by) Push h = cc
same-mode (Resolve by) Take h = cc
same-mode Push Read h = cc
same-mode Push Write h = cc
same-mode Push (Resolve by) h = cc
same-mode Push Push h = refl
same-mode Push Take h = cc
same-mode Take Read h = cc
same-mode Take Write h = cc
same-mode Take (Resolve by) h = cc
same-mode Take Push h = cc
same-mode Take Take h = cc

common-conflict : (mode other : Mode) → do_conflict mode other ≡ true → common_mode mode other ≡ Write
common-conflict mode other h = ap (λ b. if b then Write else mode) h

common-same : (mode other : Mode) → do_conflict mode other ≡ false → common_mode mode other ≡ mode
common-same mode other h = ap (λ b. if b then Write else mode) h

common-turned : (mode other : Mode) → common_mode mode other ≡ common_mode other mode
common-turned mode other = elim (cases_Bool (do_conflict mode other)) [
  | inl clash ↦ common-conflict mode other clash ∙ sym (common-conflict other mode (do_conflict-turned mode other ∙ clash))
  | inr same ↦ common-same mode other same ∙ same-mode mode other same ∙ sym (common-same other mode (do_conflict-turned mode other ∙ same))
]

-- the second and the third may change places
common-swapped : (a b c : Mode) → common_mode (common_mode a b) c ≡ common_mode (common_mode a c) b
common-swapped a b c = elim (cases_Bool (do_conflict a b)) [
  | inl clash ↦ ap (λ m. common_mode m c) (common-conflict a b clash) ∙ elim (cases_Bool (do_conflict a c)) [
    | inl too ↦ sym (ap (λ m. common_mode m b) (common-conflict a c too))
    | inr same ↦ sym (ap (λ m. common_mode m b) (common-same a c same) ∙ common-conflict a b clash)
  ]
  | inr same ↦ ap (λ m. common_mode m c) (common-same a b same) ∙ elim (cases_Bool (do_conflict a c)) [
    | inl too ↦ common-conflict a c too ∙ sym (ap (λ m. common_mode m b) (common-conflict a c too))
    | inr also ↦ common-same a c also ∙ sym (ap (λ m. common_mode m b) (common-same a c also) ∙ common-same a b same)
  ]
]

fold-swapped : (a b : Mode) (modes : List Mode) → fold common_mode (common_mode a b) modes ≡ fold common_mode (common_mode b a) modes
fold-swapped a b modes = ap (λ m. fold common_mode m modes) (common-turned a b)

fold-shuffled : (xs ys : List Mode) → Shuffled xs ys → (m : Mode) → fold common_mode m xs ≡ fold common_mode m ys
fold-shuffled xs ys (as_it_is members) m = refl
fold-shuffled xs ys (behind member members others s) m = fold-shuffled members others s (common_mode m member)
fold-shuffled xs ys (exchanged first second members) m = ap (λ n. fold common_mode n members) (common-swapped m first second)
fold-shuffled xs ys (and_then members between others s r) m = fold-shuffled members between s m ∙ fold-shuffled between others r m

pub joined-shuffled : (xs ys : List Mode) → Shuffled xs ys → joined_mode xs ≡ joined_mode ys
joined-shuffled xs ys (as_it_is members) = refl
joined-shuffled xs ys (behind member members others s) = ap Some (fold-shuffled members others s member)
joined-shuffled xs ys (exchanged first second members) = ap Some (fold-swapped first second members)
joined-shuffled xs ys (and_then members between others s r) = joined-shuffled members between s ∙ joined-shuffled between others r

-- ---- uses

pub outside-shuffled : (own : List ℕ) (uses others : List Use) → Shuffled uses others → Shuffled (outside own uses) (outside own others)
outside-shuffled own uses others s = shuffled-filter (λ (u : Use). not (has_number own u.container)) uses others s

modes-shuffled : (number : ℕ) (uses others : List Use) → Shuffled uses others → Shuffled (modes_on number uses) (modes_on number others)
modes-shuffled number uses others s =
    shuffled-map (λ (u : Use). u.mode) (filter (λ (u : Use). nat_eq u.container number) uses) (filter (λ (u : Use). nat_eq u.container number) others) (shuffled-filter (λ (u : Use). nat_eq u.container number) uses others s)

-- a nested graph does the same through its links
pub nested-shuffled : (uses others : List Use) → Shuffled uses others → (number : ℕ) (links : List Link) → nested_uses uses number links ≡ nested_uses others number links
nested-shuffled uses others s number [] = refl
nested-shuffled uses others s number (link ∷ links) = λ i. link_uses link (joined-shuffled (modes_on number uses) (modes_on number others) (modes-shuffled number uses others s) i) ++ nested-shuffled uses others s (suc number) links i
