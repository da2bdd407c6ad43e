-- Names that are numbered one after another.
use Rattle.std.proofs.Common.{◌≡◌, ◌∙◌, ℕ, ◌+◌, List, [], ◌∷◌, map, Some, Bool, true, false, cond, ◌||◌, bytes_eq, refl, ap}
use Rattle.std.specs.List.{list_any}
use Rattle.std.specs.Bool.{⊤}
use Rattle.sd_program.specs.Names.{Name, Named, in_force}
use Rattle.sd_task.specs.in_force.Names.{with_numbered}
use Rattle.sd_says.specs.Setting.{taken_in, with_each}
use Rattle.sd_tie.specs.tasklets.Connected.{IsAmong}

-- what numbers from this one on stand for
abbrev pub AreFrom : {A : Type 0} → (ℕ → A) → ℕ → List (Name × A) → Type 0
AreFrom make next [] = ⊤
AreFrom make next (entry ∷ entries) = (make next ≡ entry.1) × AreFrom make (next + 1) entries

pub numbered_tied : {A : Type 0} (make : ℕ → A) (entries : List (Name × A)) (next : ℕ) (known : Named ℕ) → AreFrom make next entries →
    with_each make (with_numbered (map (λ entry. entry.0) entries) next known) ≡ taken_in entries (with_each make known)
numbered_tied make [] next known h = refl
numbered_tied make (entry ∷ entries) next known h =
    numbered_tied make entries (next + 1) ((entry.0, next) ∷ known) h.1
    ∙ ap (λ value. taken_in entries ((entry.0, value) ∷ with_each make known)) h.0

-- ---- names that are numbered are in force

abbrev HasNumber : Named ℕ → Name → Type 0
HasNumber numbers name = (number : ℕ) × (in_force numbers name ≡ Some number)

kept_number : (names : List Name) (next : ℕ) (known : Named ℕ) (name : Name) → HasNumber known name → HasNumber (with_numbered names next known) name
kept_number [] next known name h = h
kept_number (first ∷ names) next known name h = kept_number names (next + 1) ((first, next) ∷ known) name (found_behind (bytes_eq name first))
  where
    found_behind : (same : Bool) → (number : ℕ) × (cond same (Some next) (in_force known name) ≡ Some number)
    found_behind true = (next, refl)
    found_behind false = h

pub among_number : (names : List Name) (next : ℕ) (known : Named ℕ) (name : Name) → IsAmong names name → HasNumber (with_numbered names next known) name
among_number [] next known name h = cc
among_number (first ∷ names) next known name h = go (bytes_eq name first) refl h (among_number names (next + 1) ((first, next) ∷ known) name)
  where
    go : (same : Bool) → bytes_eq name first ≡ same → (same || list_any (bytes_eq name) names) ≡ true → (IsAmong names name → HasNumber (with_numbered names (next + 1) ((first, next) ∷ known)) name) →
        HasNumber (with_numbered names (next + 1) ((first, next) ∷ known)) name
    go true e h later = kept_number names (next + 1) ((first, next) ∷ known) name (next, ap (λ same. cond same (Some next) (in_force known name)) e)
    go false e h later = later h
