-- What a line writes is noted.
use Rattle.std.proofs.Common.{◌≡◌, List, [], ◌∷◌, ◌++◌, Bool, true, false, ◌||◌, if◌then◌else◌, bytes_eq, refl}
use Rattle.std.specs.List.{AllByRecursion}
use Rattle.std.proofs.lemmas.Slice.Eq.{bytes_eq-Decides}
use Rattle.sd_graph.proofs.Among.{or_first, or_second}
use Rattle.sd_names.specs.Names.{Name, is_among, noted}
use Rattle.sd_context.specs.context.Writing.{noted_all}
use Rattle.sd_read.proofs.readable_lemmas.kept.Passing.{false_is_not_true}

abbrev pub IsAmong : List Name → Name → Type 0
IsAmong names name = is_among names name ≡ true

-- ---- names that are noted

pub longer_among : (names : List Name) (name wanted : Name) → IsAmong names wanted → IsAmong (names ++ name ∷ []) wanted
longer_among [] name wanted is = false_is_not_true is
longer_among (first ∷ names) name wanted is = by_test (bytes_eq wanted first) is (longer_among names name wanted) where
  by_test : (test : Bool) → test || is_among names wanted ≡ true → (IsAmong names wanted → IsAmong (names ++ name ∷ []) wanted) → test || is_among (names ++ name ∷ []) wanted ≡ true
  by_test true is later = refl
  by_test false is later = later is

pub last_among : (names : List Name) (name : Name) → IsAmong (names ++ name ∷ []) name
last_among [] name = or_first (bytes_eq name name) false ((bytes_eq-Decides name name).1 refl)
last_among (first ∷ names) name = or_second (bytes_eq name first) (is_among (names ++ name ∷ []) name) (last_among names name)

pub noted_more : (names : List Name) (name wanted : Name) → IsAmong names wanted → IsAmong (noted names name) wanted
noted_more names name wanted is = by_test (is_among names name) where
  by_test : (test : Bool) → IsAmong (if test then names else names ++ name ∷ []) wanted
  by_test true = is
  by_test false = longer_among names name wanted is

pub noted_has : (names : List Name) (name : Name) → IsAmong (noted names name) name
noted_has names name = by_test (is_among names name) refl where
  by_test : (test : Bool) → is_among names name ≡ test → IsAmong (if test then names else names ++ name ∷ []) name
  by_test true is = is
  by_test false is = last_among names name

pub still_noted : (more names : List Name) (wanted : Name) → IsAmong names wanted → IsAmong (noted_all names more) wanted
still_noted [] names wanted is = is
still_noted (name ∷ more) names wanted is = still_noted more (noted names name) wanted (noted_more names name wanted is)

pub all_noted : (more names : List Name) → AllByRecursion (IsAmong (noted_all names more)) more
all_noted [] names = tt
all_noted (name ∷ more) names = (still_noted more (noted names name) name (noted_has names name), all_noted more (noted names name))

pub names_still : (more names wanted : List Name) → AllByRecursion (IsAmong names) wanted → AllByRecursion (IsAmong (noted_all names more)) wanted
names_still more names [] all = tt
names_still more names (name ∷ wanted) all = (still_noted more names name all.0, names_still more names wanted all.1)
