-- The names of a graph's containers: found in the map, new in it, and no two of them equal.
use Rattle.std.proofs.Common.{◌≡◌, ℕ, List, [], ◌∷◌, ◌++◌, map, string_bytes, refl, ap, sym, ◌∙◌, Bool, true, false, ◌||◌, if◌then◌else◌, cond, Option, Some, is_some, String, string_eq, bytes_eq, subst}
use Rattle.std.specs.Prelude.{⊤}
use Rattle.std.specs.Cmp.Lexicographic.{nat_list_eq_equiv}
use Rattle.std.specs.List.{AllByRecursion, IsDistinct}
use Rattle.std.specs.Map.{keys_of, lookup}
use Rattle.std.specs.declared.alloc.Global.{Global}
use Rattle.std.proofs.lemmas.Map.Keys.{IsDistinct-head, IsDistinct-tail}
use Rattle.indexmap.specs.IndexMap.{insert_entry}
use Rattle.sd_graph.specs.TreeFold.{named_container}
use Rattle.sd_graph.specs.TreeParts.{has_name}
use Rattle.sd_graph.specs.declared.container.Container.{Container}

-- where no key is the new one, it is put last
put_last : (same : Bool) (entry : String Global × Container) (entries grown : List (String Global × Container)) (value : Container) →
    same ≡ false → (if same then (entry.0, value) ∷ entries else entry ∷ grown) ≡ entry ∷ grown
put_last false entry entries grown value new = refl
put_last true entry entries grown value new = cc

none_of_two : (first second : Bool) → (first || second) ≡ false → (first ≡ false) × (second ≡ false)
none_of_two false second new = (refl, new)
none_of_two true second new = cc

-- one more container with a new name
pub entries_grown : (entries : List (String Global × Container)) (name : String Global) (container : Container) →
    has_name (map named_container entries) (string_bytes name) ≡ false →
    map named_container (insert_entry string_eq entries name container) ≡ map named_container entries ++ (string_bytes name, container) ∷ []
entries_grown [] name container new = refl
entries_grown (entry ∷ entries) name container new =
    let news = none_of_two (string_eq name entry.0) (has_name (map named_container entries) (string_bytes name)) new in
    ap (map named_container) (put_last (string_eq name entry.0) entry entries (insert_entry string_eq entries name container) container news.0)
    ∙ ap (λ rest. named_container entry ∷ rest) (entries_grown entries name container news.1)

found_first : (same : Bool) (value : Container) (rest : Option Container) → is_some (cond same (Some value) rest) ≡ (same || is_some rest)
found_first false value rest = refl
found_first true value rest = refl

-- a map has a value at a name where one of its containers has the name
pub name_found : (entries : List (String Global × Container)) (name : List ℕ) →
    is_some (lookup (λ key. bytes_eq name (string_bytes key)) entries) ≡ has_name (map named_container entries) name
name_found [] name = refl
name_found (entry ∷ entries) name =
    found_first (bytes_eq name (string_bytes entry.0)) entry.1 (lookup (λ key. bytes_eq name (string_bytes key)) entries)
    ∙ ap (λ found. bytes_eq name (string_bytes entry.0) || found) (name_found entries name)

-- ---- no two names are equal

-- the name of each container is none of those behind it
abbrev NamesDiffer : List (List ℕ × Container) → Type 0
NamesDiffer [] = ⊤
NamesDiffer (entry ∷ entries) = (has_name entries entry.0 ≡ false) × NamesDiffer entries

neither : (first second : Bool) → first ≡ false → second ≡ false → (first || second) ≡ false
neither false second one other = other
neither true second one other = cc

name_is_none : (entries : List (String Global × Container)) (name : String Global) →
    AllByRecursion (λ key. string_eq name key ≡ false) (keys_of entries) → has_name (map named_container entries) (string_bytes name) ≡ false
name_is_none [] name all = refl
name_is_none (entry ∷ entries) name all =
    neither (string_eq name entry.0) (has_name (map named_container entries) (string_bytes name)) all.0 (name_is_none entries name all.1)

names_differ : (entries : List (String Global × Container)) → IsDistinct string_eq (keys_of entries) → NamesDiffer (map named_container entries)
names_differ [] distinct = tt
names_differ (entry ∷ entries) distinct =
    (name_is_none entries entry.0 (IsDistinct-head string_eq entry.0 (keys_of entries) distinct), names_differ entries (IsDistinct-tail string_eq entry.0 (keys_of entries) distinct))

-- a name that none has is not that of one of them
not_one : (before : List (List ℕ × Container)) (entry : List ℕ × Container) (rest : List (List ℕ × Container)) (name : List ℕ) →
    has_name (before ++ entry ∷ rest) name ≡ false → bytes_eq name entry.0 ≡ false
not_one [] entry rest name none = (none_of_two (bytes_eq name entry.0) (has_name rest name) none).0
not_one (first ∷ before) entry rest name none =
    not_one before entry rest name (none_of_two (bytes_eq name first.0) (has_name (before ++ entry ∷ rest) name) none).1

-- the name of a container is none of those before it
not_before : (before : List (List ℕ × Container)) (entry : List ℕ × Container) (rest : List (List ℕ × Container)) →
    NamesDiffer (before ++ entry ∷ rest) → has_name before entry.0 ≡ false
not_before [] entry rest differ = refl
not_before (first ∷ before) entry rest differ =
    neither (bytes_eq entry.0 first.0) (has_name before entry.0)
    (nat_list_eq_equiv.symm entry.0 first.0 ∙ not_one before entry rest first.0 differ.0) (not_before before entry rest differ.1)

-- of containers that are those of a map, each has a name that is new to those before it
pub name_is_new : (before : List (List ℕ × Container)) (entry : List ℕ × Container) (rest : List (List ℕ × Container)) (entries : List (String Global × Container)) →
    before ++ entry ∷ rest ≡ map named_container entries → IsDistinct string_eq (keys_of entries) → has_name before entry.0 ≡ false
name_is_new before entry rest entries all distinct = not_before before entry rest (subst NamesDiffer (sym all) (names_differ entries distinct))

one_further : {A : Type 0} (before : List A) (member : A) (rest : List A) → (before ++ member ∷ []) ++ rest ≡ before ++ member ∷ rest
one_further [] member rest = refl
one_further (first ∷ before) member rest = ap (λ others. first ∷ others) (one_further before member rest)

-- one more container copied, under a copy of its name, where those before it and those left are all of a map
pub one_more_copied : (before grown left rest entries : List (String Global × Container)) (name name_copy : String Global) (container copy : Container) →
    grown ≡ insert_entry string_eq before name_copy copy → left ≡ (name, container) ∷ rest →
    string_bytes name_copy ≡ string_bytes name → copy ≡ container → IsDistinct string_eq (keys_of entries) →
    map named_container before ++ map named_container left ≡ map named_container entries →
    map named_container grown ++ map named_container rest ≡ map named_container entries
one_more_copied before grown left rest entries name name_copy container copy inserted taken same equal distinct all =
    let all_of : map named_container before ++ (string_bytes name, container) ∷ map named_container rest ≡ map named_container entries = subst (λ left. map named_container before ++ map named_container left ≡ map named_container entries) taken all in
    let new : has_name (map named_container before) (string_bytes name) ≡ false = name_is_new (map named_container before) (string_bytes name, container) (map named_container rest) entries all_of distinct in
    ap (λ entries. map named_container entries ++ map named_container rest) inserted
    ∙ ap (λ grown. grown ++ map named_container rest) (entries_grown before name_copy copy (ap (has_name (map named_container before)) same ∙ new))
    ∙ one_further (map named_container before) (string_bytes name_copy, copy) (map named_container rest)
    ∙ ap (λ bytes. map named_container before ++ (bytes, copy) ∷ map named_container rest) same
    ∙ ap (λ made. map named_container before ++ (string_bytes name, made) ∷ map named_container rest) equal
    ∙ all_of
