-- Names of symbols and of containers.
use Rattle.std.proofs.Common.{◌≡◌, ℕ, zero, suc, ℤ, List, [], ◌∷◌, ◌++◌, map, take, string_bytes, String, Bool, false, ◌||◌, bytes_eq, refl, ap, sym, subst, ◌∙◌}
use Rattle.std.specs.Prelude.{string_eq}
use Rattle.std.specs.declared.alloc.Global.{Global}
use Rattle.std.specs.List.{IsDistinct}
use Rattle.std.specs.Map.{keys_of}
use Rattle.std.proofs.lemmas.List.{append-nil, map-append}
use Rattle.indexmap.specs.IndexMap.{insert_entry}
use Rattle.sd_graph.specs.TreeFold.{named_container}
use Rattle.sd_graph.specs.TreeParts.{has_name}
use Rattle.sd_graph.specs.declared.container.Container.{Container}
use Rattle.sd_graph.proofs.NameLemmas.{entries_grown, name_is_new}
use Rattle.sd_valid.specs.BoundExpression.{bound_container}
use Rattle.sd_valid.specs.BoundTree.{bound_entry}

-- the first ones of a list, mapped
pub map_take : {A B : Type 0} (f : A → B) (count : ℕ) (members : List A) → map f (take count members) ≡ take count (map f members)
map_take f zero members = refl
map_take f (suc count) [] = refl
map_take {A} {B} f (suc count) (member ∷ members) = ap (λ (rest : List B). f member ∷ rest) (map_take f count members)

-- sizes change no names
has_bound : (sizes : List ℤ) (entries : List (List ℕ × Container)) (name : List ℕ) → has_name (map (bound_entry sizes) entries) name ≡ has_name entries name
has_bound sizes [] name = refl
has_bound sizes (entry ∷ entries) name = ap (λ (found : Bool). bytes_eq name entry.0 || found) (has_bound sizes entries name)

-- containers that are those of a list with sizes, where these and those left are all of a map
abbrev pub AreBoundSoFar : (sizes : List ℤ) → (bound left all : List (String Global × Container)) → Type 0
AreBoundSoFar sizes bound left all =
    (done : List (List ℕ × Container)) × (map named_container bound ≡ map (bound_entry sizes) done) × (done ++ map named_container left ≡ map named_container all)

one_further : {A : Type 0} (before : List A) (member : A) (rest : List A) → (before ++ member ∷ []) ++ rest ≡ before ++ member ∷ rest
one_further [] member rest = refl
one_further {A} (first ∷ before) member rest = ap (λ (others : List A). first ∷ others) (one_further before member rest)

-- one more container with the sizes, under a copy of its name
pub one_more_bound : (sizes : List ℤ) (before grown left rest entries : List (String Global × Container)) (name name_copy : String Global) (container bound : Container) →
    grown ≡ insert_entry string_eq before name_copy bound → left ≡ (name, container) ∷ rest →
    string_bytes name_copy ≡ string_bytes name → bound ≡ bound_container sizes container → IsDistinct string_eq (keys_of entries) →
    AreBoundSoFar sizes before left entries → AreBoundSoFar sizes grown rest entries
one_more_bound sizes before grown left rest entries name name_copy container bound inserted taken same equal distinct (done, before_is, all) =
    let entry : List ℕ × Container = (string_bytes name, container) in
    let all_of : done ++ entry ∷ map named_container rest ≡ map named_container entries =
    subst (λ (left : List (String Global × Container)). done ++ map named_container left ≡ map named_container entries) taken all in
    let new : has_name (map named_container before) (string_bytes name) ≡ false =
    ap (λ (names : List (List ℕ × Container)). has_name names (string_bytes name)) before_is ∙ has_bound sizes done (string_bytes name) ∙ name_is_new done entry (map named_container rest) entries all_of distinct in (
      done ++ entry ∷ [],
      ap (map named_container) inserted
          ∙ entries_grown before name_copy bound (ap (has_name (map named_container before)) same ∙ new)
          ∙ ap (λ (names : List (List ℕ × Container)). names ++ (string_bytes name_copy, bound) ∷ []) before_is
          ∙ ap (λ (bytes : List ℕ). map (bound_entry sizes) done ++ (bytes, bound) ∷ []) same
          ∙ ap (λ (made : Container). map (bound_entry sizes) done ++ (string_bytes name, made) ∷ []) equal
          ∙ sym (map-append (bound_entry sizes) done (entry ∷ [])),
      one_further done entry (map named_container rest) ∙ all_of,
    )

-- at the end all are done
pub all_bound : (sizes : List ℤ) (bound entries : List (String Global × Container)) → AreBoundSoFar sizes bound [] entries →
    map named_container bound ≡ map (bound_entry sizes) (map named_container entries)
all_bound sizes bound entries (done, is, all) = is ∙ ap (map (bound_entry sizes)) (sym (append-nil done) ∙ all)
