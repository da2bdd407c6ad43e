-- Names in a map of containers and in a set of names.
use Rattle.std.proofs.Common.{◌≡◌, ◌∙◌, List, [], ◌∷◌, ◌++◌, map, Bool, true, false, ◌||◌, if◌then◌else◌, refl, ap, sym, subst, String, string_bytes, bytes_eq, is_some, length, ◌<◌, ◌^◌, IfOk, Result, Ok, Err, arith}
use Rattle.std.specs.List.{IsDistinct, list_any}
use Rattle.std.specs.Map.{lookup}
use Rattle.std.specs.String.{string_eq}
use Rattle.std.specs.declared.alloc.Global.{Global}
use Rattle.indexmap.specs.IndexSet.{insert_key}
use Rattle.sd_graph.specs.TreeFold.{named_container}
use Rattle.sd_graph.specs.TreeParts.{has_name}
use Rattle.sd_graph.specs.declared.container.Container.{Container}
use Rattle.sd_graph.proofs.NameLemmas.{name_found}
use Rattle.sd_program.specs.Names.{Name}
use Rattle.sd_task.specs.containers.Declarations.{first_free, names_in_use}
use Rattle.sd_task.proofs.containers_lemmas.FreshLemmas.{free_is_new}
use Rattle.sd_task.proofs.containers_lemmas.ListLemmas.{none_before}
use Rattle.sd_task.proofs.containers_lemmas.ToComeLemmas.{in_use_split}

pub among_keys : (name : Name) (keys : List (String Global)) → list_any (bytes_eq name) (map string_bytes keys) ≡ list_any (λ key. bytes_eq name (string_bytes key)) keys
among_keys name [] = refl
among_keys name (key ∷ keys) = ap (λ rest. bytes_eq name (string_bytes key) || rest) (among_keys name keys)

-- a name is in use where the set has it, or the map
pub in_use_found : (keys : List (String Global)) (entries : List (String Global × Container)) (name : Name) →
    list_any (bytes_eq name) (names_in_use (map string_bytes keys) (map named_container entries))
    ≡ (list_any (λ key. bytes_eq name (string_bytes key)) keys || is_some (lookup (λ key. bytes_eq name (string_bytes key)) entries))
in_use_found keys entries name =
    in_use_split (map string_bytes keys) (map named_container entries) name
    ∙ ap (λ found. found || has_name (map named_container entries) name) (among_keys name keys)
    ∙ ap (λ found. list_any (λ key. bytes_eq name (string_bytes key)) keys || found) (sym (name_found entries name))

-- one more key goes last where it is new
one_more_key : (there : Bool) (keys : List (String Global)) (key : String Global) → there ≡ false → (if there then keys else keys ++ key ∷ []) ≡ keys ++ key ∷ []
one_more_key false keys key new = refl
one_more_key true keys key new = cc

map_joined : (keys : List (String Global)) (key : String Global) (rest : List Name) → map string_bytes (keys ++ key ∷ []) ++ rest ≡ map string_bytes keys ++ string_bytes key ∷ rest
map_joined [] key rest = refl
map_joined (first ∷ keys) key rest = ap (λ names. string_bytes first ∷ names) (map_joined keys key rest)

-- one more name in a set of names that are all different, of which these are left
pub one_more_in_set : (keys : List (String Global)) (key : String Global) (rest names : List Name) → map string_bytes keys ++ string_bytes key ∷ rest ≡ names → IsDistinct bytes_eq names →
    map string_bytes (insert_key string_eq keys key) ++ rest ≡ names
one_more_in_set keys key rest names all different =
    ap (λ keys. map string_bytes keys ++ rest) (one_more_key (list_any (string_eq key) keys) keys key (sym (among_keys (string_bytes key) keys) ∙ none_before (map string_bytes keys) (string_bytes key) rest (subst (IsDistinct bytes_eq) (sym all) different)))
    ∙ map_joined keys key rest ∙ all

-- the first free name is not in use
pub free_of_ok : {E : Type 0} (result : Result (String Global) E) (used : List Name) (name : Name) → length used < 2 ^ 64 → IfOk result (λ free. string_bytes free ≡ first_free (length used) 1 used name) →
    IfOk result (λ free. list_any (bytes_eq (string_bytes free)) used ≡ false)
free_of_ok (Ok free) used name few is = ap (λ free. list_any (bytes_eq free) used) is ∙ free_is_new (length used) 1 used name (omega arith) (omega (arith, few))
free_of_ok (Err error) used name few is = tt
