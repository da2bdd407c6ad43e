-- Names of tables and sets as contracts see them, and lists of names that are noted one after another.
use Rattle.std.proofs.Common.{◌≡◌, refl, ap, List, [], ◌∷◌, ◌++◌, map, ◌||◌, if◌then◌else◌, arith, String, string_bytes, bytes_eq, Some}
use Rattle.std.specs.List.{list_any}
use Rattle.std.specs.declared.alloc.Global.{Global}
use Rattle.std.proofs.lemmas.Grind.{common_steps}
use Rattle.std.specs.Map.{lookup}
use Rattle.std.specs.String.{string_eq}
use Rattle.indexmap.specs.IndexMap.{insert_entry}
use Rattle.indexmap.specs.IndexSet.{insert_key}
use Rattle.sd_source.specs.nodes.Items.{Name}
use Rattle.sd_source.specs.nodes.Names.{named_entries, found, put, is_among, with_name, with_own, noted, noted_own}

pub found_named : {A : Type 0} (name : Name) (entries : List (String Global × A)) → found (named_entries entries) name ≡ lookup (λ key. bytes_eq name (string_bytes key)) entries
found_named name [] = refl
found_named name (entry ∷ entries) = ap (λ rest. if bytes_eq name (string_bytes entry.0) then Some entry.1 else rest) (found_named name entries)

pub put_named : {A : Type 0} (key : String Global) (a : A) (entries : List (String Global × A)) → named_entries (insert_entry string_eq entries key a) ≡ put (named_entries entries) (string_bytes key) a
put_named key a [] = refl
put_named key a (entry ∷ entries) = grind (arith, put_named key a entries)

pub among_keys : (name : Name) (keys : List (String Global)) → is_among (map string_bytes keys) name ≡ list_any (λ key. bytes_eq name (string_bytes key)) keys
among_keys name [] = refl
among_keys name (key ∷ keys) = ap (λ rest. bytes_eq name (string_bytes key) || rest) (among_keys name keys)

pub keys_with_name : (key : String Global) (keys : List (String Global)) → map string_bytes (insert_key string_eq keys key) ≡ with_name (map string_bytes keys) (string_bytes key)
keys_with_name key keys = grind (arith, common_steps, among_keys (string_bytes key) keys)

-- names of two lists are noted one after another
pub noted_both : (known names others : List Name) → noted known (names ++ others) ≡ noted (noted known names) others
noted_both known [] others = refl
noted_both known (name ∷ names) others = noted_both (with_name known name) names others

pub own_both : (own known names others : List Name) → noted_own own known (names ++ others) ≡ noted_own own (noted_own own known names) others
own_both own known [] others = refl
own_both own known (name ∷ names) others = own_both own (with_own own known name) names others
