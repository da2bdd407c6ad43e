-- The entries of a table's map as those that contracts see.
use Rattle.std.proofs.Common.{◌≡◌, refl, ap, ℕ, ◌+◌, Bool, not, List, [], ◌∷◌, length, map, take, ◌||◌, if◌then◌else◌, arith, zero, suc, String, string_bytes, bytes_eq}
use Rattle.std.specs.Prelude.{Some, None}
use Rattle.std.specs.List.{position_or_len, position, list_any}
use Rattle.std.specs.declared.alloc.Global.{Global}
use Rattle.std.proofs.lemmas.Grind.{common_steps}
use Rattle.std.proofs.lemmas.List.Sums.{prefix_len-le-length}
use Rattle.std.specs.Map.{lookup, keys_of}
use Rattle.std.specs.String.{string_eq}
use Rattle.indexmap.specs.IndexMap.{insert_entry}
use Rattle.indexmap.specs.IndexSet.{insert_key}
use Rattle.sd_names.specs.Names.{Name, named_entries, listed, place_of, put, is_among, noted}

pub listed_named : {A : Type 0} (name : Name) (entries : List (String Global × A)) → listed (named_entries entries) name ≡ lookup (λ key. bytes_eq name (string_bytes key)) entries
listed_named name [] = refl
listed_named name (entry ∷ entries) = ap (λ rest. if bytes_eq name (string_bytes entry.0) then Some entry.1 else rest) (listed_named name entries)

pub place_named : {A : Type 0} (name : Name) (entries : List (String Global × A)) → place_of (named_entries entries) name ≡ position_or_len (λ key. bytes_eq name (string_bytes key)) (keys_of entries)
place_named name [] = refl
place_named name (entry ∷ entries) = ap (λ rest. if not (bytes_eq name (string_bytes entry.0)) then 1 + rest else 0) (place_named name entries)

pub put_named : {A : Type 0} (key : String Global) (a : A) (entries : List (String Global × A)) → named_entries (insert_entry string_eq entries key a) ≡ put (named_entries entries) (string_bytes key) a
put_named key a [] = refl
put_named key a (entry ∷ entries) = grind (arith, put_named key a entries)

pub take_named : {A : Type 0} (count : ℕ) (entries : List (String Global × A)) → named_entries (take count entries) ≡ take count (named_entries entries)
take_named zero entries = refl
take_named (suc n) [] = refl
take_named (suc n) (entry ∷ entries) = ap (λ rest. (string_bytes entry.0, entry.1) ∷ rest) (take_named n entries)

pub length_named : {A : Type 0} (entries : List (String Global × A)) → length (named_entries entries) ≡ length entries
length_named [] = refl
length_named (entry ∷ entries) = ap (λ n. suc n) (length_named entries)

pub among_named : (name : Name) (keys : List (String Global)) → is_among (map string_bytes keys) name ≡ list_any (λ key. bytes_eq name (string_bytes key)) keys
among_named name [] = refl
among_named name (key ∷ keys) = ap (λ rest. bytes_eq name (string_bytes key) || rest) (among_named name keys)

pub noted_named : (key : String Global) (keys : List (String Global)) → map string_bytes (insert_key string_eq keys key) ≡ noted (map string_bytes keys) (string_bytes key)
noted_named key keys = grind (arith, common_steps, among_named (string_bytes key) keys)

-- what has no place in a list has that behind the last
pub not_found : {A : Type 0} (test : A → Bool) (xs : List A) → position test xs ≡ None → position_or_len test xs ≡ length xs
not_found test xs h = grind (arith, prefix_len-le-length (λ x. not (test x)) xs, h)

pub length_keys : {A : Type 0} (entries : List (String Global × A)) → length (keys_of entries) ≡ length entries
length_keys [] = refl
length_keys (entry ∷ entries) = ap (λ n. suc n) (length_keys entries)

pub place_absent : {A : Type 0} (name : Name) (entries : List (String Global × A)) → position (λ key. bytes_eq name (string_bytes key)) (keys_of entries) ≡ None → place_of (named_entries entries) name ≡ length entries
place_absent name entries h = rw (place_named name entries) (rw (not_found (λ key. bytes_eq name (string_bytes key)) (keys_of entries) h) (length_keys entries))
