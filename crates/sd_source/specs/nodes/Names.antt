-- Lists of names, each of them once.
use Rattle.std.specs.Prelude.{List, [], ◌∷◌, ◌++◌, Option, Some, None, Bool, bytes_eq, if◌then◌else◌, map, String, string_bytes}
use Rattle.std.specs.declared.alloc.Global.{Global}
use Rattle.std.specs.List.{list_any}
use Rattle.sd_source.specs.nodes.Items.{Name}

-- the name is one of these
abbrev pub is_among : List Name → Name → Bool
is_among names name = list_any (λ other. bytes_eq name other) names

-- with this name, which goes last unless it is there
abbrev pub with_name : (known : List Name) → Name → List Name
with_name known name = if is_among known name then known else known ++ name ∷ []

-- with these names
abbrev pub noted : (known : List Name) → List Name → List Name
noted known [] = known
noted known (name ∷ names) = noted (with_name known name) names

-- with this name, if it is one of a list's own
abbrev pub with_own : (own : List Name) → (known : List Name) → Name → List Name
with_own own known name = if is_among own name then with_name known name else known

-- with those of these names that are a list's own
abbrev pub noted_own : (own : List Name) → (known : List Name) → List Name → List Name
noted_own own known [] = known
noted_own own known (name ∷ names) = noted_own own (with_own own known name) names

-- things under names
abbrev pub Named : Type 0 → Type 0
Named A = List (Name × A)

-- the entries of a table, with names as bytes
abbrev pub named_entries : {A : Type 0} → List (String Global × A) → Named A
named_entries = map (λ entry. (string_bytes entry.0, entry.1))

-- what stands under a name
abbrev pub found : {A : Type 0} → Named A → Name → Option A
found [] name = None
found (entry ∷ entries) name = if bytes_eq name entry.0 then Some entry.1 else found entries name

-- with this under a name: in the place of what stood there, else behind all
abbrev pub put : {A : Type 0} → Named A → Name → A → Named A
put [] name a = (name, a) ∷ []
put (entry ∷ entries) name a = if bytes_eq name entry.0 then (entry.0, a) ∷ entries else entry ∷ put entries name a
