-- What names mean, and what is in force.
use Rattle.std.specs.Prelude.{ℕ, List, [], ◌∷◌, ◌++◌, Bool, true, false, not, ◌&&◌, ◌||◌, Option, Some, None, codes, bytes_eq, if◌then◌else◌, is_some, map, String, string_bytes}
use Rattle.std.specs.declared.alloc.Global.{Global}
use Rattle.std.specs.List.{position_or_len, fold}
use Rattle.sd_range.specs.declared.affine.Affine.{Affine}
use Rattle.sd_names.specs.declared.meaning.Meaning.{Meaning}
use Rattle.sd_names.specs.declared.meaning.Meaning.TheVariants.{Symbol, Variable, Program, Input, Output, Local}
use Rattle.sd_names.specs.declared.meaning.Container.{Container}
use Rattle.sd_names.specs.declared.meaning.Container.TheVariants.{Array, Stream}
use Rattle.sd_names.specs.declared.meaning.Signature.{Signature}

abbrev pub Name : Type 0
Name = List ℕ

-- the entries of a table with its names as bytes
abbrev pub named_entries : {A : Type 0} → List (String Global × A) → List (Name × A)
named_entries = map (λ entry. (string_bytes entry.0, entry.1))

-- what is listed under a name, the first entry of it
abbrev pub listed : {A : Type 0} → List (Name × A) → Name → Option A
listed [] name = None
listed (entry ∷ entries) name = if bytes_eq name entry.0 then Some entry.1 else listed entries name

-- a list with this under a name: in the place of what was listed, else behind all
abbrev pub put : {A : Type 0} → List (Name × A) → Name → A → List (Name × A)
put [] name a = (name, a) ∷ []
put (entry ∷ entries) name a = if bytes_eq name entry.0 then (entry.0, a) ∷ entries else entry ∷ put entries name a

-- the place of a name in a list; one that is not there has the place behind the last
abbrev pub place_of : {A : Type 0} → List (Name × A) → Name → ℕ
place_of entries name = position_or_len (λ entry. bytes_eq name entry.0) entries

abbrev pub is_among : List Name → Name → Bool
is_among [] name = false
is_among (other ∷ names) name = bytes_eq name other || is_among names name

-- names with this one, which goes last unless it is there
abbrev pub noted : List Name → Name → List Name
noted names name = if is_among names name then names else names ++ name ∷ []

abbrev pub noted_all : List Name → List Name → List Name
noted_all = fold noted

-- the name stands in the list more than once
abbrev pub is_repeated : List Name → Name → Bool
is_repeated [] name = false
is_repeated (other ∷ names) name = (bytes_eq name other && is_among names name) || is_repeated names name

-- a name that is declared may be none of these
abbrev pub reserved : List Name
reserved =
    codes "dace" ∷ codes "np" ∷ codes "range" ∷ codes "min" ∷ codes "max" ∷ codes "and" ∷ codes "as" ∷ codes "def" ∷ codes "elif" ∷ codes "else"
    ∷ codes "for" ∷ codes "if" ∷ codes "import" ∷ codes "in" ∷ codes "lambda" ∷ codes "not" ∷ codes "or" ∷ codes "while" ∷ codes "with" ∷ []

-- what is in force at a line, the oldest first, and the containers that the program has declared, in force or not
pub record Names : Type 0 where
  pub meanings : List (Name × Meaning)
  pub containers : List (Name × Container)
  pub declared : List Name

abbrev pub meaning_of : Names → Name → Option Meaning
meaning_of names name = listed names.meanings name

abbrev pub container_of : Names → Name → Option Container
container_of names name = listed names.containers name

-- a name may be declared: it is not reserved, not in force and not that of a container that the program has declared
abbrev pub is_free : Names → Name → Bool
is_free names name =
    not (is_among reserved name || is_some (meaning_of names name) || is_some (container_of names name) || is_among names.declared name)

abbrev pub is_stream_kind : Option Container → Bool
is_stream_kind (Some Stream) = true
is_stream_kind other = false

abbrev pub is_array_kind : Option Container → Bool
is_array_kind (Some (Array extents)) = true
is_array_kind other = false

abbrev pub is_stream : Names → Name → Bool
is_stream names name = is_stream_kind (container_of names name)

abbrev pub is_array : Names → Name → Bool
is_array names name = is_array_kind (container_of names name)

abbrev pub extents_by : Option Container → List Affine
extents_by (Some (Array extents)) = extents
extents_by other = []

-- the extents of an array
abbrev pub extents_of : Names → Name → List Affine
extents_of names name = extents_by (container_of names name)

-- the name stands for a number where it stands alone outside of tasklets
abbrev pub is_number_kind : Option Meaning → Bool
is_number_kind (Some Symbol) = true
is_number_kind (Some Variable) = true
is_number_kind other = false

abbrev pub is_variable_kind : Option Meaning → Bool
is_variable_kind (Some Variable) = true
is_variable_kind other = false

-- the name stands for a number in a tasklet
abbrev pub is_number_in_code : Option Meaning → Bool
is_number_in_code (Some Symbol) = true
is_number_in_code (Some Variable) = true
is_number_in_code (Some Local) = true
is_number_in_code (Some (Input dimensions)) = true
is_number_in_code other = false

abbrev pub is_input : Option Meaning → Bool
is_input (Some (Input dimensions)) = true
is_input other = false

abbrev pub is_output : Option Meaning → Bool
is_output (Some (Output dimensions)) = true
is_output other = false

-- the dimensions of a connector
abbrev pub dimensions_by : Option Meaning → ℕ
dimensions_by (Some (Input dimensions)) = dimensions
dimensions_by (Some (Output dimensions)) = dimensions
dimensions_by other = 0

abbrev pub signature_by : Option Meaning → Option Signature
signature_by (Some (Program signature)) = signature
signature_by other = None

-- the names with one that is declared with this meaning
abbrev pub with_meaning : Names → Name → Meaning → Names
with_meaning names name meaning = record names { meanings = put names.meanings name meaning }

abbrev pub with_container : Names → Name → Container → Names
with_container names name container = record names { containers = put names.containers name container; declared = noted names.declared name }

-- all of these names with one meaning
abbrev pub all_meaning : Meaning → Names → List Name → Names
all_meaning meaning = fold (λ names name. with_meaning names name meaning)
