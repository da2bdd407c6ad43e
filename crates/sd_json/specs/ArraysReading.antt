-- What an arrays file gives to a graph, or the first case that refuses it.
use Rattle.std.specs.Prelude.{ℕ, ℤ, List, [], map, Bool, false, Option, Some, None, option_map, option_and_then, unwrap_or, Result, Ok, Err, if◌then◌else◌}
use Rattle.std.specs.Option.{is_none, option_or, option_map_or}
use Rattle.std.specs.List.{find, filter_map}
use Rattle.std.specs.Ordering.{nat_cmp, min_by_ordering}
use Rattle.std.specs.Cmp.Lexicographic.{slice_cmp}
use Rattle.std.specs.Str.{is_utf8}
use Rattle.serde_json.specs.Data.{Data, Members, no_members, member}
use Rattle.serde_json.specs.Read.{read}
use Rattle.serde_json.specs.Find.{get_member, as_object}
use Rattle.sd_json.specs.NestedLists.{whole_number, numbers_of, shape_of}
use Rattle.sd_json.specs.Given.{Contents}
use Rattle.sd_json.specs.Names.{is_extra}
use Rattle.sd_json.specs.declared.array.Array.{Array}
use Rattle.sd_json.specs.declared.names.Names.{Names}
use Rattle.sd_json.specs.declared.error.InputError.{InputError}
use Rattle.sd_json.specs.declared.error.InputError.TheVariants.{NotJson, Missing, Extra, NotANumber, Ragged}

-- the entries of the object that a file is, where its bytes are text that reads as one; of two with one name the last counts
abbrev pub entries_of : (bytes : List ℕ) → Option Members
entries_of bytes = if is_utf8 bytes then option_and_then as_object (read bytes) else None

-- an argument that no entry has as its name
abbrev pub is_missing : Members → (argument : List ℕ) → Bool
is_missing entries argument = is_none (get_member argument entries)

-- the lesser of a name and another one, if there is another, in byte order
abbrev pub lesser : (name : List ℕ) → Option (List ℕ) → List ℕ
lesser name None = name
lesser name (Some other) = min_by_ordering (slice_cmp nat_cmp name other) name other

-- the least name, in byte order, of the entries that are neither a size symbol's nor an argument's
abbrev pub least_extra : Names → Members → Option (List ℕ)
least_extra names no_members = None
least_extra names (member name value entries) =
    if is_extra names name then Some (lesser name (least_extra names entries)) else least_extra names entries

-- a size symbol whose entry is no whole number; one without an entry is none of these
abbrev pub is_no_size : Members → (symbol : List ℕ) → Bool
is_no_size entries symbol = option_map_or (λ value. is_none (whole_number value)) (get_member symbol entries) false

-- an argument whose entry has a leaf that is no whole number
abbrev pub has_no_number : Members → (argument : List ℕ) → Bool
has_no_number entries argument = option_map_or (λ value. is_none (numbers_of value)) (get_member argument entries) false

-- an argument whose entry has no shape
abbrev pub is_ragged : Members → (argument : List ℕ) → Bool
is_ragged entries argument = option_map_or (λ value. is_none (shape_of value)) (get_member argument entries) false

-- the first case that refuses the entries of a file
abbrev pub refusal_of : Names → Members → Option InputError
refusal_of names entries =
    option_or (option_map Missing (find (is_missing entries) names.arguments))
    (option_or (option_map Extra (least_extra names entries))
    (option_or (option_map NotANumber (find (is_no_size entries) names.symbols))
    (option_or (option_map NotANumber (find (has_no_number entries) names.arguments))
    (option_map Ragged (find (is_ragged entries) names.arguments)))))

-- the size of a symbol, with its name, where it has an entry
abbrev pub size_in : Members → (symbol : List ℕ) → Option (List ℕ × ℤ)
size_in entries symbol = option_map (λ size. (symbol, size)) (option_and_then whole_number (get_member symbol entries))

-- the array of a value
abbrev pub array_of : Data → Array
array_of value = record { shape = unwrap_or (shape_of value) []; elements = unwrap_or (numbers_of value) [] }

-- the array of an argument; one without an entry would have none
abbrev pub array_in : Members → (argument : List ℕ) → Array
array_in entries argument = option_map_or array_of (get_member argument entries) (record { shape = []; elements = [] })

-- what the entries of a file give, where no case refuses them
abbrev pub contents_in : Names → Members → Contents
contents_in names entries = record { sizes = filter_map (size_in entries) names.symbols; arrays = map (array_in entries) names.arguments }

-- what a file's entries give, or the first case that refuses
abbrev pub entries_reading : Names → Option Members → Result Contents InputError
entries_reading names None = Err NotJson
entries_reading names (Some entries) = option_map_or Err (refusal_of names entries) (Ok (contents_in names entries))

-- the reading of an arrays file
abbrev pub arrays_reading : Names → (bytes : List ℕ) → Result Contents InputError
arrays_reading names bytes = entries_reading names (entries_of bytes)
