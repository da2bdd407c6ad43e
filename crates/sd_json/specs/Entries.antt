-- The entries of an arrays file as they are kept: each that is looked for with its numbers and its shape.
use Rattle.std.specs.Prelude.{◌≡◌, ℕ, ℤ, List, [], Bool, true, false, Option, Some, None, option_map, option_and_then, unwrap_or, slice_get, length, ◌==◌, if◌then◌else◌}
use Rattle.std.specs.BTreeMap.{get_by_text}
use Rattle.std.specs.Option.{is_none}
use Rattle.serde_json.specs.Data.{Data, Members}
use Rattle.serde_json.specs.Find.{get_member}
use Rattle.sd_json.specs.NestedLists.{numbers_of, shape_of}
use Rattle.sd_json.specs.Names.{is_extra}
use Rattle.sd_json.specs.ArraysReading.{least_extra}
use Rattle.sd_json.specs.declared.array.Array.{Array}
use Rattle.sd_json.specs.declared.entry.Entry.{Entry}
use Rattle.sd_json.specs.declared.names.Names.{Names}
use Rattle.sd_json.specs.declared.kept.Kept.{Kept}
use Rattle.sd_json.specs.declared.fault.Fault.{Fault}
use Rattle.sd_json.specs.declared.fault.Fault.TheVariants.{Missing, NoSize, NoNumber, Ragged}

-- what is kept of a value
abbrev pub entry_of : Data → Entry
entry_of value = record { numbers = numbers_of value; shape = shape_of value }

-- the whole number that an entry is, where it is one: a number and no list
abbrev pub size_of : Entry → Option ℤ
size_of entry = option_and_then (λ shape. if length shape == 0 then option_and_then (λ numbers. slice_get numbers 0) entry.numbers else None) entry.shape

-- the size of a symbol, with its name, where it has an entry
abbrev pub size_kept : (symbol : List ℕ) → Option Entry → Option (List ℕ × ℤ)
size_kept symbol found = option_map (λ size. (symbol, size)) (option_and_then size_of found)

-- what is wrong with an entry that was found, or not
abbrev pub has_fault : Fault → Option Entry → Bool
has_fault Missing None = true
has_fault Missing (Some entry) = false
has_fault NoSize None = false
has_fault NoSize (Some entry) = is_none (size_of entry)
has_fault NoNumber None = false
has_fault NoNumber (Some entry) = is_none entry.numbers
has_fault Ragged None = false
has_fault Ragged (Some entry) = is_none entry.shape

-- the array of an entry that was found; what it has not is empty
abbrev pub array_kept : Option Entry → Array
array_kept None = record { shape = []; elements = [] }
array_kept (Some entry) = record { shape = unwrap_or entry.shape []; elements = unwrap_or entry.numbers [] }

-- what is kept of the members of an object: of those that are looked for what is kept of their values, and of the others the least name
pub record AreKept (names : Names) (kept : Kept) (members : Members) : Type 0 where
  pub sought : (name : List ℕ) → is_extra names name ≡ false → get_by_text kept.entries name ≡ option_map entry_of (get_member name members)
  pub extra : kept.extra ≡ least_extra names members

-- it is that of an object
abbrev pub AreOfObject : Names → Kept → Type 0
AreOfObject names kept = (members : Members) × AreKept names kept members
