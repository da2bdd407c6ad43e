-- The values of size symbols.
use Rattle.std.specs.Prelude.{ℕ, ◌^◌, ℤ, pos, List, [], ◌∷◌, map, take, Option, Some, None, is_some, Bool, not, ◌&&◌, if◌then◌else◌, int_le, bytes_eq}
use Rattle.sd_graph.specs.PlainTree.{GraphTree, graph}

-- names with a value each
abbrev pub NamedSizes : Type 0
NamedSizes = List (List ℕ × ℤ)

-- the value of a name: that of the first entry that has it
abbrev pub size_of : NamedSizes → (name : List ℕ) → Option ℤ
size_of [] name = None
size_of (entry ∷ entries) name = if bytes_eq name entry.0 then Some entry.1 else size_of entries name

-- a name without a value
abbrev pub has_no_size : NamedSizes → (name : List ℕ) → Bool
has_no_size sizes name = not (is_some (size_of sizes name))

-- a size symbol has a value from 0 to 2^24
abbrev pub is_size : ℤ → Bool
is_size value = int_le (pos 0) value && int_le value (pos (2 ^ 24))

-- what a name that has no value stands for
abbrev pub known_size : Option ℤ → ℤ
known_size None = pos 0
known_size (Some value) = value

-- the value of a name
abbrev pub value_of_size : NamedSizes → (name : List ℕ) → ℤ
value_of_size sizes name = known_size (size_of sizes name)

-- a name whose value is no size
abbrev pub has_bad_size : NamedSizes → (name : List ℕ) → Bool
has_bad_size sizes name = not (is_size (value_of_size sizes name))

-- the names of the size symbols of a graph, in the order of the source
abbrev pub symbols_of : GraphTree → List (List ℕ)
symbols_of (graph name containers arguments variables symbols states) = take symbols variables

-- the first name of which the test holds
abbrev pub first_name : (List ℕ → Bool) → List (List ℕ) → Option (List ℕ)
first_name test [] = None
first_name test (name ∷ names) = if test name then Some name else first_name test names

-- the values of the size symbols, in their order
abbrev pub sizes_in : NamedSizes → GraphTree → List ℤ
sizes_in sizes tree = map (value_of_size sizes) (symbols_of tree)
