-- What the rewrites of maps ask of an item.
use Rattle.std.specs.Prelude.{ℕ, nat_eq, nat_le, ◌^◌, pos, ◌*ℤ◌, int_le, int_lt, List, [], ◌∷◌, length, Bool, true, false, not, ◌&&◌}
use Rattle.std.specs.List.{list_all, list_any}
use Rattle.sd_range.specs.declared.affine.Affine.{Affine}
use Rattle.sd_range.specs.declared.range.Range.{Range}
use Rattle.sd_graph.specs.PlainTree.{KindTree, map_scope, ItemTrees, no_item, and_item}
use Rattle.sd_validity.specs.rules.Parts.{is_empty}

abbrev pub is_map : KindTree → Bool
is_map (map_scope sequential params private body) = true
is_map kind = false

-- one of these parameters has this number
abbrev pub has_param : List (ℕ × Range) → (variable : ℕ) → Bool
has_param params variable = list_any (λ param. nat_eq variable param.0) params

-- an expression names none of these parameters
abbrev pub names_none : List (ℕ × Range) → Affine → Bool
names_none params a = list_all (λ term. not (has_param params term.0)) a.terms

-- nor does a range, nor those of other parameters
abbrev pub range_names_none : List (ℕ × Range) → Range → Bool
range_names_none params range = names_none params range.begin && list_all (names_none params) range.ends

abbrev pub ranges_name_none : (params others : List (ℕ × Range)) → Bool
ranges_name_none params others = list_all (λ other. range_names_none params other.1) others

-- one map alone
abbrev pub is_sole_map : ItemTrees → Bool
is_sole_map no_item = false
is_sole_map (and_item line kind no_item) = is_map kind
is_sole_map (and_item line kind (and_item next other items)) = false

-- its body is one map alone, and it has no private container
abbrev pub is_round_one_map : KindTree → Bool
is_round_one_map (map_scope sequential params private body) = is_empty private && is_sole_map body
is_round_one_map kind = false

-- the ranges of a map name none of these parameters
abbrev pub is_free_of : List (ℕ × Range) → KindTree → Bool
is_free_of params (map_scope sequential inner private body) = ranges_name_none params inner
is_free_of params kind = true

abbrev pub is_first_free_of : List (ℕ × Range) → ItemTrees → Bool
is_first_free_of params no_item = true
is_first_free_of params (and_item line kind items) = is_free_of params kind

-- the ranges of the map in it name no parameter of its own
abbrev pub is_inner_free : KindTree → Bool
is_inner_free (map_scope sequential params private body) = is_first_free_of params body
is_inner_free kind = true

-- at least two parameters
abbrev pub has_two_params : KindTree → Bool
has_two_params (map_scope sequential (first ∷ second ∷ others) private body) = true
has_two_params kind = false

-- a tile has from 2 to 4,096 values of a parameter
abbrev pub is_size : (size : ℕ) → Bool
is_size size = nat_le 2 size && nat_le size 4096

-- a map with a size for each parameter
abbrev pub has_sizes : (sizes : List ℕ) → KindTree → Bool
has_sizes sizes (map_scope sequential params private body) = nat_eq (length sizes) (length params) && list_all is_size sizes
has_sizes sizes kind = false

-- the size of one parameter: its tiles change no order of points
abbrev pub is_single : (sizes : List ℕ) → Bool
is_single (size ∷ []) = true
is_single sizes = false

-- the begins of tiles are from 1 to 2^40 - 1 apart
abbrev pub are_steps_small : (sizes : List ℕ) → List (ℕ × Range) → Bool
are_steps_small [] params = true
are_steps_small (size ∷ sizes) [] = true
are_steps_small (size ∷ sizes) (param ∷ params) = (int_le (pos 1) (param.1.step *ℤ pos size) && int_lt (param.1.step *ℤ pos size) (pos (2 ^ 40))) && are_steps_small sizes params
