-- Tables of which variables have a rank, one naming after another.
use Rattle.std.specs.Prelude.{List, Bool, false, if◌then◌else◌, slice_set}
use Rattle.std.specs.List.{list_all}
use Rattle.sd_validity.specs.rules.Ranks.{Naming, is_ranked}

-- a table in which the variable of a naming has no rank, where that names one without a rank by another table
abbrev pub lowered : (table next : List Bool) → Naming → List Bool
lowered table next naming = if list_all (is_ranked table) naming.named then next else slice_set next naming.variable false
