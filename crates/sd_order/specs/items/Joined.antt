-- What items do to containers, in one mode for each container.
use Rattle.std.specs.Prelude.{ℕ, nat_eq, List, [], ◌∷◌, Option, Some, None, option_map, Bool, false, if◌then◌else◌, slice_index_or}
use Rattle.std.specs.List.{list_any}
use Rattle.sd_graph.specs.Mode.{Mode, do_conflict, common_mode}
use Rattle.sd_graph.specs.Wiring.{Use}
use Rattle.sd_wire.specs.wiring.Mentioned.{mode_of}
use Rattle.sd_wire.specs.declared.wiring.mode.UseMode.{UseMode}

-- the mode of a container; none where nothing was done to it
abbrev pub mode_at : List (Option UseMode) → (container : ℕ) → Option Mode
mode_at modes container = option_map mode_of (slice_index_or modes container None)

-- a mode beside that of a container, in one
abbrev pub with_mode : Option Mode → Mode → Mode
with_mode None other = other
with_mode (Some mode) other = common_mode mode other

-- the mode of a container with a use more
abbrev pub with_use : (container : ℕ) → Option Mode → Use → Option Mode
with_use container mode use' = if nat_eq use'.container container then Some (with_mode mode use'.mode) else mode

-- with these uses more
abbrev pub joined_behind : (container : ℕ) → Option Mode → List Use → Option Mode
joined_behind container mode [] = mode
joined_behind container mode (use' ∷ uses) = joined_behind container (with_use container mode use') uses

-- a mode conflicts with that of a container
abbrev pub meets : Option Mode → Mode → Bool
meets None other = false
meets (Some mode) other = do_conflict mode other

-- one of the uses conflicts with the mode of its container
abbrev pub meets_one : (modes : ℕ → Option Mode) → List Use → Bool
meets_one modes uses = list_any (λ use'. meets (modes use'.container) use'.mode) uses
