-- How a stream that was cut was used.
use Rattle.std.specs.Prelude.{◌≡◌, ◌≤◌, ℕ, ℤ, List, [], length}
use Rattle.sd_cut.specs.declared.streams.StreamUse.{StreamUse}
use Rattle.sd_cut.specs.declared.streams.StreamUse.TheVariants.{Unused, Drained, Appended}

-- where nothing touched it nothing was taken or pushed, where it was only appended to nothing was taken, and no more was taken than was there
abbrev pub IsUsedSo : StreamUse → (taken : ℕ) → (opening pushed : List ℤ) → Type 0
IsUsedSo Unused taken opening pushed = (taken ≡ 0) × (pushed ≡ [])
IsUsedSo Drained taken opening pushed = taken ≤ length opening
IsUsedSo Appended taken opening pushed = taken ≡ 0
