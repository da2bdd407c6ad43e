use Rattle.std.proofs.Common.{◌≡◌, ℕ, List, ◌<◌, ◌≤◌, length, take, get_or, map}
use Rattle.std.specs.BTreeMap.{get_by_text}
use Rattle.sd_json.specs.Entries.{array_kept}
use Rattle.sd_json.proofs.reading.take_arrays.Given as goal

-- the arrays of the names so far, and the entries of those that are left
abbrev pub invariant-loop-name : goal.invariant-loop-name
invariant-loop-name l = record {
  made : l.arrays.items ≡ map (λ name. array_kept (get_by_text l.initial.entries name)) (take l.name-index l.names);
  left : (k : ℕ) (none : List ℕ) → l.name-index ≤ k → k < length l.names → get_by_text l.entries (get_or l.names k none) ≡ get_by_text l.initial.entries (get_or l.names k none);
}
