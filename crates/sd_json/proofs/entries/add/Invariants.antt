use Rattle.std.proofs.Common.{◌≡◌, ℕ, List, ◌||◌, take, bytes_eq}
use Rattle.std.specs.List.{list_any}
use Rattle.std.specs.BTreeSet.{contains_text}
use Rattle.sd_json.proofs.entries.add.Given as goal

-- those that were there, and the names so far
abbrev pub invariant-loop-name : goal.invariant-loop-name
invariant-loop-name l = (name : List ℕ) → contains_text l.set name ≡ (contains_text l.initial.set name || list_any (bytes_eq name) (take l.name-index l.names))
