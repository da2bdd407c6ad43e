use Rattle.std.proofs.Common.{◌≡◌, ℕ, ◌≤◌, length}
use Rattle.json.specs.Json.{members, value}
use Rattle.serde_json.specs.Data.{Members, no_members}
use Rattle.serde_json.specs.Read.{of_members, converted}
use Rattle.sd_json.specs.Entries.{AreKept}
use Rattle.sd_json.proofs.object.read_members.Given as goal

-- the members are those of which something was kept, with those that are left
abbrev pub invariant-members : goal.invariant-members
invariant-members l =
    (n : ℕ) × (old : Members) × (length l.reader ≤ n)
    × (converted (λ ms. of_members ms no_members) (members (value l.depth) (length l.initial.reader) l.initial.reader) ≡ converted (λ ms. of_members ms old) (members (value l.depth) n l.reader))
    × AreKept l.names l.kept old

abbrev pub decreases-members : goal.decreases-members
decreases-members l = length l.reader
