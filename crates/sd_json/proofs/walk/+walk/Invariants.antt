use Rattle.std.proofs.Common.{◌≡◌, ℕ, ◌+◌, ◌*◌, ◌≤◌, None, length}
use Rattle.json.specs.Json.{items, members, value, parse_map}
use Rattle.serde_json.specs.Data.{Members, no_members}
use Rattle.serde_json.specs.Read.{of_items, of_members, converted}
use Rattle.sd_json.specs.Walk.{items_kept, items_kept_from}
use Rattle.sd_json.proofs.walk.+walk.Given as goal

abbrev pub decreases-read_from : goal.decreases-read_from
decreases-read_from l = 3 * l.depth

abbrev pub decreases-read_item : goal.decreases-read_item
decreases-read_item l = 3 * l.depth + 1

abbrev pub decreases-read_items : goal.decreases-read_items
decreases-read_items l = 3 * l.depth + 2

abbrev pub decreases-pass_members : goal.decreases-pass_members
decreases-pass_members l = 3 * l.depth + 2

-- what is kept of the whole list is what is kept of the items that are left, behind those read
abbrev pub invariant-read_items-items : goal.invariant-read_items-items
invariant-read_items-items l =
    (n : ℕ) × (length l.reader ≤ n)
    × (parse_map (items_kept l.initial.numbers) (converted of_items (items (value l.depth) (length l.initial.reader) l.initial.reader))
    ≡ parse_map (items_kept_from l.rows l.numbers) (converted of_items (items (value l.depth) n l.reader)))
    × (length l.reader ≤ length l.initial.reader)

abbrev pub decreases-read_items-items : goal.decreases-read_items-items
decreases-read_items-items l = length l.reader

-- the members are those that were passed, with those that are left
abbrev pub invariant-pass_members-members : goal.invariant-pass_members-members
invariant-pass_members-members l =
    (n : ℕ) × (passed : Members) × (length l.reader ≤ n)
    × (converted (λ ms. of_members ms no_members) (members (value l.depth) (length l.initial.reader) l.initial.reader) ≡ converted (λ ms. of_members ms passed) (members (value l.depth) n l.reader))
    × (length l.reader ≤ length l.initial.reader) × (l.initial.numbers ≡ None → l.numbers ≡ None)

abbrev pub decreases-pass_members-members : goal.decreases-pass_members-members
decreases-pass_members-members l = length l.reader
