-- Files that are told, and what is read of them.
use Rattle.std.proofs.Common.{◌≡◌, ℕ, ◌<◌, ◌≤◌, List, Some, length, subst, arith}
use Rattle.sd_io.specs.Count.{HasRisen}
use Rattle.sd_io.specs.Shelf.{IsToldLonger}
use Rattle.sd_tool.specs.Answer.{Answer}
use Rattle.sd_tool.specs.Files.{ShelfUse, Reads, Unread, faulty, longer}
use Rattle.sd_tool.proofs.Reading.{read_is_told}

-- a file that is told within its limit, and whose count did not rise, is read
pub not_unread : (shelf : ShelfUse) (name content : List ℕ) (limit : ℕ) {answer : Answer} → shelf.told name ≡ Some content → length content ≤ limit →
    ¬ HasRisen (shelf.faults_before name) (shelf.faults_after name) → Unread shelf name limit answer → ⊥
not_unread shelf name content limit told within quiet (faulty rose) = quiet rose
not_unread shelf name content limit told within quiet (longer long rose) =
    let above : limit < length content = subst (λ t. IsToldLonger t limit) told long in
    absurd (omega arith)

-- what is read of a file is its content
pub read_content : (shelf : ShelfUse) (name content bytes : List ℕ) (limit : ℕ) → shelf.told name ≡ Some content → Reads shelf name limit bytes → bytes ≡ content
read_content shelf name content bytes limit told reads = read_is_told (shelf.told name) content bytes told reads.told
