use Rattle.std.proofs.Common.{◌≡◌, ℕ, ◌+◌, arith}
use Rattle.sd_board.proofs.Ones.{sum_by-ones}
use Rattle.sd_board.proofs.board.run_board.Goals as goal

-- one part for each share, and none left
adds : (left sum count len made workers blank parts : ℕ) → left ≡ 0 → sum ≡ count → len ≡ count → len ≡ made → made ≡ workers → blank ≡ workers → blank ≡ parts → left + sum ≡ parts
adds left sum count len made workers blank parts a b c d e f k = omega arith

pub close-requires : goal.close-requires
close-requires g c =
    adds _ _ _ _ _ _ _ _ c.in-Ok.ensures.parts.0
    (sum_by-ones (λ s. s.parts) c.work_all.new.shares.items c.work_all.ensures.parts) c.work_all.new.shares.ok.0 c.work_all.ensures.count
    c.in-Ok.ensures.parts.1 c.requires.one_each c.requires.parts
