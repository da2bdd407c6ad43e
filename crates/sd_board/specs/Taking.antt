-- What a worker is given.
use Rattle.std.specs.Prelude.{ℕ, ⊤}
use Rattle.sd_board.specs.declared.board.Taken.{Taken}
use Rattle.sd_board.specs.declared.board.Taken.TheVariants.{Job as Job_taken, Over}

-- what was cut for a piece that a worker takes is so
abbrev pub IsCutBy : {T : Type 0} → (is_cut : (number : ℕ) → T → Type 0) → Taken T → Type 0
IsCutBy is_cut (Job_taken job cut) = is_cut job.number cut
IsCutBy is_cut Over = ⊤
