-- How the values of a map's first parameter are shared out: one piece after another, of as many values as another one or of one more.
use Rattle.std.specs.Prelude.{ℕ, suc, ◌*◌, ◌/◌, ◌-◌, min, List, map}
use Rattle.sd_graph.specs.LoopScope.{numbers_below}

-- so many pieces there are: as many as workers, or as values where these are fewer
abbrev pub piece_count : (values workers : ℕ) → ℕ
piece_count values workers = min values workers

-- how many values stand before a piece of so many pieces
abbrev pub before_piece : (values pieces piece : ℕ) → ℕ
before_piece values pieces piece = piece * values / pieces

-- so it is where there are so many workers
abbrev pub values_before : (values workers piece : ℕ) → ℕ
values_before values workers piece = before_piece values (piece_count values workers) piece

-- how many values a piece has
abbrev pub values_in : (values workers piece : ℕ) → ℕ
values_in values workers piece = values_before values workers (suc piece) - values_before values workers piece

-- how many each piece has, in order
abbrev pub values_in_each : (values workers : ℕ) → List ℕ
values_in_each values workers = map (values_in values workers) (numbers_below (piece_count values workers))
