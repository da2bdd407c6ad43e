-- The values of a range.
use Rattle.std.specs.Prelude.{ℕ, zero, suc, ◌+◌, ◌/◌, ◌<◌, ◌≤◌, ℤ, pos, ◌+ℤ◌, ◌-ℤ◌, List, [], ◌∷◌, length, ◌<ℤ◌, unsigned_abs, map, int_lt, if◌then◌else◌}
use Rattle.std.specs.List.{All, fold}
use Rattle.std.specs.Int.{int_min}
use Rattle.sd_range.specs.Affine.{affine_value, IsEvaluable}
use Rattle.sd_range.specs.declared.affine.Affine.{Affine}
use Rattle.sd_range.specs.declared.range.Range.{Range}

-- one to four ends, and a step of at least 1
pub record IsRange (r : Range) : Type 0 where
  pub ended : 0 < length r.ends
  pub few_ends : length r.ends ≤ 4
  pub rises : pos 0 <ℤ r.step

-- the values of a range's expressions can be told
pub record IsEvaluableRange (values : List ℤ) (r : Range) : Type 0 where
  pub begin : IsEvaluable values r.begin
  pub ends : All (IsEvaluable values) r.ends

-- the least of the values of the ends
abbrev pub least_value : List ℤ → List Affine → ℤ
least_value values [] = pos 0
least_value values (end ∷ ends) = fold int_min (affine_value values end) (map (affine_value values) ends)

-- how many numbers there are from begin to last, a step apart
abbrev pub count_between : ℤ → ℤ → ℤ → ℕ
count_between begin last step = if int_lt last begin then 0 else unsigned_abs (last -ℤ begin) / unsigned_abs step + 1

-- so many numbers from begin on, a step apart
abbrev pub counted_from : ℤ → ℤ → ℕ → List ℤ
counted_from begin step zero = []
counted_from begin step (suc count) = begin ∷ counted_from (begin +ℤ step) step count

-- begin, begin plus step, and so on, as long as they are not above last
abbrev pub stepped : ℤ → ℤ → ℤ → List ℤ
stepped begin last step = counted_from begin step (count_between begin last step)

-- the values of a range: from its begin up to the least of its ends
abbrev pub range_values : List ℤ → Range → List ℤ
range_values values r = stepped (affine_value values r.begin) (least_value values r.ends) r.step
