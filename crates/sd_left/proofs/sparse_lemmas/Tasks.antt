-- Counts of the tasklets of a point, one after another.
use Rattle.std.proofs.Common.{◌≡◌, ℕ, suc, ◌+◌, ◌<◌, ◌≤◌, nat_lt, List, map, length, get_or, drop, drop_of_length-le, Bool, true, false, cond, sym, ap, ◌∙◌, arith}
use Rattle.std.proofs.lemmas.Bool.{lt-ltb}
use Rattle.std.specs.List.{sum}
use Rattle.sd_work.specs.Residual.{is_ready}
use Rattle.sd_moves.specs.numbered.Counts.{one_if}
use Rattle.sd_left.specs.left.Telling.{Telling, unfinished_told, ready_moves}
use Rattle.sd_left.proofs.left_lemmas.Sameness.{sum-cons}
use Rattle.sd_left.proofs.left_lemmas.Readiness.{opened}

module _ {A : Type 0} (telling : A → Telling) (parts : List A) where
  -- whether something is left of one from a part on
  abbrev pub left_behind : (index : ℕ) → Bool
  left_behind index = nat_lt 0 (sum (unfinished_told (map telling (drop index parts))))

  abbrev behind_sum : (index : ℕ) → ℕ
  behind_sum index = sum (unfinished_told (map telling (drop index parts)))

  next : (index : ℕ) (part : A) → index < length parts → part ≡ get_or parts index part → behind_sum index ≡ one_if (telling part).is_unfinished + behind_sum (index + 1)
  next index part within is =
      ap (λ (ps : List A). sum (unfinished_told (map telling ps))) (opened telling parts index part within is)
      ∙ sum-cons (one_if (telling part).is_unfinished) (unfinished_told (map telling (drop (index + 1) parts)))

  pub left-here : (index : ℕ) (part : A) → index < length parts → part ≡ get_or parts index part → (telling part).is_unfinished ≡ true → left_behind index ≡ true
  left-here index part within is unfinished =
      let more : behind_sum index ≡ 1 + behind_sum (index + 1) = next index part within is ∙ ap (λ (u : Bool). one_if u + behind_sum (index + 1)) unfinished in
      lt-ltb 0 (behind_sum index) (omega (arith, more))

  pub left-on : (index : ℕ) (part : A) → index < length parts → part ≡ get_or parts index part → (telling part).is_unfinished ≡ false → left_behind index ≡ left_behind (index + 1)
  left-on index part within is over =
      let more : behind_sum index ≡ 0 + behind_sum (index + 1) = next index part within is ∙ ap (λ (u : Bool). one_if u + behind_sum (index + 1)) over in
      let same : behind_sum index ≡ behind_sum (index + 1) = omega (arith, more) in
      ap (λ (n : ℕ). nat_lt 0 n) same

  pub none-left : (index : ℕ) → length parts ≤ index → left_behind index ≡ false
  none-left index over = ap (λ (ps : List A). nat_lt 0 (sum (unfinished_told (map telling ps)))) (drop_of_length-le parts over)

  module _ (before : ℕ → ℕ → Bool) (flags : List Bool) where
    -- the moves of all from a part on
    abbrev pub moves_behind : (index : ℕ) → ℕ
    moves_behind index = sum (ready_moves before flags index (map telling (drop index parts)))

    pub moves-on : (index : ℕ) (part : A) → index < length parts → part ≡ get_or parts index part
        → moves_behind index ≡ cond (is_ready before flags index) (telling part).moves 0 + moves_behind (index + 1)
    moves-on index part within is =
        let more : index + 1 ≡ suc index = omega arith in
        ap (λ (ps : List A). sum (ready_moves before flags index (map telling ps))) (opened telling parts index part within is)
        ∙ sum-cons (cond (is_ready before flags index) (telling part).moves 0) (ready_moves before flags (suc index) (map telling (drop (index + 1) parts)))
        ∙ ap (λ (n : ℕ). cond (is_ready before flags index) (telling part).moves 0 + sum (ready_moves before flags n (map telling (drop (index + 1) parts)))) (sym more)

    pub no-moves : (index : ℕ) → length parts ≤ index → moves_behind index ≡ 0
    no-moves index over = ap (λ (ps : List A). sum (ready_moves before flags index (map telling ps))) (drop_of_length-le parts over)
