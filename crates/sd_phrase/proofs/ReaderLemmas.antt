-- What the reader's steps rest on: one level of expressions, and the two kinds of subscripts.
use Rattle.std.proofs.Common.{arith, ◌≡◌, refl, ap, sym, ◌∙◌, ◌≤◌, ℕ, zero, suc, ◌+◌, ◌-◌, ◌≢◌, List, drop, take, Bool, true, false}
use Rattle.std.specs.Prelude.{Some, nat_lt, if◌then◌else◌}
use Rattle.std.proofs.lemmas.Bool.Decides.{nat_tests}
use Rattle.sd_phrase.specs.declared.reading.Reading.TheVariants.{NoForm}
use Rattle.sd_phrase.specs.declared.word.Piece.{Piece}
use Rattle.sd_phrase.specs.declared.word.Place.{Place}
use Rattle.sd_phrase.specs.Signs.{rank_of, cut_of}
use Rattle.sd_phrase.specs.ExpressionReading.{reads_by, reads, subscripts, own_subscripts, last_level, by_cut, at_sign}

pub reads_none : (text : List ℕ) (in_body : Bool) (levels rank : ℕ) (ts : List Piece) → levels ≡ 0 →
    reads text in_body levels rank ts ≡ last_level text (own_subscripts text in_body) ts
unfolding reads_by
reads_none text in_body zero rank ts h = refl
reads_none text in_body (suc n) rank ts h = absurd (omega arith)

pub reads_more : (text : List ℕ) (in_body : Bool) (levels rank : ℕ) (ts : List Piece) → levels ≢ 0 →
    reads text in_body levels rank ts ≡ by_cut text (reads text in_body (levels - 1)) (subscripts text in_body (levels - 1)) rank ts (cut_of ts)
unfolding reads_by
reads_more text in_body zero rank ts h = absurd (h refl)
reads_more text in_body (suc n) rank ts h =
    let e : suc n - 1 ≡ n = omega arith in
    ap (λ m. by_cut text (reads text in_body m) (subscripts text in_body m) rank ts (cut_of ts)) (sym e)

not_looser : (a rank : ℕ) → rank ≤ a → nat_lt a rank ≡ false
not_looser a rank h = grind (arith, nat_tests)

pub reads_cut : (text : List ℕ) (in_body : Bool) (levels rank : ℕ) (ts : List Piece) (p : Place) → levels ≢ 0 → cut_of ts ≡ Some p → rank ≤ rank_of p.sign →
    reads text in_body levels rank ts ≡ at_sign (reads text in_body (levels - 1)) p.sign (take p.at ts) (drop (p.at + 1) ts)
reads_cut text in_body levels rank ts p h e l =
    reads_more text in_body levels rank ts h ∙ ap (by_cut text (reads text in_body (levels - 1)) (subscripts text in_body (levels - 1)) rank ts) e
    ∙ ap (λ b. if b then NoForm else at_sign (reads text in_body (levels - 1)) p.sign (take p.at ts) (drop (p.at + 1) ts)) (not_looser (rank_of p.sign) rank l)

pub subscripts_own : (text : List ℕ) (in_body : Bool) (levels : ℕ) → in_body ≡ true → subscripts text in_body levels ≡ reads text false 64 1
subscripts_own text true levels h = refl
subscripts_own text false levels h = cc

pub subscripts_code : (text : List ℕ) (in_body : Bool) (levels : ℕ) → in_body ≡ false → subscripts text in_body levels ≡ reads text false levels 1
subscripts_code text true levels h = cc
subscripts_code text false levels h = refl
