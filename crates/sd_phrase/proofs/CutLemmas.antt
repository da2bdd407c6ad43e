-- One step of the search for the sign at which a list is cut.
use Rattle.std.proofs.Common.{arith, get_or, ◌≡◌, refl, ◌≤◌, length, ℕ, ◌+◌, ◌<◌, List, drop, Bool, true, false}
use Rattle.std.specs.Prelude.{Option, Some, None, IfSome, if◌then◌else◌, nat_eq}
use Rattle.sd_phrase.specs.declared.word.Piece.{Piece}
use Rattle.sd_phrase.specs.declared.word.Word.{Word}
use Rattle.sd_phrase.specs.declared.word.Word.TheVariants.{Open, Close}
use Rattle.sd_phrase.specs.declared.word.Sign.{Sign}
use Rattle.sd_phrase.specs.declared.word.Place.{Place}
use Rattle.sd_phrase.specs.Signs.{cut_from, better, better_outside, depth_after, ends, sign_of, cuts_before}
use Rattle.sd_phrase.proofs.PieceLemmas.{rest_at}

pub depth_step : (w : Word) (depth at : ℕ) → depth ≤ at → depth_after w depth ≤ at + 1
depth_step (Open b) d k h = omega arith
depth_step (Close b) d k h = omega arith
depth_step w d k h = omega arith

abbrev pub IsBelow : ℕ → Option Place → Type 0
IsBelow n best = IfSome best (λ p. p.at < n)

better_below : (best : Option Place) (at : ℕ) (s : Option Sign) → IsBelow at best → IsBelow (at + 1) (better best at s)
better_below None at None h = h
better_below (Some p) at None h = omega arith
better_below None at (Some s) h = omega arith
better_below (Some p) at (Some s) h = pick (cuts_before s p.sign)
  where
    pick : (b : Bool) → IsBelow (at + 1) (if b then Some (record { at = at; sign = s }) else Some p)
    pick true = omega arith
    pick false = omega arith

pub outside_below : (depth : ℕ) (best : Option Place) (at : ℕ) (s : Option Sign) → IsBelow at best → IsBelow (at + 1) (better_outside depth best at s)
outside_below depth best at s h = pick (nat_eq depth 0)
  where
    keep : (best : Option Place) → IsBelow at best → IsBelow (at + 1) best
    keep None h = h
    keep (Some p) h = omega arith

    pick : (b : Bool) → IsBelow (at + 1) (if b then better best at s else best)
    pick true = better_below best at s h
    pick false = keep best h

pub cut_step : (depth : ℕ) (after : Bool) (at : ℕ) (best : Option Place) (ts : List Piece) (t : Piece)
    (w : Word) (s : Option Sign) (best' : Option Place) (depth' : ℕ) (after' : Bool) →
    at < length ts → w ≡ (get_or ts at t).word → s ≡ sign_of w after → best' ≡ better_outside depth best at s →
    depth' ≡ depth_after w depth → after' ≡ ends w →
    cut_from depth' after' (at + 1) best' (drop (at + 1) ts) ≡ cut_from depth after at best (drop at ts)
cut_step depth after at best ts t w s best' depth' after' h ew es eb ed ea =
    rw (rest_at ts at t h, ed, ea, eb, es, ew) refl
