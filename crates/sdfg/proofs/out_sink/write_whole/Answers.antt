use Rattle.std.proofs.Common.{◌≡◌, ℕ, ◌+◌, ◌-◌, List, ◌++◌, length, take, drop, arith, ap, ◌∙◌, subst, sym}
use Rattle.std.proofs.Math.Seq.{take-add}
use Rattle.std.proofs.lemmas.List.{take_rest}
use Rattle.std.proofs.KnownBytes.{Appends-trans}
use Rattle.std.specs.Io.KnownBytes.{Appends}
use Rattle.sdfg.proofs.out_sink.write_whole.Goals as goal

-- a front, and what is taken next of the rest, is a longer front
longer_front : (n m : ℕ) (xs : List ℕ) → take n xs ++ take m (take (length xs - n) (drop n xs)) ≡ take (n + m) xs
longer_front n m xs = ap (λ ys. take n xs ++ take m ys) (take_rest xs n) ∙ sym (take-add n m xs)

pub loop-taken-preserved : goal.loop-taken-preserved
loop-taken-preserved g c =
    let joined = Appends-trans _ _ _ _ _ c.loop-taken.invariant.front c.in-Ok.ensures.bytes in
    record {
      within = omega (arith, c.in-Ok.ensures.bound);
      front = subst (Appends _ _) (longer_front c.loop-taken.taken c.in-Ok.count c.args.piece.now) joined;
    }
