use Rattle.std.proofs.Common.{◌≡◌, ◌≤◌, ◌+◌, refl, rules, arith, sym, ℕ, Bool, true, false, length, drop, subst}
use Rattle.std.specs.Prelude.{if◌then◌else◌}
use Rattle.sd_phrase.specs.Parts.{parts_from}
use Rattle.sd_phrase.proofs.CutLemmas.{depth_step}
use Rattle.sd_phrase.proofs.PartLemmas.{count_step, count_keeps}
use Rattle.sd_phrase.proofs.parts.part_count.Goals as goal

small : (b : Bool) (count at : ℕ) → count ≤ at + 1 → (if b then count + 1 else count) ≤ at + 1 + 1
small true count at h = omega arith
small false count at h = omega arith

pub loop-at-preserved : goal.loop-at-preserved
loop-at-preserved c =
    record {
      depth_small = search (rules, depth_step);
      count_small = rw c.counted-count.ensures (small c.is_mark_outside.result c.loop-at.count c.loop-at.at c.loop-at.invariant.count_small);
      count = rw c.counted-count.ensures (count_keeps c.is_mark_outside.result c.loop-at.count _ _ _
          (subst (λ (b : Bool). length (parts_from c.args.mark c.loop-at.depth (drop c.loop-at.at c.args.tokens.now))
          ≡ (if b then length (parts_from c.args.mark c.depth_after-depth.result (drop (c.loop-at.at + 1) c.args.tokens.now)) + 1 else length (parts_from c.args.mark c.depth_after-depth.result (drop (c.loop-at.at + 1) c.args.tokens.now))))
          (sym c.is_mark_outside.ensures) (count_step c.args.mark c.loop-at.depth c.loop-at.at c.args.tokens.now _ _ _ c.loop-at-test.true refl c.depth_after-depth.ensures))
          c.loop-at.invariant.count);
    }
