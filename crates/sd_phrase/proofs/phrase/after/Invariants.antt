use Rattle.std.proofs.Common.{◌≡◌, drop, map}
use Rattle.sd_phrase.specs.Phrase as phrases
use Rattle.sd_phrase.specs.Spans.{AreInside}
use Rattle.sd_phrase.proofs.phrase.after.Given as goal

abbrev pub invariant-loop-word : goal.invariant-loop-word
invariant-loop-word l = record {
  inside : AreInside l.text l.left;
  same : phrases.after l.text (map (λ word. word.now) (drop l.word-index l.phrase)) l.left ≡ phrases.after l.text (map (λ word. word.now) l.phrase) l.tokens;
}
