use Rattle.std.proofs.Common.{◌≡◌, true, false, refl, sym}
use Rattle.std.proofs.lemmas.List.Elements.{All-from_recursion}
use Rattle.sd_range.specs.Axis.{IsFilled}
use Rattle.sd_range.proofs.After.{tuples-empty}
use Rattle.sd_range.proofs.stage.opening_stage.Goals as goal

none : false ≡ true → ⊥
none h = cc

pub returns-else-are_filled : goal.returns-else-are_filled
returns-else-are_filled c = record {
  current = refl;
  left = sym (tuples-empty c.args.axes.now (λ filled. none (c.if-are_filled.ensures.1 (All-from_recursion IsFilled c.args.axes.now filled))));
  ready = refl;
}
