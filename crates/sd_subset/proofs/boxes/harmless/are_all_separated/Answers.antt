use Rattle.std.proofs.Common.{◌⊎◌, sym, ◌∙◌}
use Rattle.std.proofs.lemmas.Bool.{true≢false}
use Rattle.sd_subset.specs.boxes.Apart as definition
use Rattle.sd_subset.proofs.boxes_lemmas.Walks.{each-at}
use Rattle.sd_subset.proofs.boxes.harmless.are_all_separated.Goals as goal

pub returns-then-not-branch : goal.returns-then-not-branch
returns-then-not-branch c = (
  λ no. absurd (true≢false (sym no)),
  λ all. sym c.if-not-branch.true ∙ c.in_ok-is_settled.ensures.1 (each-at (λ parameter. definition.IsSingle c.args.around.now parameter ⊎ definition.AreSeparated c.args.own.now parameter c.args.one.now c.args.other.now)
      c.args.own.now c.loop-by.by-index c.by-item.result c.loop-by-test.true c.by-item.is all),
)
