use Rattle.std.proofs.Common.{inl, inr, sym, ◌∙◌, subst}
use Rattle.std.proofs.lemmas.Bool.{true≢false}
use Rattle.sd_range.specs.Arithmetic.{affine_difference}
use Rattle.sd_range.specs.declared.affine.Affine.{Affine}
use Rattle.sd_subset.specs.boxes.Box.{greatest}
use Rattle.sd_subset.specs.boxes.Apart as definition
use Rattle.sd_subset.proofs.boxes_lemmas.Walks.{member-later}
use Rattle.sd_subset.proofs.boxes.harmless.is_single.Goals as goal

pub loop-end-preserved : goal.loop-end-preserved
loop-end-preserved c = λ single.
    let (end, member, below) = c.loop-end.invariant single in
    elim (member-later c.args.parameter.now.1.ends c.loop-end.end-index c.end-item.result end (rw c.as_slice-end-items.ensures at c.loop-end-test.true) (rw c.as_slice-end-items.ensures at c.end-item.is) member) [
      | inl same ↦ absurd (true≢false (sym (c.in_ok-is_near.ensures.1 (subst (λ (e : Affine). definition.IsBelow (greatest c.args.around.now (affine_difference e c.args.parameter.now.1.begin)) c.args.parameter.now.1.step) (sym same) below)) ∙ c.if-branch.false))
      | inr later ↦ (end, later, below)
    ]
