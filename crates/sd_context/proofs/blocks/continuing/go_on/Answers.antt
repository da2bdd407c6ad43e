use Rattle.std.proofs.Common.{◌≡◌, ◌∷◌, ◌∙◌, sym, ap, map, reverse}
use Rattle.std.specs.Prelude.{Ok}
use Rattle.std.proofs.lemmas.Result.{IfOk-weaker}
use Rattle.sd_line.specs.line.HeadFold.{head_tree}
use Rattle.sd_context.specs.context.ContextFold.{context_of, open_block_of}
use Rattle.sd_context.specs.blocks.StepFold.{stepped}
use Rattle.sd_context.specs.blocks.Continuing.{with_branch_state, next_judged}
use Rattle.sd_context.proofs.blocks_lemmas.ContinuingLemmas.{continued_is, blocks_last}
use Rattle.sd_context.proofs.blocks.continuing.go_on.Goals as goal

pub returns-in-Some : goal.returns-in-Some
returns-in-Some c =
    let counted = context_of c.count_branch.new.context in
    let head = head_tree c.args.head in
    let is : with_branch_state (open_block_of c.args.context.now.block) (context_of c.args.context.now) ≡ Ok counted = sym c.count_branch.ensures ∙ ap (λ result. stepped result counted) c.in_default.is in
    let blocks : reverse (map open_block_of c.count_branch.new.context.outer.items) ≡ open_block_of c.in-Some.about ∷ reverse (map open_block_of c.pop.new.self.items) = ap (λ items. reverse (map open_block_of items)) c.in-Some.ensures.items ∙ blocks_last c.pop.new.self.items c.in-Some.about in
    let same = continued_is (context_of c.args.context.now) counted (open_block_of c.in-Some.about) (reverse (map open_block_of c.pop.new.self.items)) c.args.line head is blocks in
    IfOk-weaker c.judge_next.result _ _
    (λ step h. h ∙ (ap (λ last. next_judged (open_block_of last) c.args.line head (context_of c.leave-last.new.context)) c.leave-last.ensures.block
    ∙ (ap (next_judged (open_block_of c.count_branch.new.context.block) c.args.line head) c.leave-last.ensures.left ∙ sym same)))
    c.judge_next.ensures
