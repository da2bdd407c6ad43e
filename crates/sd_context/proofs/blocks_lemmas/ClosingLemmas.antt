-- What comes of a block that ends.
use Rattle.std.proofs.Common.{◌≡◌, refl, ap, ℕ, suc, ◌+◌, ◌-◌, ◌<◌, List, [], ◌∷◌, ◌++◌, map, take, length, get_or, arith}
use Rattle.std.proofs.lemmas.Grind.{common_steps}
use Rattle.sd_lex.specs.PlainTree.{StatementTree}
use Rattle.sd_lex.specs.TreeFold.{block_listed}
use Rattle.sd_line.specs.declared.line.head.BlockKind.{BlockKind}
use Rattle.sd_context.specs.declared.context.block.Branch.{Branch}
use Rattle.sd_context.specs.context.Context.{Context}
use Rattle.sd_context.specs.context.ContextFold.{branch_of}
use Rattle.sd_context.specs.blocks.Closing.{closed, closed_times, and_then, nested, lines_of, branch_with}

-- the last branch is the other block of those before it
pub nested_last : (kind : BlockKind) (branches : List Branch) (last : Branch) (other : List StatementTree) → nested kind (map branch_of (branches ++ last ∷ [])) other ≡ nested kind (map branch_of branches) (branch_with kind (branch_of last) (block_listed other) ∷ [])
nested_last kind [] last other = refl
nested_last kind (b ∷ branches) last other = ap (λ inner. branch_with kind (branch_of b) (block_listed inner) ∷ []) (nested_last kind branches last other)

-- the last of some branches comes first
pub lines_last : (branches : List Branch) (last : Branch) → lines_of (map branch_of (branches ++ last ∷ [])) ≡ last.line ∷ lines_of (map branch_of branches)
lines_last branches last = grind (arith, common_steps)

pub lines_more : (branches : List Branch) (k : ℕ) (other : Branch) → k < length branches → lines_of (map branch_of (take (k + 1) branches)) ≡ (get_or branches k other).line ∷ lines_of (map branch_of (take k branches))
lines_more branches k other inside = grind (arith, common_steps, lines_last (take k branches) (get_or branches k other))

-- of the blocks that are left to close the innermost one comes first
pub closed_next : (count done : ℕ) (context : Context) → done < count → closed_times (count - done) context ≡ and_then (closed context) (closed_times (count - (done + 1)))
closed_next count done context more =
    let one : count - done ≡ suc (count - (done + 1)) = omega arith in
    rw one refl
