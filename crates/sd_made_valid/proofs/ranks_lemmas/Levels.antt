-- The levels of the variables of a program, in the order of the text: how many scopes and loops are about the map or loop of each.
use Rattle.std.proofs.Common.{◌≡◌, inl, inr, ℕ, zero, suc, ◌+◌, ◌<◌, ◌≤◌, List, [], ◌∷◌, ◌++◌, length, replicate, slice_index_or, refl, sym, subst, arith, length-append}
use Rattle.std.specs.Prelude.{⊤}
use Rattle.std.proofs.lemmas.List.{length-replicate}
use Rattle.sd_lex.specs.PlainTree.{StatementTree, map_scope, consume_scope, for_loop, while_loop, branch, Block, no_statement, and_statement}
use Rattle.sd_elab.specs.items.Counts.{variables_in, variables_in_all}
use Rattle.sd_made.proofs.elab_lemmas.StateRanges.{split}

abbrev mutual
  -- those of a statement, with so many scopes and loops about it
  pub levels_of : StatementTree → (depth : ℕ) → List ℕ
  levels_of (map_scope line parameters ranges body) depth = replicate (length parameters) depth ++ levels_of_all body (depth + 1)
  levels_of (consume_scope line stream size name element worker body) depth = levels_of_all body (depth + 1)
  levels_of (for_loop line name begin end step body) depth = depth ∷ levels_of_all body (depth + 1)
  levels_of (while_loop line when body) depth = levels_of_all body (depth + 1)
  levels_of (branch line when body other) depth = levels_of_all body depth ++ levels_of_all other depth
  levels_of statement depth = []

  pub levels_of_all : Block → (depth : ℕ) → List ℕ
  levels_of_all no_statement depth = []
  levels_of_all (and_statement first rest) depth = levels_of first depth ++ levels_of_all rest depth

mutual
  pub one_counted : (statement : StatementTree) (depth : ℕ) → length (levels_of statement depth) ≡ variables_in statement
  one_counted (map_scope line parameters ranges body) depth =
      omega (arith, length-append (replicate (length parameters) depth) (levels_of_all body (depth + 1)), length-replicate (length parameters) depth, all_counted body (depth + 1))
  one_counted (consume_scope line stream size name element worker body) depth = all_counted body (depth + 1)
  one_counted (for_loop line name begin end step body) depth = omega (arith, all_counted body (depth + 1))
  one_counted (while_loop line when body) depth = all_counted body (depth + 1)
  one_counted (branch line when body other) depth = omega (arith, length-append (levels_of_all body depth) (levels_of_all other depth), all_counted body depth, all_counted other depth)
  one_counted statement depth = refl

  pub all_counted : (block : Block) (depth : ℕ) → length (levels_of_all block depth) ≡ variables_in_all block
  all_counted no_statement depth = refl
  all_counted (and_statement first rest) depth = omega (arith, length-append (levels_of first depth) (levels_of_all rest depth), one_counted first depth, all_counted rest depth)

-- ---- by the numbers of variables

module _ (level : ℕ → ℕ) where
  -- the variables from this one on have these levels
  abbrev pub AreFrom : (variable : ℕ) → List ℕ → Type 0
  AreFrom variable [] = ⊤
  AreFrom variable (first ∷ rest) = (level variable ≡ first) × AreFrom (variable + 1) rest

  pub from_both : (first second : List ℕ) (variable next : ℕ) → variable + length first ≡ next → AreFrom variable (first ++ second) → AreFrom variable first × AreFrom next second
  from_both [] second variable next e are = (tt, subst (λ variable. AreFrom variable second) (omega (arith, e)) are)
  from_both (one ∷ first) second variable next e are =
      let others : AreFrom (variable + 1) first × AreFrom next second = from_both first second (variable + 1) next (omega (arith, e)) are.1 in
      ((are.0, others.0), others.1)

  -- variables of one level
  pub all_at : (count depth variable number : ℕ) → AreFrom variable (replicate count depth) → variable ≤ number → number < variable + count → level number ≡ depth
  all_at zero depth variable number are least most = absurd (omega (arith, least, most))
  all_at (suc count) depth variable number are least most = elim (split number (variable + 1)) [
    | inl same ↦ subst (λ number. level number ≡ depth) (omega (arith, same, least)) are.0
    | inr later ↦ all_at count depth (variable + 1) number are.1 later (omega (arith, most))
  ]

abbrev pub level_in : List ℕ → ℕ → ℕ
level_in levels number = slice_index_or levels number 0

one_more : (first : ℕ) (levels list : List ℕ) (variable next : ℕ) → next ≡ suc variable → AreFrom (level_in levels) variable list → AreFrom (level_in (first ∷ levels)) next list
one_more first levels [] variable next e are = tt
one_more first levels (one ∷ list) variable next e are =
    (subst (λ number. level_in (first ∷ levels) number ≡ one) (sym e) are.0, one_more first levels list (variable + 1) (next + 1) (omega (arith, e)) are.1)

all_from : (list : List ℕ) → AreFrom (level_in list) 0 list
all_from [] = tt
all_from (one ∷ list) = (refl, one_more one list list 0 (0 + 1) (omega arith) (all_from list))

-- a list behind others
pub from_behind : (before list : List ℕ) → AreFrom (level_in (before ++ list)) (length before) list
from_behind [] list = all_from list
from_behind (first ∷ before) list = one_more first (before ++ list) list (length before) (length (first ∷ before)) (omega arith) (from_behind before list)
