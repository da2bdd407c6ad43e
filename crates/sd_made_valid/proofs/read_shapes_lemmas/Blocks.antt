-- What holds of each statement as its line is accepted holds of it in the blocks that are open, and in those that end.
use Rattle.std.proofs.Common.{◌≡◌, ◌∙◌, ℕ, ℤ, pos, List, [], ◌∷◌, ◌++◌, Bool, true, false, if◌then◌else◌, Option, refl, sym}
use Rattle.std.specs.Bool.{⊤}
use Rattle.std.specs.List.{AllByRecursion}
use Rattle.sd_lex.specs.PlainTree.{Expression, StatementTree, map_scope, tasklet, consume_scope, for_loop, while_loop, branch, tasklet_branch, Block, no_statement, and_statement}
use Rattle.sd_lex.specs.StatementKind.{has_connector}
use Rattle.sd_lex.specs.TreeFold.{block_listed}
use Rattle.sd_phrase.specs.declared.reading.Reading.TheVariants.{Form}
use Rattle.sd_line.specs.declared.line.head.BlockKind.{BlockKind}
use Rattle.sd_line.specs.line.Head.{HeadTree}
use Rattle.sd_names.specs.Names.{Name}
use Rattle.sd_refusal.specs.OverLimit.{is_tasklet}
use Rattle.sd_context.specs.context.Context.{Branch, Opener, file, function, statement, consumer, if_block, else_block, OpenBlock, Awaited, nothing, block, function_def, consume_def}
use Rattle.sd_context.specs.context.Placing.{consumer_of}
use Rattle.sd_context.specs.blocks.Closing.{branch_with, nested, with_body, finished_by}
use Rattle.sd_context.specs.blocks.Continuing.{goes_on, branches_of}
use Rattle.sd_program.specs.Every.{Every, EveryIn}
use Rattle.sd_read.proofs.readable_lemmas.kept.Ahead.{is_consumer}
use Rattle.sd_read.proofs.readable_lemmas.kept.Heads.{IsFile, Opens, IsOpenedIn}
use Rattle.sd_read.proofs.readable_lemmas.kept.Passing.{false_is_not_true}
use Rattle.sd_read.proofs.readable_lemmas.kept.Trees.{bare, all-more, all-joined}

-- ---- statements and those in the blocks below them

module _ (Holds More : StatementTree → Type 0) (so : (s : StatementTree) → Holds s → More s) where
  mutual
    pub every_so : (s : StatementTree) → Every Holds s → Every More s
    every_so (map_scope line parameters ranges body) all = (so (map_scope line parameters ranges body) all.0, each_so body all.1)
    every_so (tasklet line body) all = (so (tasklet line body) all.0, each_so body all.1)
    every_so (consume_scope line stream size name element worker body) all = (so (consume_scope line stream size name element worker body) all.0, each_so body all.1)
    every_so (for_loop line name begin end step body) all = (so (for_loop line name begin end step body) all.0, each_so body all.1)
    every_so (while_loop line when body) all = (so (while_loop line when body) all.0, each_so body all.1)
    every_so (branch line when body other) all = (so (branch line when body other) all.0, (each_so body all.1.0, each_so other all.1.1))
    every_so (tasklet_branch line when body other) all = (so (tasklet_branch line when body other) all.0, (each_so body all.1.0, each_so other all.1.1))
    every_so s all = so s all

    pub each_so : (block : Block) → EveryIn Holds block → EveryIn More block
    each_so no_statement all = tt
    each_so (and_statement first rest) all = (every_so first all.0, each_so rest all.1)

  pub all_so : (statements : List StatementTree) → AllByRecursion (Every Holds) statements → AllByRecursion (Every More) statements
  all_so [] all = tt
  all_so (s ∷ statements) all = (every_so s all.0, all_so statements all.1)

module _ (Holds : StatementTree → Type 0) where
  -- it is of the line of a statement alone, a branch says nothing of it, and a consume scope only where it is no tasklet
  pub record IsOfLines : Type 0 where
    pub fill : (s : StatementTree) → Holds (bare s) → Holds s
    pub branched : (line : ℕ) (when : Expression) (body other : Block) → Holds (branch line when body other)
    pub branched_inside : (line : ℕ) (when : Expression) (body other : Block) → Holds (tasklet_branch line when body other)
    pub consumed : (line : ℕ) (stream : Name) (size : ℤ) (name element : Name) (worker : Option Name) (body : Block) →
        (has_connector body ≡ false → Holds (consume_scope line stream size name element worker no_statement)) → Holds (consume_scope line stream size name element worker body)

  -- ---- the open blocks

  abbrev pub AllHold : List StatementTree → Type 0
  AllHold statements = AllByRecursion (Every Holds) statements

  abbrev pub BranchesHold : List Branch → Type 0
  BranchesHold branches = AllByRecursion (λ b. AllHold b.statements) branches

  abbrev pub Held : BlockKind → Opener → (Own Outside : Type 0) → Type 0
  Held kind file Own Outside = ⊤
  Held kind (function name) Own Outside = Own
  Held kind (statement s) Own Outside = Holds (bare s) × (Own × Outside)
  Held kind (consumer line from size name element worker) Own Outside = (is_tasklet kind ≡ false → Holds (consume_scope line from size name element worker no_statement)) × (Own × Outside)
  Held kind (if_block earlier when) Own Outside = BranchesHold earlier × (Own × Outside)
  Held kind (else_block earlier) Own Outside = BranchesHold earlier × (Own × Outside)

  abbrev pub BlocksHold : List OpenBlock → Type 0
  BlocksHold [] = ⊤
  BlocksHold (b ∷ outer) = Held b.kind b.opener (AllHold b.statements) (BlocksHold outer)

module _ (Holds More : StatementTree → Type 0) (so : (s : StatementTree) → Holds s → More s) where
  branches_so : (branches : List Branch) → BranchesHold Holds branches → BranchesHold More branches
  branches_so [] all = tt
  branches_so (b ∷ branches) all = (all_so Holds More so b.statements all.0, branches_so branches all.1)

  held_so : (kind : BlockKind) (opener : Opener) (Own Outside Own' Outside' : Type 0) → (Own → Own') → (Outside → Outside') → Held Holds kind opener Own Outside → Held More kind opener Own' Outside'
  held_so kind file Own Outside Own' Outside' own outside held = tt
  held_so kind (function name) Own Outside Own' Outside' own outside held = own held
  held_so kind (statement s) Own Outside Own' Outside' own outside held = (so (bare s) held.0, (own held.1.0, outside held.1.1))
  held_so kind (consumer line from size name element worker) Own Outside Own' Outside' own outside held = (λ is. so (consume_scope line from size name element worker no_statement) (held.0 is), (own held.1.0, outside held.1.1))
  held_so kind (if_block earlier when) Own Outside Own' Outside' own outside held = (branches_so earlier held.0, (own held.1.0, outside held.1.1))
  held_so kind (else_block earlier) Own Outside Own' Outside' own outside held = (branches_so earlier held.0, (own held.1.0, outside held.1.1))

  -- what follows of each statement follows in the open blocks
  pub blocks_so : (blocks : List OpenBlock) → BlocksHold Holds blocks → BlocksHold More blocks
  blocks_so [] all = tt
  blocks_so (b ∷ outer) all = held_so b.kind b.opener (AllHold Holds b.statements) (BlocksHold Holds outer) (AllHold More b.statements) (BlocksHold More outer) (all_so Holds More so b.statements) (blocks_so outer) all

module _ (Holds : StatementTree → Type 0) where
  -- more statements in the innermost block
  pub blocks_more : (b : OpenBlock) (outer : List OpenBlock) (more : List StatementTree) → AllHold Holds more → BlocksHold Holds (b ∷ outer) → BlocksHold Holds (record b { statements = b.statements ++ more } ∷ outer)
  blocks_more b outer more good all =
      held_so Holds Holds (λ s holds. holds) b.kind b.opener (AllHold Holds b.statements) (BlocksHold Holds outer) (AllHold Holds (b.statements ++ more)) (BlocksHold Holds outer)
      (λ own. all-joined (Every Holds) b.statements more own good) (λ outside. outside) all

  pub consumer_held : (kind : BlockKind) (before : Awaited) (name element : Name) (worker : Option Name) (Outside : Type 0) →
      ((line : ℕ) (stream : Name) (size : ℤ) → is_tasklet kind ≡ false → Holds (consume_scope line stream size name element worker no_statement)) → Outside → Held Holds kind (consumer_of before name element worker) ⊤ Outside
  consumer_held kind nothing name element worker Outside holds outside = (holds 0 [] (pos 0), (tt, outside))
  consumer_held kind block name element worker Outside holds outside = (holds 0 [] (pos 0), (tt, outside))
  consumer_held kind (function_def at) name element worker Outside holds outside = (holds 0 [] (pos 0), (tt, outside))
  consumer_held kind (consume_def at from size) name element worker Outside holds outside = (holds at from size, (tt, outside))

  pub file_held : (kind : BlockKind) (opener : Opener) (Own Outside : Type 0) → IsFile opener → Held Holds kind opener Own Outside
  file_held kind file Own Outside is = tt
  file_held kind opener Own Outside is = absurd is

  pub listed_hold : (statements : List StatementTree) → AllHold Holds statements → EveryIn Holds (block_listed statements)
  listed_hold [] all = tt
  listed_hold (s ∷ statements) all = (all.0, listed_hold statements all.1)

  -- ---- the statement of a block that ends

  module _ (lines : IsOfLines Holds) where
    body_holds : (kind : BlockKind) (s : StatementTree) (body : Block) → Opens kind s → Holds (bare s) → EveryIn Holds body → Every Holds (with_body s body)
    body_holds kind (map_scope at parameters ranges empty) body opens holds all = (lines.fill (map_scope at parameters ranges body) holds, all)
    body_holds kind (tasklet at empty) body opens holds all = (lines.fill (tasklet at body) holds, all)
    body_holds kind (for_loop at name begin end step empty) body opens holds all = (lines.fill (for_loop at name begin end step body) holds, all)
    body_holds kind (while_loop at when empty) body opens holds all = (lines.fill (while_loop at when body) holds, all)
    body_holds kind s body opens holds all = absurd opens

    branch_holds : (kind : BlockKind) (b : Branch) (other : Block) → AllHold Holds b.statements → EveryIn Holds other → Every Holds (branch_with kind b other)
    branch_holds kind b other all others = by_kind (is_tasklet kind) where
      by_kind : (test : Bool) → Every Holds (if test then tasklet_branch b.line b.when (block_listed b.statements) other else branch b.line b.when (block_listed b.statements) other)
      by_kind true = (lines.branched_inside b.line b.when (block_listed b.statements) other, (listed_hold b.statements all, others))
      by_kind false = (lines.branched b.line b.when (block_listed b.statements) other, (listed_hold b.statements all, others))

    nested_hold : (kind : BlockKind) (branches : List Branch) (other : List StatementTree) → BranchesHold Holds branches → AllHold Holds other → AllHold Holds (nested kind branches other)
    nested_hold kind [] other all others = others
    nested_hold kind (b ∷ branches) other all others =
        (branch_holds kind b (block_listed (nested kind branches other)) all.0 (listed_hold (nested kind branches other) (nested_hold kind branches other all.1 others)), tt)

    pub finished_hold : (about kind : BlockKind) (line : ℕ) (opener : Opener) (statements : List StatementTree) (Outside : Type 0) → IsOpenedIn about kind opener →
        (is_consumer opener ≡ true → has_connector (block_listed statements) ≡ is_tasklet kind) → Held Holds kind opener (AllHold Holds statements) Outside → AllHold Holds (finished_by kind line opener statements)
    finished_hold about kind line file statements Outside opened right held = absurd opened
    finished_hold about kind line (function name) statements Outside opened right held = tt
    finished_hold about kind line (statement s) statements Outside opened right held = (body_holds kind s (block_listed statements) opened.1 held.0 (listed_hold statements held.1.0), tt)
    finished_hold about kind line (consumer at from size name element worker) statements Outside opened right held =
        ((lines.consumed at from size name element worker (block_listed statements) (λ none. held.0 (sym (right refl) ∙ none)), listed_hold statements held.1.0), tt)
    finished_hold about kind line (if_block earlier when) statements Outside opened right held =
        let last : Branch = record { line = line; when = when; statements = statements } in
        nested_hold kind (earlier ++ last ∷ []) [] (all-more (λ b. AllHold Holds b.statements) earlier last held.0 held.1.0) tt
    finished_hold about kind line (else_block earlier) statements Outside opened right held = nested_hold kind earlier statements held.0 held.1.0

  -- the branches behind one that ends, where the next one comes
  pub branches_hold : (kind : BlockKind) (line : ℕ) (statements : List StatementTree) (head : HeadTree) (opener : Opener) (Outside : Type 0) → goes_on (Form head) opener ≡ true →
      Held Holds kind opener (AllHold Holds statements) Outside → BranchesHold Holds (branches_of line statements opener) × Outside
  branches_hold kind line statements head file Outside on held = false_is_not_true on
  branches_hold kind line statements head (function name) Outside on held = false_is_not_true on
  branches_hold kind line statements head (statement s) Outside on held = false_is_not_true on
  branches_hold kind line statements head (consumer at from size name element worker) Outside on held = false_is_not_true on
  branches_hold kind line statements head (if_block earlier when) Outside on held =
      let last : Branch = record { line = line; when = when; statements = statements } in
      (all-more (λ b. AllHold Holds b.statements) earlier last held.0 held.1.0, held.1.1)
  branches_hold kind line statements head (else_block earlier) Outside on held = false_is_not_true on
