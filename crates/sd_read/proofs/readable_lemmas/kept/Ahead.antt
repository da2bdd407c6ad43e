-- The block of a consume is opened as a tasklet where a connector line is ahead; where it ends, it has one.
use Rattle.std.proofs.Common.{◌≡◌, ℕ, zero, suc, ◌+◌, ◌-◌, List, [], ◌∷◌, ◌++◌, nat_eq, nat_lt, Bool, true, false, not, ◌||◌, ◌&&◌, if◌then◌else◌, refl, ap, sym, ◌∙◌, subst, arith}
use Rattle.std.specs.Bool.{⊤}
use Rattle.std.proofs.lemmas.Bool.{eqb-true, eq-eqb, ne_eqb, lt-ltb, ltb-true, le-ltb, ltb-false}
use Rattle.sd_lex.specs.PlainTree.{StatementTree, argument_array, local_array, local_stream, assign, copy, reduce, map_scope, tasklet, consume_scope, call, for_loop, while_loop, branch, input, output, set, set_at, tasklet_branch, Block}
use Rattle.sd_lex.specs.StatementKind.{is_connector, has_connector}
use Rattle.sd_lex.specs.TreeFold.{block_listed}
use Rattle.sd_line.specs.declared.line.head.BlockKind.{BlockKind}
use Rattle.sd_refusal.specs.OverLimit.{is_tasklet}
use Rattle.sd_context.specs.context.Awaiting.{comes_right}
use Rattle.sd_context.specs.context.Context.{Branch, Opener, file, function, statement, consumer, if_block, else_block, OpenBlock, Awaited, nothing, block, function_def, consume_def, Context}
use Rattle.sd_context.specs.blocks.Closing.{branch_with, nested, with_body, finished_by, finished, closed_by, closed_into}
use Rattle.sd_line.specs.lines.Lines.{Line, connects_from, has_connector_line}
use Rattle.sd_read.proofs.readable_lemmas.kept.Heads.{Opens, IsOpenedIn, IsFile, AreNested}
use Rattle.sd_read.proofs.readable_lemmas.kept.Passing.{true_is_not_false, false_is_not_true}

-- what is ahead within a line: how many blocks it still closes, whether it begins as a connector line, and the lines behind it
pub record Ahead : Type 0 where
  pub closes : ℕ
  pub connects : Bool
  pub lines : List Line

abbrev pub ahead : (closes : ℕ) → (connects : Bool) → List Line → Ahead
ahead closes connects lines = record { closes = closes; connects = connects; lines = lines }

-- a connector line of a block is ahead, where so many others are open in the block
abbrev pub seen : Ahead → (inner : ℕ) → Bool
seen a inner = if nat_lt inner a.closes then false else (nat_eq inner a.closes && a.connects) || connects_from (inner - a.closes) a.lines

abbrev pub connects_in : List StatementTree → Bool
connects_in [] = false
connects_in (s ∷ statements) = is_connector s || connects_in statements

abbrev pub is_consumer : Opener → Bool
is_consumer (consumer line from size name element worker) = true
is_consumer opener = false

-- only tasklets have connectors, and the block of a consume that is one has one by now or ahead
pub record Promises (b : OpenBlock) (ahead : Bool) : Type 0 where
  pub pure : is_tasklet b.kind ≡ false → connects_in b.statements ≡ false
  pub owed : is_consumer b.opener ≡ true → is_tasklet b.kind ≡ true → connects_in b.statements || ahead ≡ true

abbrev pub AllPromise : (ahead : ℕ → Bool) → List OpenBlock → Type 0
AllPromise ahead [] = ⊤
AllPromise ahead (b ∷ outer) = Promises b (ahead zero) × AllPromise (λ n. ahead (suc n)) outer

-- within a line, and between two; a block that is awaited is the innermost one, and opens with the next line
abbrev pub Within : Ahead → Context → Type 0
Within a context = AllPromise (seen a) (context.block ∷ context.outer)

abbrev pub BetweenBy : Awaited → List Line → OpenBlock → List OpenBlock → Type 0
BetweenBy block lines inner outer = Promises inner (has_connector_line lines) × AllPromise (λ n. connects_from n lines) outer
BetweenBy awaited lines inner outer = AllPromise (λ n. connects_from n lines) (inner ∷ outer)

abbrev pub Between : List Line → Context → Type 0
Between lines context = BetweenBy context.awaited lines context.block context.outer

-- the block of a consume that ends has a connector exactly where it is a tasklet
abbrev pub EndsRight : OpenBlock → Type 0
EndsRight b = is_consumer b.opener ≡ true → has_connector (block_listed b.statements) ≡ is_tasklet b.kind

-- ---- lists

pub promise-map : (f g : ℕ → Bool) (blocks : List OpenBlock) → ((n : ℕ) → f n ≡ true → g n ≡ true) → AllPromise f blocks → AllPromise g blocks
promise-map f g [] more all = tt
promise-map f g (b ∷ outer) more all = (
  record { pure = all.0.pure; owed = λ taken is. by_or (connects_in b.statements) (f zero) (g zero) (more zero) (all.0.owed taken is) },
  promise-map (λ n. f (suc n)) (λ n. g (suc n)) outer (λ n. more (suc n)) all.1,
) where
  by_or : (a x y : Bool) → (x ≡ true → y ≡ true) → a || x ≡ true → a || y ≡ true
  by_or true x y more is = refl
  by_or false x y more is = more is

pub connects-joined : (xs ys : List StatementTree) → connects_in (xs ++ ys) ≡ connects_in xs || connects_in ys
connects-joined [] ys = refl
connects-joined (x ∷ xs) ys = ap (λ b. is_connector x || b) (connects-joined xs ys) ∙ or-or (is_connector x) (connects_in xs) (connects_in ys) where
  or-or : (a b c : Bool) → a || (b || c) ≡ a || b || c
  or-or true b c = refl
  or-or false b c = refl

pub connects-listed : (statements : List StatementTree) → has_connector (block_listed statements) ≡ connects_in statements
connects-listed [] = refl
connects-listed (s ∷ statements) = ap (λ b. is_connector s || b) (connects-listed statements)

-- a block with more statements
pub promise-more : (b : OpenBlock) (ahead : Bool) (more : List StatementTree) → (is_tasklet b.kind ≡ false → connects_in more ≡ false) → Promises b ahead → Promises (record b { statements = b.statements ++ more }) ahead
promise-more b ahead more none promises = record {
  pure = λ is. connects-joined b.statements more ∙ both (connects_in b.statements) (connects_in more) (promises.pure is) (none is);
  owed = λ taken is. ap (λ c. c || ahead) (connects-joined b.statements more) ∙ left (connects_in b.statements) (connects_in more) ahead (promises.owed taken is);
} where
  both : (a c : Bool) → a ≡ false → c ≡ false → a || c ≡ false
  both true c none others = none
  both false c none others = others

  left : (a c ahead : Bool) → a || ahead ≡ true → a || c || ahead ≡ true
  left true c ahead is = refl
  left false true ahead is = refl
  left false false ahead is = is

-- ---- a line begins

opened-ahead : (n : ℕ) (line : Line) (rest : List Line) → line.opens ≡ true → connects_from n (line ∷ rest) ≡ seen (ahead line.closes line.connects rest) (n + 1)
opened-ahead n line rest is = ap (λ opens. seen (ahead line.closes line.connects rest) (if opens then n + 1 else n)) is

same-ahead : (n : ℕ) (line : Line) (rest : List Line) → line.opens ≡ false → connects_from n (line ∷ rest) ≡ seen (ahead line.closes line.connects rest) n
same-ahead n line rest is = ap (λ opens. seen (ahead line.closes line.connects rest) (if opens then n + 1 else n)) is

both_true : (a b : Bool) → a && b ≡ true → (a ≡ true) × (b ≡ true)
both_true true b is = (refl, is)
both_true false b is = false_is_not_true is

negated : (a : Bool) → not a ≡ true → a ≡ false
negated true is = sym is
negated false is = refl

one-more : (n : ℕ) → n + 1 ≡ suc n
one-more n = omega arith

-- of the block that the line opens
first-ahead : (line : Line) (rest : List Line) → line.closes ≡ 0 → has_connector_line (line ∷ rest) ≡ true → seen (ahead line.closes line.connects rest) zero ≡ true
first-ahead line rest is has =
    subst (λ closes. seen (ahead closes line.connects rest) zero ≡ true) (sym is) (both_true line.opens (line.connects || connects_from 0 rest) has).1

pub starts : (context : Context) (line : Line) (rest : List Line) → comes_right context.awaited line.opens line.closes ≡ true → Between (line ∷ rest) context →
    Within (ahead line.closes line.connects rest) context
starts context line rest right between = by_awaited context.awaited right between where
  now : Ahead
  now = ahead line.closes line.connects rest

  blocks : List OpenBlock
  blocks = context.block ∷ context.outer

  plain : line.opens ≡ false → AllPromise (λ n. connects_from n (line ∷ rest)) blocks → AllPromise (seen now) blocks
  plain closed all = promise-map (λ n. connects_from n (line ∷ rest)) (seen now) blocks (λ n is. sym (same-ahead n line rest closed) ∙ is) all

  by_awaited : (awaited : Awaited) → comes_right awaited line.opens line.closes ≡ true → BetweenBy awaited (line ∷ rest) context.block context.outer → AllPromise (seen now) blocks
  by_awaited nothing right all = plain (negated line.opens right) all
  by_awaited block right all =
      let both = both_true line.opens (nat_eq line.closes 0) right in
      let none = eqb-true line.closes 0 both.1 in (
        record { pure = all.0.pure; owed = λ taken is. by_or (connects_in context.block.statements) (has_connector_line (line ∷ rest)) (seen now zero) (first-ahead line rest none) (all.0.owed taken is) },
        promise-map (λ n. connects_from n (line ∷ rest)) (λ n. seen now (suc n)) context.outer (λ n is. ap (seen now) (sym (one-more n)) ∙ sym (opened-ahead n line rest both.0) ∙ is) all.1,
      ) where
        by_or : (a x y : Bool) → (x ≡ true → y ≡ true) → a || x ≡ true → a || y ≡ true
        by_or true x y more is = refl
        by_or false x y more is = more is
  by_awaited (function_def at) right all = plain (negated line.opens (both_true (not line.opens) (nat_eq line.closes 0) right).0) all
  by_awaited (consume_def at from size) right all = plain (negated line.opens (both_true (not line.opens) (nat_eq line.closes 0) right).0) all

-- behind the last line nothing is ahead
pub ends_ahead : (context : Context) (closes : ℕ) → context.awaited ≡ nothing → Between [] context → Within (ahead closes false []) context
ends_ahead context closes is between =
    promise-map (λ n. connects_from n []) (seen (ahead closes false [])) (context.block ∷ context.outer) (λ n none. false_is_not_true none)
    (subst (λ awaited. BetweenBy awaited [] context.block context.outer) is between)

-- ---- a block ends

-- what is seen ahead, by how many blocks are open and how many end
abbrev pub seen_by : (connects : Bool) → List Line → (fewer same : Bool) → (left : ℕ) → Bool
seen_by connects lines fewer same left = if fewer then false else (same && connects) || connects_from left lines

same_test : (a b : Bool) → (a ≡ true → b ≡ true) → (a ≡ false → b ≡ false) → a ≡ b
same_test true b on off = sym (on refl)
same_test false b on off = sym (off refl)

less-suc : (n m : ℕ) → nat_lt (suc n) (suc m) ≡ nat_lt n m
less-suc n m = same_test (nat_lt (suc n) (suc m)) (nat_lt n m) (λ is. lt-ltb n m (omega (arith, ltb-true (suc n) (suc m) is))) (λ is. le-ltb n m (omega (arith, ltb-false (suc n) (suc m) is)))

equal-suc : (n m : ℕ) → nat_eq (suc n) (suc m) ≡ nat_eq n m
equal-suc n m =
    same_test (nat_eq (suc n) (suc m)) (nat_eq n m) (λ is. eq-eqb n m (omega (arith, eqb-true (suc n) (suc m) is)))
    (λ is. ne_eqb n m (λ same. true_is_not_false (sym (eq-eqb (suc n) (suc m) (ap suc same)) ∙ is)))

pub ended-ahead : (closes : ℕ) (connects : Bool) (lines : List Line) (n : ℕ) →
    seen (ahead (suc closes) connects lines) (suc n) ≡ seen (ahead closes connects lines) n
ended-ahead closes connects lines n =
    let left : suc n - suc closes ≡ n - closes = omega arith in
    ap (λ fewer. seen_by connects lines fewer (nat_eq (suc n) (suc closes)) (suc n - suc closes)) (less-suc n closes)
    ∙ ap (λ same. seen_by connects lines (nat_lt n closes) same (suc n - suc closes)) (equal-suc n closes) ∙ ap (seen_by connects lines (nat_lt n closes) (nat_eq n closes)) left

-- nothing is ahead of a block that the line closes
none-ahead : (closes : ℕ) (connects : Bool) (lines : List Line) → seen (ahead (suc closes) connects lines) zero ≡ false
none-ahead closes connects lines = ap (λ fewer. seen_by connects lines fewer (nat_eq zero (suc closes)) (zero - suc closes)) (lt-ltb zero (suc closes) (omega arith))

pub ends_right : (context : Context) (closes : ℕ) (connects : Bool) (lines : List Line) → Within (ahead (suc closes) connects lines) context → EndsRight context.block
ends_right context closes connects lines within taken =
    by_kind (is_tasklet context.block.kind) within.0.pure (λ is. subst (λ later. connects_in context.block.statements || later ≡ true) (none-ahead closes connects lines) (within.0.owed taken is)) where
      nothing_else : (a : Bool) → a || false ≡ true → a ≡ true
      nothing_else true is = refl
      nothing_else false is = is

      by_kind : (test : Bool) → (test ≡ false → connects_in context.block.statements ≡ false) → (test ≡ true → connects_in context.block.statements || false ≡ true) → has_connector (block_listed context.block.statements) ≡ test
      by_kind true pure owed = connects-listed context.block.statements ∙ nothing_else (connects_in context.block.statements) (owed refl)
      by_kind false pure owed = connects-listed context.block.statements ∙ pure refl

branch_connects : (kind : BlockKind) (b : Branch) (other : Block) → is_connector (branch_with kind b other) ≡ false
branch_connects kind b other = by_kind (is_tasklet kind) where
  by_kind : (test : Bool) → is_connector (if test then tasklet_branch b.line b.when (block_listed b.statements) other else branch b.line b.when (block_listed b.statements) other) ≡ false
  by_kind true = refl
  by_kind false = refl

nested_connects : (kind : BlockKind) (branches : List Branch) (other : List StatementTree) → connects_in other ≡ false → connects_in (nested kind branches other) ≡ false
nested_connects kind [] other none = none
nested_connects kind (b ∷ branches) other none = ap (λ c. c || false) (branch_connects kind b (block_listed (nested kind branches other)))

body_connects : (s : StatementTree) (body : Block) → is_connector s ≡ false → is_connector (with_body s body) ≡ false
body_connects (map_scope line parameters ranges empty) body none = refl
body_connects (tasklet line empty) body none = refl
body_connects (for_loop line name begin end step empty) body none = refl
body_connects (while_loop line when empty) body none = refl
body_connects (argument_array line name bits extents) body none = none
body_connects (local_array line name extents bits) body none = none
body_connects (local_stream line name bits size) body none = none
body_connects (assign line name at add value) body none = none
body_connects (copy line to to_dimensions from from_dimensions) body none = none
body_connects (reduce line lambda from to axis identity) body none = none
body_connects (consume_scope line from size name element worker empty) body none = none
body_connects (call line name arguments) body none = none
body_connects (branch line when empty other) body none = none
body_connects (input line connector memlet) body none = none
body_connects (output line connector memlet) body none = none
body_connects (set line name value) body none = none
body_connects (set_at line name at value) body none = none
body_connects (tasklet_branch line when empty other) body none = none

opener_connects : (kind : BlockKind) (s : StatementTree) → Opens kind s → is_connector s ≡ false
opener_connects kind (map_scope line parameters ranges body) opens = refl
opener_connects kind (tasklet line body) opens = refl
opener_connects kind (for_loop line name begin end step body) opens = refl
opener_connects kind (while_loop line when body) opens = refl
opener_connects kind (argument_array line name bits extents) opens = refl
opener_connects kind (local_array line name extents bits) opens = refl
opener_connects kind (local_stream line name bits size) opens = refl
opener_connects kind (assign line name at add value) opens = refl
opener_connects kind (copy line to to_dimensions from from_dimensions) opens = refl
opener_connects kind (reduce line lambda from to axis identity) opens = refl
opener_connects kind (consume_scope line from size name element worker body) opens = refl
opener_connects kind (call line name arguments) opens = refl
opener_connects kind (branch line when body other) opens = refl
opener_connects kind (input line connector memlet) opens = absurd opens
opener_connects kind (output line connector memlet) opens = absurd opens
opener_connects kind (set line name value) opens = refl
opener_connects kind (set_at line name at value) opens = refl
opener_connects kind (tasklet_branch line when body other) opens = refl

-- the statement of a block that ends is no connector
finished_connects : (about kind : BlockKind) (line : ℕ) (opener : Opener) (statements : List StatementTree) → IsOpenedIn about kind opener → (is_tasklet kind ≡ false → connects_in statements ≡ false) →
    is_tasklet about ≡ false → connects_in (finished_by kind line opener statements) ≡ false
finished_connects about kind line file statements opened pure is = refl
finished_connects about kind line (function name) statements opened pure is = refl
finished_connects about kind line (statement s) statements opened pure is = ap (λ c. c || false) (body_connects s (block_listed statements) (opener_connects kind s opened.1))
finished_connects about kind line (consumer at from size name element worker) statements opened pure is = refl
finished_connects about kind line (if_block earlier when) statements opened pure is = nested_connects kind (earlier ++ record { line = line; when = when; statements = statements } ∷ []) [] refl
finished_connects about kind line (else_block earlier) statements opened pure is = nested_connects kind earlier statements (pure (ap is_tasklet opened.1 ∙ is))

pub ends_within : (outer : List OpenBlock) (context : Context) (closes : ℕ) (connects : Bool) (lines : List Line) → context.outer ≡ outer → AreNested context.block outer →
    Within (ahead (suc closes) connects lines) context → Within (ahead closes connects lines) (closed_into outer context)
ends_within [] context closes connects lines is shape within = alone context.outer is where
  alone : (outer : List OpenBlock) → outer ≡ [] → AllPromise (seen (ahead closes connects lines)) (context.block ∷ outer)
  alone outer is = subst (λ outer. AllPromise (seen (ahead closes connects lines)) (context.block ∷ outer)) (sym is) (
    record { pure = within.0.pure; owed = λ taken kind. absurd (never context.block.opener shape.1 taken) },
    tt,
  ) where
    never : (opener : Opener) → IsFile opener → is_consumer opener ≡ true → ⊥
    never file is taken = false_is_not_true taken
    never (function name) is taken = is
    never (statement s) is taken = is
    never (consumer at from size name element worker) is taken = is
    never (if_block earlier when) is taken = is
    never (else_block earlier) is taken = is
ends_within (about ∷ rest) context closes connects lines is shape within = by_opener context.block.opener where
  now : Ahead
  now = ahead closes connects lines

  outside : AllPromise (seen now) (about ∷ rest)
  outside =
      promise-map (λ n. seen (ahead (suc closes) connects lines) (suc n)) (seen now) (about ∷ rest) (λ n on. sym (ended-ahead closes connects lines n) ∙ on)
      (subst (λ outer. AllPromise (λ n. seen (ahead (suc closes) connects lines) (suc n)) outer) is within.1)

  more : AllPromise (seen now) (record about { statements = about.statements ++ finished context.block } ∷ rest)
  more = (promise-more about (seen now zero) (finished context.block) (finished_connects about.kind context.block.kind context.block.line context.block.opener context.block.statements shape.0 within.0.pure) outside.0, outside.1)

  by_opener : (opener : Opener) → Within now (closed_by opener about rest context)
  by_opener file = more
  by_opener (function name) = outside
  by_opener (statement s) = more
  by_opener (consumer line from size name element worker) = more
  by_opener (if_block earlier when) = more
  by_opener (else_block earlier) = more
