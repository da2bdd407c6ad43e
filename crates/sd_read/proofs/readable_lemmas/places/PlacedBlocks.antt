-- The statement of a block that ends, in the place of the block.
use Rattle.std.proofs.Common.{◌≡◌, ℕ, ℤ, List, [], ◌∷◌, ◌++◌, Bool, true, false, if◌then◌else◌, Option, refl, sym, ◌∙◌, subst}
use Rattle.std.specs.Bool.{⊤}
use Rattle.sd_lex.specs.PlainTree.{StatementTree, argument_array, local_array, local_stream, assign, copy, reduce, map_scope, tasklet, consume_scope, call, for_loop, while_loop, branch, input, output, set, set_at, tasklet_branch, Block, no_statement}
use Rattle.sd_lex.specs.TreeFold.{block_listed}
use Rattle.sd_line.specs.declared.line.head.BlockKind.{BlockKind}
use Rattle.sd_names.specs.declared.meaning.Container.{Container}
use Rattle.sd_names.specs.Names.{Name}
use Rattle.sd_refusal.specs.OverLimit.{is_tasklet}
use Rattle.sd_context.specs.context.Context.{Branch, Opener, file, function, statement, consumer, if_block, else_block}
use Rattle.sd_context.specs.blocks.Closing.{is_loop, branch_with, nested, with_body, finished_by}
use Rattle.sd_program.specs.Names.{Named}
use Rattle.sd_program.specs.Place.{Place, behind, behind_all, past_all, in_consume, EveryAt, EveryFrom}
use Rattle.sd_lex.specs.StatementKind.{has_connector}
use Rattle.sd_read.proofs.readable_lemmas.kept.Ahead.{is_consumer}
use Rattle.sd_read.proofs.readable_lemmas.kept.Heads.{Opens, IsOpenedIn}
use Rattle.sd_read.proofs.readable_lemmas.kept.Trees.{bare}
use Rattle.sd_read.proofs.readable_lemmas.kept.InForce.{Agrees}
use Rattle.sd_context.specs.context.Placing.{opened}
use Rattle.sd_read.proofs.readable_lemmas.places.Placed.{over, through, begins_by, begins, AllFrom, HasHead, AreBranches, IsGoodOpener, HoldsInPlaces}

-- what is asked where containers do not stay in force
abbrev pub by_keeping' : Bool → Type 0 → Type 0
by_keeping' true asked = ⊤
by_keeping' false asked = asked

-- what is in force behind a block with a statement of its own
pub body_agrees : (kind : BlockKind) (s : StatementTree) (body : Block) (place : Place) (known cut : List (Name × Container)) → Opens kind s → Agrees known (past_all body (begins_by s place)).containers →
    by_keeping' (is_loop s) (Agrees cut place.containers) → Agrees (if is_loop s then known else cut) (behind (with_body s body) place.containers)
body_agrees kind (argument_array at name bits extents) body place known cut opens inside outside = absurd opens
body_agrees kind (local_array at name extents bits) body place known cut opens inside outside = absurd opens
body_agrees kind (local_stream at name bits size) body place known cut opens inside outside = absurd opens
body_agrees kind (assign at name subscripts add value) body place known cut opens inside outside = absurd opens
body_agrees kind (copy at to to_dimensions from from_dimensions) body place known cut opens inside outside = absurd opens
body_agrees kind (reduce at lambda from to axis identity) body place known cut opens inside outside = absurd opens
body_agrees kind (map_scope at parameters ranges empty) body place known cut opens inside outside = outside
body_agrees kind (tasklet at empty) body place known cut opens inside outside = outside
body_agrees kind (consume_scope at from size name element worker empty) body place known cut opens inside outside = absurd opens
body_agrees kind (call at name arguments) body place known cut opens inside outside = absurd opens
body_agrees kind (for_loop at name begin end step empty) body place known cut opens inside outside = inside
body_agrees kind (while_loop at when empty) body place known cut opens inside outside = inside
body_agrees kind (branch at when empty other) body place known cut opens inside outside = absurd opens
body_agrees kind (input at connector memlet) body place known cut opens inside outside = absurd opens
body_agrees kind (output at connector memlet) body place known cut opens inside outside = absurd opens
body_agrees kind (set at name value) body place known cut opens inside outside = absurd opens
body_agrees kind (set_at at name subscripts value) body place known cut opens inside outside = absurd opens
body_agrees kind (tasklet_branch at when empty other) body place known cut opens inside outside = absurd opens

branch_behind : (kind : BlockKind) (b : Branch) (other : Block) (containers : Named _) → behind (branch_with kind b other) containers ≡ behind_all other (behind_all (block_listed b.statements) containers)
branch_behind kind b other containers = by_kind (is_tasklet kind) where
  by_kind : (test : Bool) → behind (if test then tasklet_branch b.line b.when (block_listed b.statements) other else branch b.line b.when (block_listed b.statements) other) containers
      ≡ behind_all other (behind_all (block_listed b.statements) containers)
  by_kind true = refl
  by_kind false = refl

pub nested_behind : (kind : BlockKind) (branches : List Branch) (other : List StatementTree) (place : Place) → (over (nested kind branches other) place).containers ≡ (over other (through branches place)).containers
nested_behind kind [] other place = refl
nested_behind kind (b ∷ branches) other place =
    branch_behind kind b (block_listed (nested kind branches other)) place.containers ∙ nested_behind kind branches other (over b.statements place)

module _ (Holds : Place → StatementTree → Type 0) (lines : HoldsInPlaces Holds) where
  branch_every : (kind : BlockKind) (b : Branch) (other : Block) (place : Place) → HasHead Holds place kind b → AllFrom Holds place b.statements → EveryFrom Holds (over b.statements place) other → EveryAt Holds place (branch_with kind b other)
  branch_every kind b other place head all others = by_kind (is_tasklet kind) head where
    by_kind : (test : Bool) → Holds place (if test then tasklet_branch b.line b.when no_statement no_statement else branch b.line b.when no_statement no_statement) →
        EveryAt Holds place (if test then tasklet_branch b.line b.when (block_listed b.statements) other else branch b.line b.when (block_listed b.statements) other)
    by_kind true holds = (lines.fill place (tasklet_branch b.line b.when (block_listed b.statements) other) holds, (all, others))
    by_kind false holds = (lines.fill place (branch b.line b.when (block_listed b.statements) other) holds, (all, others))

  nested_every : (kind : BlockKind) (branches : List Branch) (other : List StatementTree) (place : Place) → AreBranches Holds kind branches place → AllFrom Holds (through branches place) other → AllFrom Holds place (nested kind branches other)
  nested_every kind [] other place all others = others
  nested_every kind (b ∷ branches) other place all others =
      (branch_every kind b (block_listed (nested kind branches other)) place all.0.0 all.0.1 (nested_every kind branches other (over b.statements place) all.1 others), tt)

  pub branches_more : (kind : BlockKind) (branches : List Branch) (b : Branch) (place : Place) → AreBranches Holds kind branches place → HasHead Holds (through branches place) kind b → AllFrom Holds (through branches place) b.statements →
      AreBranches Holds kind (branches ++ b ∷ []) place
  branches_more kind [] b place all head own = ((head, own), tt)
  branches_more kind (first ∷ rest) b place all head own = (all.0, branches_more kind rest b (over first.statements place) all.1 head own)

  body_every : (kind : BlockKind) (s : StatementTree) (body : Block) (place : Place) → Opens kind s → Holds place (bare s) → EveryFrom Holds (begins_by s place) body → EveryAt Holds place (with_body s body)
  body_every kind (argument_array at name bits extents) body place opens holds all = absurd opens
  body_every kind (local_array at name extents bits) body place opens holds all = absurd opens
  body_every kind (local_stream at name bits size) body place opens holds all = absurd opens
  body_every kind (assign at name subscripts add value) body place opens holds all = absurd opens
  body_every kind (copy at to to_dimensions from from_dimensions) body place opens holds all = absurd opens
  body_every kind (reduce at lambda from to axis identity) body place opens holds all = absurd opens
  body_every kind (map_scope at parameters ranges empty) body place opens holds all = (lines.fill place (map_scope at parameters ranges body) holds, all)
  body_every kind (tasklet at empty) body place opens holds all = (lines.fill place (tasklet at body) holds, all)
  body_every kind (consume_scope at from size name element worker empty) body place opens holds all = absurd opens
  body_every kind (call at name arguments) body place opens holds all = absurd opens
  body_every kind (for_loop at name begin end step empty) body place opens holds all = (lines.fill place (for_loop at name begin end step body) holds, all)
  body_every kind (while_loop at when empty) body place opens holds all = (lines.fill place (while_loop at when body) holds, all)
  body_every kind (branch at when empty other) body place opens holds all = absurd opens
  body_every kind (input at connector memlet) body place opens holds all = absurd opens
  body_every kind (output at connector memlet) body place opens holds all = absurd opens
  body_every kind (set at name value) body place opens holds all = absurd opens
  body_every kind (set_at at name subscripts value) body place opens holds all = absurd opens
  body_every kind (tasklet_branch at when empty other) body place opens holds all = absurd opens

  consume_every : (kind : BlockKind) (at : ℕ) (from : Name) (size : ℤ) (name element : Name) (worker : Option Name) (statements : List StatementTree) (place : Place) →
      Holds place (consume_scope at from size name element worker no_statement) → AllFrom Holds (in_consume (is_tasklet kind) element place) statements → has_connector (block_listed statements) ≡ is_tasklet kind →
      EveryAt Holds place (consume_scope at from size name element worker (block_listed statements))
  consume_every kind at from size name element worker statements place holds all right = (
    lines.fill place (consume_scope at from size name element worker (block_listed statements)) holds,
    subst (λ test. EveryFrom Holds (in_consume test element place) (block_listed statements)) (sym right) all,
  )

  -- the statement of a block that ends, in the place of the block
  pub finished_every : (arguments : List StatementTree) (about kind : BlockKind) (line : ℕ) (opener : Opener) (statements : List StatementTree) (place : Place) → IsOpenedIn about kind opener → IsGoodOpener Holds kind line opener place →
      AllFrom Holds (begins arguments kind opener place) statements → (is_consumer opener ≡ true → has_connector (block_listed statements) ≡ is_tasklet kind) → AllFrom Holds place (finished_by kind line opener statements)
  finished_every arguments about kind line file statements place opened good all right = tt
  finished_every arguments about kind line (function name) statements place opened good all right = tt
  finished_every arguments about kind line (statement s) statements place opened good all right = (body_every kind s (block_listed statements) place opened.1 good all, tt)
  finished_every arguments about kind line (consumer at from size name element worker) statements place opened good all right =
      (consume_every kind at from size name element worker statements place good all (right refl), tt)
  finished_every arguments about kind line (if_block earlier when) statements place opened good all right =
      let b : Branch = record { line = line; when = when; statements = statements } in
      nested_every kind (earlier ++ b ∷ []) [] place (branches_more kind earlier b place good.0 good.1 all) tt
  finished_every arguments about kind line (else_block earlier) statements place opened good all right = nested_every kind earlier statements place good all
