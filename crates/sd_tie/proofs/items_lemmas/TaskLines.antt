-- The lines of a tasklet are known where its containers are.
use Rattle.std.proofs.Common.{◌≡◌, ◌∙◌, refl, subst}
use Rattle.sd_lex.specs.PlainTree.{StatementTree, argument_array, local_array, local_stream, assign, copy, reduce, map_scope, tasklet, consume_scope, call, for_loop, while_loop, branch, input, output, set, set_at, tasklet_branch, Block, no_statement, and_statement}
use Rattle.sd_program.specs.Place.{Place, task, behind, behind_all, past, past_all, EveryAt, EveryFrom}
use Rattle.sd_program.specs.Known.{StandsIn}
use Rattle.sd_tie.specs.tasklets.Connected.{AreLinesKnown}
use Rattle.sd_tie.specs.items.Standing.{Fits}

module _ (callable : Place → StatementTree → Type 0) where
  stands : (place : Place) (statement : StatementTree) → place.around ≡ task → Fits callable place statement → StandsIn task statement
  stands place statement e h = subst (λ around. StandsIn around statement) e h.placed

  -- a line puts no container in force
  mutual
    line_behind : (statement : StatementTree) (place : Place) → place.around ≡ task → EveryAt (Fits callable) place statement → behind statement place.containers ≡ place.containers
    line_behind (argument_array line name bits extents) place e h = absurd (stands place _ e h)
    line_behind (local_array line name extents bits) place e h = absurd (stands place _ e h)
    line_behind (local_stream line name bits size) place e h = absurd (stands place _ e h)
    line_behind (assign line name at add value) place e h = refl
    line_behind (copy line to to_dimensions from from_dimensions) place e h = refl
    line_behind (reduce line lambda from to axis identity) place e h = refl
    line_behind (map_scope line parameters ranges body) place e h = refl
    line_behind (tasklet line body) place e h = refl
    line_behind (consume_scope line stream size name element worker body) place e h = refl
    line_behind (call line name arguments) place e h = refl
    line_behind (for_loop line name begin end step body) place e h = absurd (stands place _ e h.0)
    line_behind (while_loop line when body) place e h = absurd (stands place _ e h.0)
    line_behind (branch line when body other) place e h = absurd (stands place _ e h.0)
    line_behind (input line connector memlet) place e h = refl
    line_behind (output line connector memlet) place e h = refl
    line_behind (set line name value) place e h = refl
    line_behind (set_at line name at value) place e h = refl
    line_behind (tasklet_branch line when body other) place e h =
        lines_behind other (past_all body place) e h.1.1 ∙ lines_behind body place e h.1.0

    lines_behind : (block : Block) (place : Place) → place.around ≡ task → EveryFrom (Fits callable) place block → behind_all block place.containers ≡ place.containers
    lines_behind no_statement place e h = refl
    lines_behind (and_statement first rest) place e h = lines_behind rest (past first place) e h.1 ∙ line_behind first place e h.0

  pub here_of : (statement : StatementTree) (place : Place) → EveryAt (Fits callable) place statement → Fits callable place statement
  here_of (argument_array line name bits extents) place h = h
  here_of (local_array line name extents bits) place h = h
  here_of (local_stream line name bits size) place h = h
  here_of (assign line name at add value) place h = h
  here_of (copy line to to_dimensions from from_dimensions) place h = h
  here_of (reduce line lambda from to axis identity) place h = h
  here_of (map_scope line parameters ranges body) place h = h.0
  here_of (tasklet line body) place h = h.0
  here_of (consume_scope line stream size name element worker body) place h = h.0
  here_of (call line name arguments) place h = h
  here_of (for_loop line name begin end step body) place h = h.0
  here_of (while_loop line when body) place h = h.0
  here_of (branch line when body other) place h = h.0
  here_of (input line connector memlet) place h = h
  here_of (output line connector memlet) place h = h
  here_of (set line name value) place h = h
  here_of (set_at line name at value) place h = h
  here_of (tasklet_branch line when body other) place h = h.0

  pub lines_known : (block : Block) (place : Place) → place.around ≡ task → EveryFrom (Fits callable) place block → AreLinesKnown place.containers block
  lines_known no_statement place e h = tt
  lines_known (and_statement first rest) place e h =
      let fits : Fits callable place first = here_of first place h.0 in
      ((fits.known, fits.affine), subst (λ known. AreLinesKnown known rest) (line_behind first place e h.0) (lines_known rest (past first place) e h.1))
