-- What a well-formed program fulfils in its places.
use Rattle.std.proofs.Common.{◌≡◌, ℤ, List, length, Some, Bool, true, false, subst}
use Rattle.sd_lex.specs.PlainTree.{StatementTree, map_scope, tasklet, consume_scope, call, for_loop, while_loop, branch, tasklet_branch, Block, no_statement, and_statement, FunctionTree}
use Rattle.sd_lex.specs.StatementKind.{has_connector}
use Rattle.sd_graph.specs.PlainTree.{GraphTree}
use Rattle.sd_program.specs.Names.{Name, in_force}
use Rattle.sd_program.specs.Bounds.{EachBound}
use Rattle.sd_program.specs.IsAffine.{IsAffine}
use Rattle.sd_program.specs.Limits.{HasFewParameters}
use Rattle.sd_program.specs.Calls.{argument_counts, IsCallable}
use Rattle.sd_program.specs.Every.{Every, EveryIn}
use Rattle.sd_program.specs.Place.{Place, past, past_all, in_map, in_tasklet, in_loop, in_consume, in_signature, EveryAt, EveryFrom}
use Rattle.sd_program.specs.Known.{IsPlaced, IsKnown}
use Rattle.sd_tie.specs.items.Standing.{IsJoined, Fits}
use Rattle.sd_tie.specs.items.Called.{IsCallSized, IsCalled}
use Rattle.sd_tie.proofs.programs_lemmas.CallsMade.{Sized}

module _ (sizes : List ℤ) (graphs : Name → GraphTree) (above : List FunctionTree) where
  same_callable : (statement : StatementTree) (place : Place) → place.programs ≡ above → IsCallable place statement → IsCallable (in_signature above) statement
  same_callable (call line name arguments) place e callable = subst (λ programs. in_force (argument_counts programs) name ≡ Some (length arguments)) e callable
  same_callable statement place e callable = tt

  fits_here : (statement : StatementTree) (place : Place) → place.programs ≡ above → IsKnown place statement → IsPlaced place statement → IsCallable place statement → IsCallSized sizes graphs statement →
      EachBound IsAffine statement → HasFewParameters statement → IsJoined statement → Fits (IsCalled sizes graphs above) place statement
  fits_here statement place e known placed callable sized affine few joined = record {
    known = known;
    placed = placed;
    called = (same_callable statement place e callable, sized);
    affine = affine;
    parameters = few;
    joined = joined;
  }

  mutual
    fits_at : (statement : StatementTree) (place : Place) → place.programs ≡ above → EveryAt IsKnown place statement → EveryAt IsPlaced place statement → EveryAt IsCallable place statement → EveryAt (Sized sizes graphs) place statement →
        Every (EachBound IsAffine) statement → Every HasFewParameters statement → Every IsJoined statement → EveryAt (Fits (IsCalled sizes graphs above)) place statement
    fits_at (map_scope line parameters ranges body) place e known placed callable sized affine few joined =
        (fits_here (map_scope line parameters ranges body) place e known.0 placed.0 callable.0 sized.0 affine.0 few.0 joined.0, fits_from body (in_map place) e known.1 placed.1 callable.1 sized.1 affine.1 few.1 joined.1)
    fits_at (tasklet line body) place e known placed callable sized affine few joined =
        (fits_here (tasklet line body) place e known.0 placed.0 callable.0 sized.0 affine.0 few.0 joined.0, fits_from body (in_tasklet place) e known.1 placed.1 callable.1 sized.1 affine.1 few.1 joined.1)
    fits_at (consume_scope line stream size name element worker body) place e known placed callable sized affine few joined = (
      fits_here (consume_scope line stream size name element worker body) place e known.0 placed.0 callable.0 sized.0 affine.0 few.0 joined.0,
      fits_from body (in_consume (has_connector body) element place) (same_programs (has_connector body)) known.1 placed.1 callable.1 sized.1 affine.1 few.1 joined.1,
    )
      where
        same_programs : (is_task : Bool) → (in_consume is_task element place).programs ≡ above
        same_programs true = e
        same_programs false = e
    fits_at (for_loop line name begin end step body) place e known placed callable sized affine few joined =
        (fits_here (for_loop line name begin end step body) place e known.0 placed.0 callable.0 sized.0 affine.0 few.0 joined.0, fits_from body (in_loop place) e known.1 placed.1 callable.1 sized.1 affine.1 few.1 joined.1)
    fits_at (while_loop line when body) place e known placed callable sized affine few joined =
        (fits_here (while_loop line when body) place e known.0 placed.0 callable.0 sized.0 affine.0 few.0 joined.0, fits_from body (in_loop place) e known.1 placed.1 callable.1 sized.1 affine.1 few.1 joined.1)
    fits_at (branch line when body other) place e known placed callable sized affine few joined = (
      fits_here (branch line when body other) place e known.0 placed.0 callable.0 sized.0 affine.0 few.0 joined.0,
      (
        fits_from body place e known.1.0 placed.1.0 callable.1.0 sized.1.0 affine.1.0 few.1.0 joined.1.0,
        fits_from other (past_all body place) e known.1.1 placed.1.1 callable.1.1 sized.1.1 affine.1.1 few.1.1 joined.1.1,
      ),
    )
    fits_at (tasklet_branch line when body other) place e known placed callable sized affine few joined = (
      fits_here (tasklet_branch line when body other) place e known.0 placed.0 callable.0 sized.0 affine.0 few.0 joined.0,
      (
        fits_from body place e known.1.0 placed.1.0 callable.1.0 sized.1.0 affine.1.0 few.1.0 joined.1.0,
        fits_from other (past_all body place) e known.1.1 placed.1.1 callable.1.1 sized.1.1 affine.1.1 few.1.1 joined.1.1,
      ),
    )
    fits_at statement place e known placed callable sized affine few joined = fits_here statement place e known placed callable sized affine few joined

    pub fits_from : (block : Block) (place : Place) → place.programs ≡ above → EveryFrom IsKnown place block → EveryFrom IsPlaced place block → EveryFrom IsCallable place block → EveryFrom (Sized sizes graphs) place block →
        EveryIn (EachBound IsAffine) block → EveryIn HasFewParameters block → EveryIn IsJoined block → EveryFrom (Fits (IsCalled sizes graphs above)) place block
    fits_from no_statement place e known placed callable sized affine few joined = tt
    fits_from (and_statement first rest) place e known placed callable sized affine few joined = (
      fits_at first place e known.0 placed.0 callable.0 sized.0 affine.0 few.0 joined.0,
      fits_from rest (past first place) e known.1 placed.1 callable.1 sized.1 affine.1 few.1 joined.1,
    )
