-- Each end of a block keeps that extents name size symbols; so those of a program that was read do.
use Rattle.std.proofs.Common.{◌≡◌, ℕ, List, [], ◌∷◌, true, Ok, refl, ap, sym, subst}
use Rattle.std.specs.List.{AllByRecursion}
use Rattle.sd_lex.specs.PlainTree.{ProgramTree}
use Rattle.sd_line.specs.line.Head.{HeadTree, elif_head, else_head}
use Rattle.sd_names.specs.Names.{Name, is_among}
use Rattle.sd_refusal.specs.declared.site.Counts.{Counts}
use Rattle.sd_context.specs.context.Context.{Opener, file, function, statement, consumer, if_block, else_block, OpenBlock, Context}
use Rattle.sd_context.specs.context.Placing.{with_statements}
use Rattle.sd_context.specs.blocks.Closing.{finished, left_by, closed_by, closed_into}
use Rattle.sd_context.specs.blocks.Continuing.{is_elif_or_else, branches_of}
use Rattle.sd_source.specs.source.SourceReading.{reads}
use Rattle.sd_program.specs.Every.{EveryOf, Everywhere}
use Rattle.sd_read.proofs.readable_lemmas.kept.Ahead.{EndsRight}
use Rattle.sd_read.proofs.readable_lemmas.kept.Heads.{IsOpenedIn, AreNested}
use Rattle.sd_read.proofs.readable_lemmas.kept.Nesting.{top_is_file}
use Rattle.sd_read.proofs.readable_lemmas.kept.Passing.{false_is_not_true}
use Rattle.sd_read.proofs.readable_lemmas.kept.Steps.{Keeps, behind_other}
use Rattle.sd_read.proofs.readable_lemmas.kept.Trees.{all-more}
use Rattle.sd_made_valid.proofs.read_shapes_lemmas.AtTheEnd.{goes_on_is, read_so}
use Rattle.sd_made_valid.proofs.read_shapes_lemmas.Blocks.{AllHold, BranchesHold, Held, BlocksHold, blocks_more, file_held, listed_hold, finished_hold, branches_hold}
use Rattle.sd_made_valid.proofs.read_shapes_lemmas.FitEnds.{shapes_are_kept}
use Rattle.sd_made_valid.specs.read_extents.Symbols.{NamesSymbols}
use Rattle.sd_made_valid.proofs.read_extents_lemmas.Over.{AreWithin, Holds, of_lines, IsOverAll, OverSoFar, argument_over, line_over}

module _ (all : List Name) where
  close_over : (outer : List OpenBlock) (context : Context) → context.outer ≡ outer → AreNested context.block outer → EndsRight context.block → BlocksHold (Holds all) (context.block ∷ outer) → AllHold (Holds all) context.arguments →
      AllByRecursion (EveryOf (Holds all)) context.functions → IsOverAll all (closed_into outer context)
  close_over [] context is shape right around given ended =
      record { around = subst (λ outer. BlocksHold (Holds all) (context.block ∷ outer)) (sym is) around; given = given; ended = ended }
  close_over (about ∷ rest) context is shape right around given ended =
      by_opener context.block.opener refl
      (finished_hold (Holds all) (of_lines all) about.kind context.block.kind context.block.line context.block.opener context.block.statements (BlocksHold (Holds all) (about ∷ rest)) shape.0 right around) around where
        left : AllHold (Holds all) (finished context.block) → BlocksHold (Holds all) (about ∷ rest) → IsOverAll all (with_statements (finished context.block) (left_by about rest context))
        left done outside = record { around = blocks_more (Holds all) about rest (finished context.block) done outside; given = given; ended = ended }

        by_opener : (opener : Opener) → context.block.opener ≡ opener → AllHold (Holds all) (finished context.block) → Held (Holds all) context.block.kind opener (AllHold (Holds all) context.block.statements) (BlocksHold (Holds all) (about ∷ rest)) →
            IsOverAll all (closed_by opener about rest context)
        by_opener file same done held = absurd (subst (IsOpenedIn about.kind context.block.kind) same shape.0)
        by_opener (function name) same done held =
            let opened : IsOpenedIn about.kind context.block.kind (function name) = subst (IsOpenedIn about.kind context.block.kind) same shape.0 in
            record {
              around = file_held (Holds all) about.kind about.opener _ _ (subst (AreNested about) (top_is_file about rest shape.1 opened.0) shape.1).1;
              given = tt;
              ended = all-more (EveryOf (Holds all)) context.functions _ ended (listed_hold (Holds all) context.arguments given, listed_hold (Holds all) context.block.statements held);
            }
        by_opener (statement s) same done held = left done held.1.1
        by_opener (consumer line from size name element worker) same done held = left done held.1.1
        by_opener (if_block earlier when) same done held = left done held.1.1
        by_opener (else_block earlier) same done held = left done held.1.1

  next_over : (context : Context) (counts : Counts) (about : OpenBlock) (outer : List OpenBlock) (line : ℕ) (head : HeadTree) → is_elif_or_else head ≡ true →
      BranchesHold (Holds all) (branches_of context.block.line context.block.statements context.block.opener) × BlocksHold (Holds all) (about ∷ outer) → AllHold (Holds all) context.arguments →
      AllByRecursion (EveryOf (Holds all)) context.functions → IsOverAll all (behind_other context counts about outer line head)
  next_over context counts about outer line (elif_head when) on blocks given ended = record { around = (blocks.0, (tt, blocks.1)); given = given; ended = ended }
  next_over context counts about outer line else_head on blocks given ended = record { around = (blocks.0, (tt, blocks.1)); given = given; ended = ended }
  next_over context counts about outer line head on blocks given ended = false_is_not_true on

  closed_symbols : (outer : List OpenBlock) (context : Context) → (closed_into outer context).symbols ≡ context.symbols
  closed_symbols [] context = refl
  closed_symbols (about ∷ outer) context = by_opener context.block.opener where
    by_opener : (opener : Opener) → (closed_by opener about outer context).symbols ≡ context.symbols
    by_opener file = refl
    by_opener (function name) = refl
    by_opener (statement s) = refl
    by_opener (consumer line from size name element worker) = refl
    by_opener (if_block earlier when) = refl
    by_opener (else_block earlier) = refl

  extents_are_kept : Keeps (OverSoFar all)
  extents_are_kept = record {
    begin = (shapes_are_kept.begin, λ within. record { around = tt; given = tt; ended = tt });
    pass = λ context line scoped head fit due accepted' shape good.
        (shapes_are_kept.pass context line scoped head fit due accepted' shape good.0, λ within. line_over all context line scoped head fit accepted' good.0 within good.1);
    argument = λ context line scoped at name bits extents few begun accepted' shape good. (
      shapes_are_kept.argument context line scoped at name bits extents few begun accepted' shape good.0,
      λ within. argument_over all context line scoped at name bits extents few accepted' good.0 within (good.1 within),
    );
    close = λ context counts free counted right shape good. (
      shapes_are_kept.close context counts free counted right shape good.0,
      λ within.
          let before = good.1 (subst (λ symbols. AreWithin symbols all) (closed_symbols context.outer (record context { counts = counts })) within) in
          close_over context.outer (record context { counts = counts }) refl shape right before.around before.given before.ended,
    );
    go_on = λ context counts about outer line head free is on counted fit accepted' shape good. (
      shapes_are_kept.go_on context counts about outer line head free is on counted fit accepted' shape good.0,
      λ within.
          let before = good.1 within in
          next_over context counts about outer line head (goes_on_is head context.block.opener on)
          (branches_hold (Holds all) context.block.kind context.block.line context.block.statements head context.block.opener (BlocksHold (Holds all) (about ∷ outer)) on
          (subst (λ outer. BlocksHold (Holds all) (context.block ∷ outer)) is before.around))
          before.given before.ended,
    );
  }

pub extents_named : (text : List ℕ) (program : ProgramTree) → reads text ≡ Ok program → Everywhere (NamesSymbols program.symbols) program
extents_named text program is =
    let end = read_so (OverSoFar program.symbols) (extents_are_kept program.symbols) text program is in
    let same = end.1.1 in
    let over = end.1.0.1 (λ name among. subst (λ symbols. is_among symbols name ≡ true) (ap (λ (program : ProgramTree). program.symbols) same) among) in
    subst (λ (other : ProgramTree). AllByRecursion (EveryOf (NamesSymbols program.symbols)) other.functions) same over.ended
