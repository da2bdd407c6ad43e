use Rattle.std.proofs.Common.{reverse, sym, ◌∙◌, refl}
use Rattle.sd_lex.specs.Line.{physical_line}
use Rattle.sd_lex.proofs.LayoutLemmas.{blocks-tab, blocks-width}
use Rattle.sd_lex.proofs.layout.Lexer.begin_line.Goals as goal

pub returns-then-has_tab_in_indentation-clause-err : goal.returns-then-has_tab_in_indentation-clause-err
returns-then-has_tab_in_indentation-clause-err c = λ _.
    let line = physical_line c.args.number c.args.from c.args.bytes.now in (
      refl,
      blocks-tab c.args.self.now.brackets (reverse c.args.self.now.widths.items) line c.if-self-gt0.false
          (sym c.has_content.ensures ∙ c.if-not-has_content.false)
          (sym c.has_tab_in_indentation.ensures ∙ c.if-has_tab_in_indentation.true),
    )

pub returns-clause-some : goal.returns-clause-some
returns-clause-some c =
    let line = physical_line c.args.number c.args.from c.args.bytes.now in
    let blocks = blocks-width c.args.self.now.brackets (reverse c.args.self.now.widths.items) line c.if-self-gt0.false
    (sym c.has_content.ensures ∙ c.if-not-has_content.false)
    (sym c.has_tab_in_indentation.ensures ∙ c.if-has_tab_in_indentation.false) in
    rw (blocks, ← c.spaces-width.ensures.count) c.change_blocks.ensures.some
