-- Tokens of the grammar are tokens of it with more levels and at a looser rank too, and are written for one tree alone.
use Rattle.std.proofs.Common.{arith, ◌≡◌, sym, ◌∙◌, ◌≤◌, ℕ, zero, suc, ◌+◌, List, Bool, false}
use Rattle.sd_lex.specs.PlainTree.{Expression, Expressions}
use Rattle.sd_phrase.specs.declared.reading.Reading.TheVariants.{Form}
use Rattle.sd_phrase.specs.declared.word.Piece.{Piece}
use Rattle.sd_phrase.specs.Signs.{rank_of_one, rank_of_two}
use Rattle.sd_phrase.specs.Grammar.{rank_before, Written, written_number, written_name, written_element_of_body, written_element_of_tasklet, written_in_parentheses, written_one, written_two, written_call, written_choice, WrittenEach, written_last, written_more}
use Rattle.sd_phrase.proofs.WrittenReads.{written_reads}

mutual
  pub written_wider : (text : List ℕ) (in_body : Bool) (levels rank : ℕ) (tree : Expression) (ts : List Piece) → Written text in_body levels rank tree ts →
      (more wide : ℕ) → levels ≤ more → wide ≤ rank → Written text in_body more wide tree ts
  written_wider text in_body levels rank tree ts (written_number b n r value t e) more wide h k = written_number b more wide value t e
  written_wider text in_body levels rank tree ts (written_name b n r name t v e) more wide h k = written_name b more wide name t v e
  written_wider text in_body levels rank tree ts (written_element_of_body n r name at t opening closing inside v e f s g) more wide h k =
      written_element_of_body more wide name at t opening closing inside v e f s g
  written_wider text in_body levels rank tree ts (written_element_of_tasklet n r name at t opening closing inside v e f s g) zero wide h k = absurd (omega arith)
  written_wider text in_body levels rank tree ts (written_element_of_tasklet n r name at t opening closing inside v e f s g) (suc more) wide h k =
      written_element_of_tasklet more wide name at t opening closing inside v e f (each_wider text n at inside s more (omega arith)) g
  written_wider text in_body levels rank tree ts (written_in_parentheses b n r inner opening closing inside e s f) zero wide h k = absurd (omega arith)
  written_wider text in_body levels rank tree ts (written_in_parentheses b n r inner opening closing inside e s f) (suc more) wide h k =
      written_in_parentheses b more wide inner opening closing inside e (written_wider text b n 1 inner inside s more 1 (omega arith) (omega arith)) f
  written_wider text in_body levels rank tree ts (written_one b n r sign of t back l e s) zero wide h k = absurd (omega arith)
  written_wider text in_body levels rank tree ts (written_one b n r sign of t back l e s) (suc more) wide h k =
      written_one b more wide sign of t back (omega arith) e (written_wider text b n (rank_of_one sign) of back s more (rank_of_one sign) (omega arith) (omega arith))
  written_wider text in_body levels rank tree ts (written_two b n r sign left right front back t c l s e q) zero wide h k = absurd (omega arith)
  written_wider text in_body levels rank tree ts (written_two b n r sign left right front back t c l s e q) (suc more) wide h k =
      written_two b more wide sign left right front back t c (omega arith) (written_wider text b n (rank_before sign) left front s more (rank_before sign) (omega arith) (omega arith)) e
      (written_wider text b n (rank_of_two sign + 1) right back q more (rank_of_two sign + 1) (omega arith) (omega arith))
  written_wider text in_body levels rank tree ts (written_call b n r sign left right t opening comma closing front back c e f s g q i) zero wide h k = absurd (omega arith)
  written_wider text in_body levels rank tree ts (written_call b n r sign left right t opening comma closing front back c e f s g q i) (suc more) wide h k =
      written_call b more wide sign left right t opening comma closing front back c e f (written_wider text b n 1 left front s more 1 (omega arith) (omega arith)) g
      (written_wider text b n 1 right back q more 1 (omega arith) (omega arith)) i
  written_wider text in_body levels rank tree ts (written_choice b n r value when other front middle back t u l s e q f p) zero wide h k = absurd (omega arith)
  written_wider text in_body levels rank tree ts (written_choice b n r value when other front middle back t u l s e q f p) (suc more) wide h k =
      written_choice b more wide value when other front middle back t u (omega arith) (written_wider text b n 2 value front s more 2 (omega arith) (omega arith)) e
      (written_wider text b n 2 when middle q more 2 (omega arith) (omega arith)) f (written_wider text b n 1 other back p more 1 (omega arith) (omega arith))

  each_wider : (text : List ℕ) (levels : ℕ) (trees : Expressions) (ts : List Piece) → WrittenEach text levels trees ts → (more : ℕ) → levels ≤ more → WrittenEach text more trees ts
  each_wider text levels trees ts (written_last n tree us s) more h = written_last more tree us (written_wider text false n 1 tree us s more 1 h (omega arith))
  each_wider text levels trees ts (written_more n tree rest front back comma s e q) more h =
      written_more more tree rest front back comma (written_wider text false n 1 tree front s more 1 h (omega arith)) e (each_wider text n rest back q more h)

pub written_once : (text : List ℕ) (in_body : Bool) (levels rank more wide : ℕ) (tree other : Expression) (ts : List Piece) →
    Written text in_body levels rank tree ts → Written text in_body more wide other ts → tree ≡ other
written_once text in_body levels rank more wide tree other ts s q =
    let all = levels + more in
    let first = written_reads text in_body all 0 tree ts (written_wider text in_body levels rank tree ts s all 0 (omega arith) (omega arith)) in
    let second = written_reads text in_body all 0 other ts (written_wider text in_body more wide other ts q all 0 (omega arith) (omega arith)) in
    let same : Form tree ≡ Form other = sym first ∙ second in
    cc
