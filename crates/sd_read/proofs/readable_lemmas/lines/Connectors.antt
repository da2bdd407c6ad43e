-- A line that begins with a name and `<<` or `>>` says a connector, where it says a form of a tasklet.
use Rattle.std.proofs.Common.{◌≡◌, ◌||◌, ◌&&◌, ℕ, List, [], ◌∷◌, map, Bool, true, false, codes, bytes_eq, if◌then◌else◌, Option, Some, None, refl, sym, subst}
use Rattle.std.proofs.lemmas.Slice.Eq.{bytes_eq-Decides}
use Rattle.sd_lex.specs.TokenText.{text_of}
use Rattle.sd_lex.specs.declared.token.Token.{Token}
use Rattle.sd_phrase.specs.declared.reading.Reading.{Reading}
use Rattle.sd_phrase.specs.declared.reading.Reading.TheVariants.{NoForm, TooDeep, Form}
use Rattle.sd_phrase.specs.declared.word.Piece.{Piece}
use Rattle.sd_phrase.specs.MemletReading.{memlet}
use Rattle.sd_phrase.specs.Parts.{is_balanced}
use Rattle.sd_phrase.specs.Phrase.{next}
use Rattle.sd_phrase.specs.Words.{is_name, spelling, piece_of}
use Rattle.sd_line.specs.declared.line.head.BlockKind.{BlockKind}
use Rattle.sd_line.specs.declared.line.head.BlockKind.TheVariants.{Top, Program, Scope, Tasklet}
use Rattle.sd_line.specs.line.Head.{HeadTree, input_head, output_head}
use Rattle.sd_line.specs.line.HeadReading.{head_of}
use Rattle.sd_line.specs.line.TaskletLine as tasklets
use Rattle.sd_refusal.specs.Counting.{is_connector}
use Rattle.sd_line.specs.lines.TokenLines.{is_name_kind, is_arrow, begins_connector}
use Rattle.sd_read.proofs.readable_lemmas.kept.AheadKept.{Connects}
use Rattle.sd_read.proofs.readable_lemmas.lines.Forms.{IfForm, if-always, if-map, if-either}
use Rattle.sd_read.proofs.readable_lemmas.kept.Passing.{false_is_not_true}

abbrev IsConnector : HeadTree → Type 0
IsConnector head = is_connector head ≡ true

input_forms : (text : List ℕ) (name : List ℕ) (ts : List Piece) → IfForm IsConnector (tasklets.input_line text name ts)
input_forms text name ts = if-map IsConnector (input_head name) (memlet text ts) (if-always (λ m. IsConnector (input_head name m)) (memlet text ts) (λ m. refl))

output_forms : (text : List ℕ) (name : List ℕ) (ts : List Piece) → IfForm IsConnector (tasklets.output_line text name ts)
output_forms text name ts = if-map IsConnector (output_head name) (memlet text ts) (if-always (λ m. IsConnector (output_head name m)) (memlet text ts) (λ m. refl))

-- what stands behind the first name, by how the second token is spelled
abbrev Rest : (text : List ℕ) (line : ℕ) (t : Piece) (rest all : List Piece) (equals input output : Option (List Piece)) → Reading HeadTree
Rest text line t rest all (Some behind) input output = tasklets.set_line text line (spelling text t) behind
Rest text line t rest all None (Some behind) output = tasklets.input_line text (spelling text t) behind
Rest text line t rest all None None output = tasklets.output_or_element text line t rest all output

rest-same : (text : List ℕ) (line : ℕ) (t : Piece) (rest all : List Piece) (equals : Option (List Piece)) →
    tasklets.set_or_input text line t rest all equals ≡ Rest text line t rest all equals (next text (codes "<<") rest) (next text (codes ">>") rest)
rest-same text line t rest all (Some behind) = refl
rest-same text line t rest all None = by_input (next text (codes "<<") rest) where
  by_input : (input : Option (List Piece)) → tasklets.input_or_output text line t rest all input ≡ Rest text line t rest all None input (next text (codes ">>") rest)
  by_input (Some behind) = refl
  by_input None = refl

-- where the second token is `<<` or `>>`
named_forms : (text : List ℕ) (line : ℕ) (t s : Piece) (ts all : List Piece) → is_arrow (spelling text s) ≡ true → IfForm IsConnector (tasklets.tasklet_named_line text line t (s ∷ ts) all)
named_forms text line t s ts all arrow =
    subst (IfForm IsConnector) (sym (rest-same text line t (s ∷ ts) all (next text (codes "=") (s ∷ ts)))) (by_arrow (bytes_eq (spelling text s) (codes "<<")) refl arrow) where
      Spelled : List ℕ → Type 0
      Spelled word = IfForm IsConnector
          (Rest text line t (s ∷ ts) all (if bytes_eq word (codes "=") then Some ts else None) (if bytes_eq word (codes "<<") then Some ts else None) (if bytes_eq word (codes ">>") then Some ts else None))

      by_arrow : (test : Bool) → bytes_eq (spelling text s) (codes "<<") ≡ test → test || bytes_eq (spelling text s) (codes ">>") ≡ true → Spelled (spelling text s)
      by_arrow true is arrow = subst Spelled (sym ((bytes_eq-Decides (spelling text s) (codes "<<")).0 is)) (input_forms text (spelling text t) ts)
      by_arrow false not arrow = subst Spelled (sym ((bytes_eq-Decides (spelling text s) (codes ">>")).0 arrow)) (output_forms text (spelling text t) ts)

tasklet_forms : (text : List ℕ) (line : ℕ) (t s : Piece) (ts : List Piece) → is_arrow (spelling text s) ≡ true → IfForm IsConnector (tasklets.tasklet_line text line (t ∷ s ∷ ts))
tasklet_forms text line t s ts arrow =
    if-either IsConnector (is_name t.word) (tasklets.tasklet_named_line text line t (s ∷ ts) (t ∷ s ∷ ts)) NoForm (named_forms text line t s ts (t ∷ s ∷ ts) arrow) tt

second_true : (a b : Bool) → a && b ≡ true → b ≡ true
second_true true b is = is
second_true false b is = false_is_not_true is

pub connector_forms : (text : List ℕ) (kind : BlockKind) (line : ℕ) (tokens : List Token) →
    IfForm (Connects kind (begins_connector text tokens)) (head_of text kind line (map (piece_of text) tokens))
connector_forms text Top line tokens = if-always (Connects Top (begins_connector text tokens)) (head_of text Top line (map (piece_of text) tokens)) (λ head other. false_is_not_true other)
connector_forms text Program line tokens = if-always (Connects Program (begins_connector text tokens)) (head_of text Program line (map (piece_of text) tokens)) (λ head other. false_is_not_true other)
connector_forms text Scope line tokens = if-always (Connects Scope (begins_connector text tokens)) (head_of text Scope line (map (piece_of text) tokens)) (λ head other. false_is_not_true other)
connector_forms text Tasklet line [] = if-always (Connects Tasklet false) (head_of text Tasklet line []) (λ head other not. false_is_not_true not)
connector_forms text Tasklet line (first ∷ []) = if-always (Connects Tasklet false) (head_of text Tasklet line (piece_of text first ∷ [])) (λ head other not. false_is_not_true not)
connector_forms text Tasklet line (first ∷ second ∷ tokens) = by_test (begins_connector text (first ∷ second ∷ tokens)) refl where
  words : List Piece
  words = map (piece_of text) (first ∷ second ∷ tokens)

  by_test : (test : Bool) → begins_connector text (first ∷ second ∷ tokens) ≡ test → IfForm (Connects Tasklet test) (head_of text Tasklet line words)
  by_test false is = if-always (Connects Tasklet false) (head_of text Tasklet line words) (λ head other not. false_is_not_true not)
  by_test true is =
      if-either (Connects Tasklet true) (is_balanced words) (tasklets.tasklet_line text line words) NoForm
      (if-more (tasklets.tasklet_line text line words) (tasklet_forms text line (piece_of text first) (piece_of text second) (map (piece_of text) tokens) (second_true (is_name_kind first.kind) (is_arrow (text_of text second)) is))) tt where
        if-more : (read : Reading HeadTree) → IfForm IsConnector read → IfForm (Connects Tasklet true) read
        if-more NoForm holds = tt
        if-more TooDeep holds = tt
        if-more (Form head) holds = λ other on. holds
