-- A name among the words of a text has no `$`.
use Rattle.std.proofs.Common.{◌≡◌, ◌∙◌, ℕ, nat_eq, List, [], ◌∷◌, map, Bool, true, false, not, ◌||◌, bytes_eq, if◌then◌else◌, refl, ap, sym, subst}
use Rattle.std.specs.Bool.{⊤}
use Rattle.std.specs.List.{AllByRecursion, list_all, list_any}
use Rattle.std.proofs.lemmas.Bool.{and_parts, eqb-true}
use Rattle.sd_lex.specs.Bytes.{is_letter, is_name_byte}
use Rattle.sd_lex.specs.FoundAt.{begins}
use Rattle.sd_lex.specs.TokenText.{IsTextOf, text_of}
use Rattle.sd_lex.specs.declared.token.Token.{Token}
use Rattle.sd_lex.specs.declared.token.TokenKind.{TokenKind}
use Rattle.sd_lex.specs.declared.token.TokenKind.TheVariants.{Name, Number, Text, Sign, LineEnd, Indent, Dedent}
use Rattle.sd_phrase.specs.declared.word.Piece.{Piece}
use Rattle.sd_phrase.specs.declared.word.Word.{Word}
use Rattle.sd_phrase.specs.declared.word.Word.TheVariants.{Other}
use Rattle.sd_phrase.specs.Words.{told, signs, word_by, piece_of, is_name, spelling}

-- no `$`
abbrev pub IsPlainName : List ℕ → Type 0
IsPlainName name = list_any (nat_eq 36) name ≡ false

-- where the word is a name
abbrev pub IsPlainPiece : (text : List ℕ) → Piece → Type 0
IsPlainPiece text piece = is_name piece.word ≡ true → IsPlainName (spelling text piece)

abbrev pub ArePlain : (text : List ℕ) → List Piece → Type 0
ArePlain text words = AllByRecursion (IsPlainPiece text) words

-- the bytes of a token are those of its kind
abbrev pub IsWritten : (text : List ℕ) → Token → Type 0
IsWritten text token = IsTextOf token.kind (text_of text token)

abbrev IsFalse : Bool → Type 0
IsFalse true = ⊥
IsFalse false = ⊤

never : {P : Type 0} → false ≡ true → P
never is = absurd (subst IsFalse is tt)

plain_byte : (byte : ℕ) → is_name_byte byte ≡ true → nat_eq 36 byte ≡ false
plain_byte byte is = by_test (nat_eq 36 byte) refl where
  by_test : (test : Bool) → nat_eq 36 byte ≡ test → test ≡ false
  by_test true same = never (subst (λ byte. is_name_byte byte ≡ true) (sym (eqb-true 36 byte same)) is)
  by_test false other = refl

plain_bytes : (bytes : List ℕ) → list_all is_name_byte bytes ≡ true → IsPlainName bytes
plain_bytes [] all = refl
plain_bytes (byte ∷ bytes) all =
    let parts = and_parts (is_name_byte byte) (list_all is_name_byte bytes) all in
    ap (λ test. test || list_any (nat_eq 36) bytes) (plain_byte byte parts.0) ∙ plain_bytes bytes parts.1

not_name : (word : Word) → not (is_name word) ≡ true → is_name word ≡ false
not_name word none = by_test (is_name word) none where
  by_test : (test : Bool) → not test ≡ true → test ≡ false
  by_test true none = sym none
  by_test false none = refl

-- a table without a name tells none
told_no_name : (rows : List (List ℕ × Word)) (default : Word) (bytes : List ℕ) → list_all (λ row. not (is_name row.1)) rows ≡ true → is_name default ≡ false → is_name (told rows default bytes) ≡ false
told_no_name [] default bytes none is = is
told_no_name (row ∷ rows) default bytes none is =
    let parts = and_parts (not (is_name row.1)) (list_all (λ row. not (is_name row.1)) rows) none in
    by_test (bytes_eq bytes row.0) (not_name row.1 parts.0) (told_no_name rows default bytes parts.1 is) where
      by_test : (test : Bool) → is_name row.1 ≡ false → is_name (told rows default bytes) ≡ false → is_name (if test then row.1 else told rows default bytes) ≡ false
      by_test true here later = here
      by_test false here later = later

named_word : (kind : TokenKind) (bytes : List ℕ) → IsTextOf kind bytes → is_name (word_by kind bytes) ≡ true → IsPlainName bytes
named_word Name bytes written is = plain_bytes bytes (and_parts (begins is_letter bytes) (list_all is_name_byte bytes) written).1
named_word (Number value) bytes written is = never is
named_word Text bytes written is = never is
named_word Sign bytes written is = never (sym (told_no_name signs Other bytes refl refl) ∙ is)
named_word LineEnd bytes written is = never is
named_word Indent bytes written is = never is
named_word Dedent bytes written is = never is

pub plain_words : (text : List ℕ) (tokens : List Token) → AllByRecursion (IsWritten text) tokens → ArePlain text (map (piece_of text) tokens)
plain_words text [] all = tt
plain_words text (token ∷ tokens) all = (named_word token.kind (text_of text token) all.0, plain_words text tokens all.1)
