-- Small texts whose tokens spell an expression with all its parentheses, and how many levels each takes.
use Rattle.std.proofs.Common.{◌≡◌, refl, ℕ, pos, List, [], ◌∷◌, true, false, codes}
use Rattle.sd_lex.specs.PlainTree.{Expression, number, named, element_at, two, no_expression, and_expression}
use Rattle.sd_lex.specs.declared.syntax.operator.OneSign.TheVariants.{Not, Neg, Inv}
use Rattle.sd_lex.specs.declared.syntax.operator.TwoSign.TheVariants.{Or, And, Less, LessEqual, Greater, GreaterEqual, Equal, Differ, BitOr, BitXor, BitAnd, Add, Sub, Mul, FloorDiv, Mod, Min, Max}
use Rattle.sd_lex.specs.declared.token.TokenKind.TheVariants.{Name as Name_kind, Sign as Sign_kind}
use Rattle.sd_phrase.specs.declared.reading.Reading.TheVariants.{TooDeep, Form}
use Rattle.sd_phrase.specs.declared.word.Bracket.TheVariants.{Round, Square}
use Rattle.sd_phrase.specs.declared.word.Mark.TheVariants.{Comma}
use Rattle.sd_phrase.specs.declared.word.Piece.{Piece}
use Rattle.sd_phrase.specs.declared.word.Word.{Word}
use Rattle.sd_phrase.specs.declared.word.Word.TheVariants.{Number, Name, Callee, Minus, If, Else, Stop, Open, Close}
use Rattle.sd_phrase.specs.Words.{word_by}
use Rattle.sd_phrase.specs.ExpressionReading.{expression}
use Rattle.sd_phrase.specs.Printing.{word_between, word_before, Spells, spelled_number, spelled_name, spelled_element, spelled_two, spelled_call, in_parentheses, spelled_last}
use Rattle.sd_phrase.proofs.ReadsBack.{spelled_reads}

-- the words of operators are those of their signs in a text
signs_between :
    (word_between Or ≡ word_by Name_kind (codes "or")) × (word_between And ≡ word_by Name_kind (codes "and"))
    × (word_between Less ≡ word_by Sign_kind (codes "<")) × (word_between LessEqual ≡ word_by Sign_kind (codes "<="))
    × (word_between Greater ≡ word_by Sign_kind (codes ">")) × (word_between GreaterEqual ≡ word_by Sign_kind (codes ">="))
    × (word_between Equal ≡ word_by Sign_kind (codes "==")) × (word_between Differ ≡ word_by Sign_kind (codes "!="))
    × (word_between BitOr ≡ word_by Sign_kind (codes "|")) × (word_between BitXor ≡ word_by Sign_kind (codes "^"))
    × (word_between BitAnd ≡ word_by Sign_kind (codes "&")) × (word_between Add ≡ word_by Sign_kind (codes "+"))
    × (word_between Sub ≡ word_by Sign_kind (codes "-")) × (word_between Mul ≡ word_by Sign_kind (codes "*"))
    × (word_between FloorDiv ≡ word_by Sign_kind (codes "//")) × (word_between Mod ≡ word_by Sign_kind (codes "%"))
signs_between = (refl, refl, refl, refl, refl, refl, refl, refl, refl, refl, refl, refl, refl, refl, refl, refl)

signs_before :
    (word_before Not ≡ word_by Name_kind (codes "not")) × (word_before Neg ≡ word_by Sign_kind (codes "-")) × (word_before Inv ≡ word_by Sign_kind (codes "~"))
signs_before = (refl, refl, refl)

-- and so are the words of calls, conditionals, brackets and commas
other_words :
    (word_by Name_kind (codes "min") ≡ Callee Min) × (word_by Name_kind (codes "max") ≡ Callee Max) × (word_by Name_kind (codes "if") ≡ If) × (word_by Name_kind (codes "else") ≡ Else)
    × (word_by Sign_kind (codes "(") ≡ Open Round) × (word_by Sign_kind (codes ")") ≡ Close Round) × (word_by Sign_kind (codes "[") ≡ Open Square) × (word_by Sign_kind (codes "]") ≡ Close Square)
    × (word_by Sign_kind (codes ",") ≡ Stop Comma) × (word_by Name_kind (codes "x") ≡ Name)
other_words = (refl, refl, refl, refl, refl, refl, refl, refl, refl, refl)

abbrev pub at : Word → (from to : ℕ) → Piece
at word from to = record { word = word; from = from; to = to }

-- (a)-(2)
abbrev difference : List ℕ
difference = codes "(a)-(2)"

abbrev difference_tokens : List Piece
difference_tokens = at (Open Round) 0 1 ∷ at Name 1 2 ∷ at (Close Round) 2 3 ∷ at Minus 3 4 ∷ at (Open Round) 4 5 ∷ at (Number (pos 2)) 5 6 ∷ at (Close Round) 6 7 ∷ []

abbrev difference_tree : Expression
difference_tree = two Sub (named (codes "a")) (number (pos 2))

difference_is_spelled : Spells difference difference_tree difference_tokens
difference_is_spelled =
    spelled_two Sub (named (codes "a")) (number (pos 2)) (at (Open Round) 0 1 ∷ at Name 1 2 ∷ at (Close Round) 2 3 ∷ []) (at (Open Round) 4 5 ∷ at (Number (pos 2)) 5 6 ∷ at (Close Round) 6 7 ∷ []) (at Minus 3 4) refl
    (in_parentheses (named (codes "a")) (at (Open Round) 0 1) (at (Close Round) 2 3) (at Name 1 2 ∷ []) refl (spelled_name (codes "a") (at Name 1 2) refl refl) refl) refl
    (in_parentheses (number (pos 2)) (at (Open Round) 4 5) (at (Close Round) 6 7) (at (Number (pos 2)) 5 6 ∷ []) refl (spelled_number (pos 2) (at (Number (pos 2)) 5 6) refl) refl)

difference_with_two_levels : expression difference true 2 difference_tokens ≡ Form difference_tree
difference_with_two_levels = spelled_reads difference difference_tree difference_tokens difference_is_spelled true 2

difference_with_one_level : expression difference true 1 difference_tokens ≡ TooDeep
difference_with_one_level = spelled_reads difference difference_tree difference_tokens difference_is_spelled true 1

-- min(a,max): a call, and the name of another
abbrev least : List ℕ
least = codes "min(a,max)"

abbrev least_tokens : List Piece
least_tokens = at (Callee Min) 0 3 ∷ at (Open Round) 3 4 ∷ at Name 4 5 ∷ at (Stop Comma) 5 6 ∷ at (Callee Max) 6 9 ∷ at (Close Round) 9 10 ∷ []

abbrev least_tree : Expression
least_tree = two Min (named (codes "a")) (named (codes "max"))

least_is_spelled : Spells least least_tree least_tokens
least_is_spelled =
    spelled_call Min (named (codes "a")) (named (codes "max")) (at (Callee Min) 0 3) (at (Open Round) 3 4) (at (Stop Comma) 5 6) (at (Close Round) 9 10) (at Name 4 5 ∷ []) (at (Callee Max) 6 9 ∷ []) refl
    refl refl (spelled_name (codes "a") (at Name 4 5) refl refl) refl (spelled_name (codes "max") (at (Callee Max) 6 9) refl refl) refl

least_with_one_level : expression least false 1 least_tokens ≡ Form least_tree
least_with_one_level = spelled_reads least least_tree least_tokens least_is_spelled false 1

least_without_level : expression least false 0 least_tokens ≡ TooDeep
least_without_level = spelled_reads least least_tree least_tokens least_is_spelled false 0

-- A[i]: its subscript is an expression of its own in a body, and takes a level in a tasklet
abbrev cell : List ℕ
cell = codes "A[i]"

abbrev cell_tokens : List Piece
cell_tokens = at Name 0 1 ∷ at (Open Square) 1 2 ∷ at Name 2 3 ∷ at (Close Square) 3 4 ∷ []

abbrev cell_tree : Expression
cell_tree = element_at (codes "A") (and_expression (named (codes "i")) no_expression)

cell_is_spelled : Spells cell cell_tree cell_tokens
cell_is_spelled =
    spelled_element (codes "A") (and_expression (named (codes "i")) no_expression) (at Name 0 1) (at (Open Square) 1 2) (at (Close Square) 3 4) (at Name 2 3 ∷ []) refl refl
    refl (spelled_last (named (codes "i")) (at Name 2 3 ∷ []) (spelled_name (codes "i") (at Name 2 3) refl refl)) refl

cell_of_a_body : expression cell true 0 cell_tokens ≡ Form cell_tree
cell_of_a_body = spelled_reads cell cell_tree cell_tokens cell_is_spelled true 0

cell_of_a_tasklet : (expression cell false 0 cell_tokens ≡ TooDeep) × (expression cell false 1 cell_tokens ≡ Form cell_tree)
cell_of_a_tasklet = (spelled_reads cell cell_tree cell_tokens cell_is_spelled false 0, spelled_reads cell cell_tree cell_tokens cell_is_spelled false 1)
