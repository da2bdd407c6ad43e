-- Where a place of a text stands, and tokens in order.
use Rattle.std.proofs.Common.{◌≡◌, ℕ, ◌+◌, ◌≤◌, List, [], ◌∷◌, ◌++◌, length, take, drop, ap, sym, ◌∙◌, subst, arith, true, false, cond, All, append_assoc, length-append, take_at, drop_at}
use Rattle.std.specs.List.{count_by, AllByRecursion}
use Rattle.std.proofs.lemmas.List.Sums.{sum_by_push}
use Rattle.std.proofs.lemmas.List.Elements.{All-from_recursion}
use Rattle.sd_lex.specs.Bytes.{is_newline}
use Rattle.sd_lex.specs.Position.{line_at, IsInOrder}
use Rattle.sd_lex.specs.TokenText.{IsTextOf, text_of}
use Rattle.sd_lex.specs.declared.token.Token.{Token}

-- a place of a text: what stands from there on, and the number of its line
pub record Stands (text : List ℕ) (at number : ℕ) (here : List ℕ) : Type 0 where
  pub before : List ℕ
  pub all : text ≡ before ++ here
  pub place : length before ≡ at
  pub line : count_by is_newline before + 1 ≡ number

-- bytes without a newline
abbrev pub IsClean : List ℕ → Type 0
IsClean bytes = AllByRecursion (λ byte. is_newline byte ≡ false) bytes

-- the line of a place
pub stands-line : (text : List ℕ) (at number : ℕ) (here : List ℕ) → Stands text at number here → number ≡ line_at text at
stands-line text at number here s =
    let head : take at text ≡ s.before = ap (take at) s.all ∙ take_at s.before here at s.place in
    sym s.line ∙ ap (λ bytes. count_by is_newline bytes + 1) (sym head)

-- what stands from a place on
pub stands-drop : (text : List ℕ) (at number : ℕ) (here : List ℕ) → Stands text at number here → drop at text ≡ here
stands-drop text at number here s = ap (drop at) s.all ∙ drop_at s.before here at s.place

-- a place is so far before the end
pub stands-length : (text : List ℕ) (at number : ℕ) (here : List ℕ) → Stands text at number here → length text ≡ at + length here
stands-length text at number here s = omega (arith, s.place, ap length s.all, length-append s.before here)

module _ (text : List ℕ) (at number byte : ℕ) (here : List ℕ) (s : Stands text at number (byte ∷ here)) where
  -- the place behind a byte, on a line of another number where the byte is a newline
  moved : (other : ℕ) → number + cond (is_newline byte) 1 0 ≡ other → Stands text (at + 1) other here
  moved other more = record {
    before = s.before ++ byte ∷ [];
    all = s.all ∙ sym (append_assoc s.before (byte ∷ []) here);
    place = omega (arith, s.place, length-append s.before (byte ∷ []));
    line = omega (arith, s.line, more, sum_by_push (λ x. cond (is_newline x) 1 0) s.before byte);
  }

  -- a place behind another on its line
  pub step : is_newline byte ≡ false → Stands text (at + 1) number here
  step plain = moved number (ap (λ b. number + cond b 1 0) plain ∙ omega arith)

  -- the place behind a newline
  pub next_line : is_newline byte ≡ true → Stands text (at + 1) (number + 1) here
  next_line newline = moved (number + 1) (ap (λ b. number + cond b 1 0) newline)

-- a place behind bytes of a line
pub skip : (text : List ℕ) (at number : ℕ) (bytes here : List ℕ) → Stands text at number (bytes ++ here) → IsClean bytes → Stands text (at + length bytes) number here
skip text at number [] here s clean = subst (λ place. Stands text place number here) (omega arith) s
skip text at number (byte ∷ bytes) here s clean =
    subst (λ place. Stands text place number here) (omega arith) (skip text (at + 1) number bytes here (step text at number byte (bytes ++ here) s clean.0) clean.1)

-- parts of clean bytes are clean
pub clean-front : (bytes more : List ℕ) → IsClean (bytes ++ more) → IsClean bytes
clean-front [] more clean = tt
clean-front (byte ∷ bytes) more clean = (clean.0, clean-front bytes more clean.1)

-- the rest of clean bytes is clean
pub clean-rest : (bytes more : List ℕ) → IsClean (bytes ++ more) → IsClean more
clean-rest [] more clean = clean
clean-rest (byte ∷ bytes) more clean = clean-rest bytes more clean.1

-- tokens in order from a place to another, each with a property
abbrev pub Chain : (P : Token → Type 0) → ℕ → List Token → ℕ → Type 0
Chain P low [] high = low ≤ high
Chain P low (token ∷ tokens) high = (low ≤ token.from) × (token.from ≤ token.to) × P token × Chain P token.to tokens high

-- tokens between two places are between places further apart
pub wider : (P : Token → Type 0) (low : ℕ) (tokens : List Token) (high : ℕ) (lower higher : ℕ) → lower ≤ low → high ≤ higher → Chain P low tokens high → Chain P lower tokens higher
wider P low [] high lower higher below above chain = let within : low ≤ high = chain in omega arith
wider P low (token ∷ tokens) high lower higher below above chain =
    let first : low ≤ token.from = chain.0 in
    let same : token.to ≤ token.to = omega arith in
    (omega arith, chain.1, chain.2, wider P token.to tokens high token.to higher same above chain.3)

-- tokens in order behind tokens in order
pub chain-append : (P : Token → Type 0) (low : ℕ) (tokens : List Token) (middle : ℕ) (others : List Token) (high : ℕ) → Chain P low tokens middle → Chain P middle others high → Chain P low (tokens ++ others) high
chain-append P low [] middle others high chain more = let same : high ≤ high = omega arith in wider P middle others high low high chain same more
chain-append P low (token ∷ tokens) middle others high chain more = (chain.0, chain.1, chain.2, chain-append P token.to tokens middle others high chain.3 more)

-- such tokens are in order
pub chain_order : (P : Token → Type 0) (low : ℕ) (tokens : List Token) (high : ℕ) → Chain P low tokens high → IsInOrder low tokens high
chain_order P low [] high chain = chain
chain_order P low (token ∷ tokens) high chain = (chain.0, chain.1, chain_order P token.to tokens high chain.3)

-- each of them has what its property gives, one after another
each : (P Q : Token → Type 0) → ((token : Token) → P token → Q token) → (low : ℕ) (tokens : List Token) (high : ℕ) → Chain P low tokens high → AllByRecursion Q tokens
each P Q gives low [] high chain = tt
each P Q gives low (token ∷ tokens) high chain = (gives token chain.2, each P Q gives token.to tokens high chain.3)

-- each of them has what its property gives
pub chain_each : (P Q : Token → Type 0) → ((token : Token) → P token → Q token) → (low : ℕ) (tokens : List Token) (high : ℕ) → Chain P low tokens high → All Q tokens
chain_each P Q gives low tokens high chain = All-from_recursion Q tokens (each P Q gives low tokens high chain)

-- a token is on the line of its first byte, and has the bytes of its kind
abbrev pub IsRight : List ℕ → Token → Type 0
IsRight text token = (token.line ≡ line_at text token.from) × IsTextOf token.kind (text_of text token)
