-- A run of two files, without a chain or with one.
use Rattle.std.proofs.Common.{◌≡◌, ◌∙◌, ◌==◌, ◌++◌, ℕ, false, List, [], ◌∷◌, Option, Some, None, is_some, refl, sym, ap, subst, codes}
use Rattle.std.specs.Prelude.{fold}
use Rattle.std.proofs.lemmas.Bool.{ne_eqb}
use Rattle.clap.specs.Words.{App, Kinds, Row, Rule, Text, built}
use Rattle.clap.specs.Kinds.{or_else}
use Rattle.clap.specs.Walk.{Held, Step, value, Walk, idle, after_step, finished, nothing_held, settled, walk_from, walked, word_met}
use Rattle.clap.specs.Simple.{Shape, entered}
use Rattle.clap.specs.Faults.{check_fault, defaults_fault, entered_fault, settle_fault, step_fault, turn_fault, walk_fault, word_fault}
use Rattle.clap.proofs.OnLiterals.{clap_on_literals}
use Rattle.sd_words.specs.Arguments.{running, declared}
use Rattle.sd_words.specs.Command.{Call, to_run, Give, IsCall}

-- a word that begins with another byte than a dash goes to a file
word_value : (c : List Rule) (position : ℕ) (a : ℕ) (rest : Text) (h : Held) → (a == 45) ≡ false → word_met c [] false idle position (a ∷ rest) h ≡ (h, value)
word_value c position a rest h is = rw is (rw is refl)

word_passes : (s : Shape) (a : ℕ) (rest : Text) (h : Held) → (a == 45) ≡ false → word_fault s [] false idle (a ∷ rest) h ≡ []
word_passes s a rest h is = rw is (rw is refl)

abbrev app : App
app = built (declared running)

abbrev shape : Shape
shape = app.top

abbrev rules : List Rule
rules = shape.rules

abbrev begin : Walk
begin = walk_from nothing_held

-- where the walk stands behind the source, and behind the arrays file
abbrev one : Text → Walk
one source = after_step rules source begin nothing_held value

abbrev two : Text → Text → Walk
two source arrays = after_step rules arrays (one source) (one source).held value

-- what a parse finds at fault, by where its walk ends and what was at fault in it
abbrev at_fault : Walk → Kinds → Kinds
at_fault w fault =
    or_else fault (or_else (entered_fault app w.stopped) (or_else (settle_fault rules shape.args_override_self w.held) (or_else (defaults_fault (settled rules w.held).rows rules)
    (check_fault shape (finished rules w.held) (is_some (entered app w.stopped))))))

abbrev pub words : (source arrays : Text) → List Text → List Text
words source arrays others = codes "run" ∷ source ∷ arrays ∷ others

-- and behind other words
abbrev behind : (source arrays : Text) → List Text → Walk
behind source arrays others = fold (walked rules []) (two source arrays) others

abbrev fault_behind : (source arrays : Text) → List Text → Kinds
fault_behind source arrays others = at_fault (behind source arrays others) (walk_fault shape [] (two source arrays) others)

abbrev found : (source arrays : Text) → List Text → List Row
found source arrays others = finished rules (behind source arrays others).held

abbrev pub run_with : (source arrays : Text) → Option Text → Call
run_with source arrays chain = record { source = source; arrays = arrays; chain = chain; command = to_run (record { turns = 10000000; workers = 1 }) }

abbrev chain_word : Text → Text
chain_word chain = codes "--chain=" ++ chain

alone_at_fault : (a b : ℕ) (source arrays : Text) → fault_behind (a ∷ source) (b ∷ arrays) [] ≡ []
unfolding clap_on_literals
alone_at_fault a b source arrays = refl

chain_at_fault : (a b : ℕ) (source arrays chain : Text) → fault_behind (a ∷ source) (b ∷ arrays) (chain_word chain ∷ []) ≡ []
unfolding clap_on_literals
chain_at_fault a b source arrays chain = refl

alone_gives : (a b : ℕ) (source arrays : Text) → Give (found (a ∷ source) (b ∷ arrays) []) (run_with (a ∷ source) (b ∷ arrays) None)
unfolding clap_on_literals
alone_gives a b source arrays = record { source = refl; arrays = refl; chain = refl; command = (refl, refl) }

chain_gives : (a b : ℕ) (source arrays chain : Text) → Give (found (a ∷ source) (b ∷ arrays) (chain_word chain ∷ [])) (run_with (a ∷ source) (b ∷ arrays) (Some chain))
unfolding clap_on_literals
chain_gives a b source arrays chain = record { source = refl; arrays = refl; chain = refl; command = (refl, refl) }

module _ (a b : ℕ) (source arrays : Text) (a_file : (a == 45) ≡ false) (b_file : (b == 45) ≡ false) where
  walks_source : walked rules [] begin (a ∷ source) ≡ one (a ∷ source)
  unfolding walked
  walks_source = ap (λ (p : Held × Step). after_step rules (a ∷ source) begin p.0 p.1) (word_value rules 1 a source nothing_held a_file)

  walks_arrays : walked rules [] (one (a ∷ source)) (b ∷ arrays) ≡ two (a ∷ source) (b ∷ arrays)
  unfolding walked
  walks_arrays = ap (λ (p : Held × Step). after_step rules (b ∷ arrays) (one (a ∷ source)) p.0 p.1) (word_value rules 2 b arrays (one (a ∷ source)).held b_file)

  source_passes : turn_fault shape [] begin (a ∷ source) ≡ []
  source_passes = λ i. or_else (word_passes shape a source nothing_held a_file i) (step_fault shape 1 (word_value rules 1 a source nothing_held a_file i).0 (word_value rules 1 a source nothing_held a_file i).1)

  arrays_pass : turn_fault shape [] (one (a ∷ source)) (b ∷ arrays) ≡ []
  arrays_pass = λ i. or_else (word_passes shape b arrays (one (a ∷ source)).held b_file i)
      (step_fault shape 2 (word_value rules 2 b arrays (one (a ∷ source)).held b_file i).0 (word_value rules 2 b arrays (one (a ∷ source)).held b_file i).1)

  -- the walk over the two files and other words
  walks : (others : List Text) → fold (walked rules []) begin ((a ∷ source) ∷ (b ∷ arrays) ∷ others) ≡ fold (walked rules []) (two (a ∷ source) (b ∷ arrays)) others
  walks others = ap (λ w. fold (walked rules []) (walked rules [] w (b ∷ arrays)) others) walks_source ∙ ap (λ w. fold (walked rules []) w others) walks_arrays

  passes : (others : List Text) → walk_fault shape [] begin ((a ∷ source) ∷ (b ∷ arrays) ∷ others) ≡ walk_fault shape [] (two (a ∷ source) (b ∷ arrays)) others
  unfolding walk_fault
  passes others =
      (λ i. or_else (source_passes i) (or_else (turn_fault shape [] (walks_source i) (b ∷ arrays)) (walk_fault shape [] (walked rules [] (walks_source i) (b ∷ arrays)) others)))
      ∙ (λ i. or_else (arrays_pass i) (walk_fault shape [] (walks_arrays i) others))

  is_call : (others : List Text) (chain : Option Text) → fault_behind (a ∷ source) (b ∷ arrays) others ≡ [] → Give (found (a ∷ source) (b ∷ arrays) others) (run_with (a ∷ source) (b ∷ arrays) chain)
      → IsCall (words (a ∷ source) (b ∷ arrays) others) (run_with (a ∷ source) (b ∷ arrays) chain)
  is_call others chain none give = record {
    others = (a ∷ source) ∷ (b ∷ arrays) ∷ others;
    first = refl;
    parse = (λ i. at_fault (walks others i) (passes others i)) ∙ none;
    give = subst (λ w. Give (finished rules w.held) (run_with (a ∷ source) (b ∷ arrays) chain)) (sym (walks others)) give;
  }

pub alone : (a b : ℕ) (source arrays : Text) → (a ≡ 45 → ⊥) → (b ≡ 45 → ⊥) → IsCall (words (a ∷ source) (b ∷ arrays) []) (run_with (a ∷ source) (b ∷ arrays) None)
alone a b source arrays a_file b_file = is_call a b source arrays (ne_eqb a 45 a_file) (ne_eqb b 45 b_file) [] None (alone_at_fault a b source arrays) (alone_gives a b source arrays)

pub with_chain : (a b : ℕ) (source arrays chain : Text) → (a ≡ 45 → ⊥) → (b ≡ 45 → ⊥)
    → IsCall (words (a ∷ source) (b ∷ arrays) (chain_word chain ∷ [])) (run_with (a ∷ source) (b ∷ arrays) (Some chain))
with_chain a b source arrays chain a_file b_file =
    is_call a b source arrays (ne_eqb a 45 a_file) (ne_eqb b 45 b_file) (chain_word chain ∷ []) (Some chain) (chain_at_fault a b source arrays chain) (chain_gives a b source arrays chain)
