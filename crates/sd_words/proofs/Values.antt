-- Where clap finds no fault, each argument that it notes has a value.
use Rattle.std.proofs.Common.{◌≡◌, ◌++◌, ◌&&◌, ℕ, Bool, cond, true, false, not, zero, suc, List, [], ◌∷◌, length, drop, Option, Some, None, is_some, refl, sym, ap, subst, nat_lt, true≢false}
use Rattle.std.specs.Prelude.{find, fold, slice_get, unwrap_or, option_and_then, encode_utf8}
use Rattle.std.specs.List.{list_all, list_any}
use Rattle.std.specs.Option.{option_map_or}
use Rattle.std.specs.Str.{bytes_eq, chars}
use Rattle.clap.specs.Lexer.{long_of, short_of}
use Rattle.clap.specs.Facts.{explicit_source, unwrap_or_range}
use Rattle.clap.specs.Kinds.{Kinds, check_kinds, or_else, range_kinds}
use Rattle.clap.specs.Walk.{Held, Outcome, done, waits, plain, refused, Row, Rule, Step, next, trailing, subcommand, value, Text, Waiting, idle, option, positional, Walk, action_of, after_flag, after_step, arg_by_id, arg_by_index, arg_by_long, arg_by_short, at_row, attached_value, bundle_met, bundle_step, default_rows, finished, first_of, flag_met, has_row, is_pending, long_met, long_or_other, more_values, most_values, nothing_held, option_met, option_word, plain_word, pushed, reacted, reading_by, rows_after, settled, settled_rows, short_met, short_or_plain, takes_several, takes_values, to_positional, used, used_as, used_by_id, values_or_missing, walk, walk_from, walked, walked_from, with_default, with_values, without, word_met}
use Rattle.clap.specs.Simple.{Shape}
use Rattle.clap.specs.Takes.{is_given}
use Rattle.clap.specs.Faults.{action_fault, bundle_step_fault, check_fault, flag_word_fault, flags_fault, level_fault, long_fault, option_fault, positional_fault, react_fault, settle_fault, short_fault, step_fault, stray_fault, turn_fault, use_fault, walk_fault, word_fault}
use Rattle.clap.specs.declared.builder.action.ArgAction.{ArgAction}
use Rattle.clap.specs.declared.builder.action.ArgAction.TheVariants as action
use Rattle.clap.specs.declared.builder.value_parser.Reading.{Reading}
use Rattle.clap.specs.declared.error.kind.ErrorKind.{ErrorKind}
use Rattle.clap.specs.declared.error.kind.ErrorKind.TheVariants as kind
use Rattle.clap.specs.declared.parser.matches.ValueSource.{ValueSource}
use Rattle.clap.specs.declared.parser.matches.ValueSource.TheVariants.{DefaultValue, CommandLine}
use Rattle.clap.proofs.WalkLemmas.{both}

-- ---- steps that pass

pub first_passes : (a b : Kinds) → or_else a b ≡ [] → a ≡ []
first_passes [] b none = refl
first_passes (k ∷ ks) b none = none

pub next_passes : (a b : Kinds) → or_else a b ≡ [] → b ≡ []
next_passes [] b none = none
next_passes (k ∷ ks) b none = cc

no_kind : (k : ErrorKind) (ks : Kinds) → k ∷ ks ≡ [] → ⊥
no_kind k ks none = cc

no_value_refused : (wants : Bool) (k : ErrorKind) (rest more : Kinds) → wants ≡ true → or_else (cond (wants && true) (k ∷ []) rest) more ≡ [] → ⊥
no_value_refused true k rest more is none = no_kind k [] none
no_value_refused false k rest more is none = absurd (true≢false (sym is))

-- ---- rows that have values

abbrev has_some : List Text → Bool
has_some [] = false
has_some (v ∷ vs) = true

abbrev has_value : Row → Bool
has_value r = has_some r.values

abbrev pub have_values : List Row → Bool
have_values = list_all has_value

and : (a b : Bool) → a ≡ true → b ≡ true → (a && b) ≡ true
and true b first second = second
and false b first second = first

have_both : (xs ys : List Row) → have_values xs ≡ true → have_values ys ≡ true → have_values (xs ++ ys) ≡ true
have_both [] ys first second = second
have_both (x ∷ xs) ys first second =
    let parts = both (has_value x) (have_values xs) first in
    and (has_value x) (have_values (xs ++ ys)) parts.0 (have_both xs ys parts.1 second)

at_values : (id : Text) (change : Row → List Row) (missing rows : List Row) → ((r : Row) → has_value r ≡ true → have_values (change r) ≡ true) → have_values missing ≡ true
    → have_values rows ≡ true → have_values (at_row id change missing rows) ≡ true
at_values id change missing [] keeps none all = none
at_values id change missing (r ∷ rs) keeps none all =
    let parts = both (has_value r) (have_values rs) all in
    go (bytes_eq r.id id) parts.0 parts.1 (at_values id change missing rs keeps none parts.1)
  where
    go : (b : Bool) → has_value r ≡ true → have_values rs ≡ true → have_values (at_row id change missing rs) ≡ true → have_values (cond b (change r ++ rs) (r ∷ at_row id change missing rs)) ≡ true
    go true first rest below = have_both (change r) rs (keeps r first) rest
    go false first rest below = and (has_value r) (have_values (at_row id change missing rs)) first below

left_out : (id : Text) (rows : List Row) → have_values rows ≡ true → have_values (without id rows) ≡ true
left_out id rows all = at_values id (λ _. []) [] rows (λ r has. refl) refl all

longer : (xs : List Text) (v : Text) (vs : List Text) → has_some (xs ++ v ∷ vs) ≡ true
longer [] v vs = refl
longer (x ∷ xs) v vs = refl

put : (id : Text) (how : Reading) (s : ValueSource) (values : List Text) (rows : List Row) → has_some values ≡ true → have_values rows ≡ true → have_values (with_values id how s values rows) ≡ true
put id how s [] rows some all = absurd (true≢false (sym some))
put id how s (v ∷ vs) rows some all = at_values id (more_values s (v ∷ vs)) _ rows (λ r has. and _ true (longer r.values v vs) refl) refl all

-- ---- one use of an argument

-- an argument takes a value, or has one for a use without, or asks for help
abbrev fine_by : ArgAction → Rule → Bool
fine_by action.Set a = nat_lt 0 (unwrap_or_range a.range).start_inclusive
fine_by action.SetTrue a = has_some a.missing
fine_by action.Help a = true
fine_by _ a = false

abbrev pub is_fine : Rule → Bool
is_fine a = fine_by (action_of a) a

by_action : (x : ArgAction) (again : Bool) (a : Rule) (how : Reading) (values : List Text) (rows : List Row) → fine_by x a ≡ true
    → or_else (range_kinds (unwrap_or_range a.range).start_inclusive (most_values a) (length values)) (action_fault x again a (values_or_missing a values) rows) ≡ []
    → have_values rows ≡ true → have_values (used_as x a.id how (values_or_missing a values) rows) ≡ true
by_action action.Set again a how [] rows fine none all = absurd (no_value_refused _ kind.InvalidValue _ _ fine none)
by_action action.Set again a how (v ∷ vs) rows fine none all = put a.id how CommandLine (v ∷ vs) (without a.id rows) refl (left_out a.id rows all)
by_action action.SetTrue again a how [] rows fine none all = put a.id how CommandLine a.missing (without a.id rows) fine (left_out a.id rows all)
by_action action.SetTrue again a how (v ∷ vs) rows fine none all = put a.id how CommandLine (v ∷ vs) (without a.id rows) refl (left_out a.id rows all)
by_action action.Help again a how values rows fine none all = absurd (no_kind kind.DisplayHelp [] (next_passes _ (kind.DisplayHelp ∷ []) none))
by_action action.Append again a how values rows fine none all = absurd (true≢false (sym fine))
by_action action.SetFalse again a how values rows fine none all = absurd (true≢false (sym fine))
by_action action.Count again a how values rows fine none all = absurd (true≢false (sym fine))
by_action action.HelpShort again a how values rows fine none all = absurd (true≢false (sym fine))
by_action action.HelpLong again a how values rows fine none all = absurd (true≢false (sym fine))
by_action action.Version again a how values rows fine none all = absurd (true≢false (sym fine))

use_values : (again : Bool) (a : Rule) (values : List Text) (rows : List Row) → is_fine a ≡ true → use_fault again a values rows ≡ [] → have_values rows ≡ true → have_values (used a values rows) ≡ true
use_values again a values rows fine none all = by_action (action_of a) again a (reading_by a) values rows fine none all

found_fine : (p : Rule → Bool) (c : List Rule) (a : Rule) → list_all is_fine c ≡ true → find p c ≡ Some a → is_fine a ≡ true
found_fine p [] a fine found = cc
found_fine p (r ∷ rs) a fine found =
    let parts = both (is_fine r) (list_all is_fine rs) fine in
    go (p r) found (λ below. found_fine p rs a parts.1 below) parts.0
  where
    go : (b : Bool) → cond b (Some r) (find p rs) ≡ Some a → (find p rs ≡ Some a → is_fine a ≡ true) → is_fine r ≡ true → is_fine a ≡ true
    go true is below here = subst (λ q. is_fine q ≡ true) (ap (λ o. unwrap_or o r) is) here
    go false is below here = below is

module _ (c : List Rule) (again : Bool) (fine : list_all is_fine c ≡ true) where
  by_rule : (id : Text) (values : List Text) (rows : List Row) (o : Option Rule) → arg_by_id c id ≡ o → option_map_or (λ a. use_fault again a values rows) o [] ≡ []
      → have_values rows ≡ true → have_values (used_by_id o values rows) ≡ true
  by_rule id values rows None is none all = all
  by_rule id values rows (Some a) is none all = use_values again a values rows (found_fine (λ r. bytes_eq r.id id) c a fine is) none all

  settle_values : (h : Held) → settle_fault c again h ≡ [] → have_values h.rows ≡ true → have_values (settled c h).rows ≡ true
  settle_values h none all = go h.pending none
    where
      go : (p : Option (Text × List Text)) → option_map_or (λ p. option_map_or (λ a. use_fault again a p.1 h.rows) (arg_by_id c p.0) []) p [] ≡ [] → have_values (settled_rows c p h.rows) ≡ true
      go None passes = all
      go (Some p) passes = by_rule p.0 p.1 h.rows (arg_by_id c p.0) refl passes all

  react_values : (a : Rule) (values : List Text) (h : Held) → is_fine a ≡ true → react_fault c again a values h ≡ [] → have_values h.rows ≡ true → have_values (reacted c a values h).rows ≡ true
  react_values a values h good none all =
      use_values again a values (settled c h).rows good (next_passes (settle_fault c again h) _ none) (settle_values h (first_passes (settle_fault c again h) _ none) all)

  option_values : (a : Rule) (v : Option Text) (h : Held) → is_fine a ≡ true → option_fault c again a v h ≡ [] → have_values h.rows ≡ true → have_values ((option_met c a v h).0).rows ≡ true
  option_values a (Some v) h good none all = react_values a (v ∷ []) h good none all
  option_values a None h good none all = settle_values h none all

  long_values : (o : Option Rule) (v : Option Text) (h : Held) → ((a : Rule) → o ≡ Some a → is_fine a ≡ true) → long_fault c again o v h ≡ [] → have_values h.rows ≡ true
      → have_values ((long_met c o v h).0).rows ≡ true
  long_values None v h good none all = all
  long_values (Some a) v h good none all = go (takes_values a) v none
    where
      go : (b : Bool) (v : Option Text) → cond b (option_fault c again a v h) (cond (is_some v) (kind.TooManyValues ∷ []) (react_fault c again a [] h)) ≡ []
          → have_values ((cond b (option_met c a v h) (flag_met c a v h)).0).rows ≡ true
      go true v passes = option_values a v h (good a refl) passes all
      go false (Some v) passes = all
      go false None passes = react_values a [] h (good a refl) passes all

  short_values : (o : Option Rule) (rest : Text) (h : Held) (after : Held → Held × Outcome) (after_fault : Held → Kinds) → ((a : Rule) → o ≡ Some a → is_fine a ≡ true)
      → ((k : Held) → after_fault k ≡ [] → have_values k.rows ≡ true → have_values ((after k).0).rows ≡ true)
      → short_fault c again o rest h after_fault ≡ [] → have_values h.rows ≡ true → have_values ((short_met c o rest h after).0).rows ≡ true
  short_values None rest h after after_fault good keeps none all = all
  short_values (Some a) rest h after after_fault good keeps none all = go (takes_values a) none
    where
      go : (b : Bool) → cond b (option_fault c again a (attached_value rest) h) (or_else (react_fault c again a [] h) (after_fault (reacted c a [] h))) ≡ []
          → have_values ((cond b (option_met c a (attached_value rest) h) (after (reacted c a [] h))).0).rows ≡ true
      go true passes = option_values a (attached_value rest) h (good a refl) passes all
      go false passes =
          keeps (reacted c a [] h) (next_passes (react_fault c again a [] h) _ passes) (react_values a [] h (good a refl) (first_passes (react_fault c again a [] h) _ passes) all)

  bundle_values : (k : ℕ) (flags : Text) (skip : ℕ) (so_far : Outcome) (h : Held) → flags_fault c again k flags skip h ≡ [] → have_values h.rows ≡ true
      → have_values ((bundle_met c k flags skip so_far h).0).rows ≡ true
  unfolding bundle_met flags_fault
  bundle_values zero flags skip so_far h none all = all
  bundle_values (suc k) flags skip so_far h none all =
      go (slice_get (chars flags) 0) skip none (λ rest some far held passes has. bundle_values k rest some far held passes has)
    where
      go : (o : Option ℕ) (n : ℕ) → bundle_step_fault c again o flags n h (flags_fault c again k) ≡ []
          → ((rest : Text) (some : ℕ) (far : Outcome) (held : Held) → flags_fault c again k rest some held ≡ [] → have_values held.rows ≡ true → have_values ((bundle_met c k rest some far held).0).rows ≡ true)
          → have_values ((bundle_step c o flags n so_far h (bundle_met c k)).0).rows ≡ true
      go None n passes below = all
      go (Some x) zero passes below =
          short_values (arg_by_short c x) (drop (length (encode_utf8 x)) flags) h (bundle_met c k (drop (length (encode_utf8 x)) flags) 0 done) (flags_fault c again k (drop (length (encode_utf8 x)) flags) 0)
          (λ a is. found_fine _ c a fine is) (λ held m has. below (drop (length (encode_utf8 x)) flags) 0 done held m has) passes all
      go (Some x) (suc n) passes below = below (drop (length (encode_utf8 x)) flags) n so_far h passes all

  -- ---- one word

  plain_values : (waiting : Waiting) (word : Text) (h : Held) → have_values h.rows ≡ true → have_values ((plain_word c waiting word h).0).rows ≡ true
  plain_values idle word h all = all
  plain_values positional word h all = all
  plain_values (option id) word h all = go (arg_by_id c id)
    where
      go : (o : Option Rule) → have_values ((option_word o id word h).0).rows ≡ true
      go None = all
      go (Some a) = all

  after_values : (waiting : Waiting) (word : Text) (h : Held) (o : Outcome) → have_values h.rows ≡ true → have_values ((after_flag c waiting word h o).0).rows ≡ true
  after_values waiting word h done all = all
  after_values waiting word h (waits id) all = all
  after_values waiting word h plain all = plain_values waiting word h all
  after_values waiting word h refused all = plain_values waiting word h all

  flag_values : (o : Option (Text × Option Text)) (waiting : Waiting) (word : Text) (h : Held) → flag_word_fault c again o word h ≡ [] → have_values h.rows ≡ true
      → have_values ((long_or_other c waiting word o h).0).rows ≡ true
  flag_values (Some p) waiting word h none all =
      after_values waiting word (long_met c (arg_by_long c p.0) p.1 h).0 (long_met c (arg_by_long c p.0) p.1 h).1
      (long_values (arg_by_long c p.0) p.1 h (λ a is. found_fine _ c a fine is) none all)
  flag_values None waiting word h none all = go (short_of word) none
    where
      go : (o : Option Text) → option_map_or (λ flags. flags_fault c again (length flags) flags h.skip (record h { skip = 0 })) o [] ≡ [] → have_values ((short_or_plain c waiting word o h).0).rows ≡ true
      go None passes = plain_values waiting word h all
      go (Some flags) passes =
          after_values waiting word (bundle_met c (length flags) flags h.skip plain (record h { skip = 0 })).0 (bundle_met c (length flags) flags h.skip plain (record h { skip = 0 })).1
          (bundle_values (length flags) flags h.skip plain (record h { skip = 0 }) passes all)

module _ (s : Shape) (fine : list_all is_fine s.rules ≡ true) where
  other_values : (waiting : Waiting) (position : ℕ) (word : Text) (h : Held) (b : Bool) → cond b [] (flag_word_fault s.rules s.args_override_self (long_of word) word h) ≡ [] → have_values h.rows ≡ true
      → have_values ((cond b (h, trailing position) (long_or_other s.rules waiting word (long_of word) h)).0).rows ≡ true
  other_values waiting position word h true none all = all
  other_values waiting position word h false none all = flag_values s.rules s.args_override_self fine (long_of word) waiting word h none all

  met_values : (t : Bool) (waiting : Waiting) (position : ℕ) (word : Text) (h : Held) → word_fault s [] t waiting word h ≡ [] → have_values h.rows ≡ true
      → have_values ((word_met s.rules [] t waiting position word h).0).rows ≡ true
  met_values true waiting position word h none all = all
  met_values false idle position word h none all = other_values idle position word h (bytes_eq word (45 ∷ 45 ∷ [])) none all
  met_values false (option id) position word h none all = other_values (option id) position word h (bytes_eq word (45 ∷ 45 ∷ [])) none all
  met_values false positional position word h none all = other_values positional position word h (bytes_eq word (45 ∷ 45 ∷ [])) none all

  step_values : (w : Walk) (word : Text) (h : Held) (step : Step) → step_fault s w.position h step ≡ [] → have_values h.rows ≡ true → have_values (after_step s.rules word w h step).held.rows ≡ true
  step_values w word h (next waiting) none all = all
  step_values w word h (trailing position) none all = all
  step_values w word h (subcommand name) none all = all
  step_values w word h value none all = go (arg_by_index s.rules w.position) none
    where
      settles : (b : Bool) → cond b [] (settle_fault s.rules s.args_override_self h) ≡ [] → (a : Rule) → have_values (pushed a.id word (cond b h (settled s.rules h))).rows ≡ true
      settles true passes a = all
      settles false passes a = settle_values s.rules s.args_override_self fine h passes all

      go : (o : Option Rule) → option_map_or (λ a. positional_fault s.rules s.args_override_self a h) o (stray_fault s) ≡ [] → have_values (to_positional s.rules o word w h).held.rows ≡ true
      go None passes = all
      go (Some a) passes = settles (is_pending a h.pending && takes_several a) passes a

  turn_values : (w : Walk) (word : Text) → turn_fault s [] w word ≡ [] → have_values w.held.rows ≡ true → have_values (walked s.rules [] w word).held.rows ≡ true
  unfolding walked
  turn_values w word none all = go w.stopped none
    where
      go : (o : Option (Text × List Text)) → cond (is_some o) [] (or_else (word_fault s [] w.is_trailing w.waiting word w.held)
          (step_fault s w.position (word_met s.rules [] w.is_trailing w.waiting w.position word w.held).0 (word_met s.rules [] w.is_trailing w.waiting w.position word w.held).1)) ≡ []
          → have_values (walked_from s.rules [] o w word).held.rows ≡ true
      go (Some p) passes = all
      go None passes =
          step_values w word (word_met s.rules [] w.is_trailing w.waiting w.position word w.held).0 (word_met s.rules [] w.is_trailing w.waiting w.position word w.held).1
          (next_passes (word_fault s [] w.is_trailing w.waiting word w.held) _ passes)
          (met_values w.is_trailing w.waiting w.position word w.held (first_passes (word_fault s [] w.is_trailing w.waiting word w.held) _ passes) all)

  -- ---- all words

  walk_values : (w : Walk) (words : List Text) → walk_fault s [] w words ≡ [] → have_values w.held.rows ≡ true → have_values (fold (walked s.rules []) w words).held.rows ≡ true
  unfolding walk_fault
  walk_values w [] none all = all
  walk_values w (word ∷ rest) none all =
      walk_values (walked s.rules [] w word) rest (next_passes (turn_fault s [] w word) _ none) (turn_values w word (first_passes (turn_fault s [] w word) _ none) all)

default_values : (rows : List Row) (a : Rule) → have_values rows ≡ true → have_values (with_default rows a) ≡ true
default_values rows a all = go (has_row a.id rows) a.defaults
  where
    go : (b : Bool) (values : List Text) → have_values (cond b rows (default_rows a.id (reading_by a) values rows)) ≡ true
    go true values = all
    go false [] = all
    go false (v ∷ vs) = put a.id (reading_by a) DefaultValue (v ∷ vs) rows refl all

defaults_values : (rows : List Row) (c : List Rule) → have_values rows ≡ true → have_values (fold with_default rows c) ≡ true
defaults_values rows [] all = all
defaults_values rows (a ∷ others) all = defaults_values (with_default rows a) others (default_values rows a all)

-- words in which clap finds no fault leave each row with a value
pub rows_have_values : (s : Shape) (words : List Text) (b : Bool) (below : Kinds) → list_all is_fine s.rules ≡ true → level_fault s [] nothing_held words b below ≡ [] → have_values (rows_after s.rules [] words) ≡ true
rows_have_values s words b below fine none =
    let end = (walk s.rules [] nothing_held words).held in
    let walks = first_passes (walk_fault s [] (walk_from nothing_held) words) _ none in
    let rest = next_passes below _ (next_passes (walk_fault s [] (walk_from nothing_held) words) _ none) in
    let settles = first_passes (settle_fault s.rules s.args_override_self end) _ rest in
    defaults_values (settled s.rules end).rows s.rules (settle_values s.rules s.args_override_self fine end settles (walk_values s fine (walk_from nothing_held) words walks refl))

third_passes : (a b c : Bool) → check_kinds a b c ≡ [] → c ≡ false
third_passes true b c none = cc
third_passes false true c none = cc
third_passes false false true none = cc
third_passes false false false none = refl

-- and each argument that is required is given
pub required_given : (s : Shape) (words : List Text) (b : Bool) (below : Kinds) → s.subcommand_negates_reqs ≡ false → level_fault s [] nothing_held words b below ≡ []
    → list_any (λ a. a.required && not (is_given a.id (rows_after s.rules [] words))) s.rules ≡ false
required_given s words b below negates none =
    let end = (walk s.rules [] nothing_held words).held in
    let rest = next_passes below _ (next_passes (walk_fault s [] (walk_from nothing_held) words) _ none) in
    let checks = next_passes _ (check_fault s (finished s.rules end) b) (next_passes (settle_fault s.rules s.args_override_self end) _ rest) in
    subst (λ n. (not (n && b) && list_any (λ a. a.required && not (is_given a.id (rows_after s.rules [] words))) s.rules) ≡ false) negates (third_passes _ _ _ checks)

first_text : (vs : List Text) → has_some vs ≡ true → (text : Text) × (slice_get vs 0 ≡ Some text)
first_text [] some = absurd (true≢false (sym some))
first_text (v ∷ vs) some = (v, refl)

-- an argument that is given has a text
pub given_text : (id : Text) (rows : List Row) → have_values rows ≡ true → is_given id rows ≡ true → (text : Text) × (first_of id rows ≡ Some text)
given_text id [] all given = absurd (true≢false (sym given))
given_text id (r ∷ rs) all given =
    let parts = both (has_value r) (have_values rs) all in
    go (bytes_eq r.id id) given (λ below. given_text id rs parts.1 below) parts.0
  where
    go : (b : Bool) → option_map_or (λ q. explicit_source q.source) (cond b (Some r) (find (λ q. bytes_eq q.id id) rs)) false ≡ true
        → (is_given id rs ≡ true → (text : Text) × (first_of id rs ≡ Some text)) → has_value r ≡ true
        → (text : Text) × (option_and_then (λ q. slice_get q.values 0) (cond b (Some r) (find (λ q. bytes_eq q.id id) rs)) ≡ Some text)
    go true explicit below some = first_text r.values some
    go false explicit below some = below explicit
