-- The small source and its arrays: what is asked of a run holds of them, and what they say is printed, computed.
use Rattle.std.proofs.Common.{◌≡◌, ◌∙◌, inl, inr, ℕ, zero, suc, ℤ, pos, negsuc, [], ◌∷◌, Some, Ok, refl, ap, sym, subst, arith}
use Rattle.std.specs.Fmt.{digits}
use Rattle.std.specs.Int.{int_wrap}
use Rattle.std.specs.Prelude.{codes, unwrap_or, ⊤}
use Rattle.std.specs.Str.{is_utf8, chars}
use Rattle.serde_json.proofs.OnLiterals.{serde_json_on_literals}
use Rattle.serde_json.specs.Data.{Members, no_members}
use Rattle.sd_num.specs.declared.width.Width.TheVariants.{W64}
use Rattle.sd_work.specs.Memory.{array}
use Rattle.sd_subset.specs.boxes.Apart.{SeparatesIn}
use Rattle.sd_subset.specs.boxes.Box.{Parameter}
use Rattle.sd_subset.specs.declared.boxes.bounds.Bounds.{Bounds}
use Rattle.sd_valid.specs.Binding.{with_sizes}
use Rattle.sd_json.specs.ArraysReading.{entries_of}
use Rattle.sd_json.specs.Given.{Contents}
use Rattle.sd_parse.specs.grammar.Small.{small_source, small_program}
use Rattle.sd_parse.proofs.grammar_lemmas.Lines.{read_is_tree}
use Rattle.sd_parse.proofs.grammar_lemmas.Passing.{false_is}
use Rattle.sd_parse.proofs.grammar_lemmas.SmallSource.{small_is_read}
use Rattle.sd_elab.specs.elab.Elaboration.{graph_of}
use Rattle.sd_says.specs.Says.{said_within}
use Rattle.clap.proofs.OnLiterals.{clap_on_literals}
use Rattle.sd_words.specs.Command.{IsCall}
use Rattle.sd_tool.specs.Accepted.{IsRaceFree}
use Rattle.sd_tool.specs.Files.{ShelfUse}
use Rattle.sd_tool.specs.Ends.{SinkUse}
use Rattle.sd_tool.specs.Statuses.{Statuses}
use Rattle.sd_tool.specs.Told.{TellsSource, Asks, Presents}
use Rattle.sd_tool.specs.Work.{Work, graph_read, prepared}
use Rattle.sd_tool.proofs.AcceptedScopes.{free_is_accepted}
use Rattle.sd_tool.proofs.Prepared.{prepared_is}
use Rattle.sd_promise.specs.Promise.{FilesSay, EndsAsSaid}
use Rattle.sd_promise.specs.Small.{small_arrays, small_words, small_call, TellsSmall, small_outcome, small_printed}
use Rattle.sd_promise.specs.Source.{file_read, memory_given, text_said}
use Rattle.sd_promise.proofs.Calls.{said_is_printed}

abbrev contents : Contents
contents = record {
  sizes = (codes "N", pos 3) ∷ [];
  arrays = record { shape = 3 ∷ []; elements = pos 1 ∷ pos 2 ∷ pos 3 ∷ [] } ∷ record { shape = 3 ∷ []; elements = pos 0 ∷ pos 0 ∷ pos 0 ∷ [] } ∷ [];
}

given : file_read small_program small_arrays ≡ Ok contents
unfolding serde_json_on_literals is_utf8 chars
given = refl

says : said_within 1 small_program contents.sizes (memory_given small_program contents) 10000000 ≡ Some small_outcome
unfolding int_wrap
says = refl

printed : small_printed ≡ text_said small_program contents.sizes 10000000 small_outcome
unfolding digits
printed = refl

pub small_files_say : FilesSay small_source small_arrays 10000000 small_outcome small_printed
small_files_say = record {
  source = small_program;
  contents = contents;
  reading = read_is_tree small_source small_program small_is_read;
  given = given;
  says = (1, says);
  is = printed;
}

abbrev work : Work
work = record {
  tree = with_sizes (graph_of small_program) contents.sizes;
  memory = array W64 (pos 1 ∷ pos 2 ∷ pos 3 ∷ []) ∷ array W64 (pos 0 ∷ pos 0 ∷ pos 0 ∷ []) ∷ [];
}

comes : prepared (graph_of small_program) small_arrays ≡ Ok work
unfolding serde_json_on_literals is_utf8 chars int_wrap
comes = refl

abbrev entries : Members
entries = unwrap_or (entries_of small_arrays) no_members

has : entries_of small_arrays ≡ Some entries
unfolding serde_json_on_literals is_utf8 chars
has = refl

-- ---- races

abbrev IsPositive : ℕ → Type 0
IsPositive zero = ⊥
IsPositive (suc n) = ⊤

abbrev natural : ℤ → ℕ
natural (pos n) = n
natural (negsuc n) = 0

zero_is_one : {P : Type 0} (n : ℕ) → n ≡ 1 → n ≡ 0 → P
zero_is_one n is none = absurd (subst IsPositive (sym is ∙ none) tt)

abbrev element : Bounds
element = record { low = record { constant = pos 0; terms = (1, pos 1) ∷ [] }; high = record { constant = pos 0; terms = (1, pos 1) ∷ [] } }

abbrev points : Parameter
points = (1, record { begin = record { constant = pos 0; terms = [] }; ends = record { constant = pos 2; terms = [] } ∷ []; step = pos 1 })

-- each point writes the element that it alone has
separates : SeparatesIn (points ∷ []) points element element
separates = record {
  moves = λ none. zero_is_one 0 (sym (ap natural none)) refl;
  alone = ((λ other. absurd (other refl)), tt);
  parallel = record { high = refl; other_low = refl; other_high = refl };
  wide = record { wide = omega arith; other_wide = omega arith };
}

free : IsRaceFree work.tree
unfolding int_wrap
free = (tt, ((((λ sequential. ((λ same conflict. false_is conflict), ((λ same conflict. zero_is_one 0 same refl), ((λ same conflict. inr (inr (inl separates), tt)), tt)))), (tt, tt)), tt), tt))

-- ---- the call

-- the words are it, as clap reads them
asked : IsCall small_words small_call
unfolding clap_on_literals
asked = record { others = codes "inc.py" ∷ codes "inc.json" ∷ []; first = refl; parse = refl; give = record { source = refl; arrays = refl; chain = refl; command = (refl, refl) } }

module _ (shelf : ShelfUse) (tells : TellsSmall shelf) where
  source_told : TellsSource small_words shelf small_call small_source
  source_told = record {
    asked = asked;
    told = tells.source;
    quiet = tells.source_quiet;
  }

  pub small_presents : (work : Work) × Presents small_words shelf small_call work × IsRaceFree work.tree
  small_presents = (work, presents, free) where
    presents : Presents small_words shelf small_call work
    presents = record {
      source = small_source;
      program = small_program;
      arrays = small_arrays;
      tells = source_told;
      within = omega arith;
      is = read_is_tree small_source small_program small_is_read;
      told = tells.arrays;
      quiet = tells.arrays_quiet;
      arrays_within = omega arith;
      entries = entries;
      has = has;
      comes = prepared_is (graph_of small_program) small_arrays entries work has comes;
    }

  asks : Asks small_words shelf small_call work
  asks = record {
    source = small_source;
    tree = graph_of small_program;
    arrays = small_arrays;
    tells = record {
      before = source_told;
      within = omega arith;
      has_graph = ap graph_read small_is_read;
      told = tells.arrays;
      quiet = tells.arrays_quiet;
    };
    within = omega arith;
    comes = comes;
  }

  pub small_is_asked : (work : Work) × Asks small_words shelf small_call work
  small_is_asked = (work, asks)

  pub small_is_printed : (sink : SinkUse) (status : ℕ) → Statuses small_words shelf sink status → EndsAsSaid small_outcome small_printed sink status
  unfolding asks
  small_is_printed sink status statuses =
      said_is_printed small_words shelf sink status small_call (record { turns = 10000000; workers = 1 }) work work.tree small_outcome small_printed statuses asks refl refl (free_is_accepted work.tree free) small_files_say
