-- Tests of the names of expressions, and sets of names.
use Rattle.std.proofs.Common.{◌≡◌, ◌∙◌, refl, sym, subst, ap, Bool, true, false, List, [], ◌∷◌, ◌++◌, ◌||◌, ◌&&◌, ℕ, if◌then◌else◌, bytes_eq, arith}
use Rattle.std.proofs.lemmas.Slice.Eq.{bytes_eq-Decides}
use Rattle.std.specs.List.{list_any}
use Rattle.sd_lex.specs.PlainTree.{Expression, number, named, element_at, one, two, choice, Expressions, no_expression, and_expression}
use Rattle.sd_names.specs.Names.{Name, is_among, noted, noted_all, is_repeated}
use Rattle.sd_names.specs.Expressions.{any_name, any_name_of, expression_list}

pub any_listed : (alone : Name → Bool) (subscripted : Name → ℕ → Bool) (es : Expressions) → list_any (any_name alone subscripted) (expression_list es) ≡ any_name_of alone subscripted es
any_listed alone subscripted no_expression = refl
any_listed alone subscripted (and_expression first rest) = ap (λ others. any_name alone subscripted first || others) (any_listed alone subscripted rest)

mutual
  -- two tests that are the same for names alone find the same
  pub any_name_same : (first second : Name → Bool) → ((name : Name) → first name ≡ second name) → (e : Expression) → any_name first (λ name count. first name) e ≡ any_name second (λ name count. second name) e
  any_name_same first second same (number value) = refl
  any_name_same first second same (named name) = same name
  any_name_same first second same (element_at name at) = grind (arith, same name, any_name_of_same first second same at)
  any_name_same first second same (one sign of) = any_name_same first second same of
  any_name_same first second same (two sign left right) = grind (arith, any_name_same first second same left, any_name_same first second same right)
  any_name_same first second same (choice value when other) = grind (arith, any_name_same first second same value, any_name_same first second same when, any_name_same first second same other)

  pub any_name_of_same : (first second : Name → Bool) → ((name : Name) → first name ≡ second name) → (es : Expressions) → any_name_of first (λ name count. first name) es ≡ any_name_of second (λ name count. second name) es
  any_name_of_same first second same no_expression = refl
  any_name_of_same first second same (and_expression e es) = grind (arith, any_name_same first second same e, any_name_of_same first second same es)

pub among_append : (names others : List Name) (name : Name) → is_among (names ++ others) name ≡ (is_among names name || is_among others name)
among_append [] others name = refl
among_append (first ∷ names) others name = grind (arith, among_append names others name)

pub among_noted_by : (names : List Name) (new name : Name) (there same : Bool) → is_among names new ≡ there → bytes_eq name new ≡ same → is_among (noted names new) name ≡ (is_among names name || bytes_eq name new)
among_noted_by names new name false same absent compared = grind (arith, absent, among_append names (new ∷ []) name)
among_noted_by names new name true false present compared = grind (arith, present, compared)
among_noted_by names new name true true present compared =
    let equal : name ≡ new = (bytes_eq-Decides name new).0 compared in
    let found : is_among names name ≡ true = subst (λ other. is_among names other ≡ true) (sym equal) present in
    grind (arith, present, compared, found)

-- a name that is noted is there, and no other is more than was
pub among_noted : (names : List Name) (new name : Name) → is_among (noted names new) name ≡ (is_among names name || bytes_eq name new)
among_noted names new name = among_noted_by names new name (is_among names new) (bytes_eq name new) refl refl

pub among_noted_all : (earlier names : List Name) (name : Name) → is_among (noted_all earlier names) name ≡ (is_among earlier name || is_among names name)
among_noted_all earlier [] name = grind arith
among_noted_all earlier (first ∷ names) name = grind (arith, among_noted_all (noted earlier first) names name, among_noted earlier first name)

-- what is found in a list where a name is repeated: it was met twice, it was met and comes again, or it comes twice
abbrev pub found_twice : (met twice : List Name) → (rest : List Name) → Name → Bool
found_twice met twice rest name = is_among twice name || (is_among met name && is_among rest name) || is_repeated rest name

pub same_among : (names : List Name) (first second : Name) → bytes_eq first second ≡ true → is_among names first ≡ is_among names second
same_among names first second compared = ap (is_among names) ((bytes_eq-Decides first second).0 compared)

pub repeated_by : (met twice : List Name) (next : Name) (rest : List Name) (name : Name) (same : Bool) → bytes_eq name next ≡ same → is_among met next ≡ true → found_twice met (noted twice next) rest name ≡ found_twice met twice (next ∷ rest) name
repeated_by met twice next rest name true compared present = grind (arith, compared, present, same_among met name next compared, among_noted twice next name)
repeated_by met twice next rest name false compared present = grind (arith, compared, present, among_noted twice next name)

pub met_by : (met twice : List Name) (next : Name) (rest : List Name) (name : Name) (same : Bool) → bytes_eq name next ≡ same → is_among met next ≡ false → found_twice (noted met next) twice rest name ≡ found_twice met twice (next ∷ rest) name
met_by met twice next rest name true compared absent = grind (arith, compared, absent, same_among met name next compared, among_noted met next name)
met_by met twice next rest name false compared absent = grind (arith, compared, absent, among_noted met next name)

-- the next name was met
pub repeated_next : (met twice : List Name) (next : Name) (rest : List Name) (name : Name) → is_among met next ≡ true → found_twice met (noted twice next) rest name ≡ found_twice met twice (next ∷ rest) name
repeated_next met twice next rest name present = repeated_by met twice next rest name (bytes_eq name next) refl present

-- the next name was not met
pub met_next : (met twice : List Name) (next : Name) (rest : List Name) (name : Name) → is_among met next ≡ false → found_twice (noted met next) twice rest name ≡ found_twice met twice (next ∷ rest) name
met_next met twice next rest name absent = met_by met twice next rest name (bytes_eq name next) refl absent

-- the names of a list that come again, each once, behind some that were met and some that came twice
abbrev pub repeated_from : (met twice : List Name) → List Name → List Name
repeated_from met twice [] = twice
repeated_from met twice (name ∷ names) = if is_among met name then repeated_from met (noted twice name) names else repeated_from (noted met name) twice names

-- the next name was met or not; what is behind it is known
pub among_repeated_by : (met twice : List Name) (next : Name) (rest : List Name) (name : Name) (there : Bool) → is_among met next ≡ there → is_among (repeated_from met (noted twice next) rest) name ≡ found_twice met (noted twice next) rest name → is_among (repeated_from (noted met next) twice rest) name ≡ found_twice (noted met next) twice rest name → is_among (if there then repeated_from met (noted twice next) rest else repeated_from (noted met next) twice rest) name ≡ found_twice met twice (next ∷ rest) name
among_repeated_by met twice next rest name true present was_met was_not = was_met ∙ repeated_next met twice next rest name present
among_repeated_by met twice next rest name false absent was_met was_not = was_not ∙ met_next met twice next rest name absent

pub among_repeated : (met twice names : List Name) (name : Name) → is_among (repeated_from met twice names) name ≡ found_twice met twice names name
among_repeated met twice [] name = grind arith
among_repeated met twice (next ∷ rest) name =
    among_repeated_by met twice next rest name (is_among met next) refl (among_repeated met (noted twice next) rest name) (among_repeated (noted met next) twice rest name)

pub among_repeated_all : (names : List Name) (name : Name) → is_among (repeated_from [] [] names) name ≡ is_repeated names name
among_repeated_all names name = among_repeated [] [] names name

pub any_same : {A : Type 0} (first second : A → Bool) → ((a : A) → first a ≡ second a) → (all : List A) → list_any first all ≡ list_any second all
any_same first second same [] = refl
any_same first second same (a ∷ all) = grind (arith, same a, any_same first second same all)
