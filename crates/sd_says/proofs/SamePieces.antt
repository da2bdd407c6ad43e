-- Statements that are done in one piece are the same as leaves.
use Rattle.std.proofs.Common.{◌≡◌, ◌∙◌, ℕ, zero, suc, ◌+◌, ℤ, pos, List, [], ◌∷◌, ◌++◌, map, length, drop, Option, Some, None, is_some, option_map, unwrap_or, Ok, Err, Bool, true, false, if◌then◌else◌, refl, ap, sym, arith, append_assoc, append-nil}
use Rattle.std.specs.List.{list_all}
use Rattle.sd_lex.specs.PlainTree.{Expression, number, named, element_at, one, two, choice, Expressions}
use Rattle.sd_lex.specs.declared.syntax.operator.TwoSign.TheVariants.{Add}
use Rattle.sd_num.specs.declared.resolution.Resolution.{Resolution}
use Rattle.sd_num.specs.declared.resolution.Resolution.TheVariants.{Sum}
use Rattle.sd_work.specs.declared.fault.FaultKind.TheVariants.{Subscript}
use Rattle.sd_work.specs.Memory.{Memories, Reference, look}
use Rattle.sd_work.specs.Change.{write, push, apply}
use Rattle.sd_work.specs.Leaf.{Pending, write_value, transfer, push_to, Evaluation, instance_of, identities, reduction_of}
use Rattle.sd_work.specs.Exit.{with_value, all_seen, placed, decided}
use Rattle.sd_work.specs.BigStep.{Coming, big_doing, big_evaluated, big_reading, big_leaf}
use Rattle.sd_work.specs.BigStep as work
use Rattle.sd_graph.specs.TaskletMeaning.{Meaning, holds, and_then}
use Rattle.sd_graph.specs.declared.place.Place.{Place}
use Rattle.sd_program.specs.Names.{Name}
use Rattle.sd_says.specs.Exact.{exact_all}
use Rattle.sd_says.specs.Held.{pending_in}
use Rattle.sd_says.specs.Setting.{Setting, held_by, place_at}
use Rattle.sd_says.specs.Operators.{one_value, two_sides}
use Rattle.sd_says.specs.Work.{Doing, at_place, spending_one}
use Rattle.sd_says.specs.Effects.{element_value, element_values, effects_at, instance_at}
use Rattle.sd_says.specs.Elements.{element_named, reads_of, value_in, value_read}
use Rattle.sd_says.specs.Pieces.{assigned, element_effects}
use Rattle.sd_says.specs.Ways.{if_holds}
use Rattle.sd_says.specs.AsLeaves.{reads_in, value_of, condition_in, assignment, element_statement}
use Rattle.sd_says.proofs.ByLeaves.{if_passed, tested}

pub spending-same : (turns : ℕ) (rest : ℕ → Coming Place) → work.spending true turns rest ≡ spending_one turns rest
spending-same zero rest = refl
spending-same (suc turns) rest = refl

-- ---- effects

module _ (place : Place) where
  pub doing-same : (effects : List Pending) (memories : Memories) (turns : ℕ) → big_doing place effects memories turns ≡ effects_at place effects memories turns
  doing-same [] memories turns = refl
  doing-same (write_value value None by ∷ rest) memories turns = refl
  doing-same (write_value value (Some to) by ∷ rest) memories turns = doing-same rest (apply (write to by value) memories) turns
  doing-same (transfer None to by ∷ rest) memories turns = refl
  doing-same (transfer (Some from) None by ∷ rest) memories turns = refl
  doing-same (transfer (Some from) (Some to) by ∷ rest) memories turns = doing-same rest (apply (write to by (look from memories)) memories) turns
  doing-same (push_to level container value ∷ rest) memories turns = doing-same rest (apply (push level container value) memories) turns

  evaluated-same : (made : Meaning (List Pending)) (memories : Memories) (turns : ℕ) → big_evaluated place false made memories turns ≡ at_place place made (λ effects. effects_at place effects memories turns)
  evaluated-same (Ok effects) memories turns = doing-same effects memories turns
  evaluated-same (Err kind) memories turns = refl

  -- ---- reads

  first-read : (value : ℤ) (read : Meaning (List ℤ)) (values : List ℤ) (evaluation : Evaluation) →
      and_then read (λ more. evaluation ((values ++ value ∷ []) ++ more)) ≡ and_then (and_then read (λ more. Ok (value ∷ more))) (λ more. evaluation (values ++ more))
  first-read value (Ok more) values evaluation = ap evaluation (append_assoc values (value ∷ []) more)
  first-read value (Err kind) values evaluation = refl

  reading-same : (reads : List (Option Reference)) (values : List ℤ) (evaluation : Evaluation) (memories : Memories) (turns : ℕ) →
      big_reading place false reads values evaluation memories turns
      ≡ at_place place (and_then (element_values memories reads) (λ read. evaluation (values ++ read))) (λ effects. effects_at place effects memories turns)
  reading-same [] values evaluation memories turns =
      evaluated-same (evaluation values) memories turns
      ∙ ap (λ all. at_place place (evaluation all) (λ effects. effects_at place effects memories turns)) (sym (append-nil values))
  reading-same (None ∷ reads) values evaluation memories turns = refl
  reading-same (Some read ∷ reads) values evaluation memories turns =
      reading-same reads (values ++ look read memories ∷ []) evaluation memories turns
      ∙ ap (λ made. at_place place made (λ effects. effects_at place effects memories turns)) (first-read (look read memories) (element_values memories reads) values evaluation)

  -- the first move wants a turn
  begun : (made : Meaning (List Pending)) (memories : Memories) (turns : ℕ) → big_evaluated place true made memories turns ≡ spending_one turns (big_evaluated place false made memories)
  begun (Ok effects) memories zero = refl
  begun (Ok effects) memories (suc turns) = refl
  begun (Err kind) memories zero = refl
  begun (Err kind) memories (suc turns) = refl

  begun-reading : (reads : List (Option Reference)) (evaluation : Evaluation) (memories : Memories) (turns : ℕ) →
      big_reading place true reads [] evaluation memories turns ≡ spending_one turns (big_reading place false reads [] evaluation memories)
  begun-reading [] evaluation memories turns = begun (evaluation []) memories turns
  begun-reading (None ∷ reads) evaluation memories zero = refl
  begun-reading (None ∷ reads) evaluation memories (suc turns) = refl
  begun-reading (Some read ∷ reads) evaluation memories zero = refl
  begun-reading (Some read ∷ reads) evaluation memories (suc turns) = refl

  pub instance-same : (reads : List (Option Reference)) (evaluation : Evaluation) (memories : Memories) (turns : ℕ) →
      big_leaf place (instance_of reads evaluation) memories turns ≡ instance_at place (λ memories. and_then (element_values memories reads) evaluation) memories turns
  instance-same reads evaluation memories turns =
      begun-reading reads evaluation memories turns ∙ (λ i. spending_one turns (λ turns. reading-same reads [] evaluation memories turns i))

-- ---- expressions

-- the values of elements that are inside
abbrev looked : Memories → Option Reference → ℤ
looked memories None = pos 0
looked memories (Some read) = look read memories

all-inside : (reads : List (Option Reference)) (memories : Memories) → list_all is_some reads ≡ true → element_values memories reads ≡ Ok (map (looked memories) reads)
all-inside [] memories h = refl
all-inside (None ∷ reads) memories h = cc
all-inside (Some read ∷ reads) memories h = ap (λ rest. and_then rest (λ values. Ok (look read memories ∷ values))) (all-inside reads memories h)

one-outside : (reads : List (Option Reference)) (memories : Memories) → list_all is_some reads ≡ false → element_values memories reads ≡ Err Subscript
one-outside [] memories h = cc
one-outside (None ∷ reads) memories h = refl
one-outside (Some read ∷ reads) memories h = ap (λ rest. and_then rest (λ values. Ok (look read memories ∷ values))) (one-outside reads memories h)

all-seen : (reads : List (Option Reference)) (memories : Memories) → list_all is_some reads ≡ true → all_seen reads memories ≡ Some (map (looked memories) reads)
all-seen [] memories h = refl
all-seen (None ∷ reads) memories h = cc
all-seen (Some read ∷ reads) memories h = ap (with_value (Some (look read memories))) (all-seen reads memories h)

none-seen : (reads : List (Option Reference)) (memories : Memories) → list_all is_some reads ≡ false → all_seen reads memories ≡ None
none-seen [] memories h = cc
none-seen (None ∷ reads) memories h = refl
none-seen (Some read ∷ reads) memories h = ap (with_value (Some (look read memories))) (none-seen reads memories h)

inside-first : (reads more : List (Option Reference)) → list_all is_some (reads ++ more) ≡ true → list_all is_some reads ≡ true
inside-first [] more h = refl
inside-first (None ∷ reads) more h = cc
inside-first (Some read ∷ reads) more h = inside-first reads more h

inside-rest : (reads more : List (Option Reference)) → list_all is_some (reads ++ more) ≡ true → list_all is_some more ≡ true
inside-rest [] more h = h
inside-rest (None ∷ reads) more h = cc
inside-rest (Some read ∷ reads) more h = inside-rest reads more h

looked-both : (memories : Memories) (reads more : List (Option Reference)) (last : List ℤ) →
    map (looked memories) (reads ++ more) ++ last ≡ map (looked memories) reads ++ (map (looked memories) more ++ last)
looked-both memories [] more last = refl
looked-both memories (read ∷ reads) more last = ap (λ all. looked memories read ∷ all) (looked-both memories reads more last)

dropped : (memories : Memories) (reads : List (Option Reference)) (last : List ℤ) → drop (length reads) (map (looked memories) reads ++ last) ≡ last
dropped memories [] last = refl
dropped memories (read ∷ reads) last = dropped memories reads last

drop-nothing : (count : ℕ) → drop {A = ℤ} count [] ≡ []
drop-nothing zero = refl
drop-nothing (suc count) = refl

drop-twice : (first next : ℕ) (members : List ℤ) → drop next (drop first members) ≡ drop (first + next) members
drop-twice zero next members = let e : next ≡ 0 + next = omega arith in ap (λ count. drop count members) e
drop-twice (suc first) next [] = drop-nothing next ∙ sym (drop-nothing (suc first + next))
drop-twice (suc first) next (member ∷ members) =
    let e : suc (first + next) ≡ suc first + next = omega arith in
    drop-twice first next members ∙ ap (λ count. drop count (member ∷ members)) e

length-both : (reads more : List (Option Reference)) → length (reads ++ more) ≡ length reads + length more
length-both [] more = omega arith
length-both (read ∷ reads) more = omega (arith, length-both reads more)

module _ (setting : Setting) where
  count-same : (expression : Expression) → length (reads_of setting expression) ≡ reads_in expression
  count-same (number value) = refl
  count-same (named name) = refl
  count-same (element_at name at) = refl
  count-same (one sign of) = count-same of
  count-same (two sign left right) = length-both (reads_of setting left) (reads_of setting right) ∙ (λ i. count-same left i + count-same right i)
  count-same (choice value when other) =
      length-both (reads_of setting value) (reads_of setting when ++ reads_of setting other)
      ∙ ap (λ count. length (reads_of setting value) + count) (length-both (reads_of setting when) (reads_of setting other))
      ∙ (λ i. count-same value i + (count-same when i + count-same other i))

  module _ (memories : Memories) where
    -- what is behind the elements of an expression
    behind-reads : (expression : Expression) (last : List ℤ) → drop (reads_in expression) (map (looked memories) (reads_of setting expression) ++ last) ≡ last
    behind-reads expression last =
        ap (λ count. drop count (map (looked memories) (reads_of setting expression) ++ last)) (sym (count-same expression)) ∙ dropped memories (reads_of setting expression) last

    element-same : (read : Option Reference) (last : List ℤ) → list_all is_some (read ∷ []) ≡ true → Ok (looked memories read) ≡ element_value memories read
    element-same None last h = cc
    element-same (Some read) last h = refl

    value-same : (expression : Expression) → list_all is_some (reads_of setting expression) ≡ true → (last : List ℤ) →
        value_of setting.variables (map (looked memories) (reads_of setting expression) ++ last) expression ≡ value_in setting memories expression
    value-same (number value) h last = refl
    value-same (named name) h last = refl
    value-same (element_at name at) h last = element-same (element_named setting name at) last h
    value-same (one sign of) h last = ap (λ value. and_then value (λ value. Ok (one_value sign value))) (value-same of h last)
    value-same (two sign left right) h last =
        let more : List ℤ = map (looked memories) (reads_of setting right) ++ last in
        ap (λ read. value_of setting.variables read (two sign left right)) (looked-both memories (reads_of setting left) (reads_of setting right) last)
        ∙ (λ i. and_then (value-same left (inside-first (reads_of setting left) (reads_of setting right) h) more i)
        (λ first. two_sides sign first ((ap (λ read. value_of setting.variables read right) (behind-reads left more) ∙ value-same right (inside-rest (reads_of setting left) (reads_of setting right) h) last) i)))
    value-same (choice value when other) h last =
        let rest : list_all is_some (reads_of setting when ++ reads_of setting other) ≡ true = inside-rest (reads_of setting value) (reads_of setting when ++ reads_of setting other) h in
        let third : List ℤ = map (looked memories) (reads_of setting other) ++ last in
        let second : List ℤ = map (looked memories) (reads_of setting when) ++ third in
        let second-same : map (looked memories) (reads_of setting when ++ reads_of setting other) ++ last ≡ second = looked-both memories (reads_of setting when) (reads_of setting other) last in
        let both : drop (reads_in value + reads_in when) (map (looked memories) (reads_of setting value) ++ second) ≡ third =
        sym (drop-twice (reads_in value) (reads_in when) (map (looked memories) (reads_of setting value) ++ second)) ∙ ap (drop (reads_in when)) (behind-reads value second) ∙ behind-reads when third in
        ap (λ read. value_of setting.variables read (choice value when other))
        (looked-both memories (reads_of setting value) (reads_of setting when ++ reads_of setting other) last ∙ ap (λ more. map (looked memories) (reads_of setting value) ++ more) second-same)
        ∙ (λ i. and_then ((ap (λ read. value_of setting.variables read when) (behind-reads value second) ∙ value-same when (inside-first (reads_of setting when) (reads_of setting other) rest) third) i)
        (λ condition. if holds condition then value-same value (inside-first (reads_of setting value) (reads_of setting when ++ reads_of setting other) h) second i
        else (ap (λ read. value_of setting.variables read other) both ∙ value-same other (inside-rest (reads_of setting when) (reads_of setting other) rest) last) i))

    -- all read first, and then evaluated
    pub read-same : (expression : Expression) → and_then (element_values memories (reads_of setting expression)) (λ read. value_of setting.variables read expression) ≡ value_read setting memories expression
    read-same expression = go (list_all is_some (reads_of setting expression)) refl
      where
        go : (inside : Bool) → list_all is_some (reads_of setting expression) ≡ inside →
            and_then (element_values memories (reads_of setting expression)) (λ read. value_of setting.variables read expression) ≡ (if inside then value_in setting memories expression else Err Subscript)
        go true h =
            ap (λ read. and_then read (λ read. value_of setting.variables read expression)) (all-inside (reads_of setting expression) memories h)
            ∙ ap (λ read. value_of setting.variables read expression) (sym (append-nil (map (looked memories) (reads_of setting expression))))
            ∙ value-same expression h []
        go false h = ap (λ read. and_then read (λ read. value_of setting.variables read expression)) (one-outside (reads_of setting expression) memories h)

  -- ---- conditions

  decided-same : (line : ℕ) (made : Meaning ℤ) (left right : Coming Place) →
      if_passed (placed (place_at setting line) (and_then made (λ value. Ok (holds value)))) left right ≡ at_place (place_at setting line) made (λ value. if holds value then left else right)
  decided-same line (Err kind) left right = refl
  decided-same line (Ok value) left right = go (holds value)
    where
      go : (held : Bool) → if_passed (Ok held) left right ≡ (if held then left else right)
      go true = refl
      go false = refl

  chosen : (value : ℤ) (this other : Doing) (memories : Memories) (turns : ℕ) → (if holds value then this memories turns else other memories turns) ≡ (if holds value then this else other) memories turns
  chosen value this other memories turns = go (holds value)
    where
      go : (held : Bool) → (if held then this memories turns else other memories turns) ≡ (if held then this else other) memories turns
      go true = refl
      go false = refl

  -- a condition holds where its guard does
  pub guard-same : (line : ℕ) (when : Expression) (memories : Memories) →
      tested setting line when memories ≡ placed (place_at setting line) (and_then (value_read setting memories when) (λ value. Ok (holds value)))
  guard-same line when memories = go (list_all is_some (reads_of setting when)) refl
    where
      go : (inside : Bool) → list_all is_some (reads_of setting when) ≡ inside →
          tested setting line when memories ≡ placed (place_at setting line) (and_then (if inside then value_in setting memories when else Err Subscript) (λ value. Ok (holds value)))
      go true h =
          ap (decided (condition_in setting line when)) (all-seen (reads_of setting when) memories h)
          ∙ ap (λ made. placed (place_at setting line) (and_then made (λ value. Ok (holds value))))
          (ap (λ read. value_of setting.variables read when) (sym (append-nil (map (looked memories) (reads_of setting when)))) ∙ value-same memories when h [])
      go false h = ap (decided (condition_in setting line when)) (none-seen (reads_of setting when) memories h)

  -- what is done where it holds, and where not
  seen-same : (line : ℕ) (when : Expression) (memories : Memories) (left right : Coming Place) →
      if_passed (tested setting line when memories) left right ≡ at_place (place_at setting line) (value_read setting memories when) (λ value. if holds value then left else right)
  seen-same line when memories left right =
      ap (λ held. if_passed held left right) (guard-same line when memories) ∙ decided-same line (value_read setting memories when) left right

  pub condition-same : (line : ℕ) (when : Expression) (this other : Doing) (memories : Memories) (turns : ℕ) →
      if_passed (tested setting line when memories) (this memories turns) (other memories turns) ≡ if_holds setting line when this other memories turns
  condition-same line when this other memories turns =
      seen-same line when memories (this memories turns) (other memories turns)
      ∙ (λ i. at_place (place_at setting line) (value_read setting memories when) (λ value. chosen value this other memories turns i))

  -- ---- element statements

  given-same : (read : Meaning (List ℤ)) (evaluated : List ℤ → Meaning ℤ) (give : ℤ → Meaning (List Pending)) →
      and_then read (λ read. and_then (evaluated read) give) ≡ and_then (and_then read evaluated) give
  given-same (Ok read) evaluated give = refl
  given-same (Err kind) evaluated give = refl

  pub assignment-same : (place : Place) (name : Name) (at : Expressions) (by : Option Resolution) (value : Expression) (memories : Memories) (turns : ℕ) →
      big_leaf place (assignment setting name at by value) memories turns ≡ instance_at place (assigned setting name at by value) memories turns
  assignment-same place name at by value memories turns =
      let give : ℤ → Meaning (List Pending) = λ given. Ok (pending_in (held_by setting name).shape (held_by setting name).reach (exact_all setting.variables at) by given ∷ []) in
      instance-same place (reads_of setting value) (λ read. and_then (value_of setting.variables read value) give) memories turns
      ∙ (λ i. instance_at place (λ memories. (given-same (element_values memories (reads_of setting value)) (λ read. value_of setting.variables read value) give
      ∙ ap (λ made. and_then made give) (read-same memories value)) i) memories turns)

  pub element-statement-same : (place : Place) (in_scope : Bool) (name : Name) (at : Expressions) (add : Bool) (value : Expression) (memories : Memories) (turns : ℕ) →
      big_leaf place (element_statement setting in_scope name at add value) memories turns ≡ instance_at place (element_effects setting in_scope name at add value) memories turns
  element-statement-same place in_scope name at true value memories turns = go in_scope
    where
      go : (in_scope : Bool) → big_leaf place (element_statement setting in_scope name at true value) memories turns ≡ instance_at place (element_effects setting in_scope name at true value) memories turns
      go true = assignment-same place name at (Some Sum) value memories turns
      go false = assignment-same place name at None (two Add (element_at name at) value) memories turns
  element-statement-same place in_scope name at false value memories turns = assignment-same place name at None value memories turns

-- ---- reductions

identities-same : (identity : Option ℤ) (targets : List (Option Reference)) →
    identities identity targets ≡ unwrap_or (option_map (λ value. map (λ target. write_value value target None) targets) identity) []
identities-same None targets = refl
identities-same (Some value) targets = refl

resolved-same : {A : Type 0} (from to : A → Option Reference) (by : Option Resolution) (places : List A) →
    map (λ (pair : Option Reference × Option Reference). transfer pair.0 pair.1 by) (map (λ place. (from place, to place)) places) ≡ map (λ place. transfer (from place) (to place) by) places
resolved-same from to by [] = refl
resolved-same from to by (place ∷ places) = ap (λ rest. transfer (from place) (to place) by ∷ rest) (resolved-same from to by places)

pub reduction-same : {A : Type 0} (place : Place) (resolution : Resolution) (identity : Option ℤ) (targets : List (Option Reference)) (from to : A → Option Reference) (places : List A) (memories : Memories) (turns : ℕ) →
    big_leaf place (reduction_of resolution identity targets (map (λ place. (from place, to place)) places)) memories turns
    ≡ effects_at place (unwrap_or (option_map (λ value. map (λ target. write_value value target None) targets) identity) [] ++ map (λ place. transfer (from place) (to place) (Some resolution)) places) memories turns
reduction-same place resolution identity targets from to places memories turns =
    doing-same place (identities identity targets ++ map (λ (pair : Option Reference × Option Reference). transfer pair.0 pair.1 (Some resolution)) (map (λ place. (from place, to place)) places)) memories turns
    ∙ (λ i. effects_at place (identities-same identity targets i ++ resolved-same from to (Some resolution) places i) memories turns)
