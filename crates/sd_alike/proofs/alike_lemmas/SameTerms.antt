-- Terms whose parts do the same do the same.
use Rattle.std.proofs.Common.{◌≡◌, ℕ, zero, suc, ℤ, List, [], ◌∷◌, map, Option, Some, None, Result, Ok, Err, Bool, true, false, refl, sym, ◌∙◌, ap, ap₂, subst}
use Rattle.std.specs.Bool.{⊤}
use Rattle.sd_work.specs.declared.fault.FaultKind.{FaultKind}
use Rattle.sd_work.specs.Memory.{Memory, Memories, Reference, waiting}
use Rattle.sd_work.specs.Change.{take, apply}
use Rattle.sd_work.specs.Move.{Fault}
use Rattle.sd_work.specs.Exit.{Values, Guard, Exit, with_value, all_seen, placed, decided, passed, or_later, first_exit}
use Rattle.sd_work.specs.Residual.{Term, owning, nested, pool, Terms, also, idle}
use Rattle.sd_work.specs.BigStep.{Coming, and_then, spending, after_exit, after_oldest, big_step, big_parts, big_states, big_takes}
use Rattle.sd_alike.specs.alike.Lift.{Lift, inside, memories_in, level_in, access_in}
use Rattle.sd_alike.specs.alike.SameWork.{EndsSame, GoesSame, DoesSame, DoSame, AgreeBelow, AreGuardsSame, IsExitSame, AreExitsSame}
use Rattle.sd_alike.proofs.alike_lemmas.LiftLaws.{seen_in, waiting_in, entered_in}
use Rattle.sd_alike.proofs.alike_lemmas.SameLeaf.{ends_then, leaving_same, spending_same, after_change}

pub also_same : {P Q : Type 0} (most : ℕ) (lift : Lift) (part : Term P) (other : Term Q) (parts : Terms P) (others : Terms Q) → DoesSame most lift part other → DoSame most lift parts others → DoSame most lift (also part parts) (also other others)
also_same most lift part other parts others same rest memories turns =
    ends_then lift (big_step part most memories turns) (big_step other most (memories_in lift memories) turns) (big_parts parts most) (big_parts others most) (same memories turns) rest

-- work that begins inside an owner
entering : {P Q : Type 0} (most : ℕ) (lift : Lift) (own : Memory) (part : Term P) (other : Term Q) → DoesSame most (inside lift) part other → (memories : Memories) (turns : ℕ) →
    EndsSame (inside lift) (big_step part most (own ∷ memories) turns) (big_step other most (own ∷ memories_in lift memories) turns)
entering most lift own part other same memories turns =
    subst (λ within. EndsSame (inside lift) (big_step part most (own ∷ memories) turns) (big_step other most within turns)) (entered_in lift own memories) (same (own ∷ memories) turns)

pub owning_same : {P Q : Type 0} (most : ℕ) (lift : Lift) (own : Memory) (part : Term P) (other : Term Q) → DoesSame most (inside lift) part other → DoesSame most lift (owning own part) (owning own other)
owning_same most lift own part other same memories turns =
    leaving_same lift (big_step part most (own ∷ memories) turns) (big_step other most (own ∷ memories_in lift memories) turns) (entering most lift own part other same memories turns)

-- ---- transitions

all_seen_in : (lift : Lift) (reads : List (Option Reference)) (memories : Memories) → all_seen (map (access_in lift) reads) (memories_in lift memories) ≡ all_seen reads memories
all_seen_in lift [] memories = refl
all_seen_in lift (read ∷ reads) memories = ap₂ with_value (seen_in lift read memories) (all_seen_in lift reads memories)

-- both hold, both do not, or both fail
abbrev pub VerdictSame : {P Q : Type 0} → Result Bool (Fault P) → Result Bool (Fault Q) → Type 0
VerdictSame (Ok true) (Ok true) = ⊤
VerdictSame (Ok true) (Ok false) = ⊥
VerdictSame (Ok true) (Err fault) = ⊥
VerdictSame (Ok false) (Ok true) = ⊥
VerdictSame (Ok false) (Ok false) = ⊤
VerdictSame (Ok false) (Err fault) = ⊥
VerdictSame (Err fault) (Ok held) = ⊥
VerdictSame (Err fault) (Err other) = ⊤

placed_same : {P Q : Type 0} (place : P) (place' : Q) (held : Result Bool FaultKind) → VerdictSame (placed place held) (placed place' held)
placed_same place place' (Ok true) = tt
placed_same place place' (Ok false) = tt
placed_same place place' (Err kind) = tt

pub decided_same : {P Q : Type 0} (guard : Guard P) (other : Guard Q) (values : Option (List ℤ)) → other.holds ≡ guard.holds → VerdictSame (decided guard values) (decided other values)
decided_same guard other None same = tt
decided_same guard other (Some values) same = subst (λ holds. VerdictSame (placed guard.place (guard.holds values)) (placed other.place (holds values))) (sym same) (placed_same guard.place other.place (guard.holds values))

pub passed_same : {P Q : Type 0} (lift : Lift) (when : Option (Guard P)) (other : Option (Guard Q)) (memories : Memories) → AreGuardsSame lift when other → VerdictSame (passed when memories) (passed other (memories_in lift memories))
passed_same lift None None memories same = tt
passed_same lift None (Some other) memories same = elim same [ ]
passed_same lift (Some guard) None memories same = elim same [ ]
passed_same lift (Some guard) (Some other) memories same =
    subst (λ values. VerdictSame (decided guard (all_seen guard.reads memories)) (decided other values))
    (sym (ap (λ reads. all_seen reads (memories_in lift memories)) same.0 ∙ all_seen_in lift guard.reads memories))
    (decided_same guard other (all_seen guard.reads memories) same.1)

-- both find the same exit, both none, or both fail
abbrev pub FoundSame : {P Q : Type 0} → Lift → (count : ℕ) → Result (Option (Exit P)) (Fault P) → Result (Option (Exit Q)) (Fault Q) → Type 0
FoundSame lift count (Ok None) (Ok None) = ⊤
FoundSame lift count (Ok None) (Ok (Some other)) = ⊥
FoundSame lift count (Ok None) (Err fault) = ⊥
FoundSame lift count (Ok (Some exit)) (Ok None) = ⊥
FoundSame lift count (Ok (Some exit)) (Ok (Some other)) = IsExitSame lift count exit other
FoundSame lift count (Ok (Some exit)) (Err fault) = ⊥
FoundSame lift count (Err fault) (Ok found) = ⊥
FoundSame lift count (Err fault) (Err other) = ⊤

or_later_same : {P Q : Type 0} (lift : Lift) (count : ℕ) (verdict : Result Bool (Fault P)) (other_verdict : Result Bool (Fault Q)) (exit : Exit P) (other : Exit Q)
    (later : Result (Option (Exit P)) (Fault P)) (others : Result (Option (Exit Q)) (Fault Q)) → VerdictSame verdict other_verdict → IsExitSame lift count exit other → FoundSame lift count later others →
    FoundSame lift count (or_later verdict exit later) (or_later other_verdict other others)
or_later_same lift count (Ok true) (Ok true) exit other later others verdict same rest = same
or_later_same lift count (Ok true) (Ok false) exit other later others verdict same rest = elim verdict [ ]
or_later_same lift count (Ok true) (Err fault) exit other later others verdict same rest = elim verdict [ ]
or_later_same lift count (Ok false) (Ok true) exit other later others verdict same rest = elim verdict [ ]
or_later_same lift count (Ok false) (Ok false) exit other later others verdict same rest = rest
or_later_same lift count (Ok false) (Err fault) exit other later others verdict same rest = elim verdict [ ]
or_later_same lift count (Err fault) (Ok held) exit other later others verdict same rest = elim verdict [ ]
or_later_same lift count (Err fault) (Err fault') exit other later others verdict same rest = tt

pub found_same : {P Q : Type 0} (lift : Lift) (count : ℕ) (exits : List (Exit P)) (others : List (Exit Q)) (memories : Memories) → AreExitsSame lift count exits others →
    FoundSame lift count (first_exit exits memories) (first_exit others (memories_in lift memories))
found_same lift count [] [] memories same = tt
found_same lift count [] (other ∷ others) memories same = elim same [ ]
found_same lift count (exit ∷ exits) [] memories same = elim same [ ]
found_same lift count (exit ∷ exits) (other ∷ others) memories same =
    or_later_same lift count (passed exit.when memories) (passed other.when (memories_in lift memories)) exit other (first_exit exits memories) (first_exit others (memories_in lift memories))
    (passed_same lift exit.when other.when memories same.0.when) same.0 (found_same lift count exits others memories same.1)

-- states do the same wherever the variables agree
abbrev pub StatesSame : {P Q : Type 0} → Lift → (count : ℕ) → (ℕ → Values → Memories → ℕ → Coming P) → (ℕ → Values → Memories → ℕ → Coming Q) → Type 0
StatesSame lift count run other = (state : ℕ) (values other_values : Values) → AgreeBelow count values other_values → GoesSame lift (run state values) (other state other_values)

abbrev pub TransitionsSame : {P Q : Type 0} → Lift → (count : ℕ) → (ℕ → Values → List (Exit P)) → (ℕ → Values → List (Exit Q)) → Type 0
TransitionsSame lift count exits others = (state : ℕ) (values other_values : Values) → AgreeBelow count values other_values → AreExitsSame lift count (exits state values) (others state other_values)

after_exit_same : {P Q : Type 0} (lift : Lift) (count : ℕ) (found : Result (Option (Exit P)) (Fault P)) (other : Result (Option (Exit Q)) (Fault Q)) (memories : Memories) (turns : ℕ)
    (rest : Exit P → ℕ → Coming P) (others : Exit Q → ℕ → Coming Q) → FoundSame lift count found other →
    ((exit : Exit P) (exit' : Exit Q) → IsExitSame lift count exit exit' → (turns : ℕ) → EndsSame lift (rest exit turns) (others exit' turns)) →
    EndsSame lift (after_exit found memories turns rest) (after_exit other (memories_in lift memories) turns others)
after_exit_same lift count (Ok None) (Ok None) memories turns rest others same h = refl
after_exit_same lift count (Ok None) (Ok (Some exit')) memories turns rest others same h = elim same [ ]
after_exit_same lift count (Ok None) (Err fault) memories turns rest others same h = elim same [ ]
after_exit_same lift count (Ok (Some exit)) (Ok None) memories turns rest others same h = elim same [ ]
after_exit_same lift count (Ok (Some exit)) (Ok (Some exit')) memories turns rest others same h =
    subst (λ marked. EndsSame lift (spending exit.marked turns (rest exit)) (spending marked turns (others exit'))) (sym same.marked)
    (spending_same lift exit.marked turns (rest exit) (others exit') (h exit exit' same))
after_exit_same lift count (Ok (Some exit)) (Err fault) memories turns rest others same h = elim same [ ]
after_exit_same lift count (Err fault) (Ok found) memories turns rest others same h = elim same [ ]
after_exit_same lift count (Err fault) (Err other) memories turns rest others same h = refl

pub states_same : {P Q : Type 0} (most : ℕ) (lift : Lift) (count : ℕ) (run : ℕ → Values → Memories → ℕ → Coming P) (other : ℕ → Values → Memories → ℕ → Coming Q)
    (exits : ℕ → Values → List (Exit P)) (others : ℕ → Values → List (Exit Q)) → StatesSame lift count run other → TransitionsSame lift count exits others →
    StatesSame lift count (big_states most run exits) (big_states most other others)
states_same zero lift count run other exits others runs ways state values other_values agree memories turns = refl
states_same (suc most) lift count run other exits others runs ways state values other_values agree memories turns =
    after_exit_same lift count (first_exit (exits state values) memories) (first_exit (others state other_values) (memories_in lift memories)) memories turns _ _
    (found_same lift count (exits state values) (others state other_values) memories (ways state values other_values agree))
    (λ exit exit' same turns. subst (λ state. EndsSame lift
    (and_then (run exit.state exit.values memories turns) (big_states most run exits exit.state exit.values))
    (and_then (other state exit'.values (memories_in lift memories) turns) (big_states most other others state exit'.values)))
    (sym same.state)
    (ends_then lift (run exit.state exit.values memories turns) (other exit.state exit'.values (memories_in lift memories) turns) _ _
    (runs exit.state exit.values exit'.values same.values memories turns)
    (states_same most lift count run other exits others runs ways exit.state exit.values exit'.values same.values)))

-- a run inside its owner
pub run_same : {P Q : Type 0} (most : ℕ) (lift : Lift) (count : ℕ) (body : ℕ → Values → Term P) (other_body : ℕ → Values → Term Q)
    (exits : ℕ → Values → List (Exit P)) (others : ℕ → Values → List (Exit Q)) (own : Memory) (state : ℕ) (values other_values : Values) (part : Term P) (other : Term Q) →
    StatesSame (inside lift) count (λ state values. big_step (body state values) most) (λ state values. big_step (other_body state values) most) → TransitionsSame (inside lift) count exits others →
    AgreeBelow count values other_values → DoesSame most (inside lift) part other → (memories : Memories) (turns : ℕ) →
    EndsSame (inside lift)
    (and_then (big_step part most (own ∷ memories) turns) (big_states most (λ state values. big_step (body state values) most) exits state values))
    (and_then (big_step other most (own ∷ memories_in lift memories) turns) (big_states most (λ state values. big_step (other_body state values) most) others state other_values))
run_same most lift count body other_body exits others own state values other_values part other runs ways agree same memories turns =
    ends_then (inside lift) (big_step part most (own ∷ memories) turns) (big_step other most (own ∷ memories_in lift memories) turns) _ _
    (entering most lift own part other same memories turns)
    (states_same most (inside lift) count _ _ exits others runs ways state values other_values agree)

pub nested_same : {P Q : Type 0} (most : ℕ) (lift : Lift) (count : ℕ) (body : ℕ → Values → Term P) (other_body : ℕ → Values → Term Q)
    (exits : ℕ → Values → List (Exit P)) (others : ℕ → Values → List (Exit Q)) (own : Memory) (state : ℕ) (values other_values : Values) (part : Term P) (other : Term Q) →
    StatesSame (inside lift) count (λ state values. big_step (body state values) most) (λ state values. big_step (other_body state values) most) → TransitionsSame (inside lift) count exits others →
    AgreeBelow count values other_values → DoesSame most (inside lift) part other →
    DoesSame most lift (nested body exits own state values part) (nested other_body others own state other_values other)
nested_same most lift count body other_body exits others own state values other_values part other runs ways agree same memories turns =
    leaving_same lift _ _ (run_same most lift count body other_body exits others own state values other_values part other runs ways agree same memories turns)

-- ---- pools

oldest_same : {P Q : Type 0} (lift : Lift) (values : List ℤ) (memories : Memories) (turns : ℕ) (rest : ℤ → Coming P) (others : ℤ → Coming Q) → ((value : ℤ) → EndsSame lift (rest value) (others value)) →
    EndsSame lift (after_oldest values memories turns rest) (after_oldest values (memories_in lift memories) turns others)
oldest_same lift [] memories turns rest others h = refl
oldest_same lift (value ∷ values) memories turns rest others h = h value

takes_same : {P Q : Type 0} (most : ℕ) (lift : Lift) (level container : ℕ) (run : ℤ → Memories → ℕ → Coming P) (other : ℤ → Memories → ℕ → Coming Q) → ((value : ℤ) → GoesSame lift (run value) (other value)) →
    GoesSame lift (big_takes most level container run) (big_takes most (level_in lift level) container other)
takes_same zero lift level container run other runs memories turns = refl
takes_same (suc most) lift level container run other runs memories turns =
    subst (λ values. EndsSame lift (big_takes (suc most) level container run memories turns)
    (after_oldest values (memories_in lift memories) turns (λ value. and_then (other value (apply (take (level_in lift level) container 0) (memories_in lift memories)) turns) (big_takes most (level_in lift level) container other))))
    (sym (waiting_in lift level container memories))
    (oldest_same lift (waiting level container memories) memories turns _ _
    (λ value. ends_then lift _ _ (big_takes most level container run) (big_takes most (level_in lift level) container other)
    (after_change lift (run value) (other value) (runs value) (take level container 0) memories turns)
    (takes_same most lift level container run other runs)))

pub pool_same : {P Q : Type 0} (most : ℕ) (lift : Lift) (level container : ℕ) (body : ℤ → Term P) (other : ℤ → Term Q) → ((value : ℤ) → DoesSame most lift (body value) (other value)) →
    DoesSame most lift (pool level container body idle false) (pool (level_in lift level) container other idle false)
pool_same most lift level container body other runs memories turns =
    takes_same most lift level container (λ value. big_step (body value) most) (λ value. big_step (other value) most) runs memories turns
