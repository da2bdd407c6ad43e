-- The lines of a chain file, one after another.
use Rattle.std.proofs.Common.{◌≡◌, ℕ, suc, ◌+◌, ◌-◌, ◌<◌, ◌≤◌, List, [], ◌∷◌, ◌++◌, length, Option, Some, None, Result, Ok, Err, refl, ap, sym, ◌∙◌, arith, append_assoc, append-nil, length-append, add-one}
use Rattle.sd_chain.specs.Parts.{parts, parts_left, IsFirstPart}
use Rattle.sd_chain.specs.Chain.{line_of, steps_of, with_line, room_behind, chain_reading}
use Rattle.sd_chain.specs.declared.step.Step.{Step}
use Rattle.sd_chain.specs.declared.line.Line.{Line}
use Rattle.sd_chain.specs.declared.line.Line.TheVariants.{Nothing, Does, NoForm}

-- how much of a text is left: one more than the bytes, where a line is
abbrev pub left_of : Option (List ℕ) → ℕ
left_of None = 0
left_of (Some rest) = suc (length rest)

pub less_left : (from part : List ℕ) (rest : Option (List ℕ)) → IsFirstPart 10 from part rest → left_of rest < left_of (Some from)
less_left from part None first = omega arith
less_left from part (Some rest) first = let shorter = first.shorter in omega arith

-- steps that were read before the others
abbrev pub behind : (read : List (ℕ × Step)) → Result (List (ℕ × Step)) ℕ → Result (List (ℕ × Step)) ℕ
behind read (Ok steps) = Ok (read ++ steps)
behind read (Err number) = Err number

behind-none : (reading : Result (List (ℕ × Step)) ℕ) → reading ≡ behind [] reading
behind-none (Ok steps) = refl
behind-none (Err number) = refl

pub chain_begins : (text : List ℕ) → chain_reading text ≡ behind [] (steps_of 1 256 (parts 10 text))
chain_begins text = behind-none (chain_reading text)

behind-push : (read : List (ℕ × Step)) (number room : ℕ) (step : Step) (later : Result (List (ℕ × Step)) ℕ) → behind read (with_line number (suc room) (Does step) later) ≡ behind (read ++ (number, step) ∷ []) later
behind-push read number room step (Ok steps) = ap Ok (sym (append_assoc read ((number, step) ∷ []) steps))
behind-push read number room step (Err other) = refl

-- the first line of what is left
first_line : (read : List (ℕ × Step)) (number room : ℕ) (from line : List ℕ) (rest : Option (List ℕ)) (asks : Line) → IsFirstPart 10 from line rest → asks ≡ line_of line
    → behind read (steps_of number room (parts 10 from)) ≡ behind read (with_line number room asks (steps_of (suc number) (room_behind asks room) (parts_left 10 rest)))
first_line read number room from line rest asks first is =
    ap (λ lines. behind read (steps_of number room lines)) first.parted
    ∙ ap (λ asks. behind read (with_line number room asks (steps_of (suc number) (room_behind asks room) (parts_left 10 rest)))) (sym is)

pub blank_goes_on : (all : Result (List (ℕ × Step)) ℕ) (read : List (ℕ × Step)) (number room : ℕ) (from line : List ℕ) (rest : Option (List ℕ)) → IsFirstPart 10 from line rest → Nothing ≡ line_of line
    → all ≡ behind read (steps_of number room (parts 10 from)) → all ≡ behind read (steps_of (number + 1) room (parts_left 10 rest))
blank_goes_on all read number room from line rest first is so_far =
    so_far ∙ first_line read number room from line rest Nothing first is ∙ ap (λ n. behind read (steps_of n room (parts_left 10 rest))) (sym (add-one number))

roomy : (read : List (ℕ × Step)) (number room : ℕ) (from line : List ℕ) (rest : Option (List ℕ)) (step : Step) → IsFirstPart 10 from line rest → Does step ≡ line_of line
    → behind read (steps_of number (suc room) (parts 10 from)) ≡ behind (read ++ (number, step) ∷ []) (steps_of (suc number) room (parts_left 10 rest))
roomy read number room from line rest step first is =
    first_line read number (suc room) from line rest (Does step) first is ∙ behind-push read number room step (steps_of (suc number) room (parts_left 10 rest))

pub step_goes_on : (all : Result (List (ℕ × Step)) ℕ) (read : List (ℕ × Step)) (number : ℕ) (from line : List ℕ) (rest : Option (List ℕ)) (step : Step) → IsFirstPart 10 from line rest → Does step ≡ line_of line → length read < 256
    → all ≡ behind read (steps_of number (256 - length read) (parts 10 from))
    → all ≡ behind (read ++ (number, step) ∷ []) (steps_of (number + 1) (256 - length (read ++ (number, step) ∷ [])) (parts_left 10 rest))
step_goes_on all read number from line rest step first is few so_far =
    let more : 256 - length read ≡ suc (256 - length (read ++ (number, step) ∷ [])) = omega (arith, length-append read ((number, step) ∷ [])) in
    so_far ∙ ap (λ room. behind read (steps_of number room (parts 10 from))) more
    ∙ roomy read number (256 - length (read ++ (number, step) ∷ [])) from line rest step first is
    ∙ ap (λ n. behind (read ++ (number, step) ∷ []) (steps_of n (256 - length (read ++ (number, step) ∷ [])) (parts_left 10 rest))) (sym (add-one number))

pub form_refused : (all : Result (List (ℕ × Step)) ℕ) (read : List (ℕ × Step)) (number room : ℕ) (from line : List ℕ) (rest : Option (List ℕ)) → IsFirstPart 10 from line rest → NoForm ≡ line_of line
    → all ≡ behind read (steps_of number room (parts 10 from)) → all ≡ Err number
form_refused all read number room from line rest first is so_far = so_far ∙ first_line read number room from line rest NoForm first is

pub many_refused : (all : Result (List (ℕ × Step)) ℕ) (read : List (ℕ × Step)) (number : ℕ) (from line : List ℕ) (rest : Option (List ℕ)) (step : Step) → IsFirstPart 10 from line rest → Does step ≡ line_of line → 256 ≤ length read
    → all ≡ behind read (steps_of number (256 - length read) (parts 10 from)) → all ≡ Err number
many_refused all read number from line rest step first is many so_far =
    let none : 256 - length read ≡ 0 = omega (arith, many) in
    so_far ∙ ap (λ room. behind read (steps_of number room (parts 10 from))) none ∙ first_line read number 0 from line rest (Does step) first is

pub chain_ends : (all : Result (List (ℕ × Step)) ℕ) (read : List (ℕ × Step)) (number room : ℕ) → all ≡ behind read (steps_of number room []) → all ≡ Ok read
chain_ends all read number room so_far = so_far ∙ ap Ok (append-nil read)

pub ruleset line_steps = (chain_begins, blank_goes_on, step_goes_on, form_refused, many_refused, chain_ends, less_left)
