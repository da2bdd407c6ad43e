-- What the reading of a line tells of the numbers that stand against it.
use Rattle.std.proofs.Common.{◌≡◌, ◌≤◌, ℕ, zero, suc, ◌+◌, List, [], ◌∷◌, Bool, true, false, ◌||◌, nat_eq, nat_lt, min, if◌then◌else◌, Option, Some, None, Result, Ok, Err, ◌⊎◌, inl, inr, refl, sym, subst, arith}
use Rattle.std.specs.Bool.{⊤}
use Rattle.std.proofs.lemmas.Bool.{eqb-true, eq-eqb}
use Rattle.sd_line.specs.line.Head.{HeadTree}
use Rattle.sd_phrase.specs.declared.reading.Reading.{Reading}
use Rattle.sd_phrase.specs.declared.reading.Reading.TheVariants.{NoForm, TooDeep, Form}
use Rattle.sd_refusal.specs.NotAForm.{is_program}
use Rattle.sd_refusal.specs.declared.site.Counts.{Counts}
use Rattle.sd_context.specs.declared.context.awaiting.Wanted.{Wanted}
use Rattle.sd_context.specs.context.After.{context_after}
use Rattle.sd_context.specs.context.Awaiting.{comes_right, wrong_number, wanted_of}
use Rattle.sd_context.specs.context.Context.{Context, site_of}
use Rattle.sd_context.specs.declared.blocks.refusal.Refusal.{Refusal}
use Rattle.sd_context.specs.blocks.Closing.{Step, and_then, state_counted, states_behind, states_counted, with_counts, with_states, late_states, closed, closed_into, closed_times}
use Rattle.sd_context.specs.blocks.Continuing.{goes_on, left, with_branch_state, continued_by, next_branch}
use Rattle.sd_context.specs.blocks.Judging.{refused, against, least, accepted, judged_all, judged_from, steps_of}
use Rattle.sd_source.specs.source.LineReading.{by_tokens, behind_last_block, behind_blocks, said, line_read}
use Rattle.sd_line.specs.lines.Lines.{Line, opens_tasklet}
use Rattle.sd_read.specs.decided.Standing.{IsLeast, stands_against_head, stands_against_heads, continues_in, continues, behind_last, place_behind, is_in_place, stands_in, stands_at, place_of, stands_against}
use Rattle.sd_read.proofs.decided_lemmas.Numbers.{Agrees, never, by_or, agrees_same, head_agrees}

-- a step is refused with the least number that stands, or none does
abbrev pub Tells : (line : ℕ) → (ℕ → Bool) → Step → Type 0
Tells line stands (Ok next) = (n : ℕ) → stands n ≡ false
Tells line stands (Err refusal) = (refusal.line ≡ line) × IsLeast stands refusal.number

-- or a state is one too many
abbrev pub TellsOr : (line : ℕ) → (ℕ → Bool) → (place : Step) → Step → Type 0
TellsOr line stands place (Ok next) = (n : ℕ) → stands n ≡ false
TellsOr line stands place (Err refusal) = ((refusal.line ≡ line) × IsLeast stands refusal.number) ⊎ ((refusal.number ≡ 8) × (place ≡ Err refusal))

tells_or : (line : ℕ) (stands : ℕ → Bool) (place step : Step) → Tells line stands step → TellsOr line stands place step
tells_or line stands place (Ok next) tells = tells
tells_or line stands place (Err refusal) tells = inl tells

-- a refusal here is one of a state too many
abbrev pub Eight : {A : Type 0} → Result A Refusal → Type 0
Eight (Ok value) = ⊤
Eight (Err refusal) = refusal.number ≡ 8

eight-test : (test : Bool) (counts : Counts) (line : ℕ) →
    Eight (if test then Err (record { number = 8; line = line }) else Ok counts)
eight-test true counts line = refl
eight-test false counts line = tt

eight-state : (counts : Counts) (line : ℕ) → Eight (state_counted counts line)
eight-state counts line = eight-test (nat_lt 255 counts.states) (record counts { states = counts.states + 1 }) line

eight-behind : (one : Result Counts Refusal) (rest : Counts → Result Counts Refusal) → Eight one → ((counts : Counts) → Eight (rest counts)) → Eight (states_behind one rest)
eight-behind (Ok counts) rest first second = second counts
eight-behind (Err refusal) rest first second = first

eight-states : (lines : List ℕ) (counts : Counts) → Eight (states_counted counts lines)
eight-states [] counts = tt
eight-states (line ∷ lines) counts =
    eight-behind (state_counted counts line) (λ next. states_counted next lines) (eight-state counts line) (λ next. eight-states lines next)

eight-with : (context : Context) (counts : Result Counts Refusal) → Eight counts → Eight (with_counts context counts)
eight-with context (Ok counts) eight = tt
eight-with context (Err refusal) eight = eight

eight-then : (step : Step) (next : Context → Step) → Eight step → ((context : Context) → Eight (next context)) → Eight (and_then step next)
eight-then (Ok context) next first second = second context
eight-then (Err refusal) next first second = first

eight-with_states : (context : Context) (lines : List ℕ) → Eight (with_states context lines)
eight-with_states context lines = eight-with context (states_counted context.counts lines) (eight-states lines context.counts)

eight-closed : (context : Context) → Eight (closed context)
eight-closed context = eight-then (with_states context (late_states context.block)) (λ next. Ok (closed_into next.outer next)) (eight-with_states context (late_states context.block)) (λ next. tt)

pub eight-times : (n : ℕ) (context : Context) → Eight (closed_times n context)
eight-times zero context = tt
eight-times (suc n) context = eight-then (closed context) (closed_times n) (eight-closed context) (λ next. eight-times n next)

eight-if : (test : Bool) (context : Context) (lines : List ℕ) → Eight (if test then with_states context lines else Ok context)
eight-if true context lines = eight-with_states context lines
eight-if false context lines = tt

eight-branch : (context : Context) → Eight (with_branch_state context.block context)
eight-branch context = eight-if (is_program context.block.kind) context (context.block.line ∷ [])

-- of two options the lesser
false_or : (a b : Bool) → a ≡ false → b ≡ a || b
false_or true b is = never (sym is)
false_or false b is = refl

or_false : (a b : Bool) → b ≡ false → a ≡ a || b
or_false true b is = refl
or_false false b is = sym is

or_true : (a b : Bool) → b ≡ true → a || b ≡ true
or_true true b is = refl
or_true false b is = is

true_or' : (a b : Bool) → a ≡ true → a || b ≡ true
true_or' true b is = refl
true_or' false b is = never is

or_assoc' : (a b c : Bool) → (a || b) || c ≡ a || (b || c)
or_assoc' true b c = refl
or_assoc' false b c = refl

min_is : (a b : ℕ) → (min a b ≡ a) ⊎ (min a b ≡ b)
min_is a b = grind arith

min_one : (a b n : ℕ) → a ≤ n → min a b ≤ n
min_one a b n less = grind arith

min_other : (a b n : ℕ) → b ≤ n → min a b ≤ n
min_other a b n less = grind arith

by_min : (P : ℕ → Type 0) (a b : ℕ) → P a → P b → (min a b ≡ a) ⊎ (min a b ≡ b) → P (min a b)
by_min P a b one two (inl is) = subst P (sym is) one
by_min P a b one two (inr is) = subst P (sym is) two

agrees_least : (a b : Option ℕ) (one two : ℕ → Bool) → Agrees a one → Agrees b two → Agrees (least a b) (λ n. one n || two n)
agrees_least None b one two first second = agrees_same b two (λ n. one n || two n) (λ n. false_or (one n) (two n) (first n)) second
agrees_least (Some a) None one two first second = agrees_same (Some a) one (λ n. one n || two n) (λ n. or_false (one n) (two n) (second n)) first
agrees_least (Some a) (Some b) one two first second = (
  by_min (λ n. one n || two n ≡ true) a b (true_or' (one a) (two a) first.0) (or_true (one b) (two b) second.0) (min_is a b),
  λ n is. by_or (one n) (two n) is (λ is. min_one a b n (first.1 n is)) (λ is. min_other a b n (second.1 n is)),
)

agrees_all : (line : ℕ) (is_tasklet : Bool) (heads : List HeadTree) (so_far : Option ℕ) (context : Context) (before : ℕ → Bool) → Agrees so_far before →
    Agrees (judged_all line is_tasklet (so_far, context) heads).0 (λ n. before n || stands_against_heads line is_tasklet context heads n)
agrees_all line is_tasklet [] so_far context before agree = agrees_same so_far before (λ n. before n || false) (λ n. or_false (before n) false refl) agree
agrees_all line is_tasklet (head ∷ heads) so_far context before agree =
    let now : ℕ → Bool = stands_against_head context.names (site_of context) head in
    let next = context_after context line is_tasklet head in
    let rest : ℕ → Bool = stands_against_heads line is_tasklet next heads in
    let number = least so_far (against context head) in
    agrees_same (judged_all line is_tasklet (number, next) heads).0 (λ n. (before n || now n) || rest n) (λ n. before n || (now n || rest n))
    (λ n. or_assoc' (before n) (now n) (rest n))
    (agrees_all line is_tasklet heads number next (λ n. before n || now n)
    (agrees_least so_far (against context head) before now agree (head_agrees context.names (site_of context) head).0))

tells-accepted : (number : Option ℕ) (line : ℕ) (context : Context) (stands : ℕ → Bool) → Agrees number stands → Tells line stands (accepted number line context)
tells-accepted None line context stands agree = agree
tells-accepted (Some number) line context stands agree = (refl, agree)

tells-judged : (line : ℕ) (is_tasklet : Bool) (context : Context) (heads : List HeadTree) →
    Tells line (stands_against_heads line is_tasklet context heads) (judged_from None context line is_tasklet heads)
tells-judged line is_tasklet context heads =
    let judgement = judged_all line is_tasklet (None, context) heads in
    tells-accepted judgement.0 line judgement.1 (stands_against_heads line is_tasklet context heads)
    (agrees_all line is_tasklet heads None context (λ n. false) (λ n. refl))

only_one : (k n : ℕ) → nat_eq n k ≡ true → k ≤ n
only_one k n is = at (eqb-true n k is) where
  at : n ≡ k → k ≤ n
  at same = grind arith

least_one : (k : ℕ) → IsLeast (λ n. nat_eq n k) k
least_one k = (eq-eqb k k refl, only_one k)

tells-if : (line : ℕ) (test : Bool) (s t : ℕ → Bool) (a b : Step) → Tells line s a → Tells line t b → Tells line (λ n. if test then s n else t n) (if test then a else b)
tells-if line true s t a b first second = first
tells-if line false s t a b first second = second

tells-tokens : (wanted : Wanted) (number : ℕ) (rest : List Line) (context : Context) (read : Reading HeadTree) →
    Tells number (stands_in false wanted number rest context read) (by_tokens wanted number rest context read)
tells-tokens wanted number rest context NoForm = (refl, least_one 4)
tells-tokens wanted number rest context TooDeep = (refl, least_one 8)
tells-tokens wanted number rest context (Form head) =
    tells-if number (is_in_place false wanted head) (stands_against_heads number (opens_tasklet head rest) context (steps_of head)) (λ n. nat_eq n 4)
    (judged_from None context number (opens_tasklet head rest) (steps_of head)) (refused 4 number) (tells-judged number (opens_tasklet head rest) context (steps_of head)) (refl, least_one 4)

-- behind blocks that end
tells-off : (wanted : Wanted) (number : ℕ) (rest : List Line) (read : Reading HeadTree) (step : Step) → Eight step →
    TellsOr number (stands_at false wanted number rest step read) step (and_then step (λ next. by_tokens wanted number rest next read))
tells-off wanted number rest read (Ok context) eight =
    tells_or number (stands_in false wanted number rest context read) (Ok context) (by_tokens wanted number rest context read) (tells-tokens wanted number rest context read)
tells-off wanted number rest read (Err refusal) eight = inr (eight, refl)

tells-next : (wanted : Wanted) (number : ℕ) (rest : List Line) (head : HeadTree) (last context : Context) →
    Tells number (stands_in true wanted number rest context (Form head)) (accepted (against context head) number (next_branch last.block number head context))
tells-next wanted number rest head last context =
    tells-accepted (against context head) number (next_branch last.block number head context) (stands_in true wanted number rest context (Form head))
    (agrees_same (against context head) (stands_against_head context.names (site_of context) head) (stands_in true wanted number rest context (Form head))
    (λ n. or_false (stands_against_head context.names (site_of context) head n) false refl) (head_agrees context.names (site_of context) head).0)

tells-on : (wanted : Wanted) (number : ℕ) (rest : List Line) (head : HeadTree) (last : Context) (step : Step) → Eight step →
    TellsOr number (stands_at true wanted number rest (and_then step (λ next. Ok (left next.outer next))) (Form head)) (and_then step (λ next. Ok (left next.outer next)))
    (and_then step (λ next. accepted (against (left next.outer next) head) number (next_branch next.block number head (left next.outer next))))
tells-on wanted number rest head last (Ok next) eight =
    let context = left next.outer next in
    tells_or number (stands_in true wanted number rest context (Form head)) (Ok context) (accepted (against context head) number (next_branch next.block number head context))
    (tells-next wanted number rest head next context)
tells-on wanted number rest head last (Err refusal) eight = inr (eight, refl)

tells-form : (on : Bool) (wanted : Wanted) (number : ℕ) (rest : List Line) (head : HeadTree) (last : Context) →
    TellsOr number (stands_at on wanted number rest (if on then and_then (with_branch_state last.block last) (λ next. Ok (left next.outer next)) else closed last) (Form head))
    (if on then and_then (with_branch_state last.block last) (λ next. Ok (left next.outer next)) else closed last)
    (if on then continued_by number last (Form head) else and_then (closed last) (λ next. by_tokens wanted number rest next (Form head)))
tells-form true wanted number rest head last = tells-on wanted number rest head last (with_branch_state last.block last) (eight-branch last)
tells-form false wanted number rest head last = tells-off wanted number rest (Form head) (closed last) (eight-closed last)

tells-last : (wanted : Wanted) (number : ℕ) (rest : List Line) (read : Reading HeadTree) (last : Context) →
    TellsOr number (stands_at (goes_on read last.block.opener) wanted number rest (behind_last read last) read) (behind_last read last) (behind_last_block wanted number rest read last)
tells-last wanted number rest NoForm last = tells-off wanted number rest NoForm (closed last) (eight-closed last)
tells-last wanted number rest TooDeep last = tells-off wanted number rest TooDeep (closed last) (eight-closed last)
tells-last wanted number rest (Form head) last = tells-form (goes_on (Form head) last.block.opener) wanted number rest head last

tells-times : (wanted : Wanted) (number : ℕ) (rest : List Line) (read : Reading HeadTree) (step : Step) → Eight step →
    TellsOr number (stands_at (continues_in step read) wanted number rest (and_then step (behind_last read)) read) (and_then step (behind_last read))
    (and_then step (behind_last_block wanted number rest read))
tells-times wanted number rest read (Ok last) eight = tells-last wanted number rest read last
tells-times wanted number rest read (Err refusal) eight = inr (eight, refl)

tells-blocks : (wanted : Wanted) (number : ℕ) (rest : List Line) (read : Reading HeadTree) (closes : ℕ) (context : Context) →
    TellsOr number (stands_at (continues closes read context) wanted number rest (place_behind closes read context) read) (place_behind closes read context)
    (behind_blocks wanted number rest read closes context)
tells-blocks wanted number rest read zero context =
    tells_or number (stands_in false wanted number rest context read) (Ok context) (by_tokens wanted number rest context read) (tells-tokens wanted number rest context read)
tells-blocks wanted number rest read (suc n) context = tells-times wanted number rest read (closed_times n context) (eight-times n context)

tells-or-if : (line : ℕ) (test : Bool) (s t : ℕ → Bool) (place a b : Step) → TellsOr line s place a → TellsOr line t place b →
    TellsOr line (λ n. if test then s n else t n) place (if test then a else b)
tells-or-if line true s t place a b first second = first
tells-or-if line false s t place a b first second = second

-- of each line
pub tells-line : (context : Context) (line : Line) (rest : List Line) →
    TellsOr line.number (stands_against context line rest) (place_of context line) (line_read context line rest)
tells-line context line rest =
    let read = said context line in
    let wanted = wanted_of context.awaited in
    let wrong = wrong_number read in
    tells-or-if line.number (comes_right context.awaited line.opens line.closes)
    (stands_at (continues line.closes read context) wanted line.number rest (place_of context line) read) (λ n. nat_eq n wrong) (place_of context line)
    (behind_blocks wanted line.number rest read line.closes context) (refused wrong line.number)
    (tells-blocks wanted line.number rest read line.closes context) (inl (refl, least_one wrong))
