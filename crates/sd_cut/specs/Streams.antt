-- Streams that were cut: what work sees of them, which have to be as they were, and what comes of what is left of them.
use Rattle.std.specs.Prelude.{◌≡◌, ℕ, suc, ◌≤◌, ℤ, List, [], ◌∷◌, ◌++◌, drop, length, map, replicate, Option, Some, None, slice_get, ⊤}
use Rattle.sd_num.specs.Width.{wrapped_to}
use Rattle.sd_num.specs.declared.width.Width.{Width}
use Rattle.sd_work.specs.Memory.{waiting}
use Rattle.sd_work.specs.Change.{Change, push, take}
use Rattle.sd_pieces.specs.cut.Merged.{StreamMark, unused, drained, appended}
use Rattle.sd_mem.specs.mem.Shaped.{Shaped, alone}
use Rattle.sd_cut.specs.declared.streams.CutStream.{CutStream}
use Rattle.sd_cut.specs.declared.streams.StreamUse.{StreamUse}
use Rattle.sd_cut.specs.declared.streams.StreamUse.TheVariants.{Unused, Drained, Appended}

-- ---- what work sees

-- what was not taken yet of what was cut, and then what was pushed since
abbrev pub stream_seen : CutStream → (pushed : List ℤ) → List ℤ
stream_seen stream pushed = drop stream.taken stream.opening ++ pushed

-- the next value of what was cut, if one is left
abbrev pub next_cut : CutStream → Option ℤ
next_cut stream = slice_get stream.opening stream.taken

-- no more were taken than were there
abbrev pub IsTakenWithin : Option CutStream → Type 0
IsTakenWithin None = ⊤
IsTakenWithin (Some stream) = stream.taken ≤ length stream.opening

-- ---- how it is used

-- one more, where there was one
abbrev pub one_more : Option ℤ → ℕ → ℕ
one_more None taken = taken
one_more (Some value) taken = suc taken

-- the next value was taken from it, or it was seen that none is there
abbrev pub stream_taken : CutStream → CutStream
stream_taken stream = record { opening = stream.opening; taken = one_more (next_cut stream) stream.taken; usage = Drained }

-- all of what was cut counts as taken
abbrev pub stream_drained : CutStream → CutStream
stream_drained stream = record { opening = stream.opening; taken = length stream.opening; usage = Drained }

-- values are appended: what was not used is appended to
abbrev pub appended_use : StreamUse → StreamUse
appended_use Unused = Appended
appended_use Drained = Drained
appended_use Appended = Appended

abbrev pub stream_appended : CutStream → CutStream
stream_appended stream = record { opening = stream.opening; taken = stream.taken; usage = appended_use stream.usage }

-- ---- what has to be as it was

-- what is asked where a stream is drained
abbrev pub IfDrained : StreamUse → Type 0 → Type 0
IfDrained Unused asked = ⊤
IfDrained Drained asked = asked
IfDrained Appended asked = ⊤

-- a drained stream has the values that it had
abbrev pub IsStreamAsCut : (values : List ℤ) → Option CutStream → Type 0
IsStreamAsCut values None = ⊤
IsStreamAsCut values (Some stream) = IfDrained stream.usage (values ≡ stream.opening)

-- and so has each of these, by the containers' numbers from this one on
abbrev pub AreStreamsAsCut : Shaped → (container : ℕ) → List (Option CutStream) → Type 0
AreStreamsAsCut memory container [] = ⊤
AreStreamsAsCut memory container (stream ∷ streams) = IsStreamAsCut (waiting 0 container (alone memory)) stream × AreStreamsAsCut memory (suc container) streams

-- ---- what comes of it

-- what was pushed since counts where the stream was used
abbrev pub pushed_by : StreamUse → (pushed : List ℤ) → List ℤ
pushed_by Unused pushed = []
pushed_by Drained pushed = pushed
pushed_by Appended pushed = pushed

abbrev pub pushed_of : Option CutStream → (pushed : List ℤ) → List ℤ
pushed_of None pushed = []
pushed_of (Some stream) pushed = pushed_by stream.usage pushed

-- and what was taken of what was cut where it was drained
abbrev pub taken_by : StreamUse → (taken : ℕ) → ℕ
taken_by Unused taken = 0
taken_by Drained taken = taken
taken_by Appended taken = 0

abbrev pub taken_of : Option CutStream → ℕ
taken_of None = 0
taken_of (Some stream) = taken_by stream.usage stream.taken

-- the pushes of each stream, by the containers' numbers from this one on; what was pushed is in a memory of the cut
abbrev pub all_pushes : (container : ℕ) → (left : Shaped) → List (Option CutStream) → List Change
all_pushes container left [] = []
all_pushes container left (stream ∷ streams) = map (push 0 container) (pushed_of stream (waiting 0 container (alone left))) ++ all_pushes (suc container) left streams

-- as many oldest values of each stream are taken, by the containers' numbers from this one on
abbrev pub all_takes : (container : ℕ) → List (Option CutStream) → List Change
all_takes container [] = []
all_takes container (stream ∷ streams) = replicate (taken_of stream) (take 0 container 0) ++ all_takes (suc container) streams

-- what a stream of a width with these values comes to
abbrev pub stream_becomes : Width → Option CutStream → (pushed values : List ℤ) → List ℤ
stream_becomes width stream pushed values = drop (taken_of stream) (values ++ map (wrapped_to width) (pushed_of stream pushed))

-- ---- how it is marked

abbrev pub stream_mark : StreamUse → StreamMark
stream_mark Unused = unused
stream_mark Drained = drained
stream_mark Appended = appended

-- the mark of a stream that was cut, if it was
abbrev pub stream_mark_if : Option CutStream → StreamMark
stream_mark_if None = unused
stream_mark_if (Some stream) = stream_mark stream.usage
